-- So far all was the same.
use Rattle.ca_order.proofs.ByteOrder.{AreAlike}
use Rattle.ca_order.proofs.codes.order_behind.Given as goal

abbrev pub invariant-loop : goal.invariant-loop
invariant-loop l = AreAlike l.bytes l.others l.left l.right
