-- So far all was the same.
use Rattle.ca_order.proofs.ByteOrder.{AreAlikeInFront}
use Rattle.ca_order.proofs.codes.order_of_front_behind.Given as goal

abbrev pub invariant-loop : goal.invariant-loop
invariant-loop l = AreAlikeInFront l.bytes l.others l.left l.right
