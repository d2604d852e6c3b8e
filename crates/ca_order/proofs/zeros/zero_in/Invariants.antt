-- So far there was no zero byte.
use Rattle.std.proofs.Common.{take}
use Rattle.ca_order.specs.Zeros.{HasNoZero}
use Rattle.ca_order.proofs.zeros.zero_in.Given as goal

abbrev pub invariant-loop-at : goal.invariant-loop-at
invariant-loop-at l = HasNoZero (take l.at l.bytes)
