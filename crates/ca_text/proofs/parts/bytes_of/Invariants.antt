use Rattle.std.proofs.Common.{◌≡◌, take}
use Rattle.ca_text.proofs.parts.bytes_of.Given as goal

abbrev pub invariant-loop-point : goal.invariant-loop-point
invariant-loop-point l = l.bytes.items ≡ take l.point-index l.points
