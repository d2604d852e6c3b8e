-- The cells up to here are counted.
use Rattle.std.proofs.Common.{◌≡◌}
use Rattle.ca_match.specs.Operators.{list_length}
use Rattle.ca_match.specs.ValueView.{counted_from}
use Rattle.ca_match.proofs.part.length_behind.Given as goal

abbrev pub invariant-loop-tail : goal.invariant-loop-tail
invariant-loop-tail l = counted_from 1 (list_length l.fn.tail) ≡ counted_from l.length (list_length l.rest)
