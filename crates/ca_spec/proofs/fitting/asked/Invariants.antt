-- What was passed over so far is not asked for.
use Rattle.std.proofs.Common.{length}
use Rattle.ca_spec.specs.PartBound.{IsAsked}
use Rattle.ca_spec.proofs.fitting.asked.Given as goal

abbrev pub invariant-loop-last : goal.invariant-loop-last
invariant-loop-last l = IsAsked l.parts l.front

abbrev pub decreases-loop-last : goal.decreases-loop-last
decreases-loop-last l = length l.front
