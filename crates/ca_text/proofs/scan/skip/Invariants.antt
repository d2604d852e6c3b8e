use Rattle.std.proofs.Common.{◌≡◌, ◌≤◌, length}
use Rattle.ca_text.specs.Grammar.{skip}
use Rattle.ca_text.proofs.scan.skip.Given as goal

abbrev pub invariant-loop-rest : goal.invariant-loop-rest
invariant-loop-rest l = record { value : skip l.rest ≡ skip l.bytes; within : length l.rest ≤ length l.bytes }

abbrev pub decreases-loop-rest : goal.decreases-loop-rest
decreases-loop-rest l = length l.rest
