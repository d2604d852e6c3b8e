use Rattle.std.proofs.Common.{◌≡◌, ◌≤◌, length}
use Rattle.ca_text.specs.Inner.Reading.{digits_after}
use Rattle.ca_text.proofs.scan.digits.Given as goal

abbrev pub invariant-loop-rest : goal.invariant-loop-rest
invariant-loop-rest l = record {
  read : digits_after l.most l.number l.rest ≡ digits_after l.most 0 l.bytes;
  bounded : l.number ≤ l.most;
}

abbrev pub decreases-loop-rest : goal.decreases-loop-rest
decreases-loop-rest l = length l.rest
