use Rattle.std.proofs.Common.{◌≤◌, ◌+◌, length, drop}
use Rattle.ca_cmd.proofs.Keeping.{IsReadTo}
use Rattle.ca_cmd.proofs.part.read_part.Given as goal

abbrev pub invariant-loop-rest : goal.invariant-loop-rest
invariant-loop-rest l = record {
  read : IsReadTo l.before (drop l.from l.file) l.file l.held l.number l.rest;
  few : l.held.adding + l.before ≤ l.number;
  fewer : l.number + length l.rest ≤ length l.file;
}

abbrev pub decreases-loop-rest : goal.decreases-loop-rest
decreases-loop-rest l = length l.rest
