use Rattle.std.proofs.Common.{length, ◌-◌, ◌≤◌}
use Rattle.std.specs.Io.KnownBytes.{Consumes}
use Rattle.ca_outside.proofs.dir_shelf.read_whole.Given as goal

abbrev pub invariant-loop-count : goal.invariant-loop-count
invariant-loop-count g l = record {
  fits : length l.into.items ≤ l.room;
  consumed : Consumes (g.F.Read.remaining l.initial.file) (g.F.Read.remaining l.file) l.into.items;
}

abbrev pub decreases-loop-count : goal.decreases-loop-count
decreases-loop-count g l = l.room - length l.into.items
