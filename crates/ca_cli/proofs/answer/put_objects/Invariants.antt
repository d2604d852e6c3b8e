use Rattle.std.proofs.Common.{◌≡◌, ◌++◌, flat_map, take}
use Rattle.ca_cmd.specs.Output.{object_line}
use Rattle.ca_cli.proofs.answer.put_objects.Given as goal

-- the objects so far
abbrev pub invariant-loop-at : goal.invariant-loop-at
invariant-loop-at l = l.into.items ≡ l.initial.into.items ++ flat_map object_line (take l.at l.table)
