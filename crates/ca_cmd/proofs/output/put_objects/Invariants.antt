use Rattle.std.proofs.Common.{◌≡◌, ◌++◌, flat_map, take}
use Rattle.ca_text.specs.Written.{BeginsWith}
use Rattle.ca_cmd.specs.Output.{object_line}
use Rattle.ca_cmd.proofs.output.put_objects.Given as goal

abbrev pub invariant-loop-object : goal.invariant-loop-object
invariant-loop-object l = record {
  text : l.into.items ≡ l.initial.into.items ++ flat_map object_line (take l.object-index l.table);
  front : BeginsWith l.into.items l.initial.into.items;
}
