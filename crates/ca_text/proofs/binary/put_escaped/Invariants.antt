use Rattle.std.proofs.Common.{◌≡◌, ◌++◌, flat_map, take}
use Rattle.ca_text.specs.Text.{escaped_byte}
use Rattle.ca_text.proofs.binary.put_escaped.Given as goal

abbrev pub invariant-loop-b : goal.invariant-loop-b
invariant-loop-b l = l.into.items ≡ l.initial.into.items ++ flat_map escaped_byte (take l.b-index l.bytes)
