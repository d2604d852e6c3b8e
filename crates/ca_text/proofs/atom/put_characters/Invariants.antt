use Rattle.std.proofs.Common.{◌≡◌, ◌++◌, flat_map}
use Rattle.ca_text.specs.Text.{escaped_char}
use Rattle.ca_text.proofs.atom.put_characters.Given as goal

abbrev pub invariant-loop-c : goal.invariant-loop-c
invariant-loop-c l = l.into.items ≡ l.initial.into.items ++ flat_map escaped_char l.yielded
