use Rattle.std.proofs.Common.{◌≡◌, ◌++◌, flat_map, take}
use Rattle.std.specs.Prelude.{codes, decimal}
use Rattle.ca_text.proofs.binary.put_numbers.Given as goal

abbrev pub invariant-loop-b : goal.invariant-loop-b
invariant-loop-b l = l.into.items ≡ l.initial.into.items ++ flat_map (λ n. codes "," ++ decimal n) (take l.b-index l.bytes)
