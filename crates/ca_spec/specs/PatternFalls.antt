-- Each part of a pattern has fewer nodes than the pattern.
use Rattle.std.specs.Prelude.{◌≤◌, max}
use Rattle.std.proofs.Common.{arith}
use Rattle.ca_term.specs.Tree.{nodes}
use Rattle.ca_spec.specs.PatternView.{tree_of_shape, IsShape}
use Rattle.ca_spec.specs.Parts.{most_le-row, most_le-list, tail_le-list}
use Rattle.ca_spec.specs.declared.pattern.Shape.{Shape}
use Rattle.ca_spec.specs.declared.pattern.Shape.TheVariants as shape
use Rattle.ca_spec.specs.declared.pattern.Pattern.TheDeep.{deep-Shape}

pub deep_le-nodes : (s : Shape) → IsShape s → max (deep-Shape s) 0 ≤ nodes (tree_of_shape s)
deep_le-nodes shape.Anything kept = omega arith
deep_le-nodes (shape.Variable number) kept = omega arith
deep_le-nodes (shape.Equal term) kept = omega arith
deep_le-nodes (shape.Tuple parts) kept = omega (arith, most_le-row parts.items)
deep_le-nodes (shape.List heads tail) kept = omega (arith, kept, most_le-list heads.items tail.value, tail_le-list heads.items tail.value)
