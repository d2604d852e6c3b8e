-- Each part of an expression has fewer nodes than the expression.
use Rattle.std.specs.Prelude.{◌≤◌, max}
use Rattle.std.proofs.Common.{arith}
use Rattle.ca_term.specs.Tree.{nodes}
use Rattle.ca_spec.specs.ExpressionView.{tree_of_form, IsForm}
use Rattle.ca_spec.specs.Parts.{most_le-row, most_le-list, tail_le-list}
use Rattle.ca_spec.specs.declared.expression.Form.{Form}
use Rattle.ca_spec.specs.declared.expression.Form.TheVariants as form
use Rattle.ca_spec.specs.declared.expression.Expression.TheDeep.{deep-Form}

pub deep_le-nodes : (f : Form) → IsForm f → max (deep-Form f) 0 ≤ nodes (tree_of_form f)
deep_le-nodes (form.Variable number) kept = omega arith
deep_le-nodes form.Whole kept = omega arith
deep_le-nodes form.AllBound kept = omega arith
deep_le-nodes (form.Literal term) kept = omega arith
deep_le-nodes (form.Constant term) kept = omega arith
deep_le-nodes (form.Tuple parts) kept = omega (arith, most_le-row parts.items)
deep_le-nodes (form.List heads tail) kept = omega (arith, kept, most_le-list heads.items tail.value, tail_le-list heads.items tail.value)
deep_le-nodes (form.One operator argument) kept = omega arith
deep_le-nodes (form.Two operator first second) kept = omega arith
