use Rattle.std.proofs.Common.{Some, ap, sym, ◌∙◌}
use Rattle.ca_term.specs.Tree.{Tree}
use Rattle.ca_spec.specs.ExpressionView.{tree_of_form}
use Rattle.ca_spec.specs.PartBound.{scene_in}
use Rattle.ca_spec.proofs.Values.{constant_value}
use Rattle.ca_spec.proofs.quick.told_value.Goals as goal

pub returns-in-Constant-clause-told : goal.returns-in-Constant-clause-told
returns-in-Constant-clause-told c =
    sym (ap (λ (x : Tree). Some x) c.term-in-Constant.ensures
    ∙ constant_value (scene_in c.args.object c.args.table.now) c.args.body.now c.in-Constant.constant (sym (ap tree_of_form c.in-Constant.is) ∙ c.body.view_is))
