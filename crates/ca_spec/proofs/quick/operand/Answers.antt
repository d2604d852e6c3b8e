use Rattle.std.proofs.Common.{◌≡◌, false, ap, sym, ◌∙◌, subst, ⊎_elim}
use Rattle.ca_term.specs.Object.{fits}
use Rattle.ca_match.specs.Match.{value}
use Rattle.ca_spec.specs.ByCode.{is_operand}
use Rattle.ca_spec.specs.ExpressionView.{IsForm, tree_of_form}
use Rattle.ca_spec.specs.PartBound.{parts_of, scene_in}
use Rattle.ca_spec.proofs.Operands.{bound_value, part_value}
use Rattle.ca_spec.proofs.PlainClauses.{constant_told, form_no_operand, literal_told, may_be_operand, variable_told}
use Rattle.ca_spec.proofs.Values.{constant_value, literal_value, variable_value}
use Rattle.ca_spec.proofs.quick.operand.Goals as goal

pub returns-in-Variable : goal.returns-in-Variable
returns-in-Variable c =
    let is = sym (ap tree_of_form c.in-Variable.is) ∙ c.expression.view_is in
    let range = subst IsForm c.in-Variable.is c.expression.invariant in
    record {
      part = bound_value c.bound_part.result _ _ c.bound_part.ensures
          (variable_value (scene_in c.args.object c.args.table.now) c.args.expression.now c.in-Variable.number range is);
      told = λ head bound o.
          variable_told head c.args.expression.now (parts_of c.args.table.now) c.in-Variable.number c.bound_part.result range is c.bound_part.ensures bound o;
    }

pub returns-in-Literal : goal.returns-in-Literal
returns-in-Literal c =
    let is = sym (ap tree_of_form c.in-Literal.is) ∙ c.expression.view_is in
    let itself = subst IsForm c.in-Literal.is c.expression.invariant in
    record {
      part = part_value (fits c.in-Literal.constant ≡ false) c.part.result c.in-Literal.constant
          (value (scene_in c.args.object c.args.table.now) c.args.expression.now) c.part.ensures.part
          (literal_value (scene_in c.args.object c.args.table.now) c.in-Literal.constant itself
          ∙ ap (value (scene_in c.args.object c.args.table.now)) is);
      told = λ head bound o. literal_told head c.args.expression.now c.in-Literal.constant _ c.part.ensures.coded itself is o;
    }

pub returns-in-Constant : goal.returns-in-Constant
returns-in-Constant c =
    let is = sym (ap tree_of_form c.in-Constant.is) ∙ c.expression.view_is in
    record {
      part = part_value (fits c.in-Constant.constant ≡ false) c.part-in-Constant.result c.in-Constant.constant
          (value (scene_in c.args.object c.args.table.now) c.args.expression.now) c.part-in-Constant.ensures.part
          (constant_value (scene_in c.args.object c.args.table.now) c.args.expression.now c.in-Constant.constant is);
      told = λ head bound o. constant_told head c.args.expression.now c.in-Constant.constant _ c.part-in-Constant.ensures.coded is o;
    }

pub returns-in-AllBound-clause-told : goal.returns-in-AllBound-clause-told
returns-in-AllBound-clause-told c = λ head bound o.
    let other : may_be_operand c.expression.inside.form ≡ false =
    ⊎_elim (λ e. ap may_be_operand e) (⊎_elim (λ e. ap may_be_operand e.1) (⊎_elim (λ e. ap may_be_operand e.2)
    (⊎_elim (λ e. ap may_be_operand e.2) (λ e. ap may_be_operand e.3)))) c.in-AllBound.is in
    sym (form_no_operand head c.expression.inside.form c.expression.invariant other) ∙ ap (is_operand head) c.expression.view_is ∙ o
