use Rattle.std.proofs.Common.{◌≡◌, false, ap, sym, ◌∙◌, subst}
use Rattle.ca_term.specs.Object.{fits}
use Rattle.ca_spec.specs.ByCode.{is_constant}
use Rattle.ca_spec.specs.ExpressionView.{IsForm, tree_of_form}
use Rattle.ca_spec.proofs.Forms.{constant_coded, form_no_constant, literal_coded}
use Rattle.ca_spec.proofs.Sieves.{constant_is, literal_is}
use Rattle.ca_spec.proofs.sieve.constant.Goals as goal

pub returns-in-Literal : goal.returns-in-Literal
returns-in-Literal c =
    let itself = subst IsForm c.in-Literal.is c.expression.invariant in
    let is = sym (ap tree_of_form c.in-Literal.is) ∙ c.expression.view_is in
    record {
      means = literal_is (fits c.in-Literal.constant ≡ false) c.part.result c.in-Literal.constant c.args.expression.now c.part.ensures.part itself is;
      found = literal_coded c.args.expression.now c.in-Literal.constant _ c.part.ensures.coded itself is;
    }

pub returns-in-Constant : goal.returns-in-Constant
returns-in-Constant c =
    let is = sym (ap tree_of_form c.in-Constant.is) ∙ c.expression.view_is in
    record {
      means = constant_is (fits c.in-Constant.constant ≡ false) c.part-in-Constant.result c.in-Constant.constant c.args.expression.now
          c.part-in-Constant.ensures.part is;
      found = constant_coded c.args.expression.now c.in-Constant.constant _ c.part-in-Constant.ensures.coded is;
    }

pub returns-in_default : goal.returns-in_default
returns-in_default c = record {
  means = tt;
  found = sym (form_no_constant c.expression.inside.form c.expression.invariant c.in_default.not-Literal c.in_default.not-Constant)
      ∙ ap is_constant c.expression.view_is;
}
