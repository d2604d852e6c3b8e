-- The exits of an expression's value.
use Rattle.std.proofs.Common.{◌≡◌, [], ◌∷◌, Option, ap, sym, ◌∙◌, subst}
use Rattle.std.specs.Prelude.{Some, IfOk, option_map}
use Rattle.ca_term.specs.Tree.{Tree}
use Rattle.ca_match.specs.Match.{value}
use Rattle.ca_match.specs.Operators.{Short, applied}
use Rattle.ca_match.specs.ValueView.{tree_of_value}
use Rattle.ca_spec.specs.FittedView.{scene_at}
use Rattle.ca_spec.specs.ExpressionView.{IsForm, tree_of_form}
use Rattle.ca_spec.proofs.Values.{constant_value, short_is_value, variable_value}
use Rattle.ca_spec.proofs.evaluation.+value.Goals as goal

pub value-returns-in-Variable : goal.value-returns-in-Variable
value-returns-in-Variable t c =
    subst (λ (x : Option Tree). IfOk c.variable.result (λ v. option_map tree_of_value v ≡ x))
    (variable_value (scene_at c.args.fitted.now) c.args.expression.now c.in-Variable.number
    (subst IsForm c.in-Variable.is c.expression.invariant)
    (sym (ap tree_of_form c.in-Variable.is) ∙ c.expression.view_is)) c.variable.ensures

pub value-returns-in-Constant : goal.value-returns-in-Constant
value-returns-in-Constant t c =
    ap (λ (x : Tree). Some x) c.term-in-Constant.ensures
    ∙ constant_value (scene_at c.args.fitted.now) c.args.expression.now c.in-Constant.term
    (sym (ap tree_of_form c.in-Constant.is) ∙ c.expression.view_is)

pub value-returns-in-Some : goal.value-returns-in-Some
value-returns-in-Some t c =
    let s = scene_at c.args.fitted.now in
    let given : applied (Short c.in-Some.stop) (value s c.deref-in-Some.result.now ∷ value s c.deref-in-Some-2.result.now ∷ [])
    ≡ value s c.args.expression.now =
    (λ j. applied (Short c.in-Some.stop) (value s (c.deref-in-Some.ensures j) ∷ value s (c.deref-in-Some-2.ensures j) ∷ []))
    ∙ short_is_value s c.args.expression.now c.in-Two.operator c.in-Some.stop c.in-Two.a.value c.in-Two.b.value
    (sym (ap tree_of_form c.in-Two.is) ∙ c.expression.view_is) c.in-Some.ensures in
    subst (λ (x : Option Tree). IfOk c.short_value.result (λ v. option_map tree_of_value v ≡ x)) given c.short_value.ensures
