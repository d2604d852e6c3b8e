-- A guard's truth value is that of its operator.
use Rattle.std.proofs.Common.{◌≡◌, false, [], ◌∷◌, Some, Option, ap, sym, ◌∙◌, subst, ⊎_elim}
use Rattle.std.specs.Prelude.{IfSome}
use Rattle.ca_term.specs.Tree.{Tree}
use Rattle.ca_match.specs.Match.{value}
use Rattle.ca_match.specs.OperatorView.{meaning_of}
use Rattle.ca_match.specs.Operators.{Short, applied, truth}
use Rattle.ca_spec.specs.ByCode.{call_of_one, is_operand, is_plain}
use Rattle.ca_spec.specs.ExpressionView.{tree_of_form}
use Rattle.ca_spec.specs.PartBound.{scene_in}
use Rattle.ca_spec.proofs.PlainClauses.{form_not_plain, is_call, plain_comparison, plain_short}
use Rattle.ca_spec.proofs.Values.{one_value, short_is_value, two_value}
use Rattle.ca_spec.proofs.quick.+known.Goals as goal

pub known-returns-in-Some : goal.known-returns-in-Some
known-returns-in-Some t c =
    let s = scene_in c.args.object c.args.table.now in
    let given : applied (Short c.in-Some.stop) (value s c.deref.result.now ∷ value s c.deref-in-Some.result.now ∷ []) ≡ value s c.args.guard.now =
    (λ j. applied (Short c.in-Some.stop) (value s (c.deref.ensures j) ∷ value s (c.deref-in-Some.ensures j) ∷ []))
    ∙ short_is_value s c.args.guard.now c.in-Two.operator c.in-Some.stop c.in-Two.a.value c.in-Two.b.value
    (sym (ap tree_of_form c.in-Two.is) ∙ c.guard.view_is) c.in-Some.ensures in
    record {
      known = subst (λ (x : Option Tree). IfSome c.known_short.result (λ known. Some (truth known) ≡ x)) given c.known_short.ensures.known;
      told = λ head bound p.
          let both = plain_short head c.in-Two.operator c.in-Some.stop c.in-Two.a.value c.in-Two.b.value c.in-Some.ensures
          (ap (is_plain head) (sym (ap tree_of_form c.in-Two.is) ∙ c.guard.view_is) ∙ p) in
          c.known_short.ensures.told head bound (ap (is_plain head) c.deref.ensures ∙ both.0) (ap (is_plain head) c.deref-in-Some.ensures ∙ both.1);
    }

pub known-returns-in-None : goal.known-returns-in-None
known-returns-in-None t c =
    let s = scene_in c.args.object c.args.table.now in
    let m = meaning_of c.in-Two.operator in
    let given : applied m (value s c.deref-in-None.result.now ∷ value s c.deref-in-None-2.result.now ∷ []) ≡ value s c.args.guard.now =
    (λ j. applied m (value s (c.deref-in-None.ensures j) ∷ value s (c.deref-in-None-2.ensures j) ∷ []))
    ∙ two_value s c.args.guard.now c.in-Two.operator c.in-Two.a.value c.in-Two.b.value (sym (ap tree_of_form c.in-Two.is) ∙ c.guard.view_is) in
    record {
      known = subst (λ (x : Option Tree). IfSome c.known_comparison.result (λ known. Some (truth known) ≡ x)) given c.known_comparison.ensures.known;
      told = λ head bound p.
          let all = plain_comparison head c.in-Two.operator c.in-Two.a.value c.in-Two.b.value c.in-None.ensures
          (ap (is_plain head) (sym (ap tree_of_form c.in-Two.is) ∙ c.guard.view_is) ∙ p) in
          c.known_comparison.ensures.told head bound all.0 (ap (is_operand head) c.deref-in-None.ensures ∙ all.1.0)
          (ap (is_operand head) c.deref-in-None-2.ensures ∙ all.1.1);
    }

pub known-returns-in-One : goal.known-returns-in-One
known-returns-in-One t c =
    let s = scene_in c.args.object c.args.table.now in
    let m = meaning_of c.in-One.operator in
    let given : applied m (value s c.deref-in-One.result.now ∷ []) ≡ value s c.args.guard.now =
    (λ j. applied m (value s (c.deref-in-One.ensures j) ∷ []))
    ∙ one_value s c.args.guard.now c.in-One.operator c.in-One.a.value (sym (ap tree_of_form c.in-One.is) ∙ c.guard.view_is) in
    record {
      known = subst (λ (x : Option Tree). IfSome c.known_of_one.result (λ known. Some (truth known) ≡ x)) given c.known_of_one.ensures.known;
      told = λ head bound p.
          c.known_of_one.ensures.told head bound
          (ap (λ (x : Tree). is_plain head (call_of_one c.in-One.operator x)) c.deref-in-One.ensures
          ∙ ap (is_plain head) (sym (ap tree_of_form c.in-One.is) ∙ c.guard.view_is) ∙ p);
    }

pub known-returns-in-Variable-7-clause-told : goal.known-returns-in-Variable-7-clause-told
known-returns-in-Variable-7-clause-told t c = λ head bound p.
    let other : is_call c.guard.inside.form ≡ false =
    ⊎_elim (λ e. ap is_call e.1) (⊎_elim (λ e. ap is_call e) (⊎_elim (λ e. ap is_call e) (⊎_elim (λ e. ap is_call e.1)
    (⊎_elim (λ e. ap is_call e.1) (⊎_elim (λ e. ap is_call e.1) (λ e. ap is_call e.2)))))) c.in-Variable.is in
    sym (form_not_plain head c.guard.inside.form c.guard.invariant other) ∙ ap (is_plain head) c.guard.view_is ∙ p
