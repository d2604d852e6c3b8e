-- What is of another kind is no operand.
use Rattle.std.proofs.Common.{◌≡◌, false, ap, sym, ◌∙◌, ⊎_elim}
use Rattle.ca_spec.specs.ByCode.{is_operand}
use Rattle.ca_spec.proofs.PlainClauses.{form_no_operand, may_be_operand}
use Rattle.ca_spec.proofs.quick.may_be_part.Goals as goal

pub returns-in-AllBound-3 : goal.returns-in-AllBound-3
returns-in-AllBound-3 c = λ head o.
    let other : may_be_operand c.expression.inside.form ≡ false =
    ⊎_elim (λ e. ap may_be_operand e) (⊎_elim (λ e. ap may_be_operand e.1) (⊎_elim (λ e. ap may_be_operand e.2)
    (⊎_elim (λ e. ap may_be_operand e.2) (λ e. ap may_be_operand e.3)))) c.in-AllBound.is in
    sym (form_no_operand head c.expression.inside.form c.expression.invariant other) ∙ ap (is_operand head) c.expression.view_is ∙ o
