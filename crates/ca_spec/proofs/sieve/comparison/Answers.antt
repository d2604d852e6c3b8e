use Rattle.std.proofs.Common.{◌≡◌, None, ap, sym, ◌∙◌, rules}
use Rattle.std.specs.Prelude.{option_map}
use Rattle.ca_match.specs.Match.{value}
use Rattle.ca_order.specs.CodesView.{tree_of}
use Rattle.ca_spec.specs.ByCode.{is_constant, variable_in}
use Rattle.ca_spec.specs.ExpressionView.{tree_of_form}
use Rattle.ca_spec.specs.SieveView.{compared}
use Rattle.ca_spec.proofs.Forms.{form_not_compared}
use Rattle.ca_spec.proofs.Sieves.{first_compared, guard_compares, guard_turned, nowhere, second_compared}
use Rattle.ca_spec.proofs.sieve.comparison.Goals as goal

pub returns : goal.returns
returns c =
    let is = sym (ap tree_of_form c.in-Two.is) ∙ c.guard.view_is in
    record {
      compares = guard_turned c.in-Two.operator c.in_ok-orders.orders c.turned.result c.args.guard.now c.in-Two.a.value c.in-Two.b.value
          (tree_of c.in_ok-code-2.code) c.in_ok-number.number is
          (c.in_ok-number.ensures.named.0, c.in_ok-number.ensures.named.1 ∙ c.deref-2.ensures)
          (λ s. ap (value s) (sym c.deref-3.ensures) ∙ c.in_ok-code-2.ensures.means s)
          c.in_ok-orders.ensures.compares c.turned.ensures;
      found = second_compared c.in-Two.operator c.args.guard.now c.in-Two.a.value c.in-Two.b.value c.in_ok-number.number is
          c.in_ok-orders.ensures.found (c.in_default-variable.ensures.found ∙ ap variable_in c.deref.ensures)
          (c.in_ok-number.ensures.found ∙ ap variable_in c.deref-2.ensures) (c.in_ok-code-2.ensures.found ∙ ap is_constant c.deref-3.ensures);
    }

pub returns-in-Some : goal.returns-in-Some
returns-in-Some c =
    let is = sym (ap tree_of_form c.in-Two.is) ∙ c.guard.view_is in
    record {
      compares = guard_compares c.in-Two.operator c.in_ok-orders.orders c.args.guard.now c.in-Two.a.value c.in-Two.b.value
          (tree_of c.in_ok-code.code) c.in-Some.number is
          (c.in-Some.ensures.named.0, c.in-Some.ensures.named.1 ∙ c.deref.ensures)
          (λ s. ap (value s) (sym c.deref-in-Some.ensures) ∙ c.in_ok-code.ensures.means s)
          c.in_ok-orders.ensures.compares;
      found = first_compared c.in-Two.operator c.args.guard.now c.in-Two.a.value c.in-Two.b.value c.in-Some.number is
          c.in_ok-orders.ensures.found (c.in-Some.ensures.found ∙ ap variable_in c.deref.ensures)
          (c.in_ok-code.ensures.found ∙ ap is_constant c.deref-in-Some.ensures);
    }

pub returns-in_default : goal.returns-in_default
returns-in_default c = record {
  compares = tt;
  found = sym (form_not_compared c.guard.inside.form c.guard.invariant c.in_default.not-Two) ∙ ap compared c.guard.view_is;
}

pub returns-in_err-number-clause-found : goal.returns-in_err-number-clause-found
returns-in_err-number-clause-found c =
    let none : c.from_residual-in_err-number.result ≡ None = search rules in
    ap (option_map (λ d. d.0)) none
    ∙ nowhere c.in-Two.operator c.args.guard.now c.in-Two.a.value c.in-Two.b.value (sym (ap tree_of_form c.in-Two.is) ∙ c.guard.view_is)
    c.in_ok-orders.ensures.found (c.in_default-variable.ensures.found ∙ ap variable_in c.deref.ensures)
    (c.in_err-number.ensures.found ∙ ap variable_in c.deref-2.ensures)
