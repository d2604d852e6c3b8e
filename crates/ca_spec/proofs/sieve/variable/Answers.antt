use Rattle.std.proofs.Common.{ap, sym, ◌∙◌}
use Rattle.ca_spec.specs.ByCode.{variable_in}
use Rattle.ca_spec.proofs.Forms.{form_no_variable}
use Rattle.ca_spec.proofs.sieve.variable.Goals as goal

pub returns-in_default : goal.returns-in_default
returns-in_default c = record {
  named = tt;
  found = sym (form_no_variable c.expression.inside.form c.expression.invariant c.in_default.not-Variable) ∙ ap variable_in c.expression.view_is;
}
