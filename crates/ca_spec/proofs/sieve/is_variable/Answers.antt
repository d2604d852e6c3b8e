use Rattle.std.proofs.Common.{ap, sym, ◌∙◌, ⊎_elim}
use Rattle.ca_match.specs.Specification.{is_variable}
use Rattle.ca_spec.specs.ByCode.{variable_in}
use Rattle.ca_spec.proofs.Forms.{shape_no_variable}
use Rattle.ca_spec.proofs.sieve.is_variable.Goals as goal

pub returns-in-Anything-4-clause-found : goal.returns-in-Anything-4-clause-found
returns-in-Anything-4-clause-found c =
    ap (is_variable c.args.number) (sym (shape_no_variable c.part.inside.shape c.part.invariant
    (λ n e. ⊎_elim (λ a. cc) (⊎_elim (λ a. let b = a.1 in cc) (⊎_elim (λ a. let b = a.1 in cc) (λ a. let b = a.2 in cc))) c.in-Anything.is))
    ∙ ap variable_in c.part.view_is)
