use Rattle.std.proofs.Common.{ap, sym, ◌∙◌, ⊎_elim}
use Rattle.ca_match.specs.Operators.{is_tuple}
use Rattle.ca_spec.proofs.Forms.{shape_no_tuple}
use Rattle.ca_spec.proofs.sieve.parts_of.Goals as goal

pub returns-in-Anything-clause-found : goal.returns-in-Anything-clause-found
returns-in-Anything-clause-found c =
    sym (shape_no_tuple c.head.inside.shape c.head.invariant
    (λ parts e. ⊎_elim (λ a. cc) (⊎_elim (λ a. let b = a.1 in cc) (⊎_elim (λ a. let b = a.1 in cc) (λ a. let b = a.2 in cc))) c.in-Anything.is))
    ∙ ap is_tuple c.head.view_is
