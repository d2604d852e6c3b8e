-- The specification that a compiled one was made from.
use Rattle.std.specs.Prelude.{◌≡◌}
use Rattle.ca_term.specs.Tree.{Nil, list_of}
use Rattle.ca_match.specs.Specification.{IsSpecification}
use Rattle.ca_spec.specs.declared.spec.Spec.TheInside.{Inside}
use Rattle.ca_spec.specs.ClauseView.{trees_of_clauses}

-- The clauses are those of the term that is kept, which is a specification.
pub record IsCompiled (spec : Inside) : Type 0 where
  pub clauses_are : list_of (trees_of_clauses spec.clauses.items) Nil ≡ spec.source
  pub accepted : IsSpecification spec.source
