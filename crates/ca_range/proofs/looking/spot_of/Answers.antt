use Rattle.std.proofs.Common.{sym, subst}
use Rattle.ca_model.specs.declared.edge.Edge.{Edge}
use Rattle.ca_model.specs.Edges.{bound_of}
use Rattle.ca_range.specs.Looking.{BeginsFor, HoldsEdge}
use Rattle.ca_range.proofs.Edges.{begins_at, begins_past}
use Rattle.ca_range.proofs.looking.spot_of.Goals as goal

pub returns-in-At-clause-begins : goal.returns-in-At-clause-begins
returns-in-At-clause-begins c = λ span s. subst (λ (e : Edge). BeginsFor (bound_of e) span) (sym c.in-At.is) (begins_at span c.in-At.key.now s)

pub returns-in-At-clause-holds : goal.returns-in-At-clause-holds
returns-in-At-clause-holds c = λ span s. subst (λ (e : Edge). HoldsEdge (bound_of e) span) (sym c.in-At.is) s

pub returns-in-Past-clause-begins : goal.returns-in-Past-clause-begins
returns-in-Past-clause-begins c = λ span s. subst (λ (e : Edge). BeginsFor (bound_of e) span) (sym c.in-Past.is) (begins_past span c.in-Past.key.now s)

pub returns-in-Past-clause-holds : goal.returns-in-Past-clause-holds
returns-in-Past-clause-holds c = λ span s. subst (λ (e : Edge). HoldsEdge (bound_of e) span) (sym c.in-Past.is) s
