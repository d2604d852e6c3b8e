use Rattle.std.proofs.Common.{Bool, ℕ, List}
use Rattle.ca_model.specs.Answer.{FoundAbove}
use Rattle.ca_model.specs.Edges.{bound_of}
use Rattle.ca_model.specs.Known.{Known}
use Rattle.ca_replace.specs.Within.{FindsAbove, NeedsAbove}
use Rattle.ca_replace.proofs.StoreCalls.{closed_then, done_once, read_promised, rests_first, rests_then, store_declined, store_left}
use Rattle.ca_replace.proofs.Telling.{found_above}
use Rattle.ca_replace.proofs.store.TreeStoreOrderedStore.above.Goals as goal

pub read-outcome-requires-clause-resting : goal.read-outcome-requires-clause-resting
read-outcome-requires-clause-resting c = rests_first c.self.inside c.self.view_is c.requires.closed
    c.self.invariant

pub read-outcome-requires-clause-may : goal.read-outcome-requires-clause-may
read-outcome-requires-clause-may c = c.requires.edge

pub invariant_of-self : goal.invariant_of-self
invariant_of-self c = rests_then c.self.inside c.self.view_is c.requires.closed
    c.read-outcome.new.pass
    c.self.inside.last c.read-outcome.ensures.frame.resting

pub returns-clause-closed : goal.returns-clause-closed
returns-clause-closed c = closed_then c.self.inside c.self.view_is c.requires.closed
    c.read-outcome.new.pass c.self.inside.last

pub returns-clause-found : goal.returns-clause-found
returns-clause-found c = let edge = bound_of c.args.lo in
    let object : List ℕ = c.read-outcome.new.left.items in
    let u = c.self.inside.pass.seat.me.0.upper in let v = c.read-outcome.new.pass.seat.me.0.upper in
    store_left c.self.inside c.self.view_is c.requires.closed c.read-outcome.new.pass
    c.self.inside.last
    c.read-outcome.result c.read-outcome.new.left c.empty_if_refused.new.old
    c.empty_if_refused.ensures.done (λ (x : Bool). FindsAbove edge x object)
    (λ (k l : Known) (x : Bool) (into : List ℕ). FoundAbove k l edge x into)
    (found_above c.self.inside.tree.now.space.table.shared.table_id
    c.self.inside.tree.now.space.table.shared.key u v
    (rests_first c.self.inside c.self.view_is c.requires.closed c.self.invariant).known
    c.read-outcome.ensures.frame.resting.known object object edge)
    (done_once (λ (x : Bool). FindsAbove edge x object) c.self.inside.pass c.read-outcome.new.pass
    c.read-outcome.result c.read-outcome.ensures.done)

pub returns-clause-refused : goal.returns-clause-refused
returns-clause-refused c = store_declined c.self.inside c.self.view_is c.requires.closed
    c.read-outcome.new.pass
    c.self.inside.last c.read-outcome.result c.self.invariant
    c.read-outcome.ensures.frame.resting.known c.read-outcome.ensures.refused

pub returns-clause-promised : goal.returns-clause-promised
returns-clause-promised c = read_promised c.self.inside c.read-outcome.new.pass (NeedsAbove
    (bound_of c.args.lo))
    c.args.budget c.read-outcome.result c.self.view_is (c.read-outcome.ensures.told
    c.self.inside.last)
