use Rattle.std.proofs.Common.{ℕ, List}
use Rattle.ca_model.specs.Answer.{RemovedIf}
use Rattle.ca_model.specs.Known.{Known}
use Rattle.ca_model.specs.declared.outcome.Changed.{Changed}
use Rattle.ca_replace.proofs.StoreCalls.{closed_then, rests_first, rests_then, store_declined, store_left}
use Rattle.ca_replace.specs.Tells.{RemovesIf}
use Rattle.ca_replace.proofs.Telling.{removed_if}
use Rattle.ca_replace.proofs.store.TreeStoreOrderedStore.remove_if.Goals as goal

pub returns-clause-removed : goal.returns-clause-removed
returns-clause-removed g c = let key : List ℕ = c.args.key.now in
    let old : List ℕ = c.call-outcome.new.left.items in
    store_left c.self.inside c.self.view_is c.requires.closed c.call-outcome.new.pass
    c.call-outcome.new.last c.call-outcome.result c.call-outcome.new.left
    c.empty_if_refused.new.old c.empty_if_refused.ensures.done
    (λ (x : Changed). RemovesIf g.F.Fn c.args.f.now key x old)
    (λ (k l : Known) (x : Changed) (into : List ℕ). RemovedIf g.F.Fn c.args.f.now k l key x into)
    (removed_if c.self.inside.tree.now.space.table.shared.table_id
    c.self.inside.tree.now.space.table.shared.key c.self.inside.pass.seat.me.0.upper
    c.call-outcome.new.pass.seat.me.0.upper
    (rests_first c.self.inside c.self.view_is c.requires.closed c.self.invariant).known
    c.call-outcome.ensures.frame.resting.known key old g.F.Fn c.args.f.now) c.call-outcome.ensures.done

pub returns-clause-refused : goal.returns-clause-refused
returns-clause-refused g c = store_declined c.self.inside c.self.view_is c.requires.closed
    c.call-outcome.new.pass
    c.call-outcome.new.last c.call-outcome.result c.self.invariant
    c.call-outcome.ensures.frame.resting.known c.call-outcome.ensures.refused

pub call-outcome-requires-clause-resting : goal.call-outcome-requires-clause-resting
call-outcome-requires-clause-resting g c = rests_first c.self.inside c.self.view_is c.requires.closed c.self.invariant

pub invariant_of-self : goal.invariant_of-self
invariant_of-self g c = rests_then c.self.inside c.self.view_is c.requires.closed
    c.call-outcome.new.pass
    c.call-outcome.new.last c.call-outcome.ensures.frame.resting

pub returns-clause-closed : goal.returns-clause-closed
returns-clause-closed g c = closed_then c.self.inside c.self.view_is c.requires.closed
    c.call-outcome.new.pass c.call-outcome.new.last
