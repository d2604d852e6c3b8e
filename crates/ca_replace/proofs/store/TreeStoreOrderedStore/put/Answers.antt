use Rattle.std.proofs.Common.{sym, subst}
use Rattle.std.specs.Prelude.{slice_range}
use Rattle.ca_model.specs.Answer.{IfDone}
use Rattle.ca_model.specs.Event.{Write}
use Rattle.ca_model.specs.Known.{Known, Meets}
use Rattle.ca_model.specs.StoreMap.{IsPair}
use Rattle.ca_replace.specs.Resting.{StoreAndRun, knows}
use Rattle.ca_replace.proofs.StoreCalls.{closed_then, of_stores, rests_first, rests_then, store_declined}
use Rattle.ca_replace.proofs.Turns.{if_met}
use Rattle.ca_replace.proofs.store.TreeStoreOrderedStore.put.Goals as goal

pub call-requires-clause-may : goal.call-requires-clause-may
call-requires-clause-may c = let object = c.args.object.now in record {
  within = c.requires.place;
  pair_is = subst
      (λ (s : StoreAndRun). IsPair (knows s).keypos (
        slice_range object c.args.key_at c.args.key_end,
        object,
      )) (sym c.self.view_is)
      c.requires.pair;
}

pub returns-clause-put : goal.returns-clause-put
returns-clause-put c = let object = c.args.object.now in
    let key = slice_range object c.args.key_at c.args.key_end in
    let event = (λ (x : Unit {0}). Write key object) in
    of_stores c.self.inside c.self.view_is c.requires.closed c.call.new.pass c.call.new.last
    (λ (k l : Known). IfDone c.call.result (λ x. Meets k l (event x)))
    (if_met event c.self.inside.tree.now.space.table.shared.table_id
    c.self.inside.tree.now.space.table.shared.key c.call.result c.self.inside.pass.seat.me.0.upper
    c.call.new.pass.seat.me.0.upper
    (rests_first c.self.inside c.self.view_is c.requires.closed c.self.invariant).known
    c.call.ensures.frame.resting.known c.call.ensures.done)

pub returns-clause-refused : goal.returns-clause-refused
returns-clause-refused c = store_declined c.self.inside c.self.view_is c.requires.closed
    c.call.new.pass
    c.call.new.last c.call.result c.self.invariant
    c.call.ensures.frame.resting.known c.call.ensures.refused

pub call-requires-clause-resting : goal.call-requires-clause-resting
call-requires-clause-resting c = rests_first c.self.inside c.self.view_is c.requires.closed c.self.invariant

pub invariant_of-self : goal.invariant_of-self
invariant_of-self c = rests_then c.self.inside c.self.view_is c.requires.closed
    c.call.new.pass
    c.call.new.last c.call.ensures.frame.resting

pub returns-clause-closed : goal.returns-clause-closed
returns-clause-closed c = closed_then c.self.inside c.self.view_is c.requires.closed
    c.call.new.pass c.call.new.last
