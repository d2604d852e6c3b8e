use Rattle.std.proofs.Common.{ℕ, inr, Some, ◌∙◌, sym, ap, subst}
use Rattle.std.specs.Prelude.{nat_le}
use Rattle.ca_model.specs.Edges.{bound_of, Unbounded}
use Rattle.ca_ets.specs.Command.{response_of}
use Rattle.ca_table.specs.Collected.{IsNextOf, going_on}
use Rattle.ca_table.specs.ResultsView.{results_of}
use Rattle.ca_table.proofs.Selecting.{run_read, batch_is, next_continues}
use Rattle.ca_table.proofs.table.Table.batch_within.Goals as goal

pub returns-in_default-clause-stopped : goal.returns-in_default-clause-stopped
returns-in_default-clause-stopped g c =
    let old = g.S.OrderedStore.knows c.args.self.now in
    let next = g.S.OrderedStore.knows c.within.new.self in
    inr (run_read old next c.keypos-keypos.ensures.positive (bound_of c.args.lo) Unbounded c.args.spec.now (Some c.args.limit) _ _
    c.in-Ok.ensures.within)

pub returns-clause-batch : goal.returns-clause-batch
returns-clause-batch g c =
    let old = g.S.OrderedStore.knows c.args.self.now in
    let next = g.S.OrderedStore.knows c.within.new.self in
    batch_is old next c.keypos-keypos.ensures.positive (bound_of c.args.lo) c.args.spec.now c.args.limit
    (results_of c.in-Ok.found.results) c.in-Ok.found.last c.in-Ok.ensures.within (response_of c.reply_of.result) (going_on c.args.spec.now c.args.limit c.in-Ok-next_of.next)
    c.is_full-full.result (sym (c.is_full-full.ensures ∙ ap (λ (n : ℕ). nat_le c.args.limit n) c.len.ensures)) c.reply_of.ensures
    (subst (λ (p : ℕ). IsNextOf p c.args.spec.now c.args.limit c.in-Ok.found.last c.is_full-full.result (going_on c.args.spec.now c.args.limit c.in-Ok-next_of.next))
    c.keypos-keypos.ensures.value (c.in-Ok-next_of.ensures c.args.spec.now c.args.limit))

pub returns-clause-next : goal.returns-clause-next
returns-clause-next g c =
    let old = g.S.OrderedStore.knows c.args.self.now in
    let next = g.S.OrderedStore.knows c.within.new.self in
    next_continues old next c.keypos-keypos.ensures.positive (bound_of c.args.lo) c.args.spec.now c.args.limit
    (results_of c.in-Ok.found.results) c.in-Ok.found.last c.in-Ok.ensures.within c.requires.specification c.requires.limit
    c.is_full-full.result (going_on c.args.spec.now c.args.limit c.in-Ok-next_of.next)
    (subst (λ (p : ℕ). IsNextOf p c.args.spec.now c.args.limit c.in-Ok.found.last c.is_full-full.result (going_on c.args.spec.now c.args.limit c.in-Ok-next_of.next))
    c.keypos-keypos.ensures.value (c.in-Ok-next_of.ensures c.args.spec.now c.args.limit))
