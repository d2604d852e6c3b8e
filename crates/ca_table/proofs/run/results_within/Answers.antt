use Rattle.std.proofs.Common.{Bool, refl, subst}
use Rattle.std.specs.Prelude.{IfErr, IfOk, Result}
use Rattle.ca_ets.specs.declared.command.Reply.{Reply}
use Rattle.ca_model.specs.declared.outcome.Outcome.{Outcome}
use Rattle.ca_model.specs.Edges.{bound_of}
use Rattle.ca_table.proofs.Collecting.{none_or_limit, opened_run, range_opens, run_within, run_lacks, shown_code}
use Rattle.ca_table.specs.Made.{Closes, HasRead, HasRefusedRead, Opens}
use Rattle.ca_table.proofs.Making.{read_both, read_done, read_once, read_refused}
use Rattle.ca_table.proofs.run.results_within.Goals as goal

pub range-requires-clause-function : goal.range-requires-clause-function
range-requires-clause-function g c = λ p h shown e. shown_code _ p shown.now h e

pub collect-collected-requires : goal.collect-collected-requires
collect-collected-requires g c =
    let a = g.S.OrderedStore.knows c.args.store.now in
    let b = g.S.OrderedStore.knows c.range.new.self in
    let o = range_opens _ _ a b (bound_of c.args.lo) (bound_of c.args.hi) c.wanted.result c.range.result c.done.result c.done.ensures
    c.in_default.not-Err c.range.ensures.opens in
    record { run = opened_run _ _ a b (bound_of c.args.lo) (bound_of c.args.hi) c.wanted.result o.0 o.1; sieve = c.of-sieve.ensures.stops }

pub returns-in-Ok-clause-within : goal.returns-in-Ok-clause-within
returns-in-Ok-clause-within g c =
    let a = g.S.OrderedStore.knows c.args.store.now in
    let b = g.S.OrderedStore.knows c.range.new.self in
    let o = range_opens _ _ a b (bound_of c.args.lo) (bound_of c.args.hi) c.wanted.result c.range.result c.done.result c.done.ensures
    c.in_default.not-Err c.range.ensures.opens in
    run_within _ _ c.args.spec.now (λ shown answer met. met) a b _ _ (bound_of c.args.lo) (bound_of c.args.hi) c.wanted.result c.args.limit o.0 _ _
    (none_or_limit c.args.limit c.wanted.result c.wanted.ensures) o.1 c.in-Ok.ensures.collected c.collect-collected.ensures.stays c.close_run.ensures.stays

pub returns-in-Err-collected-clause-stopped : goal.returns-in-Err-collected-clause-stopped
returns-in-Err-collected-clause-stopped g c =
    let a = g.S.OrderedStore.knows c.args.store.now in
    let b = g.S.OrderedStore.knows c.range.new.self in
    let o = range_opens _ _ a b (bound_of c.args.lo) (bound_of c.args.hi) c.wanted.result c.range.result c.done.result c.done.ensures
    c.in_default.not-Err c.range.ensures.opens in
    run_lacks _ _ a b (bound_of c.args.lo) (bound_of c.args.hi) c.wanted.result _ _ o.0 o.1 c.collect-collected.ensures.stays c.close_run.ensures.stays

pub returns-in-Err-clause-asked : goal.returns-in-Err-clause-asked
returns-in-Err-clause-asked g c = (c.range.new.self, c.range.result, rw c.wanted.ensures at c.range.ensures.promised)

pub returns-in-Ok-clause-asked : goal.returns-in-Ok-clause-asked
returns-in-Ok-clause-asked g c = (c.range.new.self, c.range.result, rw c.wanted.ensures at c.range.ensures.promised)

pub returns-in-Err-collected-clause-asked : goal.returns-in-Err-collected-clause-asked
returns-in-Err-collected-clause-asked g c = (c.range.new.self, c.range.result, rw c.wanted.ensures at c.range.ensures.promised)

pub returns-in-Err-clause-halted : goal.returns-in-Err-clause-halted
returns-in-Err-clause-halted g c =
    let promises = g.S.OrderedStore.promises in
    let run = Opens c.args.budget (bound_of c.args.lo) (bound_of c.args.hi) c.wanted.result c.range.result in
    subst (λ (r : Result Bool (Outcome Reply)). IfErr r (λ answer. HasRefusedRead promises answer c.args.store.now c.range.new.self)) c.in-Err.is
    (read_refused promises run c.args.store.now c.args.store.now c.range.new.self refl c.range.ensures.promised
    c.range.result c.done.result refl c.done.ensures c.range.ensures.never_deep)

pub returns-in-Ok-clause-read : goal.returns-in-Ok-clause-read
returns-in-Ok-clause-read g c =
    let promises = g.S.OrderedStore.promises in
    let run = Opens c.args.budget (bound_of c.args.lo) (bound_of c.args.hi) c.wanted.result c.range.result in
    let opened = subst (λ (r : Result Bool (Outcome Reply)). IfOk r (λ was. HasRead promises c.args.store.now c.range.new.self)) c.in_default.is
    (read_done promises run c.args.store.now c.args.store.now c.range.new.self refl c.range.ensures.promised
    c.range.result c.done.result refl c.done.ensures) in
    read_both promises c.args.store.now c.range.new.self c.close_run.new.self opened
    (read_both promises c.range.new.self c.collect-collected.new.store c.close_run.new.self c.collect-collected.ensures.read
    (read_once promises Closes c.collect-collected.new.store c.close_run.new.self refl c.close_run.ensures.promised))

pub returns-in-Err-collected-clause-halted : goal.returns-in-Err-collected-clause-halted
returns-in-Err-collected-clause-halted g c =
    let promises = g.S.OrderedStore.promises in
    let run = Opens c.args.budget (bound_of c.args.lo) (bound_of c.args.hi) c.wanted.result c.range.result in
    let opened = subst (λ (r : Result Bool (Outcome Reply)). IfOk r (λ was. HasRead promises c.args.store.now c.range.new.self)) c.in_default.is
    (read_done promises run c.args.store.now c.args.store.now c.range.new.self refl c.range.ensures.promised
    c.range.result c.done.result refl c.done.ensures) in
    read_both promises c.args.store.now c.range.new.self c.close_run.new.self opened
    (read_both promises c.range.new.self c.collect-collected.new.store c.close_run.new.self c.collect-collected.ensures.read
    (read_once promises Closes c.collect-collected.new.store c.close_run.new.self refl c.close_run.ensures.promised))
