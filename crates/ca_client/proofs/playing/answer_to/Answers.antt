use Rattle.std.proofs.Common.{◌*◌, ◌∙◌, Ok, Err, refl, subst, arith}
use Rattle.std.specs.Prelude.{OnErr, Result}
use Rattle.ca_ets.specs.Command.{Continuation, Full, Deep, Worn, continuation_of, response_of}
use Rattle.ca_ets.specs.Step.{nature_of}
use Rattle.ca_model.specs.declared.outcome.Cause.TheVariants as cause
use Rattle.ca_table.specs.ComesTo.{StepsOnce}
use Rattle.ca_client.proofs.Chain.{last_try, no_tries, one_try}
use Rattle.ca_client.proofs.Trying.{not_tried, tried_again, behind_wait, replied, refused, at_last, stopped, lacking_reads}
use Rattle.ca_client.proofs.playing.answer_to.Goals as goal

on_err : {A B P : Type 0} (r : Result A B) → P → OnErr r P
on_err (Ok x) p = tt
on_err (Err e) p = p

pub loop-init : goal.loop-init
loop-init g c = record {
  tried = not_tried (g.S.OrderedStore.knows c.args.table.now);
  made = no_tries g.S.OrderedStore.knows g.S.OrderedStore.promises g.W.Follower.asked c.args.cmd.now c.args.table.now;
  stays = refl;
  continuation = c.requires;
  budget = omega arith;
  few = omega arith;
}

pub returns-in_err-reply-clause-stopped : goal.returns-in_err-reply-clause-stopped
returns-in_err-reply-clause-stopped g c =
    let first = g.S.OrderedStore.knows c.args.table.now in
    let table = g.S.OrderedStore.knows c.loop.table in
    let next = g.S.OrderedStore.knows c.apply.new.self in
    on_err c.from_residual.result
    (stopped first table next c.loop.budget c.loop.waits c.loop.invariant.tried
    (lacking_reads table next (nature_of c.args.cmd.now).takes c.in_err-reply.ensures.comes.0))

pub returns-in-Done-clause-answered : goal.returns-in-Done-clause-answered
returns-in-Done-clause-answered g c =
    let first = g.S.OrderedStore.knows c.args.table.now in
    let table = g.S.OrderedStore.knows c.loop.table in
    let next = g.S.OrderedStore.knows c.apply.new.self in
    let once = rw c.in-Done.is at c.in_ok-reply.ensures.comes in
    replied first table next c.loop.budget c.loop.waits c.loop.invariant.tried
    (continuation_of c.args.cont.now) (continuation_of c.apply.new.cont) c.args.cmd.now (response_of c.in-Done.reply)
    (subst (λ (k : Continuation). StepsOnce table next k c.args.cmd.now (response_of c.in-Done.reply) (continuation_of c.apply.new.cont))
    c.loop.invariant.stays once)

pub loop-preserved-then-budget-lt-MOST_BUDGET : goal.loop-preserved-then-budget-lt-MOST_BUDGET
loop-preserved-then-budget-lt-MOST_BUDGET g c =
    let first = g.S.OrderedStore.knows c.args.table.now in
    let table = g.S.OrderedStore.knows c.loop.table in
    let next = g.S.OrderedStore.knows c.apply.new.self in
    let busy = rw c.in-Busy.is at c.in_ok-reply.ensures.comes in
    let low = c.loop.invariant.budget in record {
      tried = tried_again first table next c.loop.budget c.loop.waits (c.loop.budget * 2) c.args.cmd.now c.in-Busy.field-0
          c.loop.invariant.tried busy.0 (omega arith) (omega arith);
      made = one_try g.S.OrderedStore.knows g.S.OrderedStore.promises g.W.Follower.asked c.args.cmd.now
          c.args.table.now c.loop.table c.apply.new.self c.loop.budget _ c.loop.invariant.made tt busy.0 (rw c.in-Busy.is at c.in_ok-reply.ensures.made);
      stays = busy.1 ∙ c.loop.invariant.stays;
      continuation = c.apply.ensures.continuation;
      budget = omega arith;
      few = c.loop.invariant.few;
    }

pub loop-preserved-else-budget-lt-MOST_BUDGET : goal.loop-preserved-else-budget-lt-MOST_BUDGET
loop-preserved-else-budget-lt-MOST_BUDGET g c =
    let first = g.S.OrderedStore.knows c.args.table.now in
    let table = g.S.OrderedStore.knows c.loop.table in
    let next = g.S.OrderedStore.knows c.apply.new.self in
    let busy = rw c.in-Busy.is at c.in_ok-reply.ensures.comes in
    let most = c.if-budget-lt-MOST_BUDGET.false in record {
      tried = tried_again first table next c.loop.budget c.loop.waits c.loop.budget c.args.cmd.now c.in-Busy.field-0
          c.loop.invariant.tried busy.0 (omega arith) (omega arith);
      made = one_try g.S.OrderedStore.knows g.S.OrderedStore.promises g.W.Follower.asked c.args.cmd.now
          c.args.table.now c.loop.table c.apply.new.self c.loop.budget _ c.loop.invariant.made tt busy.0 (rw c.in-Busy.is at c.in_ok-reply.ensures.made);
      stays = busy.1 ∙ c.loop.invariant.stays;
      continuation = c.apply.ensures.continuation;
      budget = c.loop.invariant.budget;
      few = c.loop.invariant.few;
    }

pub returns-then-not-is_worth_a_wait-clause-answered : goal.returns-then-not-is_worth_a_wait-clause-answered
returns-then-not-is_worth_a_wait-clause-answered g c =
    let first = g.S.OrderedStore.knows c.args.table.now in
    let table = g.S.OrderedStore.knows c.loop.table in
    let next = g.S.OrderedStore.knows c.apply.new.self in
    let full = rw c.in-Full.is at c.in_ok-reply.ensures.comes in
    let last = rw c.if-not-is_worth_a_wait.true at c.is_worth_a_wait.ensures in
    refused first table next c.loop.budget c.loop.waits c.loop.invariant.tried
    (continuation_of c.args.cont.now) (continuation_of c.apply.new.cont) c.args.cmd.now Full (cause.Full c.in-Full.why) full.0.1
    (full.1 ∙ c.loop.invariant.stays) (at_last c.in-Full.why c.loop.waits last c.loop.invariant.few)

pub loop-preserved : goal.loop-preserved
loop-preserved g c =
    let first = g.S.OrderedStore.knows c.args.table.now in
    let table = g.S.OrderedStore.knows c.loop.table in
    let next = g.S.OrderedStore.knows c.apply.new.self in
    let full = rw c.in-Full.is at c.in_ok-reply.ensures.comes in
    let worth = rw c.if-not-is_worth_a_wait.false at c.is_worth_a_wait.ensures in
    let few = worth.1 in record {
      tried = behind_wait first table next c.loop.budget c.loop.waits c.loop.invariant.tried c.in-Full.why full.0.1
          worth.0 few;
      made = one_try g.S.OrderedStore.knows g.S.OrderedStore.promises g.W.Follower.asked c.args.cmd.now
          c.args.table.now c.loop.table c.apply.new.self c.loop.budget _ c.loop.invariant.made tt full.0 (rw c.in-Full.is at c.in_ok-reply.ensures.made);
      stays = full.1 ∙ c.loop.invariant.stays;
      continuation = c.apply.ensures.continuation;
      budget = c.loop.invariant.budget;
      few = omega arith;
    }

pub returns-in-Deep-clause-answered : goal.returns-in-Deep-clause-answered
returns-in-Deep-clause-answered g c =
    let first = g.S.OrderedStore.knows c.args.table.now in
    let table = g.S.OrderedStore.knows c.loop.table in
    let next = g.S.OrderedStore.knows c.apply.new.self in
    let deep = rw c.in-Deep.is at c.in_ok-reply.ensures.comes in
    refused first table next c.loop.budget c.loop.waits c.loop.invariant.tried
    (continuation_of c.args.cont.now) (continuation_of c.apply.new.cont) c.args.cmd.now Deep (cause.Deep c.in-Deep.field-0) deep.0.1
    (deep.1 ∙ c.loop.invariant.stays) tt

pub returns-in-Worn-clause-answered : goal.returns-in-Worn-clause-answered
returns-in-Worn-clause-answered g c =
    let first = g.S.OrderedStore.knows c.args.table.now in
    let table = g.S.OrderedStore.knows c.loop.table in
    let next = g.S.OrderedStore.knows c.apply.new.self in
    let worn = rw c.in-Worn.is at c.in_ok-reply.ensures.comes in
    refused first table next c.loop.budget c.loop.waits c.loop.invariant.tried
    (continuation_of c.args.cont.now) (continuation_of c.apply.new.cont) c.args.cmd.now Worn (cause.Worn c.in-Worn.field-0) worn.0.1
    (worn.1 ∙ c.loop.invariant.stays) tt

pub returns-in-Done-clause-made : goal.returns-in-Done-clause-made
returns-in-Done-clause-made g c =
    last_try g.S.OrderedStore.knows g.S.OrderedStore.promises g.W.Follower.asked c.args.cmd.now _
    c.args.table.now c.loop.table c.apply.new.self _ c.loop.invariant.made (rw c.in-Done.is at c.in_ok-reply.ensures.made) refl
    (returns-in-Done-clause-answered g c).grown.same

pub returns-then-not-is_worth_a_wait-clause-made : goal.returns-then-not-is_worth_a_wait-clause-made
returns-then-not-is_worth_a_wait-clause-made g c =
    last_try g.S.OrderedStore.knows g.S.OrderedStore.promises g.W.Follower.asked c.args.cmd.now _
    c.args.table.now c.loop.table c.apply.new.self _ c.loop.invariant.made (rw c.in-Full.is at c.in_ok-reply.ensures.made) refl
    (returns-then-not-is_worth_a_wait-clause-answered g c).grown.same

pub returns-in-Deep-clause-made : goal.returns-in-Deep-clause-made
returns-in-Deep-clause-made g c =
    last_try g.S.OrderedStore.knows g.S.OrderedStore.promises g.W.Follower.asked c.args.cmd.now _
    c.args.table.now c.loop.table c.apply.new.self _ c.loop.invariant.made (rw c.in-Deep.is at c.in_ok-reply.ensures.made) refl
    (returns-in-Deep-clause-answered g c).grown.same

pub returns-in-Worn-clause-made : goal.returns-in-Worn-clause-made
returns-in-Worn-clause-made g c =
    last_try g.S.OrderedStore.knows g.S.OrderedStore.promises g.W.Follower.asked c.args.cmd.now _
    c.args.table.now c.loop.table c.apply.new.self _ c.loop.invariant.made (rw c.in-Worn.is at c.in_ok-reply.ensures.made) refl
    (returns-in-Worn-clause-answered g c).grown.same
