use Rattle.std.proofs.Common.{◌∙◌, ap, vec_len}
use Rattle.ca_base.specs.Progress.{IsRefused}
use Rattle.ca_model.specs.declared.outcome.Outcome.TheVariants as outcome
use Rattle.ca_replace.specs.Acts.{acts_of}
use Rattle.ca_replace.specs.Causes.{WasUnspent}
use Rattle.ca_replace.specs.Ranging.{IsRangeCaused}
use Rattle.ca_replace.proofs.Leaving.{bounded_left, done_left, few_left, lags_left, unspent_left}
use Rattle.ca_replace.proofs.LoneReads.{left_alone, reads_refused}
use Rattle.ca_replace.proofs.Misses.{if_caused_by, if_not_done, if_refused_by}
use Rattle.ca_replace.proofs.ReadLoads.{left_loads}
use Rattle.ca_replace.proofs.StoreCalls.{has_read}
use Rattle.ca_replace.proofs.reading.read.Goals as goal

pub leave-requires : goal.leave-requires
leave-requires g c = record { work = c.in-Ok.ensures.frame.at_work }

pub returns-in-Ok-clause-frame : goal.returns-in-Ok-clause-frame
returns-in-Ok-clause-frame g c = record {
  number = c.leave.ensures.frame.number ∙ c.in-Ok.ensures.frame.number;
  resting = c.leave.ensures.frame.resting;
}

pub returns-in-Ok-clause-done : goal.returns-in-Ok-clause-done
returns-in-Ok-clause-done g c = let u = c.args.pass.now.seat.me.0.upper in
    let v = c.read_or_refuse.new.pass.seat.me.0.upper in (
      v,
      done_left (g.L.Look.tells c.args.order.now.what.now c.args.tree.now.space.table.shared.key
          c.in-Ok.answer c.read_or_refuse.new.left v) u v c.leave.new.pass.seat.me.0.upper
          c.leave.ensures.left.upper c.in-Ok.ensures.come.0,
    )

pub returns-in-Ok-clause-told : goal.returns-in-Ok-clause-told
returns-in-Ok-clause-told g c last = let tree = c.args.tree.now in let pass = c.args.pass.now in
    let new = c.leave.new.pass in let k = pass.seat.me in let m = c.read_or_refuse.new.pass.seat.me
    in
    let z = tree.space.table.shared.key in let left = c.leave.ensures.left in
    let resting = c.leave.ensures.frame.resting in let answered = c.in-Ok.ensures.answered in
    let bounds = c.read_or_refuse.ensures.bounds in (
      has_read tree pass new last (g.L.Look.needs c.args.order.now.what.now) c.args.order.now.budget
          (outcome.Done c.in-Ok.answer) c.requires.resting
          (c.leave.ensures.frame.number ∙ c.in-Ok.ensures.frame.number)
          (ap acts_of left.upper ∙ c.in-Ok.ensures.come.1) tt
          (λ alone. (
            left_alone z k m new.seat.me new.kept.rows (resting.unlost alone.0)
                resting.left_before left (c.in-Ok.ensures.alone alone).0,
            tt,
          ))
          (bounded_left k m new.seat.me new.kept.rows (vec_len pass.kept.rows) left
          resting.left_before
          answered.looked bounds.bounded)
          (left_loads z k m new.seat.me new.kept.rows left resting.left_before bounds.loads),
      (
        few_left k m new.seat.me new.kept.rows left answered.looks,
        resting.few.ever,
        lags_left k m new.seat.me new.kept.rows left bounds.lags answered.all_seen,
      ),
      unspent_left k m new.seat.me new.kept.rows c.args.order.now.budget left answered.unspent,
    )

pub returns-in-Err-clause-frame : goal.returns-in-Err-clause-frame
returns-in-Err-clause-frame g c = c.in-Err.ensures.frame

pub returns-in-Err-clause-done : goal.returns-in-Err-clause-done
returns-in-Err-clause-done g c = if_not_done _ c.in-Err.why c.outcome_by.result c.outcome_by.ensures

pub returns-in-Err-clause-refused : goal.returns-in-Err-clause-refused
returns-in-Err-clause-refused g c = let u = c.args.pass.now.seat.me.0.upper in
    let v = c.read_or_refuse.new.pass.seat.me.0.upper in
    if_refused_by (λ rise. IsRefused rise u v) c.in-Err.why c.outcome_by.result c.outcome_by.ensures
    c.in-Err.ensures.come.0

pub returns-in-Err-clause-told : goal.returns-in-Err-clause-told
returns-in-Err-clause-told g c last = let tree = c.args.tree.now in let pass = c.args.pass.now in
    let new = c.read_or_refuse.new.pass in let done = c.in-Err.ensures in
    let bounds = c.read_or_refuse.ensures.bounds in
    let z = tree.space.table.shared.key in let why = c.in-Err.why in let o = c.outcome_by.result in
    let is = c.outcome_by.ensures in let budget = c.args.order.now.budget in
    let Needs = g.L.Look.needs c.args.order.now.what.now in (
      has_read tree pass new last Needs budget o c.requires.resting done.frame.number done.come.1
          (if_caused_by (λ w. IsRangeCaused Needs z pass.number budget w pass.seat.me
          pass.kept.rows new.seat.me new.kept.rows) why o is done.caused)
          (λ alone. reads_refused z why o pass.seat.me new.seat.me is (done.alone alone))
          bounds.bounded bounds.loads,
      (done.few, done.frame.resting.few.ever, bounds.lags),
      if_not_done (λ _. WasUnspent budget pass.seat.me new.seat.me) why o is,
    )
