use Rattle.std.proofs.Common.{vec_len, ◌+◌, sym, refl, subst, arith}
use Rattle.ca_base.proofs.Counts.{met_both}
use Rattle.ca_range.specs.Farther.{reach}
use Rattle.ca_range.specs.Meeting.{AreMet}
use Rattle.ca_range.specs.declared.sought.Snapped.TheVariants as snapped
use Rattle.ca_range.proofs.GoingOn.{in_budget}
use Rattle.ca_range.proofs.Loaded.{ends_after, ends_by, goes_both as walks_both, goes_once, goes_same}
use Rattle.ca_range.proofs.LoneSteps.{ended_alone, lone_on}
use Rattle.ca_range.proofs.OwnSteps.{ended_on, goes_both, goes_none, goes_over, number_on, ready_on}
use Rattle.ca_range.proofs.Ranking.{far_inside}
use Rattle.ca_range.proofs.SnapshotSteps.{more_turns}
use Rattle.ca_range.proofs.gathering.gather.Goals as goal

pub loop-pass-init : goal.loop-pass-init
loop-pass-init g c = record {
  ready = c.requires.ready;
  goes = goes_none c.args.space.now c.args.account.now.spent c.args.pass.now c.requires.ready.none;
  number = c.requires.number;
  met = c.requires.met;
  gathering = c.requires.gathering;
  pool = (omega arith, omega arith);
  loads = let z = c.args.space.now.table.shared.key in let u = c.args.pass.now.seat.me.0.upper in
      goes_same z u u (omega arith) (far_inside z u c.args.first.left c.requires.gathering.gone.at) refl;
  alone = λ kept m alone h. h;
}

pub loop-pass-preserved : goal.loop-pass-preserved
loop-pass-preserved g c = let inv = c.loop-pass.invariant in let e = c.go_further.ensures in let on = c.in-On.ensures.further in
    let p = c.loop-pass.pass in let q = c.go_further.new.pass in record {
      ready = ready_on c.args.space.now p q inv.ready e.goes.frame e.goes.steps;
      goes = goes_both c.args.space.now c.args.account.now.spent c.loop-pass.account.spent c.go_further.new.account.spent c.args.pass.now p q inv.goes e.goes;
      number = number_on c.args.space.now p q inv.number e.goes.frame e.goes.steps;
      met = e.met;
      gathering = on.0;
      pool = met_both 0 0 0 0 c.args.pass.now.seat.me p.seat.me q.seat.me inv.pool on.2;
      loads = let z = c.args.space.now.table.shared.key in let v = q.seat.me.0.upper in
          walks_both z c.args.pass.now.seat.me.0.upper p.seat.me.0.upper v inv.loads
          (goes_once z p.seat.me.0.upper v on.1 (far_inside z v c.in-On.next.left on.0.gone.at) c.in-On.ensures.loads);
      alone = λ kept m alone h. c.in-On.ensures.alone kept m
          (lone_on c.args.space.now.table.shared.key c.args.pass.now.seat.me.0.upper p.seat.me.0.upper inv.goes.steps alone) (inv.alone kept m alone h);
    }

pub loop-pass-smaller : goal.loop-pass-smaller
loop-pass-smaller g c = let on = c.in-On.ensures.further in let more = on.1 in
    let inside = far_inside c.args.space.now.table.shared.key c.go_further.new.pass.seat.me.0.upper c.in-On.next.left on.0.gone.at in omega arith

pub returns-in-Ended-clause-goes : goal.returns-in-Ended-clause-goes
returns-in-Ended-clause-goes g c = goes_both c.args.space.now c.args.account.now.spent c.loop-pass.account.spent c.go_further.new.account.spent
    c.args.pass.now c.loop-pass.pass c.go_further.new.pass c.loop-pass.invariant.goes c.go_further.ensures.goes

pub returns-in-Ended-clause-ended : goal.returns-in-Ended-clause-ended
returns-in-Ended-clause-ended g c = ended_on g.F.Fn c.args.search.now.sought.now c.args.space.now.table.shared.key c.args.search.now.budget
    c.go_further.new.account.spent c.in-Ended.snapped c.args.pass.now.seat.me c.loop-pass.pass.seat.me c.go_further.new.pass.seat.me
    c.loop-pass.invariant.pool
    (more_turns c.args.account.now.spent c.loop-pass.account.spent c.args.pass.now.seat.me c.loop-pass.pass.seat.me c.loop-pass.invariant.goes.counted)
    c.in-Ended.ensures.further

pub returns-clause-goes : goal.returns-clause-goes
returns-clause-goes g c = let e = c.give_up.ensures in let p = c.loop-pass.pass in let q = c.give_up.new.pass in let a = c.loop-pass.account.spent in
    goes_both c.args.space.now c.args.account.now.spent a a c.args.pass.now p q c.loop-pass.invariant.goes
    (goes_over c.args.space.now a p q e.frame e.steps e.still.0 e.still.1)

pub returns-clause-met : goal.returns-clause-met
returns-clause-met g c = subst (AreMet c.loop-pass.account.met.numbers) (sym c.give_up.ensures.unfinished) c.loop-pass.invariant.met

pub returns-in-Ended-clause-in_budget : goal.returns-in-Ended-clause-in_budget
returns-in-Ended-clause-in_budget g c = in_budget c.in-Ended.snapped c.args.search.now.budget c.loop-pass.account.spent c.go_further.new.account.spent
    (let room = c.loop-pass-test.true in let all = c.turns.ensures in omega arith) c.in-Ended.ensures.unspent

pub returns-in-Ended-clause-loads : goal.returns-in-Ended-clause-loads
returns-in-Ended-clause-loads g c = ends_after c.args.space.now.table.shared.key c.args.pass.now.seat.me.0.upper c.loop-pass.pass.seat.me.0.upper
    c.go_further.new.pass.seat.me.0.upper c.loop-pass.invariant.loads c.in-Ended.ensures.loads

pub returns-clause-loads : goal.returns-clause-loads
returns-clause-loads g c = let z = c.args.space.now.table.shared.key in let v = c.loop-pass.pass.seat.me.0.upper in
    let w = c.give_up.new.pass.seat.me.0.upper in let goes = c.loop-pass.invariant.loads in let same = c.give_up.ensures.loads in
    ends_after z c.args.pass.now.seat.me.0.upper v w goes (ends_by z v w goes.2 (omega arith))

pub returns-in-Ended-clause-alone : goal.returns-in-Ended-clause-alone
returns-in-Ended-clause-alone g c = λ kept m alone h. let inv = c.loop-pass.invariant in c.in-Ended.ensures.alone kept m
    (lone_on c.args.space.now.table.shared.key c.args.pass.now.seat.me.0.upper c.loop-pass.pass.seat.me.0.upper inv.goes.steps alone) (inv.alone kept m alone h)

pub returns-clause-alone : goal.returns-clause-alone
returns-clause-alone g c = λ kept m alone h. let inv = c.loop-pass.invariant in let z = c.args.space.now.table.shared.key in
    let p = c.loop-pass.pass in let q = c.give_up.new.pass in let e = c.give_up.ensures in let now = inv.alone kept m alone h in
    let k = inv.gathering.between.marking in
    ended_alone z snapped.Busy kept (vec_len p.kept.rows) (vec_len q.kept.rows) (reach p.seat.me.0.upper + 1) k.begun k.border m p.seat.me q.seat.me
    now.spends now.marked now.lent k.is (e.alone (lone_on z c.args.pass.now.seat.me.0.upper p.seat.me.0.upper inv.goes.steps alone)) e.still.0 e.still.1
    e.unfinished (λ e. absurd cc) (λ e. absurd cc)
