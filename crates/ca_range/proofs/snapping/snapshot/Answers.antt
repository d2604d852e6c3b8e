use Rattle.std.proofs.Common.{vec_len, arith}
use Rattle.ca_range.proofs.LoneSnaps.{snaps_alone}
use Rattle.ca_range.proofs.LoneSteps.{lone_on}
use Rattle.ca_range.proofs.OwnSteps.{number_on, pinned_both, ready_on, ready_stays, snapped_by}
use Rattle.ca_range.proofs.SnapshotSteps.{more_turns, ranges_both}
use Rattle.ca_base.proofs.Spends.{on_both}
use Rattle.ca_range.proofs.Loaded.{begins_most, ends_few}
use Rattle.ca_range.proofs.snapping.snapshot.Goals as goal

pub gather-requires-clause-ready : goal.gather-requires-clause-ready
gather-requires-clause-ready g c = let e = c.begin_snapshot.ensures in
    ready_on c.args.space.now c.args.pass.now c.begin_snapshot.new.pass c.requires.ready e.frame e.steps

pub gather-requires-clause-number : goal.gather-requires-clause-number
gather-requires-clause-number g c = let e = c.begin_snapshot.ensures in
    number_on c.args.space.now c.args.pass.now c.begin_snapshot.new.pass c.requires.number e.frame e.steps

pub gather-requires-clause-gathering : goal.gather-requires-clause-gathering
gather-requires-clause-gathering g c = c.in-On.ensures.begun.0

pub returns-in-On-clause-frame : goal.returns-in-On-clause-frame
returns-in-On-clause-frame g c = let space = c.args.space.now in let p = c.args.pass.now in let q = c.begin_snapshot.new.pass in let r = c.gather.new.pass in
    ready_stays space p r (pinned_both space p q r c.begin_snapshot.ensures.frame c.gather.ensures.goes.frame) c.requires.quiet c.gather.ensures.quiet

pub returns-in-On-clause-steps : goal.returns-in-On-clause-steps
returns-in-On-clause-steps g c = ranges_both c.args.pass.now.seat.me.0.upper c.begin_snapshot.new.pass.seat.me.0.upper c.gather.new.pass.seat.me.0.upper
    c.begin_snapshot.ensures.steps c.gather.ensures.goes.steps

pub returns-in-On-clause-counted : goal.returns-in-On-clause-counted
returns-in-On-clause-counted g c = on_both c.args.account.now.spent c.begin_snapshot.new.account.spent c.gather.new.account.spent
    c.args.pass.now.seat.me c.begin_snapshot.new.pass.seat.me c.gather.new.pass.seat.me c.begin_snapshot.ensures.counted c.gather.ensures.goes.counted

pub returns-in-On-clause-snapped : goal.returns-in-On-clause-snapped
returns-in-On-clause-snapped g c = let m = c.args.pass.now.seat.me in let l = c.begin_snapshot.new.pass.seat.me in let n = c.gather.new.pass.seat.me in
    let b = c.in-On.ensures.begun in let before = c.begin_snapshot.new.account.spent in let now = c.gather.new.account.spent in
    let less = more_turns c.args.account.now.spent before m l c.begin_snapshot.ensures.counted in
    let lost = less.lost in let helped = less.helped in let passed = b.4 in
    snapped_by g.F.Fn c.args.sought.now c.args.space.now.table.shared.key c.args.budget now c.gather.result m l n b.3 less (omega arith)
    (more_turns before now l n c.gather.ensures.goes.counted) c.gather.ensures.ended

pub returns-in-Ended-clause-frame : goal.returns-in-Ended-clause-frame
returns-in-Ended-clause-frame g c = ready_stays c.args.space.now c.args.pass.now c.begin_snapshot.new.pass c.begin_snapshot.ensures.frame c.requires.quiet
    c.in-Ended.ensures.quiet

pub returns-in-Ended-clause-snapped : goal.returns-in-Ended-clause-snapped
returns-in-Ended-clause-snapped g c = c.in-Ended.ensures.begun

pub returns-in-Ended-clause-in_budget : goal.returns-in-Ended-clause-in_budget
returns-in-Ended-clause-in_budget g c = c.in-Ended.ensures.in_budget

pub returns-in-On-clause-loads : goal.returns-in-On-clause-loads
returns-in-On-clause-loads g c = let z = c.args.space.now.table.shared.key in let few = c.in-On.ensures.loads in
    let more = ends_few z c.begin_snapshot.new.pass.seat.me.0.upper c.gather.new.pass.seat.me.0.upper c.gather.ensures.loads in omega arith

pub returns-in-Ended-clause-loads : goal.returns-in-Ended-clause-loads
returns-in-Ended-clause-loads g c = let z = c.args.space.now.table.shared.key in
    begins_most z c.begin_snapshot.result c.args.pass.now.seat.me.0.upper c.begin_snapshot.new.pass.seat.me.0.upper c.begin_snapshot.ensures.loads

pub returns-in-On-clause-alone : goal.returns-in-On-clause-alone
returns-in-On-clause-alone g c = λ alone known unmet. let z = c.args.space.now.table.shared.key in let p = c.args.pass.now in
    let q = c.begin_snapshot.new.pass in let r = c.gather.new.pass in let first = c.in-On.ensures.alone alone unmet in let steps = c.begin_snapshot.ensures.steps in
    snaps_alone z c.gather.result (vec_len p.kept.rows) (vec_len r.kept.rows) p.seat.me r.seat.me alone known
    (ranges_both p.seat.me.0.upper q.seat.me.0.upper r.seat.me.0.upper steps c.gather.ensures.goes.steps) first.0
    (c.gather.ensures.alone (vec_len p.kept.rows) p.seat.me (lone_on z p.seat.me.0.upper q.seat.me.0.upper steps alone) first.1)

pub returns-in-Ended-clause-alone : goal.returns-in-Ended-clause-alone
returns-in-Ended-clause-alone g c = λ alone known unmet. let p = c.args.pass.now in let q = c.begin_snapshot.new.pass in
    let first = c.in-Ended.ensures.alone alone unmet in
    snaps_alone c.args.space.now.table.shared.key c.in-Ended.snapped (vec_len p.kept.rows) (vec_len q.kept.rows) p.seat.me q.seat.me alone known
    c.begin_snapshot.ensures.steps first.0 first.1
