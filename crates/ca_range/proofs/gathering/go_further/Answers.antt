use Rattle.std.proofs.Common.{◌<◌, ◌+◌, vec_len, sym, refl, ap, ◌∙◌, subst, arith}
use Rattle.ca_base.specs.Counting.{losses}
use Rattle.ca_base.proofs.Counts.{met_both}
use Rattle.ca_base.specs.Putting.{first_note}
use Rattle.ca_model.specs.Edges.{Excluded}
use Rattle.ca_node.specs.Links.{IsIn}
use Rattle.ca_node.specs.States.{IsAlone}
use Rattle.ca_node.specs.Told.{MyTree}
use Rattle.ca_range.specs.Farther.{reach}
use Rattle.ca_range.specs.Gathering.{IsEnough, IsGathering}
use Rattle.ca_range.specs.Lonely.{GathersNext}
use Rattle.ca_range.specs.Looking.{HasAdded}
use Rattle.ca_range.specs.Meeting.{AreMet}
use Rattle.ca_range.specs.declared.sought.Snapped.TheVariants as snapped
use Rattle.ca_rows.specs.declared.kept.KeptRows.{KeptRows}
use Rattle.ca_range.proofs.LoneMarked.{walked_on}
use Rattle.ca_range.proofs.LoneSteps.{ended_alone, gathers_read, lone_on}
use Rattle.ca_range.proofs.Filled.{raised_met}
use Rattle.ca_range.proofs.GoingOn.{further_on, goes_steps, no_run_unspent, walked_raised}
use Rattle.ca_range.proofs.Loaded.{ends_by, gathers_walked}
use Rattle.ca_range.proofs.NextGathered.{gathered_next}
use Rattle.ca_range.proofs.OwnSteps.{goes_both, goes_reads, goes_then, met_reads, settled_on}
use Rattle.ca_range.proofs.Ranking.{far_inside}
use Rattle.ca_range.proofs.Readied.{ready_reads, ready_still}
use Rattle.ca_range.proofs.SnapshotSteps.{no_less, no_less_both, ranges_by_steps, read_less}
use Rattle.ca_base.proofs.Spends.{on_still}
use Rattle.ca_range.proofs.Stepping.{steps_by_walk}
use Rattle.ca_range.proofs.gathering.go_further.Goals as goal

pub decide_run-run-requires-clause-ready : goal.decide_run-run-requires-clause-ready
decide_run-run-requires-clause-ready g c = ready_reads c.args.space.now c.args.pass.now c.look.new.pass c.requires.ready c.look.ensures.frame

pub decide_run-run-requires-clause-number : goal.decide_run-run-requires-clause-number
decide_run-run-requires-clause-number g c = c.look.ensures.frame.number ∙ (c.requires.number
    ∙ sym (ap (λ (x : MyTree). x.0.upper.number) c.look.ensures.frame.still))

pub decide_run-run-requires-clause-leaf : goal.decide_run-run-requires-clause-leaf
decide_run-run-requires-clause-leaf g c = let few = c.requires.tuned.allowed.most_leaf in let leaf = c.requires.tuned.leaf in omega arith

pub decide_run-run-requires-clause-enough : goal.decide_run-run-requires-clause-enough
decide_run-run-requires-clause-enough g c = subst (λ (x : MyTree). IsEnough g.F.Fn c.args.search.now.sought.now c.args.space.now.table.shared.key x.0.upper
    c.args.from c.in-Done.whole) (sym c.look.ensures.frame.still) (c.requires.gathering, (_, c.in-Done.ensures.looked))

pub returns-in-Done : goal.returns-in-Done
returns-in-Done g c = let p = c.args.pass.now in let q = c.look.new.pass in let r = c.decide_run-run.new.pass in let e = c.decide_run-run.ensures in
    let z = c.args.space.now.table.shared.key in let sought = c.args.search.now.sought.now in record {
      goes = goes_then c.args.space.now c.args.account.now.spent p q r c.requires.ready c.look.ensures.frame e.frame e.steps e.still;
      met = subst (AreMet c.args.account.now.met.numbers)
          (sym (e.unfinished ∙ ap (λ (x : MyTree). x.0.upper.ranges.unfinished) c.look.ensures.frame.still)) c.requires.met;
      further = settled_on g.F.Fn sought z c.decide_run-run.result p.seat.me q.seat.me r.seat.me (met_reads c.args.space.now p q c.look.ensures.frame) e.ended;
      quiet = e.quiet;
      unspent = refl;
      loads = let u = p.seat.me.0.upper in let read = ap (λ (x : MyTree). x.0.upper.loads) c.look.ensures.frame.still in let same = e.loads in
          ends_by z u r.seat.me.0.upper (far_inside z u c.args.from.left c.requires.gathering.gone.at) (omega arith);
      alone = λ kept m alone h. let k = c.requires.gathering.between.marking in
          let now = gathers_read kept (vec_len p.kept.rows) (vec_len q.kept.rows) m p.seat.me q.seat.me
          (ap (λ (x : KeptRows). vec_len x.rows) c.look.ensures.frame.kept) c.look.ensures.frame.still h in
          ended_alone z (snapped.Run c.decide_run-run.result) kept (vec_len q.kept.rows) (vec_len r.kept.rows) (reach q.seat.me.0.upper + 1) k.begun k.border m
          q.seat.me r.seat.me now.spends now.marked now.lent (ap (λ (x : MyTree). x.0.upper.ranges.own) c.look.ensures.frame.still ∙ k.is)
          (e.alone (subst (λ (x : MyTree). IsAlone z x.0.upper) (sym c.look.ensures.frame.still) alone)) e.still.0 e.still.1 e.unfinished
          (λ e. absurd cc) (λ e. absurd cc);
    }

pub go_to-requires-clause-ready : goal.go_to-requires-clause-ready
go_to-requires-clause-ready g c = let w = c.walk-next.ensures.walked in let q = c.look.new.pass in let r = c.walk-next.new.pass in
    ready_still c.args.space.now q r (ready_reads c.args.space.now c.args.pass.now q c.requires.ready c.look.ensures.frame) c.walk-next.ensures.frame
    (walked_raised _ _ q.seat.me r.seat.me c.walk-next.result w) (steps_by_walk _ q.seat.me r.seat.me c.walk-next.result w)

pub go_to-requires-clause-number : goal.go_to-requires-clause-number
go_to-requires-clause-number g c = c.walk-next.ensures.frame.number ∙ (c.look.ensures.frame.number ∙ (c.requires.number
    ∙ sym (ap (λ (x : MyTree). x.0.upper.number) c.walk-next.ensures.walked.now ∙ ap (λ (x : MyTree). x.0.upper.number) c.look.ensures.frame.still)))

pub go_to-requires-clause-met : goal.go_to-requires-clause-met
go_to-requires-clause-met g c = subst (AreMet c.args.account.now.met.numbers) (sym (ap (λ (x : MyTree). x.0.upper.ranges.unfinished)
    c.walk-next.ensures.walked.now
    ∙ ap (λ (x : MyTree). x.0.upper.ranges.unfinished) c.look.ensures.frame.still)) c.requires.met

pub go_to-requires-clause-next : goal.go_to-requires-clause-next
go_to-requires-clause-next g c = let few = c.requires.tuned.allowed.most_leaf in let leaf = c.requires.tuned.leaf in
    let z = c.args.space.now.table.shared.key in let sought = c.args.search.now.sought.now in let l = c.in-On.ensures.looked in
    let still = c.look.ensures.frame.still in
    (gathered_next g.F.Fn sought z c.deref.result c.look.new.pass.seat.me c.walk-next.new.pass.seat.me c.args.from c.in-On.counted c.walk-next.result
    c.walk-next.ensures.walked (omega arith) (subst (λ (x : MyTree). IsGathering g.F.Fn sought z x.0.upper c.args.from) (sym still) c.requires.gathering)
    (ap (λ (x : MyTree). (first_note x.0.upper.notes).place.span.high) still ∙ (l.0 ∙ ap Excluded (sym c.deref.ensures.0)))
    (subst (λ (x : MyTree). HasAdded g.F.Fn sought c.args.from.counted c.in-On.counted (first_note x.0.upper.notes)) (sym still) l.1)).0

pub returns-in-On : goal.returns-in-On
returns-in-On g c = let few = c.requires.tuned.allowed.most_leaf in let leaf = c.requires.tuned.leaf in
    let z = c.args.space.now.table.shared.key in let sought = c.args.search.now.sought.now in let l = c.in-On.ensures.looked in
    let still = c.look.ensures.frame.still in let p = c.args.pass.now in let q = c.look.new.pass in let r = c.walk-next.new.pass in let t = c.go_to.new.pass in
    let a = c.args.account.now.spent in let d = c.go_to.new.account.spent in let w = c.walk-next.ensures.walked in
    let raised = walked_raised _ _ q.seat.me r.seat.me c.walk-next.result w in
    let next = gathered_next g.F.Fn sought z c.deref.result q.seat.me r.seat.me c.args.from c.in-On.counted c.walk-next.result
    w (omega arith) (subst (λ (x : MyTree). IsGathering g.F.Fn sought z x.0.upper c.args.from) (sym still) c.requires.gathering)
    (ap (λ (x : MyTree). (first_note x.0.upper.notes).place.span.high) still ∙ (l.0 ∙ ap Excluded (sym c.deref.ensures.0)))
    (subst (λ (x : MyTree). HasAdded g.F.Fn sought c.args.from.counted c.in-On.counted (first_note x.0.upper.notes)) (sym still) l.1) in
    let far = next.1 in let near = ap (λ (x : MyTree). reach x.0.upper) still in record {
      goes = goes_both c.args.space.now a a d p r t (goes_both c.args.space.now a a a p q r
          (goes_reads c.args.space.now a p q c.requires.ready c.look.ensures.frame)
          (goes_steps c.args.space.now a a q r (ready_reads c.args.space.now p q c.requires.ready c.look.ensures.frame) c.walk-next.ensures.frame raised
          (ap (λ (x : MyTree). x.0.upper.joins) w.now) (steps_by_walk _ q.seat.me r.seat.me c.walk-next.result w)
          (on_still a q.seat.me r.seat.me (ap losses w.now) (ap (λ (x : MyTree). x.0.upper.turns) w.now)))) c.go_to.ensures.goes;
      met = c.go_to.ensures.met;
      further = further_on g.F.Fn sought z (reach p.seat.me.0.upper) c.args.search.now.budget d c.go_to.result p.seat.me r.seat.me t.seat.me
          (met_both 0 0 0 0 p.seat.me q.seat.me r.seat.me (met_reads c.args.space.now p q c.look.ensures.frame)
          (raised_met q.seat.me r.seat.me r.seat.me.0.upper raised))
          (no_less_both p.seat.me q.seat.me r.seat.me (read_less p.seat.me q.seat.me still)
          (no_less q.seat.me r.seat.me (ap losses w.now) (ap (λ (x : MyTree). x.0.upper.turns) w.now)))
          (c.go_to.ensures.further (reach p.seat.me.0.upper) (let more : reach p.seat.me.0.upper < reach r.seat.me.0.upper = omega arith in more));
      quiet = c.go_to.ensures.quiet;
      unspent = no_run_unspent c.go_to.result a d c.go_to.ensures.no_run;
      loads = let u = p.seat.me.0.upper in let v = r.seat.me.0.upper in let read = ap (λ (x : MyTree). x.0.upper.loads) still in
          let now = ap (λ (x : MyTree). x.0.upper.loads) w.now in let few = w.few in
          gathers_walked z c.go_to.result u v t.seat.me.0.upper (let more : reach u < reach v = omega arith in more)
          (far_inside z v c.walk-next.result next.0.gone.at) (omega arith) c.go_to.ensures.loads;
      alone = λ kept m alone h. let only = subst (λ (x : MyTree). IsAlone z x.0.upper) (sym still) alone in
          c.go_to.ensures.alone kept m (lone_on z q.seat.me.0.upper r.seat.me.0.upper (ranges_by_steps q.seat.me.0.upper r.seat.me.0.upper
          (steps_by_walk _ q.seat.me r.seat.me c.walk-next.result w)) only)
          (subst (λ (x : KeptRows). GathersNext kept (vec_len x.rows) m r.seat.me) (sym c.walk-next.ensures.frame.kept)
          (walked_on z _ kept (vec_len q.kept.rows) m q.seat.me r.seat.me c.walk-next.result w only
          (subst (λ (x : MyTree). IsIn (first_note x.0.upper.notes) x.0.upper.notes) (sym still) c.requires.gathering.gone.at.shown.noted)
          (let more : reach q.seat.me.0.upper < reach r.seat.me.0.upper = omega arith in more)
          (gathers_read kept (vec_len p.kept.rows) (vec_len q.kept.rows) m p.seat.me q.seat.me
          (ap (λ (x : KeptRows). vec_len x.rows) c.look.ensures.frame.kept) still h)));
    }
