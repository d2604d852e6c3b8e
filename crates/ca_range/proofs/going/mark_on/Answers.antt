use Rattle.std.proofs.Common.{◌≤◌, ◌<◌, ℕ, vec_len, Result, sym, ap, ◌∙◌, subst, arith}
use Rattle.ca_base.specs.Finding.{IsAtCursor, IsBaseShown}
use Rattle.ca_base.specs.Putting.{first_note}
use Rattle.ca_base.proofs.Counts.{met_both}
use Rattle.ca_base.specs.declared.stop.Stop.{Stop}
use Rattle.ca_node.specs.Row.{mark_bound}
use Rattle.ca_node.specs.States.{IsAlone}
use Rattle.ca_node.specs.Told.{MyTree, IsSettled}
use Rattle.ca_node.specs.TreeView.{TreeView}
use Rattle.ca_range.specs.Farther.{reach}
use Rattle.ca_range.specs.Gathering.{HasEnded, HasNoRun, IsGatheredNext, IsMarking}
use Rattle.ca_range.specs.Lonely.{EndsAlone, MarksAlone}
use Rattle.ca_range.specs.Marked.{IsNextTo, second_note}
use Rattle.ca_range.specs.Meeting.{AreMet}
use Rattle.ca_range.specs.Snapshots.{OnlyRanges}
use Rattle.ca_range.specs.declared.account.Range.{Range}
use Rattle.ca_range.specs.declared.gathering.Further.TheVariants as further
use Rattle.ca_range.specs.declared.sought.Snapped.{Snapped}
use Rattle.ca_rows.specs.declared.kept.KeptRows.{KeptRows}
use Rattle.ca_range.proofs.LoneMarked.{marked_on}
use Rattle.ca_range.proofs.LoneStops.{stopped_alone, stopped_lone}
use Rattle.ca_range.proofs.LoneSteps.{next_read}
use Rattle.ca_range.proofs.Filled.{far_copy, last_shown}
use Rattle.ca_range.proofs.GoingOn.{no_run_stopped, stays_pinned, stopped_ends, stopped_marking, stopped_ranges, stopped_unfinished}
use Rattle.ca_range.proofs.NextGathered.{gathered_on, is_next}
use Rattle.ca_range.proofs.OwnSteps.{goes_both, goes_over, goes_reads, met_reads, number_on, ready_on}
use Rattle.ca_range.proofs.Readied.{ready_reads}
use Rattle.ca_range.proofs.SnapshotSteps.{no_less, ranges_by_steps, read_less}
use Rattle.ca_range.proofs.Stepping.{steps_copied}
use Rattle.ca_range.proofs.Loaded.{stopped_loads}
use Rattle.ca_range.proofs.going.mark_on.Goals as goal

pub mark_for-mark-requires-clause-behind : goal.mark_for-mark-requires-clause-behind
mark_for-mark-requires-clause-behind g c = let n = c.requires.next in let inside = n.between.marking.inside in let bound = n.left_bound in
    (second_note c.args.pass.now.seat.me.0.upper.notes, n.left_shown, omega arith)

pub mark_for-mark-requires-clause-shown : goal.mark_for-mark-requires-clause-shown
mark_for-mark-requires-clause-shown g c = let u = c.args.pass.now.seat.me.0.upper in
    (first_note u.notes, last_shown c.args.space.now.table.shared.key u c.args.next c.requires.next.gone.at)

pub mark_base-requires-clause-ready : goal.mark_base-requires-clause-ready
mark_base-requires-clause-ready g c = ready_reads c.args.space.now c.args.pass.now c.mark_for-mark.new.pass c.requires.ready c.mark_for-mark.ensures.frame

pub mark_base-requires-clause-leaf : goal.mark_base-requires-clause-leaf
mark_base-requires-clause-leaf g c = let few = c.requires.tuned.allowed.most_leaf in let leaf = c.requires.tuned.leaf in omega arith

pub mark_base-requires-clause-shown : goal.mark_base-requires-clause-shown
mark_base-requires-clause-shown g c = let z = c.args.space.now.table.shared.key in
    subst (λ (x : MyTree). IsBaseShown z x.0.upper c.args.next.base (first_note x.0.upper.notes)) (sym c.mark_for-mark.ensures.frame.still)
    (last_shown z c.args.pass.now.seat.me.0.upper c.args.next c.requires.next.gone.at)

pub mark_base-requires-clause-at : goal.mark_base-requires-clause-at
mark_base-requires-clause-at g c = let z = c.args.space.now.table.shared.key in
    subst (λ (x : MyTree). IsAtCursor z (first_note x.0.upper.notes) c.args.next) (sym c.mark_for-mark.ensures.frame.still) c.requires.next.gone.at.at

pub mark_base-requires-clause-settled : goal.mark_base-requires-clause-settled
mark_base-requires-clause-settled g c = subst (λ (x : MyTree). IsSettled x.0.upper (first_note x.0.upper.notes).its)
    (sym c.mark_for-mark.ensures.frame.still) c.requires.settled

pub mark_base-requires-clause-next : goal.mark_base-requires-clause-next
mark_base-requires-clause-next g c = let e = c.mark_for-mark.ensures in let u = c.args.pass.now.seat.me.0.upper in
    let z = c.args.space.now.table.shared.key in let mark = c.mark_for-mark.result in
    subst (λ (x : MyTree). IsNextTo x.0.upper mark (second_note x.0.upper.notes) (first_note x.0.upper.notes)) (sym e.frame.still)
    (is_next g.F.Fn c.args.search.now.sought.now z u c.args.from c.args.next mark c.requires.next
    (ap (λ (r : Range). r.owner) e.range ∙ (c.number.ensures ∙ c.requires.number)) (ap (λ (r : Range). r.number) e.range) e.back
    (e.bound (second_note u.notes) c.requires.next.left_shown))

pub mark_base-requires-clause-owner : goal.mark_base-requires-clause-owner
mark_base-requires-clause-owner g c = let e = c.mark_for-mark.ensures in let same = ap (λ (r : Range). r.owner) e.range ∙ c.number.ensures in (
  subst (λ (n : ℕ). 0 < n) (sym same) c.requires.ready.numbered.1,
  subst (λ (n : ℕ). n ≤ 64) (sym same) c.requires.ready.numbered.2,
)

pub returns-in-Ok-clause-goes : goal.returns-in-Ok-clause-goes
returns-in-Ok-clause-goes g c = let p = c.args.pass.now in let q = c.mark_for-mark.new.pass in let r = c.mark_base.new.pass in
    let m = c.in-Ok.ensures.marked in let a = c.args.account.now.spent in let v = q.seat.me.0.upper in
    goes_both c.args.space.now a a c.mark_base.new.spent p q r
    (goes_reads c.args.space.now a p q c.requires.ready c.mark_for-mark.ensures.frame) record {
      frame = stays_pinned c.args.space.now q r c.mark_base.ensures.frame;
      steps = subst (OnlyRanges c.args.space.now.table.shared.key v) (sym m.now)
          (ranges_by_steps v _ (steps_copied v c.in-Ok.base m.copy));
      counted = c.mark_base.ensures.counted;
    }

pub returns-in-Ok-clause-met : goal.returns-in-Ok-clause-met
returns-in-Ok-clause-met g c = subst (AreMet c.args.account.now.met.numbers)
    (sym (ap (λ (u : TreeView). u.ranges.unfinished) c.in-Ok.ensures.marked.now
    ∙ ap (λ (x : MyTree). x.0.upper.ranges.unfinished) c.mark_for-mark.ensures.frame.still)) c.requires.met

pub returns-in-Ok-clause-further : goal.returns-in-Ok-clause-further
returns-in-Ok-clause-further g c = λ far less. let e = c.mark_for-mark.ensures in let p = c.args.pass.now in let q = c.mark_for-mark.new.pass in
    let r = c.mark_base.new.pass in let z = c.args.space.now.table.shared.key in let mark = c.mark_for-mark.result in let m = c.in-Ok.ensures.marked in
    let sought = c.args.search.now.sought.now in let few = c.requires.tuned.allowed.most_leaf in let leaf = c.requires.tuned.leaf in
    let next = subst (λ (x : MyTree). IsGatheredNext g.F.Fn sought z x.0.upper c.args.from c.args.next) (sym e.frame.still) c.requires.next in
    let number = ap (λ (x : MyTree). x.0.upper.number) e.frame.still in
    let same = far_copy z mark p.seat.me.0.upper q.seat.me.0.upper r.seat.me.0.upper c.in-Ok.base (ap (λ (x : MyTree). x.0.upper.notes) e.frame.still) m in (
      gathered_on g.F.Fn sought z q.seat.me.0.upper r.seat.me.0.upper c.args.from c.args.next mark c.in-Ok.base next
          (ap (λ (r : Range). r.owner) e.range ∙ (c.number.ensures ∙ (c.requires.number ∙ sym number))) (ap (λ (r : Range). r.number) e.range) e.back
          (e.bound (second_note p.seat.me.0.upper.notes) c.requires.next.left_shown
          ∙ ap (λ (x : MyTree). mark_bound (second_note x.0.upper.notes).its) (sym e.frame.still)) (omega arith) m,
      (let more : far < reach r.seat.me.0.upper = omega arith in more),
      met_both 0 0 0 0 p.seat.me q.seat.me r.seat.me (met_reads c.args.space.now p q e.frame) c.in-Ok.ensures.found.0,
    )

pub give_up-requires-clause-ready : goal.give_up-requires-clause-ready
give_up-requires-clause-ready g c = let q = c.mark_for-mark.new.pass in let r = c.mark_base.new.pass in let z = c.args.space.now.table.shared.key in
    ready_on c.args.space.now q r (ready_reads c.args.space.now c.args.pass.now q c.requires.ready c.mark_for-mark.ensures.frame)
    (stays_pinned c.args.space.now q r c.mark_base.ensures.frame)
    (subst (OnlyRanges z q.seat.me.0.upper) (sym c.in-Err.ensures.marked) (stopped_ranges z c.in-Err.why q.seat.me.0.upper))

pub give_up-requires-clause-number : goal.give_up-requires-clause-number
give_up-requires-clause-number g c = let q = c.mark_for-mark.new.pass in let r = c.mark_base.new.pass in let z = c.args.space.now.table.shared.key in
    number_on c.args.space.now q r (c.mark_for-mark.ensures.frame.number ∙ (c.requires.number
    ∙ sym (ap (λ (x : MyTree). x.0.upper.number) c.mark_for-mark.ensures.frame.still)))
    (stays_pinned c.args.space.now q r c.mark_base.ensures.frame)
    (subst (OnlyRanges z q.seat.me.0.upper) (sym c.in-Err.ensures.marked) (stopped_ranges z c.in-Err.why q.seat.me.0.upper))

pub give_up-requires-clause-marking : goal.give_up-requires-clause-marking
give_up-requires-clause-marking g c = let q = c.mark_for-mark.new.pass in let z = c.args.space.now.table.shared.key in
    subst (λ (u : TreeView). IsMarking z u c.args.from.own) (sym c.in-Err.ensures.marked)
    (stopped_marking z c.in-Err.why q.seat.me.0.upper c.args.from.own
    (subst (λ (x : MyTree). IsMarking z x.0.upper c.args.from.own) (sym c.mark_for-mark.ensures.frame.still) c.requires.next.between.marking))

pub returns-in-Err-clause-goes : goal.returns-in-Err-clause-goes
returns-in-Err-clause-goes g c = let p = c.args.pass.now in let q = c.mark_for-mark.new.pass in let r = c.mark_base.new.pass in let s = c.give_up.new.pass in
    let e = c.give_up.ensures in let a = c.args.account.now.spent in let b = c.mark_base.new.spent in let z = c.args.space.now.table.shared.key in
    goes_both c.args.space.now a b b p r s (goes_both c.args.space.now a a b p q r
    (goes_reads c.args.space.now a p q c.requires.ready c.mark_for-mark.ensures.frame) record {
      frame = stays_pinned c.args.space.now q r c.mark_base.ensures.frame;
      steps = subst (OnlyRanges z q.seat.me.0.upper) (sym c.in-Err.ensures.marked) (stopped_ranges z c.in-Err.why q.seat.me.0.upper);
      counted = c.mark_base.ensures.counted;
    }) (goes_over c.args.space.now b r s e.frame e.steps e.still.0 e.still.1)

pub returns-in-Err-clause-met : goal.returns-in-Err-clause-met
returns-in-Err-clause-met g c = subst (AreMet c.args.account.now.met.numbers)
    (sym (c.give_up.ensures.unfinished ∙ (ap (λ (u : TreeView). u.ranges.unfinished) c.in-Err.ensures.marked
    ∙ (stopped_unfinished c.in-Err.why c.mark_for-mark.new.pass.seat.me.0.upper
    ∙ ap (λ (x : MyTree). x.0.upper.ranges.unfinished) c.mark_for-mark.ensures.frame.still)))) c.requires.met

pub returns-in-Err-clause-further : goal.returns-in-Err-clause-further
returns-in-Err-clause-further g c = λ far less. let p = c.args.pass.now in let q = c.mark_for-mark.new.pass in let r = c.mark_base.new.pass in
    let s = c.give_up.new.pass in let z = c.args.space.now.table.shared.key in let sought = c.args.search.now.sought.now in
    subst (λ (x : Snapped). HasEnded g.F.Fn sought z c.args.search.now.budget c.mark_base.new.spent x p.seat.me s.seat.me) (sym c.refusal.ensures)
    (stopped_ends g.F.Fn sought z c.args.search.now.budget c.mark_base.new.spent c.in-Err.why p.seat.me q.seat.me r.seat.me s.seat.me
    (met_reads c.args.space.now p q c.mark_for-mark.ensures.frame) c.in-Err.ensures.found c.give_up.ensures.met
    (read_less p.seat.me q.seat.me c.mark_for-mark.ensures.frame.still) (no_less r.seat.me s.seat.me c.give_up.ensures.still.0 c.give_up.ensures.still.1))

pub returns-in-Err-clause-no_run : goal.returns-in-Err-clause-no_run
returns-in-Err-clause-no_run g c = subst (λ (s : Snapped). HasNoRun (further.Ended s)) (sym c.refusal.ensures) (no_run_stopped c.in-Err.why)

pub returns-in-Ok-clause-loads : goal.returns-in-Ok-clause-loads
returns-in-Ok-clause-loads g c = ap (λ (u : TreeView). u.loads) c.in-Ok.ensures.marked.now
    ∙ ap (λ (x : MyTree). x.0.upper.loads) c.mark_for-mark.ensures.frame.still

pub returns-in-Err-clause-loads : goal.returns-in-Err-clause-loads
returns-in-Err-clause-loads g c = c.give_up.ensures.loads ∙ (ap (λ (u : TreeView). u.loads) c.in-Err.ensures.marked
    ∙ (stopped_loads c.in-Err.why c.mark_for-mark.new.pass.seat.me.0.upper ∙ ap (λ (x : MyTree). x.0.upper.loads) c.mark_for-mark.ensures.frame.still))

pub returns-in-Ok-clause-alone : goal.returns-in-Ok-clause-alone
returns-in-Ok-clause-alone g c = λ kept m alone next. let z = c.args.space.now.table.shared.key in let q = c.mark_for-mark.new.pass in
    let r = c.mark_base.new.pass in let still = c.mark_for-mark.ensures.frame.still in
    let now = next_read kept (vec_len c.args.pass.now.kept.rows) (vec_len q.kept.rows) m c.args.pass.now.seat.me q.seat.me
    (ap (λ (x : KeptRows). vec_len x.rows) c.mark_for-mark.ensures.frame.kept) still next in
    marked_on z c.mark_for-mark.result c.in-Ok.base kept (vec_len q.kept.rows) (vec_len r.kept.rows) m q.seat.me r.seat.me c.in-Ok.ensures.marked
    (subst (λ (x : Result ℕ Stop). MarksAlone x (vec_len q.kept.rows) (vec_len r.kept.rows) q.seat.me r.seat.me) c.in-Ok.is
    (c.mark_base.ensures.alone (subst (λ (x : MyTree). IsAlone z x.0.upper) (sym still) alone) now.listed.base)) now

pub returns-in-Err-clause-alone : goal.returns-in-Err-clause-alone
returns-in-Err-clause-alone g c = λ kept m alone next. let z = c.args.space.now.table.shared.key in let q = c.mark_for-mark.new.pass in
    let r = c.mark_base.new.pass in let p = c.give_up.new.pass in let still = c.mark_for-mark.ensures.frame.still in let e = c.give_up.ensures in
    let now = next_read kept (vec_len c.args.pass.now.kept.rows) (vec_len q.kept.rows) m c.args.pass.now.seat.me q.seat.me
    (ap (λ (x : KeptRows). vec_len x.rows) c.mark_for-mark.ensures.frame.kept) still next in
    let only = subst (λ (x : MyTree). IsAlone z x.0.upper) (sym still) alone in
    let is = sym (c.requires.ready.own.1) in
    subst (λ (x : Snapped). EndsAlone z x kept (vec_len p.kept.rows) m p.seat.me) (sym c.refusal.ensures)
    (stopped_alone z c.in-Err.why kept (vec_len q.kept.rows) (vec_len r.kept.rows) p.kept c.requires.next.between.marking.begun
    c.requires.next.between.marking.border m q.seat.me r.seat.me p.seat.me
    (ap (λ (x : MyTree). x.0.upper.ranges.own) still ∙ c.requires.next.between.marking.is)
    (subst (λ (x : Result ℕ Stop). MarksAlone x (vec_len q.kept.rows) (vec_len r.kept.rows) q.seat.me r.seat.me) c.in-Err.is
    (c.mark_base.ensures.alone only now.listed.base)) c.in-Err.ensures.found c.in-Err.ensures.marked now
    (e.alone (subst (λ (u : TreeView). IsAlone z u) (sym c.in-Err.ensures.marked) (stopped_lone z c.in-Err.why q.seat.me.0.upper only)))
    e.crowded e.still e.unfinished
    (e.frame.pin.0 ∙ (c.mark_base.ensures.frame.pin.0 ∙ (ap (λ (x : MyTree). x.0.sizes) still ∙ c.requires.ready.own.1))) e.frame.none)
