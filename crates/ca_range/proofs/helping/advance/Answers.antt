use Rattle.std.proofs.Common.{rules, ◌+◌, ◌<◌, ◌≤◌, List, sym, ap, ◌∙◌, subst, inl, arith}
use Rattle.ca_base.proofs.Counts.{met_both}
use Rattle.ca_base.specs.Putting.{first_note}
use Rattle.ca_node.specs.Row.{IsMarkedBy}
use Rattle.ca_node.specs.Told.{MyTree}
use Rattle.ca_node.specs.TreeView.{Note, TreeView}
use Rattle.ca_node.proofs.Tallies.{tallied_still}
use Rattle.ca_range.specs.Farther.{reach, reach_to}
use Rattle.ca_range.specs.Filling.{HasStepped, IsCopyOf, step_lost}
use Rattle.ca_range.specs.Marked.{IsNextTo, second_note}
use Rattle.ca_base.specs.Spending.{IsSpentOn}
use Rattle.ca_range.specs.Staying.{OnlySteps}
use Rattle.ca_range.specs.declared.account.Range.{Range}
use Rattle.ca_range.proofs.Filled.{goes_to, last_shown, passed_on, raised_met, stepped_after}
use Rattle.ca_range.proofs.Readied.{ready_reads, ready_still, stays_then}
use Rattle.ca_base.proofs.Spends.{on_both}
use Rattle.ca_range.proofs.Stepping.{steps_both}
use Rattle.ca_range.specs.Loading.{StepsBy}
use Rattle.ca_range.proofs.Loaded.{ends_after, ends_by, ends_here, steps_after}
use Rattle.ca_range.proofs.helping.advance.Goals as goal

pub decide-requires-clause-ready : goal.decide-requires-clause-ready
decide-requires-clause-ready c = ready_still c.args.space.now c.args.pass.now c.go_along.new.pass c.requires.ready c.go_along.ensures.frame
    c.go_along.ensures.raised c.go_along.ensures.steps

pub mark_for-mark-requires-clause-behind : goal.mark_for-mark-requires-clause-behind
mark_for-mark-requires-clause-behind c = let r = c.in-Before.ensures.reached.0 in
    (second_note c.go_along.new.pass.seat.me.0.upper.notes, r.left_shown, r.bound)

pub mark_for-mark-requires-clause-shown : goal.mark_for-mark-requires-clause-shown
mark_for-mark-requires-clause-shown c = let u = c.go_along.new.pass.seat.me.0.upper in
    (first_note u.notes, last_shown c.args.space.now.table.shared.key u c.in-Before.next c.in-Before.ensures.reached.0.at)

pub fill_gap-requires-clause-ready : goal.fill_gap-requires-clause-ready
fill_gap-requires-clause-ready c = ready_reads c.args.space.now c.go_along.new.pass c.mark_for-mark.new.pass
    (ready_still c.args.space.now c.args.pass.now c.go_along.new.pass c.requires.ready c.go_along.ensures.frame c.go_along.ensures.raised
    c.go_along.ensures.steps) c.mark_for-mark.ensures.frame

pub fill_gap-requires-clause-leaf : goal.fill_gap-requires-clause-leaf
fill_gap-requires-clause-leaf c = let few = c.requires.tuned.allowed.most_leaf in let leaf = c.requires.tuned.leaf in omega arith

pub fill_gap-requires-clause-next : goal.fill_gap-requires-clause-next
fill_gap-requires-clause-next c = let r = c.in-Before.ensures.reached.0 in let mark = c.mark_for-mark.result in let e = c.mark_for-mark.ensures in
    subst (λ (x : MyTree). IsNextTo x.0.upper mark (second_note x.0.upper.notes) (first_note x.0.upper.notes)) (sym e.frame.still) record {
      shown = r.left_shown.noted;
      marked = (
        r.left_marked.0,
        r.left_marked.1 ∙ sym (ap (λ (x : Range). x.owner) e.range),
        r.left_marked.2 ∙ sym (ap (λ (x : Range). x.number) e.range),
      );
      bound_is = e.bound (second_note c.go_along.new.pass.seat.me.0.upper.notes) r.left_shown;
      back_is = e.back ∙ sym r.left_shown.here;
      key = r.key;
      ends = r.ends;
      has = r.has;
    }

pub fill_gap-requires-clause-owner : goal.fill_gap-requires-clause-owner
fill_gap-requires-clause-owner c = subst (λ (x : Range). (0 < x.owner) × (x.owner ≤ 64)) (sym c.mark_for-mark.ensures.range)
    (c.requires.other.0, c.requires.other.1)

pub returns-in-Whole-clause-frame : goal.returns-in-Whole-clause-frame
returns-in-Whole-clause-frame c = stays_then c.args.space.now c.args.pass.now c.go_along.new.pass c.decide.new.pass c.go_along.ensures.frame
    c.go_along.ensures.raised c.go_along.ensures.no_join c.go_along.ensures.steps c.decide.ensures.frame

pub returns-in-Before-clause-frame : goal.returns-in-Before-clause-frame
returns-in-Before-clause-frame c = let still = c.mark_for-mark.ensures.frame.still in
    let only = ap (λ (x : MyTree). x.0.upper) still ∙ c.go_along.ensures.steps.only in record {
      same = search rules;
      number = search rules;
      tally = λ t. c.fill_gap.ensures.frame.tally (tallied_still c.args.pass.now.tally c.mark_for-mark.new.pass.tally c.args.pass.now.seat.me.0.upper
          c.mark_for-mark.new.pass.seat.me.0.upper (c.mark_for-mark.ensures.frame.tally ∙ c.go_along.ensures.frame.tally)
          (ap (λ (u : TreeView). u.splits) only) (ap (λ (x : MyTree). x.0.upper.joins) still ∙ c.go_along.ensures.no_join) t);
      pin = (
        c.fill_gap.ensures.frame.pin.0 ∙ (ap (λ (x : MyTree). x.0.sizes) still ∙ ap (λ (x : MyTree). x.0.sizes) c.go_along.ensures.raised),
        c.fill_gap.ensures.frame.pin.1 ∙ (ap (λ (x : MyTree). x.0.pin) still ∙ ap (λ (x : MyTree). x.0.pin) c.go_along.ensures.raised),
      );
      own_range = c.fill_gap.ensures.frame.own_range ∙ ap (λ (u : TreeView). u.ranges.own) only;
      none = c.fill_gap.ensures.frame.none;
    }

pub returns-in-Whole-clause-steps : goal.returns-in-Whole-clause-steps
returns-in-Whole-clause-steps c = steps_both c.args.pass.now.seat.me.0.upper c.go_along.new.pass.seat.me.0.upper c.decide.new.pass.seat.me.0.upper
    c.go_along.ensures.steps c.decide.ensures.steps

pub returns-in-Whole-clause-counted : goal.returns-in-Whole-clause-counted
returns-in-Whole-clause-counted c = on_both c.args.account.now.spent c.go_along.new.account.spent c.decide.new.account.spent c.args.pass.now.seat.me
    c.go_along.new.pass.seat.me c.decide.new.pass.seat.me c.go_along.ensures.counted c.decide.ensures.counted

pub returns-in-Before-clause-steps : goal.returns-in-Before-clause-steps
returns-in-Before-clause-steps c = steps_both c.args.pass.now.seat.me.0.upper c.go_along.new.pass.seat.me.0.upper c.fill_gap.new.pass.seat.me.0.upper
    c.go_along.ensures.steps
    (subst (λ (x : MyTree). OnlySteps c.args.space.now.table.shared.key (step_lost c.fill_gap.result) x.0.upper c.fill_gap.new.pass.seat.me.0.upper)
    c.mark_for-mark.ensures.frame.still c.fill_gap.ensures.steps)

pub returns-in-Before-clause-counted : goal.returns-in-Before-clause-counted
returns-in-Before-clause-counted c = on_both c.args.account.now.spent c.go_along.new.account.spent c.fill_gap.new.account.spent c.args.pass.now.seat.me
    c.go_along.new.pass.seat.me c.fill_gap.new.pass.seat.me c.go_along.ensures.counted
    (subst (λ (x : MyTree). IsSpentOn c.go_along.new.account.spent c.fill_gap.new.account.spent x c.fill_gap.new.pass.seat.me)
    c.mark_for-mark.ensures.frame.still c.fill_gap.ensures.counted)

pub returns-in-Before-clause-stepped : goal.returns-in-Before-clause-stepped
returns-in-Before-clause-stepped c = let z = c.args.space.now.table.shared.key in let m = c.args.pass.now.seat.me in
    let k = c.go_along.new.pass.seat.me in let n = c.fill_gap.new.pass.seat.me in let still = c.mark_for-mark.ensures.frame.still in
    let more = c.fill_gap.ensures.steps.helped in let same = ap (λ (x : MyTree). x.0.upper.turns.helped) still in
    stepped_after z c.args.from.range c.fill_gap.result m k n c.go_along.ensures.raised c.go_along.ensures.steps c.go_along.ensures.counted.lost.more
    c.go_along.ensures.counted.passed.more (omega arith) (let on = c.in-Before.ensures.reached.1 in omega arith)
    (subst (λ (x : MyTree × Range). HasStepped z x.1 c.fill_gap.result x.0 n) (λ i. (still i, c.mark_for-mark.ensures.range i)) c.fill_gap.ensures.stepped)

pub returns-in-Before-clause-passed : goal.returns-in-Before-clause-passed
returns-in-Before-clause-passed c = let u = c.go_along.new.pass.seat.me.0.upper in let step = c.fill_gap.result in let mark = c.mark_for-mark.result in
    passed_on c.args.tuning.now step u c.fill_gap.new.pass.seat.me.0.upper mark.statistic
    (c.mark_for-mark.ensures.statistic (first_note u.notes)
    (last_shown c.args.space.now.table.shared.key u c.in-Before.next c.in-Before.ensures.reached.0.at))
    (subst (λ (x : MyTree). IsCopyOf (first_note x.0.upper.notes) mark.statistic step c.fill_gap.new.pass.seat.me.0.upper)
    c.mark_for-mark.ensures.frame.still c.fill_gap.ensures.copied)

pub fill_gap-requires-clause-quiet : goal.fill_gap-requires-clause-quiet
fill_gap-requires-clause-quiet c = ap (λ (x : MyTree). x.0.upper.ranges.own) c.mark_for-mark.ensures.frame.still
    ∙ (ap (λ (u : TreeView). u.ranges.own) c.go_along.ensures.steps.only ∙ c.requires.quiet)

pub returns-in-Before-clause-goes : goal.returns-in-Before-clause-goes
returns-in-Before-clause-goes c = let more = c.in-Before.ensures.reached.1 in
    let same = ap (λ (x : MyTree). reach x.0.upper) c.mark_for-mark.ensures.frame.still in
    goes_to (reach c.args.pass.now.seat.me.0.upper + 1) (reach c.mark_for-mark.new.pass.seat.me.0.upper) c.fill_gap.result
    c.fill_gap.new.pass.seat.me.0.upper (omega arith) c.fill_gap.ensures.goes

pub returns-in-Over-clause-stepped : goal.returns-in-Over-clause-stepped
returns-in-Over-clause-stepped c = (
  inl c.in-Over.ensures.reached,
  raised_met c.args.pass.now.seat.me c.go_along.new.pass.seat.me c.go_along.new.pass.seat.me.0.upper c.go_along.ensures.raised,
)

pub returns-in-Whole-clause-stepped : goal.returns-in-Whole-clause-stepped
returns-in-Whole-clause-stepped c = let r = c.in-Whole.ensures.reached in let m = c.args.pass.now.seat.me in let k = c.go_along.new.pass.seat.me in
    let n = c.decide.new.pass.seat.me in let notes = c.decide.ensures.notes in let less = c.go_along.ensures.steps.helped in
    let more = c.decide.ensures.helped in (
      inl (record {
        over = c.decide.ensures.over;
        counted = λ met. omega arith;
        marked = subst (λ (ns : List Note). IsMarkedBy (first_note ns).its c.args.from.range.owner c.args.from.range.number) (sym notes) r.0.marked;
        far = let on = r.2 in let same = ap (λ (ns : List Note). reach_to (first_note ns).place.span.high) notes in omega arith;
      }),
      met_both 0 0 0 0 m k n (raised_met m k k.0.upper c.go_along.ensures.raised) c.decide.ensures.pool,
    )

pub returns-in-Over-clause-loads : goal.returns-in-Over-clause-loads
returns-in-Over-clause-loads c = ends_here c.args.space.now.table.shared.key c.args.pass.now.seat.me.0.upper c.go_along.new.pass.seat.me.0.upper
    c.go_along.ensures.loads

pub returns-in-Whole-clause-loads : goal.returns-in-Whole-clause-loads
returns-in-Whole-clause-loads c = let z = c.args.space.now.table.shared.key in let u = c.args.pass.now.seat.me.0.upper in
    let v = c.go_along.new.pass.seat.me.0.upper in let w = c.decide.new.pass.seat.me.0.upper in let same = c.decide.ensures.loads in
    let goes = c.go_along.ensures.loads in ends_after z u v w goes (ends_by z v w goes.2 (omega arith))

pub returns-in-Before-clause-loads : goal.returns-in-Before-clause-loads
returns-in-Before-clause-loads c = let z = c.args.space.now.table.shared.key in let w = c.fill_gap.new.pass.seat.me.0.upper in
    steps_after z c.fill_gap.result c.args.pass.now.seat.me.0.upper c.go_along.new.pass.seat.me.0.upper w c.go_along.ensures.loads
    (subst (λ (x : MyTree). StepsBy z c.fill_gap.result x.0.upper w) c.mark_for-mark.ensures.frame.still c.fill_gap.ensures.loads)
