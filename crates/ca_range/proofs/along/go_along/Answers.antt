use Rattle.std.proofs.Common.{rules, ◌≡◌, ◌+◌, ◌-◌, ◌<◌, ◌≤◌, arith, true, false, sym, refl, ap, ◌∙◌, subst}
use Rattle.ca_base.specs.Putting.{first_note}
use Rattle.ca_node.specs.Told.{MyTree, with_upper}
use Rattle.ca_node.specs.TreeView.{TreeView}
use Rattle.ca_range.specs.Ahead.{IsAtMarked}
use Rattle.ca_range.specs.Along.{IsGap}
use Rattle.ca_range.specs.Farther.{reach, room}
use Rattle.ca_range.specs.Meeting.{AreMet}
use Rattle.ca_base.specs.Spending.{IsSpentOn}
use Rattle.ca_range.specs.Staying.{OnlySteps}
use Rattle.ca_range.proofs.Gaps.{is_gap, at_next}
use Rattle.ca_range.proofs.Filled.{last_shown}
use Rattle.ca_range.proofs.Ranking.{far_inside, next_farther}
use Rattle.ca_base.proofs.Spends.{on_both, on_still}
use Rattle.ca_range.proofs.Stepping.{counted_both, steps_both, steps_none}
use Rattle.ca_range.specs.Loading.{GoesBy}
use Rattle.ca_range.proofs.Loaded.{goes_both, goes_same}
use Rattle.ca_range.proofs.along.go_along.Goals as goal

pub loop-left-init : goal.loop-left-init
loop-left-init c = record {
  same = search rules;
  number = search rules;
  tally = search rules;
  kept = search rules;
  raised = refl;
  steps = steps_none c.args.pass.now.seat.me.0.upper;
  no_join = refl;
  met = c.requires.met;
  counted = on_still c.args.account.now.spent c.args.pass.now.seat.me c.args.pass.now.seat.me refl refl;
  at = c.requires.at;
  loads = goes_same c.args.space.now.table.shared.key c.args.pass.now.seat.me.0.upper c.args.pass.now.seat.me.0.upper (omega arith)
      (far_inside c.args.space.now.table.shared.key c.args.pass.now.seat.me.0.upper c.args.from c.requires.at.at) refl;
  far = omega arith;
}

pub returns-in-Over-clause-steps : goal.returns-in-Over-clause-steps
returns-in-Over-clause-steps c = steps_both c.args.pass.now.seat.me.0.upper c.loop-left.pass.seat.me.0.upper c.look_ahead.new.pass.seat.me.0.upper
    c.loop-left.invariant.steps c.look_ahead.ensures.steps

pub returns-in-Over-clause-reached : goal.returns-in-Over-clause-reached
returns-in-Over-clause-reached c = let a = c.in-Over.ensures.ahead in record {
  over = a.over;
  counted = counted_both c.args.range c.args.pass.now.seat.me.0.upper c.loop-left.pass.seat.me.0.upper c.look_ahead.new.pass.seat.me.0.upper
      c.loop-left.invariant.steps c.look_ahead.ensures.steps.helped a.counted;
  marked = a.marked;
  far = let first = c.loop-left.invariant.far in let more = a.far in omega arith;
}

pub returns-in-Whole-clause-reached : goal.returns-in-Whole-clause-reached
returns-in-Whole-clause-reached c = let a = c.in-Whole.ensures.ahead in
    (a.0, a.1, let first = c.loop-left.invariant.far in let more = a.2 in omega arith)

pub returns-in-Over-clause-counted : goal.returns-in-Over-clause-counted
returns-in-Over-clause-counted c = on_both c.args.account.now.spent c.loop-left.account.spent c.look_ahead.new.account.spent c.args.pass.now.seat.me
    c.loop-left.pass.seat.me c.look_ahead.new.pass.seat.me c.loop-left.invariant.counted c.look_ahead.ensures.counted

pub returns-in-Whole-clause-steps : goal.returns-in-Whole-clause-steps
returns-in-Whole-clause-steps c = steps_both c.args.pass.now.seat.me.0.upper c.loop-left.pass.seat.me.0.upper c.look_ahead.new.pass.seat.me.0.upper
    c.loop-left.invariant.steps c.look_ahead.ensures.steps

pub returns-in-Whole-clause-counted : goal.returns-in-Whole-clause-counted
returns-in-Whole-clause-counted c = on_both c.args.account.now.spent c.loop-left.account.spent c.look_ahead.new.account.spent c.args.pass.now.seat.me
    c.loop-left.pass.seat.me c.look_ahead.new.pass.seat.me c.loop-left.invariant.counted c.look_ahead.ensures.counted

pub is_of-requires-clause-shown : goal.is_of-requires-clause-shown
is_of-requires-clause-shown c = let u = c.look_ahead.new.pass.seat.me.0.upper in
    (first_note u.notes, last_shown c.args.space.now.table.shared.key u c.in-Next.next c.in-Next.ensures.ahead.at)

pub returns-then-not-is_of-clause-steps : goal.returns-then-not-is_of-clause-steps
returns-then-not-is_of-clause-steps c = let u = c.args.pass.now.seat.me.0.upper in
    subst (λ (x : MyTree). OnlySteps c.args.space.now.table.shared.key 0 u x.0.upper) (sym c.is_of.ensures.frame.still)
    (steps_both u c.loop-left.pass.seat.me.0.upper c.look_ahead.new.pass.seat.me.0.upper c.loop-left.invariant.steps c.look_ahead.ensures.steps)

pub returns-then-not-is_of-clause-counted : goal.returns-then-not-is_of-clause-counted
returns-then-not-is_of-clause-counted c = let a = c.args.account.now.spent in let b = c.look_ahead.new.account.spent in let m = c.args.pass.now.seat.me in
    subst (λ (x : MyTree). IsSpentOn a b m x) (sym c.is_of.ensures.frame.still)
    (on_both a c.loop-left.account.spent b m c.loop-left.pass.seat.me c.look_ahead.new.pass.seat.me c.loop-left.invariant.counted c.look_ahead.ensures.counted)

pub returns-then-not-is_of-clause-reached : goal.returns-then-not-is_of-clause-reached
returns-then-not-is_of-clause-reached c = let b = c.in-Next.ensures.ahead in let z = c.args.space.now.table.shared.key in
    let v = c.look_ahead.new.pass.seat.me.0.upper in let marked = c.is_of.ensures.marked (first_note v.notes) (last_shown z v c.in-Next.next b.at) in
    let u = c.loop-left.pass.seat.me.0.upper in let first = c.args.pass.now.seat.me.0.upper in
    let more = next_farther z c.args.range c.loop-left.left c.in-Next.next u v c.loop-left.invariant.at.at b in let far = c.loop-left.invariant.far in
    subst (λ (x : MyTree). IsGap z x.0.upper c.args.range c.loop-left.left c.in-Next.next × (reach first < reach x.0.upper)) (sym c.is_of.ensures.frame.still) (
      is_gap z c.args.range c.loop-left.left c.in-Next.next u v c.loop-left.invariant.at b
          (λ k. let no : false ≡ true = sym c.if-not-is_of.true ∙ marked.1 k in cc),
      omega arith,
    )

pub loop-left-smaller : goal.loop-left-smaller
loop-left-smaller c = let z = c.args.space.now.table.shared.key in let b = c.in-Next.ensures.ahead in
    let u = c.loop-left.pass.seat.me.0.upper in let v = c.look_ahead.new.pass.seat.me.0.upper in
    let more = next_farther z c.args.range c.loop-left.left c.in-Next.next u v c.loop-left.invariant.at.at b in
    let inside = far_inside z v c.in-Next.next b.at in
    subst (λ (x : MyTree). room 1000 + 1 - reach x.0.upper < room 1000 + 1 - reach u) (sym c.is_of.ensures.frame.still) (omega arith)

pub loop-left-preserved : goal.loop-left-preserved
loop-left-preserved c = let b = c.in-Next.ensures.ahead in let still = c.is_of.ensures.frame.still in let inv = c.loop-left.invariant in
    let z = c.args.space.now.table.shared.key in let m = c.args.pass.now.seat.me in let k = c.loop-left.pass.seat.me in
    let n = c.look_ahead.new.pass.seat.me in let spent = c.look_ahead.new.account.spent in
    let marked = (c.is_of.ensures.marked (first_note n.0.upper.notes) (last_shown z n.0.upper c.in-Next.next b.at)).0 c.if-not-is_of.false in record {
      same = search rules;
      number = search rules;
      tally = search rules;
      kept = search rules;
      raised = still ∙ (c.look_ahead.ensures.raised ∙ (ap (λ (x : MyTree). with_upper x n.0.upper) inv.raised
          ∙ ap (λ (u : TreeView). with_upper m u) (ap (λ (x : MyTree). x.0.upper) (sym still))));
      steps = subst (λ (x : MyTree). OnlySteps z 0 m.0.upper x.0.upper) (sym still)
          (steps_both m.0.upper k.0.upper n.0.upper inv.steps c.look_ahead.ensures.steps);
      no_join = ap (λ (x : MyTree). x.0.upper.joins) still ∙ (c.look_ahead.ensures.no_join ∙ inv.no_join);
      met = subst (λ (x : MyTree). AreMet c.look_ahead.new.account.met.numbers x.0.upper.ranges.unfinished) (sym still) c.look_ahead.ensures.met;
      counted = subst (λ (x : MyTree). IsSpentOn c.args.account.now.spent spent m x) (sym still)
          (on_both c.args.account.now.spent c.loop-left.account.spent spent m k n inv.counted c.look_ahead.ensures.counted);
      at = subst (λ (x : MyTree). IsAtMarked z x.0.upper c.args.range c.in-Next.next) (sym still)
          (at_next z c.args.range c.in-Next.next k.0.upper n.0.upper b marked);
      loads = subst (λ (x : MyTree). GoesBy z m.0.upper x.0.upper) (sym still)
          (goes_both z m.0.upper k.0.upper n.0.upper inv.loads c.look_ahead.ensures.loads);
      far = subst (λ (x : MyTree). reach m.0.upper ≤ reach x.0.upper) (sym still)
          (let more = next_farther z c.args.range c.loop-left.left c.in-Next.next k.0.upper n.0.upper inv.at.at b in let far = inv.far in omega arith);
    }

pub returns-in-Over-clause-no_join : goal.returns-in-Over-clause-no_join
returns-in-Over-clause-no_join c = c.look_ahead.ensures.no_join ∙ c.loop-left.invariant.no_join

pub returns-in-Whole-clause-no_join : goal.returns-in-Whole-clause-no_join
returns-in-Whole-clause-no_join c = c.look_ahead.ensures.no_join ∙ c.loop-left.invariant.no_join

pub returns-then-not-is_of-clause-no_join : goal.returns-then-not-is_of-clause-no_join
returns-then-not-is_of-clause-no_join c = ap (λ (x : MyTree). x.0.upper.joins) c.is_of.ensures.frame.still
    ∙ (c.look_ahead.ensures.no_join ∙ c.loop-left.invariant.no_join)

pub returns-in-Over-clause-loads : goal.returns-in-Over-clause-loads
returns-in-Over-clause-loads c = goes_both c.args.space.now.table.shared.key c.args.pass.now.seat.me.0.upper c.loop-left.pass.seat.me.0.upper
    c.look_ahead.new.pass.seat.me.0.upper c.loop-left.invariant.loads c.look_ahead.ensures.loads

pub returns-in-Whole-clause-loads : goal.returns-in-Whole-clause-loads
returns-in-Whole-clause-loads c = goes_both c.args.space.now.table.shared.key c.args.pass.now.seat.me.0.upper c.loop-left.pass.seat.me.0.upper
    c.look_ahead.new.pass.seat.me.0.upper c.loop-left.invariant.loads c.look_ahead.ensures.loads

pub returns-then-not-is_of-clause-loads : goal.returns-then-not-is_of-clause-loads
returns-then-not-is_of-clause-loads c = let z = c.args.space.now.table.shared.key in let u = c.args.pass.now.seat.me.0.upper in
    subst (λ (x : MyTree). GoesBy z u x.0.upper) (sym c.is_of.ensures.frame.still)
    (goes_both z u c.loop-left.pass.seat.me.0.upper c.look_ahead.new.pass.seat.me.0.upper c.loop-left.invariant.loads c.look_ahead.ensures.loads)

pub returns-then-not-is_of-clause-met : goal.returns-then-not-is_of-clause-met
returns-then-not-is_of-clause-met c = subst (λ (x : MyTree). AreMet c.look_ahead.new.account.met.numbers x.0.upper.ranges.unfinished)
    (sym c.is_of.ensures.frame.still) c.look_ahead.ensures.met
