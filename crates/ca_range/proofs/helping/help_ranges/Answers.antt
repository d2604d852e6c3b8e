use Rattle.std.proofs.Common.{rules, ◌≢◌, ℕ, ◌<◌, ◌≤◌, sym, refl, ap, ◌∙◌, subst, inl, inr, arith}
use Rattle.ca_base.proofs.Counts.{met_both}
use Rattle.ca_node.specs.TreeView.{TreeView}
use Rattle.ca_range.proofs.Filled.{at_met, helped_after, now_still}
use Rattle.ca_range.proofs.Ranking.{far_inside}
use Rattle.ca_range.proofs.Readied.{ready_after}
use Rattle.ca_adapt.proofs.Readied.{stays_both}
use Rattle.ca_range.proofs.Spends.{help_turned}
use Rattle.ca_base.proofs.Spends.{on_both, on_still}
use Rattle.ca_range.proofs.Stepping.{steps_both, steps_none}
use Rattle.ca_range.proofs.Loaded.{ends_after, ends_here, goes_both, goes_same}
use Rattle.ca_range.proofs.helping.help_ranges.Goals as goal

pub loop-range-init : goal.loop-range-init
loop-range-init c = record {
  ready = c.requires.ready;
  frame = search rules;
  quiet = c.requires.quiet;
  other = c.requires.other;
  now = inl refl;
  number = c.requires.number;
  steps = steps_none c.args.pass.now.seat.me.0.upper;
  met = c.requires.met;
  counted = on_still c.args.account.now.spent c.args.pass.now.seat.me c.args.pass.now.seat.me refl refl;
  at = c.requires.at;
  pool = (omega arith, omega arith);
  loads = goes_same c.args.space.now.table.shared.key c.args.pass.now.seat.me.0.upper c.args.pass.now.seat.me.0.upper (omega arith)
      (far_inside c.args.space.now.table.shared.key c.args.pass.now.seat.me.0.upper c.args.from.cursor c.requires.at.at) refl;
  far = omega arith;
}

pub loop-range-preserved-in-Marked : goal.loop-range-preserved-in-Marked
loop-range-preserved-in-Marked c = let inv = c.loop-range.invariant in let steps = c.in-Marked.ensures.steps in
    let m = c.args.pass.now.seat.me in let k = c.loop-range.pass.seat.me in let n = c.advance.new.pass.seat.me in let range = c.loop-range.range in
    record {
      ready = ready_after c.args.space.now c.loop-range.pass c.advance.new.pass inv.ready c.advance.ensures.frame steps;
      frame = stays_both c.args.space.now c.args.pass.now c.loop-range.pass c.advance.new.pass inv.frame c.advance.ensures.frame;
      quiet = c.advance.ensures.frame.own_range ∙ inv.quiet;
      other = subst (λ (p : ℕ). (0 < range.owner) × (range.owner ≤ 64) × (range.owner ≢ p)) (sym (ap (λ (u : TreeView). u.number) steps.only)) inv.other;
      now = now_still c.args.from.range range m.0.upper k.0.upper n.0.upper inv.steps steps inv.now;
      number = c.advance.ensures.frame.number ∙ (inv.number ∙ sym (ap (λ (u : TreeView). u.number) steps.only));
      steps = steps_both m.0.upper k.0.upper n.0.upper inv.steps steps;
      met = c.advance.ensures.met;
      counted = on_both c.args.account.now.spent c.loop-range.account.spent c.advance.new.account.spent m k n inv.counted c.advance.ensures.counted;
      at = c.in-Marked.ensures.stepped.0;
      pool = met_both 0 0 0 0 m k n inv.pool c.in-Marked.ensures.stepped.2;
      loads = goes_both c.args.space.now.table.shared.key m.0.upper k.0.upper n.0.upper inv.loads c.in-Marked.ensures.loads;
      far = let first = inv.far in let more = c.in-Marked.ensures.goes in omega arith;
    }

pub loop-range-preserved : goal.loop-range-preserved
loop-range-preserved c = let inv = c.loop-range.invariant in let steps = c.in-Met.ensures.steps in let stepped = c.in-Met.ensures.stepped in
    let m = c.args.pass.now.seat.me in let k = c.loop-range.pass.seat.me in let n = c.advance.new.pass.seat.me in record {
      ready = ready_after c.args.space.now c.loop-range.pass c.advance.new.pass inv.ready c.advance.ensures.frame steps;
      frame = stays_both c.args.space.now c.args.pass.now c.loop-range.pass c.advance.new.pass inv.frame c.advance.ensures.frame;
      quiet = c.advance.ensures.frame.own_range ∙ inv.quiet;
      other = stepped.1.other;
      now = inr (inl stepped.1.unfinished);
      number = c.advance.ensures.frame.number ∙ (inv.number ∙ sym (ap (λ (u : TreeView). u.number) steps.only));
      steps = steps_both m.0.upper k.0.upper n.0.upper inv.steps steps;
      met = c.advance.ensures.met;
      counted = on_both c.args.account.now.spent c.loop-range.account.spent c.advance.new.account.spent m k n inv.counted c.advance.ensures.counted;
      at = at_met c.args.space.now.table.shared.key n.0.upper c.in-Met.next stepped.0 stepped.1;
      pool = met_both 0 0 0 0 m k n inv.pool stepped.2;
      loads = goes_both c.args.space.now.table.shared.key m.0.upper k.0.upper n.0.upper inv.loads c.in-Met.ensures.loads;
      far = let first = inv.far in let more = c.in-Met.ensures.goes in omega arith;
    }

pub loop-range-smaller-in-Marked : goal.loop-range-smaller-in-Marked
loop-range-smaller-in-Marked c = let inside = far_inside c.args.space.now.table.shared.key c.advance.new.pass.seat.me.0.upper c.in-Marked.next
    c.in-Marked.ensures.stepped.0.at in let more = c.in-Marked.ensures.goes in omega arith

pub loop-range-smaller : goal.loop-range-smaller
loop-range-smaller c = let inside = far_inside c.args.space.now.table.shared.key c.advance.new.pass.seat.me.0.upper c.in-Met.next.cursor
    c.in-Met.ensures.stepped.0 in let more = c.in-Met.ensures.goes in omega arith

pub returns-in-Ended-clause-frame : goal.returns-in-Ended-clause-frame
returns-in-Ended-clause-frame c = stays_both c.args.space.now c.args.pass.now c.loop-range.pass c.advance.new.pass c.loop-range.invariant.frame
    c.advance.ensures.frame

pub returns-in-Ended-clause-steps : goal.returns-in-Ended-clause-steps
returns-in-Ended-clause-steps c = steps_both c.args.pass.now.seat.me.0.upper c.loop-range.pass.seat.me.0.upper c.advance.new.pass.seat.me.0.upper
    c.loop-range.invariant.steps c.in-Ended.ensures.steps

pub returns-in-Ended-clause-helped : goal.returns-in-Ended-clause-helped
returns-in-Ended-clause-helped c = helped_after c.args.space.now.table.shared.key c.args.from.range c.loop-range.range c.args.budget c.advance.new.account.spent
    c.in-Ended.helped c.args.pass.now.seat.me c.loop-range.pass.seat.me c.advance.new.pass.seat.me c.loop-range.invariant.pool
    c.loop-range.invariant.steps c.loop-range.invariant.counted.lost.more c.in-Ended.ensures.steps.helped
    c.loop-range.invariant.now c.loop-range.invariant.far c.in-Ended.ensures.stepped

pub returns-in-Ended-clause-counted : goal.returns-in-Ended-clause-counted
returns-in-Ended-clause-counted c = on_both c.args.account.now.spent c.loop-range.account.spent c.advance.new.account.spent c.args.pass.now.seat.me
    c.loop-range.pass.seat.me c.advance.new.pass.seat.me c.loop-range.invariant.counted c.advance.ensures.counted

pub returns-in-Ended-clause-turned : goal.returns-in-Ended-clause-turned
returns-in-Ended-clause-turned c met = let m = c.args.pass.now.seat.me in let k = c.loop-range.pass.seat.me in let n = c.advance.new.pass.seat.me in
    let z = c.args.space.now.table.shared.key in let inv = c.loop-range.invariant in
    help_turned z c.args.from.range c.args.budget c.args.account.now.spent c.advance.new.account.spent c.in-Ended.helped m n
    (let most = c.ranges.budget.fits in omega arith)
    (on_both c.args.account.now.spent c.loop-range.account.spent c.advance.new.account.spent m k n inv.counted c.advance.ensures.counted)
    (helped_after z c.args.from.range c.loop-range.range c.args.budget c.advance.new.account.spent c.in-Ended.helped m k n inv.pool inv.steps
    inv.counted.lost.more c.in-Ended.ensures.steps.helped inv.now inv.far c.in-Ended.ensures.stepped) met

pub returns-in-Ended-clause-loads : goal.returns-in-Ended-clause-loads
returns-in-Ended-clause-loads c = ends_after c.args.space.now.table.shared.key c.args.pass.now.seat.me.0.upper c.loop-range.pass.seat.me.0.upper
    c.advance.new.pass.seat.me.0.upper c.loop-range.invariant.loads c.in-Ended.ensures.loads

pub returns-clause-loads : goal.returns-clause-loads
returns-clause-loads c = ends_here c.args.space.now.table.shared.key c.args.pass.now.seat.me.0.upper c.loop-range.pass.seat.me.0.upper
    c.loop-range.invariant.loads
