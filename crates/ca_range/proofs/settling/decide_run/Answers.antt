use Rattle.std.proofs.Common.{◌<◌, ℕ, true, [], ◌∷◌, refl, sym, ap, ◌∙◌, subst, arith}
use Rattle.ca_base.specs.Counting.{losses, KeepsMore}
use Rattle.ca_base.specs.Putting.{first_note}
use Rattle.ca_base.proofs.Counts.{met_both}
use Rattle.ca_node.specs.Endings.{over_up_to}
use Rattle.ca_node.specs.Layout.{border_form}
use Rattle.ca_node.specs.OwnRanges.{IsKnownEnded}
use Rattle.ca_node.specs.Told.{MyTree}
use Rattle.ca_node.specs.TreeView.{Ranging, TreeView}
use Rattle.ca_node.proofs.Tallies.{tallied_still}
use Rattle.ca_range.specs.Clearing.{none_spent}
use Rattle.ca_range.specs.Snapshots.{HasRun, OnlyRanges}
use Rattle.ca_rows.specs.declared.kept.KeptRows.{KeptRows}
use Rattle.ca_range.proofs.LoneEnds.{over_alone}
use Rattle.ca_range.proofs.OwnDecided.{decided_run, rows_of}
use Rattle.ca_range.proofs.OwnEnds.{begun_of, border_of, border_still, decided_so, ended_met, is_under_way, lent_still}
use Rattle.ca_range.proofs.OwnSteps.{over_between, over_goes, over_met, over_ready, pinned_both, settled_on}
use Rattle.ca_range.proofs.SnapshotSteps.{ranges_both}
use Rattle.ca_range.proofs.settling.decide_run.Goals as goal

pub decide_own-requires-clause-owner : goal.decide_own-requires-clause-owner
decide_own-requires-clause-owner g c = record {
  reading = record { own = c.requires.ready.own; pinned = c.requires.ready.pinned };
  same_number = sym c.requires.number;
  some_number = c.requires.ready.numbered.1;
  few = c.requires.ready.numbered.2;
}

pub decide_own-requires-clause-ending : goal.decide_own-requires-clause-ending
decide_own-requires-clause-ending g c = let k = c.requires.enough.0 in record {
  is_pinned = c.requires.ready.pinned;
  is_pass = c.requires.ready.number;
  own = is_under_way c.args.pass.now.seat.me.0.upper.ranges.own k.between.marking.begun k.between.marking.border k.between.marking.is;
  shown = k.gone.at.shown.noted;
  marked = (
    k.marked.0,
    k.marked.1,
    k.marked.2 ∙ sym (ap (λ (r : Ranging). (begun_of r).number) k.between.marking.is ∙ k.between.marking.number_is),
  );
}

pub decide_own-requires-clause-number : goal.decide_own-requires-clause-number
decide_own-requires-clause-number g c = let k = c.requires.enough.0.between.marking in
    (ap (λ (r : Ranging). (begun_of r).number) k.is ∙ k.number_is, k.small)

pub decide_own-requires-clause-last : goal.decide_own-requires-clause-last
decide_own-requires-clause-last g c = let base = c.requires.enough.0.gone.at.shown in let few = c.args.space.now.few.1 in let high = base.is_base.in_range in
    let here = base.here in (here, omega arith)

pub take_run-requires-clause-ready : goal.take_run-requires-clause-ready
take_run-requires-clause-ready g c = over_ready c.args.space.now c.args.pass.now c.decide_own.new.pass _ c.requires.ready c.decide_own.ensures.frame
    c.if-not-decide_own.ensures.done

pub take_run-requires-clause-number : goal.take_run-requires-clause-number
take_run-requires-clause-number g c = c.decide_own.ensures.frame.number ∙ (c.requires.number
    ∙ sym (ap (λ (x : MyTree). x.0.upper.number) c.if-not-decide_own.ensures.done))

pub take_run-requires-clause-between : goal.take_run-requires-clause-between
take_run-requires-clause-between g c = over_between c.args.space.now c.args.pass.now c.decide_own.new.pass _ c.requires.ready c.decide_own.ensures.frame
    c.if-not-decide_own.ensures.done g.F.Fn c.args.sought.now c.args.space.now.table.shared.key c.args.from.now.own c.requires.enough.0.between

pub take_run-requires-clause-sizes : goal.take_run-requires-clause-sizes
take_run-requires-clause-sizes g c =
    (c.requires.leaf, rows_of c.args.space.now.table.shared.key c.args.pass.now.seat.me.0.upper c.args.from.now.left c.requires.enough.0.gone)

pub take_run-requires-clause-known : goal.take_run-requires-clause-known
take_run-requires-clause-known g c = (over_goes c.args.space.now c.args.pass.now c.decide_own.new.pass _ c.requires.ready c.decide_own.ensures.frame
    c.if-not-decide_own.ensures.done none_spent).steps.known c.requires.enough.0.known

pub take_run-requires-clause-over : goal.take_run-requires-clause-over
take_run-requires-clause-over g c = let k = c.requires.enough.0.between.marking in let u = c.args.pass.now.seat.me.0.upper in
    let number = ap (λ (r : Ranging). (begun_of r).number) k.is ∙ k.number_is in
    subst (λ (x : MyTree). IsKnownEnded x.0.upper c.args.from.now.own.number) (sym c.if-not-decide_own.ensures.done)
    (over_up_to u.number (begun_of u.ranges.own).number, (0, refl), refl, omega arith)

pub returns-then-not-decide_own : goal.returns-then-not-decide_own
returns-then-not-decide_own g c = let p = c.args.pass.now in let q = c.decide_own.new.pass in let r = c.take_run.new.pass in let e = c.take_run.ensures in
    let z = c.args.space.now.table.shared.key in
    let goes = over_goes c.args.space.now p q _ c.requires.ready c.decide_own.ensures.frame c.if-not-decide_own.ensures.done none_spent in
    let d = c.if-not-decide_own.ensures.done in record {
      frame = pinned_both c.args.space.now p q r goes.frame e.frame;
      quiet = e.quiet;
      steps = ranges_both p.seat.me.0.upper q.seat.me.0.upper r.seat.me.0.upper goes.steps e.steps;
      unfinished = e.unfinished ∙ ap (λ (x : MyTree). x.0.upper.ranges.unfinished) d;
      still = (
        e.still.0 ∙ ap losses d,
        e.still.1 ∙ ap (λ (x : MyTree). x.0.upper.turns) d,
      );
      loads = e.loads ∙ ap (λ (x : MyTree). x.0.upper.loads) d;
      ended = settled_on g.F.Fn c.args.sought.now z c.take_run.result p.seat.me q.seat.me r.seat.me
          (over_met c.args.space.now p q _ c.requires.ready c.decide_own.ensures.frame d) e.ended;
      alone = λ alone. absurd (c.decide_own.ensures.several c.if-not-decide_own.true alone);
    }

pub retire_border-requires-clause-own : goal.retire_border-requires-clause-own
retire_border-requires-clause-own g c = let z = c.args.space.now.table.shared.key in let m = c.args.pass.now.seat.me in let own = m.0.upper.ranges.own in
    let e = decided_so z (begun_of own) (border_of own) (first_note m.0.upper.notes) m c.decide_own.new.pass.seat.me c.requires.ready.own.1
    (rows_of z m.0.upper c.args.from.now.left c.requires.enough.0.gone) c.if-not-decide_own.ensures.done in
    (c.decide_own.ensures.frame.same.0 ∙ c.requires.ready.own.0, e.sizes ∙ c.requires.ready.own.1)

pub retire_border-requires-clause-number : goal.retire_border-requires-clause-number
retire_border-requires-clause-number g c = let z = c.args.space.now.table.shared.key in let m = c.args.pass.now.seat.me in let own = m.0.upper.ranges.own in
    let e = decided_so z (begun_of own) (border_of own) (first_note m.0.upper.notes) m c.decide_own.new.pass.seat.me c.requires.ready.own.1
    (rows_of z m.0.upper c.args.from.now.left c.requires.enough.0.gone) c.if-not-decide_own.ensures.done in
    subst (λ (n : ℕ). 0 < n) (sym e.number) c.requires.ready.number

pub retire_border-requires-clause-quiet : goal.retire_border-requires-clause-quiet
retire_border-requires-clause-quiet g c = let z = c.args.space.now.table.shared.key in let m = c.args.pass.now.seat.me in let own = m.0.upper.ranges.own in
    (decided_so z (begun_of own) (border_of own) (first_note m.0.upper.notes) m c.decide_own.new.pass.seat.me c.requires.ready.own.1
    (rows_of z m.0.upper c.args.from.now.left c.requires.enough.0.gone) c.if-not-decide_own.ensures.done).quiet

pub retire_border-requires-clause-border : goal.retire_border-requires-clause-border
retire_border-requires-clause-border g c = let z = c.args.space.now.table.shared.key in let m = c.args.pass.now.seat.me in let own = m.0.upper.ranges.own in
    let e = decided_so z (begun_of own) (border_of own) (first_note m.0.upper.notes) m c.decide_own.new.pass.seat.me c.requires.ready.own.1
    (rows_of z m.0.upper c.args.from.now.left c.requires.enough.0.gone) c.if-not-decide_own.ensures.done in
    border_still z m c.decide_own.new.pass.seat.me c.args.from.now.own e c.requires.enough.0.between.marking

pub retire_border-requires-clause-lent : goal.retire_border-requires-clause-lent
retire_border-requires-clause-lent g c = let z = c.args.space.now.table.shared.key in let m = c.args.pass.now.seat.me in let own = m.0.upper.ranges.own in
    let e = decided_so z (begun_of own) (border_of own) (first_note m.0.upper.notes) m c.decide_own.new.pass.seat.me c.requires.ready.own.1
    (rows_of z m.0.upper c.args.from.now.left c.requires.enough.0.gone) c.if-not-decide_own.ensures.done in
    lent_still z z.rows c.args.pass.now.kept c.decide_own.new.pass.kept m c.decide_own.new.pass.seat.me c.args.from.now.own e
    c.requires.enough.0.between.marking c.decide_own.ensures.frame.kept c.requires.ready.none

pub returns : goal.returns
returns g c = let z = c.args.space.now.table.shared.key in let m = c.args.pass.now.seat.me in let n = c.retire_border.new.pass.seat.me in
    let own = m.0.upper.ranges.own in let k = c.decide_own.new.pass.seat.me in
    let e = decided_so z (begun_of own) (border_of own) (first_note m.0.upper.notes) m k c.requires.ready.own.1
    (rows_of z m.0.upper c.args.from.now.left c.requires.enough.0.gone) c.if-not-decide_own.ensures.done in
    let s = c.retire_border.ensures.frame.same in let same = s.4 in record {
      frame = record {
        same = (s.0 ∙ c.decide_own.ensures.frame.same.0, s.1 ∙ c.decide_own.ensures.frame.same.1);
        number = c.retire_border.ensures.frame.number ∙ c.decide_own.ensures.frame.number;
        tally = tallied_still c.args.pass.now.tally c.retire_border.new.pass.tally m.0.upper n.0.upper
            (c.retire_border.ensures.frame.tally ∙ c.decide_own.ensures.frame.tally) (ap (λ (u : TreeView). u.splits) same ∙ e.splits)
            (ap (λ (u : TreeView). u.joins) same ∙ e.joins);
        pin = (s.2 ∙ e.sizes, s.3 ∙ e.pin);
        none = c.retire_border.ensures.none;
      };
      quiet = ap (λ (u : TreeView). u.ranges.own) same ∙ e.quiet;
      steps = subst (λ (u : TreeView). OnlyRanges z m.0.upper u) (sym same) e.only;
      unfinished = ap (λ (u : TreeView). u.ranges.unfinished) same ∙ e.unfinished;
      loads = ap (λ (u : TreeView). u.loads) same ∙ e.loads;
      still = (c.retire_border.ensures.met.0 ∙ e.lost, ap (λ (u : TreeView). u.turns) same ∙ e.turns);
      ended = (
        met_both 0 0 0 0 m k n (ended_met z m k e) c.retire_border.ensures.met.1,
        subst (λ (u : TreeView). HasRun g.F.Fn c.args.sought.now z u
            (record { last = c.args.from.now.left.base; chained = true; whole = c.args.whole })) (sym same)
            (decided_run g.F.Fn c.args.sought.now z m k c.args.from.now c.args.whole c.requires.enough c.requires.ready.own.1 c.requires.leaf
            c.if-not-decide_own.ensures.done),
      );
      alone = λ alone. let marking = c.requires.enough.0.between.marking in
          let here = ap (λ (r : Ranging). (border_of r).row) marking.is ∙ marking.row_is in
          over_alone z z.rows (begun_of own) (border_of own) m k n (is_under_way own marking.begun marking.border marking.is) border_form
          c.args.pass.now.kept c.retire_border.new.pass.kept (ap (λ (x : MyTree). x.0.upper.inventory) c.if-not-decide_own.ensures.done.now) same
          (subst (λ (x : ℕ × KeptRows). KeepsMore border_form (x.0 ∷ []) x.1.rows.items c.retire_border.new.pass.kept.rows.items)
          (λ i. (sym here i, c.decide_own.ensures.frame.kept i)) c.retire_border.ensures.kept);
    }
