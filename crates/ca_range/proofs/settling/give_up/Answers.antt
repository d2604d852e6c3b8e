use Rattle.std.proofs.Common.{◌≡◌, ◌<◌, ℕ, Bool, true, [], ◌∷◌, sym, ap, ◌∙◌, subst}
use Rattle.ca_base.specs.Counting.{KeepsMore}
use Rattle.ca_node.specs.Layout.{border_form}
use Rattle.ca_base.proofs.Counts.{met_both}
use Rattle.ca_node.specs.OwnRanges.{HasAborted}
use Rattle.ca_node.specs.Told.{MyTree}
use Rattle.ca_node.specs.TreeView.{Ranging, TreeView}
use Rattle.ca_rows.specs.declared.kept.KeptRows.{KeptRows}
use Rattle.ca_node.proofs.Tallies.{tallied_still}
use Rattle.ca_range.specs.Snapshots.{OnlyRanges}
use Rattle.ca_range.proofs.LoneEnds.{by_cases, gave_up_crowd, over_alone}
use Rattle.ca_range.proofs.OwnEnds.{aborted_so, begun_of, border_of, border_still, ended_met, is_under_way, lent_still}
use Rattle.ca_range.proofs.settling.give_up.Goals as goal

pub abort_own-requires-clause-owner : goal.abort_own-requires-clause-owner
abort_own-requires-clause-owner c = record {
  reading = record { own = c.requires.ready.own; pinned = c.requires.ready.pinned };
  same_number = sym c.requires.number;
  some_number = c.requires.ready.numbered.1;
  few = c.requires.ready.numbered.2;
}

pub abort_own-requires-clause-giving : goal.abort_own-requires-clause-giving
abort_own-requires-clause-giving c = record {
  is_pinned = c.requires.ready.pinned;
  is_pass = c.requires.ready.number;
  own = is_under_way c.args.pass.now.seat.me.0.upper.ranges.own c.requires.marking.begun c.requires.marking.border c.requires.marking.is;
}

pub abort_own-requires-clause-number : goal.abort_own-requires-clause-number
abort_own-requires-clause-number c = (
  ap (λ (r : Ranging). (begun_of r).number) c.requires.marking.is ∙ c.requires.marking.number_is,
  c.requires.marking.small,
)

pub retire_border-requires-clause-own : goal.retire_border-requires-clause-own
retire_border-requires-clause-own c = let z = c.args.space.now.table.shared.key in let m = c.args.pass.now.seat.me in
    let e = aborted_so z c.abort_own.result (begun_of m.0.upper.ranges.own) (border_of m.0.upper.ranges.own) m c.abort_own.new.pass.seat.me c.abort_own.ensures.done in
    (c.abort_own.ensures.frame.same.0 ∙ c.requires.ready.own.0, e.sizes ∙ c.requires.ready.own.1)

pub retire_border-requires-clause-number : goal.retire_border-requires-clause-number
retire_border-requires-clause-number c = let z = c.args.space.now.table.shared.key in let m = c.args.pass.now.seat.me in
    let e = aborted_so z c.abort_own.result (begun_of m.0.upper.ranges.own) (border_of m.0.upper.ranges.own) m c.abort_own.new.pass.seat.me c.abort_own.ensures.done in
    subst (λ (n : ℕ). 0 < n) (sym e.number) c.requires.ready.number

pub retire_border-requires-clause-quiet : goal.retire_border-requires-clause-quiet
retire_border-requires-clause-quiet c = let z = c.args.space.now.table.shared.key in let m = c.args.pass.now.seat.me in
    (aborted_so z c.abort_own.result (begun_of m.0.upper.ranges.own) (border_of m.0.upper.ranges.own) m c.abort_own.new.pass.seat.me c.abort_own.ensures.done).quiet

pub retire_border-requires-clause-border : goal.retire_border-requires-clause-border
retire_border-requires-clause-border c = let z = c.args.space.now.table.shared.key in let m = c.args.pass.now.seat.me in
    let e = aborted_so z c.abort_own.result (begun_of m.0.upper.ranges.own) (border_of m.0.upper.ranges.own) m c.abort_own.new.pass.seat.me c.abort_own.ensures.done in
    border_still z m c.abort_own.new.pass.seat.me c.args.own e c.requires.marking

pub retire_border-requires-clause-lent : goal.retire_border-requires-clause-lent
retire_border-requires-clause-lent c = let z = c.args.space.now.table.shared.key in let m = c.args.pass.now.seat.me in
    let e = aborted_so z c.abort_own.result (begun_of m.0.upper.ranges.own) (border_of m.0.upper.ranges.own) m c.abort_own.new.pass.seat.me c.abort_own.ensures.done in
    lent_still z z.rows c.args.pass.now.kept c.abort_own.new.pass.kept m c.abort_own.new.pass.seat.me c.args.own e c.requires.marking
    c.abort_own.ensures.frame.kept c.requires.ready.none

pub returns : goal.returns
returns c = let z = c.args.space.now.table.shared.key in let m = c.args.pass.now.seat.me in let n = c.retire_border.new.pass.seat.me in
    let e = aborted_so z c.abort_own.result (begun_of m.0.upper.ranges.own) (border_of m.0.upper.ranges.own) m c.abort_own.new.pass.seat.me c.abort_own.ensures.done in
    let k = c.requires.marking in let under = is_under_way m.0.upper.ranges.own k.begun k.border k.is in
    let here = ap (λ (r : Ranging). (border_of r).row) k.is ∙ k.row_is in
    let s = c.retire_border.ensures.frame.same in let same = s.4 in record {
      frame = record {
        same = (s.0 ∙ c.abort_own.ensures.frame.same.0, s.1 ∙ c.abort_own.ensures.frame.same.1);
        number = c.retire_border.ensures.frame.number ∙ c.abort_own.ensures.frame.number;
        tally = tallied_still c.args.pass.now.tally c.retire_border.new.pass.tally m.0.upper n.0.upper
            (c.retire_border.ensures.frame.tally ∙ c.abort_own.ensures.frame.tally) (ap (λ (u : TreeView). u.splits) same ∙ e.splits)
            (ap (λ (u : TreeView). u.joins) same ∙ e.joins);
        pin = (s.2 ∙ e.sizes, s.3 ∙ e.pin);
        none = c.retire_border.ensures.none;
      };
      quiet = ap (λ (u : TreeView). u.ranges.own) same ∙ e.quiet;
      steps = subst (λ (u : TreeView). OnlyRanges z m.0.upper u) (sym same) e.only;
      unfinished = ap (λ (u : TreeView). u.ranges.unfinished) same ∙ e.unfinished;
      notes = (ap (λ (u : TreeView). u.notes) same ∙ e.notes, ap (λ (u : TreeView). u.ways) same ∙ e.ways);
      loads = ap (λ (u : TreeView). u.loads) same ∙ e.loads;
      still = (c.retire_border.ensures.met.0 ∙ e.lost, ap (λ (u : TreeView). u.turns) same ∙ e.turns);
      met = met_both 0 0 0 0 m c.abort_own.new.pass.seat.me n (ended_met z m c.abort_own.new.pass.seat.me e) c.retire_border.ensures.met.1;
      crowded = gave_up_crowd z z.rows (begun_of m.0.upper.ranges.own) (border_of m.0.upper.ranges.own) m c.abort_own.new.pass.seat.me n under
          c.abort_own.result border_form c.abort_own.new.pass.kept c.retire_border.new.pass.kept c.abort_own.ensures.done c.retire_border.ensures.crowded s.2
          (subst (λ (r : ℕ). KeepsMore border_form (r ∷ []) c.abort_own.new.pass.kept.rows.items c.retire_border.new.pass.kept.rows.items) (sym here)
          c.retire_border.ensures.kept) c.retire_border.ensures.none;
      alone = λ alone. let won : c.abort_own.result ≡ true = by_cases c.abort_own.result (λ lost. absurd (c.abort_own.ensures.several lost alone)) in
          over_alone z z.rows (begun_of m.0.upper.ranges.own) (border_of m.0.upper.ranges.own) m c.abort_own.new.pass.seat.me n under border_form
          c.args.pass.now.kept c.retire_border.new.pass.kept
          (ap (λ (x : MyTree). x.0.upper.inventory) (subst (λ (b : Bool). HasAborted b (begun_of m.0.upper.ranges.own) (border_of m.0.upper.ranges.own) m
          c.abort_own.new.pass.seat.me) won c.abort_own.ensures.done)) same
          (subst (λ (x : ℕ × KeptRows). KeepsMore border_form (x.0 ∷ []) x.1.rows.items c.retire_border.new.pass.kept.rows.items)
          (λ i. (sym here i, c.abort_own.ensures.frame.kept i)) c.retire_border.ensures.kept);
    }
