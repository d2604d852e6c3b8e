use Rattle.std.proofs.Common.{ℕ, List, ◌+◌, drop, take, get_or, sym, subst, ◌∙◌, arith}
use Rattle.std.proofs.lemmas.List.{drop_all, take_more}
use Rattle.ca_base.specs.Counting.{KeepsMore}
use Rattle.ca_base.specs.Taking.{AreUnlinked}
use Rattle.ca_base.proofs.Counts.{keeps_last, met_both}
use Rattle.ca_base.proofs.Rest.{from_place}
use Rattle.ca_base.proofs.Unlinking.{none_left}
use Rattle.ca_base.proofs.swapping.retire_all.Goals as goal

pub retire_unlinked-requires-clause-unlinked : goal.retire_unlinked-requires-clause-unlinked
retire_unlinked-requires-clause-unlinked c =
    let h = from_place (AreUnlinked c.args.space.now.table.shared.key.rows c.loop-at.pass.kept.rows
    c.loop-at.pass.seat.me.0) c.args.rows.now
    c.loop-at.at (omega arith) c.requires.apart c.loop-at.invariant.unlinked in
    (drop (c.loop-at.at + 1) c.args.rows.now, h.0, h.1)

pub loop-at-preserved : goal.loop-at-preserved
loop-at-preserved c = let i = c.loop-at.invariant in let s = c.retire_unlinked.ensures.frame.same in
    let h = from_place (AreUnlinked c.args.space.now.table.shared.key.rows c.loop-at.pass.kept.rows
    c.loop-at.pass.seat.me.0) c.args.rows.now
    c.loop-at.at (omega arith) c.requires.apart i.unlinked in record {
      own = (s.0 ∙ i.own.0, s.2 ∙ i.own.1);
      still = (s.0 ∙ i.still.0, s.1 ∙ i.still.1, s.2 ∙ i.still.2, s.3 ∙ i.still.3, s.4 ∙ i.still.4);
      number = c.retire_unlinked.ensures.frame.number ∙ i.number;
      tally = c.retire_unlinked.ensures.frame.tally ∙ i.tally;
      unlinked =
          c.retire_unlinked.ensures.retired (drop (c.loop-at.at + 1) c.args.rows.now) h.0 h.1;
      met = let m = c.retire_unlinked.ensures.met in (
        m.0 ∙ i.met.0,
        met_both 0 0 0 0 c.args.pass.now.seat.me c.loop-at.pass.seat.me
            c.retire_unlinked.new.pass.seat.me i.met.1 m.1,
      );
      kept = subst (λ (rows : List ℕ). KeepsMore c.args.form rows c.args.pass.now.kept.rows.items
          c.retire_unlinked.new.pass.kept.rows.items)
          (sym (take_more c.args.rows.now c.loop-at.at 0 (omega arith)))
          (keeps_last c.args.form (take c.loop-at.at c.args.rows.now) (get_or c.args.rows.now c.loop-at.at 0)
          c.args.pass.now.kept.rows.items c.loop-at.pass.kept.rows.items c.retire_unlinked.new.pass.kept.rows.items
          i.kept c.retire_unlinked.ensures.kept);
    }

pub returns-clause-none : goal.returns-clause-none
returns-clause-none c = let rows : List ℕ = c.args.rows.now in
    none_left c.args.space.now.table.shared.key.rows c.loop-at.pass.kept.rows c.loop-at.pass.seat.me.0
    (subst (AreUnlinked c.args.space.now.table.shared.key.rows c.loop-at.pass.kept.rows c.loop-at.pass.seat.me.0)
    (drop_all c.loop-at.at rows (omega arith)) c.loop-at.invariant.unlinked)
