-- Passes that were just made.
use Rattle.std.proofs.Common.{◌≡◌, ℕ, ◌<◌, ◌≤◌, [], Vec, min, sym, refl, ap, ◌∙◌, subst, arith}
use Rattle.std.specs.Global.{Global}
use mathlib.Core.Option.{some-ne-none}
use Rattle.atomic_table.specs.declared.shared.Seat.{Seat}
use Rattle.atomic_table.specs.Seated.{TableId}
use Rattle.ca_node.specs.Told.{MyTree, IsKnown}
use Rattle.ca_node.specs.TreeView.{TreeView, blank}
use Rattle.ca_base.specs.Taking.{HoldsFew}
use Rattle.ca_replace.specs.Resting.{IsResting}
use Rattle.ca_rows.specs.declared.kept.Kept.{Kept}
use Rattle.ca_rows.specs.declared.sizes.Sizes.{Sizes}
use Rattle.ca_rows.specs.declared.tally.Tally.{Tally}
use Rattle.ca_rows.specs.declared.view.View.{View}
use Rattle.ca_rows.specs.Claims.{claim_of}
use Rattle.ca_rows.specs.Kept.{AreKept}
use Rattle.ca_rows.specs.Rule.{fresh}

-- Such a pass rests: it knows nothing yet, and keeps nothing.
pub rests : (table : TableId) (z : Sizes) (number : ℕ) (tally : Tally) (kept : Vec Kept Global)
    (seat : Seat (Unit {0}) (View TreeView)) → 0 < number
    → number ≤ 64 → number ≤ z.passes → AreKept z.rows seat.me.0.claims kept
    → (seat.table_id ≡ table) × (seat.me ≡ (fresh z number (blank number), []))
    → tally ≡ (record { splits = 0; joins = 0 }) → IsResting table z number tally kept seat
rests table z number tally kept seat low few enrolled keeps is none = record {
  of = (is.0, ap (λ (m : MyTree). m.0.sizes) is.1);
  numbered = (ap (λ (m : MyTree). m.0.pin.number) is.1, low, few);
  same_number = ap (λ (m : MyTree). m.0.upper.number) is.1;
  is_unpinned = ap (λ (m : MyTree). m.0.pin.pinned) is.1;
  only_keeps =
      λ row c e.
      absurd (some-ne-none c (sym e ∙ ap (λ (m : MyTree). claim_of m.0.claims row) is.1));
  are_kept = keeps;
  few = subst
      (λ (m : MyTree). HoldsFew 0 m.0) (sym is.1)
      (record { now = omega arith; ever = omega arith });
  known = subst (λ (m : MyTree). IsKnown z m.0.upper) (sym is.1) record {
    lawful = record { entries = tt; places = tt; edits = refl };
    past = tt;
    edits = tt;
    enrolled = enrolled;
    by_passes = tt;
  };
  quiet = ap (λ (m : MyTree). m.0.upper.ranges.own) is.1;
  left_before = subst (λ (m : MyTree). m.0.pin.left.lost ≤ m.0.lost) (sym is.1) (omega arith);
  unlost = λ _. ap (λ (m : MyTree). m.0.lost) is.1;
  tallied = (
    ap (λ (t : Tally). t.splits) none
        ∙ ap (λ (m : MyTree). min 18446744073709551615 m.0.upper.splits) (sym is.1),
    ap (λ (t : Tally). t.joins) none
        ∙ ap (λ (m : MyTree). min 18446744073709551615 m.0.upper.joins) (sym is.1),
  );
}
