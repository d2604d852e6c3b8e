-- A copy that was written takes a base's place.
use Rattle.std.proofs.Common.{◌≡◌, ℕ, ◌<◌, ◌≤◌, true, List, [], length, sym, refl, ap, ◌∙◌, subst, inl, inr}
use mathlib.Core.Option.{some}
use Rattle.ca_node.specs.Copies.{Copy, IsCopy, IsNextCopy, copied, copy_note}
use Rattle.ca_base.specs.Finding.{IsBaseShown}
use Rattle.ca_node.specs.Links.{IsIn}
use Rattle.ca_node.specs.Notes.{IsBaseNote}
use Rattle.ca_node.specs.Row.{mark_owner, mark_number}
use Rattle.ca_node.specs.Told.{MyTree, IsSettled, IsLastThere, with_upper}
use Rattle.ca_node.specs.TreeView.{Note, TreeView}
use Rattle.ca_base.specs.Putting.{first_note, words_of}
pub use Rattle.ca_base.proofs.CopiedRows.{copied_rows, shown_still}
use Rattle.ca_base.proofs.Rebasing.{last_there}
use Rattle.ca_rows.specs.Claims.{claim_of}
use Rattle.ca_rows.specs.declared.sizes.Sizes.{Sizes}
use Rattle.ca_rows.specs.declared.view.Claim.TheVariants.{Holds}
use Rattle.ca_rows.specs.declared.view.Pin.{Pin}
use Rattle.ca_range.specs.Copying.{SpellsCopy}
use Rattle.ca_range.specs.Marked.{IsMarkedNow, IsNextTo, copy_of, second_note}
use Rattle.ca_range.specs.declared.copying.Mark.{Mark}

module _ (z : Sizes) (m0 m : MyTree) (row base : ℕ) (its : List ℕ) (mark : Mark) (upper : m.0.upper ≡ m0.0.upper)
    (has : claim_of m.0.claims row ≡ some (Holds its)) (spells : SpellsCopy (first_note m0.0.upper.notes) mark its) where
  abbrev note : Note
  note = first_note m0.0.upper.notes

  abbrev copy : Copy
  copy = record { old = first_note m0.0.upper.notes; its = its; pass = mark_owner its; number = mark_number its }

  same : copy_of m row ≡ copy
  same = λ i. record {
    old = first_note (upper i).notes;
    its = words_of (has i);
    pass = mark_owner (words_of (has i));
    number = mark_number (words_of (has i));
  }

  -- The seat may put the copy in the base's place.
  pub is_copy : (pin : m.0.pin ≡ m0.0.pin) → m0.0.pin.pinned ≡ true → 0 < m0.0.upper.number → IsBaseShown z m0.0.upper base (first_note m0.0.upper.notes)
      → IsSettled m0.0.upper (first_note m0.0.upper.notes).its → IsCopy z m row (copy_of m row)
  is_copy pin pinned number shown settled = subst (IsCopy z m row) (sym same) record {
    is_pinned = ap (λ (p : Pin). p.pinned) pin ∙ pinned;
    is_pass = subst (λ (u : TreeView). 0 < u.number) (sym upper) number;
    shown = subst (λ (u : TreeView). IsLastThere (first_note m0.0.upper.notes) u.notes) (sym upper) (last_there m0.0.upper.notes shown.noted);
    old_base = shown.is_base.is_base;
    settled = subst (λ (u : TreeView). IsSettled u (first_note m0.0.upper.notes).its) (sym upper) settled;
    held = has;
    is_base = spells.is_base;
    level_is = spells.level_is ∙ shown.is_base.level_is;
    few = subst (λ (n : ℕ). n ≤ z.leaf) (sym spells.count_is) shown.is_base.few;
    same_items = spells.items_are;
    headed = spells.headed;
    marked = (spells.marked.0, refl, refl);
  }

  -- It is the next one.
  pub is_next : IsNextTo m0.0.upper mark (second_note m0.0.upper.notes) (first_note m0.0.upper.notes)
      → IsNextCopy m (copy_of m row) (second_note m.0.upper.notes)
  is_next n = subst (λ (x : Copy × TreeView). IsNextCopy (with_upper m x.1) x.0 (second_note x.1.notes)) (λ i. (sym same i, sym upper i)) record {
    shown = n.shown;
    marked = (n.marked.0, n.marked.1 ∙ sym spells.marked.1, n.marked.2 ∙ sym spells.marked.2);
    bound_is = spells.bound_is ∙ n.bound_is;
    back_is = spells.back_is ∙ n.back_is;
    key = n.key;
    ends = n.ends;
    has = n.has;
  }

  -- What a note on it says.
  pub is_note : IsBaseNote z note → 0 < row → row ≤ z.rows → 0 < mark.range.owner → mark.range.owner ≤ 64 → IsBaseNote z (copy_note row copy)
  is_note is lo hi owner less = record {
    some_row = lo;
    in_range = hi;
    is_base = spells.is_base;
    long = spells.long;
    level_is = spells.level_is ∙ is.level_is;
    deep = is.deep;
    most_levels = is.most_levels;
    few = subst (λ (n : ℕ). n ≤ z.leaf) (sym spells.count_is) is.few;
    marked = inr (inl (spells.marked.0, subst (λ (n : ℕ). 0 < n) (sym spells.marked.1) owner, subst (λ (n : ℕ). n ≤ 64) (sym spells.marked.1) less));
    named = λ r i. is.named r (subst (λ (xs : List ℕ). IsIn r xs) spells.items_are i);
    as_many = is.as_many ∙ sym (ap (λ (xs : List ℕ). length xs) spells.items_are);
    objects_long = is.objects_long;
    headed = spells.headed;
  }

  -- It took the base's place.
  pub marked_now : (v : TreeView) → IsBaseShown z m0.0.upper base (first_note m0.0.upper.notes) → 0 < row → row ≤ z.rows → 0 < mark.range.owner
      → mark.range.owner ≤ 64 → v ≡ copied [] m.0.upper.ranges row (copy_of m row) m.0.upper → IsMarkedNow z (first_note m0.0.upper.notes) mark row m0.0.upper v
  marked_now v shown lo hi owner less e = record {
    copy = copy;
    old_is = refl;
    is_base = is_note shown.is_base lo hi owner less;
    marked = spells.marked;
    bound_is = spells.bound_is;
    back_is = spells.back_is;
    statistic_is = spells.statistic_is;
    now = e ∙ λ i. copied [] (upper i).ranges row (same i) (upper i);
  }
