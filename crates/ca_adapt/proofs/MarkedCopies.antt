-- A copy that was written with the mark of an attempt to join takes a base's place.
use Rattle.std.proofs.Common.{◌≡◌, ℕ, ◌<◌, ◌≤◌, true, List, [], length, sym, refl, ap, ◌∙◌, subst, inr}
use mathlib.Core.Option.{some}
use Rattle.ca_node.specs.Copies.{Copy, copied, copy_note}
use Rattle.ca_base.specs.Finding.{IsBaseShown}
use Rattle.ca_node.specs.JoinCopies.{IsJoinCopy}
use Rattle.ca_node.specs.JoinSteps.{attempt_of}
use Rattle.ca_node.specs.Links.{IsIn}
use Rattle.ca_node.specs.Notes.{IsBaseNote}
use Rattle.ca_node.specs.Place.{IsLinkOf}
use Rattle.ca_node.specs.Row.{mark_owner, mark_number}
use Rattle.ca_node.specs.Told.{MyTree, IsSettled, IsLastThere}
use Rattle.ca_node.specs.TreeView.{Note, TreeView}
use Rattle.ca_base.specs.Putting.{words_of}
use Rattle.ca_rows.specs.Claims.{claim_of}
use Rattle.ca_rows.specs.declared.sizes.Sizes.{Sizes}
use Rattle.ca_rows.specs.declared.view.Claim.TheVariants.{Holds}
use Rattle.ca_rows.specs.declared.view.Pin.{Pin}
use Rattle.ca_adapt.specs.Joins.{IsMarkedCopy, SpellsMarked, copy_on, last_on}
use Rattle.ca_adapt.proofs.LastOn.{last_there}
use Rattle.ca_adapt.specs.declared.joining.Attempt.{Attempt}

module _ (z : Sizes) (m0 m : MyTree) (row base word : ℕ) (its : List ℕ) (attempt : Attempt)
    (upper : m.0.upper ≡ m0.0.upper)
    (has : claim_of m.0.claims row ≡ some (Holds its))
    (spells : SpellsMarked (last_on word m0.0.upper.notes) attempt its)
    (link : IsLinkOf attempt.route (last_on word m0.0.upper.notes).place.link) where
  abbrev note : Note
  note = last_on word m0.0.upper.notes

  abbrev copy : Copy
  copy = record {
    old = last_on word m0.0.upper.notes;
    its = its;
    pass = mark_owner its;
    number =
        mark_number its;
  }

  same : copy_on word m row ≡ copy
  same = λ i. record {
    old = last_on word (upper i).notes;
    its = words_of (has i);
    pass = mark_owner (words_of (has i));
    number = mark_number (words_of (has i));
  }

  -- The seat may put the copy in the base's place.
  pub is_join_copy : (pin : m.0.pin ≡ m0.0.pin) → (last_on word m0.0.upper.notes).place.link ≡ word
      → m0.0.pin.pinned ≡ true → 0 < m0.0.upper.number
      → IsBaseShown z m0.0.upper base (last_on word m0.0.upper.notes)
      → IsSettled m0.0.upper (last_on word m0.0.upper.notes).its
      → IsIn (attempt_of attempt.route attempt.number) m0.0.upper.ranges.joins.begun
      → IsJoinCopy z m row (copy_on word m row)
  is_join_copy pin at pinned number shown settled begun =
      subst (IsJoinCopy z m row) (sym same) record {
        is_pinned = ap (λ (p : Pin). p.pinned) pin ∙ pinned;
        is_pass = subst (λ (u : TreeView). 0 < u.number) (sym upper) number;
        shown = subst (λ (u : TreeView). IsLastThere (last_on word m0.0.upper.notes) u.notes)
            (sym upper) (last_there word m0.0.upper.notes shown.noted at);
        old_base = shown.is_base.is_base;
        settled = subst (λ (u : TreeView). IsSettled u (last_on word m0.0.upper.notes).its)
            (sym upper) settled;
        held = has;
        is_base = spells.is_base;
        level_is = spells.level_is ∙ shown.is_base.level_is;
        few = subst (λ (n : ℕ). n ≤ z.leaf) (sym spells.count_is) shown.is_base.few;
        same_items = spells.items_are;
        headed = spells.headed;
        marked = (spells.marked.0, refl, refl);
        is_link = subst (λ (n : ℕ). IsLinkOf n note.place.link) (sym spells.marked.1) link;
        begun = subst (λ (x : ℕ × ℕ × TreeView). IsIn (attempt_of x.0 x.1) x.2.ranges.joins.begun)
            (λ i. (sym spells.marked.1 i, sym spells.marked.2 i, sym upper i)) begun;
      }

  -- What a note on it says.
  is_note : IsBaseNote z note → 0 < row → row ≤ z.rows → IsBaseNote z (copy_note row copy)
  is_note is lo hi = record {
    some_row = lo;
    in_range = hi;
    is_base = spells.is_base;
    long = spells.long;
    level_is = spells.level_is ∙ is.level_is;
    deep = is.deep;
    most_levels = is.most_levels;
    few = subst (λ (n : ℕ). n ≤ z.leaf) (sym spells.count_is) is.few;
    marked = inr (inr (
      spells.marked.0,
      subst (λ (n : ℕ). IsLinkOf n note.place.link)
          (sym spells.marked.1) link,
    ));
    named = λ r i. is.named r (subst (λ (xs : List ℕ). IsIn r xs) spells.items_are i);
    as_many = is.as_many ∙ sym (ap (λ (xs : List ℕ). length xs) spells.items_are);
    objects_long = is.objects_long;
    headed = spells.headed;
  }

  -- It took the base's place.
  pub marked_copy : (v : TreeView) → IsBaseShown z m0.0.upper base (last_on word m0.0.upper.notes)
      → 0 < row → row ≤ z.rows
      → v ≡ copied [] m.0.upper.ranges row (copy_on word m row) m.0.upper
      → IsMarkedCopy z (last_on word m0.0.upper.notes) attempt row m0.0.upper v
  marked_copy v shown lo hi e = record {
    copy = copy;
    old_is = refl;
    is_base = is_note shown.is_base lo hi;
    marked = spells.marked;
    statistic_is = spells.statistic_is;
    count_is = spells.count_is;
    now = e ∙ λ i. copied [] (upper i).ranges row (same i) (upper i);
  }
