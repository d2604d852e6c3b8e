-- What a look at the mark of a base's sibling tells: whether a range has it.
use Rattle.std.proofs.Common.{◌≡◌, ◌≢◌, ℕ, ◌+◌, ◌/◌, ◌%◌, ◌<◌, ◌≤◌, IsTrue, ◌↔◌, Bool, true, false, cond, eqb, List, [], ◌∷◌, sym, refl, ap, ◌∙◌, subst, inl, inr, ⊎_elim, append-nil, arith, eq-eqb, ne_eqb}
use mathlib.Core.Logic.{dite}
use native.Mathlib.Decide.{ℕ_discrete}
use Rattle.ca_node.specs.Layout.{sequence_unit}
use Rattle.ca_node.specs.Links.{IsIn}
use Rattle.ca_node.specs.Marks.{IsMark, IsOfJoin, IsOfRange}
use Rattle.ca_node.specs.Place.{Place}
use Rattle.ca_node.specs.Row.{count, mark, mark_number, mark_owner, IsMarkedBy, IsUnmarked}
use Rattle.ca_node.specs.Notes.{IsBaseNote}
use Rattle.ca_node.specs.Told.{MyTree, HasWatched, IsKnown, IsLedToBase, IsUnranged, link_word, met_by, over_by, turned_by, watched, with_upper}
use Rattle.ca_node.specs.Tree.{StartsWith}
use Rattle.ca_node.specs.TreeView.{Border, Note, Turns, TreeView}
use Rattle.ca_node.specs.declared.link.Link.{Link}
use Rattle.ca_node.specs.declared.link.Link.TheVariants as on
use Rattle.ca_rows.specs.Layout.{row_limit}
use Rattle.ca_rows.specs.declared.sizes.Sizes.{Sizes}
use Rattle.ca_adapt.specs.declared.adapted.Why.TheVariants as why
use Rattle.ca_adapt.specs.Trying.{FindsSibling, HasFoundSibling, IsFoundInUse, IsFoundRanged, IsFoundUnranged, IsJoinSteps, IsOnly, IsWhyNotJoined, other_link}
use Rattle.ca_adapt.proofs.TrySteps.{no_steps}

-- A range's mark names a pass.
pub owner_in : (place : Place) (its : List ℕ) → IsMark place its → mark its ≡ 1
    → (0 < mark_owner its) × (mark_owner its ≤ 64)
owner_in place its m one = ⊎_elim (λ (u : IsUnmarked its). absurd (omega (arith, u, one)))
    (λ r. ⊎_elim (λ (o : IsOfRange its). (o.1, o.2))
    (λ (j : IsOfJoin place its). let two = j.0 in absurd (omega (arith, two, one))) r) m

-- A range marked it, and was found active, or over.
pub found_by : (b : Bool) (note : Note) (m m' : MyTree) (owner number word : ℕ)
    → HasWatched owner m word m' → mark note.its ≡ 1 → owner ≡ mark_owner note.its
    → number ≡ mark_number note.its
    → IsTrue b ↔ ((word % sequence_unit ≡ row_limit) × (word / sequence_unit ≡ number))
    → IsFoundInUse b note m m'
found_by true note m m' owner number word h one o n is = let on = is.0 refl in
    (word, subst (λ (k : ℕ). HasWatched k m word m') o h, on.0, (one, refl, sym n ∙ sym on.1))
found_by false note m m' owner number word h one o n is =
    inr (
      one,
      (
        word,
        subst (λ (k : ℕ). HasWatched k m word m') o h,
        λ e. let no : false ≡ true =
            is.1 (e.0, sym e.1.2 ∙ sym n) in cc,
      ),
    )

-- A word of a pass's range was loaded: no other steps were taken, and no turn passed.
module _ (z : Sizes) (owner word : ℕ) (m m' : MyTree) (h : HasWatched owner m word m') where
  watched_known : (borders : List Border) → IsKnown z m.0.upper
      → IsKnown z (watched m.0.upper owner word borders)
  watched_known borders k =
      record {
        lawful = k.lawful;
        past = k.past;
        edits = k.edits;
        enrolled = k.enrolled;
        by_passes =
            k.by_passes;
      }

  pub watched_steps : IsJoinSteps z m.0.upper m'.0.upper
  watched_steps = record {
    only = subst (λ (x : MyTree). IsOnly m.0.upper x.0.upper) (sym h.now) refl;
    seen = subst (λ (x : MyTree). StartsWith x.0.upper.seen m.0.upper.seen) (sym h.now)
        ([], sym (append-nil m.0.upper.seen));
    known = λ k. subst (λ (x : MyTree). IsKnown z x.0.upper) (sym h.now)
        (watched_known h.borders k);
  }

passed_so : (b : Bool) (t : Turns) (k : ℕ) → (cond b t (record t { helped = k })).passed ≡ t.passed
passed_so true t k = refl
passed_so false t k = refl

pub turned_passed : (owner word : ℕ) (u : TreeView)
    → (turned_by owner word u).passed ≡ u.turns.passed
turned_passed owner word u = passed_so (eqb owner u.number) u.turns _

-- A base that was found free of ranges is one that no range has, as is known then.
module _ (note : Note) (m m' : MyTree) (noted : IsIn note m.0.upper.notes) where
  below_by : (word : ℕ) → mark note.its ≡ 1 → HasWatched (mark_owner note.its) m word m'
      → ¬ ((word % sequence_unit ≡ row_limit) × IsMarkedBy note.its (mark_owner note.its)
      (word / sequence_unit))
      → mark_number note.its < (over_by (mark_owner note.its) word).below
  below_by word one h off = let begun = h.begun note noted one refl in
      dite (ℕ_discrete (word % sequence_unit) row_limit)
      (λ s. let apart : mark_number note.its ≢ word / sequence_unit =
      λ e. off (s, (one, refl, e)) in
      subst (λ (c : Bool). mark_number note.its < cond c (word / sequence_unit)
      (word / sequence_unit + 1)) (sym (eq-eqb (word % sequence_unit) row_limit s))
      (omega arith))
      (λ n. subst (λ (c : Bool). mark_number note.its < cond c (word / sequence_unit)
      (word / sequence_unit + 1))
      (sym (ne_eqb (word % sequence_unit) row_limit n)) (omega arith))

  pub unranged_by : IsFoundUnranged note m m' → IsUnranged m'.0.upper note.its
  unranged_by (inl u) = inl u.0
  unranged_by (inr w) = inr (
    over_by (mark_owner note.its) w.1.0,
    subst (λ (x : MyTree). IsIn (over_by (mark_owner note.its) w.1.0) x.0.upper.ranges.over)
        (sym w.1.1.now) (0, refl),
    refl,
    below_by w.1.0 w.0 w.1.1 w.1.2,
  )

-- So the sibling was found, by a load of its link and a look at its mark.
module _ (z : Sizes) (link : Link) (note : Note) (n : ℕ) (m then m' : MyTree)
    (b : IsLedToBase false (link_word (other_link link)) m n then)
    (few : count note.its + count b.note.its ≤ z.leaf) (is_base : IsBaseNote z b.note) where
  found : HasFoundSibling z link note m b.note then
  found = record { row = n; led = b; sibling_is = refl; few = few }

  noted : IsIn b.note then.0.upper.notes
  noted = subst (λ (x : MyTree). IsIn b.note x.0.upper.notes) (sym b.now) (0, refl)

  pub finds : IsFoundUnranged b.note then m' → FindsSibling z link note n m m'
  finds (inl u) = record {
    look = record { sibling = b.note; between = then; found = found; unranged = inl u };
    row_is = b.row_is;
    hangs = b.place.0;
    is_base = is_base;
    unranged = unranged_by b.note then m' noted (inl u);
    more = b.more;
    over = [];
    borders = [];
    unfinished = m.0.upper.ranges.unfinished;
    turns = m.0.upper.turns;
    now = u.1 ∙ b.now;
    passed = refl;
  }
  finds (inr w) = record {
    look = record { sibling = b.note; between = then; found = found; unranged = inr w };
    row_is = b.row_is;
    hangs = b.place.0;
    is_base = is_base;
    unranged = unranged_by b.note then m' noted (inr w);
    more = b.more;
    over = over_by (mark_owner b.note.its) w.1.0 ∷ [];
    borders = w.1.1.borders;
    unfinished = met_by (mark_owner b.note.its) w.1.0 m.0.upper;
    turns = turned_by (mark_owner b.note.its) w.1.0 m.0.upper;
    now = w.1.1.now ∙ ap (λ (x : MyTree). with_upper x
        (watched x.0.upper (mark_owner b.note.its) w.1.0 w.1.1.borders)) b.now;
    passed = turned_passed (mark_owner b.note.its) w.1.0 m.0.upper;
  }

  -- Or a range has it.
  pub taken : link ≢ on.Root → IsFoundRanged b.note then m'
      → IsWhyNotJoined z link note why.Taken m m' ×
      (m'.0.upper.turns.passed ≡ m.0.upper.turns.passed)
  taken some r = (
    (some, inl (b.note, then, found, r)),
    ap (λ (x : MyTree). x.0.upper.turns.passed) r.1.now
        ∙ (turned_passed (mark_owner b.note.its) r.0 then.0.upper
        ∙ ap (λ (x : MyTree). x.0.upper.turns.passed) b.now),
  )

-- Either way these were the steps.
pub looked_steps : (z : Sizes) (b : Bool) (note : Note) (m m' : MyTree) → IsFoundInUse b note m m'
    → IsJoinSteps z m.0.upper m'.0.upper
looked_steps z true note m m' r = watched_steps z (mark_owner note.its) r.0 m m' r.1
looked_steps z false note m m' (inl u) = subst (λ (x : MyTree). IsJoinSteps z m.0.upper x.0.upper)
    (sym u.1) (no_steps z m.0.upper)
looked_steps z false note m m' (inr w) = watched_steps z (mark_owner note.its) w.1.0 m m' w.1.1
