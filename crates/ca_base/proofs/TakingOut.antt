-- A base without one of its objects is an update of the base that was shown.
use Rattle.std.proofs.Common.{◌≡◌, ℕ, ◌<◌, ◌≤◌, List, [], length, map, drop, get_or, Result, true, Some, Ok, sym, refl, ap, ◌∙◌, subst, inl, inr, arith}
use Rattle.std.proofs.lemmas.List.{get_or-map, length-map, length-take}
use Rattle.std.proofs.lemmas.List.Edits.{length-remove}
use Rattle.std.specs.List.{remove}
use mathlib.Core.Logic.{dite}
use mathlib.Core.Option.{some}
use native.Mathlib.Decide.{ℕ_discrete}
use lib.ListN.{get_elem?}
use Rattle.ca_model.specs.Event.{Event, Remove}
use Rattle.ca_model.specs.History.{Edit, Del}
use Rattle.ca_model.specs.StoreMap.{Pair, IsStoreMap}
use Rattle.ca_model.specs.Slab.{nothing}
use Rattle.ca_model.proofs.Places.{is_found, removed_is}
use Rattle.ca_model.specs.Places.{IsAt}
use Rattle.ca_node.specs.Laws.{in_nothing}
use Rattle.ca_node.specs.Place.{HasKey}
use Rattle.ca_node.specs.Row.{items, count, pair, item_words, row_in, prefix, IsHeaded}
use Rattle.ca_node.specs.Told.{MyTree, IsUpdate}
use Rattle.ca_node.specs.TreeView.{Note, TreeView}
use Rattle.ca_rows.specs.declared.view.Met.{Met}
use Rattle.ca_base.specs.Putting.{object_at, IsShownLast, HasRenewed, HasTried, first_note}
use Rattle.ca_base.specs.Removing.{key_at, take_update, update_of}
use Rattle.ca_base.specs.declared.stop.Stop.{Stop}
use Rattle.ca_base.specs.declared.swapping.Deed.TheVariants as deed
use Rattle.ca_base.specs.Writing.{IsRewritten}
use Rattle.ca_base.proofs.Inserting.{elem_or}
use Rattle.ca_base.specs.Prefixes.{SpellsLeft}
use Rattle.ca_base.proofs.NewFronts.{left_headed}
use Rattle.ca_base.proofs.Removed.{past, past_other, at_removed, still_in, map_removed}
use Rattle.ca_base.proofs.Rebasing.{IsNewBase, gone_is, is_found_at, is_update, new_base, note_is, words_are}
use Rattle.ca_rows.specs.declared.sizes.Sizes.{Sizes}
use Rattle.ca_node.specs.Layout.{items_word}

-- The key is that of the object at its place.
pub key_is : (objects : List (List ℕ)) (k : List ℕ) (at : ℕ) → IsAt (map pair objects) k at
    → key_at at objects ≡ k
key_is objects k at h = let l = h.in_range in let long = length-map objects pair in
    ap (λ (p : Pair). p.0) (sym (get_or-map pair objects at [] nothing (omega arith)))
    ∙ ap (λ (xs : List Pair). (get_or xs 0 nothing).0) (sym h.equal
    ∙ is_found (map pair objects) k at h)

module _ (z : Sizes) (m : MyTree) (note : Note) (at new statistic : ℕ) (front b : List ℕ)
    (n : IsNewBase z m new note front (remove (item_words note.its) at) statistic b)
    (kept : 1 < length note.objects → front ≡ prefix note.its)
    (none : length note.objects ≤ 1 → front ≡ [])
    (ordered : IsStoreMap z.keypos (map pair note.objects))
    (place : IsAt (map pair note.objects) (key_at at note.objects) at)
    (about : HasKey note.place.span (key_at at note.objects)) where
  in_objects : at < length note.objects
  in_objects = let l = place.in_range in let long = length-map note.objects pair in omega arith

  in_items : at < length (items note.its)
  in_items = let l = in_objects in let many = n.is_base.as_many in omega arith

  few : length (remove (items note.its) at) ≤ z.leaf
  few = let f = n.is_base.few in let less = length-remove (items note.its) at in_items in
      omega (arith, length-map (item_words note.its) row_in, length-take (count note.its) (drop items_word note.its))

  headed_left : IsHeaded b (remove note.objects at)
  headed_left = left_headed note.its note.objects front at note.place.level statistic b
      n.is_base.headed n.is_base.long in_objects
      (sym (n.is_base.as_many ∙ length-map (item_words note.its) row_in)) kept none n.spells

  pub is_taken_out : IsUpdate z m new (take_update note b at)
  is_taken_out =
      is_update z m new (take_update note b at) front (remove (item_words note.its) at)
      (remove (items note.its) at) statistic n (map_removed row_in (item_words note.its) at)
      headed_left few record {
        as_many = let many = n.is_base.as_many in let a = length-remove note.objects at in_objects in
            let i = length-remove (items note.its) at in_items in
            omega arith;
        are_objects = λ k r its p q.
            inl (
              past at k,
              sym (at_removed (items note.its) at k) ∙ p,
              sym (at_removed note.objects at k) ∙ q,
            );
        come = λ r i. absurd (in_nothing r [] refl i);
        come_once = tt;
        one_comes = omega arith;
        go = λ r i. (
          at,
          elem_or (items note.its) at 0 in_items ∙ ap some (gone_is (items note.its) at r i),
          λ j. inr (past at j.0, past_other at j.0, sym (at_removed (items note.its) at j.0) ∙ j.1),
        );
        stay = λ r i. dite (ℕ_discrete i.0 at)
            (λ (e : i.0 ≡ at). inr (
              0,
              sym (elem_or (items note.its) at 0 in_items)
                  ∙ (ap (get_elem? (items note.its)) (sym e) ∙ i.1),
            ))
            (λ n. inl (still_in (items note.its) at i.0 r n i.1));
        map_is = map_removed pair note.objects at
            ∙ removed_is z.keypos (map pair note.objects) (key_at at note.objects) at ordered place;
        does = refl;
        answer = is_found_at note.objects (key_at at note.objects) at place;
        is_edit = tt;
        about = about;
      }

-- The base without the object was written: it is ready for the exchange, which is the call.
module _ (z : Sizes) (first before now : MyTree) (new base at statistic : ℕ) (k b : List ℕ)
    (shown : IsShownLast z first.0.upper base)
    (upper : now.0.upper ≡ first.0.upper)
    (place : IsAt (map pair (first_note first.0.upper.notes).objects) k at)
    (left : SpellsLeft (first_note first.0.upper.notes) at
    (first_note first.0.upper.notes).place.level statistic b)
    (wrote : IsRewritten new b before now) where
  abbrev note : Note
  note = first_note first.0.upper.notes

  key_same : key_at at note.objects ≡ k
  key_same = key_is note.objects k at place

  pub ready_without : first.0.pin.pinned ≡ true → 0 < first.0.upper.number → now.0.pin ≡ first.0.pin
      → IsStoreMap z.keypos (map pair note.objects)
      → HasKey note.place.span k → IsUpdate z now new (update_of now new (deed.Remove at))
  ready_without is_pinned is_pass pin ordered about = subst
      (λ (y : Note × List ℕ). IsUpdate z now new (take_update y.0 y.1 at))
      (λ i. (sym (note_is first now upper) i, sym (words_are new b before now wrote) i))
      (is_taken_out z now note at new statistic left.front b
      (new_base z first before now new base left.front (remove (item_words note.its) at) statistic b
      shown is_pinned is_pass upper pin left.spells wrote) left.kept left.none
      ordered (subst (λ (q : List ℕ). IsAt (map pair note.objects) q at) (sym key_same) place)
      (subst (HasKey note.place.span) (sym key_same) about))

  pub removed : (r : Result (Unit {0}) Stop) (v : TreeView)
      → HasTried (update_of now new (deed.Remove at)).event z r now.0.upper v
      → HasTried (Remove k (Some (object_at (Ok at) note.objects))) z r first.0.upper v
  removed r v h = subst (λ (x : Event × TreeView). HasTried x.0 z r x.1 v)
      (λ i. (
        (ap (λ (x : Note). Remove (key_at at x.objects) (Some (object_at (Ok at) x.objects)))
            (note_is first now upper)
            ∙ ap (λ (q : List ℕ). Remove q (Some (object_at (Ok at) note.objects))) key_same) i,
        upper i,
      )) h

  pub renewed_without : (met : Met) (r : Result (Unit {0}) Stop) (v : TreeView)
      → HasRenewed z met (get_or (update_of now new (deed.Remove at)).its 1 0)
      (update_of now new (deed.Remove at)).edit r now.0.upper v
      → HasRenewed z met statistic (Del k) r first.0.upper v
  renewed_without met r v h = subst
      (λ (x : ℕ × Edit × TreeView). HasRenewed z met x.0 x.1 r x.2 v)
      (λ i. (
        (ap (λ (its : List ℕ). get_or its 1 0) (words_are new b before now wrote)
            ∙ left.spells.statistic_is) i,
        (ap (λ (x : Note). Del (key_at at x.objects)) (note_is first now upper)
            ∙ ap Del key_same) i,
        upper i,
      )) h
