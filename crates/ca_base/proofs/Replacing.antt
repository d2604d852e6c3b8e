-- A base with an object put is an update of the base that was shown.
use Rattle.std.proofs.Common.{◌≡◌, ◌≢◌, ◌⊎◌, ℕ, ◌≤◌, List, [], ◌∷◌, length, map, drop, Result, Ok, Err, sym, refl, ap, ◌∙◌, subst, inl, inr, ⊎_elim, arith}
use Rattle.std.proofs.lemmas.List.{length-map, length-take}
use mathlib.Core.Logic.{dite}
use mathlib.Core.Option.{some}
use native.Mathlib.Decide.{ℕ_discrete}
use lib.ListN.{get_elem?}
use Rattle.atomic_table.proofs.Lists.{at_set, set_else}
use Rattle.ca_model.specs.Event.{IsAnswer, effect}
use Rattle.ca_model.specs.History.{Put}
use Rattle.ca_model.specs.StoreMap.{StoreMap, IsPair}
use Rattle.ca_model.proofs.Places.{placed_is}
use Rattle.ca_model.specs.Places.{IsPlace}
use Rattle.ca_node.specs.Links.{IsIn}
use Rattle.ca_node.specs.Place.{HasKey}
use Rattle.ca_node.specs.Row.{IsObjectRow, items, count, object, key, pair, item_words, row_in, head_in, head_of, prefix, IsHeaded}
use Rattle.ca_node.specs.Told.{MyTree, Update, IsUpdate}
use Rattle.ca_node.specs.TreeView.{Note}
use Rattle.ca_node.proofs.Looking.{in_more}
use Rattle.ca_node.specs.Laws.{in_nothing}
use Rattle.ca_base.specs.declared.updating.Putting.{Putting}
use Rattle.ca_base.specs.declared.updating.Putting.TheVariants as putting
use Rattle.ca_base.specs.Putting.{put_in, gone, object_at, IsRoom, put_event, IsFor, put_update}
use Rattle.ca_base.specs.Prefixes.{IsTrimmed, reheaded}
use Rattle.ca_base.proofs.NewFronts.{put_headed, rows_same}
use Rattle.ca_base.proofs.Rebasing.{IsNewBase, IsElsewhere, gone_is, is_found_at, is_update}
use Rattle.ca_base.proofs.Inserting.{IsInRange, put_length, elem_or, within, put_both, length_put, map_put, map_put_in, here_put, in_inserted}
use Rattle.ca_rows.specs.declared.sizes.Sizes.{Sizes}
use Rattle.ca_rows.specs.declared.view.Claim.TheVariants.{Holds}
use Rattle.ca_rows.specs.Claims.{claim_of}
use Rattle.ca_node.specs.Layout.{items_word}

-- A place among the objects of a map is within the range.
pub in_range_of : (m : StoreMap) (k : List ℕ) (place : Result ℕ ℕ) → IsPlace m k place
    → IsInRange place (length m)
in_range_of m k (Ok at) h = h.in_range
in_range_of m k (Err at) h = h.in_range

-- A row of the old base stays, or goes.
stays : (place : Result ℕ ℕ) (these : List ℕ) (x row : ℕ) → IsIn row these
    → IsIn row (put_in these place x) ⊎ IsIn row (gone place these)
stays (Err at) these x row i = inl (in_inserted these at x row i)
stays (Ok at) these x row i = dite (ℕ_discrete i.0 at)
    (λ (e : i.0 ≡ at). let l = within these at row (ap (get_elem? these) (sym e) ∙ i.1) in
    inr (0, sym (elem_or these at 0 l) ∙ (ap (get_elem? these) (sym e) ∙ i.1)))
    (λ n. inl (i.0, set_else these at i.0 x n ∙ i.1))

-- What goes stood at the place alone.
goes : (x : Update) (place : Result ℕ ℕ) (row r : ℕ) → IsInRange place (length (items x.old.its))
    → x.comes ≡ row ∷ []
    → IsIn r (gone place (items x.old.its)) → (i : ℕ) × (get_elem? (items x.old.its) i ≡ some r)
    × IsElsewhere x (put_in (items x.old.its) place row) i r
goes x (Err at) row r l comes i = absurd (in_nothing r [] refl i)
goes x (Ok at) row r l comes i = let these : List ℕ = items x.old.its in
    let e = gone_is these at r i in (
      at,
      elem_or these at 0 l ∙ ap some e,
      λ j. ⊎_elim
          (λ (t : (j.0 ≡ at) × (row ≡ r)). inl (
            0,
            ap (λ (xs : List ℕ). get_elem? xs 0) comes
                ∙ ap some t.1,
          ))
          (λ (t : (j.0 ≢ at) × (get_elem? these j.0 ≡ some r)). inr (j.0, t.0, t.1))
          (at_set these at j.0 row r j.1),
    )

-- The call's answer is by the old base's objects.
answers : (why : Putting) (place : Result ℕ ℕ) (objects : List (List ℕ)) (k o : List ℕ)
    → IsFor why place → IsPlace (map pair objects) k place
    → IsAnswer (put_event why k (object_at place objects) o) (map pair objects)
answers putting.Put place objects k o f h = tt
answers putting.PutNew (Ok at) objects k o f h = absurd f
answers putting.PutNew (Err at) objects k o f h = h.equal
answers putting.Change (Err at) objects k o f h = absurd f
answers putting.Change (Ok at) objects k o f h = is_found_at objects k at h

effect_is : (why : Putting) (k was o : List ℕ) → effect (put_event why k was o) ≡ Put k o ∷ []
effect_is putting.Put k was o = refl
effect_is putting.PutNew k was o = refl
effect_is putting.Change k was o = refl

few_enough : (place : Result ℕ ℕ) (n leaf : ℕ) → n ≤ leaf → IsRoom place n leaf
    → put_length place n ≤ leaf
few_enough (Ok at) n leaf l r = l
few_enough (Err at) n leaf l r = omega arith

-- The seat holds a row with an object's words. It may be put at the place, by the call.
pub record IsPut (z : Sizes) (m : MyTree) (note : Note) (row : ℕ) (place : Result ℕ ℕ)
    (why : Putting) (a : List ℕ) : Type 0 where
  pub object_held : claim_of m.0.claims row ≡ some (Holds a)
  pub is_object : IsObjectRow a
  pub place_is : IsPlace (map pair note.objects) (key a) place
  pub room : IsRoom place (length (items note.its)) z.leaf
  pub pair_is : IsPair z.keypos (key a, object a)
  pub is_for : IsFor why place
  pub about : HasKey note.place.span (key a)

module _ (z : Sizes) (m : MyTree) (note : Note) (row new : ℕ) (place : Result ℕ ℕ) (why : Putting)
    (front : List ℕ) (lead bytes statistic word : ℕ) (a b : List ℕ) (is_row : row_in word ≡ row)
    (is_head : head_in word ≡ head_of (length front) a)
    (n : IsNewBase z m new note front
    (put_in (map (reheaded lead bytes) (item_words note.its)) place word) statistic b)
    (trimmed : IsTrimmed (prefix note.its) (key a) front lead bytes)
    (h : IsPut z m note row place why a) where
  abbrev x : Update
  x = put_update note row a b place why

  range : IsInRange place (length (items note.its))
  range = subst (IsInRange place) (length-map note.objects pair
      ∙ n.is_base.as_many) (in_range_of (map pair note.objects) (key a) place h.place_is)

  few_items : length (items note.its) ≤ z.leaf
  few_items = let few = n.is_base.few in
      omega (arith, length-map (item_words note.its) row_in, length-take (count note.its) (drop items_word note.its))

  rows_put : map row_in (put_in (map (reheaded lead bytes) (item_words note.its)) place word)
      ≡ put_in (items note.its) place row
  rows_put = map_put_in place row_in (map (reheaded lead bytes) (item_words note.its)) word
      ∙ (ap (λ (rs : List ℕ). put_in rs place (row_in word))
      (rows_same lead bytes (item_words note.its)) ∙ ap (put_in (items note.its) place) is_row)

  headed_put : IsHeaded b (put_in note.objects place a)
  headed_put = put_headed note.its note.objects n.is_base.headed n.is_base.long (key a) front lead
      bytes trimmed place word note.place.level statistic a b refl n.spells is_head
      (subst (IsInRange place) (sym n.is_base.as_many) range)

  few : length (put_in (items note.its) place row) ≤ z.leaf
  few = let l = length_put place (items note.its) row range in
      let f = few_enough place (length (items note.its)) z.leaf few_items h.room in omega arith

  pub is_put : IsUpdate z m new x
  is_put = is_update z m new x front
      (put_in (map (reheaded lead bytes) (item_words note.its)) place word)
      (put_in (items note.its) place row) statistic n rows_put headed_put few record {
        as_many = length_put place note.objects a
            (subst (IsInRange place) (sym n.is_base.as_many) range)
            ∙ (ap (put_length place) n.is_base.as_many
            ∙ sym (length_put place (items note.its) row range));
        are_objects = λ k r its p q. ⊎_elim
            (λ (s : (row ≡ r) × (a ≡ its)). inr (
              (0, ap some s.0),
              subst (λ (y : ℕ × List ℕ). claim_of m.0.claims y.0 ≡ some (Holds y.1))
                  (λ i. (s.0 i, s.1 i)) h.object_held,
              subst (λ (y : List ℕ). IsObjectRow y) s.1 h.is_object,
            ))
            (λ (o : (i : ℕ) × (get_elem? (items note.its) i ≡ some r)
            × (get_elem? note.objects i ≡ some its)). inl o)
            (put_both place (items note.its) note.objects k row r a its n.is_base.as_many range p q);
        come = λ r i. let e : row ≡ r = ⊎_elim (λ e. e)
            (λ (j : IsIn r []). absurd (in_nothing r [] refl j)) (in_more row r [] i) in
            subst (λ (y : ℕ). IsIn y (put_in (items note.its) place row)
            × ((its : List ℕ) × (claim_of m.0.claims y ≡ some (Holds its)))) e
            (here_put place (items note.its) row range, (a, h.object_held));
        come_once = (λ t. in_nothing t.0 [] refl t.1, tt);
        one_comes = omega arith;
        go = λ r i. goes x place row r range refl i;
        stay = λ r i. stays place (items note.its) row r i;
        map_is = map_put place pair note.objects a
            ∙ placed_is (map pair note.objects) (pair a) place h.place_is;
        does = effect_is why (key a) (object_at place note.objects) (object a);
        answer = answers why place note.objects (key a) (object a) h.is_for h.place_is;
        is_edit = h.pair_is;
        about = h.about;
      }
