-- What walks and runs of a plain store come to.
use Rattle.std.proofs.Common.{◌≡◌, ◌≢◌, ℕ, suc, ◌≤◌, ◌<◌, ◌+◌, Bool, true, List, [], ◌∷◌, length, take, drop, get_or, arith, refl, sym, ◌∙◌, ap, subst, Some, None, inl}
use Rattle.std.specs.Prelude.{Option, min, slice_range, filter}
use denote.Ref.{Bor}
use denote.Param.Members.{Shared}
use Rattle.ca_term.specs.declared.bounds.TheConstants.{MOST_CODE_BYTES}
use Rattle.ca_model.specs.StoreMap.{Pair, StoreMap, IsStoreMap}
use Rattle.ca_model.specs.Slab.{nothing}
use Rattle.ca_model.specs.Edges.{Bound, from, up_to, objects_of, first_object, last_object}
use Rattle.ca_model.specs.Event.{Above, Below, Range}
use Rattle.ca_model.specs.Known.{Known, Meets}
use Rattle.ca_model.specs.Runs.{Opens}
use Rattle.ca_model.specs.PlainView.{known_alone}
use Rattle.ca_model.specs.RunView.{left_in, IsPart}
use Rattle.ca_model.specs.declared.run.Run.{Run}
use Rattle.ca_model.proofs.Alone.{read_met, read_leaves}
use Rattle.ca_model.proofs.Spots.{pair_there, first_there, last_there, part_within, next_of_part}

-- All pairs are within no bound.
pub all_pairs : (m : StoreMap) → filter (λ (p : Pair). true) m ≡ m
all_pairs [] = refl
all_pairs (q ∷ m) = ap (λ x. q ∷ x) (all_pairs m)

-- An object of a store map is short enough for a Code.
pub short_there : (p : ℕ) (m : StoreMap) (i : ℕ) (object : List ℕ) → IsStoreMap p m → i < length m → object ≡ (get_or m i nothing).1
    → length object ≤ MOST_CODE_BYTES
short_there p m i object t h e = subst (λ (x : List ℕ). length x ≤ MOST_CODE_BYTES) (sym e) (pair_there p m i t h).short

-- A plain store, and where an edge begins or ends in its list.
module _ (p : ℕ) (m : StoreMap) (r : Option (List (List ℕ))) (s : ℕ) (a : Known) (view : known_alone p m r s ≡ a) (t : IsStoreMap p m) (edge : Bound)
    (i : ℕ) where
  pub above_none : from edge m ≡ drop i m → i ≡ length m → Meets a a (Above edge None)
  above_none starts e = read_met p m r s a (Above edge None) view t refl (ap first_object (starts ∙ ap (λ (n : ℕ). drop n m) e ∙ all_dropped m))
    where
      all_dropped : (m : StoreMap) → drop (length m) m ≡ []
      all_dropped [] = refl
      all_dropped (q ∷ m) = all_dropped m

  pub above_some : (object : List ℕ) → from edge m ≡ drop i m → i < length m → object ≡ (get_or m i nothing).1 → Meets a a (Above edge (Some object))
  above_some object starts h e =
      read_met p m r s a (Above edge (Some object)) view t refl (ap first_object starts ∙ first_there m i h ∙ ap Some (sym e))

  pub below_none : up_to edge m ≡ take i m → i ≡ 0 → Meets a a (Below edge None)
  below_none ends e = read_met p m r s a (Below edge None) view t refl (ap last_object (ends ∙ ap (λ (n : ℕ). take n m) e))

  pub below_some : (object : List ℕ) (end : ℕ) → end ≡ suc i → up_to edge m ≡ take end m → i < length m → object ≡ (get_or m i nothing).1
      → Meets a a (Below edge (Some object))
  below_some object end one ends h e =
      read_met p m r s a (Below edge (Some object)) view t refl
      (ap last_object (ends ∙ ap (λ (n : ℕ). take n m) one) ∙ last_there m i h ∙ ap Some (sym e))

-- A run is a part of the list, and whole.
pub opened : {F : Type 0} (g : Shared F (Bor (List ℕ) × Unit {0}) Bool) (f : F) (p : ℕ) (m : StoreMap) (r : Option (List (List ℕ))) (s : ℕ) (a : Known)
    (lo hi : Bound) (want start end next : ℕ)
    → known_alone p m r s ≡ a → IsStoreMap p m → from lo m ≡ drop start m → up_to hi m ≡ take end m → next ≡ min start end
    → Opens g f a (known_alone p m (Some (objects_of (slice_range m next end))) s) lo hi want true
opened g f p m r s a lo hi want start end next view t starts ends is =
    let objects = objects_of (slice_range m next end) in
    let answer = part_within p m lo hi start end next t starts ends is in
    record {
      cut = hi;
      objects = objects;
      met = read_leaves p m r (Some objects) s a (Range lo hi hi objects) view t refl (inl refl, answer);
      run = refl;
      reaches = refl;
    }

-- What a run hands out of a plain store's list.
module _ (p : ℕ) (m : StoreMap) (r : Option Run) (run : Run) (s : ℕ) (a : Known) (view : known_alone p m (left_in m r) s ≡ a) (open_is : r ≡ Some run)
    (part : IsPart m r) where
  inside : IsPart m (Some run)
  inside = subst (λ (x : Option Run). IsPart m x) open_is part

  pub next_inside : run.next ≢ run.end → run.next < length m
  next_inside differs = omega (arith, differs, inside.0, inside.1)

  pub next_there : (object : List ℕ) → run.next ≢ run.end → object ≡ (get_or m run.next nothing).1
      → a.run ≡ Some (object ∷ objects_of (slice_range m (run.next + 1) run.end))
  next_there object differs e =
      sym (ap (λ (k : Known). k.run) view) ∙ ap (left_in m) open_is
      ∙ ap Some (next_of_part m run.next run.end (omega (arith, differs, inside.0)) inside.1
      ∙ ap (λ (o : List ℕ). o ∷ objects_of (slice_range m (run.next + 1) run.end)) (sym e))
