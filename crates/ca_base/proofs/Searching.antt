-- A key's place among the objects of a base, by comparisons with two of them at most.
use Rattle.std.proofs.Common.{◌≡◌, ◌≢◌, ℕ, zero, suc, ◌-◌, ◌<◌, ◌≤◌, List, [], ◌∷◌, length, length-take, map, take, get_or, sym, refl, ap, ◌∙◌, subst, Ok, Err, Some, Result, arith}
use Rattle.std.proofs.lemmas.List.{length-map}
use Rattle.std.specs.Ordering.{ordering_index}
use Rattle.std.specs.declared.cmp.Ordering.{Ordering}
use Rattle.std.specs.declared.cmp.Ordering.TheVariants.{Less, Equal, Greater}
use Rattle.ca_model.specs.StoreMap.{Pair, StoreMap, bytes_cmp, IsFound, IsStoreMap}
use Rattle.ca_model.specs.Slab.{nothing}
use Rattle.ca_model.proofs.Places.{searched, is_found}
use Rattle.ca_model.specs.Places.{IsPlace}
use Rattle.ca_node.specs.Row.{pair, prefix, prefix_length}
use Rattle.ca_node.specs.Row as Row
use Rattle.ca_term.proofs.Bytes.{same_bytes}
use Rattle.ca_base.proofs.Behind.{prefix_decides}
use Rattle.ca_base.proofs.Fronted.{prefix_long}
use Rattle.ca_base.proofs.Items.{at_place as elem_at}
use Rattle.ca_node.specs.TreeView.{Note, TreeView}
use Rattle.ca_base.specs.Finding.{IsReadable}
use Rattle.ca_base.specs.Objects.{IsOrderAt}
use Rattle.ca_leaf.specs.Place.{IsPlaceAmong}
use Rattle.ca_rows.specs.declared.sizes.Sizes.{Sizes}

-- the pair at a place
map_at : (objects : List (List ℕ)) (k : ℕ) (d : Pair) → k < length objects
    → get_or (map pair objects) k d ≡ pair (get_or objects k [])
map_at [] k d l = absurd (omega arith)
map_at (x ∷ xs) zero d l = refl
map_at (x ∷ xs) (suc k) d l = map_at xs k d (omega arith)

-- how the key at a place stands to this key
abbrev stands : Note → List ℕ → ℕ → Ordering
stands note key k = bytes_cmp (pair (get_or note.objects k [])).0 key

no_more : (o : Ordering) → ordering_index o ≤ ordering_index Less → o ≡ Less
no_more Less l = refl
no_more Equal l = absurd (omega arith)
no_more Greater l = absurd (omega arith)

no_less : (o : Ordering) → ordering_index Greater ≤ ordering_index o → o ≡ Greater
no_less Less l = absurd (omega arith)
no_less Equal l = absurd (omega arith)
no_less Greater l = refl

module _ (keypos : ℕ) (note : Note) (key : List ℕ)
    (ordered : IsStoreMap keypos (map pair note.objects)) where
  long : length (map pair note.objects) ≡ length note.objects
  long = length-map note.objects pair

  -- how the pair at a place stands to the key
  compared : (k : ℕ) (d : Pair) → k < length note.objects
      → bytes_cmp (get_or (map pair note.objects) k d).0 key ≡ stands note key k
  compared k d l = ap (λ (p : Pair). bytes_cmp p.0 key) (map_at note.objects k d l)

  found : (at : ℕ) → at < length note.objects → stands note key at ≡ Equal
      → IsPlace (map pair note.objects) key (Ok at)
  found at l is = let m = long in
      searched keypos (map pair note.objects) key (Ok at) ordered (omega arith)
      (λ d. compared at d l ∙ is)

  absent : (at : ℕ) → at ≤ length note.objects → (0 < at → stands note key (at - 1) ≡ Less)
      → (at < length note.objects → stands note key at ≡ Greater)
      → IsPlace (map pair note.objects) key (Err at)
  absent at inside less greater = let m = long in
      searched keypos (map pair note.objects) key (Err at) ordered (omega arith) (λ rises. (
        (λ k d l h. no_more (bytes_cmp (get_or (map pair note.objects) k d).0 key) (subst
            (λ (o : Ordering). ordering_index
            (bytes_cmp (get_or (map pair note.objects) k d).0 key) ≤ ordering_index o)
            (compared (at - 1) d (omega arith)
            ∙ less (omega arith)) (rises k (at - 1) d (omega arith) (omega arith)))),
        (λ k d l h. no_less (bytes_cmp (get_or (map pair note.objects) k d).0 key) (subst
            (λ (o : Ordering). ordering_index o ≤ ordering_index
            (bytes_cmp (get_or (map pair note.objects) k d).0 key))
            (compared at d (omega arith)
            ∙ greater (omega arith)) (rises at k d (omega arith) (omega arith)))),
      ))

-- A place in the line of the objects is the key's place among them.
pub place_is : (z : Sizes) (u : TreeView) (base many : ℕ) (key : List ℕ) (note : Note)
    (place : Result ℕ ℕ) → IsReadable z u base note → many ≡ length note.objects
    → IsPlaceAmong (IsOrderAt z u base key) many place
    → IsPlace (map pair note.objects) key place
place_is z u base many key note (Ok at) r e p = let l : at < length note.objects = omega arith in
    found z.keypos note key r.ordered at l (sym (p.1 note r l))
place_is z u base many key note (Err at) r e p =
    absent z.keypos note key r.ordered at (omega arith)
    (λ l. sym (p.1 l note r (omega arith)))
    (λ l. sym (p.2 (omega arith) note r l))

-- A base's prefix is not that of a key.
module _ (z : Sizes) (u : TreeView) (base : ℕ) (key : List ℕ) (note : Note)
    (r : IsReadable z u base note) (len : ℕ) (same : len ≡ prefix_length note.its) where
  begins_at : (k : ℕ) → k < length note.objects
      → take (length (prefix note.its)) (Row.key (get_or note.objects k [])) ≡ prefix note.its
  begins_at k l = ap (λ (n : ℕ). take n (Row.key (get_or note.objects k [])))
      (prefix_long note.its r.is_base.long r.is_base.headed.short)
      ∙ r.is_base.headed.begin k (get_or note.objects k []) (elem_at note.objects k [] l)

  -- Each object stands to the key as the prefix does.
  all_stand : (o : Ordering) → o ≢ Equal → o ≡ bytes_cmp (prefix note.its) (take len key)
      → (k : ℕ) → k < length note.objects → stands note key k ≡ o
  all_stand o not is k l = let long = prefix_long note.its r.is_base.long r.is_base.headed.short in
      let e : bytes_cmp (prefix note.its) (take (length (prefix note.its)) key) ≡ o =
      ap (λ (n : ℕ). bytes_cmp (prefix note.its) (take n key)) (long ∙ sym same) ∙ sym is in
      prefix_decides (prefix note.its) (Row.key (get_or note.objects k [])) key (begins_at k l)
      (λ f. not (sym e ∙ f)) ∙ e

  pub behind_all : (many : ℕ) → many ≡ length note.objects
      → Less ≡ bytes_cmp (prefix note.its) (take len key)
      → IsPlace (map pair note.objects) key (Err many)
  behind_all many e is = absent z.keypos note key r.ordered many (omega arith)
      (λ l. all_stand Less (λ f. cc) is (many - 1) (omega arith)) (λ l. absurd (omega arith))

  pub before_all : Greater ≡ bytes_cmp (prefix note.its) (take len key)
      → IsPlace (map pair note.objects) key (Err 0)
  before_all is = absent z.keypos note key r.ordered 0 (omega arith) (λ l. absurd (omega arith))
      (λ l. all_stand Greater (λ f. cc) is 0 l)

  -- Where they are equal, the key begins with the prefix.
  pub begins_so : Equal ≡ bytes_cmp (prefix note.its) (take len key)
      → (take (prefix_length note.its) key ≡ prefix note.its) × (len ≤ length key)
  begins_so is = let alike = same_bytes (prefix note.its) (take len key) (sym is) in
      let long = prefix_long note.its r.is_base.long r.is_base.headed.short in (
        ap (λ (n : ℕ). take n key) (sym same) ∙ sym alike,
        omega (arith, ap (λ (xs : List ℕ). length xs) alike, length-take len key),
      )

-- The object at the key's place is what the map has at the key.
pub found_object : (note : Note) (key object : List ℕ) (at : ℕ)
    → IsPlace (map pair note.objects) key (Ok at)
    → object ≡ (pair (get_or note.objects at [])).1
    → IsFound (map pair note.objects) key (Some object)
found_object note key object at h e = let m : StoreMap = map pair note.objects in
    let long = length-map note.objects pair in let l = h.in_range in
    subst (λ (o : List ℕ). IsFound m key (Some o)) (ap
    (λ (p : Pair). p.1) (map_at note.objects at nothing (omega arith))
    ∙ sym e) (is_found m key at h)

-- It stands within the objects.
pub place_inside : (note : Note) (key : List ℕ) (at : ℕ)
    → IsPlace (map pair note.objects) key (Ok at) → at < length note.objects
place_inside note key at h = let long = length-map note.objects pair in let l = h.in_range in
    omega arith
