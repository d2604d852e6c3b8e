-- Which base names an object row: one, at one place.
use Rattle.std.proofs.Common.{◌≡◌, ℕ, List, sym, ap, ◌∙◌, subst}
use mathlib.Core.Option.{some}
use lib.ListN.{get_elem?}
use Rattle.atomic_table.proofs.Lists.{at_map}
use Rattle.ca_model.specs.StoreMap.{StoreMap, IsStoreMap}
use Rattle.ca_rows.specs.declared.sizes.Sizes.{Sizes}
use Rattle.ca_node.specs.Place.{HasKey, Place}
use Rattle.ca_node.specs.Reached.{base_at}
use Rattle.ca_node.specs.Row.{row_at, items, key, pair, objects_in}
use Rattle.ca_node.specs.Shape.{Role, Base, IsShape}
use Rattle.ca_node.proofs.Members.{once}
use Rattle.ca_node.proofs.Parts.{part_map, in_part}

module _ (z : Sizes) (words : List ℕ) (role : ℕ → Role) (m : StoreMap)
    (shape : IsShape z words role m) where
  -- The keys of a base's objects are led to it.
  pub key_in : (base : ℕ) (place : Place) → role base ≡ Base place → (i row : ℕ)
      → get_elem? (items (row_at words base)) i ≡ some row
      → HasKey place.span (key (row_at words row))
  key_in base place e i row at =
      in_part place.span m i (pair (row_at words row)) (ap
      (λ (x : StoreMap). get_elem? x i) (sym (base_at z words role m shape base place e).has)
      ∙ at_map (λ r. pair (row_at words r)) (items (row_at words base)) i row at)

  -- What a base has is a store map, if the whole is one.
  pub objects_map : (p : ℕ) → IsStoreMap p m → (base : ℕ) (place : Place) → role base ≡ Base place
      → IsStoreMap p (objects_in words base)
  objects_map p is base place e =
      subst (IsStoreMap p) (sym (base_at z words role m shape base place e).has)
      (part_map p place.span m is)

  -- An object row is named by one base, at one place in it.
  pub named_once : (p : ℕ) → IsStoreMap p m → (a b : ℕ) (q r : Place) → role a ≡ Base q
      → role b ≡ Base r → (i j row : ℕ)
      → get_elem? (items (row_at words a)) i ≡ some row
      → get_elem? (items (row_at words b)) j ≡ some row → (a ≡ b) × (i ≡ j)
  named_once p is a b q r e f i j row at at' =
      let same =
      shape.apart a b q r (key (row_at words row)) e f (key_in a q e i row at)
      (key_in b r f j row at') in (
        same,
        once p (λ c. pair (row_at words c)) (items (row_at words a)) (objects_map p is a q e) i j row at
            (subst (λ (c : ℕ). get_elem? (items (row_at words c)) j ≡ some row) (sym same) at'),
      )
