-- Store maps: lists of pairs of a key and an object, both bytes, with the keys strictly ascending byte by byte.
use Rattle.std.specs.Prelude.{◌≡◌, ℕ, ◌+◌, ◌-◌, ◌≤◌, not, List, [], ◌∷◌, ◌++◌, filter, length, Option, None, Some}
use Rattle.std.specs.declared.cmp.Ordering.{Ordering}
use Rattle.std.specs.declared.cmp.Ordering.TheVariants.{Less}
use Rattle.std.specs.Ordering.{nat_cmp, is_lt, is_eq, is_gt}
use Rattle.std.specs.Cmp.Lexicographic.{slice_cmp}
use Rattle.ca_term.specs.declared.bounds.TheConstants.{MOST_CODE_BYTES, MOST_ELEMENTS, MOST_DEPTH}
use Rattle.ca_term.specs.Code.{four_bytes}
use Rattle.ca_term.specs.Grammar.{IsCodeWithin, AreCodesWithin}

-- a key and an object
abbrev pub Pair : Type 0
Pair = List ℕ × List ℕ

abbrev pub StoreMap : Type 0
StoreMap = List Pair

-- how two byte lists compare: byte by byte, a proper prefix first
abbrev pub bytes_cmp : List ℕ → List ℕ → Ordering
bytes_cmp a b = slice_cmp nat_cmp a b

-- the pairs with this key: none or one
abbrev pub get : StoreMap → List ℕ → StoreMap
get map k = filter (λ p. is_eq (bytes_cmp p.0 k)) map

-- the pairs with a less key
abbrev pub below : StoreMap → List ℕ → StoreMap
below map k = filter (λ p. is_lt (bytes_cmp p.0 k)) map

-- the pairs with a greater key
abbrev pub above : StoreMap → List ℕ → StoreMap
above map k = filter (λ p. is_gt (bytes_cmp p.0 k)) map

-- the map without the pair of this key
abbrev pub del : StoreMap → List ℕ → StoreMap
del map k = filter (λ p. not (is_eq (bytes_cmp p.0 k))) map

-- the map with this object in the place of its key's object
abbrev pub put : StoreMap → List ℕ → List ℕ → StoreMap
put map k o = below map k ++ (k, o) ∷ above map k

-- What a map has at a key: an object, or nothing.
abbrev pub IsFound : StoreMap → List ℕ → Option (List ℕ) → Type 0
IsFound map k None = get map k ≡ []
IsFound map k (Some o) = get map k ≡ (k, o) ∷ []

-- The object's bytes are the code of a tuple, the key's bytes are the code of its element `keypos`, counted from 1, and they are few enough:
-- a tag, the size in four bytes, the codes of the elements before the key, the key, and the codes of those behind it.
pub record IsPair (keypos : ℕ) (p : Pair) : Type 0 where
  -- how many elements stand before the key, and behind it
  pub before : ℕ
  pub behind : ℕ
  -- their codes, one after another
  pub codes_before : List ℕ
  pub codes_behind : List ℕ
  pub place : keypos ≡ before + 1
  pub narrow : before + 1 + behind ≤ MOST_ELEMENTS
  pub bytes : p.1 ≡ 0x40 ∷ four_bytes (before + 1 + behind) ++ (codes_before ++ (p.0 ++ codes_behind))
  pub are_before : AreCodesWithin (MOST_DEPTH - 1) before codes_before
  pub is_key : IsCodeWithin (MOST_DEPTH - 1) p.0
  pub are_behind : AreCodesWithin (MOST_DEPTH - 1) behind codes_behind
  pub short : length p.1 ≤ MOST_CODE_BYTES

-- This key is less than the keys of all these pairs.
abbrev pub AreAbove : List ℕ → StoreMap → Type 0
AreAbove k [] = Unit {0}
AreAbove k (p ∷ map) = (bytes_cmp k p.0 ≡ Less) × AreAbove k map

-- Each pair is an object under its key, and the keys ascend strictly.
abbrev pub IsStoreMap : ℕ → StoreMap → Type 0
IsStoreMap keypos [] = Unit {0}
IsStoreMap keypos (p ∷ map) = IsPair keypos p × AreAbove p.0 map × IsStoreMap keypos map
