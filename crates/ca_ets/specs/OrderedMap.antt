-- The ordered map of objects: a list of objects that fit, their keys strictly ascending in the term order.
-- Source: the ets manual, the table type `ordered_set`.
use Rattle.std.specs.Prelude.{◌≡◌, ℕ, true, not, ◌&&◌, List, [], ◌∷◌, ◌++◌, filter}
use Rattle.std.specs.declared.cmp.Ordering.TheVariants.{Less}
use Rattle.std.specs.Ordering.{is_lt, is_le, is_eq, is_gt}
use Rattle.ca_term.specs.Tree.{Tree}
use Rattle.ca_term.specs.Order.{term_cmp}
use Rattle.ca_term.specs.Object.{key_of, is_object, fits}

-- the objects whose key is k: none or one
abbrev pub get : ℕ → List Tree → Tree → List Tree
get keypos map k = filter (λ o. is_eq (term_cmp (key_of keypos o) k)) map

-- the objects whose key is less than k, or greater
abbrev pub below : ℕ → List Tree → Tree → List Tree
below keypos map k = filter (λ o. is_lt (term_cmp (key_of keypos o) k)) map

abbrev pub above : ℕ → List Tree → Tree → List Tree
above keypos map k = filter (λ o. is_gt (term_cmp (key_of keypos o) k)) map

-- the objects from one key to another, both included
abbrev pub between : ℕ → List Tree → Tree → Tree → List Tree
between keypos map lo hi = filter (λ o. is_le (term_cmp lo (key_of keypos o)) && is_le (term_cmp (key_of keypos o) hi)) map

-- the map without the object whose key is k
abbrev pub del : ℕ → List Tree → Tree → List Tree
del keypos map k = filter (λ o. not (is_eq (term_cmp (key_of keypos o) k))) map

-- the map with this object in the place of its key's object
abbrev pub put : ℕ → List Tree → Tree → List Tree
put keypos map o = below keypos map (key_of keypos o) ++ o ∷ above keypos map (key_of keypos o)

-- what may stand in a table
pub record IsEntry (keypos : ℕ) (o : Tree) : Type 0 where
  pub object : is_object keypos o ≡ true
  pub fitting : fits o ≡ true

-- the key of an object is less than those of all these
abbrev pub AreAbove : ℕ → Tree → List Tree → Type 0
AreAbove keypos o [] = Unit {0}
AreAbove keypos o (p ∷ map) = (term_cmp (key_of keypos o) (key_of keypos p) ≡ Less) × AreAbove keypos o map

abbrev pub IsTable : ℕ → List Tree → Type 0
IsTable keypos [] = Unit {0}
IsTable keypos (o ∷ map) = IsEntry keypos o × AreAbove keypos o map × IsTable keypos map
