-- Whether a tuple is an object, and its key.
use Rattle.std.proofs.Common.{◌≡◌, ℕ, zero, suc, ◌≤◌, ◌<◌, ◌-◌, true, false, List, [], ◌∷◌, length, get_or, arith, refl, sym, ◌∙◌}
use Rattle.ca_term.proofs.Rows.{size_row, elements_are}
use Rattle.std.proofs.lemmas.Bool.Decides.{nat_tests}
use Rattle.std.proofs.lemmas.List.{get_or_default}
use Rattle.ca_term.specs.Tree.{Tree, Tuple, Nil, row_of}
use Rattle.ca_term.specs.Object.{key_of, is_object, elements_of}

-- The elements of a tuple are those that it is made of.
pub elements_is : (ts : List Tree) (o : Tree) → Tuple (row_of ts) ≡ o → ts ≡ elements_of o
elements_is ts o is = rw (← is) (sym (elements_are ts))

get_past : (ts : List Tree) (n : ℕ) (d : Tree) → length ts ≤ n → get_or ts n d ≡ d
get_past [] n d h = refl
get_past (t ∷ ts) zero d h = absurd (omega arith)
get_past (t ∷ ts) (suc n) d h = get_past ts n d (omega arith)

module _ (p : ℕ) (ts : List Tree) (o : Tree) (is : Tuple (row_of ts) ≡ o) where
  -- A tuple that ends before its key has none.
  pub no_key : length ts ≤ p - 1 → key_of p o ≡ Nil
  no_key h = rw (← is, elements_are ts) (get_past ts (p - 1) Nil h)

  -- The key is the element at its place.
  pub key_is : (k : Tree) → k ≡ get_or ts (p - 1) k → p - 1 < length ts → k ≡ key_of p o
  key_is k e h = rw (← is, elements_are ts) (e ∙ get_or_default ts (p - 1) k Nil h)

  -- A tuple with an element at the place of the key is an object.
  pub object_is : 1 ≤ p → p - 1 < length ts → is_object p o ≡ true
  object_is l h = rw (← is, size_row ts) (grind (arith, nat_tests))

  -- A shorter tuple is no object.
  pub object_is_not : 1 ≤ p → length ts ≤ p - 1 → is_object p o ≡ false
  object_is_not l h = rw (← is, size_row ts) (grind (arith, nat_tests))
