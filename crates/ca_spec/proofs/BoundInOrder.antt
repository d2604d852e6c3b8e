-- What is bound at the places of a table, in the order of the places.
use Rattle.std.proofs.Common.{◌≡◌, ℕ, zero, suc, ◌≤◌, ◌<◌, ◌+◌, ◌-◌, List, [], ◌∷◌, ◌++◌, length, get_or, map, replicate, Option, Some, None, drop, add-one, drop-cons, append_assoc, append-nil, refl, ap, sym, ◌∙◌}
use Rattle.std.proofs.lemmas.List.{drop_all}
use Rattle.std.specs.Prelude.{filter_map}
use Rattle.ca_term.specs.Tree.{Nil, Tree, list_of}
use Rattle.ca_match.specs.Match.{all_bound}

nothing : (m : ℕ) → filter_map (λ (b : Option Tree). b) (replicate m None) ≡ []
nothing zero = refl
nothing (suc m) = nothing m

module _ {A : Type 0} (at : Option A → Option Tree) where
  -- The terms that are bound from a place on.
  abbrev pub terms_from : List (Option A) → ℕ → List Tree
  terms_from table k = filter_map (λ b. b) (map at (drop k table) ++ replicate (100 - length table) None)

  head_is : (table : List (Option A)) (k : ℕ) (d : Option A) → k < length table
      → terms_from table k ≡ filter_map (λ b. b) (at (get_or table k d) ∷ (map at (drop (k + 1) table) ++ replicate (100 - length table) None))
  head_is table k d h = rw (add-one, drop-cons table k d) refl

  -- A place with a term adds that term to what is bound.
  pub one_more : (table : List (Option A)) (k : ℕ) (d : Option A) (t : Tree) (ts all : List Tree) → k < length table
      → all ≡ ts ++ terms_from table k → at (get_or table k d) ≡ Some t → all ≡ (ts ++ t ∷ []) ++ terms_from table (k + 1)
  one_more table k d t ts all h a e =
      a ∙ ap (λ (x : List Tree). ts ++ x) (head_is table k d h
      ∙ ap (λ (x : Option Tree). filter_map (λ b. b) (x ∷ (map at (drop (k + 1) table) ++ replicate (100 - length table) None))) e)
      ∙ sym (append_assoc ts (t ∷ []) (terms_from table (k + 1)))

  -- An empty place adds nothing to what is bound.
  pub none_more : (table : List (Option A)) (k : ℕ) (d : Option A) (ts all : List Tree) → k < length table
      → all ≡ ts ++ terms_from table k → at (get_or table k d) ≡ None → all ≡ ts ++ terms_from table (k + 1)
  none_more table k d ts all h a e =
      a ∙ ap (λ (x : List Tree). ts ++ x) (head_is table k d h
      ∙ ap (λ (x : Option Tree). filter_map (λ b. b) (x ∷ (map at (drop (k + 1) table) ++ replicate (100 - length table) None))) e)

  end_is : (table : List (Option A)) (k : ℕ) → length table ≤ k → terms_from table k ≡ []
  end_is table k h = rw (drop_all k table h) (nothing (100 - length table))

  -- Behind the last place all that is bound was gathered.
  pub all_gathered : (table : List (Option A)) (k : ℕ) (ts : List Tree) → length table ≤ k → terms_from table 0 ≡ ts ++ terms_from table k
      → list_of ts Nil ≡ all_bound (map at table ++ replicate (100 - length table) None)
  all_gathered table k ts h a =
      ap (λ (x : List Tree). list_of x Nil) (sym (a ∙ ap (λ (x : List Tree). ts ++ x) (end_is table k h) ∙ append-nil ts))
