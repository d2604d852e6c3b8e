-- Members of lists, claims on lists of rows, and rows of a list one by one.
use Rattle.std.proofs.Common.{◌≡◌, ◌≢◌, ◌⊎◌, ℕ, zero, suc, List, [], ◌∷◌, length, map, sym, refl, ap, ◌∙◌, subst, inl, inr, ⊎_elim, arith}
use mathlib.Core.Logic.{dite}
use mathlib.Core.Option.{some, none, some-injective, some-ne-none}
use native.Mathlib.Decide.{ℕ_discrete}
use lib.ListN.{get_elem?}
use Rattle.std.specs.Cmp.Lexicographic.{nat_list_cmp_total}
use Rattle.std.specs.declared.cmp.Ordering.TheVariants.{Less}
use Rattle.atomic_table.proofs.Lists.{at_map}
use Rattle.ca_model.specs.StoreMap.{Pair, StoreMap, bytes_cmp, AreAbove, IsStoreMap}
use Rattle.ca_rows.specs.declared.view.Claim.TheVariants.{Lends, Unlinked}
use Rattle.ca_rows.specs.declared.view.Claimed.{Claimed}
use Rattle.ca_rows.specs.Claims.{claim_of}
use Rattle.ca_rows.proofs.Claiming.{claimed_here, claimed_else, dropped_here, dropped_else}
use Rattle.ca_node.specs.Laws.{in_nothing}
use Rattle.ca_node.specs.Links.{IsIn}
use Rattle.ca_node.specs.Told.{given, lent_out, taken_out, IsLastThere}
use Rattle.ca_node.specs.TreeView.{Note}
use Rattle.ca_node.proofs.Looking.{in_more}

-- The first row is in the list.
pub in_first : (r : ℕ) (xs : List ℕ) → IsIn r (r ∷ xs)
in_first r xs = (0, refl)

-- A row of the rest is.
pub in_rest : (r x : ℕ) (xs : List ℕ) → IsIn r xs → IsIn r (x ∷ xs)
in_rest r x xs i = (suc i.0, i.1)

-- Whether a row is in a list.
pub has : (xs : List ℕ) (r : ℕ) → IsIn r xs ⊎ ¬ IsIn r xs
has [] r = inr (in_nothing r [] refl)
has (x ∷ xs) r = dite (ℕ_discrete x r)
    (λ e. inl (0, ap some e))
    (λ n. ⊎_elim (λ (i : IsIn r xs). inl (in_rest r x xs i))
    (λ (m : ¬ IsIn r xs). inr (λ i. ⊎_elim n m (in_more x r xs i))) (has xs r))

-- A row that was given has no claim.
pub given_here : (rows : List ℕ) (claims : List Claimed) (r : ℕ) → IsIn r rows
    → claim_of (given rows claims) r ≡ none
given_here [] claims r i = absurd (in_nothing r [] refl i)
given_here (x ∷ xs) claims r i = dite (ℕ_discrete r x)
    (λ e. ap (claim_of (given (x ∷ xs) claims)) e ∙ dropped_here (given xs claims) x)
    (λ n. dropped_else (given xs claims) x r n
    ∙ given_here xs claims r (⊎_elim (λ e. absurd (n (sym e))) (λ j. j) (in_more x r xs i)))

-- Another one has the claim that it had.
pub given_else : (rows : List ℕ) (claims : List Claimed) (r : ℕ) → ¬ IsIn r rows
    → claim_of (given rows claims) r ≡ claim_of claims r
given_else [] claims r n = refl
given_else (x ∷ xs) claims r n = dropped_else (given xs claims) x r (λ e. n (0, ap some (sym e)))
    ∙ given_else xs claims r (λ i. n (in_rest r x xs i))

-- A row that was taken out is unlinked by the seat.
pub taken_here : (rows : List ℕ) (claims : List Claimed) (r : ℕ) → IsIn r rows
    → claim_of (taken_out rows claims) r ≡ some Unlinked
taken_here [] claims r i = absurd (in_nothing r [] refl i)
taken_here (x ∷ xs) claims r i = dite (ℕ_discrete r x)
    (λ e. ap (claim_of (taken_out (x ∷ xs) claims)) e
    ∙ claimed_here (taken_out xs claims) x Unlinked)
    (λ n. claimed_else (taken_out xs claims) x r Unlinked n
    ∙ taken_here xs claims r (⊎_elim (λ e. absurd (n (sym e))) (λ j. j) (in_more x r xs i)))

-- Another one has the claim that it had.
pub taken_else : (rows : List ℕ) (claims : List Claimed) (r : ℕ) → ¬ IsIn r rows
    → claim_of (taken_out rows claims) r ≡ claim_of claims r
taken_else [] claims r n = refl
taken_else (x ∷ xs) claims r n = claimed_else (taken_out xs claims) x r Unlinked
    (λ e. n (0, ap some (sym e)))
    ∙ taken_else xs claims r (λ i. n (in_rest r x xs i))

-- A row that was lent is lent.
pub lent_here : (rows : List ℕ) (claims : List Claimed) (r : ℕ) → IsIn r rows
    → claim_of (lent_out rows claims) r ≡ some Lends
lent_here [] claims r i = absurd (in_nothing r [] refl i)
lent_here (x ∷ xs) claims r i = dite (ℕ_discrete r x)
    (λ e. ap (claim_of (lent_out (x ∷ xs) claims)) e
    ∙ claimed_here (lent_out xs claims) x Lends)
    (λ n. claimed_else (lent_out xs claims) x r Lends n
    ∙ lent_here xs claims r (⊎_elim (λ e. absurd (n (sym e))) (λ j. j) (in_more x r xs i)))

-- Another one has the claim that it had.
pub lent_else : (rows : List ℕ) (claims : List Claimed) (r : ℕ) → ¬ IsIn r rows
    → claim_of (lent_out rows claims) r ≡ claim_of claims r
lent_else [] claims r n = refl
lent_else (x ∷ xs) claims r n = claimed_else (lent_out xs claims) x r Lends
    (λ e. n (0, ap some (sym e)))
    ∙ lent_else xs claims r (λ i. n (in_rest r x xs i))

-- Of two lists that are as long, one has something where the other has.
pub other_has : {A B : Type 0} (xs : List A) (ys : List B) (k : ℕ) (a : A) → length ys ≡ length xs
    → get_elem? xs k ≡ some a → (b : B)
    × (get_elem? ys k ≡ some b)
other_has [] ys k a e here = absurd (some-ne-none a (sym here))
other_has (x ∷ xs) [] k a e here = absurd (omega arith)
other_has (x ∷ xs) (y ∷ ys) zero a e here = (y, refl)
other_has (x ∷ xs) (y ∷ ys) (suc k) a e here = other_has xs ys k a (omega arith) here

-- A list is what a function gives on another one, if it is so at each place.
pub map_is_list : {A B : Type 0} (f : A → B) (xs : List A) (ys : List B) → length ys ≡ length xs
    → ((k : ℕ) (a : A) (b : B) → get_elem? xs k ≡ some a → get_elem? ys k ≡ some b → f a ≡ b)
    → map f xs ≡ ys
map_is_list f [] [] e each = refl
map_is_list f [] (y ∷ ys) e each = absurd (omega arith)
map_is_list f (x ∷ xs) [] e each = absurd (omega arith)
map_is_list f (x ∷ xs) (y ∷ ys) e each = ap (λ z. z ∷ map f xs) (each 0 x y refl refl)
    ∙ ap (λ zs. y ∷ zs) (map_is_list f xs ys (omega arith) (λ k a b. each (suc k) a b))

-- A key isn't less than itself.
not_less : (k : List ℕ) → bytes_cmp k k ≢ Less
not_less k l = let r = nat_list_cmp_total.antisymm k k in cc

-- The first pair's key is less than that of another one.
less_than_all : (p : ℕ) (k : List ℕ) (m : StoreMap) (j : ℕ) (q : Pair) → AreAbove k m
    → get_elem? m j ≡ some q → bytes_cmp k q.0 ≡ Less
less_than_all p k [] j q a e = absurd (some-ne-none q (sym e))
less_than_all p k (x ∷ m) zero q a e = subst
    (λ (y : Pair). bytes_cmp k y.0 ≡ Less) (some-injective x q e) a.0
less_than_all p k (x ∷ m) (suc j) q a e = less_than_all p k m j q a.1 e

-- Rows whose pairs ascend are each in one place.
pub once : (p : ℕ) (f : ℕ → Pair) (xs : List ℕ) → IsStoreMap p (map f xs) → (i j row : ℕ)
    → get_elem? xs i ≡ some row → get_elem? xs j ≡ some row → i ≡ j
once p f [] m i j row a b = absurd (some-ne-none row (sym a))
once p f (x ∷ xs) m zero zero row a b = refl
once p f (x ∷ xs) m zero (suc j) row a b =
    absurd (not_less (f row).0 (subst
    (λ (y : ℕ). bytes_cmp (f y).0 (f row).0 ≡ Less) (some-injective x row a)
    (less_than_all p (f x).0 (map f xs) j (f row) m.1 (at_map f xs j row b))))
once p f (x ∷ xs) m (suc i) zero row a b =
    absurd (not_less (f row).0 (subst
    (λ (y : ℕ). bytes_cmp (f y).0 (f row).0 ≡ Less) (some-injective x row b)
    (less_than_all p (f x).0 (map f xs) i (f row) m.1 (at_map f xs i row a))))
once p f (x ∷ xs) m (suc i) (suc j) row a b = ap suc (once p f xs m.2 i j row a b)

-- The last note of a link is one.
pub in_notes : (note : Note) (notes : List Note) → IsLastThere note notes → IsIn note notes
in_notes note [] last = absurd last
in_notes note (n ∷ notes) last = ⊎_elim (λ (e : n ≡ note). (0, ap some e))
    (λ (t : (n.place.link ≢ note.place.link) × IsLastThere note notes).
    let i = in_notes note notes t.1 in (suc i.0, i.1)) last
