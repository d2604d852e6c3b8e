-- Bytes compared one by one.
use Rattle.std.proofs.Common.{◌≡◌, ℕ, zero, suc, ◌≤◌, List, [], ◌∷◌, ◌++◌, length, take, Ordering, Less, Equal, Greater, arith, refl, sym, ◌∙◌, ap, append-nil}
use Rattle.std.proofs.lemmas.Bool.Decides.{nat_tests}
use Rattle.std.proofs.lemmas.Cmp.{ranked}
use Rattle.std.specs.Ordering.{nat_cmp, ordering_then}
use Rattle.std.specs.Cmp.Lexicographic.{slice_cmp}

-- So far both were the same.
pub record AreAlike (xs ys left right : List ℕ) : Type 0 where
  pub same : slice_cmp nat_cmp xs ys ≡ slice_cmp nat_cmp left right

-- At first nothing was compared.
pub alike_none : (xs ys : List ℕ) → AreAlike xs ys xs ys
alike_none xs ys = record { same = refl }

same_cmp : (x y : ℕ) → x ≡ y → nat_cmp x y ≡ Equal
same_cmp x y e = grind (arith, nat_tests)

-- One more byte that is the same.
pub alike_more : (xs ys left right more rest : List ℕ) (x y : ℕ) → AreAlike xs ys left right
    → left ≡ x ∷ more → right ≡ y ∷ rest → x ≡ y
    → AreAlike xs ys more rest
alike_more xs ys left right more rest x y a e f g = record {
  same = a.same ∙ (λ i. slice_cmp nat_cmp (e i) (f i))
      ∙ ap (λ (o : Ordering). ordering_then o (slice_cmp nat_cmp more rest)) (same_cmp x y g);
}

-- What is left decides.
pub alike_left : (xs ys left right : List ℕ) (r : Ordering) → AreAlike xs ys left right
    → r ≡ slice_cmp nat_cmp left right → r ≡ slice_cmp nat_cmp xs ys
alike_left xs ys left right r a e = e ∙ sym a.same

decided : (x y : ℕ) (r q : Ordering) → r ≡ nat_cmp x y → (x ≡ y → ⊥) → r ≡ ordering_then r q
decided x y Less q e n = refl
decided x y Equal q e n = absurd (n (ranked x y Equal e))
decided x y Greater q e n = refl

-- The first bytes that differ decide.
pub alike_other : (xs ys left right more rest : List ℕ) (x y : ℕ) (r : Ordering)
    → AreAlike xs ys left right → left ≡ x ∷ more → right ≡ y ∷ rest
    → (x ≡ y → ⊥) → r ≡ nat_cmp x y → r ≡ slice_cmp nat_cmp xs ys
alike_other xs ys left right more rest x y r a e f n h =
    alike_left xs ys left right r a
    (decided x y r (slice_cmp nat_cmp more rest) h n
    ∙ ap (λ (o : Ordering). ordering_then o (slice_cmp nat_cmp more rest)) h
    ∙ sym (λ i. slice_cmp nat_cmp (e i) (f i)))

-- Bytes compared one after the other.
pub ruleset byte_orders = (alike_none, alike_more, alike_left, alike_other)

-- ---- as many first bytes as there are others

-- So far both were the same.
pub record AreAlikeInFront (xs ys left right : List ℕ) : Type 0 where
  pub same : slice_cmp nat_cmp (take (length ys) xs) ys ≡ slice_cmp nat_cmp (take (length right) left) right

pub front_none : (xs ys : List ℕ) → AreAlikeInFront xs ys xs ys
front_none xs ys = record { same = refl }

front : List ℕ → List ℕ → Ordering
front xs ys = slice_cmp nat_cmp (take (length ys) xs) ys

pub front_more : (xs ys left right more rest : List ℕ) (x y : ℕ) → AreAlikeInFront xs ys left right
    → left ≡ x ∷ more → right ≡ y ∷ rest → x ≡ y
    → AreAlikeInFront xs ys more rest
unfolding front
front_more xs ys left right more rest x y a e f g = record {
  same = a.same ∙ (λ i. front (e i) (f i))
      ∙ ap (λ (o : Ordering). ordering_then o (front more rest)) (same_cmp x y g);
}

-- The first bytes that differ decide.
pub front_other : (xs ys left right more rest : List ℕ) (x y : ℕ) (r : Ordering)
    → AreAlikeInFront xs ys left right → left ≡ x ∷ more → right ≡ y ∷ rest
    → (x ≡ y → ⊥) → r ≡ nat_cmp x y → r ≡ slice_cmp nat_cmp (take (length ys) xs) ys
unfolding front
front_other xs ys left right more rest x y r a e f n h =
    decided x y r (front more rest) h n
    ∙ ap (λ (o : Ordering). ordering_then o (front more rest)) h
    ∙ sym (λ i. front (e i) (f i)) ∙ sym a.same

-- What is left decides.
pub front_left : (xs ys left right : List ℕ) (r : Ordering) → AreAlikeInFront xs ys left right
    → r ≡ slice_cmp nat_cmp (take (length right) left) right → r ≡ slice_cmp nat_cmp (take (length ys) xs) ys
front_left xs ys left right r a e = e ∙ sym a.same

-- Where all others were met they are the same.
pub front_all : (xs ys left right : List ℕ) → AreAlikeInFront xs ys left right → length right ≡ 0
    → Equal ≡ slice_cmp nat_cmp (take (length ys) xs) ys
front_all xs ys left [] a e = sym a.same
front_all xs ys left (y ∷ rest) a e = absurd (omega arith)

-- Where the first ones end before they are less.
pub front_few : (xs ys left right rest : List ℕ) (y : ℕ) → AreAlikeInFront xs ys left right → length left ≡ 0 → right ≡ y ∷ rest
    → Less ≡ slice_cmp nat_cmp (take (length ys) xs) ys
unfolding front
front_few xs ys [] right rest y a e f = sym (ap (front []) f) ∙ sym a.same
front_few xs ys (x ∷ left) right rest y a e f = absurd (omega arith)

-- There are no more than all.
pub take_more : (n : ℕ) (xs : List ℕ) → length xs ≤ n → take n xs ≡ xs
take_more zero [] h = refl
take_more (suc n) [] h = refl
take_more zero (x ∷ xs) h = absurd (omega arith)
take_more (suc n) (x ∷ xs) h = ap (λ (ys : List ℕ). x ∷ ys) (take_more n xs (omega (arith, h)))

-- First bytes compared one after the other.
pub ruleset front_orders = (front_none, front_more, front_other, front_left, front_all, front_few)

-- Bytes that neither begin others nor begin with them stand to these as they do with more behind them.
pub begun_order : (xs ys more : List ℕ) → ((us vs : List ℕ) → xs ++ us ≡ ys ++ vs → us ≡ vs)
    → slice_cmp nat_cmp (take (length ys) (xs ++ more)) ys ≡ slice_cmp nat_cmp xs ys
begun_order [] [] more h = refl
begun_order [] (y ∷ ys) more h = absurd (omega (arith, ap length (h (y ∷ ys) [] (sym (append-nil (y ∷ ys))))))
begun_order (x ∷ xs) [] more h = absurd (omega (arith, ap length (h [] (x ∷ xs) (append-nil (x ∷ xs)))))
begun_order (x ∷ xs) (y ∷ ys) more h =
    by (nat_cmp x y) refl (λ e. begun_order xs ys more (λ us vs f. h us vs (λ i. ranked x y Equal (sym e) i ∷ f i)))
  where
    by : (o : Ordering) → nat_cmp x y ≡ o
        → (nat_cmp x y ≡ Equal → slice_cmp nat_cmp (take (length ys) (xs ++ more)) ys ≡ slice_cmp nat_cmp xs ys)
        → ordering_then o (slice_cmp nat_cmp (take (length ys) (xs ++ more)) ys) ≡ ordering_then o (slice_cmp nat_cmp xs ys)
    by Less e rest = refl
    by Equal e rest = rest e
    by Greater e rest = refl
