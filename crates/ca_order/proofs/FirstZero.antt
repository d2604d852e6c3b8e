-- Bytes up to their first zero.
use Rattle.std.proofs.Common.{◌≡◌, ℕ, zero, suc, ◌<◌, ◌+◌, ◌-◌, ◌==◌, Bool, true, false, List, [], ◌∷◌, ◌++◌, length, take, drop, get_or, arith, add-one, refl, sym, ◌∙◌, ap, length-drop, take_all}
use Rattle.std.proofs.lemmas.Bool.Decides.{nat_tests}
use Rattle.memchr.specs.Find.{Passes, NoneBefore, Nowhere, is_byte}
use Rattle.ca_term.specs.Code.{escaped}
use Rattle.ca_term.proofs.Escapes.{escaped_zero, escaped_suc, escaped_nil}
use Rattle.ca_order.specs.Zeros.{HasNoZero}

-- the run before the first zero, and what stands behind it
record IsFirstZero (bs : List ℕ) (i : ℕ) : Type 0 where
  run : HasNoZero (take i bs)
  parts : bs ≡ take i bs ++ 0 ∷ drop (suc i) bs

first_zero_by : (bs : List ℕ) (i : ℕ) → i < length bs → (get_or bs i 0 == 0) ≡ true → ((k : ℕ) → k < i → (get_or bs k 0 == 0) ≡ false) → IsFirstZero bs i
first_zero_by [] i h e f = absurd (omega arith)
first_zero_by (zero ∷ bs) zero h e f = record { run = tt; parts = refl }
first_zero_by (suc b ∷ bs) zero h e f = let n : (suc b == 0) ≡ false = grind (arith, nat_tests) in cc
first_zero_by (zero ∷ bs) (suc i) h e f = let n : (0 == 0) ≡ false = f 0 (omega arith) in cc
first_zero_by (suc b ∷ bs) (suc i) h e f =
    let r = first_zero_by bs i (omega arith) e (λ k l. f (suc k) (omega arith)) in
    record { run = (omega arith, r.run); parts = λ j. suc b ∷ r.parts j }

rest_is : (bs : List ℕ) (i : ℕ) → take (length bs - (i + 1)) (drop (i + 1) bs) ≡ drop (suc i) bs
rest_is bs i =
    let e : take (length bs - (i + 1)) (drop (i + 1) bs) ≡ drop (i + 1) bs =
    take_all (length bs - (i + 1)) (drop (i + 1) bs) (omega (arith, length-drop (i + 1) bs)) in rw (e, add-one) refl

not_true : (b : Bool) → (b ≡ true → ⊥) → b ≡ false
not_true true h = absurd (h refl)
not_true false h = refl

-- Up to the first zero byte there is none.
pub split_first : (bs : List ℕ) (i : ℕ) → NoneBefore (Passes (is_byte 0) bs) 0 (length bs) i → Passes (is_byte 0) bs i
    → HasNoZero (take i bs) × (bs ≡ take i bs ++ 0 ∷ take (length bs - (i + 1)) (drop (i + 1) bs))
split_first bs i n p =
    let r = first_zero_by bs i n.high p (λ k l. not_true _ (n.before k (omega arith) l)) in
    (r.run, r.parts ∙ ap (λ (x : List ℕ). take i bs ++ 0 ∷ x) (sym (rest_is bs i)))

-- Where none is found there is no zero byte.
pub split_last : (bs : List ℕ) → Nowhere (Passes (is_byte 0) bs) 0 (length bs) → HasNoZero bs
split_last [] n = tt
split_last (zero ∷ bs) n = absurd (n 0 (omega arith) (omega arith) refl)
split_last (suc b ∷ bs) n = (omega arith, split_last bs (λ k low high p. n (suc k) (omega arith) (omega arith) p))

-- up to its first zero a text is escaped as it stands
pub escaped_run : (run rest : List ℕ) → HasNoZero run → escaped (run ++ 0 ∷ rest) ≡ run ++ (0 ∷ 0xff ∷ escaped rest)
escaped_run [] rest h = escaped_zero rest
escaped_run (zero ∷ run) rest h = absurd (omega (arith, h.0))
escaped_run (suc b ∷ run) rest h = escaped_suc b (run ++ 0 ∷ rest) ∙ (λ j. suc b ∷ escaped_run run rest h.1 j)

-- Bytes without a zero byte are escaped as they stand, with the end behind them.
pub escaped_no_zero : (bs : List ℕ) → HasNoZero bs → escaped bs ≡ bs ++ 0 ∷ 0 ∷ []
escaped_no_zero [] h = escaped_nil
escaped_no_zero (zero ∷ bs) h = absurd (omega (arith, h.0))
escaped_no_zero (suc b ∷ bs) h = escaped_suc b bs ∙ (λ j. suc b ∷ escaped_no_zero bs h.1 j)
