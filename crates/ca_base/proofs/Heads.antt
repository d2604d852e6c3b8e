-- How heads of keys stand to keys.
use Rattle.std.proofs.Common.{◌≡◌, ◌≢◌, ℕ, zero, suc, ◌+◌, ◌*◌, ◌/◌, ◌%◌, ◌^◌, ◌<◌, ◌≤◌, List, [], ◌∷◌, length, take, drop, get_or, sym, refl, ap, ◌∙◌, subst, ⊎_elim, arith}
use Rattle.std.proofs.Math.Nat.{mul-le-mul_right, pow-suc, zero-mul}
use Rattle.std.proofs.lemmas.Bool.{cases_lt}
use Rattle.std.proofs.lemmas.List.{get_or-take, get_or-drop, length-take}
use Rattle.std.proofs.Math.ListN.{get_or-eq_default}
use Rattle.std.specs.Int.{to_be_bytes, w64}
use Rattle.std.specs.Ordering.{nat_cmp, ordering_then}
use Rattle.std.specs.declared.cmp.Ordering.{Ordering}
use Rattle.std.specs.declared.cmp.Ordering.TheVariants.{Less, Equal, Greater}
use Rattle.ca_term.proofs.Numbers.{less, greater, same, weighted, base_pos}
use Rattle.ca_model.specs.StoreMap.{bytes_cmp}
use Rattle.ca_node.specs.Row.{bytes_in, code_words, count, front_of, key, key_length, key_place, object}
use Rattle.ca_base.specs.Writing.{HasBytes}
use Rattle.ca_base.proofs.ObjectBytes.{byte_at}
use Rattle.ca_node.proofs.WordOrder.{bytes_long}

-- The first so many elements are bytes.
abbrev pub AreSmall : ℕ → List ℕ → Type 0
AreSmall n bytes = (i : ℕ) → i < n → get_or bytes i 0 < 256

pub rest_small : (n x : ℕ) (xs : List ℕ) → AreSmall (suc n) (x ∷ xs) → AreSmall n xs
rest_small n x xs small i l = small (suc i) (omega arith)

-- So many bytes are less than that power of 256.
pub front_fits : (n : ℕ) (bytes : List ℕ) → AreSmall n bytes → front_of n bytes < 256 ^ n
front_fits zero bytes small = omega arith
front_fits (suc n) [] small = base_pos (suc n)
front_fits (suc n) (x ∷ xs) small = let first = small 0 (omega arith) in let rest = front_fits n xs (rest_small n x xs small) in
    omega (arith, pow-suc 256 n, mul-le-mul_right {m = suc x} {n = 256} (256 ^ n) (omega arith))

-- The head of nothing is 0.
front_none : (n : ℕ) → front_of n [] ≡ 0
front_none zero = refl
front_none (suc n) = refl

-- Where the heads of two keys differ, they decide.
pub fronts_decide : (n : ℕ) (a b : List ℕ) → AreSmall n a → AreSmall n b
    → nat_cmp (front_of n a) (front_of n b) ≢ Equal
    → nat_cmp (front_of n a) (front_of n b) ≡ bytes_cmp a b
fronts_decide zero a b small small' not = absurd (not (same 0))
fronts_decide (suc n) [] [] small small' not = absurd (not (same 0))
fronts_decide (suc n) [] (y ∷ ys) small small' not = by (front_of (suc n) (y ∷ ys)) not
  where
    by : (f : ℕ) → nat_cmp 0 f ≢ Equal → nat_cmp 0 f ≡ Less
    by zero n = absurd (n (same 0))
    by (suc f) n = less 0 (suc f) (omega arith)
fronts_decide (suc n) (x ∷ xs) [] small small' not = by (front_of (suc n) (x ∷ xs)) not
  where
    by : (f : ℕ) → nat_cmp f 0 ≢ Equal → nat_cmp f 0 ≡ Greater
    by zero n = absurd (n (same 0))
    by (suc f) n = greater (suc f) 0 (omega arith)
fronts_decide (suc n) (x ∷ xs) (y ∷ ys) small small' not =
    let both = weighted (256 ^ n) x y (front_of n xs) (front_of n ys)
    (front_fits n xs (rest_small n x xs small)) (front_fits n ys (rest_small n y ys small')) in
    both ∙ by (nat_cmp x y) (λ e. not (both ∙ e))
    (fronts_decide n xs ys (rest_small n x xs small) (rest_small n y ys small'))
  where
    by : (o : Ordering) → ordering_then o (nat_cmp (front_of n xs) (front_of n ys)) ≢ Equal
        → (nat_cmp (front_of n xs) (front_of n ys) ≢ Equal
        → nat_cmp (front_of n xs) (front_of n ys) ≡ bytes_cmp xs ys)
        → ordering_then o (nat_cmp (front_of n xs) (front_of n ys)) ≡ ordering_then o (bytes_cmp xs ys)
    by Less not rest = refl
    by Equal not rest = rest not
    by Greater not rest = refl

nothing_times : (y p f : ℕ) → y ≡ 0 → f ≡ 0 → y * p + f ≡ 0
nothing_times y p f e g = omega (arith, zero-mul p, ap (λ (v : ℕ). v * p) e)

-- Bytes that are the same as far as that, with zeros behind their end, have the same head.
front_same : (n : ℕ) (a b : List ℕ) → ((i : ℕ) → i < n → get_or a i 0 ≡ get_or b i 0)
    → front_of n a ≡ front_of n b
front_same zero a b alike = refl
front_same (suc n) [] [] alike = refl
front_same (suc n) [] (y ∷ ys) alike = let first = alike 0 (omega arith) in
    let rest = front_same n [] ys (λ i l. alike (suc i) (omega arith)) in let none = front_none n in
    sym (nothing_times y (256 ^ n) (front_of n ys) (sym first) (sym rest ∙ none))
front_same (suc n) (x ∷ xs) [] alike = let first = alike 0 (omega arith) in
    let rest = front_same n xs [] (λ i l. alike (suc i) (omega arith)) in let none = front_none n in
    nothing_times x (256 ^ n) (front_of n xs) first (rest ∙ none)
front_same (suc n) (x ∷ xs) (y ∷ ys) alike =
    ap (λ (f : ℕ). x * 256 ^ n + f) (front_same n xs ys (λ i l. alike (suc i) (omega arith)))
    ∙ ap (λ (v : ℕ). v * 256 ^ n + front_of n ys) (alike 0 (omega arith))

-- A word's first five bytes as a number.
front_word : (w : ℕ) → w < 2 ^ 64 → front_of 5 (to_be_bytes w64 w) ≡ w / 16777216
front_word w fits = omega arith

-- Each byte of a word is less than 256.
byte_small : (w i : ℕ) → get_or (to_be_bytes w64 w) i 0 < 256
byte_small w zero = omega arith
byte_small w (suc zero) = omega arith
byte_small w (suc (suc zero)) = omega arith
byte_small w (suc (suc (suc zero))) = omega arith
byte_small w (suc (suc (suc (suc zero)))) = omega arith
byte_small w (suc (suc (suc (suc (suc zero))))) = omega arith
byte_small w (suc (suc (suc (suc (suc (suc zero)))))) = omega arith
byte_small w (suc (suc (suc (suc (suc (suc (suc zero))))))) = omega arith
byte_small w (suc (suc (suc (suc (suc (suc (suc (suc i)))))))) = omega arith

-- So is each of the bytes of words, and of a part of them.
bytes_small : (words : List ℕ) (i : ℕ) → get_or (bytes_in words) i 0 < 256
bytes_small words i = ⊎_elim
    (λ (l : i / 8 < length words). let there : 8 * (i / 8) + i % 8 ≡ i = omega arith in
    subst (λ (x : ℕ). x < 256)
    (sym (byte_at words (i / 8) (i % 8) l (omega arith)) ∙ ap (λ (k : ℕ). get_or (bytes_in words) k 0) there)
    (byte_small (get_or words (i / 8) 0) (i % 8)))
    (λ (behind : length words ≤ i / 8). subst (λ (x : ℕ). x < 256)
    (sym (get_or-eq_default (bytes_in words) 0 (omega (arith, bytes_long words)))) (omega arith))
    (cases_lt (i / 8) (length words))

take_small : (n : ℕ) (xs : List ℕ) → ((i : ℕ) → get_or xs i 0 < 256) → (i : ℕ) → get_or (take n xs) i 0 < 256
take_small n xs small i = ⊎_elim
    (λ (l : i < n). subst (λ (x : ℕ). x < 256) (sym (get_or-take n xs i 0 l)) (small i))
    (λ (h : n ≤ i). subst (λ (x : ℕ). x < 256)
    (sym (get_or-eq_default (take n xs) 0 (omega (arith, length-take n xs)))) (omega arith))
    (cases_lt i n)

-- The bytes of an object's key are bytes.
pub key_small : (i : ℕ) (its : List ℕ) → get_or (key its) i 0 < 256
key_small i its = take_small (key_length its) (drop (key_place its) (object its))
    (λ j. subst (λ (x : ℕ). x < 256) (sym (get_or-drop (key_place its) (object its) j 0))
    (take_small (count its) (bytes_in (code_words its)) (bytes_small (code_words its)) (key_place its + j))) i

-- A word that has the first bytes of a key has its head above 24 bits.
pub head_word : (key : List ℕ) (w : ℕ) → w < 2 ^ 64 → HasBytes key w → front_of 5 key ≡ w / 16777216
head_word key w fits has = front_same 5 key (to_be_bytes w64 w)
    (λ i l. ⊎_elim
    (λ (inside : i < length key). sym (get_or-take 8 key i 0 (omega arith))
    ∙ (ap (λ (xs : List ℕ). get_or xs i 0) (sym has.front) ∙ get_or-take (length key) (to_be_bytes w64 w) i 0 inside))
    (λ (behind : length key ≤ i). get_or-eq_default key 0 behind ∙ sym (has.zeros i behind))
    (cases_lt i (length key))) ∙ front_word w fits
