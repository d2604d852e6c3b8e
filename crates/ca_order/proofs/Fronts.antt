-- Bytes at the front of others, by eight bytes and byte by byte.
use Rattle.std.proofs.Common.{◌≡◌, ◌≢◌, ◌≤◌, ◌<◌, ℕ, zero, suc, List, [], ◌∷◌, ◌++◌, length, take, drop, get_or, subst, refl, sym, ◌∙◌, ap, arith, append_assoc, append-nil, length-append, Option, None, Some}
use Rattle.std.proofs.lemmas.List.{append_cancel_left, take-append-drop, length-take-le}
use Rattle.std.proofs.lemmas.Nat.{le_bytes_8}
use Rattle.std.specs.Borrow.{Bor}
use Rattle.std.specs.Prelude.{MatchOption}
use Rattle.std.specs.Int.{from_le_bytes, to_le_bytes, w64}

-- So far both were the same; these are left.
pub record IsMet (bytes front rest wanted : List ℕ) : Type 0 where
  pub met : List ℕ
  pub front_is : front ≡ met ++ wanted
  pub bytes_is : bytes ≡ met ++ rest

-- At first nothing was met.
pub met_none : (bytes front : List ℕ) → IsMet bytes front bytes front
met_none bytes front = record { met = []; front_is = refl; bytes_is = refl }

-- One more byte that is the same.
pub met_more : (bytes front rest wanted more behind : List ℕ) (x y : ℕ) → IsMet bytes front rest wanted → wanted ≡ x ∷ more → rest ≡ y ∷ behind → y ≡ x
    → IsMet bytes front behind more
met_more bytes front rest wanted more behind x y m e f g = record {
  met = m.met ++ x ∷ [];
  front_is = m.front_is ∙ ap (λ (z : List ℕ). m.met ++ z) e ∙ sym (append_assoc m.met (x ∷ []) more);
  bytes_is = m.bytes_is ∙ ap (λ (z : List ℕ). m.met ++ z) (f ∙ ap (λ (b : ℕ). b ∷ behind) g) ∙ sym (append_assoc m.met (x ∷ []) behind);
}

-- All were met.
pub met_all : (bytes front rest wanted : List ℕ) → IsMet bytes front rest wanted → length wanted ≡ 0 → bytes ≡ front ++ rest
met_all bytes front rest [] m e = m.bytes_is ∙ ap (λ (z : List ℕ). z ++ rest) (sym (m.front_is ∙ append-nil m.met))
met_all bytes front rest (x ∷ xs) m e = absurd (omega arith)

-- What is wanted next isn't there.
left_is : (bytes front rest wanted r : List ℕ) → IsMet bytes front rest wanted → bytes ≡ front ++ r → rest ≡ wanted ++ r
left_is bytes front rest wanted r m e =
    append_cancel_left m.met rest (wanted ++ r)
    (sym m.bytes_is ∙ e ∙ ap (λ (z : List ℕ). z ++ r) m.front_is ∙ append_assoc m.met wanted r)

pub met_end : (bytes front rest wanted more : List ℕ) (x : ℕ) → IsMet bytes front rest wanted → wanted ≡ x ∷ more → length rest ≡ 0
    → (r : List ℕ) → bytes ≡ front ++ r → ⊥
met_end bytes front rest wanted more x m e n r f =
    let g : rest ≡ x ∷ more ++ r = left_is bytes front rest wanted r m f ∙ ap (λ (z : List ℕ). z ++ r) e in
    absurd (omega (arith, n, ap length g))

pub met_other : (bytes front rest wanted more behind : List ℕ) (x y : ℕ) → IsMet bytes front rest wanted → wanted ≡ x ∷ more → rest ≡ y ∷ behind → y ≢ x
    → (r : List ℕ) → bytes ≡ front ++ r → ⊥
met_other bytes front rest wanted more behind x y m e f n r g =
    let h : y ∷ behind ≡ x ∷ more ++ r = sym f ∙ left_is bytes front rest wanted r m g ∙ ap (λ (z : List ℕ). z ++ r) e in
    n (first h)
  where
    first : y ∷ behind ≡ x ∷ more ++ r → y ≡ x
    first h = cc

-- ---- by eight bytes

-- Eight bytes more that are the same.
pub met_eight : (bytes front rest wanted eight more found behind : List ℕ) → IsMet bytes front rest wanted
    → eight ≡ take 8 wanted → more ≡ drop 8 wanted → found ≡ take 8 rest → behind ≡ drop 8 rest → found ≡ eight → IsMet bytes front behind more
met_eight bytes front rest wanted eight more found behind m e f g h same = record {
  met = m.met ++ eight;
  front_is = m.front_is ∙ ap (λ (z : List ℕ). m.met ++ z) (parted wanted eight more e f) ∙ sym (append_assoc m.met eight more);
  bytes_is = m.bytes_is ∙ ap (λ (z : List ℕ). m.met ++ z) (parted rest found behind g h ∙ ap (λ (z : List ℕ). z ++ behind) same)
      ∙ sym (append_assoc m.met eight behind);
}
  where
    parted : (all some left : List ℕ) → some ≡ take 8 all → left ≡ drop 8 all → all ≡ some ++ left
    parted all some left p q = sym (take-append-drop 8 all) ∙ ap (λ (z : List ℕ). z ++ drop 8 all) (sym p) ∙ ap (λ (z : List ℕ). some ++ z) (sym q)

-- Fewer than eight are left, so what is wanted isn't there.
pub eight_end : (bytes front rest wanted : List ℕ) → IsMet bytes front rest wanted → 8 ≤ length wanted → length rest < 8
    → (r : List ℕ) → bytes ≡ front ++ r → ⊥
eight_end bytes front rest wanted m h n r f =
    absurd (omega (arith, h, n, ap length (left_is bytes front rest wanted r m f), length-append wanted r))

take_front : (n : ℕ) (xs ys : List ℕ) → n ≤ length xs → take n (xs ++ ys) ≡ take n xs
take_front zero xs ys h = refl
take_front (suc n) [] ys h = absurd (omega arith)
take_front (suc n) (x ∷ xs) ys h = ap (λ (z : List ℕ). x ∷ z) (take_front n xs ys (omega arith))

-- The numbers of the next eight differ, so what is wanted isn't there.
pub eight_other : (bytes front rest wanted eight found : List ℕ) (x y : ℕ) → IsMet bytes front rest wanted → 8 ≤ length wanted
    → eight ≡ take 8 wanted → found ≡ take 8 rest → x ≡ from_le_bytes w64 eight → y ≡ from_le_bytes w64 found → y ≢ x
    → (r : List ℕ) → bytes ≡ front ++ r → ⊥
eight_other bytes front rest wanted eight found x y m h e f g k n r q =
    n (k ∙ ap (from_le_bytes w64) (f ∙ ap (take 8) (left_is bytes front rest wanted r m q) ∙ take_front 8 wanted r h ∙ sym e) ∙ sym g)

-- The numbers of eight bytes are the same where the bytes are.
pub eight_same : (eight found : List ℕ) (x y : ℕ) → length eight ≡ 8 → length found ≡ 8 → ((i : ℕ) → get_or eight i 0 < 256)
    → ((i : ℕ) → get_or found i 0 < 256) → x ≡ from_le_bytes w64 eight → y ≡ from_le_bytes w64 found → y ≡ x → found ≡ eight
eight_same eight found x y m n h k e f g = sym (le_bytes_8 found y n k f) ∙ ap (to_le_bytes w64) g ∙ le_bytes_8 eight x m h e

-- Eight bytes of some are eight.
pub short_take : (all eight : List ℕ) → 8 ≤ length all → eight ≡ take 8 all → length eight ≡ 8
short_take all eight h e = ap length e ∙ length-take-le 8 all h

get_taken : (n : ℕ) (xs : List ℕ) (i : ℕ) → ((k : ℕ) → get_or xs k 0 < 256) → get_or (take n xs) i 0 < 256
get_taken zero xs i h = omega arith
get_taken (suc n) [] i h = omega arith
get_taken (suc n) (x ∷ xs) zero h = h 0
get_taken (suc n) (x ∷ xs) (suc i) h = get_taken n xs i (λ k. h (suc k))

get_behind : (front rest : List ℕ) → ((k : ℕ) → get_or (front ++ rest) k 0 < 256) → (k : ℕ) → get_or rest k 0 < 256
get_behind [] rest h k = h k
get_behind (x ∷ xs) rest h k = get_behind xs rest (λ i. h (suc i)) k

-- They are bytes.
pub eight_bytes : (all met left eight : List ℕ) → ((k : ℕ) → get_or all k 0 < 256) → all ≡ met ++ left → eight ≡ take 8 left
    → (k : ℕ) → get_or eight k 0 < 256
eight_bytes all met left eight h e f k =
    subst (λ (z : List ℕ). get_or z k 0 < 256) (sym f)
    (get_taken 8 left k (get_behind met left (subst (λ (z : List ℕ). (i : ℕ) → get_or z i 0 < 256) e h)))

-- What is left decides.
pub met_left : (bytes front rest wanted : List ℕ) (r : Option (Bor (List ℕ))) → IsMet bytes front rest wanted
    → MatchOption r ((x : List ℕ) → rest ≡ wanted ++ x → ⊥) (λ x. rest ≡ wanted ++ x.now)
    → MatchOption r ((x : List ℕ) → bytes ≡ front ++ x → ⊥) (λ x. bytes ≡ front ++ x.now)
met_left bytes front rest wanted None m n = λ x e. n x (left_is bytes front rest wanted x m e)
met_left bytes front rest wanted (Some x) m e =
    m.bytes_is ∙ ap (λ (z : List ℕ). m.met ++ z) e ∙ sym (append_assoc m.met wanted x.now) ∙ ap (λ (z : List ℕ). z ++ x.now) (sym m.front_is)

-- Bytes met one after the other.
pub ruleset fronts = (met_none, met_more, met_all, met_end, met_other)
