-- The first line of some bytes, as a search for the first LF gives it.
use Rattle.std.proofs.Common.{◌≡◌, ℕ, zero, suc, ◌+◌, ◌-◌, ◌<◌, ◌≤◌, Bool, true, false, eqb, List, [], ◌∷◌, ◌++◌, length, take, drop, refl, sym, ◌∙◌, ap, arith, add-one}
use Rattle.std.proofs.lemmas.Bool.{eqb-true}
use Rattle.std.proofs.lemmas.List.{take_rest, length-drop, drop-drop}
use Rattle.memchr.specs.Find.{Passes, NoneBefore, Nowhere, is_byte}
use Rattle.ca_cmd.specs.File.{cut_lines, without_cr, lines_of, lf, cr}
use Rattle.ca_cmd.specs.Kept.{IsEndOf}

not_true : (b : Bool) → (b ≡ true → ⊥) → b ≡ false
not_true true h = absurd (h refl)
not_true false h = refl

cut_front : (bytes : List ℕ) (k : ℕ) → k < length bytes → ((j : ℕ) → j < k → Passes (is_byte lf) bytes j → ⊥) → Passes (is_byte lf) bytes k
    → cut_lines bytes ≡ take k bytes ∷ cut_lines (drop (suc k) bytes)
unfolding cut_lines
cut_front [] k l h p = absurd (omega arith)
cut_front (b ∷ bytes) zero l h p = rw p refl
cut_front (b ∷ bytes) (suc k) l h p =
    rw (not_true (eqb b lf) (h 0 (omega arith)), cut_front bytes k (omega arith) (λ j m. h (suc j) (omega arith)) p) refl

cut_last : (b : ℕ) (bytes : List ℕ) → ((j : ℕ) → j < length (b ∷ bytes) → Passes (is_byte lf) (b ∷ bytes) j → ⊥) → cut_lines (b ∷ bytes) ≡ (b ∷ bytes) ∷ []
unfolding cut_lines
cut_last b [] h = rw (not_true (eqb b lf) (h 0 (omega arith))) refl
cut_last b (c ∷ bytes) h = rw (not_true (eqb b lf) (h 0 (omega arith)), cut_last c bytes (λ j m. h (suc j) (omega arith))) refl

-- The first line stands before the first LF, and the others stand behind it.
pub first_line : (bytes : List ℕ) (k : ℕ) → NoneBefore (Passes (is_byte lf) bytes) 0 (length bytes) k → Passes (is_byte lf) bytes k
    → lines_of bytes ≡ without_cr (take k bytes) ∷ lines_of (take (length bytes - (k + 1)) (drop (k + 1) bytes))
first_line bytes k n p = rw (take_rest bytes (k + 1), add-one, cut_front bytes k n.high (λ j m. n.before j (omega arith) m) p) refl

no_lines : cut_lines [] ≡ []
unfolding cut_lines
no_lines = refl

-- Bytes without LF are one line.
pub last_line : (bytes : List ℕ) → Nowhere (Passes (is_byte lf) bytes) 0 (length bytes) → 0 < length bytes → lines_of bytes ≡ without_cr bytes ∷ lines_of []
last_line [] n h = absurd (omega arith)
last_line (b ∷ bytes) n h = rw (cut_last b bytes (λ j m. n j (omega arith) m), no_lines) refl

-- A CR at the end is taken off.
pub with_cr : (front : List ℕ) → without_cr (front ++ cr ∷ []) ≡ front
unfolding without_cr
with_cr [] = refl
with_cr (b ∷ []) = refl
with_cr (b ∷ c ∷ front) = ap (λ x. b ∷ x) (with_cr (c ∷ front))

not_cr : (b : ℕ) → (b ≡ cr → ⊥) → eqb b cr ≡ false
not_cr b h = not_true (eqb b cr) (λ e. h (eqb-true b cr e))

-- A line without a CR at the end stays.
pub no_cr : (line : List ℕ) → ((front : List ℕ) → line ≡ front ++ cr ∷ [] → ⊥) → without_cr line ≡ line
unfolding without_cr
no_cr [] h = refl
no_cr (b ∷ []) h = rw (not_cr b (λ e. h [] (ap (λ x. x ∷ []) e))) refl
no_cr (b ∷ c ∷ line) h = ap (λ x. b ∷ x) (no_cr (c ∷ line) (λ front e. h (b ∷ front) (ap (λ x. b ∷ x) e)))

-- What stands behind some of the bytes ends them.
pub behind_some : (bytes : List ℕ) (k : ℕ) → k ≤ length bytes → IsEndOf (take (length bytes - k) (drop k bytes)) bytes
behind_some bytes k h =
    let place : k ≡ length bytes - length (drop k bytes) = omega (arith, length-drop k bytes) in
    rw (take_rest bytes k) (ap (λ n. drop n bytes) place)

drop_all : (bytes : List ℕ) → drop (length bytes) bytes ≡ []
drop_all [] = refl
drop_all (b ∷ bytes) = drop_all bytes

-- Nothing ends all bytes.
pub behind_all : (bytes : List ℕ) → IsEndOf [] bytes
behind_all bytes = let all : length bytes - 0 ≡ length bytes = omega arith in sym (ap (λ n. drop n bytes) all ∙ drop_all bytes)

-- What ends an end is no longer than all, and ends all.
pub no_longer : (rest bytes : List ℕ) → IsEndOf rest bytes → length rest ≤ length bytes
no_longer rest bytes h = omega (arith, ap (λ (xs : List ℕ). length xs) h, length-drop (length bytes - length rest) bytes)

pub end_of_end : (a b c : List ℕ) → IsEndOf a b → IsEndOf b c → IsEndOf a c
end_of_end a b c h k =
    let place : length c - length b + (length b - length a) ≡ length c - length a = omega (arith, no_longer a b h, no_longer b c k) in
    h ∙ ap (λ (xs : List ℕ). drop (length b - length a) xs) k ∙ drop-drop (length b - length a) (length c - length b) c ∙ ap (λ n. drop n c) place
