-- Words of eight bytes, and rows of them.
use Rattle.std.proofs.Common.{◌≡◌, ℕ, zero, suc, ◌+◌, ◌*◌, ◌-◌, ◌/◌, ◌%◌, ◌<◌, ◌≤◌, min, List, [], ◌∷◌, ◌++◌, length, take, drop, get_or, sym, refl, ap, ◌∙◌, subst, ⊎_elim, arith, length-drop}
use Rattle.std.proofs.lemmas.Bool.{cases_lt}
use Rattle.std.proofs.Math.ListN.{drop_of_length-le}
use Rattle.std.proofs.lemmas.List.{take_all, take_rest, take-append-le, take-append-drop, drop-drop}
use Rattle.std.proofs.Math.Seq.{take-append-add}
use Rattle.std.specs.Int.{to_be_bytes, w64}
use Rattle.ca_node.specs.Row.{bytes_in}
use Rattle.ca_base.specs.Writing.{HasBytes, HasEight}
use Rattle.ca_base.proofs.ObjectBytes.{byte_at}

abbrev eight_of : ℕ → List ℕ
eight_of w = to_be_bytes w64 w

-- Words that have the bytes, eight each, have them one after another.
pub packed : (words bytes : List ℕ) (n : ℕ) → length bytes ≤ 8 * n → n ≤ length words
    → ((k : ℕ) → k < n → HasEight bytes k (get_or words k 0))
    → take (length bytes) (bytes_in words) ≡ bytes
packed words [] n few many each = refl
packed words (b ∷ bs) zero few many each = absurd (omega arith)
packed [] (b ∷ bs) (suc n) few many each = absurd (omega arith)
packed (w ∷ words) (b ∷ bs) (suc n) few many each = let bytes : List ℕ = b ∷ bs in
    let has = each 0 (omega arith) in
    let long : length (eight_of w) ≡ 8 = refl in ⊎_elim
    (λ (l : 8 < length bytes).
    let whole : eight_of w ≡ take 8 bytes =
    sym (take_all (length bytes) (eight_of w) (omega arith)) ∙ has.front in
    let more : length bytes ≡ length (eight_of w) + (length bytes - 8) = omega arith in
    let rest = length-drop 8 bytes in
    ap (λ (y : ℕ). take y (eight_of w ++ bytes_in words)) more
    ∙ (take-append-add (eight_of w) (bytes_in words) (length bytes - 8)
    ∙ (ap (λ (ys : List ℕ). ys ++ take (length bytes - 8) (bytes_in words)) whole
    ∙ (ap (λ (y : ℕ). take 8 bytes ++ take y (bytes_in words)) (sym rest)
    ∙ (ap (λ (ys : List ℕ). take 8 bytes ++ ys)
    (packed words (drop 8 bytes) n (omega arith) (omega arith)
    (λ k small. let next = each (suc k) (omega arith) in
    let same : drop (8 * suc k) bytes ≡ drop (8 * k) (drop 8 bytes) =
    ap (λ (y : ℕ). drop y bytes) (omega arith) ∙ sym (drop-drop (8 * k) 8 bytes) in
    subst (λ (ys : List ℕ). HasBytes ys (get_or words k 0)) same next))
    ∙ take-append-drop 8 bytes)))))
    (λ (l : length bytes ≤ 8).
    take-append-le (length bytes) (eight_of w) (bytes_in words) (omega arith)
    ∙ (has.front ∙ take_all 8 bytes l))
    (cases_lt 8 (length bytes))

-- The bytes from the k-th eight on, as a slice has them.
pub eight_at : (bytes : List ℕ) (k w : ℕ)
    → HasBytes (take (length bytes - 8 * k) (drop (8 * k) bytes)) w → HasEight bytes k w
eight_at bytes k w h = subst
    (λ (x : List ℕ). HasBytes x w)
    (take_all (length bytes - 8 * k) (drop (8 * k) bytes) (omega (
      arith,
      length-drop (8 * k) bytes,
    ))) h

-- The same of a slice from there or from the end on.
pub eight_from : (bytes : List ℕ) (k from w : ℕ) → from ≡ min (8 * k) (length bytes)
    → HasBytes (take (length bytes - from) (drop from bytes)) w → HasEight bytes k w
eight_from bytes k from w e h = let rest = take_rest bytes from in
    subst (λ (x : List ℕ). HasBytes x w) (rest ∙ ⊎_elim
    (λ (l : length bytes < 8 * k). drop_of_length-le bytes (omega arith)
    ∙ sym (drop_of_length-le bytes (omega arith)))
    (λ (l : 8 * k ≤ length bytes). ap (λ (n : ℕ). drop n bytes) (omega arith))
    (cases_lt (length bytes) (8 * k))) h

-- Behind the bytes that words have there are zeros, to the end of the last one of these words.
pub padded : (words bytes : List ℕ) (n i : ℕ) → length bytes ≤ i → i < 8 * n → n ≤ length words
    → ((k : ℕ) → k < n → HasEight bytes k (get_or words k 0)) → get_or (bytes_in words) i 0 ≡ 0
padded words bytes n i behind inside many each = let there : i ≡ 8 * (i / 8) + i % 8 = omega arith in
    ap (λ (k : ℕ). get_or (bytes_in words) k 0) there
    ∙ (byte_at words (i / 8) (i % 8) (omega arith) (omega arith)
    ∙ (each (i / 8) (omega arith)).zeros (i % 8) (omega (arith, length-drop (8 * (i / 8)) bytes)))
