-- A key that is copied, a word at a time.
use Rattle.std.proofs.Common.{◌≡◌, ℕ, zero, suc, ◌+◌, ◌-◌, ◌*◌, ◌/◌, ◌%◌, ◌^◌, ◌<◌, ◌≤◌, min, List, [], ◌∷◌, ◌++◌, length, take, drop, get_or, sym, refl, ap, ◌∙◌, arith, length-take, length-drop}
use Rattle.std.proofs.lemmas.List.{drop-drop, length-take-le, take-take, take_min}
use Rattle.std.proofs.BufReadLemmas.{drop-take_min}
use Rattle.std.specs.Prelude.{slice_range}
use Rattle.std.proofs.Math.Seq.{take-add}
use Rattle.std.specs.Int.{to_be_bytes, w64}
use Rattle.ca_node.specs.Row.{bytes_in, count, front_of, object, key, key_place, key_length, code_words}
use Rattle.ca_node.proofs.WordOrder.{bytes_long}
use Rattle.ca_base.proofs.ObjectBytes.{part_is, code_long}
use Rattle.ca_rows.specs.Layout.{row_words}

-- Behind the bytes from a start on to a place stand those of the next word, up to another place.
pub next_part : (words so_far : List ℕ) (start at to w : ℕ) → start ≤ at → at < to
    → to ≤ at / 8 * 8 + 8 → to ≤ 8 * length words
    → w ≡ get_or words (at / 8) 0 → so_far ≡ take (at - start) (drop start (bytes_in words))
    → so_far ++ take (to - at) (drop (at % 8) (to_be_bytes w64 w))
    ≡ take (to - start) (drop start (bytes_in words))
next_part words so_far start at to w low some one inside is before =
    let bytes : List ℕ = bytes_in words in
    let here : start + (at - start) ≡ at = omega arith in
    let all : at - start + (to - at) ≡ to - start = omega arith in
    let part : take (to - at) (drop (at % 8) (to_be_bytes w64 w))
    ≡ take (to - at) (drop (at - start) (drop start bytes)) =
    ap (λ (n : ℕ). take (to - at) (drop (at % 8) (to_be_bytes w64 n))) is
    ∙ (part_is words at to some one inside
    ∙ (ap (λ (n : ℕ). take (to - at) (drop n bytes)) (sym here)
    ∙ ap (λ (xs : List ℕ). take (to - at) xs) (sym (drop-drop (at - start) start bytes)))) in
    ap (λ (xs : List ℕ). xs ++ take (to - at) (drop (at % 8) (to_be_bytes w64 w))) before
    ∙ (ap (λ (xs : List ℕ). take (at - start) (drop start bytes) ++ xs) part
    ∙ (sym (take-add (at - start) (to - at) (drop start bytes))
    ∙ ap (λ (n : ℕ). take n (drop start bytes)) all))

-- The key of an object row is no longer than the row has room for.
pub short_key : (its : List ℕ) → length its ≡ row_words → length (key its) ≤ 1000
short_key its long = omega (
  arith,
  length-take (key_length its) (drop (key_place its) (object its)),
  length-drop (key_place its) (object its),
  length-take (count its) (bytes_in (code_words its)),
  bytes_long (code_words its),
  code_long its long,
)

-- What is copied of a key, from behind so many bytes on, as far as there is room.
pub part_behind : (bytes : List ℕ) (first last skip room n m : ℕ) → first ≤ last → last ≤ length bytes
    → n ≡ min skip (last - first) → m ≡ min room (last - (first + n))
    → take m (drop (first + n) bytes) ≡ take room (drop skip (slice_range bytes first last))
part_behind bytes first last skip room n m low inside n_is m_is =
    let wide : ℕ = last - first in let zs : List ℕ = drop n (drop first bytes) in
    let long : length zs ≡ length bytes - first - n = length-drop n (drop first bytes)
    ∙ ap (λ (k : ℕ). k - n) (length-drop first bytes) in
    let xs : List ℕ = take (wide - n) zs in
    let xs_long : length xs ≡ wide - n = length-take-le (wide - n) zs (omega (arith, long)) in
    let same : m ≡ min room (length xs) = omega (arith, xs_long) in
    ap (λ (ys : List ℕ). take m ys) (ap (λ (k : ℕ). drop k bytes) (omega arith) ∙ sym (drop-drop n first bytes))
    ∙ (sym (take-take m (wide - n) zs (omega arith))
    ∙ (ap (λ (k : ℕ). take k xs) same ∙ (take_min room xs
    ∙ ap (take room) (sym (drop-take_min (drop first bytes) wide skip n n_is)))))

-- The head of bytes is that of the first of them.
pub front_taken : (n : ℕ) (bytes : List ℕ) → front_of n (take n bytes) ≡ front_of n bytes
front_taken zero bytes = refl
front_taken (suc n) [] = refl
front_taken (suc n) (byte ∷ bytes) = ap (λ (v : ℕ). byte * 256 ^ n + v) (front_taken n bytes)
