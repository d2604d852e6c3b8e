-- The bytes of objects, as their words have them.
use Rattle.std.proofs.Common.{◌≡◌, ℕ, zero, suc, ◌+◌, ◌-◌, ◌*◌, ◌/◌, ◌%◌, ◌<◌, ◌≤◌, List, [], ◌∷◌, ◌++◌, length, min, get_or, take, drop, sym, ap, ◌∙◌, ⊎_elim, arith, length-drop, length-take, length-append}
use Rattle.std.proofs.lemmas.Bool.{cases_lt}
use Rattle.std.proofs.lemmas.List.{get_or-take, get_or-drop, length-take-le, get_or_append_left, get_or-append_right}
use Rattle.std.proofs.lemmas.Grind.{same_number_lists}
use Rattle.std.proofs.Math.Seq.{take-add}
use Rattle.std.specs.Int.{to_be_bytes, w64}
use Rattle.ca_term.proofs.Numbers.{length_high_first}
use Rattle.ca_node.specs.Row.{bytes_in, code_words}
use Rattle.ca_node.proofs.WordOrder.{bytes_long}
use Rattle.ca_rows.specs.Layout.{row_words}
use Rattle.ca_node.specs.Layout.{code_word}

-- The words of an object's bytes are as many as there is room for.
pub code_long : (its : List ℕ) → length its ≡ row_words → length (code_words its) ≡ 125
code_long its long = omega (arith, length-take 125 (drop code_word its), length-drop code_word its)

-- Each is one of the row's words.
pub code_at : (its : List ℕ) (i : ℕ) → i < 125 → get_or (code_words its) i 0 ≡ get_or its (code_word + i) 0
code_at its i l = get_or-take 125 (drop code_word its) i 0 l ∙ get_or-drop code_word its i 0

-- A word has eight bytes.
pub word_long : (n : ℕ) → length (to_be_bytes w64 n) ≡ 8
word_long n = length_high_first 8 n

-- Each byte is one of its word's.
pub byte_at : (words : List ℕ) (i j : ℕ) → i < length words → j < 8
    → get_or (bytes_in words) (8 * i + j) 0 ≡ get_or (to_be_bytes w64 (get_or words i 0)) j 0
byte_at [] i j l h = absurd (omega arith)
byte_at (x ∷ xs) zero j l h = let long = word_long x in
    ap (λ (k : ℕ). get_or (to_be_bytes w64 x ++ bytes_in xs) k 0) (first j)
    ∙ get_or_append_left (to_be_bytes w64 x) (bytes_in xs) 0 j (omega arith)
  where
    first : (j : ℕ) → 8 * 0 + j ≡ j
    first j = omega arith
byte_at (x ∷ xs) (suc i) j l h = let long = word_long x in
    get_or-append_right (to_be_bytes w64 x) (bytes_in xs) 8 (8 * suc i + j) 0 long (omega arith)
    ∙ (ap (λ (k : ℕ). get_or (bytes_in xs) k 0) (less i j) ∙ byte_at xs i j (omega arith) h)
  where
    less : (i j : ℕ) → 8 * suc i + j - 8 ≡ 8 * i + j
    less i j = omega arith

-- A part of one word's bytes is the same part of all bytes.
pub part_is : (words : List ℕ) (from to : ℕ) → from < to → to ≤ from / 8 * 8 + 8
    → to ≤ 8 * length words
    → take (to - from) (drop (from % 8) (to_be_bytes w64 (get_or words (from / 8) 0)))
    ≡ take (to - from) (drop from (bytes_in words))
part_is words from to some one inside =
    let w : List ℕ = to_be_bytes w64 (get_or words (from / 8) 0) in
    let long = word_long (get_or words (from / 8) 0) in let all = bytes_long words in
    let a : length (take (to - from) (drop (from % 8) w)) ≡ to - from =
    length-take-le (to - from) (drop (from % 8) w) (omega (arith, length-drop (from % 8) w)) in
    let b : length (take (to - from) (drop from (bytes_in words))) ≡ to - from =
    length-take-le (to - from) (drop from (bytes_in words)) (omega (
      arith,
      length-drop from (bytes_in words),
    )) in
    same_number_lists _ _ (a ∙ sym b) (λ k l. let low : k < to - from = omega arith in
    let place : from + k ≡ 8 * (from / 8) + (from % 8 + k) = omega arith in
    get_or-take (to - from) (drop (from % 8) w) k 0 low ∙ (get_or-drop (from % 8) w k 0
    ∙ (sym (byte_at words (from / 8) (from % 8 + k) (omega arith) (omega arith))
    ∙ (ap (λ (i : ℕ). get_or (bytes_in words) i 0) (sym place)
    ∙ sym (get_or-take (to - from) (drop from (bytes_in words)) k 0 low
    ∙ get_or-drop from (bytes_in words) k 0)))))

-- Bytes from a place on, eight at most, are those of the word there and of the next one.
spans : (words : List ℕ) (at n w v : ℕ) → n ≤ 8 → at + n ≤ 8 * length words
    → w ≡ get_or words (at / 8) 0
    → (at / 8 * 8 + 8 < at + n → v ≡ get_or words ((at / 8 * 8 + 8) / 8) 0)
    → take n (drop (at % 8) (to_be_bytes w64 w) ++ take (at % 8) (to_be_bytes w64 v))
    ≡ take n (drop at (bytes_in words))
spans words at n w v few inside is next = let k : ℕ = at % 8 in
    let a : List ℕ = to_be_bytes w64 w in let b : List ℕ = to_be_bytes w64 v in
    let all = bytes_long words in
    let first : length (drop k a) ≡ 8 - k = length-drop k a
    ∙ ap (λ (m : ℕ). m - k) (word_long w) in
    let second : length (take k b) ≡ k = length-take-le k b (omega (arith, word_long v)) in
    let here : length (take n (drop k a ++ take k b)) ≡ n =
    length-take-le n (drop k a ++ take k b) (omega (arith, length-append (drop k a) (take k b))) in
    let there : length (take n (drop at (bytes_in words))) ≡ n =
    length-take-le n (drop at (bytes_in words)) (omega (arith, length-drop at (bytes_in words))) in
    same_number_lists _ _ (here ∙ sym there) (λ j l. let low : j < n = omega arith in
    get_or-take n (drop k a ++ take k b) j 0 low ∙ (⊎_elim
    (λ (h : k + j < 8). let place : 8 * (at / 8) + (k + j) ≡ at + j = omega arith in
    get_or_append_left (drop k a) (take k b) 0 j (omega arith) ∙ (get_or-drop k a j 0
    ∙ (ap (λ (m : ℕ). get_or (to_be_bytes w64 m) (k + j) 0) is
    ∙ (sym (byte_at words (at / 8) (k + j) (omega arith) h)
    ∙ ap (λ (i : ℕ). get_or (bytes_in words) i 0) place))))
    (λ (h : 8 ≤ k + j). let i : ℕ = (at / 8 * 8 + 8) / 8 in let rest : ℕ = j - (8 - k) in
    let place : 8 * i + rest ≡ at + j = omega arith in
    get_or-append_right (drop k a) (take k b) (8 - k) j 0 first (omega arith)
    ∙ (get_or-take k b rest 0 (omega arith)
    ∙ (ap (λ (m : ℕ). get_or (to_be_bytes w64 m) rest 0) (next (omega arith))
    ∙ (sym (byte_at words i rest (omega arith) (omega arith))
    ∙ ap (λ (i : ℕ). get_or (bytes_in words) i 0) place))))
    (cases_lt (k + j) 8)
    ∙ sym (get_or-take n (drop at (bytes_in words)) j 0 low ∙ get_or-drop at (bytes_in words) j 0)))

-- The same of a word that was joined from both.
pub joined_part : (words : List ℕ) (at n w v x : ℕ) → n ≤ 8 → at + n ≤ 8 * length words
    → to_be_bytes w64 x ≡ drop (at % 8) (to_be_bytes w64 w) ++ take (at % 8) (to_be_bytes w64 v)
    → w ≡ get_or words (at / 8) 0
    → (at / 8 * 8 + 8 < at + n → v ≡ get_or words ((at / 8 * 8 + 8) / 8) 0)
    → take n (to_be_bytes w64 x) ≡ take n (drop at (bytes_in words))
joined_part words at n w v x few inside e is next = ap (take n) e
    ∙ spans words at n w v few inside is next

-- A part of the first bytes of a list, where the numbers that say which part may be past its end.
pub clipped : (bytes : List ℕ) (count place some end start len : ℕ) → end ≡ min (length bytes) count
    → start ≡ min end place → len ≡ min (end - start) some
    → take some (drop place (take count bytes)) ≡ take len (drop start bytes)
clipped bytes count place some end start len e s n =
    let first = length-take count bytes in let behind = length-drop place (take count bytes) in
    let rest = length-drop start bytes in
    let a : length (take some (drop place (take count bytes))) ≡ len =
    omega (arith, length-take some (drop place (take count bytes))) in
    let b : length (take len (drop start bytes)) ≡ len =
    length-take-le len (drop start bytes) (omega arith) in
    same_number_lists _ _ (a ∙ sym b)
    (λ k l. let low : k < len = omega arith in let same : place ≡ start = omega arith in
    get_or-take some (drop place (take count bytes)) k 0 (omega arith)
    ∙ (get_or-drop place (take count bytes) k 0
    ∙ (get_or-take count bytes (place + k) 0 (omega arith)
    ∙ (ap (λ (i : ℕ). get_or bytes (i + k) 0) same
    ∙ sym (get_or-take len (drop start bytes) k 0 low ∙ get_or-drop start bytes k 0)))))

-- One word's bytes more, up to the end.
pub one_more : (words : List ℕ) (len i n : ℕ) → 8 * i < len → len ≤ 8 * length words
    → n ≡ min (len - 8 * i) 8
    → take (min len (8 * i)) (bytes_in words) ++ take n (to_be_bytes w64 (get_or words i 0))
    ≡ take (min len (8 * (i + 1))) (bytes_in words)
one_more words len i n l inside e = let all = bytes_long words in
    let part = part_is words (8 * i) (8 * i + n) (omega arith) (omega arith) (omega arith) in
    let a : 8 * i + n - 8 * i ≡ n = omega arith in let b : 8 * i % 8 ≡ 0 = omega arith in
    let d : 8 * i / 8 ≡ i = omega arith in
    let word : take n (to_be_bytes w64 (get_or words i 0))
    ≡ take n (drop (8 * i) (bytes_in words)) =
    ap (λ (k : ℕ). take n (drop 0 (to_be_bytes w64 (get_or words k 0)))) (sym d)
    ∙ (ap (λ (k : ℕ). take n (drop k (to_be_bytes w64 (get_or words (8 * i / 8) 0)))) (sym b)
    ∙ (ap (λ (k : ℕ). take k (drop (8 * i % 8) (to_be_bytes w64 (get_or words (8 * i / 8) 0))))
    (sym a)
    ∙ (part ∙ ap (λ (k : ℕ). take k (drop (8 * i) (bytes_in words))) a))) in
    let first : min len (8 * i) ≡ 8 * i = omega arith in
    let next : 8 * i + n ≡ min len (8 * (i + 1)) = omega arith in
    ap (λ (k : ℕ). take k (bytes_in words) ++ take n (to_be_bytes w64 (get_or words i 0))) first
    ∙ (ap (λ (xs : List ℕ). take (8 * i) (bytes_in words) ++ xs) word
    ∙ (sym (take-add (8 * i) n (bytes_in words)) ∙ ap (λ (k : ℕ). take k (bytes_in words)) next))
