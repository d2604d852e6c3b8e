-- The bytes of whole words, one behind the other.
use Rattle.std.proofs.Common.{◌≡◌, ℕ, ◌+◌, ◌*◌, ◌≤◌, List, [], ◌++◌, length, min, get_or, take, sym, ap, ◌∙◌, arith}
use Rattle.std.proofs.lemmas.List.{append-nil, append_assoc, take_all}
use Rattle.std.specs.Int.{to_be_bytes, w64}
use Rattle.std.specs.List.{flat_map}
use Rattle.ca_node.specs.Row.{bytes_in}
use Rattle.ca_base.specs.Fours.{four_of}
use Rattle.ca_base.proofs.ObjectBytes.{one_more, word_long}

-- One whole word's bytes more.
word_more : (words : List ℕ) (i : ℕ) → 8 * i + 8 ≤ 8 * length words
    → take (8 * i) (bytes_in words) ++ to_be_bytes w64 (get_or words i 0) ≡ take (8 * i + 8) (bytes_in words)
word_more words i inside = let all : ℕ = 8 * length words in let w : List ℕ = to_be_bytes w64 (get_or words i 0) in
    let long = word_long (get_or words i 0) in
    let one = one_more words all i 8 (omega arith) (omega arith) (omega arith) in
    let first : min all (8 * i) ≡ 8 * i = omega arith in
    let next : min all (8 * (i + 1)) ≡ 8 * i + 8 = omega arith in
    let whole : take 8 w ≡ w = take_all 8 w (omega arith) in
    ap (λ (k : ℕ). take k (bytes_in words) ++ w) (sym first)
    ∙ (ap (λ (xs : List ℕ). take (min all (8 * i)) (bytes_in words) ++ xs) (sym whole)
    ∙ (one ∙ ap (λ (k : ℕ). take k (bytes_in words)) next))

-- The bytes of four words more.
pub four_more : (words : List ℕ) (k : ℕ) → 32 * k + 32 ≤ 8 * length words
    → take (32 * k) (bytes_in words) ++ flat_map (λ (x : List ℕ). x) (four_of words (4 * k)) ≡ take (32 * (k + 1)) (bytes_in words)
four_more words k inside = let all : List ℕ = bytes_in words in let at : ℕ = 4 * k in
    let a : List ℕ = to_be_bytes w64 (get_or words at 0) in let b : List ℕ = to_be_bytes w64 (get_or words (at + 1) 0) in
    let d : List ℕ = to_be_bytes w64 (get_or words (at + 2) 0) in let e : List ℕ = to_be_bytes w64 (get_or words (at + 3) 0) in
    let front : List ℕ = take (32 * k) all in
    let start : 32 * k ≡ 8 * at = omega arith in
    let one : front ++ a ≡ take (8 * (at + 1)) all = ap (λ (n : ℕ). take n all ++ a) start
    ∙ (word_more words at (omega arith) ∙ ap (λ (n : ℕ). take n all) (omega arith)) in
    let two : front ++ a ++ b ≡ take (8 * (at + 2)) all = ap (λ (xs : List ℕ). xs ++ b) one
    ∙ (word_more words (at + 1) (omega arith) ∙ ap (λ (n : ℕ). take n all) (omega arith)) in
    let three : front ++ a ++ b ++ d ≡ take (8 * (at + 3)) all = ap (λ (xs : List ℕ). xs ++ d) two
    ∙ (word_more words (at + 2) (omega arith) ∙ ap (λ (n : ℕ). take n all) (omega arith)) in
    let four : front ++ a ++ b ++ d ++ e ≡ take (32 * (k + 1)) all = ap (λ (xs : List ℕ). xs ++ e) three
    ∙ (word_more words (at + 3) (omega arith) ∙ ap (λ (n : ℕ). take n all) (omega arith)) in
    let none : e ++ [] ≡ e = append-nil e in
    sym (append_assoc front a (b ++ (d ++ (e ++ []))))
    ∙ (sym (append_assoc (front ++ a) b (d ++ (e ++ [])))
    ∙ (sym (append_assoc (front ++ a ++ b) d (e ++ []))
    ∙ (ap (λ (xs : List ℕ). front ++ a ++ b ++ d ++ xs) none ∙ four)))
