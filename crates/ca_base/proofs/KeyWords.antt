-- The last word of a key.
use Rattle.std.proofs.Common.{◌≡◌, ℕ, ◌+◌, ◌-◌, ◌<◌, ◌≤◌, List, ◌++◌, length, take, drop, sym, ap, subst, ◌∙◌, arith, length-drop}
use Rattle.std.proofs.lemmas.List.{take_all, take_at, take_rest, drop-drop}
use Rattle.std.specs.Int.{to_be_bytes, w64}
use Rattle.ca_term.proofs.Numbers.{length_high_first}
use Rattle.ca_node.specs.Walking.{HasBytesFrom}
use Rattle.ca_base.specs.Writing.{HasBytes}

-- The word of a key's last eight bytes without the first of them, where less than eight are left.
pub last_word : (key : List ℕ) (from whole word : ℕ) → 8 ≤ from → from < length key
    → length key - from < 8
    → HasBytes (take (length key - (length key - 8)) (drop (length key - 8) key)) whole
    → to_be_bytes w64 word
    ≡ drop (8 - (length key - from)) (to_be_bytes w64 whole) ++ take (8 - (length key - from))
    (to_be_bytes w64 0)
    → HasBytesFrom key from word
last_word key from whole word low l few has is = let before : ℕ = length key - 8 in
    let left : ℕ = length key - from in let skip : ℕ = 8 - left in
    let tail : List ℕ = drop before key in let rest : List ℕ = drop from key in
    let eight : HasBytes tail whole = subst
    (λ (xs : List ℕ). HasBytes xs whole) (take_rest key before) has in
    let long : length tail ≡ 8 = length-drop before key ∙ omega arith in
    let left_long : length rest ≡ left = length-drop from key in
    let bytes : to_be_bytes w64 whole ≡ tail =
    sym (take_all (length tail) (to_be_bytes w64 whole) (omega (
      arith,
      length_high_first 8 whole,
    )))
    ∙ (eight.front ∙ take_all 8 tail (omega arith)) in
    let there : before + skip ≡ from = omega arith in
    let behind : drop skip (to_be_bytes w64 whole) ≡ rest = ap (drop skip) bytes
    ∙ (drop-drop skip before key ∙ ap (λ (k : ℕ). drop k key) there) in
    ap (take left) (is ∙ ap (λ (xs : List ℕ). xs ++ take skip (to_be_bytes w64 0)) behind)
    ∙ (take_at rest (take skip (to_be_bytes w64 0)) left left_long
    ∙ sym (take_all 8 rest (omega arith)))
