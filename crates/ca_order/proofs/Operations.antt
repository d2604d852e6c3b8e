-- One operation on a counter.
use Rattle.std.proofs.Common.{◌≡◌, ℕ, ◌<◌, ◌^◌, true, List, [], ◌++◌, length, take, drop, map, set, get_or, arith, refl, sym, ◌∙◌, ap, ℤ, pos, negsuc, FitsSigned, Option, Some, None, Ok, append-nil, take_all}
use Rattle.std.specs.Prelude.{ok_or}
use Rattle.std.specs.Int.{w64}
use Rattle.std.specs.List.{refill}
use Rattle.std.proofs.lemmas.List.{map-set, length-map, get_or-map, drop_all}
use Rattle.std.proofs.lemmas.Bool.Decides.{nat_tests}
use Rattle.ca_term.specs.Tree.{Tree, Integer, Nil}
use Rattle.ca_term.specs.Updates.{Addition, integer_of, is_word, value_of, count, count_at, counter_place, and_then, BadArgument}
use Rattle.ca_order.specs.Patches.{IsCount}

word : (v : ℤ) → FitsSigned w64 v → is_word v ≡ true
word (pos n) f = let l : n < 2 ^ 63 = f.sfits in grind (arith, nat_tests, l)
word (negsuc m) f = let l : m < 2 ^ 63 = f.sfits in grind (arith, nat_tests, l)

-- A counter's place is one of an element.
pub in_range : (keypos size : ℕ) (p : ℤ) (at : ℕ) → Some at ≡ counter_place keypos size p → at < size
in_range keypos size p at e = grind (arith, nat_tests, e)

-- Items written through a slice are those of the slice.
pub refilled : {A : Type 0} → (xs ys : List A) → length ys ≡ length xs → refill (length xs) xs ys ≡ ys
refilled xs ys h =
    let n : drop (length ys) xs ≡ [] = drop_all (length ys) xs (omega (arith, h)) in
    ap (λ x. take (length xs) (ys ++ x)) n ∙ ap (take (length xs)) (append-nil ys) ∙ take_all (length xs) ys (omega (arith, h))

count_is : (items : List Tree) (a : Addition) (at : ℕ) (n v : ℤ) → integer_of (get_or items at Nil) ≡ Some n → v ≡ value_of a n → is_word v ≡ true
    → count_at items a at ≡ Ok (set items at (Integer v), v)
count_is items a at n v e f h = rw (e, ← f, h) refl

-- An operation that passes gives the elements another number, and that number.
pub counted : (keypos : ℕ) (items : List Tree) (numbers : List (Option ℤ)) (a : Addition) (at : ℕ) (n v : ℤ) → numbers ≡ map integer_of items
    → Some at ≡ counter_place keypos (length numbers) a.position → at < length numbers → get_or numbers at None ≡ Some n → v ≡ value_of a n → FitsSigned w64 v
    → IsCount (count keypos items a) (Ok v) (set numbers at (Some v))
counted keypos items numbers a at n v e p l g f h =
    let same : length numbers ≡ length items = ap length e ∙ length-map items integer_of in
    let m : at < length items = omega (arith, same, l) in
    let q : counter_place keypos (length items) a.position ≡ Some at = ap (λ k. counter_place keypos k a.position) (sym same) ∙ sym p in
    let i : integer_of (get_or items at Nil) ≡ Some n =
    sym (get_or-map integer_of items at Nil None m) ∙ ap (λ x. get_or x at None) (sym e) ∙ g in
    let d : count keypos items a ≡ Ok (set items at (Integer v), v) = at_place keypos items a at q ∙ count_is items a at n v i f (word v h) in
    rw d (refl, ap (λ x. set x at (Some v)) e ∙ sym (map-set integer_of items at (Integer v)))
  where
    at_place : (keypos : ℕ) (items : List Tree) (a : Addition) (at : ℕ) → counter_place keypos (length items) a.position ≡ Some at
        → count keypos items a ≡ count_at items a at
    at_place keypos items a at q = ap (λ (o : Option ℕ). and_then (ok_or o BadArgument) (count_at items a)) q
