-- Escaped bytes: part by part, how they compare, and how long they are.
use Rattle.std.proofs.Common.{◌≡◌, ℕ, ◌+◌, ◌==◌, suc, zero, List, [], ◌∷◌, ◌++◌, length, count_by, filter, arith, refl, sym, ◌∙◌, false}
use Rattle.std.proofs.lemmas.Bool.Decides.{nat_tests}
use Rattle.std.proofs.lemmas.List.Sums.{length-filter}
use Rattle.std.specs.declared.cmp.Ordering.TheVariants.{Equal}
use Rattle.std.specs.Ordering.{ordering_then, nat_cmp}
use Rattle.ca_term.proofs.Bytes.{bytes_cmp, then_assoc, head_less, head_greater, bytes_itself, then_both, same_bytes}
use Rattle.ca_term.proofs.Numbers.{less, greater}
use Rattle.ca_term.specs.Code.{escaped}

-- A zero byte is escaped as 00 FF.
pub escaped_zero : (bs : List ℕ) → escaped (0 ∷ bs) ≡ 0 ∷ 0xff ∷ escaped bs
unfolding escaped
escaped_zero bs = refl

-- A byte above 0 is escaped as it stands.
pub escaped_suc : (b : ℕ) (bs : List ℕ) → escaped (suc b ∷ bs) ≡ suc b ∷ escaped bs
unfolding escaped
escaped_suc b bs = let n : (suc b == 0) ≡ false = grind (arith, nat_tests) in rw n

-- No bytes, escaped, are the end alone.
pub escaped_nil : escaped [] ≡ 0 ∷ 0 ∷ []
unfolding escaped
escaped_nil = refl

-- escaped bytes compare as the bytes do, and where these are equal what follows decides
pub escaped_cmp : (a b xs ys : List ℕ) → bytes_cmp (escaped a ++ xs) (escaped b ++ ys) ≡ ordering_then (bytes_cmp a b) (bytes_cmp xs ys)
escaped_cmp [] [] xs ys = rw escaped_nil
escaped_cmp [] (zero ∷ b) xs ys = rw (escaped_nil, escaped_zero b)
escaped_cmp [] (suc y ∷ b) xs ys = rw (escaped_nil, escaped_suc y b) (head_less 0 (suc y) (0 ∷ xs) (escaped b ++ ys) (omega arith))
escaped_cmp (zero ∷ a) [] xs ys = rw (escaped_nil, escaped_zero a)
escaped_cmp (suc x ∷ a) [] xs ys = rw (escaped_nil, escaped_suc x a) (head_greater (suc x) 0 (escaped a ++ xs) (0 ∷ ys) (omega arith))
escaped_cmp (zero ∷ a) (zero ∷ b) xs ys = rw (escaped_zero a, escaped_zero b) (escaped_cmp a b xs ys)
escaped_cmp (zero ∷ a) (suc y ∷ b) xs ys = rw (escaped_zero a, escaped_suc y b, less 0 (suc y) (omega arith))
escaped_cmp (suc x ∷ a) (zero ∷ b) xs ys = rw (escaped_suc x a, escaped_zero b, greater (suc x) 0 (omega arith))
escaped_cmp (suc x ∷ a) (suc y ∷ b) xs ys =
    rw (escaped_suc x a, escaped_suc y b, escaped_cmp a b xs ys) (sym (then_assoc (nat_cmp (suc x) (suc y)) (bytes_cmp a b) (bytes_cmp xs ys)))

-- what begins with two escaped texts begins with one and goes on alike
pub same_escaped : (a b xs ys : List ℕ) → escaped a ++ xs ≡ escaped b ++ ys → (a ≡ b) × (xs ≡ ys)
same_escaped a b xs ys e =
    let q : bytes_cmp (escaped a ++ xs) (escaped b ++ ys) ≡ Equal = rw e (bytes_itself (escaped b ++ ys)) in
    let t = then_both (bytes_cmp a b) (bytes_cmp xs ys) (sym (escaped_cmp a b xs ys) ∙ q) in
    (same_bytes a b t.0, same_bytes xs ys t.1)

length_by_filter : (bs : List ℕ) → length (escaped bs) ≡ length bs + length (filter (λ b. b == 0) bs) + 2
length_by_filter [] = rw escaped_nil refl
length_by_filter (zero ∷ bs) = rw (escaped_zero bs) (omega (arith, length_by_filter bs))
length_by_filter (suc b ∷ bs) = let n : (suc b == 0) ≡ false = grind (arith, nat_tests) in rw (escaped_suc b bs, n) (omega (arith, length_by_filter bs))

-- each zero takes two bytes, and the end two
pub length_escaped : (bs : List ℕ) → length (escaped bs) ≡ length bs + count_by (λ b. b == 0) bs + 2
length_escaped bs = omega (arith, length_by_filter bs, length-filter (λ b. b == 0) bs)
