-- A printed text is never empty.
use Rattle.std.proofs.Common.{ℕ, zero, suc, ◌/◌, ◌%◌, ◌<◌, ◌≤◌, Bool, true, false, cond, eqb, List, [], ◌∷◌, length, pos, negsuc, arith, if◌then◌else◌}
use Rattle.std.specs.Fmt.{digits, digits_onto, digit_glyph, decimal}
use Rattle.ca_term.specs.Tree.{Tree, Integer, Atom, Tuple, Nil, Cons, Binary}
use Rattle.ca_text.specs.Text.{text_of, atom_text, quoted, binary_text, is_plain_atom}

onto_longer : (k base n : ℕ) (upper : Bool) (acc : List ℕ) → length acc ≤ length (digits_onto k base upper n acc)
onto_longer zero base n upper acc = omega arith
onto_longer (suc k) base n upper acc =
    let g = digit_glyph upper (n % base) ∷ acc in
    elim (eqb (n / base) 0) as (λ b. length acc ≤ length (cond b g (digits_onto k base upper (n / base) g))) [
      | true ↦ omega arith
      | false ↦ omega (arith, onto_longer k base (n / base) upper g)
    ]

onto_some : (k base n : ℕ) (upper : Bool) → 0 < length (digits_onto (suc k) base upper n [])
onto_some k base n upper =
    let g = digit_glyph upper (n % base) ∷ [] in
    elim (eqb (n / base) 0) as (λ b. 0 < length (cond b g (digits_onto k base upper (n / base) g))) [
      | true ↦ omega arith
      | false ↦ omega (arith, onto_longer k base (n / base) upper g)
    ]

decimal_some : (n : ℕ) → 0 < length (decimal n)
unfolding digits
decimal_some n = onto_some 63 10 n false

quoted_some : (text : List ℕ) → 0 < length (quoted text)
unfolding quoted
quoted_some text = omega arith

atom_some : (text : List ℕ) → 0 < length (atom_text text)
unfolding atom_text
atom_some [] = quoted_some []
atom_some (c ∷ cs) =
    elim (is_plain_atom (c ∷ cs)) as (λ b. 0 < length (cond b (c ∷ cs) (quoted (c ∷ cs)))) [ true ↦ omega arith | false ↦ quoted_some (c ∷ cs) ]

either_some : (b : Bool) (x y : ℕ) (xs ys : List ℕ) → 0 < length (if b then x ∷ xs else y ∷ ys)
either_some true x y xs ys = omega arith
either_some false x y xs ys = omega arith

binary_some : (bytes : List ℕ) → 0 < length (binary_text bytes)
unfolding binary_text
binary_some [] = omega arith
binary_some (b ∷ bs) = either_some _ _ _ _ _

-- No printed text is empty.
pub text_some : (t : Tree) → 0 < length (text_of t)
text_some (Integer (pos n)) = decimal_some n
text_some (Integer (negsuc n)) = omega arith
text_some (Atom text) = atom_some text
text_some (Tuple row) = omega arith
text_some Nil = omega arith
text_some (Cons head tail) = omega arith
text_some (Binary bytes) = binary_some bytes
