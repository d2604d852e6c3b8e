-- Where the size of a tuple is stuck.
use Rattle.std.proofs.Common.{◌≡◌, ℕ, zero, suc, ◌≤◌, ◌+◌, ◌/◌, ◌%◌, List, [], ◌∷◌, ◌++◌, arith, refl, sym, ◌∙◌, ap, subst}
use Rattle.ca_term.specs.declared.bounds.TheConstants.{MOST_ELEMENTS}
use Rattle.ca_order.specs.declared.fault.ReadFault.{ReadFault}
use Rattle.ca_term.specs.Tree.{Row, Ends, More, size, row_depth}
use Rattle.ca_term.specs.Code.{four_bytes, row_code}
use Rattle.ca_term.proofs.Grammar.{deep}
use Rattle.ca_order.specs.Stuck.{IsStuck, IsRest}
use Rattle.ca_term.specs.Levels.{HasRow}
use Rattle.ca_order.specs.Languages.{HasSize, HasTuple, zero_bytes, most_elements}
use Rattle.ca_order.specs.Reads.{IsReadFault}
use Rattle.ca_order.proofs.Starts.{IsPrefixFree, Begins, stuck_here}
use Rattle.ca_order.proofs.Faults.{fault_behind, fault_first, fault_same}
use Rattle.ca_order.proofs.FirstBytes.{nil_row, first_same}

-- A size that a tuple may have stands in the last of its four bytes.
pub four_small : (n : ℕ) → n ≤ MOST_ELEMENTS → four_bytes n ≡ 0 ∷ 0 ∷ 0 ∷ n ∷ []
unfolding four_bytes
four_small n h =
    let a : n / 16777216 % 256 ≡ 0 = omega arith in
    let b : n / 65536 % 256 ≡ 0 = omega arith in
    let c : n / 256 % 256 ≡ 0 = omega arith in
    let d : n % 256 ≡ n = omega arith in
    λ i. a i ∷ b i ∷ c i ∷ d i ∷ []

row_nil : [] ≡ row_code Ends
unfolding row_code
row_nil = refl

-- ---- one byte

-- A size of one byte is stuck in front of a byte that is too large.
pub stuck_byte : (most : ℕ) (bytes : List ℕ) → ((b : ℕ) (more : List ℕ) → bytes ≡ b ∷ more → b ≤ most → ⊥) → IsStuck (HasSize 0 most) bytes bytes
stuck_byte most bytes n =
    stuck_here (HasSize 0 most) bytes 0 [] (record { count = 0; fits = omega arith; code_is = refl })
    (λ b more rest e w. let f : b ≡ w.count = (first_same b w.count rest [] w.code_is).0 in n b more e (omega (arith, f, w.fits)))

byte_prefix_free : (most : ℕ) → IsPrefixFree (HasSize 0 most)
byte_prefix_free most u rest h k =
    let e : h.count ∷ rest ≡ k.count ∷ [] = ap (λ x. x ++ rest) (sym h.code_is) ∙ k.code_is in
    (first_same h.count k.count rest [] e).1

zero_begins : (z most : ℕ) (x : List ℕ) → HasSize (suc z) most x → Begins (HasSize 0 0) x
zero_begins z most x h =
    record { word = 0 ∷ []; rest = zero_bytes z ++ h.count ∷ []; parts = h.code_is; is_word = record { count = 0; fits = omega arith; code_is = refl } }

zero_goes_on : (z most : ℕ) (u : List ℕ) → HasSize 0 0 u → (v : List ℕ) × HasSize (suc z) most (u ++ v)
zero_goes_on z most u h =
    let n : h.count ≡ 0 = omega (arith, h.fits) in
    (zero_bytes z ++ 0 ∷ [], record { count = 0; fits = omega arith; code_is = ap (λ x. x ++ (zero_bytes z ++ 0 ∷ [])) (h.code_is ∙ ap (λ (x : ℕ). x ∷ []) n) })

-- ---- the bytes of a size

zeros_rest : (k z most : ℕ) → IsRest (HasSize (k + z) most) (zero_bytes k) (HasSize z most)
zeros_rest zero z most =
    subst (λ (n : ℕ). IsRest (HasSize n most) [] (HasSize z most)) (let e : z ≡ 0 + z = omega arith in e) (record { into = λ x w. w; back = λ x w. w })
zeros_rest (suc k) z most =
    let q = zeros_rest k z most in
    subst (λ (n : ℕ). IsRest (HasSize n most) (zero_bytes (suc k)) (HasSize z most)) (let e : suc (k + z) ≡ suc k + z = omega arith in e) (record {
      into = λ x w. q.into x (record {
        count = w.count;
        fits = w.fits;
        code_is = (first_same 0 0 (zero_bytes k ++ x) (zero_bytes (k + z) ++ w.count ∷ []) w.code_is).1;
      });
      back = λ x w. let v = q.back x w in record { count = v.count; fits = v.fits; code_is = ap (λ (y : List ℕ). 0 ∷ y) v.code_is };
    })

-- A fault in one of the first three bytes is a fault of the size.
pub zero_fault : (k z most : ℕ) (bytes rest : List ℕ) (e : ReadFault) → k + suc z ≡ 3 → bytes ≡ zero_bytes k ++ rest → IsReadFault (HasSize 0 0) rest e
    → IsReadFault (HasSize 3 most) bytes e
zero_fault k z most bytes rest e n f h =
    let q : IsRest (HasSize 3 most) (zero_bytes k) (HasSize (suc z) most) =
    subst (λ (x : ℕ). IsRest (HasSize x most) (zero_bytes k) (HasSize (suc z) most)) n (zeros_rest k (suc z) most) in
    fault_same (HasSize 3 most) bytes (zero_bytes k ++ rest) e f
    (fault_behind (HasSize 3 most) (HasSize (suc z) most) (zero_bytes k) rest e q
    (fault_first (HasSize 0 0) (HasSize (suc z) most) rest e (byte_prefix_free 0) (zero_begins z most) (zero_goes_on z most) h))

-- A fault in the last byte is a fault of the size.
pub last_fault : (most : ℕ) (bytes rest : List ℕ) (e : ReadFault) → bytes ≡ zero_bytes 3 ++ rest → IsReadFault (HasSize 0 most) rest e
    → IsReadFault (HasSize 3 most) bytes e
last_fault most bytes rest e f h =
    fault_same (HasSize 3 most) bytes (zero_bytes 3 ++ rest) e f (fault_behind (HasSize 3 most) (HasSize 0 most) (zero_bytes 3) rest e (zeros_rest 3 0 most) h)

-- one zero byte more
pub zero_more : (k b : ℕ) (bytes rest more : List ℕ) → bytes ≡ zero_bytes k ++ rest → b ≤ 0 → rest ≡ b ∷ more → bytes ≡ zero_bytes (suc k) ++ more
zero_more k b bytes rest more e h f =
    let n : b ≡ 0 = omega arith in
    e ∙ ap (λ x. zero_bytes k ++ x) (f ∙ ap (λ (x : ℕ). x ∷ more) n) ∙ shift k more
  where
    shift : (k : ℕ) (xs : List ℕ) → zero_bytes k ++ 0 ∷ xs ≡ zero_bytes (suc k) ++ xs
    shift zero xs = refl
    shift (suc k) xs = ap (λ (y : List ℕ). 0 ∷ y) (shift k xs)

-- Three zero bytes and a small byte are the four bytes of a size.
pub size_all : (most n : ℕ) (bytes rest more : List ℕ) → most ≤ MOST_ELEMENTS → n ≤ most → bytes ≡ zero_bytes 3 ++ rest → rest ≡ n ∷ more
    → bytes ≡ four_bytes n ++ more
size_all most n bytes rest more h k e f = e ∙ ap (λ x. zero_bytes 3 ++ x) f ∙ ap (λ x. x ++ more) (sym (four_small n (omega arith)))

-- ---- the size, and then the elements

size_prefix_free : (most : ℕ) → IsPrefixFree (HasSize 3 most)
size_prefix_free most u rest h k =
    let e : 0 ∷ 0 ∷ 0 ∷ h.count ∷ rest ≡ 0 ∷ 0 ∷ 0 ∷ k.count ∷ [] = ap (λ x. x ++ rest) (sym h.code_is) ∙ k.code_is in
    let f : rest ≡ [] = cc in f

no_row : (row : Row) → row_depth row ≤ 0 → size row ≡ 0
no_row Ends h = refl
no_row (More t row) h = absurd (omega (arith, deep t))

few_elements : (levels n : ℕ) (x : List ℕ) → HasRow levels n x → n ≤ MOST_ELEMENTS → n ≤ most_elements levels
few_elements zero n x h k = omega (arith, no_row h.row h.shallow, h.many)
few_elements (suc levels) n x h k = k

-- At any level a tuple has no more elements than a tuple may have.
pub most_fits : (levels : ℕ) → most_elements levels ≤ MOST_ELEMENTS
most_fits zero = omega arith
most_fits (suc levels) = omega arith

size_begins : (levels : ℕ) (x : List ℕ) → HasTuple levels x → Begins (HasSize 3 (most_elements levels)) x
size_begins levels x h = record {
  word = 0 ∷ 0 ∷ 0 ∷ h.count ∷ [];
  rest = h.elements;
  parts = h.code_is ∙ ap (λ y. y ++ h.elements) (four_small h.count h.fits);
  is_word = record { count = h.count; fits = few_elements levels h.count h.elements h.row h.fits; code_is = refl };
}

some_row : (levels n : ℕ) → n ≤ most_elements levels → (v : List ℕ) × HasRow levels n v
some_row zero n h =
    let z : 0 ≡ n = omega arith in
    ([], subst (λ (k : ℕ). HasRow 0 k []) z none)
  where
    none : HasRow 0 0 []
    none = record { row = Ends; shallow = omega arith; narrow = tt; many = refl; code_is = row_nil }
some_row (suc levels) n h = nil_row (suc levels) n (omega arith)

size_goes_on : (levels : ℕ) (u : List ℕ) → HasSize 3 (most_elements levels) u → (v : List ℕ) × HasTuple levels (u ++ v)
size_goes_on levels u h =
    let v = some_row levels h.count h.fits in
    let f : h.count ≤ MOST_ELEMENTS = omega (arith, h.fits, most_fits levels) in
    (v.0, record { count = h.count; fits = f; elements = v.0; row = v.1; code_is = ap (λ x. x ++ v.0) (h.code_is ∙ sym (four_small h.count f)) })

-- A fault in the size is a fault of the tuple.
pub size_fault : (levels : ℕ) (bytes : List ℕ) (e : ReadFault) → IsReadFault (HasSize 3 (most_elements levels)) bytes e → IsReadFault (HasTuple levels) bytes e
size_fault levels bytes e h =
    fault_first (HasSize 3 (most_elements levels)) (HasTuple levels) bytes e (size_prefix_free (most_elements levels)) (size_begins levels)
    (size_goes_on levels) h

-- Behind its size stand a tuple's elements.
pub elements_rest : (levels n : ℕ) → n ≤ MOST_ELEMENTS → IsRest (HasTuple levels) (four_bytes n) (HasRow levels n)
elements_rest levels n h = record {
  into = λ x w.
      let e : 0 ∷ 0 ∷ 0 ∷ n ∷ x ≡ 0 ∷ 0 ∷ 0 ∷ w.count ∷ w.elements =
      ap (λ y. y ++ x) (sym (four_small n h)) ∙ w.code_is ∙ ap (λ y. y ++ w.elements) (four_small w.count w.fits) in
      let same : w.count ≡ n = cc in
      let rest : w.elements ≡ x = cc in
      subst (HasRow levels n) rest (subst (λ (k : ℕ). HasRow levels k w.elements) same w.row);
  back = λ x w. record { count = n; fits = h; elements = x; row = w; code_is = refl };
}
