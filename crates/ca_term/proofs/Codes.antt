-- The bytes of two codes compare as the terms do, whatever follows them.
use Rattle.std.proofs.Common.{◌≡◌, ℕ, ◌≤◌, ◌^◌, List, [], ◌++◌, length, arith, refl, sym, ◌∙◌, ap, append_assoc, append-nil}
use Rattle.std.proofs.Math.Nat.{mod-eq_of_lt}
use Rattle.std.specs.declared.cmp.Ordering.{Ordering}
use Rattle.std.specs.declared.cmp.Ordering.TheVariants.{Less, Equal, Greater}
use Rattle.std.specs.Ordering.{ordering_then, nat_cmp}
use Rattle.std.specs.Cmp.{ranked}
use Rattle.ca_term.proofs.TotalOrder.{tree_same}
use Rattle.ca_term.proofs.Numbers.{high_first_cmp, length_high_first}
use Rattle.ca_term.proofs.Bytes.{bytes_cmp, then_assoc, seam, bytes_itself, nothing_behind, then_both, same_bytes}
use Rattle.ca_term.proofs.Escapes.{escaped_cmp}
use Rattle.ca_term.proofs.IntCodes.{int_code_cmp, int_first, int_last, word}
use Rattle.ca_term.specs.declared.bounds.TheConstants.{MOST_ELEMENTS}
use Rattle.ca_term.specs.Tree.{Tree, Row, Integer, Atom, Tuple, Nil, Cons, Binary, Ends, More, size, IsNarrow, IsNarrowRow}
use Rattle.ca_term.specs.Order.{term_cmp, row_cmp}
use Rattle.ca_term.specs.Code.{escaped, code_of, row_code, four_bytes}
use Rattle.ca_term.specs.CodeLaws.{ArePrefixFree, CompareAsTerms}

size_cmp : (m n : ℕ) → m ≤ MOST_ELEMENTS → n ≤ MOST_ELEMENTS → bytes_cmp (four_bytes m) (four_bytes n) ≡ nat_cmp m n
unfolding four_bytes
size_cmp m n h k =
    high_first_cmp 4 m n ∙ (λ i. nat_cmp (mod-eq_of_lt {n = m} {m = 256 ^ 4} (omega arith) i) (mod-eq_of_lt {n = n} {m = 256 ^ 4} (omega arith) i))

size_length : (m n : ℕ) → length (four_bytes m) ≡ length (four_bytes n)
unfolding four_bytes
size_length m n = length_high_first 4 m ∙ sym (length_high_first 4 n)

-- the sizes decide, and else what stands behind them
sized : (m n : ℕ) (xs ys : List ℕ) (o q : Ordering) → m ≤ MOST_ELEMENTS → n ≤ MOST_ELEMENTS → (m ≡ n → bytes_cmp xs ys ≡ ordering_then o q) →
    bytes_cmp (four_bytes m ++ xs) (four_bytes n ++ ys) ≡ ordering_then (ordering_then (nat_cmp m n) o) q
sized m n xs ys o q h k f =
    seam (four_bytes m) (four_bytes n) xs ys (size_length m n) ∙ ap (λ z. ordering_then z (bytes_cmp xs ys)) (size_cmp m n h k) ∙ by (nat_cmp m n) refl
  where
    by : (r : Ordering) → r ≡ nat_cmp m n → ordering_then r (bytes_cmp xs ys) ≡ ordering_then (ordering_then r o) q
    by Less e = refl
    by Equal e = f (ranked m n Equal e)
    by Greater e = refl

mutual
  unfolding code_of

  -- The bytes of two codes compare as the terms do, and where the terms are equal what follows decides.
  pub code_cmp : (t u : Tree) (xs ys : List ℕ) → IsNarrow t → IsNarrow u
      → bytes_cmp (code_of t ++ xs) (code_of u ++ ys) ≡ ordering_then (term_cmp t u) (bytes_cmp xs ys)
  code_cmp (Integer m) (Integer n) xs ys h k = int_code_cmp m n xs ys (word m h) (word n k)
  code_cmp (Integer m) (Atom b) xs ys h k = int_first m 0x30 xs (escaped b ++ ys) (omega arith)
  code_cmp (Integer m) (Tuple s) xs ys h k = int_first m 0x40 xs ((four_bytes (size s) ++ row_code s) ++ ys) (omega arith)
  code_cmp (Integer m) Nil xs ys h k = int_first m 0x60 xs ys (omega arith)
  code_cmp (Integer m) (Cons l v) xs ys h k = int_first m 0x70 xs ((code_of l ++ code_of v) ++ ys) (omega arith)
  code_cmp (Integer m) (Binary b) xs ys h k = int_first m 0x80 xs (escaped b ++ ys) (omega arith)
  code_cmp (Atom b) (Integer m) xs ys h k = int_last m 0x30 ys (escaped b ++ xs) (omega arith)
  code_cmp (Tuple s) (Integer m) xs ys h k = int_last m 0x40 ys ((four_bytes (size s) ++ row_code s) ++ xs) (omega arith)
  code_cmp Nil (Integer m) xs ys h k = int_last m 0x60 ys xs (omega arith)
  code_cmp (Cons l v) (Integer m) xs ys h k = int_last m 0x70 ys ((code_of l ++ code_of v) ++ xs) (omega arith)
  code_cmp (Binary b) (Integer m) xs ys h k = int_last m 0x80 ys (escaped b ++ xs) (omega arith)
  code_cmp (Atom a) (Atom b) xs ys h k = escaped_cmp a b xs ys
  code_cmp (Tuple r) (Tuple s) xs ys h k =
      rw (append_assoc (four_bytes (size r)) (row_code r) xs, append_assoc (four_bytes (size s)) (row_code s) ys)
      (sized (size r) (size s) (row_code r ++ xs) (row_code s ++ ys) (row_cmp r s) (bytes_cmp xs ys) h.0 k.0 (λ e. row_code_cmp r s xs ys e h.1 k.1))
  code_cmp Nil Nil xs ys h k = refl
  code_cmp (Cons l v) (Cons m w) xs ys h k =
      rw (
        append_assoc (code_of l) (code_of v) xs,
        append_assoc (code_of m) (code_of w) ys,
        code_cmp l m (code_of v ++ xs) (code_of w ++ ys) h.0 k.0,
        code_cmp v w xs ys h.1 k.1,
      )
      (sym (then_assoc (term_cmp l m) (term_cmp v w) (bytes_cmp xs ys)))
  code_cmp (Binary a) (Binary b) xs ys h k = escaped_cmp a b xs ys
  code_cmp t u xs ys h k = refl

  row_code_cmp : (r s : Row) (xs ys : List ℕ) → size r ≡ size s → IsNarrowRow r → IsNarrowRow s
      → bytes_cmp (row_code r ++ xs) (row_code s ++ ys) ≡ ordering_then (row_cmp r s) (bytes_cmp xs ys)
  row_code_cmp Ends Ends xs ys e h k = refl
  row_code_cmp Ends (More u s) xs ys e h k = absurd (omega arith)
  row_code_cmp (More t r) Ends xs ys e h k = absurd (omega arith)
  row_code_cmp (More t r) (More u s) xs ys e h k =
      rw (
        append_assoc (code_of t) (row_code r) xs,
        append_assoc (code_of u) (row_code s) ys,
        code_cmp t u (row_code r ++ xs) (row_code s ++ ys) h.0 k.0,
        row_code_cmp r s xs ys (omega arith) h.1 k.1,
      )
      (sym (then_assoc (term_cmp t u) (row_cmp r s) (bytes_cmp xs ys)))

-- codes compare as the terms do
pub codes_compare : (t u : Tree) → IsNarrow t → IsNarrow u → bytes_cmp (code_of t) (code_of u) ≡ term_cmp t u
codes_compare t u h k = rw (← append-nil (code_of t), ← append-nil (code_of u)) (code_cmp t u [] [] h k ∙ by (term_cmp t u))
  where
    by : (o : Ordering) → ordering_then o Equal ≡ o
    by Less = refl
    by Equal = refl
    by Greater = refl

-- no code_of is a proper prefix of another term's code_of, and equal codes are of equal terms
pub prefix_free : (t u : Tree) (z : List ℕ) → IsNarrow t → IsNarrow u → code_of t ++ z ≡ code_of u → (t ≡ u) × (z ≡ [])
prefix_free t u z h k e =
    let p = code_cmp t u z [] h k in
    let q : bytes_cmp (code_of t ++ z) (code_of u ++ []) ≡ Equal = rw (append-nil (code_of u), e) (bytes_itself (code_of u)) in
    let b = then_both (term_cmp t u) (bytes_cmp z []) (sym p ∙ q) in
    (tree_same t u b.0, nothing_behind z b.1)

-- what begins with the codes of two terms begins with one code and goes on alike
pub same_code : (t u : Tree) (xs ys : List ℕ) → IsNarrow t → IsNarrow u → code_of t ++ xs ≡ code_of u ++ ys → (t ≡ u) × (xs ≡ ys)
same_code t u xs ys h k e =
    let p = code_cmp t u xs ys h k in
    let q : bytes_cmp (code_of t ++ xs) (code_of u ++ ys) ≡ Equal = rw e (bytes_itself (code_of u ++ ys)) in
    let b = then_both (term_cmp t u) (bytes_cmp xs ys) (sym p ∙ q) in
    (tree_same t u b.0, same_bytes xs ys b.1)

-- No code is a proper prefix of another term's code.
pub are_prefix_free : ArePrefixFree
are_prefix_free t u rest h k e = prefix_free t u rest h.narrow k.narrow e

-- The bytes of two codes compare as the terms do.
pub compare_as_terms : CompareAsTerms
compare_as_terms t u h k = codes_compare t u h.narrow k.narrow
