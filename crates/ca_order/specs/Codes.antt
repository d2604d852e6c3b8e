-- Codes of terms, one after the other.
use Rattle.std.specs.Prelude.{◌≡◌, ℕ, pos, negsuc, List, [], ◌∷◌, ◌++◌, length}
use Rattle.std.specs.Coded.{×_prop, Unit-prop, Π_prop, le_prop, Coded-set, coded_list, coded_ℕ}
use Rattle.std.proofs.Common.{refl, sym, ◌∙◌, ap}
use Rattle.std.proofs.Props.{props}
use mathlib.Core.HLevel.{is_prop→PathP}
use Rattle.ca_term.specs.Tree.{Tree, Row, Integer, Atom, Tuple, Nil, Cons, Binary, Ends, More, IsNarrow, IsNarrowRow, IsTerm, AreTerms, row_of}
use Rattle.ca_term.specs.Code.{code_of, int_code, row_code}
use Rattle.ca_term.proofs.Codes.{same_code}
use Rattle.ca_order.specs.Languages.{IsTermCode}

-- ---- a term is within the bounds in one way

mutual
  narrow_once : (t : Tree) → IsProp (IsNarrow t)
  narrow_once (Integer n) = Prim.hlevel props
  narrow_once (Atom text) = Prim.hlevel props
  narrow_once (Tuple row) = ×_prop le_prop (narrow_row_once row)
  narrow_once Nil = Unit-prop
  narrow_once (Cons head tail) = ×_prop (narrow_once head) (narrow_once tail)
  narrow_once (Binary bytes) = Π_prop (λ k. le_prop)

  narrow_row_once : (row : Row) → IsProp (IsNarrowRow row)
  narrow_row_once Ends = Unit-prop
  narrow_row_once (More t row) = ×_prop (narrow_once t) (narrow_row_once row)

term_once : (t : Tree) → IsProp (IsTerm t)
term_once t u v = λ i. record { shallow = le_prop u.shallow v.shallow i; narrow = narrow_once t u.narrow v.narrow i }

terms_once : (ts : List Tree) → IsProp (AreTerms ts)
terms_once [] = Unit-prop
terms_once (t ∷ ts) = ×_prop (term_once t) (terms_once ts)

-- ---- bytes and the terms that they are the codes of

-- the bytes are the codes of terms, one after the other
abbrev pub AreCodes : List ℕ → Type 0
AreCodes bytes = (ts : List Tree) × AreTerms ts × (bytes ≡ row_code (row_of ts))

bytes_once : (xs ys : List ℕ) → IsProp (xs ≡ ys)
bytes_once xs ys = Coded-set (coded_list coded_ℕ) xs ys

begun : (t : Tree) (xs : List ℕ) → code_of t ++ xs ≡ [] → ⊥
unfolding code_of int_code
begun (Integer (pos n)) xs e = cc
begun (Integer (negsuc m)) xs e = cc
begun (Atom text) xs e = cc
begun (Tuple row) xs e = cc
begun Nil xs e = cc
begun (Cons head tail) xs e = cc
begun (Binary bytes) xs e = cc

pub same_terms : (ts us : List Tree) → AreTerms ts → AreTerms us → row_code (row_of ts) ≡ row_code (row_of us) → ts ≡ us
unfolding row_code
same_terms [] [] h k e = refl
same_terms [] (u ∷ us) h k e = absurd (begun u (row_code (row_of us)) (sym e))
same_terms (t ∷ ts) [] h k e = absurd (begun t (row_code (row_of ts)) e)
same_terms (t ∷ ts) (u ∷ us) h k e =
    let s = same_code t u (row_code (row_of ts)) (row_code (row_of us)) h.0.narrow k.0.narrow e in
    ap (λ (x : Tree). x ∷ ts) s.0 ∙ ap (λ (x : List Tree). u ∷ x) (same_terms ts us h.1 k.1 s.1)

-- One code is that of one term.
pub IsTermCode-prop : (bytes : List ℕ) → IsProp (IsTermCode bytes)
IsTermCode-prop bytes u v =
    let q : u.0 ≡ v.0 = (same_code u.0 v.0 [] [] u.1.narrow v.1.narrow (ap (λ (x : List ℕ). x ++ []) (sym u.2 ∙ v.2))).0 in
    λ i. (
      q i,
      is_prop→PathP (λ j. IsTerm (q j)) (λ j. term_once (q j)) u.1 v.1 i,
      is_prop→PathP (λ j. bytes ≡ code_of (q j)) (λ j. bytes_once bytes (code_of (q j))) u.2 v.2 i,
    )

-- Codes are those of one list of terms.
pub AreCodes-prop : (bytes : List ℕ) → IsProp (AreCodes bytes)
AreCodes-prop bytes u v =
    let q : u.0 ≡ v.0 = same_terms u.0 v.0 u.1 v.1 (sym u.2 ∙ v.2) in
    λ i. (
      q i,
      is_prop→PathP (λ j. AreTerms (q j)) (λ j. terms_once (q j)) u.1 v.1 i,
      is_prop→PathP (λ j. bytes ≡ row_code (row_of (q j))) (λ j. bytes_once bytes (row_code (row_of (q j)))) u.2 v.2 i,
    )

-- ---- the first of some terms, opened

-- The first term is a tuple of so many elements, which stand in its place.
pub record IsOpened (terms : List Tree) (count : ℕ) (inside : List Tree) : Type 0 where
  pub items : List Tree
  pub others : List Tree
  pub terms_are : terms ≡ Tuple (row_of items) ∷ others
  pub many : count ≡ length items
  pub inside_is : inside ≡ items ++ others

-- The first term is a list cell, and its head and its tail stand in its place.
pub record IsOpenedCell (terms inside : List Tree) : Type 0 where
  pub head : Tree
  pub tail : Tree
  pub others : List Tree
  pub terms_are : terms ≡ Cons head tail ∷ others
  pub inside_is : inside ≡ head ∷ tail ∷ others

-- The first term is no tuple, or no list cell.
abbrev pub HasNoTuple : List Tree → Type 0
HasNoTuple terms = (row : Row) (others : List Tree) → terms ≡ Tuple row ∷ others → ⊥

abbrev pub HasNoCell : List Tree → Type 0
HasNoCell terms = (head tail : Tree) (others : List Tree) → terms ≡ Cons head tail ∷ others → ⊥

-- The first term is another one.
abbrev pub BeginsOtherwise : Tree → List Tree → Type 0
BeginsOtherwise t terms = (others : List Tree) → terms ≡ t ∷ others → ⊥
