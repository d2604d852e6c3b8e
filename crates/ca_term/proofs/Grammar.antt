-- The codes of terms are the language of codes.
use Rattle.std.proofs.Common.{◌≡◌, ℕ, zero, suc, ◌≤◌, ◌<◌, ◌+◌, ◌^◌, pos, negsuc, List, ◌++◌, arith, refl, sym, subst}
use Rattle.std.specs.Prelude.{FitsSigned}
use Rattle.std.specs.Int.{w64}
use Rattle.ca_term.proofs.DigitBytes.{digits_number, number_word, are_digits}
use Rattle.ca_term.proofs.IntCodes.{word}
use Rattle.ca_term.specs.declared.bounds.TheConstants.{MOST_DEPTH}
use Rattle.ca_term.specs.Levels.{HasTerm, HasRow}
use Rattle.ca_term.specs.Tree.{Tree, Row, Integer, Atom, Tuple, Nil, Cons, Binary, Ends, More, size, depth, row_depth, IsNarrow, IsNarrowRow}
use Rattle.ca_term.specs.Code.{code_of, row_code, int_code, digits}
use Rattle.ca_term.specs.Grammar.{number, IsCodeWithin, AreCodesWithin, FromZero, BelowZero, AnAtom, ATuple, ANil, ACons, ABinary, NoCode, OneMore, IsCode, AreCodesOfTerms}

-- Each term has a level.
pub deep : (t : Tree) → 1 ≤ depth t
deep (Integer n) = omega arith
deep (Atom text) = omega arith
deep (Tuple row) = omega arith
deep Nil = omega arith
deep (Cons head tail) = omega arith
deep (Binary bytes) = omega arith

mutual
  unfolding code_of int_code

  -- The code of a term of at most so many levels is in the grammar with so many levels.
  pub code_within : (t : Tree) (levels : ℕ) → depth t ≤ levels → IsNarrow t → IsCodeWithin levels (code_of t)
  code_within t zero d h = absurd (omega (arith, deep t))
  code_within (Integer (pos n)) (suc l) d h = FromZero l (digits n) (are_digits n (word (pos n) h))
  code_within (Integer (negsuc m)) (suc l) d h = BelowZero l (digits m) (are_digits m (word (negsuc m) h))
  code_within (Atom text) (suc l) d h = AnAtom l text h.0 h.1
  code_within (Tuple row) (suc l) d h = ATuple l (size row) (row_code row) h.0 (codes_within row l (omega arith) h.1)
  code_within Nil (suc l) d h = ANil l
  code_within (Cons head tail) (suc l) d h =
      ACons l (code_of head) (code_of tail) (code_within head l (omega arith) h.0) (code_within tail (suc l) (omega arith) h.1)
  code_within (Binary bytes) (suc l) d h = ABinary l bytes h

  -- So are the codes of a row's terms.
  pub codes_within : (r : Row) (levels : ℕ) → row_depth r ≤ levels → IsNarrowRow r → AreCodesWithin levels (size r) (row_code r)
  codes_within Ends l d h = NoCode l
  codes_within (More t r) l d h =
      let n : suc (size r) ≡ 1 + size r = omega arith in
      subst (λ (k : ℕ). AreCodesWithin l k (code_of t ++ row_code r)) n
      (OneMore l (size r) (code_of t) (row_code r) (code_within t l (omega arith) h.0) (codes_within r l (omega arith) h.1))

-- A number below 2 ^ 63 has 64 bits with its sign.
pub signed_pos : (n : ℕ) → n < 2 ^ 63 → FitsSigned w64 (pos n)
signed_pos n h = record { sfits = h }

-- So has -m - 1 for m below 2 ^ 63.
pub signed_neg : (n : ℕ) → n < 2 ^ 63 → FitsSigned w64 (negsuc n)
signed_neg n h = record { sfits = h }

mutual
  unfolding code_of int_code

  -- What is in the grammar with so many levels is the code of a term of at most so many levels.
  pub term_within : (levels : ℕ) (bytes : List ℕ) → IsCodeWithin levels bytes → HasTerm levels bytes
  term_within _ _ (FromZero l ds h) = record {
    term = Integer (pos (number ds));
    shallow = omega arith;
    narrow = signed_pos (number ds) (number_word ds h);
    code_is = rw (digits_number ds h) refl;
  }
  term_within _ _ (BelowZero l ds h) = record {
    term = Integer (negsuc (number ds));
    shallow = omega arith;
    narrow = signed_neg (number ds) (number_word ds h);
    code_is = rw (digits_number ds h) refl;
  }
  term_within _ _ (AnAtom l text u n) = record { term = Atom text; shallow = omega arith; narrow = (u, n); code_is = refl }
  term_within _ _ (ATuple l count codes n h) =
      let r = row_within l count codes h in
      record {
        term = Tuple r.row;
        shallow = omega (arith, r.shallow);
        narrow = (omega (arith, r.many), r.narrow);
        code_is = rw (r.many, ← r.code_is) refl;
      }
  term_within _ _ (ANil l) = record { term = Nil; shallow = omega arith; narrow = tt; code_is = refl }
  term_within _ _ (ACons l head tail h k) =
      let t = term_within l head h in
      let u = term_within (suc l) tail k in
      record {
        term = Cons t.term u.term;
        shallow = omega (arith, t.shallow, u.shallow);
        narrow = (t.narrow, u.narrow);
        code_is = rw (← t.code_is, ← u.code_is) refl;
      }
  term_within _ _ (ABinary l bytes h) = record { term = Binary bytes; shallow = omega arith; narrow = h; code_is = refl }

  -- So many codes are those of a row.
  pub row_within : (levels count : ℕ) (bytes : List ℕ) → AreCodesWithin levels count bytes → HasRow levels count bytes
  row_within _ _ _ (NoCode l) = record { row = Ends; shallow = omega arith; narrow = tt; many = refl; code_is = refl }
  row_within _ _ _ (OneMore l count first rest h k) =
      let t = term_within l first h in
      let r = row_within l count rest k in
      record {
        row = More t.term r.row;
        shallow = omega (arith, t.shallow, r.shallow);
        narrow = (t.narrow, r.narrow);
        many = omega (arith, r.many);
        code_is = rw (← t.code_is, ← r.code_is) refl;
      }

-- The codes of the grammar are the codes of terms.
pub are_codes_of_terms : AreCodesOfTerms
are_codes_of_terms bytes = (
  (λ h. let t = term_within MOST_DEPTH bytes h in (t.term, record { shallow = t.shallow; narrow = t.narrow }, t.code_is)),
  (λ t. subst IsCode (sym t.2) (code_within t.0 MOST_DEPTH t.1.shallow t.1.narrow)),
)
