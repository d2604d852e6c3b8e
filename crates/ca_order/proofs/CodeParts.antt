-- The terms of codes that stand one after the other.
use Rattle.std.proofs.Common.{◌≡◌, ℕ, ◌≤◌, ◌-◌, nat_eq, List, [], ◌∷◌, ◌++◌, length, take, refl, sym, ◌∙◌, ap, arith, append_assoc, append-nil, length-append}
use Rattle.std.proofs.lemmas.Map.Text.{is_eq-slice_cmp}
use Rattle.std.proofs.Math.Seq.{take-append_seam}
use Rattle.std.specs.Prelude.{Bool}
use Rattle.std.specs.declared.cmp.Ordering.{Ordering}
use Rattle.std.specs.Ordering.{is_eq, nat_cmp}
use Rattle.std.specs.Cmp.Lexicographic.{slice_cmp}
use lib.Pointwise.{pointwise}
use Rattle.ca_term.specs.declared.bounds.TheConstants.{MOST_ELEMENTS}
use Rattle.ca_term.specs.Tree.{Tree, Row, Tuple, Cons, Ends, More, IsTerm, AreTerms, IsNarrowRow, row_depth, elements, row_of, size}
use Rattle.ca_term.specs.Code.{code_of, row_code, four_bytes}
use Rattle.ca_term.specs.Order.{term_cmp}
use Rattle.ca_term.proofs.Codes.{codes_compare, same_code}
use Rattle.ca_term.proofs.Rows.{row_again, length_elements}
use Rattle.ca_order.specs.Codes.{AreCodes, BeginsOtherwise, HasNoCell, HasNoTuple, IsOpened, IsOpenedCell, same_terms}
use Rattle.ca_order.specs.KeyParts.{HasCodes}
use Rattle.ca_order.specs.Languages.{IsTermCode}
use Rattle.ca_order.proofs.ByteOrder.{begun_order}
use Rattle.ca_order.proofs.FirstBytes.{Tagged, first_same, is_cons, is_tuple, of_kind, tagged}
use Rattle.ca_order.proofs.Skipped.{begun, one_code}

-- The codes of terms are that of the first one and those of the others, and those of no terms are no bytes.
more : (t : Tree) (ts : List Tree) → row_code (row_of (t ∷ ts)) ≡ code_of t ++ row_code (row_of ts)
unfolding row_code
more t ts = refl

pub none : [] ≡ row_code (row_of [])
unfolding row_code
none = refl

-- A code's term is the one whose code it is.
pub tree_is : (bytes : List ℕ) (p : IsTermCode bytes) (t : Tree) → IsTerm t → bytes ≡ code_of t → p.0 ≡ t
tree_is bytes p t h e = (same_code p.0 t [] [] p.1.narrow h.narrow (ap (λ (x : List ℕ). x ++ []) (sym p.2 ∙ e))).0

-- The terms of codes are those whose codes they are.
pub terms_are : (bytes : List ℕ) (a : AreCodes bytes) (ts : List Tree) → AreTerms ts → bytes ≡ row_code (row_of ts) → a.0 ≡ ts
terms_are bytes a ts h e = same_terms a.0 ts a.1 h (sym a.2 ∙ e)

-- A code is the codes of one term.
pub one : (bytes : List ℕ) → IsTermCode bytes → AreCodes bytes
unfolding row_code
one bytes p = (p.0 ∷ [], (p.1, tt), p.2 ∙ sym (append-nil (code_of p.0)))

-- Its terms are that one.
pub one_is : (bytes : List ℕ) (p : IsTermCode bytes) (a : AreCodes bytes) → a.0 ≡ p.0 ∷ []
unfolding one
one_is bytes p a = let o = one bytes p in terms_are bytes a o.0 o.1 o.2

-- ---- equal terms have equal codes

compared : (xs ys : List ℕ) (p : IsTermCode xs) (q : IsTermCode ys) → slice_cmp nat_cmp xs ys ≡ term_cmp p.0 q.0
compared xs ys p q =
    ap (λ (x : List ℕ). slice_cmp nat_cmp x ys) p.2 ∙ ap (λ (y : List ℕ). slice_cmp nat_cmp (code_of p.0) y) q.2
    ∙ codes_compare p.0 q.0 p.1.narrow q.1.narrow

-- The bytes stand to each other as the terms do.
pub as_terms : (xs ys : List ℕ) (p : IsTermCode xs) (q : IsTermCode ys) (r : Ordering) → r ≡ slice_cmp nat_cmp xs ys → r ≡ term_cmp p.0 q.0
as_terms xs ys p q r e = e ∙ compared xs ys p q

-- The first code of some stands to one as the first term does: neither code begins with the other one.
pub first_as_terms : (xs ys : List ℕ) (a : AreCodes xs) (q : IsTermCode ys) (r : Ordering) (t : Tree) (ts : List Tree)
    → r ≡ slice_cmp nat_cmp (take (length ys) xs) ys → a.0 ≡ t ∷ ts → r ≡ term_cmp t q.0
first_as_terms xs ys a q r t ts e f = by a.0 a.1 a.2 f
  where
    by : (us : List Tree) → AreTerms us → xs ≡ row_code (row_of us) → us ≡ t ∷ ts → r ≡ term_cmp t q.0
    by [] b g f = cc
    by (u ∷ us) b g f =
        let n = b.0.narrow in
        let own : r ≡ term_cmp u q.0 =
        e ∙ ap (λ (x : List ℕ). slice_cmp nat_cmp (take (length ys) x) ys) (g ∙ more u us)
        ∙ ap (λ (y : List ℕ). slice_cmp nat_cmp (take (length y) (code_of u ++ row_code (row_of us))) y) q.2
        ∙ begun_order (code_of u) (code_of q.0) (row_code (row_of us)) (λ vs ws h. (same_code u q.0 vs ws n q.1.narrow h).1)
        ∙ codes_compare u q.0 n q.1.narrow in
        let same : u ≡ t = cc in
        own ∙ ap (λ (x : Tree). term_cmp x q.0) same

-- The bytes are equal where the terms are.
pub equal_terms : (xs ys : List ℕ) (p : IsTermCode xs) (q : IsTermCode ys) (r : Bool) → r ≡ pointwise nat_eq xs ys → r ≡ is_eq (term_cmp p.0 q.0)
equal_terms xs ys p q r e = e ∙ sym (is_eq-slice_cmp xs ys) ∙ ap is_eq (compared xs ys p q)

-- ---- the first code, and those behind it

pub record Halves (bytes : List ℕ) (terms : List Tree) : Type 0 where
  pub first : Tree
  pub others : List Tree
  pub terms_are : terms ≡ first ∷ others
  pub bounded : IsTerm first
  pub rest : AreTerms others
  pub parts : bytes ≡ code_of first ++ row_code (row_of others)

-- Codes that are some begin with one.
pub halves : (bytes : List ℕ) (a : AreCodes bytes) → 1 ≤ length a.0 → Halves bytes a.0
halves bytes a h = by a.0 a.1 a.2 h
  where
    by : (ts : List Tree) → AreTerms ts → bytes ≡ row_code (row_of ts) → 1 ≤ length ts → Halves bytes ts
    by [] b e h = absurd (omega arith)
    by (t ∷ ts) b e h = record { first = t; others = ts; terms_are = refl; bounded = b.0; rest = b.1; parts = e ∙ more t ts }

module _ (bytes : List ℕ) (terms : List Tree) (h : Halves bytes terms) where
  -- The first one stands in front of the others.
  abbrev pub has_one : (x : List ℕ) × HasCodes 1 bytes x
  has_one = (
    row_code (row_of h.others),
    record {
      terms = h.first ∷ [];
      narrow = (h.bounded.narrow, tt);
      many = refl;
      parts = h.parts ∙ one_code h.first (row_code (row_of h.others));
    },
  )

  module _ (front behind : List ℕ) (k : (end : List ℕ) → HasCodes 1 bytes end → behind ≡ end)
      (f : front ≡ take (length bytes - length behind) bytes) where
    -- What is left are the codes of the others.
    pub behind_is : behind ≡ row_code (row_of h.others)
    behind_is = k has_one.0 has_one.1

    -- What stands before it is the first code.
    pub front_is : front ≡ code_of h.first
    front_is =
        let n : length bytes - length behind ≡ length (code_of h.first) =
        omega (arith, ap length h.parts, ap length behind_is, length-append (code_of h.first) (row_code (row_of h.others))) in
        f ∙ ap (λ (n : ℕ). take n bytes) n ∙ ap (take (length (code_of h.first))) h.parts
        ∙ take-append_seam (code_of h.first) (row_code (row_of h.others))

    -- So the terms are the first one and the others.
    pub split_is : (p : IsTermCode front) (b : AreCodes behind) → terms ≡ p.0 ∷ b.0
    split_is p b =
        h.terms_are ∙ ap (λ (x : Tree). x ∷ h.others) (sym (tree_is front p h.first h.bounded front_is))
        ∙ ap (λ (x : List Tree). p.0 ∷ x) (sym (terms_are behind b h.others h.rest behind_is))

-- ---- what a first byte tells

record Headed (b : ℕ) (inside : List ℕ) (terms : List Tree) : Type 0 where
  first : Tree
  others : List Tree
  terms_are : terms ≡ first ∷ others
  bounded : IsTerm first
  rest : AreTerms others
  body : List ℕ
  tagged_by : Tagged b body first
  inside_is : inside ≡ body ++ row_code (row_of others)

headed : (bytes inside : List ℕ) (b : ℕ) (a : AreCodes bytes) → bytes ≡ b ∷ inside → Headed b inside a.0
headed bytes inside b a e = by a.0 a.1 a.2
  where
    by : (ts : List Tree) → AreTerms ts → bytes ≡ row_code (row_of ts) → Headed b inside ts
    by [] h p = let no : b ∷ inside ≡ [] = sym e ∙ p ∙ sym none in cc
    by (t ∷ ts) h p =
        let q = begun t in
        let s = first_same b q.0 inside (q.1 ++ row_code (row_of ts))
        (sym e ∙ p ∙ more t ts ∙ ap (λ (x : List ℕ). x ++ row_code (row_of ts)) q.2) in
        record {
          first = t;
          others = ts;
          terms_are = refl;
          bounded = h.0;
          rest = h.1;
          body = q.1;
          tagged_by = tagged t b q.1 (ap (λ (x : ℕ). x ∷ q.1) s.0 ∙ sym q.2);
          inside_is = s.1;
        }

-- ---- tuples

-- Bytes that don't begin with 40 don't begin with a tuple.
pub no_tuple : (bytes : List ℕ) (a : AreCodes bytes) → ((inside : List ℕ) → bytes ≡ 0x40 ∷ inside → ⊥) → HasNoTuple a.0
unfolding code_of row_code
no_tuple bytes a n row others e =
    n ((four_bytes (size row) ++ row_code row) ++ row_code (row_of others)) (a.2 ∙ ap (λ (x : List Tree). row_code (row_of x)) e)

-- Nor do no bytes.
pub no_tuple_there : (bytes : List ℕ) (a : AreCodes bytes) → length bytes ≡ 0 → HasNoTuple a.0
no_tuple_there bytes a e = no_tuple bytes a (λ inside f. omega (arith, e, ap length f))

-- Nor do bytes with another first one.
pub other_tuple : (bytes inside : List ℕ) (b : ℕ) (a : AreCodes bytes) → bytes ≡ b ∷ inside → (b ≡ 0x40 → ⊥) → HasNoTuple a.0
other_tuple bytes inside b a e n = no_tuple bytes a (λ body f. n (first_same b 0x40 inside body (sym e ∙ f)).0)

pub record TupleFront (inside : List ℕ) (terms : List Tree) : Type 0 where
  pub row : Row
  pub others : List Tree
  pub terms_are : terms ≡ Tuple row ∷ others
  pub bounded : IsTerm (Tuple row)
  pub rest : AreTerms others
  pub parts : inside ≡ four_bytes (size row) ++ (row_code row ++ row_code (row_of others))

by_tuple : (b : ℕ) (inside body : List ℕ) (terms others : List Tree) (t : Tree) → terms ≡ t ∷ others → IsTerm t → AreTerms others → b ≡ 0x40
    → Tagged b body t → inside ≡ body ++ row_code (row_of others) → TupleFront inside terms
by_tuple b inside body terms others _ e h k n (is_tuple row g f) i = record {
  row = row;
  others = others;
  terms_are = e;
  bounded = h;
  rest = k;
  parts = i ∙ ap (λ (x : List ℕ). x ++ row_code (row_of others)) f ∙ append_assoc (four_bytes (size row)) (row_code row) (row_code (row_of others));
}
by_tuple b inside body terms others t e h k n g i = absurd (omega (arith, n, of_kind b body t g))

-- Bytes that begin with 40 begin with a tuple's code.
pub tuple_front : (bytes inside : List ℕ) (b : ℕ) (a : AreCodes bytes) → bytes ≡ b ∷ inside → b ≡ 0x40 → TupleFront inside a.0
tuple_front bytes inside b a e n =
    let h = headed bytes inside b a e in by_tuple b inside h.body a.0 h.others h.first h.terms_are h.bounded h.rest n h.tagged_by h.inside_is

-- ---- elements are terms

row_terms : (row : Row) (n : ℕ) → row_depth row ≤ n → n ≤ 192 → IsNarrowRow row → AreTerms (elements row)
row_terms Ends n d m h = tt
row_terms (More t row) n d m h = (record { shallow = omega arith; narrow = h.0 }, row_terms row n (omega arith) m h.1)

pub both_terms : (ts us : List Tree) → AreTerms ts → AreTerms us → AreTerms (ts ++ us)
both_terms [] us h k = k
both_terms (t ∷ ts) us h k = (h.0, both_terms ts us h.1 k)

both_codes : (row : Row) (us : List Tree) → row_code (row_of (elements row ++ us)) ≡ row_code row ++ row_code (row_of us)
unfolding row_code
both_codes Ends us = refl
both_codes (More t row) us = ap (λ (x : List ℕ). code_of t ++ x) (both_codes row us) ∙ sym (append_assoc (code_of t) (row_code row) (row_code (row_of us)))

module _ (inside : List ℕ) (terms : List Tree) (o : TupleFront inside terms) where
  -- Behind the first byte stands the size.
  abbrev pub size_there : (m : ℕ) × (y : List ℕ) × (m ≤ MOST_ELEMENTS) × (inside ≡ four_bytes m ++ y)
  size_there = (size o.row, row_code o.row ++ row_code (row_of o.others), o.bounded.narrow.0, o.parts)

  module _ (count : ℕ) (rest : List ℕ)
      (f : (n : ℕ) (y : List ℕ) → n ≤ MOST_ELEMENTS → inside ≡ four_bytes n ++ y → (count ≡ n) × (rest ≡ y)) where
    opened_terms : List Tree
    opened_terms = elements o.row ++ o.others

    -- Behind the size stand the elements and the other terms.
    pub opened : AreCodes rest
    unfolding opened_terms
    opened = (
      elements o.row ++ o.others,
      both_terms (elements o.row) o.others (row_terms o.row 191 (omega (arith, o.bounded.shallow)) (omega arith) o.bounded.narrow.1) o.rest,
      (f size_there.0 size_there.1 size_there.2 size_there.3).1 ∙ sym (both_codes o.row o.others),
    )

    -- So the elements stand in the tuple's place.
    pub opened_is : (b : AreCodes rest) → IsOpened terms count b.0
    unfolding opened
    opened_is b = record {
      items = elements o.row;
      others = o.others;
      terms_are = o.terms_are ∙ ap (λ (x : Row). Tuple x ∷ o.others) (sym (row_again o.row));
      many = (f size_there.0 size_there.1 size_there.2 size_there.3).0 ∙ sym (length_elements o.row);
      inside_is = terms_are rest b opened.0 opened.1 opened.2;
    }

-- ---- list cells

pub no_cell : (bytes : List ℕ) (a : AreCodes bytes) → ((inside : List ℕ) → bytes ≡ 0x70 ∷ inside → ⊥) → HasNoCell a.0
unfolding code_of row_code
no_cell bytes a n head tail others e =
    n ((code_of head ++ code_of tail) ++ row_code (row_of others)) (a.2 ∙ ap (λ (x : List Tree). row_code (row_of x)) e)

-- No bytes begin with no list cell.
pub no_cell_there : (bytes : List ℕ) (a : AreCodes bytes) → length bytes ≡ 0 → HasNoCell a.0
no_cell_there bytes a e = no_cell bytes a (λ inside f. omega (arith, e, ap length f))

-- Nor do bytes whose first one is not 70.
pub other_cell : (bytes inside : List ℕ) (b : ℕ) (a : AreCodes bytes) → bytes ≡ b ∷ inside → (b ≡ 0x70 → ⊥) → HasNoCell a.0
other_cell bytes inside b a e n = no_cell bytes a (λ body f. n (first_same b 0x70 inside body (sym e ∙ f)).0)

pub record CellFront (inside : List ℕ) (terms : List Tree) : Type 0 where
  pub head : Tree
  pub tail : Tree
  pub others : List Tree
  pub terms_are : terms ≡ Cons head tail ∷ others
  pub all : AreTerms (head ∷ tail ∷ others)
  pub parts : inside ≡ row_code (row_of (head ∷ tail ∷ others))

by_cell : (b : ℕ) (inside body : List ℕ) (terms others : List Tree) (t : Tree) → terms ≡ t ∷ others → IsTerm t → AreTerms others → b ≡ 0x70
    → Tagged b body t → inside ≡ body ++ row_code (row_of others) → CellFront inside terms
unfolding row_code
by_cell b inside body terms others _ e h k n (is_cons head tail g f) i = record {
  head = head;
  tail = tail;
  others = others;
  terms_are = e;
  all = (
    record { shallow = omega (arith, h.shallow); narrow = h.narrow.0 },
    (record { shallow = omega (arith, h.shallow); narrow = h.narrow.1 }, k),
  );
  parts = i ∙ ap (λ (x : List ℕ). x ++ row_code (row_of others)) f ∙ append_assoc (code_of head) (code_of tail) (row_code (row_of others));
}
by_cell b inside body terms others t e h k n g i = absurd (omega (arith, n, of_kind b body t g))

-- Bytes that begin with 70 begin with a list cell's code.
pub cell_front : (bytes inside : List ℕ) (b : ℕ) (a : AreCodes bytes) → bytes ≡ b ∷ inside → b ≡ 0x70 → CellFront inside a.0
cell_front bytes inside b a e n =
    let h = headed bytes inside b a e in by_cell b inside h.body a.0 h.others h.first h.terms_are h.bounded h.rest n h.tagged_by h.inside_is

module _ (inside : List ℕ) (terms : List Tree) (o : CellFront inside terms) where
  -- Behind the first byte stand the head, the tail and the other terms.
  pub cell_codes : AreCodes inside
  cell_codes = (o.head ∷ o.tail ∷ o.others, o.all, o.parts)

  -- So they stand in the cell's place.
  pub cell_is : (b : AreCodes inside) → IsOpenedCell terms b.0
  cell_is b = record {
    head = o.head;
    tail = o.tail;
    others = o.others;
    terms_are = o.terms_are;
    inside_is = terms_are inside b (o.head ∷ o.tail ∷ o.others) o.all o.parts;
  }

-- ---- a code in front

module _ (bytes code rest : List ℕ) (a : AreCodes bytes) (p : IsTermCode code) (e : bytes ≡ code ++ rest) where
  in_front : (h : Halves bytes a.0) → (p.0 ≡ h.first) × (rest ≡ row_code (row_of h.others))
  in_front h =
      same_code p.0 h.first rest (row_code (row_of h.others)) p.1.narrow h.bounded.narrow
      (ap (λ (x : List ℕ). x ++ rest) (sym p.2) ∙ sym e ∙ h.parts)

  some : 1 ≤ length a.0
  some = by a.0 a.2
    where
      by : (ts : List Tree) → bytes ≡ row_code (row_of ts) → 1 ≤ length ts
      by [] g =
          let q = begun p.0 in
          let no : code ++ rest ≡ [] = sym e ∙ g ∙ sym none in
          absurd (omega (arith, ap length no, length-append code rest, ap length p.2, ap length q.2))
      by (t ∷ ts) g = omega arith

  -- Behind a code that stands in front are the codes of the other terms.
  pub behind_codes : AreCodes rest
  behind_codes = let h = halves bytes a some in (h.others, h.rest, (in_front h).1)

  -- Its term is the first one.
  pub behind_terms : (b : AreCodes rest) (t : Tree) → IsTerm t → code ≡ code_of t → a.0 ≡ t ∷ b.0
  behind_terms b t i g =
      let h = halves bytes a some in
      h.terms_are ∙ ap (λ (x : Tree). x ∷ h.others) (sym (in_front h).0 ∙ tree_is code p t i g)
      ∙ ap (λ (x : List Tree). t ∷ x) (sym (terms_are rest b h.others h.rest (in_front h).1))

-- Where a code doesn't stand in front, the first term is another one.
pub not_in_front : (bytes code : List ℕ) (a : AreCodes bytes) → ((rest : List ℕ) → bytes ≡ code ++ rest → ⊥)
    → (t : Tree) → IsTerm t → code ≡ code_of t → BeginsOtherwise t a.0
unfolding row_code
not_in_front bytes code a e t h c others f =
    let g : bytes ≡ code ++ row_code (row_of others) =
    a.2 ∙ ap (λ (x : List Tree). row_code (row_of x)) f ∙ ap (λ (x : List ℕ). x ++ row_code (row_of others)) (sym c) in
    e (row_code (row_of others)) g
