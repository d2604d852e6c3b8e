-- Codes are skipped by their first byte.
use Rattle.std.proofs.Common.{◌≡◌, ℕ, suc, ◌≤◌, ◌<◌, ◌+◌, ◌-◌, pos, negsuc, true, false, List, [], ◌∷◌, ◌++◌, length, arith, refl, sym, ◌∙◌, ap, subst, append_assoc, append-nil, length-append, ◌⊎◌, ⊎_elim}
use Rattle.std.specs.Str.{encode_utf8_all}
use Rattle.ca_term.specs.declared.bounds.TheConstants.{MOST_ELEMENTS, MOST_CODE_POINTS}
use Rattle.ca_term.specs.Tree.{Tree, Row, Integer, Atom, Tuple, Nil, Cons, Binary, Ends, More, row_of, size, depth, elements, IsNarrowRow}
use Rattle.ca_term.specs.Code.{code_of, row_code, int_code, digits, complement, escaped, four_bytes}
use Rattle.ca_term.proofs.Rows.{length_elements}
use Rattle.ca_order.specs.KeyParts.{HasCodes}
use Rattle.ca_order.specs.Stuck.{IsRest}
use Rattle.ca_term.specs.Levels.{HasTerm}
use Rattle.ca_order.specs.Languages.{HasText, HasBytes, HasTuple, HasDigits}
use Rattle.ca_order.proofs.Turned.{length_turned}
use Rattle.ca_order.proofs.FirstBytes.{first_same, IsNoTag, no_tag, has_nil, HasCell, atom_rest, binary_rest, cons_rest, tuple_rest, pos_rest, neg_rest, terms_prefix_free}

-- A code has a first byte.
pub begun : (t : Tree) → (b : ℕ) × (z : List ℕ) × (code_of t ≡ b ∷ z)
unfolding code_of int_code
begun (Integer (pos n)) = (0x20 + length (digits n), digits n, refl)
begun (Integer (negsuc m)) = (0x1f - length (digits m), complement (digits m), refl)
begun (Atom text) = (0x30, escaped text, refl)
begun (Tuple row) = (0x40, four_bytes (size row) ++ row_code row, refl)
begun Nil = (0x60, [], refl)
begun (Cons h t) = (0x70, code_of h ++ code_of t, refl)
begun (Binary bytes) = (0x80, escaped bytes, refl)

-- ---- rows

more_code : (t : Tree) (ts : List Tree) (end : List ℕ) → row_code (row_of (t ∷ ts)) ++ end ≡ code_of t ++ (row_code (row_of ts) ++ end)
unfolding row_code
more_code t ts end = append_assoc (code_of t) (row_code (row_of ts)) end

two_more : (h t : Tree) (ts : List Tree) (end : List ℕ) → code_of h ++ (code_of t ++ (row_code (row_of ts) ++ end)) ≡ row_code (row_of (h ∷ t ∷ ts)) ++ end
two_more h t ts end = ap (λ x. code_of h ++ x) (sym (more_code t ts end)) ∙ sym (more_code h (t ∷ ts) end)

narrow_both : (row : Row) (ts : List Tree) → IsNarrowRow row → IsNarrowRow (row_of ts) → IsNarrowRow (row_of (elements row ++ ts))
narrow_both Ends ts h k = k
narrow_both (More t row) ts h k = (h.0, narrow_both row ts h.1 k)

row_both : (row : Row) (ts : List Tree) → row_code (row_of (elements row ++ ts)) ≡ row_code row ++ row_code (row_of ts)
unfolding row_code
row_both Ends ts = refl
row_both (More t row) ts = ap (λ x. code_of t ++ x) (row_both row ts) ∙ sym (append_assoc (code_of t) (row_code row) (row_code (row_of ts)))

-- ---- so many codes, the first of which begins with this byte

record Headed (n b : ℕ) (inside end : List ℕ) : Type 0 where
  others : List Tree
  narrow : IsNarrowRow (row_of others)
  many : length others ≡ n
  levels : ℕ
  body : List ℕ
  first : HasTerm (suc levels) (b ∷ body)
  inside_is : inside ≡ body ++ (row_code (row_of others) ++ end)

headed_by : (ts : List Tree) (n b : ℕ) (bytes inside end : List ℕ) → IsNarrowRow (row_of ts) → length ts ≡ n + 1 → bytes ≡ row_code (row_of ts) ++ end
    → bytes ≡ b ∷ inside → Headed n b inside end
headed_by [] n b bytes inside end h m p e = absurd (omega arith)
headed_by (t ∷ ts) n b bytes inside end h m p e =
    let q = begun t in
    let f : b ∷ inside ≡ q.0 ∷ q.1 ++ (row_code (row_of ts) ++ end) = sym e ∙ p ∙ more_code t ts end ∙ ap (λ x. x ++ (row_code (row_of ts) ++ end)) q.2 in
    let s = first_same b q.0 inside (q.1 ++ (row_code (row_of ts) ++ end)) f in
    record {
      others = ts;
      narrow = h.1;
      many = omega arith;
      levels = depth t;
      body = q.1;
      first = record { term = t; shallow = omega arith; narrow = h.0; code_is = ap (λ (x : ℕ). x ∷ q.1) s.0 ∙ sym q.2 };
      inside_is = s.1;
    }

-- One and more codes have at least one byte.
pub no_codes : (n : ℕ) (bytes end : List ℕ) → HasCodes (n + 1) bytes end → length bytes ≡ 0 → ⊥
no_codes n bytes end h e = by h.terms h.many h.parts
  where
    none : (t : Tree) (xs : List ℕ) → bytes ≡ code_of t ++ xs → ⊥
    none t xs p = let b = begun t in let q : bytes ≡ b.0 ∷ b.1 ++ xs = p ∙ ap (λ x. x ++ xs) b.2 in absurd (omega (arith, e, ap length q))

    by : (ts : List Tree) → length ts ≡ n + 1 → bytes ≡ row_code (row_of ts) ++ end → ⊥
    by [] m p = absurd (omega arith)
    by (t ∷ ts) m p = none t (row_code (row_of ts) ++ end) (p ∙ more_code t ts end)

module _ (n b : ℕ) (bytes inside end : List ℕ) (h : HasCodes (n + 1) bytes end) (e : bytes ≡ b ∷ inside) where
  hd : Headed n b inside end
  hd = headed_by h.terms n b bytes inside end h.narrow h.many h.parts e

  behind : List ℕ
  behind = row_code (row_of hd.others) ++ end

  -- what stands behind a first byte, in the language of what may follow it
  at : (tag : ℕ) (M : ℕ → List ℕ → Type 0) → b ≡ tag → ((l : ℕ) → IsRest (HasTerm (suc l)) (tag ∷ []) (M l)) → M hd.levels hd.body
  at tag M t q = (q hd.levels).into hd.body (subst (λ (x : ℕ). HasTerm (suc hd.levels) (x ∷ hd.body)) t hd.first)

  inside_by : (body : List ℕ) → hd.body ≡ body → inside ≡ body ++ behind
  unfolding behind
  inside_by body f = hd.inside_is ∙ ap (λ x. x ++ behind) f

  leaf : (rest : List ℕ) → rest ≡ behind → HasCodes (n + 0) rest end
  unfolding behind
  leaf rest f = record { terms = hd.others; narrow = hd.narrow; many = omega (arith, hd.many); parts = f }

  some_escaped : (b ≡ 0x30) ⊎ (b ≡ 0x80) → (bs : List ℕ) × (inside ≡ escaped bs ++ behind)
  some_escaped t = ⊎_elim
      (λ f. let w = at 0x30 (λ l. HasText MOST_CODE_POINTS) f atom_rest in (encode_utf8_all w.text, inside_by (escaped (encode_utf8_all w.text)) w.code_is))
      (λ f. let w = at 0x80 (λ l. HasBytes) f binary_rest in (w.inside, inside_by (escaped w.inside) w.code_is)) t

  -- Behind the first byte of an atom or a binary stand escaped bytes.
  pub escaped_there : (b ≡ 0x30) ⊎ (b ≡ 0x80) → (bs : List ℕ) × (y : List ℕ) × (inside ≡ escaped bs ++ y)
  escaped_there t = let a = some_escaped t in (a.0, behind, a.1)

  -- Behind escaped bytes stand the other codes.
  pub escaped_codes : (rest : List ℕ) → (b ≡ 0x30) ⊎ (b ≡ 0x80) → ((bs y : List ℕ) → inside ≡ escaped bs ++ y → rest ≡ y) → HasCodes (n + 0) rest end
  escaped_codes rest t f = let a = some_escaped t in leaf rest (f a.0 behind a.1)

  -- Behind the empty list stand the other codes.
  pub nil_codes : b ≡ 0x60 → HasCodes (n + 0) inside end
  nil_codes t =
      let first : HasTerm (suc hd.levels) (0x60 ∷ hd.body) = subst (λ (x : ℕ). HasTerm (suc hd.levels) (x ∷ hd.body)) t hd.first in
      leaf inside (inside_by [] (terms_prefix_free (suc hd.levels) (0x60 ∷ []) hd.body (has_nil (suc hd.levels) (omega arith)) first))

  -- Behind the first byte of a list cell stand a head, a tail and the other codes.
  pub cons_codes : b ≡ 0x70 → HasCodes (n + 2) inside end
  unfolding behind
  cons_codes t =
      let w = at 0x70 HasCell t cons_rest in
      record {
        terms = w.head ∷ w.tail ∷ hd.others;
        narrow = (w.head_narrow, (w.tail_narrow, hd.narrow));
        many = omega (arith, hd.many);
        parts = inside_by (code_of w.head ++ code_of w.tail) w.code_is ∙ append_assoc (code_of w.head) (code_of w.tail) behind
            ∙ two_more w.head w.tail hd.others end;
      }

  tuple_there : b ≡ 0x40 → (w : HasTuple hd.levels hd.body) × (inside ≡ four_bytes w.count ++ (w.elements ++ behind))
  tuple_there t =
      let w = at 0x40 HasTuple t tuple_rest in
      (w, inside_by (four_bytes w.count ++ w.elements) w.code_is ∙ append_assoc (four_bytes w.count) w.elements behind)

  -- Behind the first byte of a tuple stands its size.
  pub size_there : b ≡ 0x40 → (m : ℕ) × (y : List ℕ) × (m ≤ MOST_ELEMENTS) × (inside ≡ four_bytes m ++ y)
  size_there t = let w = tuple_there t in (w.0.count, w.0.elements ++ behind, w.0.fits, w.1)

  -- Behind a tuple's size stand its elements and the other codes.
  pub tuple_codes : (m : ℕ) (rest : List ℕ) → b ≡ 0x40 → ((k : ℕ) (y : List ℕ) → k ≤ MOST_ELEMENTS → inside ≡ four_bytes k ++ y → (m ≡ k) × (rest ≡ y))
      → HasCodes (n + m) rest end
  unfolding behind
  tuple_codes m rest t f =
      let w = tuple_there t in
      let r = w.0.row in
      let k = f w.0.count (w.0.elements ++ behind) w.0.fits w.1 in
      record {
        terms = elements r.row ++ hd.others;
        narrow = narrow_both r.row hd.others r.narrow hd.narrow;
        many = omega (arith, hd.many, k.0, r.many, length-append (elements r.row) hd.others, length_elements r.row);
        parts = k.1 ∙ ap (λ x. x ++ behind) r.code_is ∙ sym (append_assoc (row_code r.row) (row_code (row_of hd.others)) end)
            ∙ ap (λ x. x ++ end) (sym (row_both r.row hd.others));
      }

  pos_body : (0x20 ≤ b) × (b ≤ 0x28) → length hd.body ≡ b - 0x20
  pos_body t =
      let w = at (0x20 + (b - 0x20)) (λ l. HasDigits false (b - 0x20)) (omega (arith, t)) (λ l. pos_rest l (b - 0x20) (omega (arith, t))) in
      omega (arith, ap length w.code_is, w.many)

  neg_body : (0x17 ≤ b) × (b ≤ 0x1f) → length hd.body ≡ 0x1f - b
  neg_body t =
      let w = at (0x1f - (0x1f - b)) (λ l. HasDigits true (0x1f - b)) (omega (arith, t)) (λ l. neg_rest l (0x1f - b) (omega (arith, t))) in
      omega (arith, ap length w.code_is, length_turned true w.digits, w.many)

  -- Behind the first byte of an integer stand its bytes.
  pub pos_there : (0x20 ≤ b) × (b ≤ 0x28) → b - 0x20 ≤ length inside
  pos_there t = omega (arith, pos_body t, ap length (inside_by hd.body refl), length-append hd.body behind)

  -- Behind the bytes of an integer stand the other codes.
  pub pos_codes : (rest : List ℕ) → (0x20 ≤ b) × (b ≤ 0x28) → ((xs ys : List ℕ) → length xs ≡ b - 0x20 → inside ≡ xs ++ ys → rest ≡ ys)
      → HasCodes (n + 0) rest end
  pos_codes rest t f = leaf rest (f hd.body behind (pos_body t) (inside_by hd.body refl))

  -- Behind the first byte of a negative integer stand its bytes.
  pub neg_there : (0x17 ≤ b) × (b ≤ 0x1f) → 0x1f - b ≤ length inside
  neg_there t = omega (arith, neg_body t, ap length (inside_by hd.body refl), length-append hd.body behind)

  -- Behind the bytes of a negative integer stand the other codes.
  pub neg_codes : (rest : List ℕ) → (0x17 ≤ b) × (b ≤ 0x1f) → ((xs ys : List ℕ) → length xs ≡ 0x1f - b → inside ≡ xs ++ ys → rest ≡ ys)
      → HasCodes (n + 0) rest end
  neg_codes rest t f = leaf rest (f hd.body behind (neg_body t) (inside_by hd.body refl))

  -- A byte that begins no code begins none here.
  pub no_such_tag : ((l : ℕ) → IsNoTag l b) → ⊥
  no_such_tag t = no_tag (suc hd.levels) b hd.body (t (suc hd.levels)) hd.first

no_row : (end : List ℕ) → row_code (row_of []) ++ end ≡ end
unfolding row_code
no_row end = refl

-- Each code has at least one byte.
pub code_begun : (t : Tree) → 1 ≤ length (code_of t)
code_begun t = let b = begun t in omega (arith, ap length b.2)

pub row_longer : (ts : List Tree) → length ts ≤ length (row_code (row_of ts))
unfolding row_code
row_longer [] = omega arith
row_longer (t ∷ ts) = omega (arith, code_begun t, row_longer ts, length-append (code_of t) (row_code (row_of ts)))

-- So many codes have at least so many bytes.
pub codes_le : (n : ℕ) (bytes end : List ℕ) → HasCodes n bytes end → n ≤ length bytes
codes_le n bytes end h = omega (arith, h.many, row_longer h.terms, ap length h.parts, length-append (row_code (row_of h.terms)) end)

-- None and so many codes are so many.
pub from_none : (n : ℕ) (bytes end : List ℕ) → HasCodes (0 + n) bytes end → HasCodes n bytes end
from_none n bytes end h = let e : 0 + n ≡ n = omega arith in subst (λ (x : ℕ). HasCodes x bytes end) e h

-- Behind no codes stands the end.
pub codes_done : (n : ℕ) (bytes end : List ℕ) → n ≤ 0 → HasCodes n bytes end → bytes ≡ end
codes_done n bytes end z h = by h.terms h.many h.parts
  where
    none : row_code (row_of []) ++ end ≡ end
    none = no_row end

    by : (ts : List Tree) → length ts ≡ n → bytes ≡ row_code (row_of ts) ++ end → bytes ≡ end
    by [] m p = p ∙ none
    by (t ∷ ts) m p = absurd (omega arith)

-- Above 0, so many codes are one and one fewer.
pub codes_more : (n : ℕ) (bytes end : List ℕ) → 0 < n → HasCodes n bytes end → HasCodes (n - 1 + 1) bytes end
codes_more n bytes end h w = let e : n ≡ n - 1 + 1 = omega arith in subst (λ (x : ℕ). HasCodes x bytes end) e w

-- The codes of a row are those before an element, its own and those behind it.
pub row_app : (before : List Tree) (key : Tree) (after : List Tree)
    → row_code (row_of (before ++ key ∷ after)) ≡ row_code (row_of before) ++ (code_of key ++ row_code (row_of after))
unfolding row_code
row_app [] key after = refl
row_app (t ∷ before) key after =
    ap (λ x. code_of t ++ x) (row_app before key after) ∙ sym (append_assoc (code_of t) (row_code (row_of before)) (code_of key ++ row_code (row_of after)))

-- The code of a term is that of a row of it alone.
pub one_code : (key : Tree) (end : List ℕ) → code_of key ++ end ≡ row_code (row_of (key ∷ [])) ++ end
unfolding row_code
one_code key end = ap (λ x. x ++ end) (sym (append-nil (code_of key)))
