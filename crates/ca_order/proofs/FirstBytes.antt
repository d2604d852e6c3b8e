-- What the first byte of a code says, and what may follow it.
use Rattle.std.proofs.Common.{◌≡◌, ℕ, zero, suc, ◌≤◌, ◌+◌, ◌-◌, pos, negsuc, true, false, List, [], ◌∷◌, ◌++◌, length, arith, refl, sym, ◌∙◌, ap, subst}
use Rattle.std.specs.Str.{IsUtf8, chars, encode_utf8_all}
use Rattle.std.proofs.lemmas.Str.{chars-encodes}
use Rattle.ca_term.specs.declared.bounds.TheConstants.{MOST_CODE_POINTS}
use Rattle.ca_term.specs.Tree.{Tree, Row, Integer, Atom, Tuple, Nil, Cons, Binary, Ends, More, size, depth, row_depth, IsNarrow, IsNarrowRow}
use Rattle.ca_term.specs.Code.{code_of, row_code, int_code, digits, complement, escaped, four_bytes}
use Rattle.ca_term.proofs.Codes.{same_code, prefix_free}
use Rattle.ca_term.proofs.Digits.{digits_shorter}
use Rattle.ca_term.proofs.DigitBytes.{digits_number, number_word, are_digits}
use Rattle.ca_term.proofs.Grammar.{deep, signed_pos, signed_neg}
use Rattle.ca_term.proofs.IntCodes.{word}
use Rattle.ca_term.specs.Grammar.{AreDigits, number}
use Rattle.ca_term.specs.Levels.{HasTerm, HasRow}
use Rattle.ca_order.specs.Languages.{HasTuple, HasDigits, HasBytes, HasText}
use Rattle.ca_order.specs.Stuck.{IsRest}
use Rattle.ca_order.proofs.Starts.{IsPrefixFree, Begins}

-- a first byte, and what stands behind it, by the kind of the term
pub data Tagged (b : ℕ) (x : List ℕ) : Tree → Type 0 where
  is_pos : (n : ℕ) → b ≡ 0x20 + length (digits n) → x ≡ digits n → Tagged b x (Integer (pos n))
  is_neg : (m : ℕ) → b ≡ 0x1f - length (digits m) → x ≡ complement (digits m) → Tagged b x (Integer (negsuc m))
  is_atom : (text : List ℕ) → b ≡ 0x30 → x ≡ escaped text → Tagged b x (Atom text)
  is_tuple : (row : Row) → b ≡ 0x40 → x ≡ four_bytes (size row) ++ row_code row → Tagged b x (Tuple row)
  is_nil : b ≡ 0x60 → x ≡ [] → Tagged b x Nil
  is_cons : (head tail : Tree) → b ≡ 0x70 → x ≡ code_of head ++ code_of tail → Tagged b x (Cons head tail)
  is_binary : (bytes : List ℕ) → b ≡ 0x80 → x ≡ escaped bytes → Tagged b x (Binary bytes)

-- Of equal lists the first items are equal, and what stands behind them.
pub first_same : (a b : ℕ) (xs ys : List ℕ) → a ∷ xs ≡ b ∷ ys → (a ≡ b) × (xs ≡ ys)
first_same a b xs ys e = (cc, cc)

-- The first byte of a code tells its kind, and what stands behind it.
pub tagged : (t : Tree) (b : ℕ) (x : List ℕ) → b ∷ x ≡ code_of t → Tagged b x t
unfolding code_of int_code
tagged (Integer (pos n)) b x e = let p = first_same b (0x20 + length (digits n)) x (digits n) e in is_pos n p.0 p.1
tagged (Integer (negsuc m)) b x e = let p = first_same b (0x1f - length (digits m)) x (complement (digits m)) e in is_neg m p.0 p.1
tagged (Atom text) b x e = let p = first_same b 0x30 x (escaped text) e in is_atom text p.0 p.1
tagged (Tuple row) b x e = let p = first_same b 0x40 x (four_bytes (size row) ++ row_code row) e in is_tuple row p.0 p.1
tagged Nil b x e = let p = first_same b 0x60 x [] e in is_nil p.0 p.1
tagged (Cons head tail) b x e = let p = first_same b 0x70 x (code_of head ++ code_of tail) e in is_cons head tail p.0 p.1
tagged (Binary bytes) b x e = let p = first_same b 0x80 x (escaped bytes) e in is_binary bytes p.0 p.1

-- the first bytes of a kind
abbrev pub IsOfKind : Tree → ℕ → Type 0
IsOfKind (Integer (pos n)) b = (0x20 ≤ b) × (b ≤ 0x28)
IsOfKind (Integer (negsuc m)) b = (0x17 ≤ b) × (b ≤ 0x1f)
IsOfKind (Atom text) b = b ≡ 0x30
IsOfKind (Tuple row) b = b ≡ 0x40
IsOfKind Nil b = b ≡ 0x60
IsOfKind (Cons head tail) b = b ≡ 0x70
IsOfKind (Binary bytes) b = b ≡ 0x80

-- The first byte of a code is one of its kind.
pub of_kind : (b : ℕ) (x : List ℕ) (t : Tree) → Tagged b x t → IsOfKind t b
of_kind b x _ (is_pos n e f) = (omega (arith, e), omega (arith, e, digits_shorter n))
of_kind b x _ (is_neg m e f) = (omega (arith, e, digits_shorter m), omega (arith, e))
of_kind b x _ (is_atom text e f) = e
of_kind b x _ (is_tuple row e f) = e
of_kind b x _ (is_nil e f) = e
of_kind b x _ (is_cons head tail e f) = e
of_kind b x _ (is_binary bytes e f) = e

-- ---- atoms

text_of : (text : List ℕ) (l : ℕ) → IsNarrow (Atom text) → HasText MOST_CODE_POINTS (escaped text)
text_of text l n =
    let u = n.0 in
    let same : chars text ≡ u.0 = ap chars (sym u.1.1) ∙ chars-encodes u.0 u.1.0 in
    record { text = u.0; are_scalars = u.1.0; short = omega (arith, n.1, ap length same); code_is = ap escaped (sym u.1.1) }

atom_by : (x : List ℕ) (t : Tree) → IsNarrow t → Tagged 0x30 x t → HasText MOST_CODE_POINTS x
atom_by x _ n (is_atom text e f) = subst (HasText MOST_CODE_POINTS) (sym f) (text_of text 0 n)
atom_by x t n g = absurd (omega (arith, of_kind 0x30 x t g))

-- Behind the first byte of an atom's code stands an escaped text.
pub atom_rest : (l : ℕ) → IsRest (HasTerm (suc l)) (0x30 ∷ []) (HasText MOST_CODE_POINTS)
unfolding code_of
atom_rest l = record {
  into = λ x h. atom_by x h.term h.narrow (tagged h.term 0x30 x h.code_is);
  back = λ x h.
      let u : IsUtf8 (encode_utf8_all h.text) = (h.text, (h.are_scalars, refl)) in
      record {
        term = Atom (encode_utf8_all h.text);
        shallow = omega arith;
        narrow = (u, omega (arith, h.short, ap length (chars-encodes h.text h.are_scalars)));
        code_is = ap (λ (y : List ℕ). 0x30 ∷ y) h.code_is;
      };
}

-- ---- binaries

binary_by : (x : List ℕ) (t : Tree) → IsNarrow t → Tagged 0x80 x t → HasBytes x
binary_by x _ n (is_binary bytes e f) = record { inside = bytes; are_bytes = n; code_is = f }
binary_by x t n g = absurd (omega (arith, of_kind 0x80 x t g))

-- Behind the first byte of a binary's code stand escaped bytes.
pub binary_rest : (l : ℕ) → IsRest (HasTerm (suc l)) (0x80 ∷ []) HasBytes
unfolding code_of
binary_rest l = record {
  into = λ x h. binary_by x h.term h.narrow (tagged h.term 0x80 x h.code_is);
  back = λ x h. record { term = Binary h.inside; shallow = omega arith; narrow = h.are_bytes; code_is = ap (λ (y : List ℕ). 0x80 ∷ y) h.code_is };
}

-- ---- integers

pos_by : (len : ℕ) (x : List ℕ) (t : Tree) → len ≤ 8 → IsNarrow t → Tagged (0x20 + len) x t → HasDigits false len x
pos_by len x _ l n (is_pos k e f) = record { digits = digits k; are_digits = are_digits k (word (pos k) n); many = omega (arith, e); code_is = f }
pos_by len x t l n g = absurd (omega (arith, of_kind (0x20 + len) x t g))

neg_by : (len : ℕ) (x : List ℕ) (t : Tree) → len ≤ 8 → IsNarrow t → Tagged (0x1f - len) x t → HasDigits true len x
neg_by len x _ l n (is_neg k e f) =
    record { digits = digits k; are_digits = are_digits k (word (negsuc k) n); many = omega (arith, e, digits_shorter k); code_is = f }
neg_by len x t l n g = absurd (omega (arith, of_kind (0x1f - len) x t g))

-- the code of the integer with these digits
pub code_pos : (ds : List ℕ) (len : ℕ) → AreDigits ds → length ds ≡ len → (0x20 + len) ∷ ds ≡ code_of (Integer (pos (number ds)))
unfolding code_of int_code
code_pos ds len h e = rw (digits_number ds h, ← e) refl

-- A tag and the complement of these digits are the code of a negative integer.
pub code_neg : (ds : List ℕ) (len : ℕ) → AreDigits ds → length ds ≡ len → (0x1f - len) ∷ complement ds ≡ code_of (Integer (negsuc (number ds)))
unfolding code_of int_code
code_neg ds len h e = rw (digits_number ds h, ← e) refl

-- Behind the first byte of an integer's code stand its digits.
pub pos_rest : (l len : ℕ) → len ≤ 8 → IsRest (HasTerm (suc l)) ((0x20 + len) ∷ []) (HasDigits false len)
pos_rest l len k = record {
  into = λ x h. pos_by len x h.term k h.narrow (tagged h.term (0x20 + len) x h.code_is);
  back = λ x h. record {
    term = Integer (pos (number h.digits));
    shallow = omega arith;
    narrow = signed_pos (number h.digits) (number_word h.digits h.are_digits);
    code_is = ap (λ (y : List ℕ). (0x20 + len) ∷ y) h.code_is ∙ code_pos h.digits len h.are_digits h.many;
  };
}

-- Behind the first byte of a negative integer's code stands the complement of its digits.
pub neg_rest : (l len : ℕ) → len ≤ 8 → IsRest (HasTerm (suc l)) ((0x1f - len) ∷ []) (HasDigits true len)
neg_rest l len k = record {
  into = λ x h. neg_by len x h.term k h.narrow (tagged h.term (0x1f - len) x h.code_is);
  back = λ x h. record {
    term = Integer (negsuc (number h.digits));
    shallow = omega arith;
    narrow = signed_neg (number h.digits) (number_word h.digits h.are_digits);
    code_is = ap (λ (y : List ℕ). (0x1f - len) ∷ y) h.code_is ∙ code_neg h.digits len h.are_digits h.many;
  };
}

-- ---- list cells

-- a head, and a tail on the level of the cell
pub record HasCell (levels : ℕ) (bytes : List ℕ) : Type 0 where
  pub head : Tree
  pub tail : Tree
  pub head_shallow : depth head ≤ levels
  pub tail_shallow : depth tail ≤ suc levels
  pub head_narrow : IsNarrow head
  pub tail_narrow : IsNarrow tail
  pub code_is : bytes ≡ code_of head ++ code_of tail

cons_by : (l : ℕ) (x : List ℕ) (t : Tree) → depth t ≤ suc l → IsNarrow t → Tagged 0x70 x t → HasCell l x
cons_by l x _ d n (is_cons head tail e f) =
    record { head = head; tail = tail; head_shallow = omega arith; tail_shallow = omega arith; head_narrow = n.0; tail_narrow = n.1; code_is = f }
cons_by l x t d n g = absurd (omega (arith, of_kind 0x70 x t g))

-- Behind the first byte of a list cell's code stand a head and a tail.
pub cons_rest : (l : ℕ) → IsRest (HasTerm (suc l)) (0x70 ∷ []) (HasCell l)
unfolding code_of
cons_rest l = record {
  into = λ x h. cons_by l x h.term h.shallow h.narrow (tagged h.term 0x70 x h.code_is);
  back = λ x h. record {
    term = Cons h.head h.tail;
    shallow = omega (arith, h.head_shallow, h.tail_shallow);
    narrow = (h.head_narrow, h.tail_narrow);
    code_is = ap (λ (y : List ℕ). 0x70 ∷ y) h.code_is;
  };
}

-- Behind the code of a head stands the code of a tail.
pub tail_rest : (l : ℕ) (head : Tree) → depth head ≤ l → IsNarrow head → IsRest (HasCell l) (code_of head) (HasTerm (suc l))
tail_rest l head d n = record {
  into = λ x h. let s = same_code head h.head x (code_of h.tail) n h.head_narrow h.code_is in
      record { term = h.tail; shallow = h.tail_shallow; narrow = h.tail_narrow; code_is = s.1 };
  back = λ x h. record {
    head = head;
    tail = h.term;
    head_shallow = d;
    tail_shallow = h.shallow;
    head_narrow = n;
    tail_narrow = h.narrow;
    code_is = ap (λ (y : List ℕ). code_of head ++ y) h.code_is;
  };
}

-- No code of a term begins another one's.
pub terms_prefix_free : (l : ℕ) → IsPrefixFree (HasTerm l)
terms_prefix_free l u rest h k =
    let e : code_of h.term ++ rest ≡ code_of k.term = ap (λ (x : List ℕ). x ++ rest) (sym h.code_is) ∙ k.code_is in
    (prefix_free h.term k.term rest h.narrow k.narrow e).1

-- A head and a tail begin with the code of a term.
pub cell_begins : (l : ℕ) (x : List ℕ) → HasCell l x → Begins (HasTerm l) x
cell_begins l x h =
    record {
      word = code_of h.head;
      rest = code_of h.tail;
      parts = h.code_is;
      is_word = record { term = h.head; shallow = h.head_shallow; narrow = h.head_narrow; code_is = refl };
    }

-- The code of a term goes on to a head and a tail.
pub cell_goes_on : (l : ℕ) (u : List ℕ) → HasTerm l u → (v : List ℕ) × HasCell l (u ++ v)
cell_goes_on l u h = (
  code_of Nil,
  record {
    head = h.term;
    tail = Nil;
    head_shallow = h.shallow;
    tail_shallow = omega arith;
    head_narrow = h.narrow;
    tail_narrow = tt;
    code_is = ap (λ (x : List ℕ). x ++ code_of Nil) h.code_is;
  },
)

-- ---- tuples

tuple_by : (l : ℕ) (x : List ℕ) (t : Tree) → depth t ≤ suc l → IsNarrow t → Tagged 0x40 x t → HasTuple l x
tuple_by l x _ d n (is_tuple row e f) = record {
  count = size row;
  fits = n.0;
  elements = row_code row;
  row = record { row = row; shallow = omega arith; narrow = n.1; many = refl; code_is = refl };
  code_is = f;
}
tuple_by l x t d n g = absurd (omega (arith, of_kind 0x40 x t g))

-- Behind the first byte of a tuple's code stand a size and elements.
pub tuple_rest : (l : ℕ) → IsRest (HasTerm (suc l)) (0x40 ∷ []) (HasTuple l)
unfolding code_of
tuple_rest l = record {
  into = λ x h. tuple_by l x h.term h.shallow h.narrow (tagged h.term 0x40 x h.code_is);
  back = λ x h. record {
    term = Tuple h.row.row;
    shallow = omega (arith, h.row.shallow);
    narrow = (omega (arith, h.row.many, h.fits), h.row.narrow);
    code_is = ap (λ (y : List ℕ). 0x40 ∷ y) (h.code_is ∙ rw (h.row.many, h.row.code_is) refl);
  };
}

row_first : (l n : ℕ) (row : Row) → row_depth row ≤ l → IsNarrowRow row → size row ≡ suc n → (x : List ℕ) → x ≡ row_code row → Begins (HasTerm l) x
unfolding row_code
row_first l n Ends d k e x f = absurd (omega arith)
row_first l n (More t row) d k e x f =
    record { word = code_of t; rest = row_code row; parts = f; is_word = record { term = t; shallow = omega arith; narrow = k.0; code_is = refl } }

-- Codes of one and more terms begin with the code of a term.
pub row_begins : (l n : ℕ) (x : List ℕ) → HasRow l (suc n) x → Begins (HasTerm l) x
row_begins l n x h = row_first l n h.row h.shallow h.narrow h.many x h.code_is

row_after : (l n : ℕ) (t : Tree) (row : Row) (x : List ℕ) → IsNarrow t → row_depth row ≤ l → IsNarrowRow row → size row ≡ suc n → code_of t ++ x ≡ row_code row
    → HasRow l n x
unfolding row_code
row_after l n t Ends x h d k e f = absurd (omega arith)
row_after l n t (More u row) x h d k e f =
    let s = same_code t u x (row_code row) h k.0 f in
    record { row = row; shallow = omega arith; narrow = k.1; many = omega arith; code_is = s.1 }

-- Behind the code of the first of some terms stand the codes of one fewer.
pub row_rest : (l n : ℕ) (t : Tree) → depth t ≤ l → IsNarrow t → IsRest (HasRow l (suc n)) (code_of t) (HasRow l n)
unfolding row_code
row_rest l n t d k = record {
  into = λ x h. row_after l n t h.row x k h.shallow h.narrow h.many h.code_is;
  back = λ x h. record {
    row = More t h.row;
    shallow = omega (arith, h.shallow);
    narrow = (k, h.narrow);
    many = omega (arith, h.many);
    code_is = ap (λ (y : List ℕ). code_of t ++ y) h.code_is;
  };
}

abbrev nils : ℕ → Row
nils zero = Ends
nils (suc n) = More Nil (nils n)

-- a row of empty lists
pub nil_row : (l n : ℕ) → 1 ≤ l → (v : List ℕ) × HasRow l n v
nil_row l n h = (row_code (nils n), record { row = nils n; shallow = low n; narrow = thin n; many = long n; code_is = refl })
  where
    low : (n : ℕ) → row_depth (nils n) ≤ l
    low zero = omega arith
    low (suc n) = omega (arith, low n)

    thin : (n : ℕ) → IsNarrowRow (nils n)
    thin zero = tt
    thin (suc n) = (tt, thin n)

    long : (n : ℕ) → size (nils n) ≡ n
    long zero = refl
    long (suc n) = omega (arith, long n)

-- The code of a term goes on to the codes of so many more.
pub row_goes_on : (l n : ℕ) (u : List ℕ) → HasTerm l u → (v : List ℕ) × HasRow l (suc n) (u ++ v)
unfolding row_code
row_goes_on l n u h =
    let v = nil_row l n (omega (arith, deep h.term, h.shallow)) in (
      v.0,
      record {
        row = More h.term v.1.row;
        shallow = omega (arith, h.shallow, v.1.shallow);
        narrow = (h.narrow, v.1.narrow);
        many = omega (arith, v.1.many);
        code_is = rw (h.code_is, v.1.code_is) refl;
      },
    )

-- ---- bytes that begin no code

pub record IsNoTag (levels b : ℕ) : Type 0 where
  pub no_int : 0x17 ≤ b → b ≤ 0x28 → ⊥
  pub no_atom : b ≡ 0x30 → ⊥
  pub no_tuple : b ≡ 0x40 → ⊥
  pub no_nil : b ≡ 0x60 → ⊥
  pub no_cons : 2 ≤ levels → b ≡ 0x70 → ⊥
  pub no_binary : b ≡ 0x80 → ⊥

no_tag_by : (levels b : ℕ) (x : List ℕ) (t : Tree) → depth t ≤ levels → Tagged b x t → IsNoTag levels b → ⊥
no_tag_by levels b x _ d (is_pos k e f) n = n.no_int (omega (arith, e)) (omega (arith, e, digits_shorter k))
no_tag_by levels b x _ d (is_neg k e f) n = n.no_int (omega (arith, e, digits_shorter k)) (omega (arith, e))
no_tag_by levels b x _ d (is_atom text e f) n = n.no_atom e
no_tag_by levels b x _ d (is_tuple row e f) n = n.no_tuple e
no_tag_by levels b x _ d (is_nil e f) n = n.no_nil e
no_tag_by levels b x _ d (is_cons head tail e f) n = n.no_cons (omega (arith, deep head)) e
no_tag_by levels b x _ d (is_binary bytes e f) n = n.no_binary e

-- No code begins with a byte that is no tag.
pub no_tag : (levels b : ℕ) (x : List ℕ) → IsNoTag levels b → HasTerm levels (b ∷ x) → ⊥
no_tag levels b x n h = no_tag_by levels b x h.term h.shallow (tagged h.term b x h.code_is) n

-- The empty list has a code at any level.
pub has_nil : (levels : ℕ) → 1 ≤ levels → HasTerm levels (0x60 ∷ [])
unfolding code_of
has_nil levels h = record { term = Nil; shallow = h; narrow = tt; code_is = refl }
