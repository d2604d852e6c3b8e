-- The key's place in an object's code.
use Rattle.std.proofs.Common.{◌≡◌, ℕ, zero, suc, ◌≤◌, ◌<◌, ◌+◌, ◌-◌, List, [], ◌∷◌, ◌++◌, length, arith, refl, sym, ◌∙◌, ap, subst, length-append}
use Rattle.std.specs.Prelude.{None}
use Rattle.ca_term.specs.declared.bounds.TheConstants.{MOST_ELEMENTS}
use Rattle.ca_term.specs.Tree.{Tree, Row, Integer, Atom, Nil, Cons, Binary, Tuple, Ends, More, row_of, size, IsTerm, IsNarrow, IsNarrowRow}
use Rattle.ca_term.specs.Code.{code_of, row_code, four_bytes}
use Rattle.ca_term.proofs.Codes.{same_code}
use Rattle.ca_order.specs.KeyParts.{HasCodes, IsKeyParts, IsKeyPlace, IsNoObject, IsSplit}
use Rattle.ca_order.specs.Languages.{IsTermCode}
use Rattle.ca_order.proofs.FirstBytes.{first_same, of_kind, Tagged, tagged, is_tuple}
use Rattle.ca_term.proofs.Lengths.{length_tuple}
use Rattle.ca_order.proofs.Skipped.{code_begun, row_app, one_code}

-- Where the code is no tuple's, its term has no key.
pub no_key : (code : List ℕ) (keypos : ℕ) → IsNoObject code → (t : Tree) → code ≡ code_of t → IsKeyParts t keypos None
no_key code keypos n (Integer m) e = refl
no_key code keypos n (Atom text) e = refl
no_key code keypos n (Tuple row) e = absurd (n row e)
no_key code keypos n Nil e = refl
no_key code keypos n (Cons head tail) e = refl
no_key code keypos n (Binary bytes) e = refl

-- The code of a tuple begins with the byte 40.
pub no_object : (code inside : List ℕ) (b : ℕ) → code ≡ b ∷ inside → (b ≡ 0x40 → ⊥) → IsNoObject code
unfolding code_of
no_object code inside b e n row f = n (first_same b 0x40 inside (four_bytes (size row) ++ row_code row) (sym e ∙ f)).0

-- No code is empty.
pub no_empty_code : (t : Tree) (code : List ℕ) → length code ≡ 0 → code ≡ code_of t → ⊥
no_empty_code t code e f = omega (arith, e, ap length f, code_begun t)

-- So no tuple has an empty code.
pub no_empty_object : (code : List ℕ) → length code ≡ 0 → IsNoObject code
no_empty_object code e row f = no_empty_code (Tuple row) code e f

-- a tuple by what stands behind the first byte of its code
pub record IsObject (code inside : List ℕ) : Type 0 where
  pub row : Row
  pub bounded : IsTerm (Tuple row)
  pub code_is : code ≡ code_of (Tuple row)
  pub inside_is : inside ≡ four_bytes (size row) ++ row_code row

object_by : (t : Tree) (b : ℕ) (code inside : List ℕ) → IsTerm t → code ≡ code_of t → b ≡ 0x40 → Tagged b inside t → IsObject code inside
object_by _ b code inside h c n (is_tuple row e f) = record { row = row; bounded = h; code_is = c; inside_is = f }
object_by t b code inside h c n g = absurd (omega (arith, n, of_kind b inside t g))

-- A code that begins with the byte 40 is a tuple's.
pub object : (code inside : List ℕ) (b : ℕ) → IsTermCode code → code ≡ b ∷ inside → b ≡ 0x40 → IsObject code inside
object code inside b c e n = object_by c.0 b code inside c.1 c.2 n (tagged c.0 b inside (sym e ∙ c.2))

-- The size of a tuple stands behind its first byte.
pub size_fits : (code inside : List ℕ) (o : IsObject code inside) → (n : ℕ) × (rest : List ℕ) × (n ≤ MOST_ELEMENTS) × (inside ≡ four_bytes n ++ rest)
size_fits code inside o = (size o.row, row_code o.row, o.bounded.narrow.0, o.inside_is)

-- What stands in the four bytes of a tuple's size, and behind them, is its size and its elements.
pub split : (code inside elements : List ℕ) (count : ℕ) (o : IsObject code inside)
    → ((n : ℕ) (rest : List ℕ) → n ≤ MOST_ELEMENTS → inside ≡ four_bytes n ++ rest → (count ≡ n) × (elements ≡ rest)) → IsSplit code count elements
split code inside elements count o f =
    let s = f (size o.row) (row_code o.row) o.bounded.narrow.0 o.inside_is in
    record { row = o.row; bounded = o.bounded; code_is = o.code_is; count_is = s.0; elements_is = s.1 }

-- A tuple is the only term of its code.
pub same_term : (code elements : List ℕ) (count : ℕ) (s : IsSplit code count elements) (t : Tree) → IsTerm t → code ≡ code_of t → Tuple s.row ≡ t
same_term code elements count s t h e = (same_code (Tuple s.row) t [] [] s.bounded.narrow h.narrow (ap (λ x. x ++ []) (sym s.code_is ∙ e))).0

-- A tuple of fewer elements has no key there.
pub few : (code elements : List ℕ) (count keypos : ℕ) → IsSplit code count elements → 1 ≤ keypos → count ≤ keypos - 1 → (t : Tree) → IsTerm t
    → code ≡ code_of t → IsKeyParts t keypos None
few code elements count keypos s p h t b f =
    subst (λ (x : Tree). IsKeyParts x keypos None) (same_term code elements count s t b f) (let lt : size s.row < keypos = omega (arith, s.count_is) in lt)

-- A tuple's code is five bytes longer than the codes of its elements.
pub object_length : (code elements : List ℕ) (count : ℕ) → IsSplit code count elements → length code ≡ 5 + length elements
object_length code elements count s = omega (arith, ap length s.code_is, length_tuple s.row, ap length s.elements_is)

-- ---- the elements before and behind one

pub record Parted (row : Row) (k : ℕ) : Type 0 where
  pub before : List Tree
  pub key : Tree
  pub after : List Tree
  pub row_is : row ≡ row_of (before ++ key ∷ after)
  pub place : length before ≡ k
  pub narrow_before : IsNarrowRow (row_of before)
  pub narrow_key : IsNarrow key
  pub narrow_after : IsNarrowRow (row_of after)

list_of : (row : Row) → IsNarrowRow row → (ts : List Tree) × (row ≡ row_of ts) × IsNarrowRow (row_of ts)
list_of Ends h = ([], refl, tt)
list_of (More t row) h = let r = list_of row h.1 in (t ∷ r.0, ap (More t) r.1, (h.0, r.2))

parted : (row : Row) (k : ℕ) → k < size row → IsNarrowRow row → Parted row k
parted Ends k h n = absurd (omega arith)
parted (More t row) zero h n =
    let r = list_of row n.1 in
    record { before = []; key = t; after = r.0; row_is = ap (More t) r.1; place = refl; narrow_before = tt; narrow_key = n.0; narrow_after = r.2 }
parted (More t row) (suc k) h n =
    let r = parted row k (omega arith) n.1 in
    record {
      before = t ∷ r.before;
      key = r.key;
      after = r.after;
      row_is = ap (More t) r.row_is;
      place = omega (arith, r.place);
      narrow_before = (n.0, r.narrow_before);
      narrow_key = r.narrow_key;
      narrow_after = r.narrow_after;
    }

module _ (code elements : List ℕ) (count keypos : ℕ) (s : IsSplit code count elements) (h : 1 ≤ keypos) (l : keypos - 1 < count) where
  -- The key stands between the elements before it and those behind it.
  pub pd : Parted s.row (keypos - 1)
  pd = parted s.row (keypos - 1) (omega (arith, s.count_is)) s.bounded.narrow.1

  elements_are : elements ≡ row_code (row_of pd.before) ++ (code_of pd.key ++ row_code (row_of pd.after))
  elements_are = s.elements_is ∙ ap row_code pd.row_is ∙ row_app pd.before pd.key pd.after

  -- In front of the key stand the codes of the elements before it.
  pub key_codes : HasCodes (keypos - 1) elements (code_of pd.key ++ row_code (row_of pd.after))
  key_codes = record { terms = pd.before; narrow = pd.narrow_before; many = pd.place; parts = elements_are }

  -- Behind the key stand the codes of the elements behind it.
  pub behind_codes : (key : List ℕ) → key ≡ code_of pd.key ++ row_code (row_of pd.after) → HasCodes 1 key (row_code (row_of pd.after))
  behind_codes key f = record { terms = pd.key ∷ []; narrow = (pd.narrow_key, tt); many = refl; parts = f ∙ one_code pd.key (row_code (row_of pd.after)) }

  -- The key's code stands where it is told.
  pub place_is : (key behind : List ℕ) → key ≡ code_of pd.key ++ row_code (row_of pd.after) → behind ≡ row_code (row_of pd.after)
      → IsKeyPlace s.row keypos (length code - length key) (length code - length behind)
  place_is key behind f g = record {
    before = pd.before;
    key = pd.key;
    after = pd.after;
    row_is = pd.row_is;
    place = omega (arith, pd.place);
    start_is = omega (
      arith,
      object_length code elements count s,
      ap length elements_are,
      ap length f,
      length-append (row_code (row_of pd.before)) (code_of pd.key ++ row_code (row_of pd.after)),
    );
    end_is = omega (
      arith,
      object_length code elements count s,
      ap length elements_are,
      ap length f,
      ap length g,
      length-append (row_code (row_of pd.before)) (code_of pd.key ++ row_code (row_of pd.after)),
      length-append (code_of pd.key) (row_code (row_of pd.after)),
    );
  }
