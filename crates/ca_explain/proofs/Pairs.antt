-- The pairs that a store map may hold are those of the objects that fit.
use Rattle.std.proofs.Common.{◌≡◌, ℕ, ◌≤◌, ◌<◌, ◌+◌, ◌-◌, true, false, List, ◌∷◌, ◌++◌, length, arith, refl, sym, ◌∙◌, ap, subst}
use Rattle.std.specs.Prelude.{slice_index_or, nat_le}
use Rattle.std.proofs.lemmas.Bool.Decides.{nat_tests}
use Rattle.ca_term.specs.declared.bounds.TheConstants.{MOST_CODE_BYTES, MOST_DEPTH}
use Rattle.ca_term.specs.Tree.{Tree, Row, Integer, Atom, Tuple, Nil, Cons, Binary, More, IsTerm, IsNarrowRow, elements, size, row_depth}
use Rattle.ca_term.specs.Code.{code_of, row_code, four_bytes}
use Rattle.ca_term.specs.Grammar.{IsCodeWithin}
use Rattle.ca_term.specs.Object.{key_of}
use Rattle.ca_term.proofs.Grammar.{code_within, codes_within, term_within, row_within}
use Rattle.ca_ets.specs.OrderedMap.{IsEntry}
use Rattle.ca_model.specs.StoreMap.{Pair, IsPair}
use Rattle.ca_explain.specs.Stands.{pair_of}
use Rattle.ca_explain.specs.Pairs.{HasObject, PairsAreObjects}
use Rattle.ca_explain.proofs.Splits.{joined, split, around_code, joined_size, joined_depth, joined_narrow, parts_narrow, element_at}

tuple_code : (row : Row) → code_of (Tuple row) ≡ 0x40 ∷ four_bytes (size row) ++ row_code row
unfolding code_of
tuple_code row = refl

-- The code of a tuple by those of its elements before its key, its key's and those behind it.
tuple_parts : (r : Row) (t : Tree) (s : Row)
    → code_of (Tuple (joined r (More t s))) ≡ 0x40 ∷ four_bytes (size r + 1 + size s) ++ (row_code r ++ (code_of t ++ row_code s))
tuple_parts r t s =
    let many : size (joined r (More t s)) ≡ size r + 1 + size s = omega (arith, joined_size r (More t s)) in
    tuple_code (joined r (More t s)) ∙ ap (λ (n : ℕ). 0x40 ∷ four_bytes n ++ row_code (joined r (More t s))) many
    ∙ ap (λ (x : List ℕ). 0x40 ∷ four_bytes (size r + 1 + size s) ++ x) (around_code r t s)

key_at : (p : ℕ) (r : Row) (t : Tree) (s : Row) → size r ≡ p - 1 → key_of p (Tuple (joined r (More t s))) ≡ t
key_at p r t s e = ap (λ (n : ℕ). slice_index_or (elements (joined r (More t s))) n Nil) (sym e) ∙ element_at r t s

pair_around : (p : ℕ) (row before : Row) (t : Tree) (behind : Row) → row ≡ joined before (More t behind) → size before ≡ p - 1 → 1 ≤ p
    → IsTerm (Tuple row) → IsEntry p (Tuple row) → IsPair p (pair_of p (Tuple row))
pair_around p row before t behind is many positive b e =
    let deep = b.shallow in
    let fitting = e.fitting in
    let depths = joined_depth before (More t behind) in
    let shallow : row_depth (joined before (More t behind)) ≤ MOST_DEPTH - 1 = omega (arith, deep, ap row_depth is) in
    let parts = parts_narrow before (More t behind) (subst IsNarrowRow is b.narrow.1) in
    let key : key_of p (Tuple row) ≡ t = ap (λ (r : Row). key_of p (Tuple r)) is ∙ key_at p before t behind many in
    let code : code_of (key_of p (Tuple row)) ≡ code_of t = ap code_of key in
    record {
      before = size before;
      behind = size behind;
      codes_before = row_code before;
      codes_behind = row_code behind;
      place = omega (arith, many);
      narrow = omega (arith, b.narrow.0, ap size is, joined_size before (More t behind));
      bytes = ap (λ (r : Row). code_of (Tuple r)) is ∙ tuple_parts before t behind
          ∙ ap (λ (x : List ℕ). 0x40 ∷ four_bytes (size before + 1 + size behind) ++ (row_code before ++ (x ++ row_code behind))) (sym code);
      are_before = codes_within before (MOST_DEPTH - 1) (omega (arith, depths, shallow)) parts.0;
      is_key = subst (λ (x : List ℕ). IsCodeWithin (MOST_DEPTH - 1) x) (sym code)
          (code_within t (MOST_DEPTH - 1) (omega (arith, depths, shallow)) parts.1.0);
      are_behind = codes_within behind (MOST_DEPTH - 1) (omega (arith, depths, shallow)) parts.1.1;
      short = grind (arith, nat_tests);
    }

pair_of_row : (p : ℕ) (row : Row) → 1 ≤ p → IsTerm (Tuple row) → IsEntry p (Tuple row) → IsPair p (pair_of p (Tuple row))
pair_of_row p row positive b e =
    let many = e.object in
    let inside : p - 1 < size row = grind (arith, nat_tests) in
    let s = split row (p - 1) inside in
    pair_around p row s.before s.element s.behind s.row_is s.many positive b e

-- An object that fits and its key make a pair of a store map.
pub pair_of_object : (p : ℕ) (o : Tree) → 1 ≤ p → IsTerm o → IsEntry p o → IsPair p (pair_of p o)
pair_of_object p (Integer n) l b e = let wrong = e.object in let no : false ≡ true = wrong in cc
pair_of_object p (Atom text) l b e = let wrong = e.object in let no : false ≡ true = wrong in cc
pair_of_object p (Tuple row) l b e = pair_of_row p row l b e
pair_of_object p Nil l b e = let wrong = e.object in let no : false ≡ true = wrong in cc
pair_of_object p (Cons head tail) l b e = let wrong = e.object in let no : false ≡ true = wrong in cc
pair_of_object p (Binary bytes) l b e = let wrong = e.object in let no : false ≡ true = wrong in cc

-- A pair of a store map is that of an object that fits and its key.
pub object_of_pair : (p : ℕ) (pair : Pair) → IsPair p pair → HasObject p pair
object_of_pair p pair h =
    let r = row_within (MOST_DEPTH - 1) h.before h.codes_before h.are_before in
    let t = term_within (MOST_DEPTH - 1) pair.0 h.is_key in
    let s = row_within (MOST_DEPTH - 1) h.behind h.codes_behind h.are_behind in
    let row = joined r.row (More t.term s.row) in
    let many = joined_size r.row (More t.term s.row) in
    let key : key_of p (Tuple row) ≡ t.term = key_at p r.row t.term s.row (omega (arith, h.place, r.many)) in
    let numbers : size r.row + 1 + size s.row ≡ h.before + 1 + h.behind = omega (arith, r.many, s.many) in
    let code : code_of (Tuple row) ≡ pair.1 =
    tuple_parts r.row t.term s.row
    ∙ ap (λ (n : ℕ). 0x40 ∷ four_bytes n ++ (row_code r.row ++ (code_of t.term ++ row_code s.row))) numbers
    ∙ ap (λ (x : List ℕ). 0x40 ∷ four_bytes (h.before + 1 + h.behind) ++ (x ++ (code_of t.term ++ row_code s.row))) (sym r.code_is)
    ∙ ap (λ (x : List ℕ). 0x40 ∷ four_bytes (h.before + 1 + h.behind) ++ (h.codes_before ++ (x ++ row_code s.row))) (sym t.code_is)
    ∙ ap (λ (x : List ℕ). 0x40 ∷ four_bytes (h.before + 1 + h.behind) ++ (h.codes_before ++ (pair.0 ++ x))) (sym s.code_is)
    ∙ sym h.bytes in
    record {
      object = Tuple row;
      bounded = record {
        shallow = omega (arith, joined_depth r.row (More t.term s.row), r.shallow, t.shallow, s.shallow);
        narrow = (omega (arith, many, r.many, s.many, h.narrow), joined_narrow r.row (More t.term s.row) r.narrow (t.narrow, s.narrow));
      };
      entry = record { object = reaches (size row) (omega (arith, many, r.many, h.place)); fitting = short (omega (arith, h.short, ap length code)) };
      key_is = t.code_is ∙ ap code_of (sym key);
      object_is = sym code;
    }
  where
    reaches : (n : ℕ) → p ≤ n → nat_le p n ≡ true
    reaches n l = grind (arith, nat_tests)

    short : {n : ℕ} → n ≤ MOST_CODE_BYTES → nat_le n MOST_CODE_BYTES ≡ true
    short l = grind (arith, nat_tests)

-- The pairs that a store map may hold are exactly those of objects that fit.
pub pairs_are_objects : PairsAreObjects
pairs_are_objects p pair positive = (object_of_pair p pair, back)
  where
    back : HasObject p pair → IsPair p pair
    back h = subst (λ (x : Pair). IsPair p x) (λ i. (sym h.key_is i, sym h.object_is i)) (pair_of_object p h.object positive h.bounded h.entry)
