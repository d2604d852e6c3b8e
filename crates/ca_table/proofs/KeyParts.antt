-- Where the key's code stands in an object's code.
use Rattle.std.proofs.Common.{◌≡◌, ℕ, ◌≤◌, ◌<◌, ◌+◌, ◌-◌, true, List, [], ◌∷◌, ◌++◌, length, take, drop, arith, refl, sym, ◌∙◌, ap, subst, append_assoc, length-append, Some, None}
use Rattle.std.specs.Prelude.{slice_index_or, nat_le}
use Rattle.std.specs.List.{slice_range}
use Rattle.std.proofs.lemmas.Bool.Decides.{nat_tests}
use Rattle.ca_term.specs.Tree.{Tree, Row, Integer, Atom, Tuple, Nil, Cons, Binary, row_of, elements, size, IsTerm}
use Rattle.ca_term.specs.Code.{code_of, row_code, four_bytes}
use Rattle.ca_term.specs.declared.bounds.TheConstants.{MOST_CODE_BYTES}
use Rattle.ca_term.specs.Object.{is_object, key_of, fits}
use Rattle.ca_term.proofs.Rows.{size_row, elements_are}
use Rattle.ca_order.specs.KeyParts.{IsKeyParts, IsKeyPlace}
use Rattle.ca_ets.specs.Step.{fault_of_object}
use Rattle.ca_table.specs.Codes.{HasObjectCode}
use Rattle.ca_order.proofs.Sizes.{four_small}
use Rattle.ca_order.proofs.Skipped.{row_app}

-- the object's key stands in its code from `start` to `end`
pub record KeyStands (p : ℕ) (t : Tree) (start end : ℕ) : Type 0 where
  pub rising : start ≤ end
  pub inside : end ≤ length (code_of t)
  pub key : slice_range (code_of t) start end ≡ code_of (key_of p t)

drop_past : (xs ys : List ℕ) → drop (length xs) (xs ++ ys) ≡ ys
drop_past [] ys = refl
drop_past (x ∷ xs) ys = drop_past xs ys

take_front : (xs ys : List ℕ) → take (length xs) (xs ++ ys) ≡ xs
take_front [] ys = refl
take_front (x ∷ xs) ys = ap (λ zs. x ∷ zs) (take_front xs ys)

cut : (whole xs ys zs : List ℕ) (start end : ℕ) → whole ≡ xs ++ (ys ++ zs) → start ≡ length xs → end ≡ length xs + length ys
    → slice_range whole start end ≡ ys
cut whole xs ys zs start end w s e =
    let many : end - start ≡ length ys = omega arith in
    ap (λ (n : ℕ). take n (drop start whole)) many ∙ ap (λ (n : ℕ). take (length ys) (drop n whole)) s
    ∙ ap (λ (b : List ℕ). take (length ys) (drop (length xs) b)) w ∙ ap (take (length ys)) (drop_past xs (ys ++ zs)) ∙ take_front ys zs

item_at : (before : List Tree) (key : Tree) (behind : List Tree) → slice_index_or (before ++ key ∷ behind) (length before) Nil ≡ key
item_at [] key behind = refl
item_at (b ∷ before) key behind = item_at before key behind

code_tuple : (row : Row) → code_of (Tuple row) ≡ 0x40 ∷ four_bytes (size row) ++ row_code row
unfolding code_of
code_tuple row = refl

tuple_place : (row : Row) (p start end : ℕ) → IsTerm (Tuple row) → IsKeyPlace row p start end → KeyStands p (Tuple row) start end
tuple_place row p start end b k =
    let items = k.before ++ k.key ∷ k.after in
    let four : four_bytes (size row) ≡ 0 ∷ 0 ∷ 0 ∷ size row ∷ [] = four_small (size row) b.narrow.0 in
    let B = row_code (row_of k.before) in
    let K = code_of k.key in
    let A = row_code (row_of k.after) in
    let H : List ℕ = 0x40 ∷ 0 ∷ 0 ∷ 0 ∷ size row ∷ [] in
    let P : List ℕ = H ++ B in
    let rows : row_code row ≡ B ++ (K ++ A) = ap row_code k.row_is ∙ row_app k.before k.key k.after in
    let whole : code_of (Tuple row) ≡ P ++ (K ++ A) =
    code_tuple row ∙ ap (λ (f : List ℕ). (0x40 ∷ []) ++ (f ++ row_code row)) four ∙ ap (λ (r : List ℕ). H ++ r) rows
    ∙ sym (append_assoc H B (K ++ A)) in
    let long : length P ≡ 5 + length B = omega (arith, length-append H B) in
    let index : p - 1 ≡ length k.before = omega (arith, k.place) in
    let key : key_of p (Tuple row) ≡ k.key =
    ap (λ (r : Row). slice_index_or (elements r) (p - 1) Nil) k.row_is ∙ ap (λ (ts : List Tree). slice_index_or ts (p - 1) Nil) (elements_are items)
    ∙ ap (λ (n : ℕ). slice_index_or items n Nil) index ∙ item_at k.before k.key k.after in
    record {
      rising = omega (arith, k.start_is, k.end_is);
      inside = omega (arith, k.start_is, k.end_is, ap length whole, length-append P (K ++ A), length-append K A);
      key = cut (code_of (Tuple row)) P K A start end whole (k.start_is ∙ sym long) (omega (arith, k.start_is, k.end_is)) ∙ ap code_of (sym key);
    }

-- The place of the key that an object's parts tell.
pub key_stands : (t : Tree) (p start end : ℕ) → IsTerm t → IsKeyParts t p (Some (start, end)) → KeyStands p t start end
key_stands (Integer n) p start end b k = let no : Some (start, end) ≡ None = k in cc
key_stands (Atom text) p start end b k = let no : Some (start, end) ≡ None = k in cc
key_stands (Tuple row) p start end b k = tuple_place row p start end b k
key_stands Nil p start end b k = let no : Some (start, end) ≡ None = k in cc
key_stands (Cons head tail) p start end b k = let no : Some (start, end) ≡ None = k in cc
key_stands (Binary bytes) p start end b k = let no : Some (start, end) ≡ None = k in cc

-- An object has parts.
pub has_parts : (t : Tree) (p : ℕ) → is_object p t ≡ true → IsKeyParts t p None → ⊥
has_parts (Integer n) p e k = cc
has_parts (Atom text) p e k = cc
has_parts (Tuple row) p e k = let few : size row < p = k in let many : p ≤ size row = grind (arith, nat_tests) in omega arith
has_parts Nil p e k = cc
has_parts (Cons head tail) p e k = cc
has_parts (Binary bytes) p e k = cc

-- A tuple is an object where it has as many elements.
pub tuple_is : (p : ℕ) (ts : List Tree) (o : Tree) → Tuple (row_of ts) ≡ o → nat_le p (length ts) ≡ is_object p o
tuple_is p ts o is = rw (← is, size_row ts) refl

-- The code of an object that is short enough, with the place of its key: nothing refuses the object.
pub has_code : (p : ℕ) (o : Tree) (bytes : List ℕ) (start end : ℕ) → IsTerm o → is_object p o ≡ true → bytes ≡ code_of o
    → length bytes ≤ MOST_CODE_BYTES → IsKeyParts o p (Some (start, end)) → (fault_of_object p o ≡ None) × HasObjectCode p o bytes start end
has_code p o bytes start end b is e short parts =
    let k = key_stands o p start end b parts in
    let fitting : fits o ≡ true = short_fits (subst (λ (x : List ℕ). length x ≤ MOST_CODE_BYTES) e short) in (
      rw (is, fitting) refl,
      record {
        bounded = b;
        is = is;
        fitting = fitting;
        code_is = e;
        rising = k.rising;
        inside = subst (λ (x : List ℕ). end ≤ length x) (sym e) k.inside;
        key_is = ap (λ (x : List ℕ). slice_range x start end) e ∙ k.key;
      },
    )
  where
    short_fits : {n : ℕ} → n ≤ MOST_CODE_BYTES → nat_le n MOST_CODE_BYTES ≡ true
    short_fits l = grind (arith, nat_tests)
