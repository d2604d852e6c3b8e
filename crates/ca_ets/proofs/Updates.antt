-- What an update leaves: an object that may stand in a table, with the same key.
use Rattle.std.proofs.Common.{◌≡◌, ℕ, ◌≤◌, ◌-◌, Bool, true, false, List, [], ◌∷◌, length, set, get_or, refl, ◌∙◌, ap, subst, ℤ, Option, Some, None, Ok, Err, if◌then◌else◌}
use Rattle.std.specs.Prelude.{Result, ok_or, IfOk, IsTrue, nat_le}
use Rattle.std.proofs.lemmas.List.{length-set}
use Rattle.ca_term.specs.Tree.{Tree, Row, Integer, Atom, Tuple, Nil, Cons, Binary, row_of, elements, size}
use Rattle.ca_term.specs.Object.{is_object, fits, key_of}
use Rattle.ca_term.specs.Updates.{ElementFault, BadArgument, OutOfRange, TooLarge, Addition, and_then, integer_of, is_open, is_word, value_of, counter_place, place_of, count_with, count_at, count, counts, object_of, update_of_counters, update_of_element}
use Rattle.ca_term.proofs.Rows.{size_row, length_elements, elements_are}
use Rattle.ca_term.proofs.Updates.{other, not_key, not_key_by}
use Rattle.ca_ets.specs.OrderedMap.{IsEntry}

-- What holds of a second result where the first one is there.
pub bind_ok : {A B : Type 0} (r : Result A ElementFault) (f : A → Result B ElementFault) (P : B → Type 0) → ((x : A) → r ≡ Ok x → IfOk (f x) P)
    → IfOk (and_then r f) P
bind_ok (Ok x) f P h = h x refl
bind_ok (Err e) f P h = tt

abbrev ok_of : {A : Type 0} → Result A ElementFault → Option A
ok_of (Ok x) = Some x
ok_of (Err e) = None

from_some : {A : Type 0} (o : Option A) (x : A) → ok_or o BadArgument ≡ Ok x → o ≡ Some x
from_some (Some y) x e = ap ok_of e
from_some None x e = ap ok_of e

-- as many elements as these, with the same key where so
record Leaves (so : Type 0) (keypos : ℕ) (items left : List Tree) : Type 0 where
  many : length left ≡ length items
  key : so → get_or left (keypos - 1) Nil ≡ get_or items (keypos - 1) Nil

-- an object that may stand in a table, with the key of this one where so
pub record KeepsEntry (so : Type 0) (keypos : ℕ) (o new : Tree) : Type 0 where
  pub entry : IsEntry keypos new
  pub key : so → key_of keypos new ≡ key_of keypos o

set_leaves : (so : Type 0) (keypos : ℕ) (items : List Tree) (at : ℕ) (t : Tree) → (so → at ≡ keypos - 1 → ⊥) → Leaves so keypos items (set items at t)
set_leaves so keypos items at t n = record { many = length-set items at t; key = λ h. other items at (keypos - 1) t Nil (n h) }

module _ (so : Type 0) (keypos : ℕ) (row : Row) (h : is_object keypos (Tuple row) ≡ true) where
  object_leaves : (items : List Tree) → Leaves so keypos (elements row) items → IfOk (object_of items) (KeepsEntry so keypos (Tuple row))
  object_leaves items k = by (fits (Tuple (row_of items))) refl
    where
      same : size (row_of items) ≡ size row
      same = size_row items ∙ k.many ∙ length_elements row

      by : (b : Bool) → fits (Tuple (row_of items)) ≡ b → IfOk (if b then Ok (Tuple (row_of items)) else Err TooLarge) (KeepsEntry so keypos (Tuple row))
      by true f = record {
        entry = record { object = ap (nat_le keypos) same ∙ h; fitting = f };
        key = λ x. ap (λ y. get_or y (keypos - 1) Nil) (elements_are items) ∙ k.key x;
      }
      by false f = tt

with_leaves : (keypos : ℕ) (items : List Tree) (at : ℕ) (value : ℤ) → (1 ≤ keypos → at ≡ keypos - 1 → ⊥)
    → IfOk (count_with items at value) (λ left. Leaves (1 ≤ keypos) keypos items left.0)
with_leaves keypos items at value n = by (is_word value)
  where
    by : (b : Bool)
        → IfOk {T = List Tree × ℤ} (if b then Ok (set items at (Integer value), value) else Err OutOfRange) (λ left. Leaves (1 ≤ keypos) keypos items left.0)
    by true = set_leaves (1 ≤ keypos) keypos items at (Integer value) n
    by false = tt

count_leaves : (keypos : ℕ) (items : List Tree) (a : Addition) → IfOk (count keypos items a) (λ left. Leaves (1 ≤ keypos) keypos items left.0)
count_leaves keypos items a =
    bind_ok (ok_or (counter_place keypos (length items) a.position) BadArgument) (count_at items a) (λ left. Leaves (1 ≤ keypos) keypos items left.0)
    (λ at e. bind_ok (ok_or (integer_of (get_or items at Nil)) BadArgument) (λ n. count_with items at (value_of a n)) (λ left. Leaves (1 ≤ keypos)
    keypos items left.0)
    (λ n f. with_leaves keypos items at (value_of a n) (λ l. not_key_by keypos (length items) a.position at l (from_some _ at e))))

counts_leaves : (keypos : ℕ) (items : List Tree) (additions : List Addition)
    → IfOk (counts keypos items additions) (λ left. Leaves (1 ≤ keypos) keypos items left.0)
counts_leaves keypos items [] = record { many = refl; key = λ l. refl }
counts_leaves keypos items (a ∷ more) =
    bind_ok (count keypos items a) _ (λ left. Leaves (1 ≤ keypos) keypos items left.0)
    (λ first e. bind_ok (counts keypos first.0 more) _ (λ left. Leaves (1 ≤ keypos) keypos items left.0)
    (λ further f.
    let x = subst (λ r. IfOk r (λ left. Leaves (1 ≤ keypos) keypos items left.0)) e (count_leaves keypos items a) in
    let y = subst (λ r. IfOk r (λ left. Leaves (1 ≤ keypos) keypos first.0 left.0)) f (counts_leaves keypos first.0 more) in
    record { many = y.many ∙ x.many; key = λ l. y.key l ∙ x.key l }))

-- Operations on counters keep an object's key.
pub counters_entry : (keypos : ℕ) (o : Tree) (additions : List Addition) → is_object keypos o ≡ true
    → IfOk (update_of_counters keypos o additions) (λ new. KeepsEntry (1 ≤ keypos) keypos o new.0)
counters_entry keypos (Tuple row) additions h =
    let so : Type 0 = 1 ≤ keypos in
    bind_ok (counts keypos (elements row) additions) _ (λ new. KeepsEntry so keypos (Tuple row) new.0)
    (λ left e. bind_ok (object_of left.0) _ (λ new. KeepsEntry so keypos (Tuple row) new.0)
    (λ new f. subst (λ r. IfOk r (KeepsEntry so keypos (Tuple row))) f
    (object_leaves so keypos row h left.0 (subst (λ r. IfOk r (λ left. Leaves so keypos (elements row) left.0)) e (counts_leaves keypos (elements
    row) additions)))))
counters_entry keypos (Integer n) additions h = let no : false ≡ true = h in cc
counters_entry keypos (Atom text) additions h = let no : false ≡ true = h in cc
counters_entry keypos Nil additions h = let no : false ≡ true = h in cc
counters_entry keypos (Cons head tail) additions h = let no : false ≡ true = h in cc
counters_entry keypos (Binary bytes) additions h = let no : false ≡ true = h in cc

-- Another element in a place that may be changed keeps an object's key.
pub element_entry : (keypos : ℕ) (o : Tree) (position : ℤ) (value : Tree) → is_object keypos o ≡ true
    → IfOk (update_of_element o position value) (KeepsEntry ((1 ≤ keypos) × IsTrue (is_open keypos position)) keypos o)
element_entry keypos (Tuple row) position value h =
    let so : Type 0 = (1 ≤ keypos) × IsTrue (is_open keypos position) in
    bind_ok (ok_or (place_of (length (elements row)) position) BadArgument) _ (KeepsEntry so keypos (Tuple row))
    (λ at e. object_leaves so keypos row h (set (elements row) at value)
    (set_leaves so keypos (elements row) at value (λ x. not_key keypos (length (elements row)) position at x.0 x.1 (from_some _ at e))))
element_entry keypos (Integer n) position value h = let no : false ≡ true = h in cc
element_entry keypos (Atom text) position value h = let no : false ≡ true = h in cc
element_entry keypos Nil position value h = let no : false ≡ true = h in cc
element_entry keypos (Cons head tail) position value h = let no : false ≡ true = h in cc
element_entry keypos (Binary bytes) position value h = let no : false ≡ true = h in cc
