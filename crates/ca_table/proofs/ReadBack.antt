-- What a store finds is an object of its map.
use Rattle.std.proofs.Common.{◌≡◌, ℕ, ◌≤◌, true, false, List, [], ◌∷◌, ◌++◌, Some, subst}
use Rattle.ca_term.specs.Tree.{Tree, Row, Integer, Atom, Tuple, Nil, Cons, Binary, IsTerm}
use Rattle.ca_term.specs.Code.{code_of}
use Rattle.ca_term.specs.Object.{key_of}
use Rattle.ca_order.specs.Languages.{IsTermCode}
use Rattle.ca_ets.specs.OrderedMap.{IsEntry}
use Rattle.ca_model.specs.StoreMap.{StoreMap, IsStoreMap, IsPair, IsFound}
use Rattle.ca_model.specs.Edges.{Bound, is_from, is_up_to, from, up_to, first_object, last_object}
use Rattle.ca_model.specs.History.{History, after, by_pass, AreEdits}
use Rattle.ca_model.specs.Event.{Event, Get, Above, Below, effect}
use Rattle.ca_model.specs.Known.{Known, Meets}
use Rattle.ca_model.proofs.Edits.{map_after, map_filter, found_pair}
use Rattle.ca_explain.proofs.Pairs.{object_of_pair}
use Rattle.ca_table.specs.Renewed.{IsObjectCode}

-- The first edits of a history of edits.
pub first_part : (p : ℕ) (xs ys : History) → AreEdits p (xs ++ ys) → AreEdits p xs
first_part p [] ys h = tt
first_part p (x ∷ xs) ys h = (h.0, first_part p xs ys h.1)

-- The map that a call meets is a store map.
met_map : (a b : Known) (event : Event) (met : Meets a b event) → IsStoreMap a.keypos (after met.earlier a.map)
met_map a b event met =
    let own = by_pass a.pass (effect event) in
    let earlier = first_part a.keypos met.earlier own (first_part a.keypos (met.earlier ++ own) met.later met.learns.edits) in
    map_after a.keypos met.earlier a.map earlier met.learns.valid

-- What a call finds under a key is an object with that key.
pub met_pair : (a b : Known) (event : Event) (key object : List ℕ) (met : Meets a b event) → IsFound (after met.earlier a.map) key (Some object)
    → IsPair a.keypos (key, object)
met_pair a b event key object met found = found_pair a.keypos (after met.earlier a.map) key object (met_map a b event met) found

-- What is found is the code of an object.
pub found_code : (a b : Known) (key object : List ℕ) → Meets a b (Get key (Some object)) → IsTermCode object
found_code a b key object met =
    let found = object_of_pair a.keypos (key, object) (met_pair a b (Get key (Some object)) key object met met.answer) in
    (found.object, found.bounded, found.object_is)

-- an object and its key, as bytes
pub record IsRowPair (p : ℕ) (key object : List ℕ) : Type 0 where
  pub row : Row
  pub code : IsObjectCode p row object
  pub key_is : key ≡ code_of (key_of p (Tuple row))

row_of_object : (p : ℕ) (key object : List ℕ) (o : Tree) → 1 ≤ p → IsTerm o → IsEntry p o → key ≡ code_of (key_of p o) → object ≡ code_of o
    → IsRowPair p key object
row_of_object p key object (Tuple row) positive b e k is =
    record { row = row; code = record { positive = positive; object = e.object; is_code = record { bounded = b; code_is = is } }; key_is = k }
row_of_object p key object (Integer n) positive b e k is = let no : false ≡ true = e.object in cc
row_of_object p key object (Atom text) positive b e k is = let no : false ≡ true = e.object in cc
row_of_object p key object Nil positive b e k is = let no : false ≡ true = e.object in cc
row_of_object p key object (Cons head tail) positive b e k is = let no : false ≡ true = e.object in cc
row_of_object p key object (Binary bytes) positive b e k is = let no : false ≡ true = e.object in cc

-- A pair of a store map is a tuple's code under that of its key.
pub row_of_pair : (p : ℕ) (key object : List ℕ) → 1 ≤ p → IsPair p (key, object) → IsRowPair p key object
row_of_pair p key object positive pair =
    let h = object_of_pair p (key, object) pair in row_of_object p key object h.object positive h.bounded h.entry h.key_is h.object_is

-- ---- what is found within an edge

first_pair : (p : ℕ) (m : StoreMap) (o : List ℕ) → IsStoreMap p m → first_object m ≡ Some o → (key : List ℕ) × IsPair p (key, o)
first_pair p [] o h e = cc
first_pair p (q ∷ m) o h e = let same : q.1 ≡ o = cc in (q.0, subst (λ (x : List ℕ). IsPair p (q.0, x)) same h.0)

last_pair : (p : ℕ) (m : StoreMap) (o : List ℕ) → IsStoreMap p m → last_object m ≡ Some o → (key : List ℕ) × IsPair p (key, o)
last_pair p [] o h e = cc
last_pair p (q ∷ []) o h e = let same : q.1 ≡ o = cc in (q.0, subst (λ (x : List ℕ). IsPair p (q.0, x)) same h.0)
last_pair p (q ∷ r ∷ m) o h e = last_pair p (r ∷ m) o h.2 e

-- The first object within a lower edge is the code of an object.
pub above_row : (a b : Known) (lo : Bound) (object : List ℕ) → 1 ≤ a.keypos → Meets a b (Above lo (Some object))
    → (row : Row) × IsObjectCode a.keypos row object
above_row a b lo object positive met =
    let map = after met.earlier a.map in
    let valid = map_filter a.keypos map (λ q. is_from lo q.0) (met_map a b (Above lo (Some object)) met) in
    let found = first_pair a.keypos (from lo map) object valid met.answer in
    let r = row_of_pair a.keypos found.0 object positive found.1 in
    (r.row, r.code)

-- The last object within an upper edge is the code of an object.
pub below_row : (a b : Known) (hi : Bound) (object : List ℕ) → 1 ≤ a.keypos → Meets a b (Below hi (Some object))
    → (row : Row) × IsObjectCode a.keypos row object
below_row a b hi object positive met =
    let map = after met.earlier a.map in
    let valid = map_filter a.keypos map (λ q. is_up_to hi q.0) (met_map a b (Below hi (Some object)) met) in
    let found = last_pair a.keypos (up_to hi map) object valid met.answer in
    let r = row_of_pair a.keypos found.0 object positive found.1 in
    (r.row, r.code)
