-- The bindings that a table of parts of a code holds.
use Rattle.std.specs.Prelude.{◌≡◌, ℕ, ◌-◌, ◌≤◌, codes, List, [], ◌∷◌, ◌++◌, length, map, drop, replicate, slice_index_or, Option, None, option_map}
use Rattle.std.specs.Coded.{×_prop, le_prop, Coded-set, coded_list}
use Rattle.ca_term.specs.Stored.{tree_stored}
use Rattle.ca_term.specs.Tree.{Tree, Row, Integer, Atom, Tuple, Nil, Cons, Binary, Ends, More}
use Rattle.ca_match.specs.Match.{Bindings, Scene}
use Rattle.ca_order.specs.declared.codes.Part.{Part}
use Rattle.ca_order.specs.CodesView.{tree_of}

-- the term whose code stands at a place
abbrev pub part_at : Option Part → Option Tree
part_at place = option_map tree_of place

-- the variables behind the last place are not bound
abbrev pub parts_of : List (Option Part) → Bindings
parts_of table = map part_at table ++ replicate (100 - length table) None

-- an object by its code, with its bindings
abbrev pub scene_in : Part → List (Option Part) → Scene
scene_in object table = record { object = tree_of object; bindings = parts_of table }

-- the first of some terms, and the other ones
abbrev pub first : List Tree → Tree
first terms = slice_index_or terms 0 Nil

abbrev pub others : List Tree → List Tree
others terms = drop 1 terms

-- The asked ones of some parts of a head are those before some last ones that are '_'.
pub record IsAsked (parts asked : List Tree) : Type 0 where
  pub more : ℕ
  pub parts_are : parts ≡ asked ++ replicate more (Atom (codes "_"))

abbrev pub elements_of : Row → List Tree
elements_of Ends = []
elements_of (More t row) = t ∷ elements_of row

-- the elements of a tuple
abbrev pub parts_in : Tree → List Tree
parts_in (Integer n) = []
parts_in (Atom text) = []
parts_in (Tuple row) = elements_of row
parts_in Nil = []
parts_in (Cons head tail) = []
parts_in (Binary bytes) = []

-- The first so many parts of a head are asked for: those behind them are '_'.
abbrev pub AreAsked : Tree → ℕ → Type 0
AreAsked head asked =
    (asked ≤ length (parts_in head)) × (drop asked (parts_in head) ≡ replicate (length (parts_in head) - asked) (Atom (codes "_")))

pub AreAsked-prop : (head : Tree) (asked : ℕ) → IsProp (AreAsked head asked)
AreAsked-prop head asked =
    ×_prop le_prop
    (Coded-set (coded_list tree_stored) (drop asked (parts_in head)) (replicate (length (parts_in head) - asked) (Atom (codes "_"))))
