-- The bindings that a table of places holds, by the numbers of the variables.
use Rattle.std.specs.Prelude.{List, [], ◌∷◌, map, Option, Some, option_map}
use Rattle.std.specs.Borrow.{Bor}
use Rattle.ca_term.specs.Tree.{Tree}
use Rattle.ca_match.specs.Match.{Bindings, Scene, cell_of}

abbrev pub bound_at : Option (Bor Tree) → Option Tree
bound_at place = option_map (λ term. term.now) place

abbrev pub bindings_of : List (Option (Bor Tree)) → Bindings
bindings_of table = map bound_at table

-- an object with its bindings
abbrev pub scene_of : Tree → List (Option (Bor Tree)) → Scene
scene_of object table = record { object = object; bindings = bindings_of table }

-- the list of these heads, whose values are known, in front of a tail's value; no cell may be too deep
abbrev pub cells_of : List Tree → Option Tree → Option Tree
cells_of [] tail = tail
cells_of (head ∷ heads) tail = cell_of (Some head) (cells_of heads tail)
