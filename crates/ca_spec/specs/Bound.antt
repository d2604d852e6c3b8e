-- The bindings that a table of places holds.
use Rattle.std.specs.Prelude.{◌-◌, List, ◌++◌, length, map, replicate, Option, None, option_map}
use Rattle.std.specs.Borrow.{Bor}
use Rattle.ca_term.specs.Tree.{Tree}
use Rattle.ca_match.specs.Match.{Bindings, Scene}

-- the term that is bound at a place
abbrev pub bound_at : Option (Bor Tree) → Option Tree
bound_at place = option_map (λ term. term.now) place

-- the variables behind the last place are not bound
abbrev pub table_of : List (Option (Bor Tree)) → Bindings
table_of table = map bound_at table ++ replicate (100 - length table) None

-- an object with its bindings
abbrev pub scene_of : Tree → List (Option (Bor Tree)) → Scene
scene_of object table = record { object = object; bindings = table_of table }
