-- Looks to the left: a walk came to the base that has the keys right below where another one begins.
use Rattle.std.specs.Prelude.{◌≡◌, ◌≢◌, ℕ, ◌<◌, List, ◌∷◌}
use Rattle.std.specs.declared.cmp.Ordering.TheVariants.{Less, Greater}
use Rattle.atomic_table.specs.Table.{Step}
use Rattle.ca_model.specs.Edges.{Bound, Unbounded, Included, Excluded}
use Rattle.ca_model.specs.StoreMap.{bytes_cmp}
use Rattle.ca_node.specs.Links.{IsIn}
use Rattle.ca_node.specs.Told.{MyTree, with_upper}
use Rattle.ca_node.specs.TreeView.{Note, TreeView, no_note, one_passed}

-- A lower bound lets keys in that are less than this one.
abbrev pub LetsLess : Bound → List ℕ → Type 0
LetsLess Unbounded key = Unit {0}
LetsLess (Included low) key = bytes_cmp low key ≡ Less
LetsLess (Excluded low) key = bytes_cmp low key ≡ Less

-- No key that is less than this one is beyond an upper bound.
abbrev pub LeavesNone : Bound → List ℕ → Type 0
LeavesNone Unbounded key = Unit {0}
LeavesNone (Included high) key = bytes_cmp key high ≢ Greater
LeavesNone (Excluded high) key = bytes_cmp key high ≢ Greater

-- The base begins left of where another one does.
abbrev pub IsLeftOf : Bound → Note → Type 0
IsLeftOf Unbounded note = ⊥
IsLeftOf (Included key) note = LetsLess note.place.span.low key
IsLeftOf (Excluded key) note = ⊥

-- It has the keys right below that, too.
abbrev pub IsRightBelow : Bound → Note → Type 0
IsRightBelow Unbounded note = ⊥
IsRightBelow (Included key) note = LetsLess note.place.span.low key × LeavesNone note.place.span.high key
IsRightBelow (Excluded key) note = ⊥

-- The base that a walk came to last is the one that was shown last: it is on the left of each other one that was shown since the pin, and right below one of them.
-- No turn was counted for it, with which the seat forgets that a walk came to it: so two turns are those of two bases.
pub record IsAside (u : TreeView) : Type 0 where
  pub some_row : 0 < u.last.row
  pub before : List Note
  pub notes : u.notes ≡ u.last ∷ before
  pub left : (note : Note) → IsIn note before → IsLeftOf note.place.span.low u.last
  pub beside : (note : Note) × IsIn note before × IsRightBelow note.place.span.low u.last

-- what a seat knows that counted a look to the left
abbrev pub passed_on : TreeView → TreeView
passed_on u = record u { turns = one_passed u.turns; last = no_note }

-- A word was loaded as the seat had looked to the left, which is counted.
abbrev pub PassesOn : Step (Unit {0}) → MyTree → ℕ → MyTree → Type 0
PassesOn st m n m' = IsAside m.0.upper × (m' ≡ with_upper m (passed_on m.0.upper))
