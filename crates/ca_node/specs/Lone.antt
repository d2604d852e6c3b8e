-- What holds more of a pass that is the only one: no attempt to join is under way but its own, each route that it remembers hangs where it hung, and nobody
-- else ends a range of its own.
use Rattle.std.specs.Prelude.{◌≡◌, ℕ, ◌/◌, ◌<◌, ◌≤◌, List}
use mathlib.Core.Option.{some}
use lib.ListN.{get_elem?}
use Rattle.ca_node.specs.Attempts.{join_of, IsPrepared, IsSecured}
use Rattle.ca_model.specs.Edges.{Excluded}
use Rattle.ca_node.specs.Links.{IsIn, IsActive}
use Rattle.ca_node.specs.Place.{HasKey, Place}
use Rattle.ca_node.specs.Row.{IsMarkedBy, mark, mark_back, mark_bound, mark_number, mark_owner, route_key}
use Rattle.ca_node.specs.Shape.{Role, Route}
use Rattle.ca_node.specs.TreeView.{Note, Way, Border, Begun, Attempt, Ranging, Marking, Joining, Secured, TreeView}
use Rattle.ca_node.specs.Layout.{marked_by_range}

-- an attempt of a route by its number
abbrev pub attempt_of : ℕ → ℕ → Attempt
attempt_of route number = record { route = route; number = number }

-- The route hangs where it hung.
abbrev pub IsAlive : (ℕ → Role) → Way → Type 0
IsAlive role way = role way.row ≡ Route way.place (route_key way.its)

-- The row is a route of the tree.
abbrev pub IsOfTree : (ℕ → Role) → ℕ → Type 0
IsOfTree role route = (place : Place) × (key : List ℕ) × (role route ≡ Route place key)

-- By how far the seat's own operation is, by the routes that it remembers, and by the attempts that it knows to be begun, it may be the only pass: an attempt of a
-- route of the tree that is prepared, or secured, is its own, and it knows how far that is; its own one that it didn't secure is prepared; no route was unlinked
-- that it remembers; of a route of which it knows an attempt it knows the last one; and a range of this pass that marked something is active until the pass
-- itself ends it.
pub record IsLone (words : List ℕ) (role : ℕ → Role) (pass : ℕ) (own : Ranging) (ways : List Way) (begun : List Attempt) : Type 0 where
  pub prepared : (route : ℕ) (place : Place) (key : List ℕ) (attempt : ℕ) → role route ≡ Route place key → IsPrepared words route attempt
      → own ≡ Joining (attempt_of route attempt)
  pub secured : (route : ℕ) (place : Place) (key : List ℕ) (attempt : ℕ) → role route ≡ Route place key → IsSecured words route attempt
      → own ≡ Secured (attempt_of route attempt)
  pub still : (x : Attempt) → own ≡ Joining x → IsOfTree role x.route × IsPrepared words x.route x.number
  pub alive : (way : Way) → IsIn way ways → IsAlive role way
  pub latest : (x : Attempt) → IsIn x begun → IsOfTree role x.route × IsIn (attempt_of x.route (join_of words x.route / 4)) begun
  pub active : (range : Begun) (border : Border) → own ≡ Marking range border → IsActive words pass range.number

-- So it is of each seat that is a pass's, where one pass was made at most.
abbrev pub AreLone : ℕ → List ℕ → (ℕ → Role) → List TreeView → Type 0
AreLone made words role uppers = (j : ℕ) (u : TreeView) → get_elem? uppers j ≡ some u → made ≤ 1 → 0 < u.number
    → IsLone words role u.number u.ranges.own u.ways u.ranges.joins.begun

-- What a pass that is the only one knows of a base that it is shown while a range of its own is marked: no later range of its own marked the base. And where
-- a base that was shown to it before has the range's mark, and ends at this key: if the new one has the key, and the mark, then it was marked behind that one,
-- which it names, and it names the same row that says up to where the range goes.
pub record IsBehindOwn (u : TreeView) (note : Note) : Type 0 where
  pub latest : (begun : Begun) (border : Border) → u.ranges.own ≡ Marking begun border → mark note.its ≡ marked_by_range → mark_owner note.its ≡ u.number
      → mark_number note.its ≤ begun.number
  pub next : (begun : Begun) (border : Border) (left : Note) (key : List ℕ) → u.ranges.own ≡ Marking begun border → IsIn left u.notes
      → IsMarkedBy left.its u.number begun.number → left.place.span.high ≡ Excluded key → HasKey note.place.span key
      → IsMarkedBy note.its u.number begun.number
      → (mark_back note.its ≡ left.row) × (mark_bound note.its ≡ mark_bound left.its)
