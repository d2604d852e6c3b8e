-- States of the history that a seat may answer by: those since it was pinned.
use Rattle.std.specs.Prelude.{◌≡◌, ℕ, ◌<◌, ◌≤◌, [], length, map}
use Rattle.ca_model.specs.Event.{Event, IsAnswer, effect}
use Rattle.ca_model.specs.History.{state}
use Rattle.ca_model.specs.StoreMap.{StoreMap}
use Rattle.ca_node.specs.Place.{part}
use Rattle.ca_node.specs.Row.{pair}
use Rattle.ca_node.specs.Tree.{ArePast}
use Rattle.ca_node.specs.TreeView.{Note, TreeView}
use Rattle.ca_rows.specs.declared.sizes.Sizes.{Sizes}

-- The place is one between what the seat had seen as it was pinned and what it has seen now.
abbrev pub IsSince : TreeView → ℕ → Type 0
IsSince u at = (length u.since ≤ at) × (at ≤ length u.seen)

-- This holds of a state that the history had since the seat was pinned.
abbrev pub OfSomeState : TreeView → (StoreMap → Type 0) → Type 0
OfSomeState u P = (at : ℕ) × IsSince u at × P (state u.seen at)

-- The seat has seen no more than as it was pinned.
abbrev pub IsAtPin : TreeView → Type 0
IsAtPin u = u.since ≡ u.seen

-- No call was entered in the seat's log since it was pinned.
abbrev pub IsUnanswered : TreeView → Type 0
IsUnanswered u = ArePast (length u.since) u.log

-- The seat is that of a pass, and the space is for one pass alone.
abbrev pub IsAlone : Sizes → TreeView → Type 0
IsAlone z u = (z.passes ≡ 1) × (0 < u.number)

-- The base has what a state since the pin has of the keys that are led there: the last one that was seen, of a pass that is alone.
pub record HasState (z : Sizes) (u : TreeView) (note : Note) : Type 0 where
  pub at : ℕ
  pub since : IsSince u at
  pub has : map pair note.objects ≡ part note.place.span (state u.seen at)
  pub last : IsAlone z u → at ≡ length u.seen

-- The call is one that edits nothing. Its answer is that of the state at this place, and no call of the seat has a place behind it.
pub record IsReadAt (event : Event) (at : ℕ) (u : TreeView) : Type 0 where
  pub edits_nothing : effect event ≡ []
  pub since : IsSince u at
  pub answer : IsAnswer event (state u.seen at)
  pub first : ArePast at u.log

abbrev pub IsReadSince : Event → TreeView → Type 0
IsReadSince event u = (at : ℕ) × IsReadAt event at u
