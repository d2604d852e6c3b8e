-- Passes between two steps on rows.
use Rattle.std.specs.Prelude.{◌≡◌, ℕ, Bool}
use Rattle.atomic_table.specs.declared.shared.Seat.{Seat}
use Rattle.atomic_table.specs.Seated.{TableId}
use Rattle.ca_node.specs.TreeView.{TreeView}
use Rattle.ca_rows.specs.declared.kept.KeptRows.{KeptRows}
use Rattle.ca_rows.specs.declared.sizes.Sizes.{Sizes}
use Rattle.ca_rows.specs.declared.view.View.{View}
use Rattle.ca_rows.specs.Calls.{IsOf, IsNumbered}
use Rattle.ca_rows.specs.Kept.{AreKept}

-- The pass with this number is one of this table, pinned or not, and keeps the rows of its list.
pub record IsAt (pinned : Bool) (table : TableId) (z : Sizes) (number : ℕ) (kept : KeptRows) (seat : Seat (Unit {0}) (View TreeView)) : Type 0 where
  pub of : IsOf table z seat
  pub numbered : IsNumbered number seat.me.0.pin
  pub is_pinned : seat.me.0.pin.pinned ≡ pinned
  pub are_kept : AreKept z.rows seat.me.0.claims kept.rows
