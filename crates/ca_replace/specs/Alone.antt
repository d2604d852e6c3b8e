-- Why calls of a pass that is alone are refused.
use Rattle.std.specs.Prelude.{◌≡◌, ℕ, ◌+◌, ◌≤◌, List, [], length}
use Rattle.std.specs.declared.option.Option.{Option}
use Rattle.std.specs.declared.option.Option.TheVariants.{None, Some}
use Rattle.ca_model.specs.declared.outcome.Cause.{Cause}
use Rattle.ca_model.specs.declared.outcome.Cause.TheVariants as cause
use Rattle.ca_model.specs.declared.outcome.Outcome.{Outcome}
use Rattle.ca_model.specs.declared.outcome.Outcome.TheVariants as outcome
use Rattle.ca_model.specs.History.{History, after}
use Rattle.ca_model.specs.StoreMap.{IsFound}
use Rattle.ca_node.specs.Inventory.{HasFewRows}
use Rattle.ca_node.specs.Links.{IsIn}
use Rattle.ca_node.specs.Place.{Place, HasKey, part}
use Rattle.ca_node.specs.TreeView.{Inventory, TreeView}
use Rattle.ca_rows.specs.declared.sizes.Sizes.{Sizes}

-- A tree that has this, by this history, has no room for the key: it is a new one, and the base to which it is led stands at the last level, and has as many
-- objects as a base may have.
pub record HasNoRoom (z : Sizes) (key : List ℕ) (history : History) (i : Inventory) : Type 0 where
  pub new : IsFound (after history []) key None
  pub row : ℕ
  pub place : Place
  pub listed : IsIn (row, place) i.bases
  pub led : HasKey place.span key
  pub at_last : z.levels ≤ place.level
  pub full : z.leaf ≤ length (part place.span (after history []))

-- The call isn't refused for the turns that it spent.
abbrev pub IsNeverBusy : {T : Type 0} → Outcome T → Type 0
IsNeverBusy (outcome.Done x) = Unit {0}
IsNeverBusy (outcome.Busy spent) = ⊥
IsNeverBusy (outcome.Full full) = Unit {0}
IsNeverBusy (outcome.Deep level) = Unit {0}
IsNeverBusy (outcome.Worn counter) = Unit {0}

-- It had none for the key that a call may add, if any, as the call began. By then the pass had carried out as many splits as there are levels, or more.
abbrev pub HadNoRoom : Sizes → Option (List ℕ) → TreeView → Type 0
HadNoRoom z None u = ⊥
HadNoRoom z (Some key) u = HasNoRoom z key u.seen u.inventory × (z.levels ≤ u.splits)

-- A call of such a pass that may add this key, if any, is refused so only by what it knew as the call began, but for what it met of the pool: where there was no
-- free row its last attempt had begun with no row kept, and no pass lagged.
abbrev pub HasLoneCause : {T : Type 0} → Sizes → Option (List ℕ) → TreeView → Outcome T → Type 0
HasLoneCause z adds u (outcome.Done x) = Unit {0}
HasLoneCause z adds u (outcome.Busy spent) = Unit {0}
HasLoneCause z adds u (outcome.Full full) = (full.kept ≡ 0) × (full.lag ≡ None)
HasLoneCause z adds u (outcome.Deep level) = HadNoRoom z adds u
HasLoneCause z adds u (outcome.Worn counter) = Unit {0}

-- The space is short of rows: it has so many more than the tree of such a pass has, at most, and the tree has few.
abbrev pub IsShortOfRows : Sizes → ℕ → TreeView → Type 0
IsShortOfRows z more u = (z.rows ≤ length u.inventory.rows + more) × HasFewRows u

-- So it was as a call of such a pass began that is refused by this cause, where that is that no row was free.
abbrev pub IsCrowdedCause : Sizes → ℕ → TreeView → Cause → Type 0
IsCrowdedCause z more u (cause.Busy spent) = Unit {0}
IsCrowdedCause z more u (cause.Full full) = IsShortOfRows z more u
IsCrowdedCause z more u (cause.Deep level) = Unit {0}
IsCrowdedCause z more u (cause.Worn counter) = Unit {0}

abbrev pub IsCrowdedCall : {T : Type 0} → Sizes → ℕ → TreeView → Outcome T → Type 0
IsCrowdedCall z more u (outcome.Done x) = Unit {0}
IsCrowdedCall z more u (outcome.Busy spent) = Unit {0}
IsCrowdedCall z more u (outcome.Full full) = IsShortOfRows z more u
IsCrowdedCall z more u (outcome.Deep level) = Unit {0}
IsCrowdedCall z more u (outcome.Worn counter) = Unit {0}
