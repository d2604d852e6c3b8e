-- Passes between two calls, and what is known of them.
use Rattle.std.specs.Prelude.{◌≡◌, ◌==◌, ◌≤◌, ℕ, cond, false, true, List, [], ◌∷◌, Option, Some, None, Vec}
use Rattle.std.specs.Global.{Global}
use mathlib.Core.Option.{some}
use Rattle.atomic_table.specs.declared.shared.Seat.{Seat}
use Rattle.atomic_table.specs.Seated.{TableId}
use Rattle.ca_adapt.specs.declared.tuning.Tuning.{Tuning}
use Rattle.ca_model.specs.History.{after}
use Rattle.ca_model.specs.Known.{Known}
use Rattle.ca_node.specs.Tallied.{IsTallied}
use Rattle.ca_node.specs.Told.{IsKnown}
use Rattle.ca_node.specs.TreeView.{Quiet, TreeView}
use Rattle.ca_base.specs.Taking.{HoldsFew}
use Rattle.ca_replace.specs.declared.adapting.Last.{Last}
use Rattle.ca_replace.specs.declared.opened.OpenRun.{OpenRun}
use Rattle.ca_replace.specs.Running.{IsOpenRun, left_of}
use Rattle.ca_rows.specs.declared.kept.Kept.{Kept}
use Rattle.ca_rows.specs.declared.sizes.Sizes.{Sizes}
use Rattle.ca_rows.specs.declared.space.Pass.{Pass}
use Rattle.ca_rows.specs.declared.space.Space.{Space}
use Rattle.ca_rows.specs.declared.tally.Tally.{Tally}
use Rattle.ca_rows.specs.declared.view.Claim.{Claim}
use Rattle.ca_rows.specs.declared.view.Claim.TheVariants.{Keeps}
use Rattle.ca_rows.specs.declared.view.View.{View}
use Rattle.ca_rows.specs.Calls.{IsOf, IsNumbered}
use Rattle.ca_rows.specs.Claims.{claim_of}
use Rattle.ca_rows.specs.Kept.{AreKept}

-- The pass with this number is one of this table. It isn't pinned, has no rows but those that it keeps, and its log is lawful for the
-- history that it has seen.
pub record IsResting (table : TableId) (z : Sizes) (number : ℕ) (tally : Tally) (kept : Vec Kept Global) (seat : Seat (Unit {0}) (View TreeView)) : Type 0 where
  pub of : IsOf table z seat
  pub numbered : IsNumbered number seat.me.0.pin
  pub same_number : seat.me.0.upper.number ≡ number
  pub is_unpinned : seat.me.0.pin.pinned ≡ false
  pub only_keeps : (row : ℕ) (c : Claim) → claim_of seat.me.0.claims row ≡ some c → (at : ℕ) × (c ≡ Keeps at)
  pub are_kept : AreKept z.rows seat.me.0.claims kept
  -- It holds no row, and never held more than eight at once.
  pub few : HoldsFew 0 seat.me.0
  pub known : IsKnown z seat.me.0.upper
  -- It lost no fewer exchanges of the pool than as it unpinned.
  pub left_before : seat.me.0.pin.left.lost ≤ seat.me.0.lost
  -- Where the space is for one pass, it lost no exchange of the pool or of the epoch.
  pub unlost : z.passes ≡ 1 → seat.me.0.lost ≡ 0
  -- No range of its own is active, and no attempt of its own to join is under way.
  pub quiet : seat.me.0.upper.ranges.own ≡ Quiet
  -- It counted the splits and the joins that it carried out.
  pub tallied : IsTallied tally seat.me.0.upper

module _ {R : Type 0} where
  -- The pass is one of this space, and rests.
  abbrev pub IsAtRest : Space R TreeView → Pass R TreeView → Type 0
  IsAtRest space pass = IsResting space.table.shared.table_id space.table.shared.key pass.number pass.tally pass.kept.rows pass.seat

  -- It is the same pass, and rests.
  pub record StaysAtRest (space : Space R TreeView) (pass new : Pass R TreeView) : Type 0 where
    pub number : new.number ≡ pass.number
    pub resting : IsAtRest space new

-- what contracts see of a pass on a tree: the tree's table, what it was made with, the pass, and what is kept of its last update by the store
pub record StoreView : Type 0 where
  pub table : TableId
  pub z : Sizes
  pub tuning : Tuning
  pub number : ℕ
  pub tally : Tally
  pub kept : Vec Kept Global
  pub seat : Seat (Unit {0}) (View TreeView)
  pub last : Last

-- The pass is one of that table, and rests.
abbrev pub Rests : StoreView → Type 0
Rests s = IsResting s.table s.z s.number s.tally s.kept s.seat

-- The pass with this number is one of this table. It is pinned, and a run is open that it reads. It has no rows but those that it keeps, and its log is
-- lawful for the history that it has seen.
pub record IsAtRun (table : TableId) (z : Sizes) (number : ℕ) (tally : Tally) (kept : Vec Kept Global) (seat : Seat (Unit {0}) (View TreeView))
    (run : OpenRun) : Type 0 where
  pub of : IsOf table z seat
  pub numbered : IsNumbered number seat.me.0.pin
  pub same_number : seat.me.0.upper.number ≡ number
  pub is_pinned : seat.me.0.pin.pinned ≡ true
  pub only_keeps : (row : ℕ) (c : Claim) → claim_of seat.me.0.claims row ≡ some c → (at : ℕ) × (c ≡ Keeps at)
  pub are_kept : AreKept z.rows seat.me.0.claims kept
  pub few : HoldsFew 0 seat.me.0
  pub known : IsKnown z seat.me.0.upper
  -- No pass was found to lag since it pinned.
  pub unlagged : seat.me.0.pin.entered.lags ≡ seat.me.0.pin.lags
  pub quiet : seat.me.0.upper.ranges.own ≡ Quiet
  pub tallied : IsTallied tally seat.me.0.upper
  pub opened : IsOpenRun z seat.me.0.upper run

-- what contracts see of a pass on a tree, and the run that is open
pub record StoreAndRun : Type 0 where
  pub store : StoreView
  pub run : Option OpenRun

-- Where no run is open the pass rests; else it reads the run.
abbrev pub IsBetween : StoreView → Option OpenRun → Type 0
IsBetween s None = Rests s
IsBetween s (Some run) = IsAtRun s.table s.z s.number s.tally s.kept s.seat run

-- what is left of the run that is open
abbrev pub run_left : TreeView → Option OpenRun → Option (List (List ℕ))
run_left u None = None
run_left u (Some run) = Some (left_of u run)

-- the numbers that tell a table from all others
abbrev pub numbers_of : TableId → List ℕ
numbers_of table = table.words ∷ table.slots ∷ table.views_name ∷ table.atom ∷ table.block ∷ table.offset ∷ table.slot_names

-- What a pass knows of the map, as a store: each of the passes that there may be may edit it, so where there may be one alone nobody else does;
-- any call may be refused, and each finds its own room.
abbrev pub known_of : TableId → Sizes → TreeView → Known
known_of table z u = record {
  store = numbers_of table;
  keypos = z.keypos;
  pass = u.number;
  passes = z.passes;
  alone = cond (z.passes == 1) (u.number == 1) false;
  sure = false;
  map = after u.seen [];
  seen = Some (record { history = u.seen; log = u.log });
  run = None;
  spare = 1;
  counts = u.counts;
}

abbrev pub knows : StoreAndRun → Known
knows s = record (known_of s.store.table s.store.z s.store.seat.me.0.upper) { run = run_left s.store.seat.me.0.upper s.run }
