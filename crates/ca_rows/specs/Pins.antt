-- Pins and the epoch.
use Rattle.std.specs.Prelude.{◌≡◌, ℕ, ◌+◌, ◌<◌, ◌≤◌, true, false, List, []}
use mathlib.Core.Option.{some}
use lib.ListN.{get_elem?}
use Rattle.ca_rows.specs.declared.view.Met.{Met}
use Rattle.ca_rows.specs.declared.view.Pin.{Pin}
use Rattle.ca_rows.specs.Words.{epoch, announced}
use Rattle.ca_rows.specs.Layout.{last_epoch}

-- what a seat met of the pool that took no step
abbrev pub nothing_met : Met
nothing_met = record { lost = 0; empty = 0; worn = 0; lags = 0 }

-- the pin of a seat that is no pass's, and of a pass that was just made
abbrev pub unpinned : ℕ → Pin
unpinned number = record {
  number = number;
  pinned = false;
  pins = 0;
  told = 0;
  moment = 0;
  entered = nothing_met;
  left = nothing_met;
  begun = [];
  begun_at = 0;
  scan = 0;
  upto = 0;
  lag = 0;
  looks = 0;
  lags = 0;
  moved = 0;
}

-- `made` passes were made, and the pins of all seats are these.
pub record IsPin (made : ℕ) (words : List ℕ) (pins : List Pin) (j : ℕ) (e : Pin) : Type 0 where
  pub in_range : e.number ≤ made
  pub is_pass : e.pinned ≡ true → 0 < e.number
  pub alone : 0 < e.number → (i : ℕ) (d : Pin) → get_elem? pins i ≡ some d → d.number ≡ e.number → i ≡ j
  -- what it announces
  pub absent : 0 < e.number → e.pinned ≡ false → announced words e.number ≡ 0
  pub present : e.pinned ≡ true → announced words e.number ≡ e.told + 1
  -- the epoch moves at most once while it is pinned
  pub pinned_at : e.pinned ≡ true → (e.told ≤ e.moment) × (e.moment ≤ epoch words) × (epoch words ≤ e.moment + 1)
  pub told_past : e.told ≤ epoch words
  pub scan_past : e.scan ≤ epoch words
  -- Who was looked at in this epoch isn't pinned at an earlier moment.
  pub scanned : e.scan ≡ epoch words → (i : ℕ) (d : Pin) → get_elem? pins i ≡ some d → d.number ≤ e.upto → d.pinned ≡ true → e.scan ≤ d.moment
  -- Only passes move the epoch, each behind a look of its own: where there is one pass at most, its scan is the epoch.
  pub only : made ≤ 1 → 0 < e.number → 0 < e.looks → e.scan ≡ epoch words

pub record ArePins (made : ℕ) (words : List ℕ) (pins : List Pin) : Type 0 where
  pub few : made ≤ 64
  pub small : epoch words ≤ last_epoch
  pub each : (j : ℕ) (e : Pin) → get_elem? pins j ≡ some e → IsPin made words pins j e
  -- Nobody announces anything for a pass that wasn't made.
  pub unused : (i : ℕ) → made < i → i ≤ 64 → announced words i ≡ 0
