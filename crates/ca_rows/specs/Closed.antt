-- What the space's own seat knows once the passes were joined into it.
use Rattle.std.specs.Prelude.{◌≡◌, ℕ, false, List, [], ◌∷◌, ◌++◌}
use mathlib.Core.Option.{some}
use lib.ListN.{get_elem?}
use Rattle.atomic_table.specs.Table.{State}
use Rattle.atomic_table.specs.declared.shared.Seat.{Seat}
use Rattle.atomic_table.specs.Seated.{TableId}
use Rattle.ca_rows.specs.declared.view.View.{View}

-- These are the words of a state that meets the rule, in which the space's own seat has this view.
abbrev pub IsLast : {U : Type 0} → (State (Unit {0}) (View U) → Type 0) → View U → List ℕ → Type 0
IsLast {U} rule v words = (s : State (Unit {0}) (View U)) × rule s × (get_elem? s.views 0 ≡ some v) × (s.words ≡ words)

module _ {U : Type 0} where
  -- The seat is one of this table, and isn't pinned.
  abbrev pub IsClosable : TableId → Seat (Unit {0}) (View U) → Type 0
  IsClosable table p = (p.table_id ≡ table) × (p.me.0.pin.pinned ≡ false)

  module _ (both : U → U → U) where
    abbrev pub joined : View U → View U → View U
    joined v w = record v { claims = v.claims ++ w.claims; upper = both v.upper w.upper }

    -- with these views joined in, from the last to the first
    abbrev pub joined_from : View U → List (View U) → View U
    joined_from v [] = v
    joined_from v (w ∷ ws) = joined (joined_from v ws) w
