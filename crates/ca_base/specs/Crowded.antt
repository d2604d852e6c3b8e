-- What a pass that is alone knows where no row was free: all rows but eight at most are linked, or it keeps them.
use Rattle.std.specs.Prelude.{◌≡◌, ◌⊎◌, ℕ, ◌<◌, ◌≤◌, List, length, Result, Ok, Err}
use mathlib.Core.Option.{some}
use Rattle.ca_node.specs.Links.{IsIn}
use Rattle.ca_node.specs.Told.{MyTree}
use Rattle.ca_base.specs.declared.stop.Stop.{Stop}
use Rattle.ca_base.specs.declared.stop.Stop.TheVariants as stop
use Rattle.ca_rows.specs.declared.view.Claim.TheVariants.{Keeps}
use Rattle.ca_rows.specs.Claims.{claim_of}
use Rattle.ca_rows.specs.Told.{IsOnly}

-- Each row of the space but these is one that the tree has, as far as the seat knows, or the seat keeps it.
abbrev pub AreAllBut : List ℕ → MyTree → Type 0
AreAllBut others m = (r : ℕ) → 0 < r → r ≤ m.0.sizes.rows
    → IsIn r m.0.upper.inventory.rows ⊎ (((at : ℕ) × (claim_of m.0.claims r ≡ some (Keeps at))) ⊎ IsIn r others)

-- So are all rows but eight at most: those that the seat held for a call, and the one that it lent to its own range.
abbrev pub IsCrowded : MyTree → Type 0
IsCrowded m = (others : List ℕ) × (length others ≤ 8) × AreAllBut others m

-- What was so is so still, of the same others.
abbrev pub StaysCrowded : MyTree → MyTree → Type 0
StaysCrowded m m' = (others : List ℕ) → AreAllBut others m → AreAllBut others m'

-- Where a try came to nothing by this cause, and that is that no row was free, the space is crowded, if it is for this pass alone.
abbrev pub IsCrowdedBy : Stop → MyTree → MyTree → Type 0
IsCrowdedBy (stop.Lost exchange) m m' = Unit {0}
IsCrowdedBy stop.Empty m m' = IsOnly m → 0 < m.0.upper.number → IsCrowded m'
IsCrowdedBy stop.Worn m m' = Unit {0}

-- So it is of a try, by what it came to.
abbrev pub FindsCrowded : {T : Type 0} → Result T Stop → MyTree → MyTree → Type 0
FindsCrowded (Ok x) m m' = Unit {0}
FindsCrowded (Err why) m m' = IsCrowdedBy why m m'
