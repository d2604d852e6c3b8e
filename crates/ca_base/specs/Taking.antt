-- Rows that a pass holds for a call.
use Rattle.std.specs.Prelude.{◌≡◌, ◌≢◌, ◌⊎◌, ℕ, ◌<◌, ◌≤◌, List, [], ◌∷◌, length, slice_index, Vec, Result, Ok, Err}
use Rattle.std.specs.Global.{Global}
use mathlib.Core.Option.{some}
use Rattle.ca_node.specs.Layout.{base_form}
use Rattle.ca_node.specs.Links.{IsIn}
use Rattle.ca_node.specs.TreeView.{Border, Ranging, Quiet, Unmarked, Marking, Left, Joining, Secured, TreeView}
use Rattle.ca_base.specs.declared.stop.Stop.{Stop}
use Rattle.ca_rows.specs.declared.kept.Kept.{Kept}
use Rattle.ca_rows.specs.declared.space.Pass.{Pass}
use Rattle.ca_rows.specs.declared.space.Space.{Space}
use Rattle.ca_rows.specs.declared.view.Claim.{Claim}
use Rattle.ca_rows.specs.declared.view.Claim.TheVariants.{Holds, Lends, Unlinked, Keeps}
use Rattle.ca_rows.specs.declared.view.Claimed.{Claimed}
use Rattle.ca_rows.specs.declared.view.View.{View}
use Rattle.ca_rows.specs.Calls.{IsNumbered}
use Rattle.ca_rows.specs.Claims.{claim_of, held_count}
use Rattle.ca_rows.specs.Kept.{AreKept, AreYoung, IsTakenOut}
use Rattle.ca_rows.specs.Layout.{row_words}
use Rattle.ca_rows.specs.Passes.{IsReading}

-- The rows that a seat lends to its own range: the one that says up to where the range goes, once something is marked for it.
abbrev pub lent_of : Ranging → List ℕ
lent_of Quiet = []
lent_of (Unmarked begun) = []
lent_of (Marking begun border) = border.row ∷ []
lent_of Left = []
lent_of (Joining x) = []
lent_of (Secured x) = []

-- By these claims a seat holds these rows and lends those, and has no others but those that it keeps, which are those of the list.
pub record HasHeld (rows : ℕ) (kept : Vec Kept Global) (claims : List Claimed) (lent held : List ℕ) : Type 0 where
  pub are_kept : AreKept rows claims kept
  pub only : (row : ℕ) (c : Claim) → claim_of claims row ≡ some c → ((at : ℕ) × (c ≡ Keeps at)) ⊎ (IsIn row held ⊎ IsIn row lent)
  pub each : (row : ℕ) → IsIn row held → (0 < row) × (row ≤ rows) × ((its : List ℕ) × (length its ≡ row_words) × (claim_of claims row ≡ some (Holds its)))
  pub lends : (row : ℕ) → IsIn row lent → claim_of claims row ≡ some Lends

-- The seat holds so many rows at most, with those that it unlinked and doesn't keep yet, and never held more than eight at once.
pub record HoldsFew (count : ℕ) (view : View TreeView) : Type 0 where
  pub now : held_count view.claims ≤ count
  pub ever : view.most ≤ 8

-- A seat holds no row and lends this one, and has no others but those that it keeps.
abbrev pub HasLent : ℕ → Vec Kept Global → View TreeView → ℕ → Type 0
HasLent rows kept view row = HasHeld rows kept view.claims (row ∷ []) [] × HoldsFew 0 view

-- The row is one that a seat knows to say up to where a range of its own goes, or went.
abbrev pub IsOwnBorder : TreeView → ℕ → Type 0
IsOwnBorder u row = (border : Border) × IsIn border u.ranges.borders × (border.row ≡ row) × (slice_index border.its 1 ≡ u.number)

-- A seat holds these rows, each once, and has no others but those that it keeps, and the one that it lends to its own range.
abbrev pub AreHeld : ℕ → Vec Kept Global → View TreeView → List ℕ → Type 0
AreHeld rows kept view held = HasHeld rows kept view.claims (lent_of view.upper.ranges.own) held × HoldsFew (length held) view

-- The pass may take rows: it is pinned, has its number, and its list is that of the rows that it keeps.
pub record MayTake {R : Type 0} (space : Space R TreeView) (pass : Pass R TreeView) : Type 0 where
  pub reading : IsReading space pass
  pub numbered : IsNumbered pass.number pass.seat.me.0.pin
  pub list : AreKept space.table.shared.key.rows pass.seat.me.0.claims pass.kept.rows

-- One row more is held, or none.
abbrev pub HasTaken : Result ℕ Stop → List ℕ → (List ℕ → Type 0) → Type 0
HasTaken (Ok row) held Now = (¬ IsIn row held) × Now (row ∷ held)
HasTaken (Err why) held Now = Now held

-- The row that is taken is the kept one that is to be taken again for this form, by the epoch that the pass was told as it pinned, and the others are kept
-- still, in their order; or none was that old, and the same rows are kept.
abbrev pub TakesOldest : Result ℕ Stop → ℕ → ℕ → List Kept → List Kept → Type 0
TakesOldest r told like ks left = ((row : ℕ) × (r ≡ Ok row) × IsTakenOut told like row ks left) ⊎ (AreYoung told ks × (left ≡ ks))

-- So are two rows, one for each of these forms.
abbrev pub TakesTwo : Result (ℕ × ℕ) Stop → ℕ → ℕ × ℕ → List Kept → List Kept → Type 0
TakesTwo (Ok two) told likes ks left = (next : List Kept) × TakesOldest (Ok two.0) told likes.0 ks next × TakesOldest (Ok two.1) told likes.1 next left
TakesTwo (Err why) told likes ks left = Unit {0}

-- Where a try came to something, the row that it took for a base was taken so, too.
abbrev pub TakesForBase : Result (Unit {0}) Stop → ℕ → ℕ → List Kept → Type 0
TakesForBase (Ok x) row told ks = (left : List Kept) × TakesOldest (Ok row) told base_form ks left
TakesForBase (Err why) row told ks = Unit {0}

-- Two rows are held, or none.
abbrev pub HasTakenTwo : Result (ℕ × ℕ) Stop → (List ℕ → Type 0) → Type 0
HasTakenTwo (Ok two) Now = (two.0 ≢ two.1) × Now (two.0 ∷ two.1 ∷ [])
HasTakenTwo (Err why) Now = Now []

-- By these claims a seat unlinked these rows and lends those, and has no others but those that it keeps, which are those of the list.
pub record HasTakenOut (rows : ℕ) (kept : Vec Kept Global) (claims : List Claimed) (lent out : List ℕ) : Type 0 where
  pub are_kept : AreKept rows claims kept
  pub only : (row : ℕ) (c : Claim) → claim_of claims row ≡ some c → ((at : ℕ) × (c ≡ Keeps at)) ⊎ (IsIn row out ⊎ IsIn row lent)
  pub each : (row : ℕ) → IsIn row out → claim_of claims row ≡ some Unlinked
  pub lends : (row : ℕ) → IsIn row lent → claim_of claims row ≡ some Lends

-- A seat unlinked these rows, and has no others but those that it keeps, and the one that it lends to its own range.
abbrev pub AreUnlinked : ℕ → Vec Kept Global → View TreeView → List ℕ → Type 0
AreUnlinked rows kept view out = HasTakenOut rows kept view.claims (lent_of view.upper.ranges.own) out × HoldsFew (length out) view
