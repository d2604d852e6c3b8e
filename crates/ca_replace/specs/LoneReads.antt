-- Reads of what is within edges, of a pass that is alone: they spend turns for bases alone, and each attempt comes to something.
use Rattle.std.specs.Prelude.{◌≡◌, ℕ, ◌+◌, ◌*◌, ◌≤◌, length, Result, Ok, Err, IfErr, vec_len}
use Rattle.ca_base.specs.Counting.{losses}
use Rattle.ca_base.specs.Putting.{first_note}
use Rattle.ca_model.specs.declared.outcome.Cause.{Cause}
use Rattle.ca_model.specs.declared.outcome.Outcome.{Outcome}
use Rattle.ca_node.specs.Aside.{IsLeftOf}
use Rattle.ca_node.specs.Inventory.{IsListed}
use Rattle.ca_node.specs.Links.{IsIn}
use Rattle.ca_node.specs.States.{HasState, IsAlone}
use Rattle.ca_node.specs.Told.{MyTree}
use Rattle.ca_node.specs.TreeView.{Note, TreeView}
use Rattle.ca_replace.specs.declared.missing.Miss.{Miss}
use Rattle.ca_replace.specs.declared.missing.Miss.TheVariants as miss
use Rattle.ca_replace.specs.Alone.{IsCrowdedCall, IsCrowdedCause, IsShortOfRows}
use Rattle.ca_replace.specs.Attempting.{helps, passes}
use Rattle.ca_rows.specs.declared.sizes.Sizes.{Sizes}
use Rattle.ca_rows.specs.declared.space.Pass.{Pass}
use Rattle.ca_rows.specs.declared.space.Space.{Space}

-- how many bases a seat knows the tree to have
abbrev pub bases_at : MyTree → ℕ
bases_at m = length m.0.upper.inventory.bases

-- From one of these moments to the other a pass passed on to another place so often, at most. It lost no exchange and helped nothing, it learnt of nothing,
-- and its tree has no more rows and bases than it had.
pub record PassesAlone (most : ℕ) (m m' : MyTree) : Type 0 where
  pub unlost : losses m' ≡ losses m
  pub unhelped : helps m' ≡ helps m
  pub passed : passes m ≤ passes m'
  pub few : passes m' ≤ passes m + most
  pub rows : length m'.0.upper.inventory.rows ≤ length m.0.upper.inventory.rows
  pub bases : bases_at m' ≤ bases_at m
  pub still : m'.0.upper.seen ≡ m.0.upper.seen

-- So it looked from base to base to the left, at each base once at most. The one that it looked at last stands in the tree, to the left of all that were shown
-- before, and has what the last state has.
pub record GoesLeftAlone (z : Sizes) (m m' : MyTree) : Type 0 where
  pub goes : PassesAlone (bases_at m) m m'
  pub same : m'.0.upper.inventory ≡ m.0.upper.inventory
  pub number : m'.0.upper.number ≡ m.0.upper.number
  pub listed : IsListed m.0.upper.inventory (first_note m'.0.upper.notes)
  pub has : HasState z m'.0.upper (first_note m'.0.upper.notes)
  pub left : (note : Note) → IsIn note m.0.upper.notes → IsLeftOf note.place.span.low (first_note m'.0.upper.notes)

-- Where an attempt came to nothing that began with so many rows kept, it needn't be made anew; and where it found no free row the space was short of rows as
-- it began: by then it kept a row more for each base, and one, and eight are neither linked nor kept, at most.
abbrev pub HasMissedAlone : {T : Type 0} → Sizes → ℕ → Result T Miss → TreeView → Type 0
HasMissedAlone z kept (Ok x) u = Unit {0}
HasMissedAlone z kept (Err miss.Again) u = ⊥
HasMissedAlone z kept (Err miss.Busy) u = Unit {0}
HasMissedAlone z kept (Err miss.NoRow) u = IsShortOfRows z (length u.inventory.bases + kept + 9) u
HasMissedAlone z kept (Err (miss.Worn which)) u = Unit {0}

-- So it is of an attempt, which passed on so often, at most.
abbrev pub LooksAlone : {T : Type 0} → Sizes → ℕ → ℕ → Result T Miss → MyTree → MyTree → Type 0
LooksAlone z most kept r m m' = PassesAlone most m m' × HasMissedAlone z kept r m.0.upper

-- So it is of a pass of this space, where it is alone.
abbrev pub LooksIfAlone : {R T : Type 0} → Space R TreeView → ℕ → Result T Miss → Pass R TreeView → Pass R TreeView → Type 0
LooksIfAlone space most r pass new = IsAlone space.table.shared.key pass.seat.me.0.upper
    → LooksAlone space.table.shared.key most (vec_len pass.kept.rows) r pass.seat.me new.seat.me

-- Attempts passed on four times for each base, at most, and where the call is refused for want of rows the space was short of them as it began.
abbrev pub ReadsAlone : {T : Type 0} → Sizes → Result T Cause → MyTree → MyTree → Type 0
ReadsAlone z r m m' = PassesAlone (4 * bases_at m) m m' × IfErr r (λ why. IsCrowdedCause z (bases_at m + 11) m.0.upper why)

-- So it is of a call, by its outcome.
abbrev pub ReadsAloneTo : {T : Type 0} → Sizes → Outcome T → MyTree → MyTree → Type 0
ReadsAloneTo z o m m' = PassesAlone (4 * bases_at m) m m' × IsCrowdedCall z (bases_at m + 11) m.0.upper o
