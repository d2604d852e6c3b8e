-- Ranges that another pass ends: it decides them with a base that has all keys up to where they go.
use Rattle.std.specs.Prelude.{◌≡◌, ◌≢◌, Bool, true, false, ℕ, ◌+◌, ◌*◌, ◌<◌, ◌∷◌}
use Rattle.atomic_table.specs.Table.{Step}
use Rattle.ca_rows.specs.Layout.{row_limit}
use Rattle.ca_rows.specs.Told.{relinked}
use Rattle.ca_node.specs.Inventory.{but, row_itself}
use Rattle.ca_node.specs.Layout.{sequence_unit}
use Rattle.ca_node.specs.Links.{IsIn}
use Rattle.ca_node.specs.Ranging.{Reaches}
use Rattle.ca_node.specs.Row.{mark_bound, IsMarkedBy}
use Rattle.ca_node.specs.Told.{MyTree, with_upper, but_of, status_word}
use Rattle.ca_node.specs.TreeView.{Note, Over, Unfinished, Border, Inventory, KnownRanges, TreeView, one_helped}

-- the word of an active range, and that of one that was decided with this base
abbrev pub active_word : ℕ → ℕ
active_word number = sequence_unit * number + row_limit

abbrev pub decided_word : ℕ → ℕ → ℕ
decided_word number last = sequence_unit * number + 2 * row_limit + last

-- The seat is pinned, and was shown this base, which that range of that pass marked.
pub record IsEnding (m : MyTree) (pass number : ℕ) (last : Note) : Type 0 where
  pub is_pinned : m.0.pin.pinned ≡ true
  pub is_pass : 0 < m.0.upper.number
  pub shown : IsIn last m.0.upper.notes
  pub marked : IsMarkedBy last.its pass number

-- It is another pass's, which the seat found unfinished, and the base has all keys up to where the range goes, as a row says that the seat was shown.
pub record IsHelping (m : MyTree) (pass number : ℕ) (last : Note) (border : Border) : Type 0 where
  pub ending : IsEnding m pass number last
  pub other : pass ≢ m.0.upper.number
  pub met : IsIn {A = Unfinished} (record { pass = pass; number = number }) m.0.upper.ranges.unfinished
  pub border_shown : IsIn border m.0.upper.ranges.borders
  pub border_is : border.row ≡ mark_bound last.its
  pub reaches : Reaches border.its last.place.span.high

-- what is known of this range of this pass, and of those before
abbrev pub over_up_to : ℕ → ℕ → Over
over_up_to pass number = record { pass = pass; below = number + 1 }

-- what the tree has once this row isn't lent to a range any more
abbrev pub without : ℕ → Inventory → Inventory
without border i = record { rows = but row_itself border i.rows; bases = i.bases; most = i.most }

-- what a seat knows of ranges that knows that this one is finished
abbrev pub finished : ℕ → ℕ → KnownRanges → KnownRanges
finished pass number ranges = record ranges { over = over_up_to pass number ∷ ranges.over; unfinished = but_of pass ranges.unfinished }

-- what a seat knows that helped a range to its end
abbrev pub helped : ℕ → ℕ → ℕ → TreeView → TreeView
helped pass number border u = record u {
  ranges = finished pass number u.ranges;
  turns = one_helped u.turns;
  inventory = without border u.inventory;
}

-- what it knows where another one had ended it: that counts as helped, too
abbrev pub too_late : ℕ → ℕ → TreeView → TreeView
too_late pass number u = record u { ranges = finished pass number u.ranges; turns = one_helped u.turns }

-- The word of the range was exchanged, and it is decided; or another one had ended it, and the seat learns that.
abbrev pub Helps : ℕ → ℕ → ℕ → Step (Unit {0}) → MyTree → ℕ → MyTree → Type 0
Helps pass number border st m n m' = (n ≡ st.first → m' ≡ relinked m m.0.claims (helped pass number border m.0.upper))
    × (n ≢ st.first → m' ≡ with_upper m (too_late pass number m.0.upper))

-- The exchange is of the word of that range's pass, and expects the range active, which the seat found unfinished.
abbrev pub IsHelpStep : ℕ → ℕ → Step (Unit {0}) → MyTree → Type 0
IsHelpStep pass number st m = (st.word ≡ status_word m.0.sizes pass) × (st.first ≡ active_word number)
    × IsIn {A = Unfinished} (record { pass = pass; number = number }) m.0.upper.ranges.unfinished

abbrev pub HasHelped : Bool → ℕ → ℕ → ℕ → MyTree → MyTree → Type 0
HasHelped true pass number border m m' = m' ≡ relinked m m.0.claims (helped pass number border m.0.upper)
HasHelped false pass number border m m' = m' ≡ with_upper m (too_late pass number m.0.upper)
