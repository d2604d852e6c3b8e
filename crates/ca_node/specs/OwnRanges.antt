-- What a pass does with its own range: it begins it, looks how far it is, decides it, or gives it up.
use Rattle.std.specs.Prelude.{◌≡◌, ◌≢◌, ◌⊎◌, Bool, true, false, ℕ, ◌+◌, ◌/◌, ◌%◌, ◌<◌, ◌≤◌, List, ◌∷◌, ◌++◌, length}
use mathlib.Core.Option.{some}
use Rattle.atomic_table.specs.Table.{Step}
use Rattle.ca_model.specs.History.{History}
use Rattle.ca_rows.specs.Layout.{row_limit}
use Rattle.ca_rows.specs.Told.{relinked}
use Rattle.ca_node.specs.Endings.{active_word, decided_word, over_up_to, without}
use Rattle.ca_node.specs.Layout.{sequence_unit}
use Rattle.ca_node.specs.Links.{IsIn}
use Rattle.ca_node.specs.Notes.{IsBaseNote}
use Rattle.ca_node.specs.Ranging.{IsRunShown, Reaches}
use Rattle.ca_node.specs.Row.{IsMarkedBy}
use Rattle.ca_node.specs.States.{IsAlone}
use Rattle.ca_node.specs.Told.{MyTree, with_upper, IsKnown, status_word}
use Rattle.ca_node.specs.TreeView.{Note, Over, Border, Begun, Ranging, Quiet, Unmarked, Marking, Left, Joining, Secured, KnownRanges, TreeView}

-- The seat may begin a range: it is pinned, its last one is over, and this one has the next number.
pub record IsOpening (m : MyTree) (begun : Begun) : Type 0 where
  pub is_pinned : m.0.pin.pinned ≡ true
  pub is_pass : 0 < m.0.upper.number
  pub quiet : m.0.upper.ranges.own ≡ Quiet
  pub last : ℕ
  pub sequence : m.0.upper.ranges.sequence ≡ some last
  pub next : begun.number ≡ last + 1

-- what a seat knows once it began a range
abbrev pub opened : Begun → TreeView → TreeView
opened begun u = record u { ranges = record u.ranges { own = Unmarked begun; sequence = some begun.number } }

-- The word of the seat's range was stored, and the range is active.
abbrev pub Opens : Begun → Step (Unit {0}) → MyTree → ℕ → MyTree → Type 0
Opens begun st m n m' = IsOpening m begun × (m' ≡ with_upper m (opened begun m.0.upper))

-- what a seat knows of ranges whose own one is over, and which was shown this run
abbrev pub ended_with_run : ℕ → ℕ → List Note → KnownRanges → KnownRanges
ended_with_run pass number run ranges = record ranges { over = over_up_to pass number ∷ ranges.over; own = Quiet; run = run }

-- The run of the seat's range was shown, which ends with this row: it has what a state since the pin has, one that the seat has seen. A base of it that was
-- shown before has the words that it had. They are no more than there are rows.
pub record IsRunSeen (m : MyTree) (more : History) (begun : Begun) (last : ℕ) (run : List Note) : Type 0 where
  pub shown : IsRunShown m.0.upper.since (m.0.upper.seen ++ more) begun.edge last run
  pub bases : 0 < m.0.sizes.rows → (note : Note) → IsIn note run → IsBaseNote m.0.sizes note
  pub few : 0 < m.0.sizes.rows → length run ≤ m.0.sizes.rows
  pub alike : (note old : Note) → IsIn note run → IsIn old m.0.upper.notes → old.row ≡ note.row → (note.its ≡ old.its) × (note.objects ≡ old.objects)

-- The word of the seat's own range was loaded. Where something was marked for it and it isn't active any more, another one has decided it: its run is shown,
-- and it has all keys up to where the range goes.
pub record HasFoundRun (m : MyTree) (n : ℕ) (m' : MyTree) (begun : Begun) (border : Border) : Type 0 where
  pub last : ℕ
  pub word : n ≡ decided_word begun.number last
  pub small : last < row_limit
  pub some_row : 0 < last
  pub more : History
  pub run : List Note
  pub seen : IsRunSeen m more begun last run
  pub whole : Reaches border.its seen.shown.high
  pub now : m' ≡ with_upper m (record m.0.upper {
    seen = m.0.upper.seen ++ more;
    ranges = record (ended_with_run m.0.upper.number begun.number run m.0.upper.ranges) { sequence = some begun.number };
  })
  pub known : 0 < m.0.sizes.rows → IsKnown m.0.sizes (record m.0.upper { seen = m.0.upper.seen ++ more })

-- what a seat knows that loaded the word of its own range: the number of it
abbrev pub numbered_by : ℕ → TreeView → TreeView
numbered_by n u = record u { ranges = record u.ranges { sequence = some (n / sequence_unit) } }

-- The seat knows that this range of its own is over.
abbrev pub IsKnownEnded : TreeView → ℕ → Type 0
IsKnownEnded u number = (x : Over) × IsIn x u.ranges.over × (x.pass ≡ u.number) × (number < x.below)

-- what the load tells, by how far the seat knew its range to be: one that it knows to be over isn't active
abbrev pub IsFoundSo : MyTree → ℕ → MyTree → Ranging → Type 0
IsFoundSo m n m' Quiet = (n % sequence_unit ≢ row_limit) × (m' ≡ with_upper m (numbered_by n m.0.upper))
IsFoundSo m n m' (Unmarked begun) = (n ≡ active_word begun.number) × (m' ≡ with_upper m (numbered_by n m.0.upper))
IsFoundSo m n m' (Marking begun border) = ((n ≡ active_word begun.number) × (m' ≡ with_upper m (numbered_by n m.0.upper)) × ¬ IsKnownEnded m.0.upper begun.number)
    ⊎ HasFoundRun m n m' begun border
IsFoundSo m n m' Left = m' ≡ with_upper m (numbered_by n m.0.upper)
IsFoundSo m n m' (Joining x) = (n % sequence_unit ≢ row_limit) × (m' ≡ with_upper m (numbered_by n m.0.upper))
IsFoundSo m n m' (Secured x) = (n % sequence_unit ≢ row_limit) × (m' ≡ with_upper m (numbered_by n m.0.upper))

abbrev pub WatchesOwn : Step (Unit {0}) → MyTree → ℕ → MyTree → Type 0
WatchesOwn st m n m' = (0 < m.0.upper.number) × (st.word ≡ status_word m.0.sizes m.0.upper.number) × IsFoundSo m n m' m.0.upper.ranges.own

-- The seat may decide its own range with this base, which that range marked, and which the seat was shown.
pub record IsOwnEnding (m : MyTree) (begun : Begun) (border : Border) (last : Note) : Type 0 where
  pub is_pinned : m.0.pin.pinned ≡ true
  pub is_pass : 0 < m.0.upper.number
  pub own : m.0.upper.ranges.own ≡ Marking begun border
  pub shown : IsIn last m.0.upper.notes
  pub marked : IsMarkedBy last.its m.0.upper.number begun.number

-- The range is decided with that base: its run is shown, and it has all keys up to where that base ends.
pub record IsOwnDecided (m m' : MyTree) (begun : Begun) (border : Border) (last : Note) : Type 0 where
  pub more : History
  pub run : List Note
  pub seen : IsRunSeen m more begun last.row run
  pub high_is : seen.shown.high ≡ last.place.span.high
  pub now : m' ≡ relinked m m.0.claims (record m.0.upper {
    seen = m.0.upper.seen ++ more;
    ranges = ended_with_run m.0.upper.number begun.number run m.0.upper.ranges;
    inventory = without border.row m.0.upper.inventory;
  })
  pub known : 0 < m.0.sizes.rows → IsKnown m.0.sizes (record m.0.upper { seen = m.0.upper.seen ++ more })

-- what a seat knows that learns that its own range is over, whose run it may still be shown
abbrev pub own_over : ℕ → TreeView → TreeView
own_over number u = record u { ranges = record u.ranges { over = over_up_to u.number number ∷ u.ranges.over } }

-- Another pass had ended the seat's range, which a pass that is alone never finds.
abbrev pub IsOvertaken : MyTree → Type 0
IsOvertaken m = 0 < m.0.sizes.rows → ¬ IsAlone m.0.sizes m.0.upper

-- The word of the seat's range was exchanged, and it decided it; or another one had, and the seat learns that.
abbrev pub DecidesOwn : Begun → Border → Note → Step (Unit {0}) → MyTree → ℕ → MyTree → Type 0
DecidesOwn begun border last st m n m' = (n ≡ st.first → IsOwnDecided m m' begun border last)
    × (n ≢ st.first → (m' ≡ with_upper m (own_over begun.number m.0.upper)) × IsOvertaken m)

abbrev pub HasDecidedOwn : Bool → Begun → Border → Note → MyTree → MyTree → Type 0
HasDecidedOwn true begun border last m m' = IsOwnDecided m m' begun border last
HasDecidedOwn false begun border last m m' = m' ≡ with_upper m (own_over begun.number m.0.upper)

-- what a seat knows whose own range is over, and which wants to know no more of it
abbrev pub given_up : ℕ → TreeView → TreeView
given_up number u = record u { ranges = ended_with_run u.number number u.ranges.run u.ranges }

-- The seat gives its own range up: before it marked a base,
pub record IsLeaving (m : MyTree) (begun : Begun) : Type 0 where
  pub is_pinned : m.0.pin.pinned ≡ true
  pub is_pass : 0 < m.0.upper.number
  pub own : m.0.upper.ranges.own ≡ Unmarked begun

-- in which case nobody else can end it;
abbrev pub Leaves : Begun → Step (Unit {0}) → MyTree → ℕ → MyTree → Type 0
Leaves begun st m n m' = IsLeaving m begun × (n ≡ st.first) × (m' ≡ relinked m m.0.claims (given_up begun.number m.0.upper))

-- or behind that, and another one may have decided it. Either way it is over.
pub record IsGivingUp (m : MyTree) (begun : Begun) (border : Border) : Type 0 where
  pub is_pinned : m.0.pin.pinned ≡ true
  pub is_pass : 0 < m.0.upper.number
  pub own : m.0.upper.ranges.own ≡ Marking begun border

-- what a seat knows that gave its range up: the row that said up to where it went is linked no more
abbrev pub aborted : ℕ → ℕ → TreeView → TreeView
aborted number border u = record (given_up number u) { inventory = without border u.inventory }

abbrev pub Aborts : Begun → Border → Step (Unit {0}) → MyTree → ℕ → MyTree → Type 0
Aborts begun border st m n m' = (n ≡ st.first → m' ≡ relinked m m.0.claims (aborted begun.number border.row m.0.upper))
    × (n ≢ st.first → (m' ≡ with_upper m (given_up begun.number m.0.upper)) × IsOvertaken m)

abbrev pub HasAborted : Bool → Begun → Border → MyTree → MyTree → Type 0
HasAborted true begun border m m' = m' ≡ relinked m m.0.claims (aborted begun.number border.row m.0.upper)
HasAborted false begun border m m' = m' ≡ with_upper m (given_up begun.number m.0.upper)
