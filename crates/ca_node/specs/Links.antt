-- What the root link reaches, what is lent to an operation, and which rows a seat has a note on: each by the words.
use Rattle.std.specs.Prelude.{◌≡◌, ◌⊎◌, ℕ, ◌+◌, ◌*◌, ◌/◌, ◌<◌, ◌≤◌, List, [], ◌∷◌, slice_index}
use mathlib.Core.Option.{some}
use lib.ListN.{get_elem?}
use Rattle.ca_node.specs.Row.{row_at, IsBaseRow, IsRouteRow, items, mark, mark_owner, mark_number, mark_back, mark_bound}
use Rattle.ca_node.specs.TreeView.{Note, Way, Border, Begun, Ranging, Marking, TreeView}
use Rattle.ca_rows.specs.Layout.{row_words, row_limit}
use Rattle.ca_node.specs.Layout.{root_word, sequence_unit, marked_by_range}
use Rattle.ca_rows.specs.Words.{result_of}

-- the row that the root link names
abbrev pub root : List ℕ → ℕ
root words = slice_index words root_word

abbrev pub IsIn : {A : Type 0} → A → List A → Type 0
IsIn x xs = (k : ℕ) × (get_elem? xs k ≡ some x)

-- No row of the list is in it twice.
abbrev pub AreApart : List ℕ → Type 0
AreApart [] = Unit {0}
AreApart (row ∷ rows) = (¬ IsIn row rows) × AreApart rows

-- The row is named by a link of this route.
abbrev pub IsUnder : List ℕ → ℕ → ℕ → Type 0
IsUnder words route row = (slice_index words (row_words * route + 1) ≡ row) ⊎ (slice_index words (row_words * route + 2) ≡ row)

-- The range with this sequence of this pass is active.
abbrev pub IsActive : List ℕ → ℕ → ℕ → Type 0
IsActive words pass sequence = (0 < pass) × (pass ≤ 64) × (result_of words pass ≡ sequence_unit * sequence + row_limit)

-- The range was begun, whether it is active or over.
abbrev pub HasBegun : List ℕ → ℕ → ℕ → Type 0
HasBegun words pass number = (0 < pass) × (pass ≤ 64) × (number ≤ result_of words pass / sequence_unit)

-- The range was decided with this base as the last one of its run.
abbrev pub IsDecided : List ℕ → ℕ → ℕ → ℕ → Type 0
IsDecided words pass number last = (0 < pass) × (pass ≤ 64) × (0 < last) × (last < row_limit)
    × (result_of words pass ≡ sequence_unit * number + 2 * row_limit + last)

-- An active range marked the base, and ends where this row says.
abbrev pub IsBoundOf : List ℕ → ℕ → ℕ → Type 0
IsBoundOf words base row = (mark (row_at words base) ≡ marked_by_range) × IsActive words (mark_owner (row_at words base)) (mark_number (row_at words base))
    × (mark_bound (row_at words base) ≡ row)

-- The root link reaches the row: a route leads to what its links name, a base to the object rows that it names, and while the range is
-- active that marked it, to the row that says where the range ends.
pub data IsLinked (words : List ℕ) : ℕ → Type 0 where
  by_root : (row : ℕ) → root words ≡ row → IsLinked words row
  by_route : (route row : ℕ) → IsLinked words route → IsRouteRow (row_at words route) → IsUnder words route row → IsLinked words row
  by_base : (base row : ℕ) → IsLinked words base → IsBaseRow (row_at words base) → IsIn row (items (row_at words base)) → IsLinked words row
  by_range : (base row : ℕ) → IsLinked words base → IsBaseRow (row_at words base) → IsBoundOf words base row → IsLinked words row

-- The row says where an active range ends: its operation isn't finished.
abbrev pub IsLent : List ℕ → ℕ → Type 0
IsLent words row = (base : ℕ) × IsLinked words base × IsBaseRow (row_at words base) × IsBoundOf words base row

-- The row is on the chain that leads from this base to the left, from each base to the one that was marked before it.
pub data IsOnChain (words : List ℕ) (last : ℕ) : ℕ → Type 0 where
  at_last : (row : ℕ) → last ≡ row → IsOnChain words last row
  further : (base row : ℕ) → IsOnChain words last base → mark_back (row_at words base) ≡ row → 0 < row → IsOnChain words last row

-- The pass marked bases for the range with this number, and doesn't know yet that it is over.
abbrev pub IsMarkingFor : Ranging → ℕ → Type 0
IsMarkingFor ranging number = (begun : Begun) × (border : Border) × (ranging ≡ Marking begun border) × (begun.number ≡ number)

-- The row is of the run of the seat's range, which was decided since by whomever.
abbrev pub IsOfOwnRun : List ℕ → TreeView → ℕ → Type 0
IsOfOwnRun words u row = (number : ℕ) × (last : ℕ) × IsMarkingFor u.ranges.own number × IsDecided words u.number number last × IsOnChain words last row

-- A seat has a note on each row that it was shown, on the object rows that a noted base names, on what the links of a route name
-- that it was shown, with the object rows of such a base, on each row that says up to where a range goes that it was shown, and on the run of its own
-- range once that was decided, and on the bases of a run that it was shown, with their object rows.
pub data IsNoted (words : List ℕ) (u : TreeView) : ℕ → Type 0 where
  by_note : (note : Note) (row : ℕ) → IsIn note u.notes → note.row ≡ row → IsNoted words u row
  by_item : (note : Note) (row : ℕ) → IsIn note u.notes → IsBaseRow note.its → IsIn row (items note.its) → IsNoted words u row
  by_way : (way : Way) (row : ℕ) → IsIn way u.ways → way.row ≡ row → IsNoted words u row
  by_link : (way : Way) (row : ℕ) → IsIn way u.ways → IsUnder words way.row row → IsNoted words u row
  by_link_item : (way : Way) (base row : ℕ) → IsIn way u.ways → IsUnder words way.row base → IsBaseRow (row_at words base)
      → IsIn row (items (row_at words base)) → IsNoted words u row
  by_border : (border : Border) (row : ℕ) → IsIn border u.ranges.borders → border.row ≡ row → IsNoted words u row
  by_run : (row : ℕ) → IsOfOwnRun words u row → IsNoted words u row
  by_run_item : (base row : ℕ) → IsOfOwnRun words u base → IsIn row (items (row_at words base)) → IsNoted words u row
  by_shown : (note : Note) (row : ℕ) → IsIn note u.ranges.run → note.row ≡ row → IsNoted words u row
  by_shown_item : (note : Note) (row : ℕ) → IsIn note u.ranges.run → IsBaseRow note.its → IsIn row (items note.its) → IsNoted words u row
