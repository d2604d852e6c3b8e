-- What holds of ranges between any two steps: what active ones marked is one run each, and what each seat knows of ranges is so.
use Rattle.std.specs.Prelude.{◌≡◌, ◌==◌, ◌⊎◌, cond, ℕ, ◌/◌, ◌<◌, ◌≤◌, true, List, [], ◌∷◌, ◌++◌, length, map}
use mathlib.Core.Option.{some}
use lib.ListN.{get_elem?}
use Rattle.ca_model.specs.Edges.{Bound, Unbounded, Included, Excluded, is_up_to, within}
use Rattle.ca_model.specs.History.{History, state}
use Rattle.ca_model.specs.StoreMap.{StoreMap}
use Rattle.ca_rows.specs.Words.{result_of}
use Rattle.ca_rows.specs.declared.sizes.Sizes.{Sizes}
use Rattle.ca_runs.specs.Runs.{BeginsBefore, Ends, AreRuns}
use Rattle.ca_node.specs.Layout.{sequence_unit, to_no_end, to_key}
use Rattle.ca_node.specs.Links.{IsIn, IsActive, HasBegun, IsDecided}
use Rattle.ca_node.specs.Notes.{IsBaseNote}
use Rattle.ca_node.specs.Row.{row_at, IsBorderRow, IsMarkedBy, mark_back, edge_form, route_key, pair}
use Rattle.ca_node.specs.Scenes.{IsBase, scene_of}
use Rattle.ca_node.specs.Shape.{Role}
use Rattle.ca_node.specs.True.{IsTrue}
use Rattle.ca_node.specs.TreeView.{Note, Over, Border, Begun, Ranging, Quiet, Unmarked, Marking, Left, Joining, Secured, KnownRanges, TreeView}

-- These ranges were begun, and are over.
abbrev pub IsOver : List ℕ → Over → Type 0
IsOver words x = (number : ℕ) → number < x.below → HasBegun words x.pass number × ¬ IsActive words x.pass number

-- The row has these words, and says up to where a range goes.
pub record IsTrueBorder (rows : ℕ) (words : List ℕ) (border : Border) : Type 0 where
  pub some_row : 0 < border.row
  pub in_range : border.row ≤ rows
  pub spells : row_at words border.row ≡ border.its
  pub is_border : IsBorderRow border.its

-- up to where the range goes, by the row that says so
abbrev pub top_of : List ℕ → Bound
top_of its = cond (edge_form its == to_no_end) Unbounded (cond (edge_form its == to_key) (Included (route_key its)) (Excluded (route_key its)))

-- What goes up to this bound has all keys up to there.
abbrev pub Reaches : List ℕ → Bound → Type 0
Reaches its high = (key : List ℕ) → is_up_to (top_of its) key ≡ true → is_up_to high key ≡ true

-- The notes are on the bases of the chain that leads from this row to the left.
abbrev pub AreChained : ℕ → List Note → Type 0
AreChained last [] = last ≡ 0
AreChained last (note ∷ notes) = (note.row ≡ last) × (0 < last) × AreChained (mark_back note.its) notes

-- what these bases have together, from the last one on
abbrev pub objects_of : List Note → StoreMap
objects_of [] = []
objects_of (note ∷ notes) = objects_of notes ++ map pair note.objects

-- The bases of the run that ends with this one have together what a state of the history has, one no older than this one: from the edge on, up to where the
-- last of them ends. Below the edge there may be more of the first one.
pub record IsRunShown (since history : History) (edge : Bound) (last : ℕ) (notes : List Note) : Type 0 where
  pub chained : AreChained last notes
  pub at : ℕ
  pub later : length since ≤ at
  pub seen : at ≤ length history
  pub low : Bound
  pub high : Bound
  pub before : BeginsBefore low edge
  pub ends : (note : Note) → get_elem? notes 0 ≡ some note → note.place.span.high ≡ high
  pub shown : objects_of notes ≡ within low high (state history at)

-- The seat's range is active, and its run goes from the edge on up to what that row says.
abbrev pub GoesOn : List ℕ → Ends → ℕ → Begun → Type 0
GoesOn words ends pass begun = IsActive words pass begun.number × (ends.edge ≡ begun.edge) × (ends.top ≡ begun.top)

-- The range marked a base that the tree has.
abbrev pub IsSomeMarked : List ℕ → (ℕ → Role) → ℕ → ℕ → Type 0
IsSomeMarked words role pass number = (base : ℕ) × IsBase role base × IsMarkedBy (row_at words base) pass number

-- It was decided: its run is shown, and has all keys up to where the range goes.
pub record WasDecided (z : Sizes) (words : List ℕ) (role : ℕ → Role) (since history : History) (pass : ℕ) (begun : Begun) (its : List ℕ) : Type 0 where
  pub last : ℕ
  pub some_row : 0 < last
  pub decided : IsDecided words pass begun.number last
  pub notes : List Note
  pub trues : (note : Note) → IsIn note notes → IsTrue z.rows words role note
  pub bases : (note : Note) → IsIn note notes → IsBaseNote z note
  pub run : IsRunShown since history begun.edge last notes
  pub whole : Reaches its run.high

-- How far the seat's own range is, by what it knows of it. While it has an attempt to join of its own no range of its own is active.
abbrev pub IsSoFar : Sizes → List ℕ → (ℕ → Role) → Ends → History → History → ℕ → List Border → Ranging → Type 0
IsSoFar z words role ends since history pass borders Quiet = (number : ℕ) → ¬ IsActive words pass number
IsSoFar z words role ends since history pass borders (Unmarked begun) = GoesOn words ends pass begun
    × ((row : ℕ) → IsBase role row → ¬ IsMarkedBy (row_at words row) pass begun.number)
IsSoFar z words role ends since history pass borders (Marking begun border) = IsIn border borders × (border.row ≡ begun.top)
    × ((GoesOn words ends pass begun × IsSomeMarked words role pass begun.number) ⊎ WasDecided z words role since history pass begun border.its)
IsSoFar z words role ends since history pass borders Left = Unit {0}
IsSoFar z words role ends since history pass borders (Joining x) = (number : ℕ) → ¬ IsActive words pass number
IsSoFar z words role ends since history pass borders (Secured x) = (number : ℕ) → ¬ IsActive words pass number

-- The last range of the pass has this number, whether it is over or not.
abbrev pub HasSequence : List ℕ → ℕ → ℕ → Type 0
HasSequence words pass number = (pass ≤ 64) × (result_of words pass / sequence_unit ≡ number)

-- What a seat knows of ranges is so.
pub record IsRanging (z : Sizes) (words : List ℕ) (role : ℕ → Role) (ends : Ends) (since history : History) (pass : ℕ) (ranges : KnownRanges) : Type 0 where
  pub over : (x : Over) → IsIn x ranges.over → IsOver words x
  pub borders : (border : Border) → IsIn border ranges.borders → IsTrueBorder z.rows words border
  pub own : 0 < pass → IsSoFar z words role ends since history pass ranges.borders ranges.own
  pub sequence : (number : ℕ) → 0 < pass → ranges.sequence ≡ some number → HasSequence words pass number
  pub run : (note : Note) → IsIn note ranges.run → IsTrue z.rows words role note

-- What active ranges marked is one run each, an active range is that of a pass that was made, and what each seat knows of ranges is so.
pub record AreRanged (z : Sizes) (made : ℕ) (words : List ℕ) (role : ℕ → Role) (uppers : List TreeView) (history : History) : Type 0 where
  pub ends : ℕ → Ends
  pub runs : AreRuns (scene_of words role) ends
  pub made_before : (pass number : ℕ) → IsActive words pass number → pass ≤ made
  pub each : (j : ℕ) (u : TreeView) → get_elem? uppers j ≡ some u → IsRanging z words role (ends u.number) u.since history u.number u.ranges
