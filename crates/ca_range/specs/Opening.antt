-- A range of a pass's own begins.
use Rattle.std.specs.Prelude.{◌≡◌, ℤ, ℕ, ◌+◌, ◌≤◌, Bool, true, false, List, [], ◌∷◌, Option, Some, None}
use mathlib.Core.Option.{some}
use Rattle.ca_adapt.specs.Statistics.{IsKept, IsStatisticOf, IsWordOf}
use Rattle.ca_adapt.specs.declared.tuning.Tuning.{Tuning}
use Rattle.ca_base.specs.Finding.{IsAtCursor}
use Rattle.ca_base.specs.Putting.{first_note, words_of}
use Rattle.ca_model.specs.Edges.{Bound}
use Rattle.ca_node.specs.Copies.{IsCopy, IsFirstCopy, copied, marking_now}
use Rattle.ca_node.specs.declared.cursor.Cursor.{Cursor}
use Rattle.ca_node.specs.OwnRanges.{given_up}
use Rattle.ca_node.specs.Told.{MyTree, one_more_lost, with_upper}
use Rattle.ca_node.specs.TreeView.{Begun, Note, TreeView, Unmarked}
use Rattle.ca_rows.specs.Claims.{claim_of}
use Rattle.ca_rows.specs.declared.sizes.Sizes.{Sizes}
use Rattle.ca_rows.specs.declared.view.Claim.TheVariants.{Holds}
use Rattle.ca_rows.specs.Layout.{last_sequence}
use Rattle.ca_range.specs.Copying.{SpellsCopy}
use Rattle.ca_range.specs.Edged.{SpellsBorder}
use Rattle.ca_range.specs.Marked.{copy_of}
use Rattle.ca_range.specs.declared.copying.Mark.{Mark}
use Rattle.ca_range.specs.declared.opening.Rows.{Rows}
use Rattle.ca_range.specs.declared.own.Own.{Own}

-- what a seat knows that knows the number of its last range
abbrev pub with_sequence : ℕ → TreeView → TreeView
with_sequence last u = record u { ranges = record u.ranges { sequence = some last } }

-- It is the number behind that of the pass's last range.
abbrev pub IsNumberOf : TreeView → ℕ → Type 0
IsNumberOf u number = (last : ℕ) × (u.ranges.sequence ≡ some last) × (number ≡ last + 1) × (number ≤ last_sequence)

-- The number of its last range was loaded, and this is the next one; or that was the last one that there is.
abbrev pub HasNumbered : Option ℕ → MyTree → MyTree → Type 0
HasNumbered None m m' = m' ≡ with_upper m (with_sequence last_sequence m.0.upper)
HasNumbered (Some number) m m' = (last : ℕ) × (m' ≡ with_upper m (with_sequence last m.0.upper)) × (number ≡ last + 1) × (number ≤ last_sequence)

-- the range that is begun, from where on it wants keys
abbrev pub begun_at : Own → Bound → Begun
begun_at own lo = record { number = own.number; edge = lo; top = own.border }

-- The one word is for what is kept of the statistic that the other one is for.
abbrev pub IsKeptWord : Tuning → ℕ → ℕ → Type 0
IsKeptWord t word kept = (old : ℤ) × (new : ℤ) × IsStatisticOf word old × IsKept t old new × IsWordOf new kept

-- The rows have these words.
pub record HasWrittenFirst (number : ℕ) (hi : Bound) (mark : Mark) (rows : Rows) (note : Note) (m m' : MyTree) : Type 0 where
  pub copy : List ℕ
  pub border : List ℕ
  pub copy_held : claim_of m'.0.claims rows.copy ≡ some (Holds copy)
  pub border_held : claim_of m'.0.claims rows.own.border ≡ some (Holds border)
  pub copy_spells : SpellsCopy note mark copy
  pub border_spells : SpellsBorder number hi border
  pub only : m' ≡ (record m.0 { claims = m'.0.claims }, m.1)

-- A range was begun, and the copy of its first base may be put in place.
pub record IsFirstReady (z : Sizes) (m : MyTree) (rows : Rows) (first : Cursor) : Type 0 where
  pub begun : Begun
  pub own : m.0.upper.ranges.own ≡ Unmarked begun
  pub number_is : begun.number ≡ rows.own.number
  pub small : rows.own.number ≤ last_sequence
  pub top_is : begun.top ≡ rows.own.border
  pub copy : IsCopy z m rows.copy (copy_of m rows.copy)
  pub first_copy : IsFirstCopy m (copy_of m rows.copy) begun (words_of (claim_of m.0.claims begun.top))
  pub at : IsAtCursor z (first_note m.0.upper.notes) first

-- It is in place; or the range was given up, and one exchange of a link was lost.
abbrev pub HasPutFirst : Bool → Rows → MyTree → MyTree → Type 0
HasPutFirst true rows m m' = (begun : Begun) × (m.0.upper.ranges.own ≡ Unmarked begun)
    × (m'.0.upper ≡ copied (begun.top ∷ []) (marking_now m.0.upper.ranges begun (words_of (claim_of m.0.claims begun.top))) rows.copy
    (copy_of m rows.copy) m.0.upper)
HasPutFirst false rows m m' = m'.0.upper ≡ given_up rows.own.number (one_more_lost m.0.upper)
