-- Looks from base to base to the left.
use Rattle.std.specs.Prelude.{◌≡◌, ℕ, ◌+◌, ◌<◌, ◌≤◌, ◌++◌, Bool, true, false, List, [], ◌∷◌, Option, None, Some, length}
use denote.Ref.{Bor}
use Rattle.ca_base.specs.Putting.{first_note}
use Rattle.ca_model.specs.declared.outcome.Spent.{Spent}
use Rattle.ca_model.specs.Edges.{Bound, Unbounded, Included}
use Rattle.ca_node.specs.declared.cursor.Cursor.{Cursor}
use Rattle.ca_node.specs.declared.cursor.Spot.TheVariants as spot
use Rattle.ca_node.specs.Row.{route_key}
use Rattle.ca_node.specs.Aside.{IsLeftOf, IsRightBelow, passed_on}
use Rattle.ca_node.specs.Links.{IsIn}
use Rattle.ca_node.specs.Told.{MyTree, with_upper}
use Rattle.ca_node.specs.TreeView.{Note, TreeView}
use Rattle.ca_node.specs.Walking.{IsLowRoute, IsWalked}
use Rattle.ca_range.specs.Reaching.{IsKeyShown}
use Rattle.ca_range.specs.Staying.{OnlySteps}
use Rattle.ca_replace.specs.Attempting.{IsPaid, passes, total}
use Rattle.ca_rows.specs.declared.sizes.Sizes.{Sizes}

-- The route's key is where a base begins that was shown since the pin, and what has the keys right below it is on the left of all that were.
pub record IsLeftEnd (z : Sizes) (u : TreeView) (route : ℕ) : Type 0 where
  pub bound : Bound
  pub low : IsLowRoute z u.ways (Some route) bound
  pub left : (new : Note) → IsRightBelow bound new → (note : Note) → IsIn note u.notes → IsLeftOf note.place.span.low new
  pub beside : (note : Note) × IsIn note u.notes × (note.place.span.low ≡ bound)

-- The base that has the keys right below the route's key was looked at, by a walk, and that was one turn.
pub record HasLookedAside (z : Sizes) (route : ℕ) (cursor : Cursor) (m m' : MyTree) : Type 0 where
  pub key : Bor (List ℕ)
  pub key_is : (its : List ℕ) → IsKeyShown m.0.upper route its → key.now ≡ route_key its
  pub mid : MyTree
  pub walked : IsWalked z (spot.Below key) m cursor mid
  pub counted : m' ≡ with_upper mid (passed_on mid.0.upper)

-- Bases were looked at: what else the pass knows of ranges, what it counted of the pool and what it edited are as before. The looks were added to what was spent.
pub record HasLookedLeft (z : Sizes) (before now : Spent) (m m' : MyTree) : Type 0 where
  pub raised : m' ≡ with_upper m m'.0.upper
  pub steps : OnlySteps z 0 m.0.upper m'.0.upper
  pub no_join : m'.0.upper.joins ≡ m.0.upper.joins
  pub unfinished : m'.0.upper.ranges.unfinished ≡ m.0.upper.ranges.unfinished
  pub paid : IsPaid before now m m'

-- The first base that is looked at to the left of a route's key has the keys right below it.
abbrev pub IsFirstLook : Sizes → TreeView → ℕ → Note → Type 0
IsFirstLook z u from note = (bound : Bound) × IsLowRoute z u.ways (Some from) bound × IsRightBelow bound note

-- These bases were looked at, the last one first, each right below the one before, which has no object.
abbrev pub AreLooks : (Note → Type 0) → List Note → Type 0
AreLooks first [] = Unit {0}
AreLooks first (note ∷ []) = first note
AreLooks first (note ∷ before ∷ notes) = IsRightBelow before.place.span.low note × (before.objects ≡ []) × AreLooks first (before ∷ notes)

-- At least one base was looked at, to the left of a route's key, and each of them was a turn.
pub record HasGoneLeft (z : Sizes) (from : ℕ) (m m' : MyTree) : Type 0 where
  pub looks : List Note
  pub some : 0 < length looks
  pub notes : m'.0.upper.notes ≡ looks ++ m.0.upper.notes
  pub turns : passes m' ≡ passes m + length looks
  pub are : AreLooks (IsFirstLook z m.0.upper from) looks

-- So were some, or none, and the next look is one to the left of this route's key, and of all that was shown.
pub record MayGoLeft (z : Sizes) (from route : ℕ) (m m' : MyTree) : Type 0 where
  pub looks : List Note
  pub notes : m'.0.upper.notes ≡ looks ++ m.0.upper.notes
  pub turns : passes m' ≡ passes m + length looks
  pub end : IsLeftEnd z m'.0.upper route
  pub next : (note : Note) → IsRightBelow end.bound note → AreLooks (IsFirstLook z m.0.upper from) (note ∷ looks)

-- So looks end: the base that was looked at last has an object, and begins with this key; or it is the leftmost one; or the budget is spent.
abbrev pub IsEndOfLooks : ℕ → Spent → Option Bool → List ℕ → TreeView → Type 0
IsEndOfLooks budget spent (Some true) low u = ((first_note u.notes).place.span.low ≡ Included low) × (0 < length (first_note u.notes).objects)
    × (total spent < budget)
IsEndOfLooks budget spent (Some false) low u = ((first_note u.notes).place.span.low ≡ Unbounded) × (total spent < budget)
IsEndOfLooks budget spent None low u = budget ≤ total spent
