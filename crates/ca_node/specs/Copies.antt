-- Bases that are marked for a range: a copy with the range's mark takes the place of a base, and no object comes or goes.
use Rattle.std.specs.Prelude.{◌≡◌, ◌≢◌, Bool, true, false, ℕ, ◌<◌, ◌≤◌, List, [], ◌∷◌, slice_index}
use mathlib.Core.Option.{some, none}
use Rattle.atomic_table.specs.Table.{Step}
use Rattle.ca_model.specs.Edges.{Excluded}
use Rattle.ca_rows.specs.declared.sizes.Sizes.{Sizes}
use Rattle.ca_rows.specs.declared.view.Claim.TheVariants.{Holds}
use Rattle.ca_rows.specs.Claims.{claim_of}
use Rattle.ca_rows.specs.Told.{relinked}
use Rattle.ca_runs.specs.Runs.{BeginsBefore}
use Rattle.ca_node.specs.Links.{IsIn}
use Rattle.ca_node.specs.Place.{HasKey}
use Rattle.ca_node.specs.Row.{IsBaseRow, IsBorderRow, count, level, items, mark_back, mark_bound, IsMarkedBy, IsHeaded}
use Rattle.ca_node.specs.Told.{MyTree, with_upper, IsSettled, IsLastThere, Update, no_update, given, lent_out, taken_out, exchanged_inventory, one_more_lost, IsMissed}
use Rattle.ca_node.specs.TreeView.{Note, Begun, Unmarked, Marking, KnownRanges, TreeView, no_note, one_passed}

-- A copy: the base that it takes the place of, its words, and what it is marked for: this range of this pass, or this attempt to join what is under this route.
pub record Copy : Type 0 where
  pub old : Note
  pub its : List ℕ
  pub pass : ℕ
  pub number : ℕ

abbrev pub no_copy : Copy
no_copy = record { old = no_note; its = []; pass = 0; number = 0 }

-- the exchange of a copy, as one by which no object comes or goes
abbrev pub update_of : Copy → Update
update_of x = record { old = x.old; its = x.its; objects = x.old.objects; comes = []; goes = []; event = no_update.event; edit = no_update.edit }

-- the copy as a note
abbrev pub copy_note : ℕ → Copy → Note
copy_note new x = record { row = new; its = x.its; objects = x.old.objects; place = x.old.place }

-- The seat may put the new row in the place of the old base: it is pinned, its last load of that link showed that base, which no range has, it holds the new
-- one, and that is a copy with the range's mark.
pub record IsCopy (z : Sizes) (m : MyTree) (new : ℕ) (x : Copy) : Type 0 where
  pub is_pinned : m.0.pin.pinned ≡ true
  pub is_pass : 0 < m.0.upper.number
  pub shown : IsLastThere x.old m.0.upper.notes
  pub old_base : IsBaseRow x.old.its
  pub settled : IsSettled m.0.upper x.old.its
  pub held : claim_of m.0.claims new ≡ some (Holds x.its)
  pub is_base : IsBaseRow x.its
  pub level_is : level x.its ≡ x.old.place.level
  pub few : count x.its ≤ z.leaf
  pub same_items : items x.its ≡ items x.old.its
  pub headed : IsHeaded x.its x.old.objects
  pub marked : IsMarkedBy x.its x.pass x.number

-- It is the first one of the seat's own range, which was begun with this row as its end, one that the seat holds.
pub record IsFirstCopy (m : MyTree) (x : Copy) (begun : Begun) (its : List ℕ) : Type 0 where
  pub own : m.0.upper.ranges.own ≡ Unmarked begun
  pub pass_is : x.pass ≡ m.0.upper.number
  pub number_is : x.number ≡ begun.number
  pub bound_is : mark_bound x.its ≡ begun.top
  pub back_is : mark_back x.its ≡ 0
  pub held : claim_of m.0.claims begun.top ≡ some (Holds its)
  pub is_border : IsBorderRow its
  pub owner : slice_index its 1 ≡ m.0.upper.number
  pub before : BeginsBefore x.old.place.span.low begun.edge

-- It is the next one behind a base that the range marked, which the seat was shown.
pub record IsNextCopy (m : MyTree) (x : Copy) (left : Note) : Type 0 where
  pub shown : IsIn left m.0.upper.notes
  pub marked : IsMarkedBy left.its x.pass x.number
  pub bound_is : mark_bound x.its ≡ mark_bound left.its
  pub back_is : mark_back x.its ≡ left.row
  -- the key where the keys of that one end, and which the old base has
  pub key : List ℕ
  pub ends : left.place.span.high ≡ Excluded key
  pub has : HasKey x.old.place.span key

-- what a seat knows after it put a copy in place: it passed on, and knows this of ranges
abbrev pub copied : List ℕ → KnownRanges → ℕ → Copy → TreeView → TreeView
copied served ranges new x u = record u {
  notes = copy_note new x ∷ u.notes;
  ranges = ranges;
  turns = one_passed u.turns;
  inventory = exchanged_inventory served new (update_of x) u.inventory;
}

-- The copy is in place: it is linked, and the old base, which nobody claimed until then, is unlinked by the seat. These rows are lent to the range.
pub record IsCopied (served : List ℕ) (ranges : KnownRanges) (new : ℕ) (x : Copy) (m m' : MyTree) : Type 0 where
  pub now : m' ≡ relinked m (lent_out served (taken_out (x.old.row ∷ []) (given (new ∷ []) m.0.claims))) (copied served ranges new x m.0.upper)
  pub unclaimed : claim_of m.0.claims x.old.row ≡ none

-- The link was exchanged, and the copy is in place; or the exchange was lost, which is counted, and nothing else changed.
abbrev pub Copies : List ℕ → KnownRanges → Copy → Step (Unit {0}) → MyTree → ℕ → MyTree → Type 0
Copies served ranges x st m n m' = (n ≡ st.first → IsCopied served ranges st.second x m m')
    × (n ≢ st.first → (m' ≡ with_upper m (one_more_lost m.0.upper)) × IsMissed x.old m)

abbrev pub HasCopied : Bool → List ℕ → KnownRanges → ℕ → Copy → MyTree → MyTree → Type 0
HasCopied true served ranges new x m m' = IsCopied served ranges new x m m'
HasCopied false served ranges new x m m' = m' ≡ with_upper m (one_more_lost m.0.upper)

-- what a seat knows of ranges once the first base of its own one is marked
abbrev pub marking_now : KnownRanges → Begun → List ℕ → KnownRanges
marking_now ranges begun its = record ranges {
  borders = record { row = begun.top; its = its } ∷ ranges.borders;
  own = Marking begun (record { row = begun.top; its = its });
}
