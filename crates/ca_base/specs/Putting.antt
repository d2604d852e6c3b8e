-- Updates that put an object: what becomes of a base, and which call it is.
use Rattle.std.specs.Prelude.{◌≡◌, ℕ, ◌+◌, ◌<◌, ◌≤◌, true, List, [], ◌∷◌, length, map, slice_index, slice_index_or, slice_set, Some, Result, Ok, Err}
use Rattle.std.specs.List.{insert}
use mathlib.Core.Option.{Option, some, none}
use Rattle.ca_model.specs.Event.{Event, Write, WriteNew, Change}
use Rattle.ca_model.specs.History.{Edit, Put, after_edit}
use Rattle.ca_node.specs.Links.{IsIn}
use Rattle.ca_node.specs.Place.{edit_key}
use Rattle.ca_node.specs.Row.{items, object, key, pair, item_words, IsUnmarked}
use Rattle.ca_node.specs.Notes.{IsBaseNote}
use Rattle.ca_node.specs.Told.{MyTree, IsKnown, Update, one_more_lost, updated_inventory, IsSettled}
use Rattle.ca_node.specs.TreeView.{Note, Renewal, TreeView, no_note}
use Rattle.ca_base.specs.declared.stop.Exchange.TheVariants as exchange
use Rattle.ca_base.specs.declared.stop.Stop.{Stop}
use Rattle.ca_base.specs.declared.stop.Stop.TheVariants as stop
use Rattle.ca_base.specs.declared.updating.Putting.{Putting}
use Rattle.ca_base.specs.declared.updating.Putting.TheVariants as putting
use Rattle.ca_base.specs.Progress.{HasDone}
use Rattle.ca_rows.specs.declared.sizes.Sizes.{Sizes}
use Rattle.ca_rows.specs.declared.view.Met.{Met}
use Rattle.ca_rows.specs.declared.view.Claim.{Claim}
use Rattle.ca_rows.specs.declared.view.Claim.TheVariants.{Holds, Lends, Unlinked, Keeps}
use Rattle.ca_rows.specs.Claims.{claim_of}

-- the elements with this one at the place: in that of another one, or between two
abbrev pub put_in : {A : Type 0} → List A → Result ℕ ℕ → A → List A
put_in xs (Ok at) x = slice_set xs at x
put_in xs (Err at) x = insert xs at x

-- the item whose place it is, if one's
abbrev pub gone : Result ℕ ℕ → List ℕ → List ℕ
gone (Ok at) these = slice_index these at ∷ []
gone (Err at) these = []

-- It is the item whose place it is, if it is one's.
abbrev pub IsItemAt : Result ℕ ℕ → List ℕ → ℕ → Type 0
IsItemAt (Ok at) these item = item ≡ slice_index these at
IsItemAt (Err at) these item = Unit {0}

-- the bytes of the object whose place it is, if one's
abbrev pub object_at : Result ℕ ℕ → List (List ℕ) → List ℕ
object_at (Ok at) objects = object (slice_index_or objects at [])
object_at (Err at) objects = []

-- There is room for one item more, where it isn't put in the place of another one.
abbrev pub IsRoom : Result ℕ ℕ → ℕ → ℕ → Type 0
IsRoom (Ok at) count leaf = Unit {0}
IsRoom (Err at) count leaf = count < leaf

-- An item can be put there, where there are so many.
abbrev pub IsPlaceFor : Result ℕ ℕ → ℕ → Type 0
IsPlaceFor (Ok at) count = at < count
IsPlaceFor (Err at) count = (at ≤ count) × (count < 120)

-- the call that puts the object under the key, where this one was
abbrev pub put_event : Putting → List ℕ → List ℕ → List ℕ → Event
put_event putting.Put k was o = Write k o
put_event putting.PutNew k was o = WriteNew k o true
put_event putting.Change k was o = Change k (Some was) (Some o)

-- The call may put its object there: a new one where there is none, and a changed one where there is one.
abbrev pub IsFor : Putting → Result ℕ ℕ → Type 0
IsFor putting.Put place = Unit {0}
IsFor putting.PutNew (Ok at) = ⊥
IsFor putting.PutNew (Err at) = Unit {0}
IsFor putting.Change (Ok at) = Unit {0}
IsFor putting.Change (Err at) = ⊥

-- the update of a base by an object row and a new base row with these words
abbrev pub put_update : Note → ℕ → List ℕ → List ℕ → Result ℕ ℕ → Putting → Update
put_update note row its new place why = record {
  old = note;
  its = new;
  objects = put_in note.objects place its;
  comes = row ∷ [];
  goes = gone place (items note.its);
  event = put_event why (key its) (object_at place note.objects) (object its);
  edit = Put (key its) (object its);
}

-- the base that was shown last
abbrev pub first_note : List Note → Note
first_note [] = no_note
first_note (note ∷ notes) = note

-- its items, and the words that say them
abbrev pub last_items : TreeView → List ℕ
last_items u = items (first_note u.notes).its

abbrev pub last_words : TreeView → List ℕ
last_words u = item_words (first_note u.notes).its

-- the words of a row that is held
abbrev pub words_of : Option Claim → List ℕ
words_of none = []
words_of (some (Holds its)) = its
words_of (some Lends) = []
words_of (some Unlinked) = []
words_of (some (Keeps t)) = []

-- the update by rows that the seat holds, of the base that it was shown last
abbrev pub put_update_of : MyTree → ℕ → ℕ → Result ℕ ℕ → Putting → Update
put_update_of m row new place why = put_update (first_note m.0.upper.notes) row
    (words_of (claim_of m.0.claims row)) (words_of (claim_of m.0.claims new)) place why

-- The base with this row was shown last, and no range has it.
pub record IsShownLast (z : Sizes) (u : TreeView) (base : ℕ) : Type 0 where
  pub noted : IsIn (first_note u.notes) u.notes
  pub here : (first_note u.notes).row ≡ base
  pub is_base : IsBaseNote z (first_note u.notes)
  pub settled : IsSettled u (first_note u.notes).its

-- The base was shown last, and names so many items, few enough for a row.
abbrev pub IsShownWith : Sizes → TreeView → ℕ → ℕ → Type 0
IsShownWith z u base many = IsShownLast z u base × ((many ≡ length (last_words u)) × (many ≤ 120))

-- what a pass knows of the tree where a try came to nothing: where the exchange of a link was lost, that is counted
abbrev pub stopped : Stop → TreeView → TreeView
stopped (stop.Lost exchange.Link) u = one_more_lost u
stopped (stop.Lost exchange.Head) u = u
stopped stop.Empty u = u
stopped stop.Worn u = u

-- A try to exchange a base: the call is done, and what the pass has seen then is known of a history; or it came to nothing.
abbrev pub HasTried : {T : Type 0} → Event → Sizes → Result T Stop → TreeView → TreeView → Type 0
HasTried event z (Ok x) u v = HasDone event u v × IsKnown z v
HasTried event z (Err why) u v = v ≡ stopped why u

-- one update more: about this key, of the base that was there, by the one that took its place, given what was met of the pool until then
abbrev pub renewal_of : Met → TreeView → List ℕ → Note → Note → Renewal
renewal_of met u key old new = record {
  count = u.renewal.count + 1;
  key = key;
  old = old;
  new = new;
  lost = u.lost;
  splits = u.splits;
  joins = u.joins;
  loads = u.loads;
  passed = u.turns.passed;
  tries = u.tries;
  met = met;
}

-- A new base was shown, at the place of the one that was shown last: it has what that one had after the edit, and this word for its statistic. No
-- range marked it. So much had been met of the pool until then.
pub record IsRenewed (z : Sizes) (met : Met) (statistic : ℕ) (edit : Edit) (u v : TreeView) : Type 0 where
  pub notes : v.notes ≡ first_note v.notes ∷ u.notes
  pub ways : v.ways ≡ u.ways
  pub is_base : IsBaseNote z (first_note v.notes)
  pub unmarked : IsUnmarked (first_note v.notes).its
  pub place : (first_note v.notes).place ≡ (first_note u.notes).place
  pub has : map pair (first_note v.notes).objects ≡ after_edit edit (map pair (first_note u.notes).objects)
  pub statistic_is : slice_index (first_note v.notes).its 1 ≡ statistic
  -- No base was split, none was joined or tried to be, no exchange of a link was lost, and no link was loaded.
  pub same_splits : v.splits ≡ u.splits
  pub same_joins : v.joins ≡ u.joins
  pub same_turns : v.turns ≡ u.turns
  pub same_tries : v.tries ≡ u.tries
  pub same_cuts : v.cuts ≡ u.cuts
  pub same_lost : v.lost ≡ u.lost
  pub same_loads : v.loads ≡ u.loads
  -- Those ranges of other passes are known to be unfinished that were.
  pub same_unfinished : v.ranges.unfinished ≡ u.ranges.unfinished
  -- It is the base that was shown last, and the pass's last update is this one.
  pub last : v.last ≡ first_note v.notes
  -- The tree has the new base in the place of the old one, and one object row more at most.
  pub inventory : (x : Update) × (x.old ≡ first_note u.notes) × (length x.comes ≤ 1) × (v.inventory ≡ updated_inventory (first_note v.notes).row x u.inventory)
  pub renewal : v.renewal ≡ renewal_of met u (edit_key edit) (first_note u.notes) (first_note v.notes)

-- So it is where the exchange of a base won.
abbrev pub HasRenewed : {T : Type 0} → Sizes → Met → ℕ → Edit → Result T Stop → TreeView → TreeView → Type 0
HasRenewed z met statistic edit (Ok x) u v = IsRenewed z met statistic edit u v
HasRenewed z met statistic edit (Err why) u v = Unit {0}

-- Where the exchange of a base won, this is the new one's row.
abbrev pub IsNewRow : {T : Type 0} → ℕ → Result T Stop → TreeView → Type 0
IsNewRow row (Ok x) v = row ≡ (first_note v.notes).row
IsNewRow row (Err why) v = Unit {0}
