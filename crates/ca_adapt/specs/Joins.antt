-- Attempts to join that are begun, and bases that are marked for them.
use Rattle.std.specs.Prelude.{◌≡◌, ◌≢◌, ◌==◌, true, false, cond, ℕ, ◌+◌, ◌/◌, ◌%◌, ◌<◌, ◌≤◌, List, [], ◌∷◌, length, slice_index, Result, Ok, Err}
use Rattle.ca_base.specs.Putting.{stopped, words_of}
use Rattle.ca_base.specs.declared.stop.Stop.{Stop}
use Rattle.ca_node.specs.Copies.{Copy, copied, copy_note}
use Rattle.ca_node.specs.JoinSteps.{attempt_of, HasBegunJoin, HasLoadedJoin}
use Rattle.ca_node.specs.Notes.{IsBaseNote}
use Rattle.ca_node.specs.Row.{count, level, items, mark_owner, mark_number, IsBaseRow, IsHeaded, IsMarkedFor}
use Rattle.ca_node.specs.Told.{MyTree, link_word}
use Rattle.ca_node.specs.declared.link.Link.{Link}
use Rattle.ca_node.specs.TreeView.{Note, TreeView, no_note}
use Rattle.ca_rows.specs.Claims.{claim_of}
use Rattle.ca_rows.specs.Layout.{row_words}
use Rattle.ca_rows.specs.declared.sizes.Sizes.{Sizes}
use Rattle.ca_rows.specs.declared.space.Pass.{Pass}
use Rattle.ca_adapt.specs.declared.adapted.Why.{Why}
use Rattle.ca_adapt.specs.declared.adapted.Why.TheVariants as why
use Rattle.ca_adapt.specs.declared.joining.Attempt.{Attempt}

-- the base that was shown last on this link
abbrev pub last_on : ℕ → List Note → Note
last_on link [] = no_note
last_on link (note ∷ notes) = cond (note.place.link == link) note (last_on link notes)

-- the copy that a seat wrote to this row, of the base that it was shown last on this link
abbrev pub copy_on : ℕ → MyTree → ℕ → Copy
copy_on link m row = record {
  old = last_on link m.0.upper.notes;
  its = words_of (claim_of m.0.claims row);
  pass = mark_owner (words_of (claim_of m.0.claims row));
  number = mark_number (words_of (claim_of m.0.claims row));
}

module _ {R : Type 0} where
  -- the base that the pass was shown last on this link
  abbrev pub shown_on : Pass R TreeView → Link → Note
  shown_on pass link = last_on (link_word link) pass.seat.me.0.upper.notes

-- No attempt of this route was begun behind a load of its join word, which is this: one is under way; or the next one was tried, whose exchange was lost, as is
-- counted; or the last one has the last number.
abbrev pub IsWhyNotBegun : Why → ℕ → ℕ → MyTree → MyTree → Type 0
IsWhyNotBegun why.Root route word m m' = ⊥
IsWhyNotBegun why.OneObject route word m m' = ⊥
IsWhyNotBegun why.AtLevel route word m m' = ⊥
IsWhyNotBegun why.SiblingRoute route word m m' = ⊥
IsWhyNotBegun why.TooMany route word m m' = ⊥
IsWhyNotBegun why.Taken route word m m' = (word % 4 ≢ 0) × (m' ≡ m)
IsWhyNotBegun why.Lost route word m m' = (word % 4 ≡ 0) × (word / 4 < 4611686018427387903) × HasBegunJoin false (attempt_of route (word / 4 + 1)) m m'
IsWhyNotBegun why.NoRow route word m m' = ⊥
IsWhyNotBegun why.Worn route word m m' = (word % 4 ≡ 0) × (4611686018427387903 ≤ word / 4) × (m' ≡ m)

-- An attempt of this route was begun, the next one behind the last one, which is finished, as a load of the join word told; or none was, for this reason.
abbrev pub HasBegunAt : ℕ → Result Attempt Why → MyTree → MyTree → Type 0
HasBegunAt route (Ok x) m m' = (x.route ≡ route) × (x.number < 4611686018427387904) × ((word : ℕ) × (then : MyTree) × HasLoadedJoin route m word then
    × (word % 4 ≡ 0) × (x.number ≡ word / 4 + 1) × HasBegunJoin true (attempt_of x.route x.number) then m')
HasBegunAt route (Err why) m m' = (word : ℕ) × (then : MyTree) × HasLoadedJoin route m word then × IsWhyNotBegun why route word then m'

-- The words are those of a copy of the base with the mark of this attempt, and with its statistic.
pub record SpellsMarked (note : Note) (attempt : Attempt) (its : List ℕ) : Type 0 where
  pub long : length its ≡ row_words
  pub is_base : IsBaseRow its
  pub level_is : level its ≡ level note.its
  pub count_is : count its ≡ count note.its
  pub items_are : items its ≡ items note.its
  pub headed : IsHeaded its note.objects
  pub statistic_is : slice_index its 1 ≡ slice_index note.its 1
  pub marked : IsMarkedFor its attempt.route attempt.number

-- A copy of the base with this mark, and with its statistic, took its place.
pub record IsMarkedCopy (z : Sizes) (note : Note) (attempt : Attempt) (row : ℕ) (u v : TreeView) : Type 0 where
  pub copy : Copy
  pub old_is : copy.old ≡ note
  pub is_base : IsBaseNote z (copy_note row copy)
  pub marked : IsMarkedFor copy.its attempt.route attempt.number
  pub statistic_is : slice_index copy.its 1 ≡ slice_index note.its 1
  pub count_is : count copy.its ≡ count note.its
  pub now : v ≡ copied [] u.ranges row copy u

-- So it was, or it came to nothing.
abbrev pub HasMarkedFor : Sizes → Note → Attempt → Result ℕ Stop → TreeView → TreeView → Type 0
HasMarkedFor z note attempt (Ok row) u v = IsMarkedCopy z note attempt row u v
HasMarkedFor z note attempt (Err why) u v = v ≡ stopped why u
