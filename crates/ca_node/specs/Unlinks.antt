-- A route is unlinked, by which a join is carried out: a base that has the objects of both bases under the route takes its place. No object comes or goes.
use Rattle.std.specs.Prelude.{◌≡◌, ◌≢◌, Bool, true, false, ℕ, ◌+◌, ◌*◌, ◌<◌, ◌≤◌, max, cond, List, [], ◌∷◌, ◌++◌, length, slice_index}
use mathlib.Core.Option.{some, none}
use Rattle.atomic_table.specs.Table.{Step}
use Rattle.ca_rows.specs.Claims.{claim_of}
use Rattle.ca_rows.specs.Layout.{row_words}
use Rattle.ca_rows.specs.Told.{relinked}
use Rattle.ca_rows.specs.declared.sizes.Sizes.{Sizes}
use Rattle.ca_rows.specs.declared.view.Claim.TheVariants.{Holds}
use Rattle.ca_node.specs.Inventory.{but_all, row_itself, row_of_base}
use Rattle.ca_node.specs.JoinSteps.{attempt_of}
use Rattle.ca_node.specs.Links.{IsIn}
use Rattle.ca_node.specs.Place.{root_place}
use Rattle.ca_node.specs.Row.{IsBaseRow, count, level, items, IsMarkedFor, IsUnmarked, IsHeaded}
use Rattle.ca_node.specs.States.{IsAlone}
use Rattle.ca_node.specs.Told.{MyTree, with_upper, given, taken_out}
use Rattle.ca_node.specs.TreeView.{Note, Way, Attempt, Inventory, Turns, TreeView, no_note, no_joins, one_helped, own_behind}

-- A route that is unlinked: the attempt that is secured, the two bases which that attempt marked, the words of the base that takes the route's place, and
-- whether it counts as an operation that the seat helped.
pub record Unlinking : Type 0 where
  pub way : Way
  pub attempt : ℕ
  pub left : Note
  pub right : Note
  pub its : List ℕ
  pub counts : Bool

abbrev pub no_unlinking : Unlinking
no_unlinking = record {
  way = record { row = 0; its = []; place = root_place };
  attempt = 0;
  left = no_note;
  right = no_note;
  its = [];
  counts = false;
}

-- The base was shown on this link, with the mark of the attempt.
pub record IsMarkedBase (m : MyTree) (x : Unlinking) (link : ℕ) (note : Note) : Type 0 where
  pub shown : IsIn note m.0.upper.notes
  pub is_base : IsBaseRow note.its
  pub marked : IsMarkedFor note.its x.way.row x.attempt
  pub here : note.place.link ≡ link

-- The seat may put the new base in the place of the route: it is pinned, remembers the route, knows that the attempt is secured, was shown the two bases which
-- that attempt marked, and holds the new base, which has the objects of both, no mark, and a statistic of 0. The join counts as one that it helped, unless it
-- knew already that the attempt was decided, as where it secured it itself.
pub record IsUnlinking (z : Sizes) (m : MyTree) (new : ℕ) (x : Unlinking) : Type 0 where
  pub is_pinned : m.0.pin.pinned ≡ true
  pub is_pass : 0 < m.0.upper.number
  pub remembered : IsIn x.way m.0.upper.ways
  pub secured : IsIn (attempt_of x.way.row x.attempt) m.0.upper.ranges.joins.secured
  pub left : IsMarkedBase m x (row_words * x.way.row + 1) x.left
  pub right : IsMarkedBase m x (row_words * x.way.row + 2) x.right
  pub held : claim_of m.0.claims new ≡ some (Holds x.its)
  pub is_base : IsBaseRow x.its
  pub level_is : level x.its ≡ x.way.place.level
  pub few : count x.its ≤ z.leaf
  pub unmarked : IsUnmarked x.its
  pub calm : slice_index x.its 1 ≡ 4294967296
  pub items_are : items x.its ≡ items x.left.its ++ items x.right.its
  pub headed : IsHeaded x.its (x.left.objects ++ x.right.objects)
  pub counted : x.counts ≡ false → IsIn (attempt_of x.way.row x.attempt) m.0.upper.ranges.joins.decided

-- the rows that go
abbrev pub gone_by : Unlinking → List ℕ
gone_by x = x.way.row ∷ x.left.row ∷ x.right.row ∷ []

-- what the tree has after the exchange
abbrev pub unlinked_inventory : ℕ → Unlinking → Inventory → Inventory
unlinked_inventory new x i = record {
  rows = new ∷ but_all row_itself (gone_by x) i.rows;
  bases = (new, x.way.place) ∷ but_all row_of_base (x.left.row ∷ x.right.row ∷ []) i.bases;
  most = max i.most (length (new ∷ but_all row_itself (gone_by x) i.rows));
}

-- What a seat knows behind this attempt that remembers no base and no route any more, and so nothing of joins: if the attempt was its own it is so no more.
abbrev pub forgetting : Attempt → TreeView → TreeView
forgetting x u = record u { notes = []; ways = []; ranges = record u.ranges { own = own_behind x u.ranges.own; joins = no_joins } }

-- the attempt by which the route is unlinked
abbrev pub attempt_by : Unlinking → Attempt
attempt_by x = attempt_of x.way.row x.attempt

-- the turns after a join was carried out
abbrev pub turns_after : Bool → Turns → Turns
turns_after counts turns = cond counts (one_helped turns) turns

-- what a seat knows after it unlinked the route: it carried out one join more, and the history is as it was
abbrev pub unlinked : ℕ → Unlinking → TreeView → TreeView
unlinked new x u = record (forgetting (attempt_by x) u) {
  joins = u.joins + 1;
  turns = turns_after x.counts u.turns;
  inventory = unlinked_inventory new x u.inventory;
}

-- what a seat knows that lost the exchange
abbrev pub one_unlinking_lost : Unlinking → TreeView → TreeView
one_unlinking_lost x u = record (forgetting (attempt_by x) u) { lost = u.lost + 1 }

-- The route is unlinked: the new base is linked, and the route and both bases under it, three rows that nobody claimed until then, are unlinked by the seat.
pub record IsUnlinked (new : ℕ) (x : Unlinking) (m m' : MyTree) : Type 0 where
  pub now : m' ≡ relinked m (taken_out (gone_by x) (given (new ∷ []) m.0.claims)) (unlinked new x m.0.upper)
  pub unclaimed : (row : ℕ) → IsIn row (gone_by x) → claim_of m.0.claims row ≡ none
  pub apart : (x.way.row ≢ x.left.row) × (x.way.row ≢ x.right.row) × (x.left.row ≢ x.right.row)

-- The link was exchanged, and the route is unlinked; or the exchange was lost, which is counted, and the pass isn't the only one of the space. Either way the
-- seat remembers no base and no route any more, and the attempt is none of its own.
abbrev pub UnlinksRoute : Unlinking → Step (Unit {0}) → MyTree → ℕ → MyTree → Type 0
UnlinksRoute x st m n m' = (n ≡ st.first → IsUnlinked st.second x m m')
    × (n ≢ st.first → (m' ≡ with_upper m (one_unlinking_lost x m.0.upper)) × ¬ IsAlone m.0.sizes m.0.upper)

-- What the exchange of the link came to: the route is unlinked, or one exchange more was lost.
abbrev pub HasUnlinked : Bool → ℕ → Unlinking → MyTree → MyTree → Type 0
HasUnlinked true new x m m' = IsUnlinked new x m m'
HasUnlinked false new x m m' = m' ≡ with_upper m (one_unlinking_lost x m.0.upper)

-- The exchange is about a route that the seat remembers, of whose join it knows that it is secured, and counts it, unless it knew that the attempt was decided:
-- it expects its row, at the link where it hung.
abbrev pub IsUnlinkStep : Unlinking → Step (Unit {0}) → MyTree → Type 0
IsUnlinkStep x st m = IsIn x.way m.0.upper.ways × IsIn (attempt_of x.way.row x.attempt) m.0.upper.ranges.joins.secured
    × (x.counts ≡ false → IsIn (attempt_of x.way.row x.attempt) m.0.upper.ranges.joins.decided) × (st.first ≡ x.way.row) × (st.word ≡ x.way.place.link)

-- It is about some route.
abbrev pub UnlinksSome : Step (Unit {0}) → MyTree → ℕ → MyTree → Type 0
UnlinksSome st m n m' = (x : Unlinking) × IsUnlinkStep x st m × UnlinksRoute x st m n m'
