-- What a pass does with the join of a route: it looks how far it is, begins one, secures it, or leaves it; or gives up one that is in its way.
use Rattle.std.specs.Prelude.{◌≡◌, ◌≢◌, ◌==◌, ◌⊎◌, Bool, true, false, ℕ, ◌+◌, ◌*◌, ◌/◌, ◌%◌, ◌<◌, ◌≤◌, cond, List, [], ◌∷◌, ◌++◌}
use Rattle.atomic_table.specs.Table.{Step}
use Rattle.ca_rows.specs.Told.{relinked}
use Rattle.ca_node.specs.declared.join_state.JoinState.{JoinState}
use Rattle.ca_node.specs.declared.join_state.JoinState.TheVariants as state
use Rattle.ca_node.specs.Joining.{IsRemembered}
use Rattle.ca_node.specs.Links.{IsIn}
pub use Rattle.ca_node.specs.Lone.{attempt_of}
use Rattle.ca_node.specs.Row.{IsBaseRow, count, IsMarkedFor}
use Rattle.ca_node.specs.States.{IsAlone}
use Rattle.ca_node.specs.Told.{MyTree, with_upper}
use Rattle.ca_node.specs.TreeView.{Note, Attempt, Finished, Ranging, Quiet, Joining, Secured, KnownJoins, TreeView, one_helped, one_overtaken, one_tried}
use Rattle.ca_rows.specs.Layout.{row_words}

-- the word that says how far the join of a route is, by its last attempt
abbrev pub join_place : ℕ → ℕ
join_place route = row_words * route + 3

-- how far it is, by that word
abbrev pub join_state : ℕ → JoinState
join_state word = cond (word % 4 == 1) (state.Prep (word / 4)) (cond (word % 4 == 2) (state.Secured (word / 4)) (state.Idle (word / 4)))

-- the attempts of the route before one
abbrev pub before : ℕ → ℕ → Finished
before route number = record { route = route; below = number }

-- The attempts that are finished, by that word: all that were begun, but for the last one where it is under way.
abbrev pub finished_by : ℕ → ℕ → Finished
finished_by route word = before route (cond (word % 4 == 0) (word / 4 + 1) (word / 4))

-- the attempt that is secured, by that word
abbrev pub secured_by : ℕ → ℕ → List Attempt
secured_by route word = cond (word % 4 == 2) (attempt_of route (word / 4) ∷ []) []

-- the attempt that is prepared
abbrev pub prepared_by : ℕ → ℕ → List Attempt
prepared_by route word = cond (word % 4 == 1) (attempt_of route (word / 4) ∷ []) []

-- the attempt that may be begun, by that word
abbrev pub next_by : ℕ → ℕ → List Attempt
next_by route word = cond (word % 4 == 0) (attempt_of route (word / 4 + 1) ∷ []) []

abbrev pub with_joins : TreeView → KnownJoins → TreeView
with_joins u joins = record u { ranges = record u.ranges { joins = joins } }

-- the same, where it knows this of how far its own operation is
abbrev pub with_own : TreeView → Ranging → KnownJoins → TreeView
with_own u own joins = record u { ranges = record u.ranges { own = own; joins = joins } }

-- what a seat knows of joins that loaded that word
abbrev pub joins_loaded : ℕ → ℕ → KnownJoins → KnownJoins
joins_loaded route word joins = record {
  begun = attempt_of route (word / 4) ∷ joins.begun;
  finished = finished_by route word ∷ joins.finished;
  secured = secured_by route word ++ joins.secured;
  decided = joins.decided;
  prepared = prepared_by route word ++ joins.prepared;
  next = next_by route word;
}

-- The join word of a route was loaded. Each attempt of the route that marked a base which was shown, or is known to be begun, was begun; one that is known to
-- be finished isn't under way, one that is known to be decided isn't prepared, and one that is known to be secured is. Where the space is for one pass alone
-- one that is under way is the pass's own, and it knows how far that is.
pub record HasLoadedJoin (route : ℕ) (m : MyTree) (n : ℕ) (m' : MyTree) : Type 0 where
  pub now : m' ≡ with_upper m (with_joins m.0.upper (joins_loaded route n m.0.upper.ranges.joins))
  pub state : n % 4 < 3
  pub own_prepared : m.0.sizes.passes ≤ 1 → 0 < m.0.upper.number → (number : ℕ) → n ≡ 4 * number + 1
      → m.0.upper.ranges.own ≡ Joining (attempt_of route number)
  pub own_secured : m.0.sizes.passes ≤ 1 → 0 < m.0.upper.number → (number : ℕ) → n ≡ 4 * number + 2
      → m.0.upper.ranges.own ≡ Secured (attempt_of route number)
  pub marked : (note : Note) → IsIn note m.0.upper.notes → (attempt : ℕ) → IsMarkedFor note.its route attempt → attempt ≤ n / 4
  pub begun : (x : Attempt) → IsIn x m.0.upper.ranges.joins.begun → x.route ≡ route → x.number ≤ n / 4
  pub finished : (x : Finished) → IsIn x m.0.upper.ranges.joins.finished → x.route ≡ route → n % 4 ≢ 0 → x.below ≤ n / 4
  pub decided : (x : Attempt) → IsIn x m.0.upper.ranges.joins.decided → x.route ≡ route → n ≢ 4 * x.number + 1
  pub secured : (x : Attempt) → IsIn x m.0.upper.ranges.joins.secured → x.route ≡ route → n ≡ 4 * x.number + 2

abbrev pub LoadsJoin : Step (Unit {0}) → MyTree → ℕ → MyTree → Type 0
LoadsJoin st m n m' = (route : ℕ) × (st.word ≡ join_place route) × HasLoadedJoin route m n m'

-- what a seat knows of joins that began an attempt: those before are finished
abbrev pub joins_begun : Attempt → KnownJoins → KnownJoins
joins_begun x joins = record joins { begun = x ∷ joins.begun; finished = before x.route x.number ∷ joins.finished; next = [] }

-- The attempt is the one behind the last one that the seat knows of the route, which it knows to be finished. So its last load of a join word told, and it
-- exchanged none since.
pub record IsNext (x : Attempt) (joins : KnownJoins) : Type 0 where
  pub loaded : IsIn x joins.next
  pub last : ℕ
  pub next : x.number ≡ last + 1
  pub begun : IsIn (attempt_of x.route last) joins.begun
  pub finished : IsIn (before x.route (last + 1)) joins.finished
  pub none_later : (y : Attempt) → IsIn y joins.begun → y.route ≡ x.route → y.number ≤ last

-- The seat may begin an attempt, the next one of the route behind one that is finished: it is pinned, remembers the route, and its last operation that others
-- may meet is over.
pub record IsBeginning (m : MyTree) (x : Attempt) : Type 0 where
  pub is_pinned : m.0.pin.pinned ≡ true
  pub is_pass : 0 < m.0.upper.number
  pub quiet : m.0.upper.ranges.own ≡ Quiet
  pub remembered : IsRemembered m.0.upper.ways x.route
  pub next : IsNext x m.0.upper.ranges.joins

-- what a seat knows that began an attempt: it is its own, and counted
abbrev pub beginning : Attempt → TreeView → TreeView
beginning x u = record (with_own u (Joining x) (joins_begun x u.ranges.joins)) { tries = one_tried u.tries }

-- what one knows that lost the exchange, which counts as a try, too: it may begin none before it loads a join word again
abbrev pub one_begin_lost : TreeView → TreeView
one_begin_lost u = record (with_joins u (record u.ranges.joins { next = [] })) { lost = u.lost + 1; tries = one_tried u.tries }

-- The join word was exchanged, from the attempt before finished to this one prepared; or the exchange was lost, which is counted, and the pass isn't the only one
-- of the space.
abbrev pub BeginsJoin : Attempt → Step (Unit {0}) → MyTree → ℕ → MyTree → Type 0
BeginsJoin x st m n m' = (n ≡ st.first → m' ≡ relinked m m.0.claims (beginning x m.0.upper))
    × (n ≢ st.first → (m' ≡ with_upper m (one_begin_lost m.0.upper)) × ¬ IsAlone m.0.sizes m.0.upper)

abbrev pub HasBegunJoin : Bool → Attempt → MyTree → MyTree → Type 0
HasBegunJoin true x m m' = m' ≡ relinked m m.0.claims (beginning x m.0.upper)
HasBegunJoin false x m m' = m' ≡ with_upper m (one_begin_lost m.0.upper)

-- What one knows that secured an attempt: it is decided, too, so that it is none that the pass found in its way.
abbrev pub joins_secured : Attempt → KnownJoins → KnownJoins
joins_secured x joins = record joins { secured = x ∷ joins.secured; decided = x ∷ joins.decided; prepared = []; next = [] }

-- what one knows that gave one up, and what one knows that came too late to give it up, or to secure it
abbrev pub joins_aborted : Attempt → KnownJoins → KnownJoins
joins_aborted x joins = record joins { finished = before x.route (x.number + 1) ∷ joins.finished; prepared = []; next = [] }

abbrev pub joins_too_late : Attempt → KnownJoins → KnownJoins
joins_too_late x joins = record joins { decided = x ∷ joins.decided; prepared = []; next = [] }

-- Either way that counts as one operation more that it helped to its end.
abbrev pub aborted : Attempt → TreeView → TreeView
aborted x u = record (with_joins u (joins_aborted x u.ranges.joins)) { turns = one_helped u.turns }

abbrev pub too_late : Attempt → TreeView → TreeView
too_late x u = record (with_joins u (joins_too_late x u.ranges.joins)) { turns = one_helped u.turns }

-- The seat may secure its own attempt: it is pinned, and was shown the two bases under the route, which this attempt marked. Together they have no more items
-- than a leaf may have.
pub record IsSecuring (leaf : ℕ) (m : MyTree) (x : Attempt) (left right : Note) : Type 0 where
  pub is_pinned : m.0.pin.pinned ≡ true
  pub is_pass : 0 < m.0.upper.number
  pub own : m.0.upper.ranges.own ≡ Joining x
  pub remembered : IsRemembered m.0.upper.ways x.route
  pub left_shown : IsIn left m.0.upper.notes
  pub left_base : IsBaseRow left.its
  pub left_marked : IsMarkedFor left.its x.route x.number
  pub left_link : left.place.link ≡ row_words * x.route + 1
  pub right_shown : IsIn right m.0.upper.notes
  pub right_base : IsBaseRow right.its
  pub right_marked : IsMarkedFor right.its x.route x.number
  pub right_link : right.place.link ≡ row_words * x.route + 2
  pub few : count left.its + count right.its ≤ leaf

-- The seat may give another pass's attempt up that is in its way: it is pinned, remembers the route, knows that it was begun, and found it prepared since it gave
-- one up.
pub record IsAborting (m : MyTree) (x : Attempt) : Type 0 where
  pub is_pinned : m.0.pin.pinned ≡ true
  pub is_pass : 0 < m.0.upper.number
  pub other : m.0.upper.ranges.own ≢ Joining x
  pub remembered : IsRemembered m.0.upper.ways x.route
  pub begun : IsIn x m.0.upper.ranges.joins.begun
  pub found : IsIn x m.0.upper.ranges.joins.prepared

-- The join word was exchanged, and the attempt is finished; or it wasn't prepared any more.
abbrev pub AbortsJoin : Attempt → Step (Unit {0}) → MyTree → ℕ → MyTree → Type 0
AbortsJoin x st m n m' = (n ≡ st.first → m' ≡ relinked m m.0.claims (aborted x m.0.upper)) × (n ≢ st.first → m' ≡ with_upper m (too_late x m.0.upper))

abbrev pub HasAbortedJoin : Bool → Attempt → MyTree → MyTree → Type 0
HasAbortedJoin true x m m' = m' ≡ relinked m m.0.claims (aborted x m.0.upper)
HasAbortedJoin false x m m' = m' ≡ with_upper m (too_late x m.0.upper)

-- what a seat knows that secured its own attempt, and what one that came too late to do so, or to leave it: it is none of its own any more, and counts as one
-- that another pass gave up
abbrev pub securing : Attempt → TreeView → TreeView
securing x u = with_own u (Secured x) (joins_secured x u.ranges.joins)

abbrev pub own_too_late : Attempt → TreeView → TreeView
own_too_late x u = record (with_own u Quiet (joins_too_late x u.ranges.joins)) { tries = one_overtaken u.tries }

-- The join word was exchanged, and the attempt is secured; or it wasn't prepared any more: another pass had given it up. Neither counts as help.
abbrev pub SecuresJoin : Attempt → Step (Unit {0}) → MyTree → ℕ → MyTree → Type 0
SecuresJoin x st m n m' = (n ≡ st.first → m' ≡ relinked m m.0.claims (securing x m.0.upper))
    × (n ≢ st.first → (m' ≡ with_upper m (own_too_late x m.0.upper)) × ¬ IsAlone m.0.sizes m.0.upper)

abbrev pub HasSecuredJoin : Bool → Attempt → MyTree → MyTree → Type 0
HasSecuredJoin true x m m' = m' ≡ relinked m m.0.claims (securing x m.0.upper)
HasSecuredJoin false x m m' = m' ≡ with_upper m (own_too_late x m.0.upper)

-- The seat may leave its own attempt, which it didn't secure: it is pinned, remembers the route, and knows that the attempt was begun.
pub record IsLeavingJoin (m : MyTree) (x : Attempt) : Type 0 where
  pub is_pinned : m.0.pin.pinned ≡ true
  pub is_pass : 0 < m.0.upper.number
  pub own : m.0.upper.ranges.own ≡ Joining x
  pub remembered : IsRemembered m.0.upper.ways x.route
  pub begun : IsIn x m.0.upper.ranges.joins.begun

-- what a seat knows that left its own attempt: that is finished
abbrev pub leaving : Attempt → TreeView → TreeView
leaving x u = with_own u Quiet (joins_aborted x u.ranges.joins)

-- The join word was exchanged, and the attempt is finished; or another pass had given it up. Neither counts as help.
abbrev pub LeavesJoin : Attempt → Step (Unit {0}) → MyTree → ℕ → MyTree → Type 0
LeavesJoin x st m n m' = (n ≡ st.first → m' ≡ relinked m m.0.claims (leaving x m.0.upper))
    × (n ≢ st.first → (m' ≡ with_upper m (own_too_late x m.0.upper)) × ¬ IsAlone m.0.sizes m.0.upper)

abbrev pub HasLeftJoin : Bool → Attempt → MyTree → MyTree → Type 0
HasLeftJoin true x m m' = m' ≡ relinked m m.0.claims (leaving x m.0.upper)
HasLeftJoin false x m m' = m' ≡ with_upper m (own_too_late x m.0.upper)

-- The exchange is of the join word of this attempt's route, and expects the attempt prepared.
abbrev pub IsJoinStep : Attempt → Step (Unit {0}) → Type 0
IsJoinStep x st = (st.word ≡ join_place x.route) × (st.first ≡ 4 * x.number + 1)

-- It expects the attempt before this one finished.
abbrev pub IsJoinBegin : Attempt → Step (Unit {0}) → Type 0
IsJoinBegin x st = (st.word ≡ join_place x.route) × (st.first + 4 ≡ 4 * x.number)

-- It is about some attempt. That one begins which may be begun, by the last load of a join word: so a lost exchange expected what that load gave.
abbrev pub BeginsSome : Step (Unit {0}) → MyTree → ℕ → MyTree → Type 0
BeginsSome st m n m' = (x : Attempt) × IsJoinBegin x st × IsNext x m.0.upper.ranges.joins × BeginsJoin x st m n m'

abbrev pub AbortsSome : Step (Unit {0}) → MyTree → ℕ → MyTree → Type 0
AbortsSome st m n m' = (x : Attempt) × IsJoinStep x st × IsIn x m.0.upper.ranges.joins.prepared × AbortsJoin x st m n m'

abbrev pub SecuresSome : Step (Unit {0}) → MyTree → ℕ → MyTree → Type 0
SecuresSome st m n m' = (x : Attempt) × IsJoinStep x st × SecuresJoin x st m n m'

abbrev pub LeavesSome : Step (Unit {0}) → MyTree → ℕ → MyTree → Type 0
LeavesSome st m n m' = (x : Attempt) × IsJoinStep x st × LeavesJoin x st m n m'

-- All that an exchange of the join word of a route may tell.
abbrev pub SwapsJoin : Step (Unit {0}) → MyTree → ℕ → MyTree → Type 0
SwapsJoin st m n m' = BeginsSome st m n m' ⊎ (AbortsSome st m n m' ⊎ (SecuresSome st m n m' ⊎ LeavesSome st m n m'))
