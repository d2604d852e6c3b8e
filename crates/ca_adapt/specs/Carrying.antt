-- An own attempt to join two bases is carried to its end: it is secured and the route is unlinked, or it is left.
use Rattle.std.specs.Prelude.{◌≡◌, ◌≢◌, ◌⊎◌, Bool, true, false, ℕ, ◌+◌, ◌*◌, ◌<◌, ◌≤◌, List, [], ◌∷◌, Result, Ok, Err}
use Rattle.ca_base.specs.Counting.{losses, HasMet}
use Rattle.ca_base.specs.Finding.{IsBaseShown}
use Rattle.ca_base.specs.Taking.{AreHeld}
use Rattle.ca_base.specs.declared.stop.Stop.{Stop}
use Rattle.ca_base.specs.declared.stop.Stop.TheVariants as stop
use Rattle.ca_node.specs.JoinSteps.{attempt_of}
use Rattle.ca_node.specs.Links.{IsIn}
use Rattle.ca_node.specs.Row.{count, IsMarkedFor}
use Rattle.ca_node.specs.Tallied.{IsTallied}
use Rattle.ca_node.specs.Told.{MyTree, link_word}
use Rattle.ca_node.specs.TreeView.{Joining, Note, TreeView}
use Rattle.ca_node.specs.declared.link.Link.{Link}
use Rattle.ca_node.specs.declared.link.Link.TheVariants as on
use Rattle.ca_rows.specs.Calls.{IsSame}
use Rattle.ca_rows.specs.Layout.{row_words}
use Rattle.ca_rows.specs.declared.sizes.Sizes.{Sizes}
use Rattle.ca_rows.specs.declared.space.Pass.{Pass}
use Rattle.ca_rows.specs.declared.space.Space.{Space}
use Rattle.ca_adapt.specs.Finishing.{HasForgotten, HasLostJoin, HasWonJoin, IsHungBy}
use Rattle.ca_adapt.specs.Joins.{last_on}
use Rattle.ca_adapt.specs.Pairs.{AreMarkedBoth, Marks}
use Rattle.ca_adapt.specs.Trying.{HasLeft, HasMade, IsLostTo, other_link, route_of}
use Rattle.ca_adapt.specs.declared.adapted.Adapted.{Adapted}
use Rattle.ca_adapt.specs.declared.adapted.Adapted.TheVariants as adapted
use Rattle.ca_adapt.specs.declared.adapted.Why.{Why}
use Rattle.ca_adapt.specs.declared.adapted.Why.TheVariants as why
use Rattle.ca_adapt.specs.declared.carrying.Copies.{Copies}
use Rattle.ca_adapt.specs.declared.carrying.Uniting.{Uniting}
use Rattle.ca_adapt.specs.declared.joining.Attempt.{Attempt}
use Rattle.ca_adapt.specs.declared.marking.Marked.{Marked}
use Rattle.ca_adapt.specs.declared.marking.Pair.{Pair}

module _ {R : Type 0} where
  -- It is the same pass, pinned as before. It counted what it carried out.
  pub record StaysPinned (pass new : Pass R TreeView) : Type 0 where
    pub same : IsSame pass.seat new.seat
    pub number : new.number ≡ pass.number
    pub tally : IsTallied pass.tally pass.seat.me.0.upper → IsTallied new.tally new.seat.me.0.upper
    pub pin : (new.seat.me.0.sizes ≡ pass.seat.me.0.sizes) × (new.seat.me.0.pin ≡ pass.seat.me.0.pin)

  -- It holds these rows, and no others.
  abbrev pub Holds : Space R TreeView → Pass R TreeView → List ℕ → Type 0
  Holds space pass rows = AreHeld space.table.shared.key.rows pass.kept.rows pass.seat.me.0 rows

-- A new row is held for the base to which both are joined; or none is.
abbrev pub held_by : Result Copies Stop → List ℕ
held_by (Ok copies) = copies.new ∷ []
held_by (Err why) = []

-- Both bases were marked, and a row was taken; or two marks were made at most.
abbrev pub HasPrepared : Sizes → Pair → Note → Note → Result Copies Stop → TreeView → TreeView → Type 0
HasPrepared z pair note sibling (Ok copies) u v = AreMarkedBoth z pair note sibling (Ok copies.marked) u v
HasPrepared z pair note sibling (Err why) u v = (marks : ℕ) × (marks ≤ 2) × Marks marks u v

-- why a base is not joined whose try came to this
abbrev pub why_not : Stop → Why
why_not (stop.Lost exchange) = why.Lost
why_not stop.Empty = why.NoRow
why_not stop.Worn = why.Worn

-- This base was shown last on the link, with the attempt's mark.
pub record IsMarkedHere (z : Sizes) (u : TreeView) (x : Uniting) (link row : ℕ) (note : Note) : Type 0 where
  pub shown : IsBaseShown z u row note
  pub marked : IsMarkedFor note.its x.attempt.route x.attempt.number
  pub here : note.place.link ≡ link
  pub last : last_on link u.notes ≡ note

-- The attempt is one that the seat secured itself, of a route that it remembers; both bases were shown with its mark, and are few enough for one.
pub record IsUniting (z : Sizes) (u : TreeView) (x : Uniting) (left right : Note) : Type 0 where
  pub hung : IsHungBy z u x.attempt.route x.above
  pub secured : IsIn (attempt_of x.attempt.route x.attempt.number) u.ranges.joins.secured
  pub decided : IsIn (attempt_of x.attempt.route x.attempt.number) u.ranges.joins.decided
  pub left_base : IsMarkedHere z u x (row_words * x.attempt.route + 1) x.left left
  pub right_base : IsMarkedHere z u x (row_words * x.attempt.route + 2) x.right right
  pub few : count left.its + count right.its ≤ z.leaf

-- The route was unlinked by the seat's exchange, or that was lost. No attempt was begun.
abbrev pub HasUnited : Bool → MyTree → MyTree → Type 0
HasUnited true m m' = HasWonJoin true m.0.upper m'.0.upper × (losses m' ≡ losses m) × HasMet 0 0 m m' × (m'.0.upper.loads ≡ m.0.upper.loads)
    × (m'.0.upper.tries ≡ m.0.upper.tries)
HasUnited false m m' = HasLostJoin m.0.upper m'.0.upper × (losses m < losses m') × HasMet 0 0 m m' × (m'.0.upper.loads ≡ m.0.upper.loads)
    × (m'.0.upper.tries ≡ m.0.upper.tries)

-- The attempt is the seat's own, and prepared by it: both copies were shown, on different links of the route, and are few enough for one.
pub record IsSecurable (z : Sizes) (m : MyTree) (pair : Pair) (marked : Marked) (one other : Note) : Type 0 where
  pub is_pass : 0 < m.0.upper.number
  pub own : m.0.upper.ranges.own ≡ Joining (attempt_of pair.attempt.route pair.attempt.number)
  pub one_shown : IsBaseShown z m.0.upper marked.one one
  pub one_marked : IsMarkedFor one.its pair.attempt.route pair.attempt.number
  pub one_here : one.place.link ≡ link_word pair.one.link
  pub other_shown : IsBaseShown z m.0.upper marked.other other
  pub other_marked : IsMarkedFor other.its pair.attempt.route pair.attempt.number
  pub other_here : other.place.link ≡ link_word pair.other.link
  pub one_last : last_on (link_word pair.one.link) m.0.upper.notes ≡ one
  pub other_last : last_on (link_word pair.other.link) m.0.upper.notes ≡ other
  pub sides : (pair.attempt.route ≡ route_of pair.one.link) × (pair.one.link ≢ on.Root) × (pair.other.link ≡ other_link pair.one.link)
  pub few : count one.its + count other.its ≤ z.leaf
  pub number : pair.attempt.number < 4611686018427387904

-- the rows of both copies, the left one first
abbrev pub ordered : Link → Marked → ℕ × ℕ
ordered on.Root marked = (marked.one, marked.other)
ordered (on.Left route) marked = (marked.one, marked.other)
ordered (on.Right route) marked = (marked.other, marked.one)

-- Behind both marks: the route was unlinked, or that exchange was lost, or another pass had given the attempt up.
abbrev pub HasConcluded : Attempt → Result (Unit {0}) Why → MyTree → MyTree → Type 0
HasConcluded x (Ok done) m m' = HasMade 0 1 m m' × HasForgotten m'.0.upper × HasMet 0 0 m m' × (losses m' ≡ losses m)
HasConcluded x (Err w) m m' = (w ≡ why.Lost) × HasMet 0 0 m m' × HasMade 0 0 m m' × ((HasForgotten m'.0.upper × (losses m < losses m'))
    ⊎ ((m'.0.upper.ranges.joins.decided ≡ attempt_of x.route x.number ∷ m.0.upper.ranges.joins.decided)
    × (m'.0.upper.ranges.joins.begun ≡ m.0.upper.ranges.joins.begun) × (m'.0.upper.tries.overtaken ≡ m.0.upper.tries.overtaken + 1)))

-- The route was unlinked; or the attempt was left, or came to nothing.
abbrev pub HasCarriedOut : Attempt → Result (Unit {0}) Why → MyTree → MyTree → Type 0
HasCarriedOut x (Ok done) m m' = HasMade 2 1 m m' × HasForgotten m'.0.upper × HasMet 0 0 m m' × (losses m' ≡ losses m)
HasCarriedOut x (Err why.Root) m m' = ⊥
HasCarriedOut x (Err why.OneObject) m m' = ⊥
HasCarriedOut x (Err why.AtLevel) m m' = ⊥
HasCarriedOut x (Err why.SiblingRoute) m m' = ⊥
HasCarriedOut x (Err why.TooMany) m m' = ⊥
HasCarriedOut x (Err why.Taken) m m' = ⊥
HasCarriedOut x (Err why.Lost) m m' = HasMet 0 0 m m' × IsLostTo x m m'
HasCarriedOut x (Err why.NoRow) m m' = HasLeft m m' × HasMet 1 0 m m'
HasCarriedOut x (Err why.Worn) m m' = HasLeft m m' × HasMet 0 1 m m'

-- what became of the base, by what a try to join it came to
abbrev pub outcome_of : {T : Type 0} → Result T Why → Adapted
outcome_of (Ok x) = adapted.Joined
outcome_of (Err why) = adapted.NotJoined why
