-- Tries to join a base with its sibling, which is what hangs on the other link of the same route.
use Rattle.std.specs.Prelude.{◌≡◌, ◌≢◌, ◌⊎◌, Bool, true, false, ℕ, ◌+◌, ◌/◌, ◌%◌, ◌<◌, ◌≤◌, max, ◌∷◌, ◌++◌, List, length, Option, None, Some, Result, Ok, Err}
use Rattle.ca_model.specs.History.{History}
use Rattle.ca_model.specs.declared.outcome.Spent.{Spent}
use Rattle.ca_base.specs.Counting.{losses, HasMet}
use Rattle.ca_base.specs.Spending.{RisesBy}
use Rattle.ca_node.specs.declared.link.Link.{Link}
use Rattle.ca_node.specs.declared.link.Link.TheVariants as on
use Rattle.ca_node.specs.JoinSteps.{attempt_of}
use Rattle.ca_node.specs.Layout.{sequence_unit, marked_by_range}
use Rattle.ca_node.specs.Row.{count, mark, mark_owner, IsMarkedBy}
use Rattle.ca_node.specs.Notes.{IsBaseNote}
use Rattle.ca_node.specs.Told.{MyTree, HasWatched, IsKnown, IsLedToBase, IsLedToRoute, IsUnranged, link_word, with_upper}
use Rattle.ca_node.specs.Tree.{StartsWith}
use Rattle.ca_node.specs.TreeView.{Border, Note, Over, Turns, Unfinished, TreeView}
use Rattle.ca_rows.specs.Layout.{row_limit}
use Rattle.ca_rows.specs.declared.sizes.Sizes.{Sizes}
use Rattle.ca_adapt.specs.Finishing.{HasForgotten, IsHungBy}
use Rattle.ca_adapt.specs.Joins.{HasBegunAt}
use Rattle.ca_adapt.specs.declared.adapted.Adapted.{Adapted}
use Rattle.ca_adapt.specs.declared.adapted.Adapted.TheVariants as adapted
use Rattle.ca_adapt.specs.declared.adapted.Why.{Why}
use Rattle.ca_adapt.specs.declared.adapted.Why.TheVariants as why
use Rattle.ca_adapt.specs.declared.joining.Attempt.{Attempt}
use Rattle.ca_adapt.specs.declared.looking.Fork.{Fork}

-- the other link of the route that has this one
abbrev pub other_link : Link → Link
other_link on.Root = on.Root
other_link (on.Left route) = on.Right route
other_link (on.Right route) = on.Left route

-- the route that has the link
abbrev pub route_of : Link → ℕ
route_of on.Root = 0
route_of (on.Left route) = route
route_of (on.Right route) = route

-- Where the link is one of a route, that route hangs on the link above, as the seat remembers.
abbrev pub IsHungUnder : Sizes → TreeView → Link → Option Link → Type 0
IsHungUnder z u on.Root above = Unit {0}
IsHungUnder z u (on.Left route) None = ⊥
IsHungUnder z u (on.Left route) (Some above) = IsHungBy z u route above
IsHungUnder z u (on.Right route) None = ⊥
IsHungUnder z u (on.Right route) (Some above) = IsHungBy z u route above

-- The cursor's link is the root link; or one of this route, which hangs so and has this other link.
abbrev pub IsForkAt : Sizes → TreeView → Link → Option Fork → Type 0
IsForkAt z u link None = link ≡ on.Root
IsForkAt z u link (Some fork) = (link ≢ on.Root) × (fork.route ≡ route_of link) × (fork.other ≡ other_link link) × IsHungBy z u fork.route fork.above

-- what a seat knows, with what another one has seen of the history, remembers of bases and routes, knows of ranges and joins, loaded, carried out, lost, tried
-- and spent, and what the tree has by it
abbrev pub with_try_of : TreeView → TreeView → TreeView
with_try_of u v = record u {
  seen = v.seen;
  notes = v.notes;
  ways = v.ways;
  ranges = record u.ranges { over = v.ranges.over; borders = v.ranges.borders; own = v.ranges.own; unfinished = v.ranges.unfinished; joins = v.ranges.joins };
  loads = v.loads;
  joins = v.joins;
  lost = v.lost;
  turns = v.turns;
  tries = v.tries;
  inventory = v.inventory;
}

-- No more than that changed.
abbrev pub IsOnly : TreeView → TreeView → Type 0
IsOnly u v = v ≡ with_try_of u v

-- So it is: it has seen no less of the history, and one that it might know before it may know still.
pub record IsJoinSteps (z : Sizes) (u v : TreeView) : Type 0 where
  pub only : IsOnly u v
  pub seen : StartsWith v.seen u.seen
  pub known : IsKnown z u → IsKnown z v

-- The link was loaded, and names a route, or a base with this row.
abbrev pub HasSeenBase : ℕ → Option ℕ → MyTree → MyTree → Type 0
HasSeenBase link None m m' = (row : ℕ) × IsLedToRoute link m row m'
HasSeenBase link (Some row) m m' = IsLedToBase false link m row m'

-- The sibling was looked for by one load of its link, and is this base. Both have few enough objects together for one.
pub record HasFoundSibling (z : Sizes) (link : Link) (note : Note) (m : MyTree) (sibling : Note) (m' : MyTree) : Type 0 where
  pub row : ℕ
  pub led : IsLedToBase false (link_word (other_link link)) m row m'
  pub sibling_is : led.note ≡ sibling
  pub few : count note.its + count sibling.its ≤ z.leaf

-- A range marked the base, by its words, and was found active by one load of how far the last range of its pass is.
abbrev pub IsFoundRanged : Note → MyTree → MyTree → Type 0
IsFoundRanged note m m' = (word : ℕ) × HasWatched (mark_owner note.its) m word m' × (word % sequence_unit ≡ row_limit)
    × IsMarkedBy note.its (mark_owner note.its) (word / sequence_unit)

-- None marked it, or the one that did was found over.
abbrev pub IsFoundUnranged : Note → MyTree → MyTree → Type 0
IsFoundUnranged note m m' = ((mark note.its ≢ marked_by_range) × (m' ≡ m))
    ⊎ ((mark note.its ≡ marked_by_range) × ((word : ℕ) × HasWatched (mark_owner note.its) m word m'
    × ¬ ((word % sequence_unit ≡ row_limit) × IsMarkedBy note.its (mark_owner note.its) (word / sequence_unit))))

-- By a look at the base's mark a range has it, or none has.
abbrev pub IsFoundInUse : Bool → Note → MyTree → MyTree → Type 0
IsFoundInUse true note m m' = IsFoundRanged note m m'
IsFoundInUse false note m m' = IsFoundUnranged note m m'

-- The sibling is a base, small enough, and no range has it: this the seat knew then.
pub record HasLooked (z : Sizes) (link : Link) (note : Note) (m m' : MyTree) : Type 0 where
  pub sibling : Note
  pub between : MyTree
  pub found : HasFoundSibling z link note m sibling between
  pub unranged : IsFoundUnranged sibling between m'

-- The seat looked around: what it knows of the tree changed alone. It carried out nothing, lost no exchange, passed no place, and its own range is as it was.
pub record OnlyLooks (m m' : MyTree) : Type 0 where
  pub raised : m' ≡ with_upper m m'.0.upper
  pub joins : m'.0.upper.joins ≡ m.0.upper.joins
  pub splits : m'.0.upper.splits ≡ m.0.upper.splits
  pub lost : m'.0.upper.lost ≡ m.0.upper.lost
  pub passed : m'.0.upper.turns.passed ≡ m.0.upper.turns.passed
  pub own : m'.0.upper.ranges.own ≡ m.0.upper.ranges.own
  pub number : m'.0.upper.number ≡ m.0.upper.number
  pub inventory : m'.0.upper.inventory ≡ m.0.upper.inventory

-- what a seat knows that looked for the sibling: it is shown last, and these ranges are over, of which these rows say up to where they go
abbrev pub looked : TreeView → History → Note → List Over → List Border → List Unfinished → Turns → TreeView
looked u more sibling over borders unfinished turns = record u {
  seen = u.seen ++ more;
  notes = sibling ∷ u.notes;
  ranges = record u.ranges { over = over ++ u.ranges.over; borders = borders ++ u.ranges.borders; unfinished = unfinished };
  loads = u.loads + 1;
  turns = turns;
}

-- So it looked, and the sibling is this row.
pub record FindsSibling (z : Sizes) (link : Link) (note : Note) (row : ℕ) (m m' : MyTree) : Type 0 where
  pub look : HasLooked z link note m m'
  pub row_is : look.sibling.row ≡ row
  pub hangs : look.sibling.place.link ≡ link_word (other_link link)
  pub is_base : IsBaseNote z look.sibling
  pub unranged : IsUnranged m'.0.upper look.sibling.its
  pub more : History
  pub over : List Over
  pub borders : List Border
  pub unfinished : List Unfinished
  pub turns : Turns
  pub now : m' ≡ with_upper m (looked m.0.upper more look.sibling over borders unfinished turns)
  pub passed : turns.passed ≡ m.0.upper.turns.passed

-- For the attempt that was begun there so many bases were marked: each mark is a turn. So many joins were carried out. No other attempt was begun, nor tried to
-- be.
pub record HasMade (marks joins : ℕ) (m m' : MyTree) : Type 0 where
  pub passed : m'.0.upper.turns.passed ≡ m.0.upper.turns.passed + marks
  pub helped : m'.0.upper.turns.helped ≡ m.0.upper.turns.helped
  pub loads : m'.0.upper.loads ≡ m.0.upper.loads
  pub joins_are : m'.0.upper.joins ≡ m.0.upper.joins + joins
  pub tried : m'.0.upper.tries.tried ≡ m.0.upper.tries.tried

-- It was given up behind two marks, or fewer, and no other one was begun.
pub record HasLeft (m m' : MyTree) : Type 0 where
  pub marks : ℕ
  pub few : marks ≤ 2
  pub counts : HasMade marks 0 m m'
  pub begun : m'.0.upper.ranges.joins.begun ≡ m.0.upper.ranges.joins.begun

-- Both bases were marked, and another pass had given the attempt up before it was secured: that is what the seat learnt last, and it is counted. No other one
-- was begun.
abbrev pub IsOvertaken : Attempt → MyTree → MyTree → Type 0
IsOvertaken x m m' = HasMade 2 0 m m' × (m'.0.upper.ranges.joins.decided ≡ attempt_of x.route x.number ∷ m.0.upper.ranges.joins.decided)
    × (m'.0.upper.ranges.joins.begun ≡ m.0.upper.ranges.joins.begun) × (m'.0.upper.tries.overtaken ≡ m.0.upper.tries.overtaken + 1)

-- The attempt was secured, and another pass had unlinked the route before: that exchange was lost.
abbrev pub IsUnlinkedBefore : MyTree → MyTree → Type 0
IsUnlinkedBefore m m' = HasMade 2 0 m m' × HasForgotten m'.0.upper × (losses m < losses m')

-- It came to nothing, as an exchange was lost: one of a link or of the pool's head, before it was secured or by that which was to unlink the route; or it was
-- given up by another pass.
abbrev pub IsLostTo : Attempt → MyTree → MyTree → Type 0
IsLostTo x m m' = (HasLeft m m' × (losses m < losses m')) ⊎ (IsUnlinkedBefore m m' ⊎ IsOvertaken x m m')

-- An attempt of this route was begun from there, one, and then this holds of it.
abbrev pub HasBegunThen : ℕ → (Attempt → MyTree → Type 0) → MyTree → Type 0
HasBegunThen route Then m = (x : Attempt) × (n : MyTree) × HasBegunAt route (Ok x) m n × Then x n

-- This is why the base was not joined, given what the seat knew before and behind. Each cause says that none before it is there.
abbrev pub IsWhyNotJoined : Sizes → Link → Note → Why → MyTree → MyTree → Type 0
IsWhyNotJoined z link note why.Root m m' = (link ≡ on.Root) × (m' ≡ m)
IsWhyNotJoined z link note why.OneObject m m' = ⊥
IsWhyNotJoined z link note why.AtLevel m m' = ⊥
IsWhyNotJoined z link note why.SiblingRoute m m' = (link ≢ on.Root) × ((row : ℕ) × IsLedToRoute (link_word (other_link link)) m row m')
IsWhyNotJoined z link note why.TooMany m m' = (link ≢ on.Root) × ((row : ℕ) × (led : IsLedToBase false (link_word (other_link link)) m row m')
    × (z.leaf < count note.its + count led.note.its))
IsWhyNotJoined z link note why.Taken m m' = (link ≢ on.Root) × (((sibling : Note) × (then : MyTree) × HasFoundSibling z link note m sibling then
    × IsFoundRanged sibling then m') ⊎ ((then : MyTree) × HasLooked z link note m then × HasBegunAt (route_of link) (Err why.Taken) then m'))
IsWhyNotJoined z link note why.Lost m m' = (link ≢ on.Root) × ((then : MyTree) × HasLooked z link note m then × HasMet 0 0 m m'
    × (HasBegunAt (route_of link) (Err why.Lost) then m' ⊎ HasBegunThen (route_of link) (λ x n. IsLostTo x n m') then))
IsWhyNotJoined z link note why.NoRow m m' = (link ≢ on.Root) × ((then : MyTree) × HasLooked z link note m then × HasMet 1 0 m m'
    × HasBegunThen (route_of link) (λ x n. HasLeft n m') then)
IsWhyNotJoined z link note why.Worn m m' = (link ≢ on.Root) × ((then : MyTree) × HasLooked z link note m then
    × (HasBegunAt (route_of link) (Err why.Worn) then m' ⊎ (HasMet 0 1 m m' × HasBegunThen (route_of link) (λ x n. HasLeft n m') then)))

-- The sibling was looked for, and found; or there is the cause why the base was not joined.
abbrev pub HasLookedFor : Sizes → Link → Note → Result ℕ Why → MyTree → MyTree → Type 0
HasLookedFor z link note (Ok row) m m' = FindsSibling z link note row m m'
HasLookedFor z link note (Err why) m m' = IsWhyNotJoined z link note why m m' × (m'.0.upper.turns.passed ≡ m.0.upper.turns.passed)

-- This became of the base that was to be joined: the exchange by which the joined base took the place of its route was won, behind two marks, and none was
-- lost; or there is the cause.
abbrev pub IsJoinOutcome : Sizes → Link → Note → Adapted → MyTree → MyTree → Type 0
IsJoinOutcome z link note adapted.Stay m m' = ⊥
IsJoinOutcome z link note adapted.Split m m' = ⊥
IsJoinOutcome z link note adapted.Joined m m' = (link ≢ on.Root) × ((then : MyTree) × HasLooked z link note m then × HasMet 0 0 m m'
    × (losses m' ≡ losses m) × HasForgotten m'.0.upper × HasBegunThen (route_of link) (λ x n. HasMade 2 1 n m') then)
IsJoinOutcome z link note (adapted.NotSplit why) m m' = ⊥
IsJoinOutcome z link note (adapted.NotJoined why) m m' = IsWhyNotJoined z link note why m m'

-- The exchanges that were lost and the marks were added to what was spent. What a call helped is not told here.
pub record IsSpentTrying (before now : Spent) (m m' : MyTree) : Type 0 where
  pub lost : RisesBy before.lost now.lost (losses m) (losses m')
  pub passed : RisesBy before.passed now.passed m.0.upper.turns.passed m'.0.upper.turns.passed
  pub helped : now.helped ≡ before.helped

-- No exchange of a link was lost, and the tree has so many rows and bases more, at most, at any time.
pub record IsLoneBy (more : ℕ) (u v : TreeView) : Type 0 where
  pub won : v.lost ≡ u.lost
  pub rows_are : length v.inventory.rows ≤ length u.inventory.rows + more
  pub bases_are : length v.inventory.bases ≤ length u.inventory.bases + more
  pub most_are : v.inventory.most ≤ max u.inventory.most (length u.inventory.rows + more)

-- A pass that is alone, to which the base is listed, loses no exchange of a link or a join word, whatever becomes of the base, and nothing is in its way: where
-- it was told that an exchange was lost, it was one of the pool's head. The tree has one row and one base more, at most, at any time.
pub record IsLoneTry (a : Adapted) (m m' : MyTree) : Type 0 where
  pub by : IsLoneBy 1 m.0.upper m'.0.upper
  pub free : a ≢ adapted.NotJoined why.Taken
  pub pools : a ≡ adapted.NotJoined why.Lost → m.0.lost < m'.0.lost
