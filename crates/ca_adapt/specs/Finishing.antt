-- Attempts to join that are secured: whoever meets one finishes it, by one exchange of the link on which the route hangs.
use Rattle.std.specs.Prelude.{◌≡◌, ◌⊎◌, Bool, true, false, ℕ, ◌+◌, ◌*◌, ◌<◌, cond, List, [], ◌∷◌}
use Rattle.ca_base.specs.Counting.{losses, HasMet, KeepsMore, PutsBack, TakesKept}
use Rattle.ca_base.specs.declared.stop.Stop.{Stop}
use Rattle.ca_base.specs.declared.stop.Stop.TheVariants as stop
use Rattle.ca_node.specs.declared.link.Link.{Link}
use Rattle.ca_node.specs.Layout.{base_form}
use Rattle.ca_node.specs.Links.{IsIn}
use Rattle.ca_node.specs.Told.{MyTree, IsAnyLink, IsKnown, IsRouteNote, link_word}
use Rattle.ca_node.specs.Tree.{StartsWith}
use Rattle.ca_node.specs.Unlinks.{Unlinking, attempt_by, one_unlinking_lost, unlinked, unlinked_inventory}
use Rattle.ca_node.specs.TreeView.{Way, Attempt, Turns, TreeView, no_joins, one_helped}
use Rattle.ca_rows.specs.declared.kept.Kept.{Kept}
use Rattle.ca_rows.specs.declared.kept.KeptRows.{KeptRows}
use Rattle.ca_rows.specs.declared.sizes.Sizes.{Sizes}
use Rattle.ca_rows.specs.Layout.{row_words}
use Rattle.ca_adapt.specs.declared.finishing.Finish.{Finish}
use Rattle.ca_adapt.specs.declared.finishing.Finish.TheVariants as finish
use Rattle.ca_adapt.specs.declared.finishing.Union.{Union}

-- The route hangs on this link, as the seat remembers that was shown it there: a link that it knows, within a space of these sizes.
pub record IsHungBy (z : Sizes) (u : TreeView) (route : ℕ) (above : Link) : Type 0 where
  pub way : Way
  pub remembered : IsIn way u.ways
  pub row_is : way.row ≡ route
  pub link_is : way.place.link ≡ link_word above
  pub is_route : IsRouteNote z way
  pub known : IsAnyLink u (link_word above)
  pub inside : link_word above < row_words * z.rows + row_words

-- Of what the seat knows of the tree this alone changed: what it has seen of the history, which is more at most, what it remembers of bases, routes and joins,
-- how many links it loaded, joins it carried out and exchanges of a link it lost, its turns, and what the tree has. A history known before is known still.
pub record IsSteps (z : Sizes) (u v : TreeView) : Type 0 where
  pub only : v ≡ (record u {
    seen = v.seen;
    notes = v.notes;
    ways = v.ways;
    ranges = record u.ranges { joins = v.ranges.joins };
    loads = v.loads;
    joins = v.joins;
    lost = v.lost;
    turns = v.turns;
    inventory = v.inventory;
  })
  pub seen : StartsWith v.seen u.seen
  pub known : IsKnown z u → IsKnown z v

-- It remembers no base and no route any more, and so nothing of joins.
abbrev pub HasForgotten : TreeView → Type 0
HasForgotten v = (v.notes ≡ []) × (v.ways ≡ []) × (v.ranges.joins ≡ no_joins)

-- the turns of one that helped an operation to its end, but where that was counted before
abbrev pub helped_unless : Bool → Turns → Turns
helped_unless counted turns = cond counted turns (one_helped turns)

-- The seat's exchange won: it carried out one join more.
pub record HasWonJoin (counted : Bool) (u v : TreeView) : Type 0 where
  pub joins : v.joins ≡ u.joins + 1
  pub lost : v.lost ≡ u.lost
  pub turns : v.turns ≡ helped_unless counted u.turns
  pub forgotten : HasForgotten v

-- Another pass had finished the attempt before, so that the seat's exchange was lost.
pub record HasLostJoin (u v : TreeView) : Type 0 where
  pub joins : v.joins ≡ u.joins
  pub lost : v.lost ≡ u.lost + 1
  pub turns : v.turns ≡ u.turns
  pub forgotten : HasForgotten v
  pub inventory : v.inventory ≡ u.inventory

-- No exchange of a link was tried. The seat remembers what it remembered.
pub record HasTriedNone (u v : TreeView) : Type 0 where
  pub joins : v.joins ≡ u.joins
  pub lost : v.lost ≡ u.lost
  pub turns : v.turns ≡ u.turns
  pub ways : v.ways ≡ u.ways
  pub ranges : v.ranges ≡ u.ranges
  pub inventory : v.inventory ≡ u.inventory

-- the form of a route, by which its row is kept
abbrev pub route_form : ℕ
route_form = 3

-- why there was no row
abbrev pub finish_by : Stop → Finish
finish_by (stop.Lost exchange) = finish.Lost
finish_by stop.Empty = finish.NoRow
finish_by stop.Worn = finish.Worn

-- The rows are those of the unlinking: the route, and both bases under it.
pub record AreRowsOf (x : Unlinking) (rows : Union) : Type 0 where
  pub route : x.way.row ≡ rows.attempt.route
  pub left : x.left.row ≡ rows.left
  pub right : x.right.row ≡ rows.right

-- The joined base took the route's place, and no exchange was lost; or one was.
abbrev pub HasPutJoined : Bool → ℕ → Unlinking → MyTree → MyTree → Type 0
HasPutJoined true new x m m' = (m'.0.upper ≡ unlinked new x m.0.upper) × (losses m' ≡ losses m)
HasPutJoined false new x m m' = (m'.0.upper ≡ one_unlinking_lost x m.0.upper) × (losses m < losses m')

-- This is what it came to: the attempt is finished now, by the seat's own exchange or by another pass before; or no row was there to be taken, and why.
abbrev pub IsFinish : Bool → Finish → MyTree → MyTree → Type 0
IsFinish counted finish.Done m m' = HasMet 0 0 m m' × ((HasWonJoin counted m.0.upper m'.0.upper × (losses m' ≡ losses m))
    ⊎ (HasLostJoin m.0.upper m'.0.upper × (losses m < losses m')))
IsFinish counted finish.NoRow m m' = HasMet 1 0 m m' × HasTriedNone m.0.upper m'.0.upper
IsFinish counted finish.Lost m m' = HasMet 0 0 m m' × HasTriedNone m.0.upper m'.0.upper × (losses m < losses m')
IsFinish counted finish.Worn m m' = HasMet 0 1 m m' × HasTriedNone m.0.upper m'.0.upper

-- Where no exchange was lost the route and both bases, which are unlinked, are kept behind the other rows; else the row that was held was put back.
abbrev pub KeepsJoined : Union → MyTree → MyTree → KeptRows → KeptRows → Type 0
KeepsJoined rows m m' kept kept' = (losses m' ≡ losses m → (next : List Kept) × KeepsMore route_form (rows.attempt.route ∷ []) kept.rows.items next
    × KeepsMore base_form (rows.left ∷ rows.right ∷ []) next kept'.rows.items) × (losses m < losses m' → PutsBack [] 1 m m' kept kept')

-- The same of one that took its row before, for a base: where no exchange was lost that one stands in the route's place.
abbrev pub KeepsFinished : ℕ → Finish → MyTree → MyTree → KeptRows → KeptRows → Type 0
KeepsFinished route finish.Done m m' kept kept' = (losses m' ≡ losses m → (taken : List Kept) × (next : List Kept) × (left : ℕ) × (right : ℕ)
    × TakesKept m.0.pin.told (base_form ∷ []) kept.rows.items taken × KeepsMore route_form (route ∷ []) taken next
    × KeepsMore base_form (left ∷ right ∷ []) next kept'.rows.items) × (losses m < losses m' → PutsBack (base_form ∷ []) 1 m m' kept kept')
KeepsFinished route finish.NoRow m m' kept kept' = PutsBack (base_form ∷ []) 0 m m' kept kept'
KeepsFinished route finish.Lost m m' kept kept' = PutsBack (base_form ∷ []) 1 m m' kept kept'
KeepsFinished route finish.Worn m m' kept kept' = PutsBack (base_form ∷ []) 0 m m' kept kept'

-- Of what the tree has this changed: a base took the place of the attempt's route, where the seat remembers that it hung, and of both bases under it.
abbrev pub IsUnited : Attempt → TreeView → TreeView → Type 0
IsUnited x u v = (new : ℕ) × (by : Unlinking) × (attempt_by by ≡ x) × IsIn by.way u.ways × (v.inventory ≡ unlinked_inventory new by u.inventory)

-- So it is where the attempt was finished, and no exchange was lost by that.
abbrev pub HasUnitedBy : Attempt → Finish → MyTree → MyTree → Type 0
HasUnitedBy x finish.Done m m' = losses m' ≡ losses m → IsUnited x m.0.upper m'.0.upper
HasUnitedBy x finish.NoRow m m' = Unit {0}
HasUnitedBy x finish.Lost m m' = Unit {0}
HasUnitedBy x finish.Worn m m' = Unit {0}

-- A secured attempt, which was counted as one that the seat helped, or wasn't, was finished, or no row was there to be taken. Two links were loaded.
pub record HasFinished (z : Sizes) (counted : Bool) (r : Finish) (m m' : MyTree) : Type 0 where
  pub steps : IsSteps z m.0.upper m'.0.upper
  pub loads : m'.0.upper.loads ≡ m.0.upper.loads + 2
  pub ends : IsFinish counted r m m'
