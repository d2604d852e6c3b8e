-- How far bases go, as a number that is greater for one that goes farther.
use Rattle.std.specs.Prelude.{ℕ, zero, suc, ◌+◌, ◌*◌, List, [], ◌∷◌}
use Rattle.ca_model.specs.Edges.{Bound, Unbounded, Included, Excluded}
use Rattle.ca_base.specs.Putting.{first_note}
use Rattle.ca_node.specs.TreeView.{TreeView}

-- how many lists there are of at most so many bytes
unfoldable pub room : ℕ → ℕ
room zero = 1
room (suc n) = 1 + 256 * room n

-- how many of them are less than this one
unfoldable pub rank : ℕ → List ℕ → ℕ
rank zero key = 0
rank (suc n) [] = 0
rank (suc n) (b ∷ bs) = 1 + b * room n + rank n bs

-- how far keys go up to this bound, of those that routes have
abbrev pub reach_to : Bound → ℕ
reach_to Unbounded = room 1000
reach_to (Included key) = rank 1000 key
reach_to (Excluded key) = rank 1000 key

-- how far the base goes that was shown last
abbrev pub reach : TreeView → ℕ
reach u = reach_to (first_note u.notes).place.span.high
