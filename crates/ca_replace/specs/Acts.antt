-- What a pass does to the tree that no read does.
use Rattle.std.specs.Prelude.{ℕ}
use Rattle.ca_node.specs.TreeView.{Renewal, Tries, TreeView}

-- which attempts to join it tried to begin, how many bases it split, and its last update
abbrev pub acts_of : TreeView → Tries × ℕ × Renewal
acts_of u = (u.tries, u.splits, u.renewal)
