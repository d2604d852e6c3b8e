-- Words for what contracts say of a pass on a tree.
use Rattle.std.specs.Prelude.{◌≡◌, ◌<◌, ◌≤◌}
use Rattle.ca_node.specs.TreeView.{TreeView}
use Rattle.ca_rows.specs.Passes.{IsReading}
use Rattle.ca_rows.specs.declared.space.Pass.{Pass}
use Rattle.ca_rows.specs.declared.space.Space.{Space}

module _ {R : Type 0} where
  -- what the pass knows of the tree
  abbrev pub tree_of : Pass R TreeView → TreeView
  tree_of pass = pass.seat.me.0.upper

  -- The pass is pinned, and may speak of its own range: its number is the one by which the words know it.
  pub record IsOwner (space : Space R TreeView) (pass : Pass R TreeView) : Type 0 where
    pub reading : IsReading space pass
    pub same_number : pass.seat.me.0.upper.number ≡ pass.number
    pub some_number : 0 < pass.number
    pub few : pass.number ≤ 64
