-- What contracts see of a tree that was closed.
use Rattle.std.specs.Prelude.{ℕ, List, map}
use Rattle.ca_adapt.specs.declared.tuning.Tuning.{Tuning}
use Rattle.ca_node.specs.TreePasses.{tree_of}
use Rattle.ca_node.specs.TreeView.{Ended, TreeView, ended_of}
use Rattle.ca_replace.specs.Resting.{numbers_of}
use Rattle.ca_replace.specs.declared.tree.Tree.{Tree}
use Rattle.ca_rows.specs.declared.sizes.Sizes.{Sizes}
use Rattle.ca_rows.specs.declared.space.Pass.{Pass}

-- The numbers that tell the tree's table from all others, the sizes, with the starts, and the tuning that it was made with, how many passes it made, and what
-- is left of each pass with which it was closed: its number, its log, its counts of refusals, and how many splits and joins it carried out.
pub record TreePast : Type 0 where
  pub table : List ℕ
  pub sizes : Sizes
  pub tuning : Tuning
  pub made : ℕ
  pub passes : List Ended

-- what is left of a pass
abbrev pub left_by : {R : Type 0} → Pass R TreeView → Ended
left_by pass = ended_of (tree_of pass)

-- that of this tree, which is closed with these passes
abbrev pub past_of : {R : Type 0} → Tree → List (Pass R TreeView) → TreePast
past_of tree passes = record {
  table = numbers_of tree.space.table.shared.table_id;
  sizes = tree.space.sizes;
  tuning = tree.tuning;
  made = tree.space.made;
  passes = map left_by passes;
}
