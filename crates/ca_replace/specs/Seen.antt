-- What contracts see of a pass on a tree, and of what is kept of its last update.
use Rattle.std.specs.Prelude.{ℕ, Bool, List}
use Rattle.std.specs.declared.option.Option.{Option}
use Rattle.ca_model.specs.declared.outcome.Outcome.{Outcome}
use Rattle.ca_node.specs.TreeView.{Note, TreeView}
use Rattle.ca_replace.specs.Called.{HasTold}
use Rattle.ca_replace.specs.declared.adapting.Last.{Last}
use Rattle.ca_replace.specs.declared.tree.Tree.{Tree}
use Rattle.ca_replace.specs.Causes.{IsSparing}
use Rattle.ca_replace.specs.Resting.{StoreView}
use Rattle.ca_replace.specs.TreePromises.{HasRead, WasInBudget}
use Rattle.ca_rows.specs.declared.space.Pass.{Pass}

abbrev pub store_of : {R : Type 0} → Tree → Pass R TreeView → Last → StoreView
store_of tree pass last = record {
  table = tree.space.table.shared.table_id;
  z = tree.space.table.shared.key;
  tuning = tree.tuning;
  number = pass.number;
  tally = pass.tally;
  kept = pass.kept.rows;
  seat = pass.seat;
  last = last;
}

-- A call of this pass tells so, by what its store kept of its last update before it and keeps behind it.
abbrev pub HasToldBy : {R T : Type 0} → (T → Bool) → Option (List ℕ) → ℕ → Tree → Pass R TreeView → Last → Pass R TreeView → Last → Outcome T → Type 0
HasToldBy edits adds budget tree pass last new kept o = HasTold edits adds budget (store_of tree pass last) (store_of tree new kept) o

-- So does a call that read what is within edges, behind which the pass rests, of a store that keeps what it kept of its last update.
abbrev pub HasReadBy : {R T : Type 0} → (Note → Type 0) → ℕ → Tree → Pass R TreeView → Pass R TreeView → Last → Outcome T → Type 0
HasReadBy Needs budget tree pass new last o = HasRead Needs budget (store_of tree pass last) (store_of tree new last) o
    × IsSparing (store_of tree pass last) (store_of tree new last) × WasInBudget budget (store_of tree pass last) (store_of tree new last) o
