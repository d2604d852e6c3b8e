-- Passes that hold a row, and so may write it.
use Rattle.std.specs.Prelude.{ℕ}
use Rattle.ca_base.specs.Writing.{IsHeldIn}
use Rattle.ca_node.specs.TreeView.{TreeView}
use Rattle.ca_rows.specs.declared.space.Pass.{Pass}
use Rattle.ca_rows.specs.declared.space.Space.{Space}
use Rattle.ca_rows.specs.Passes.{IsOn, IsReading, sizes, known}

module _ {R : Type 0} (space : Space R TreeView) (pass : Pass R TreeView) (row : ℕ) where
  -- The pass is one of this space, and holds the row.
  pub record HoldsRow : Type 0 where
    pub own : IsOn space pass
    pub held : IsHeldIn (sizes space) (known pass) row

  -- The pass is one of this space, is pinned, and holds the row: rows that it was shown can be read while this one is written.
  pub record ReadsAndHolds : Type 0 where
    pub reading : IsReading space pass
    pub held : IsHeldIn (sizes space) (known pass) row
