-- The tree of a space that was closed.
use Rattle.std.specs.Prelude.{◌≡◌, ◌==◌, ℕ, ◌+◌, ◌*◌, ◌<◌, cond, List, [], ◌++◌, map, slice_index}
use Prim.Native.Nat.{zero, suc}
use Rattle.ca_model.specs.History.{History, after, AreEdits, AreByPasses}
use Rattle.ca_model.specs.Lawful.{IsLawful}
use Rattle.ca_rows.specs.declared.sizes.Sizes.{Sizes}
use Rattle.ca_node.specs.Links.{IsIn}
use Rattle.ca_node.specs.Row.{row_at, form, items, pair}
use Rattle.ca_node.specs.Shape.{Role, IsShape}
use Rattle.ca_node.specs.TreeView.{TreeView}
use Rattle.ca_rows.specs.Layout.{row_words}
use Rattle.ca_node.specs.Layout.{root_word}

-- the object rows under a link, in order, down to so many levels: a route's are those on its left and then those on its right
abbrev pub rows_under : ℕ → List ℕ → ℕ → List ℕ
rows_under zero words link = []
rows_under (suc deep) words link =
    let row = slice_index words link in
    cond (form (row_at words row) == 3) (rows_under deep words (row_words * row + 1) ++ rows_under deep words (row_words * row + 2)) (items (row_at words row))

-- The words are those of a tree with the last state of one history, of so many passes, for which the logs of these passes are lawful.
pub record IsLastTree (z : Sizes) (made : ℕ) (passes : List TreeView) (words : List ℕ) : Type 0 where
  pub history : History
  pub edits : AreEdits z.keypos history
  pub by_passes : AreByPasses made history
  pub lawful : (u : TreeView) → IsIn u passes → 0 < u.number → IsLawful u.number history u.log
  pub role : ℕ → Role
  pub shape : IsShape z words role (after history [])
  -- The objects under the root link are the whole map, in order.
  pub has : map (λ row. pair (row_at words row)) (rows_under (suc z.levels) words root_word) ≡ after history []
