-- What is left of the passes of a closed tree, by what they knew.
use Rattle.std.proofs.Common.{◌≡◌, ◌∙◌, ◌<◌, ℕ, suc, List, [], ◌∷◌, map, refl, subst, ⊎_elim}
use Rattle.ca_close.specs.Listing.{objects_of}
use Rattle.ca_model.specs.Lawful.{IsLawful}
use Rattle.ca_model.specs.StoreMap.{StoreMap}
use Rattle.ca_node.proofs.Looking.{in_more}
use Rattle.ca_node.specs.LastTree.{IsLastTree, rows_under}
use Rattle.ca_node.specs.Laws.{in_nothing}
use Rattle.ca_node.specs.Layout.{root_word}
use Rattle.ca_node.specs.Links.{IsIn}
use Rattle.ca_node.specs.TreePasses.{tree_of}
use Rattle.ca_node.specs.TreeView.{Ended, TreeView, ended_of}
use Rattle.ca_replace.specs.Closing.{IsClosed}
use Rattle.ca_replace.specs.Past.{left_by, past_of}
use Rattle.ca_replace.specs.declared.tree.Tree.{Tree}
use Rattle.ca_rows.specs.declared.space.Pass.{Pass}

module _ {R : Type 0} where
  -- What holds of what is left of each view holds of what is left of each pass.
  pub each_left : (P : Ended → Type 0) (passes : List (Pass R TreeView)) → ((u : TreeView) → IsIn u (map tree_of passes) → P (ended_of u))
      → (pass : Ended) → IsIn pass (map left_by passes) → P pass
  each_left P [] all pass is = absurd (in_nothing pass [] refl is)
  each_left P (x ∷ passes) all pass is = ⊎_elim (λ (same : left_by x ≡ pass). subst P same (all (tree_of x) (0, refl)))
      (λ (rest : IsIn pass (map left_by passes)). each_left P passes (λ u i. all u (suc i.0, i.1)) pass rest)
      (in_more (left_by x) pass (map left_by passes) is)

  -- A tree with these last words is closed.
  pub is_closed : (tree : Tree) (passes : List (Pass R TreeView)) (words : List ℕ) (objects : StoreMap)
      → IsLastTree tree.space.sizes tree.space.made (map tree_of passes) words
      → objects ≡ objects_of words (rows_under (suc tree.space.sizes.levels) words root_word) → IsClosed (past_of tree passes) objects
  is_closed tree passes words objects last is = record {
    history = last.history;
    edits = last.edits;
    by_passes = last.by_passes;
    lawful = each_left (λ (pass : Ended). 0 < pass.number → IsLawful pass.number last.history pass.log) passes last.lawful;
    has = is ∙ last.has;
  }
