-- What a closed tree says of its passes.
use Rattle.std.specs.Prelude.{◌≡◌, ◌<◌, []}
use Rattle.ca_model.specs.History.{History, after, AreEdits, AreByPasses}
use Rattle.ca_model.specs.Lawful.{IsLawful}
use Rattle.ca_model.specs.StoreMap.{StoreMap}
use Rattle.ca_node.specs.Links.{IsIn}
use Rattle.ca_node.specs.TreeView.{Ended}
use Rattle.ca_replace.specs.Past.{TreePast}

-- There is one history of the edits of so many passes as the tree made, for which the log of each of its passes is lawful, and whose last state these
-- objects are.
pub record IsClosed (past : TreePast) (objects : StoreMap) : Type 0 where
  pub history : History
  pub edits : AreEdits past.sizes.keypos history
  pub by_passes : AreByPasses past.made history
  pub lawful : (pass : Ended) → IsIn pass past.passes → 0 < pass.number → IsLawful pass.number history pass.log
  pub has : objects ≡ after history []
