-- The tuning of a tree fits the words that its passes share.
use Rattle.std.proofs.Common.{subst}
use Rattle.ca_adapt.specs.Tuned.{IsTuned}
use Rattle.ca_replace.specs.declared.tree.Tree.{Tree}
use Rattle.ca_rows.specs.declared.sizes.Sizes.{Sizes}

pub tuned_on : (tree : Tree) → IsTuned tree.space.table.shared.key tree.tuning
tuned_on tree = subst (λ (z : Sizes). IsTuned z tree.tuning) tree.space.same tree.tuned
