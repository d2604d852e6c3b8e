-- Trees that were opened for a call's clients, once they are closed.
use Rattle.std.proofs.Common.{◌∙◌, ℕ, List}
use Rattle.ca_ets.specs.Command.{Command}
use Rattle.ca_client.specs.Ran.{IsPastOf}
use Rattle.ca_replace.specs.Past.{TreePast}
use Rattle.ca_replace.specs.declared.tree.Tree.{Tree}
use Rattle.ca_words.specs.declared.tree.TreeOptions.{TreeOptions}
use Rattle.ca_cli.specs.Opening.{IsMadeFor, IsOpened}

-- What was opened for them was made for them.
pub made_for : (keypos : ℕ) (options : TreeOptions) (all : List (List Command)) (tree : Tree) (past : TreePast) → IsOpened keypos options all tree
    → IsPastOf tree past → IsMadeFor keypos options all past
made_for keypos options all tree past opened is = record { sizes = is.sizes ∙ opened.sizes; tuning = is.tuning ∙ opened.tuning }
