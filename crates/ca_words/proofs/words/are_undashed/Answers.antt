use Rattle.std.proofs.Common.{rules}
use Rattle.std.proofs.lemmas.List.Folds.{list_all-map}
use Rattle.ca_words.proofs.words.are_undashed.Goals as goal

pub returns : goal.returns
returns c = simp list_all-map (search rules)
