-- Answers of which the printed lines are kept.
use Rattle.std.specs.Prelude.{◌≡◌, List, [], ◌∷◌}
use Rattle.ca_ets.specs.Command.{Answer}
use Rattle.ca_cmd.specs.Answers.{refusals}
use Rattle.ca_cmd.specs.File.{Numbered}
use Rattle.ca_cmd.specs.Output.{answer_lines}
use Rattle.ca_cmd.specs.declared.answers.Answers.{Answers}

-- The lines that are kept are those of these answers to these lines, and so many of the commands were refused.
pub record AreTold (lines : List Numbered) (answers : List Answer) (told : Answers) : Type 0 where
  pub text : told.text.items ≡ answer_lines lines answers
  pub refused : told.refused ≡ refusals answers

-- So it is with each client.
abbrev pub AreAllTold : List (List Numbered) → List (List Answer) → List Answers → Type 0
AreAllTold [] [] [] = Unit {0}
AreAllTold (lines ∷ files) (answers ∷ all) (told ∷ others) = AreTold lines answers told × AreAllTold files all others
AreAllTold files all others = ⊥
