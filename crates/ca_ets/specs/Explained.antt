-- What explains the answers of several clients and the final table.
use Rattle.std.specs.Prelude.{◌≡◌, ℕ, List, [], ◌∷◌, length, map, Ok, Err}
use Rattle.ca_term.specs.Tree.{Tree}
use Rattle.ca_ets.specs.Command.{Command, Response, Answer}
use Rattle.ca_ets.specs.Merge.{IsMerge, run_of}

-- Each client has exactly one answer for each of its commands.
abbrev pub AreAnswered : List (List Command) → List (List Answer) → Type 0
AreAnswered [] [] = Unit {0}
AreAnswered [] (answers ∷ all) = ⊥
AreAnswered (commands ∷ files) [] = ⊥
AreAnswered (commands ∷ files) (answers ∷ all) = (length commands ≡ length answers) × AreAnswered files all

-- the commands of one client that were answered by a reply: a refused command is left out
abbrev pub commands_of_replies : List Command → List Answer → List Command
commands_of_replies [] answers = []
commands_of_replies (c ∷ commands) [] = []
commands_of_replies (c ∷ commands) (Ok reply ∷ answers) = c ∷ commands_of_replies commands answers
commands_of_replies (c ∷ commands) (Err refusal ∷ answers) = commands_of_replies commands answers

-- and those of each client
abbrev pub all_commands_of_replies : List (List Command) → List (List Answer) → List (List Command)
all_commands_of_replies [] all = []
all_commands_of_replies (commands ∷ files) [] = []
all_commands_of_replies (commands ∷ files) (answers ∷ all) = commands_of_replies commands answers ∷ all_commands_of_replies files all

-- the replies among one client's answers
abbrev pub replies_of : List Answer → List Response
replies_of [] = []
replies_of (Ok reply ∷ answers) = reply ∷ replies_of answers
replies_of (Err refusal ∷ answers) = replies_of answers

-- Each command has one answer, and one thread that runs this merge of the commands answered by a reply gives each client
-- its replies and ends with the table.
pub record ExplainedBy (keypos : ℕ) (files : List (List Command)) (answers : List (List Answer)) (merge : List (ℕ × Command)) (table : List Tree) : Type 0 where
  pub answered : AreAnswered files answers
  pub merges : IsMerge (all_commands_of_replies files answers) merge
  pub replies : IsMerge (map replies_of answers) (run_of keypos merge).replies
  pub table_is : (run_of keypos merge).table ≡ table

-- Some merge explains the answers and the table.
abbrev pub Explained : ℕ → List (List Command) → List (List Answer) → List Tree → Type 0
Explained keypos files answers table = (merge : List (ℕ × Command)) × ExplainedBy keypos files answers merge table
