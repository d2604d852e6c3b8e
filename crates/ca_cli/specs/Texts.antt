-- The text of what clients were told.
use Rattle.std.specs.Prelude.{ℕ, ◌+◌, List, [], ◌∷◌, ◌++◌, sum_by}
use Rattle.ca_term.specs.Tree.{Tree}
use Rattle.ca_cmd.specs.Output.{client_line, table_text}
use Rattle.ca_cmd.specs.declared.answers.Answers.{Answers}
use Rattle.ca_words.specs.Grammar.{Request, Files, Generated}
use Rattle.ca_cli.specs.Summary.{summary_text}

-- the lines of each client, from the client of this number on
abbrev pub told_lines : ℕ → List Answers → List ℕ
told_lines client [] = []
told_lines client (told ∷ all) = client_line client ++ (told.text.items ++ told_lines (client + 1) all)

-- how many commands were refused
abbrev pub told_refusals : List Answers → ℕ
told_refusals all = sum_by (λ told. told.refused) all

-- what each client was told and the table; or, for lines from a seed, their summary
abbrev pub told_text : Request → List Answers → List Tree → List ℕ
told_text (Files keypos names) all table = told_lines 1 all ++ table_text table
told_text (Generated seed clients count) all table = summary_text clients count (told_refusals all) table
