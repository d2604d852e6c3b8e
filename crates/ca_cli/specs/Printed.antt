-- What is printed of a run of clients.
use Rattle.std.specs.Prelude.{ℕ, Bool, true, false, List, [], ◌++◌, sum_by, codes, decimal}
use Rattle.ca_term.specs.Tree.{Tree}
use Rattle.ca_ets.specs.Command.{Answer}
use Rattle.ca_cmd.specs.File.{Numbered}
use Rattle.ca_cmd.specs.Output.{text_of_run}
use Rattle.ca_words.specs.Grammar.{Request, Files, Generated}
use Rattle.ca_words.specs.declared.tree.TreeOptions.{TreeOptions}
use Rattle.ca_cmd.specs.Answers.{refusals}
use Rattle.ca_cli.specs.Summary.{number_line, summary_text}

-- which element of an object is its key, counted from 1: in lines from a seed it is the first
abbrev pub keypos_of : Request → ℕ
keypos_of (Files keypos names) = keypos
keypos_of (Generated seed clients count) = 1

-- each client's answers and the table; or, for lines from a seed, their summary
abbrev pub text_of : Request → List (List Numbered) → List (List Answer) → List Tree → List ℕ
text_of (Files keypos names) lines answers table = text_of_run lines answers table
text_of (Generated seed clients count) lines answers table = summary_text clients count (sum_by refusals answers) table

-- how many bases were split and how many were joined
abbrev pub shape_line : ℕ → ℕ → List ℕ
shape_line splits joins = codes "shape " ++ decimal splits ++ number_line (codes " ") joins

-- the line of the shape, where it is asked for
abbrev pub shape_if : Bool → ℕ → ℕ → List ℕ
shape_if true splits joins = shape_line splits joins
shape_if false splits joins = []

abbrev pub shape_text : TreeOptions → ℕ → ℕ → List ℕ
shape_text options splits joins = shape_if options.shape splits joins
