-- What is printed of answers and of a table.
use Rattle.std.specs.Prelude.{ℕ, ◌+◌, Bool, true, false, List, [], ◌∷◌, ◌++◌, length, codes, decimal, flat_map, Ok, Err}
use Rattle.ca_term.specs.Tree.{Tree, Nil, list_of}
use Rattle.ca_ets.specs.Command.{Response, Truth, Value, Items, Results, End, Error, Answer, Full, Deep, Worn}
use Rattle.ca_ets.specs.declared.command.Fault.{Fault}
use Rattle.ca_ets.specs.declared.command.Fault.TheVariants.{BadArg, Range, Size}
use Rattle.ca_text.specs.Text.{text_of}
use Rattle.ca_cmd.specs.File.{Numbered}

abbrev pub text_of_fault : Fault → List ℕ
text_of_fault BadArg = codes "error badarg"
text_of_fault Range = codes "error range"
text_of_fault Size = codes "error size"

-- how the text of a batch ends: whether there may be more
abbrev pub batch_end : Bool → List ℕ
batch_end true = codes ",more}"
batch_end false = codes ",'$end_of_table'}"

-- a reply's term text, or its error
abbrev pub text_of_response : Response → List ℕ
text_of_response (Truth true) = codes "true"
text_of_response (Truth false) = codes "false"
text_of_response (Value t) = text_of t
text_of_response (Items ts) = text_of (list_of ts Nil)
text_of_response (Results ts more) = codes "{" ++ text_of (list_of ts Nil) ++ batch_end more
text_of_response End = codes "'$end_of_table'"
text_of_response (Error fault) = text_of_fault fault

abbrev pub text_of_answer : Answer → List ℕ
text_of_answer (Ok response) = text_of_response response
text_of_answer (Err Full) = codes "refused full"
text_of_answer (Err Deep) = codes "refused deep"
text_of_answer (Err Worn) = codes "refused worn"

-- the line of an answer: the number of its command's line, and its text
abbrev pub answer_line : ℕ → Answer → List ℕ
answer_line number answer = decimal number ++ codes " " ++ text_of_answer answer ++ codes "\n"

-- a line for each command
abbrev pub answer_lines : List Numbered → List Answer → List ℕ
answer_lines [] answers = []
answer_lines (l ∷ lines) [] = []
answer_lines (l ∷ lines) (a ∷ answers) = answer_line l.number a ++ answer_lines lines answers

-- what a client's answers begin with
abbrev pub client_line : ℕ → List ℕ
client_line client = codes "client " ++ decimal client ++ codes "\n"

-- the clients' answers, from the client of this number on
abbrev pub client_lines : ℕ → List (List Numbered) → List (List Answer) → List ℕ
client_lines client [] answers = []
client_lines client (lines ∷ files) [] = []
client_lines client (lines ∷ files) (own ∷ answers) = client_line client ++ answer_lines lines own ++ client_lines (client + 1) files answers

-- what the table begins with
abbrev pub table_line : List ℕ
table_line = codes "table\n"

-- an object of the table
abbrev pub object_line : Tree → List ℕ
object_line o = text_of o ++ codes ".\n"

-- the last line: how many objects there are
abbrev pub end_line : ℕ → List ℕ
end_line count = codes "end " ++ decimal count ++ codes "\n"

-- the table's objects in key order
abbrev pub table_text : List Tree → List ℕ
table_text table = table_line ++ flat_map object_line table ++ end_line (length table)

-- the whole output: each client's answers, and the table
abbrev pub text_of_run : List (List Numbered) → List (List Answer) → List Tree → List ℕ
text_of_run files answers table = client_lines 1 files answers ++ table_text table
