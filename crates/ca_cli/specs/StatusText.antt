-- What is written where a call of the program ends early.
use Rattle.std.specs.Prelude.{ℕ, List, [], ◌++◌, codes, decimal}
use Rattle.ca_cli.specs.declared.status.Status.{Status}
use Rattle.ca_cli.specs.declared.status.Status.TheVariants.{Done, Usage, ShelfFault, SinkFault, BadLine, NoMemory, TooLong}

abbrev pub text_of_status : Status → List ℕ
text_of_status Done = []
text_of_status Usage = codes "usage: ca run [OPTIONS] [--] FILE...\n"
text_of_status (ShelfFault file) = codes "cannot read file " ++ decimal file ++ codes "\n"
text_of_status SinkFault = []
text_of_status (BadLine file line at) = codes "bad line: file " ++ decimal file ++ codes " line " ++ decimal line ++ codes " at " ++ decimal at ++ codes "\n"
text_of_status NoMemory = []
text_of_status (TooLong file) = codes "file " ++ decimal file ++ codes " too long\n"

-- the exit code
abbrev pub code_of_status : Status → ℕ
code_of_status Done = 0
code_of_status Usage = 2
code_of_status (ShelfFault file) = 3
code_of_status SinkFault = 4
code_of_status (BadLine file line at) = 5
code_of_status NoMemory = 6
code_of_status (TooLong file) = 7
