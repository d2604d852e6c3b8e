-- The summary of a run of generated lines.
use Rattle.std.specs.Prelude.{ℕ, zero, suc, ◌+◌, ℤ, pos, ◌+ℤ◌, List, [], ◌∷◌, ◌++◌, length, fold, codes, decimal}
use Rattle.std.specs.Fmt.{signed_decimal}
use Rattle.ca_term.specs.Tree.{Tree, Integer, Atom, Tuple, Nil, Cons, Binary, elements}
use Rattle.ca_cmd.specs.File.{Numbered}
use Rattle.ca_cmd.specs.Generator.{generated}

-- so many clients' lines, from the client of this number on
abbrev pub clients_from : ℕ → ℕ → ℕ → ℕ → List (List Numbered)
clients_from seed count client zero = []
clients_from seed count client (suc more) = generated seed client count ∷ clients_from seed count (client + 1) more

-- the integer that a term is, else 0
abbrev pub integer_of : Tree → ℤ
integer_of (Integer n) = n
integer_of (Atom text) = pos 0
integer_of (Tuple row) = pos 0
integer_of Nil = pos 0
integer_of (Cons head tail) = pos 0
integer_of (Binary bytes) = pos 0

-- an object's second element, where it is an integer, else 0
abbrev pub second_in : List Tree → ℤ
second_in [] = pos 0
second_in (key ∷ []) = pos 0
second_in (key ∷ value ∷ more) = integer_of value

abbrev pub second_of : Tree → ℤ
second_of (Integer n) = pos 0
second_of (Atom text) = pos 0
second_of (Tuple row) = second_in (elements row)
second_of Nil = pos 0
second_of (Cons head tail) = pos 0
second_of (Binary bytes) = pos 0

-- the sum of the second elements of a table's objects
abbrev pub sum_of : List Tree → ℤ
sum_of table = fold (λ sum object. sum +ℤ second_of object) (pos 0) table

-- a text and a number, up to the end of the line
abbrev pub number_line : List ℕ → ℕ → List ℕ
number_line name n = name ++ decimal n ++ codes "\n"

abbrev pub generated_line : ℕ → ℕ → List ℕ
generated_line clients count = codes "generated " ++ decimal clients ++ number_line (codes " ") count

abbrev pub sum_line : ℤ → List ℕ
sum_line sum = codes "sum " ++ signed_decimal sum ++ codes "\n"

abbrev pub summary_text : ℕ → ℕ → ℕ → List Tree → List ℕ
summary_text clients count refused table =
    generated_line clients count ++ number_line (codes "refused ") refused ++ number_line (codes "end ") (length table) ++ sum_line (sum_of table)
