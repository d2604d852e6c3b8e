-- The generator: a client's commands, made from a number.
use Rattle.std.specs.Prelude.{ℕ, zero, suc, pos, ◌+◌, ◌*◌, ◌-◌, ◌/◌, ◌%◌, ◌==◌, nat_lt, List, [], ◌∷◌, codes, if◌then◌else◌}
use Rattle.ca_term.specs.Tree.{Tree, Integer, Atom, Tuple, Nil, row_of, list_of}
use Rattle.ca_ets.specs.Command.{Command}
use Rattle.ca_ets.specs.declared.command.Cmd.TheVariants as command
use Rattle.ca_cmd.specs.File.{Numbered}

-- the number from which a client's draws begin
abbrev pub start_of : ℕ → ℕ → ℕ
start_of seed client = (seed + 1000 * (client - 1)) % 2147483648

-- the number after a draw, and what the draw gives: the number's upper part
abbrev pub next_number : ℕ → ℕ
next_number x = (x * 1103515245 + 12345) % 2147483648

abbrev pub drawn : ℕ → ℕ
drawn x = x / 65536

-- the tuple of two terms, and one of two integers
abbrev pub two : Tree → Tree → Tree
two a b = Tuple (row_of (a ∷ b ∷ []))

abbrev pub integers : ℕ → ℕ → Tree
integers a b = two (Integer (pos a)) (Integer (pos b))

-- every object: [{'_',[],['$_']}]
abbrev pub every_object : Tree
every_object = list_of (Tuple (row_of (Atom (codes "_") ∷ Nil ∷ list_of (Atom (codes "$_") ∷ []) Nil ∷ [])) ∷ []) Nil

-- the command of this operation, for a client's key of this number, with this value
abbrev pub command_of : ℕ → ℕ → ℕ → ℕ → Command
command_of client a k v =
    if nat_lt a 2 then command.Insert (two (integers client k) (Integer (pos v)))
    else (if a == 2 then command.InsertNew (two (integers client k) (Integer (pos v)))
    else (if a == 3 then command.Lookup (integers client k)
    else (if a == 4 then command.Delete (integers client k)
    else (if a == 5 then command.Take (integers client k)
    else (if a == 6 then command.UpdateCounter (integers client k) (Integer (pos 1))
    else command.Next (integers client k))))))

-- the objects of a client's keys from this number on, up to the one 20 behind
abbrev pub range_of : ℕ → ℕ → Command
range_of client k = command.SelectRange (integers client k) (integers client (k + 20)) every_object

-- the command of a line, by its number and by the number after each of its three draws: the operation's, the key's and the value's
abbrev pub command_at : ℕ → ℕ → ℕ → ℕ → ℕ → Command
command_at client number a k v =
    if number % 16 == 0 then range_of client (drawn k % 500)
    else command_of client (drawn a % 8) (drawn k % 500) (drawn v % 1000)

-- the command of a line, by its number and by the number before its draws
unfoldable pub drawn_command : ℕ → ℕ → ℕ → Command
drawn_command client number x =
    let a = next_number x in
    let k = next_number a in
    command_at client number a k (next_number k)

-- so many lines from the one of this number on, where the draws go on from x
abbrev pub lines_from : ℕ → ℕ → ℕ → ℕ → List Numbered
lines_from client x number zero = []
lines_from client x number (suc count) =
    let a = next_number x in
    let k = next_number a in
    let v = next_number k in
    record { number = number; command = command_at client number a k v } ∷ lines_from client v (number + 1) count

-- a client's lines, counted from 1
abbrev pub generated : ℕ → ℕ → ℕ → List Numbered
generated seed client lines = lines_from client (start_of seed client) 1 lines
