-- Commands that may add an object to the table.
use Rattle.std.specs.Prelude.{ℕ, Bool, true, false, List}
use Rattle.std.specs.List.{count_by}
use Rattle.ca_ets.specs.Command.{Command}
use Rattle.ca_ets.specs.declared.command.Cmd.TheVariants.{Insert, InsertNew}

-- whether a command may add an object
abbrev pub may_add : Command → Bool
may_add (Insert o) = true
may_add (InsertNew o) = true
may_add _ = false

-- how many of these commands may
abbrev pub adding_in : List Command → ℕ
adding_in commands = count_by may_add commands
