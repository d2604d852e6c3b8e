-- A small history with two clients, and the merge of their commands by places, written out.
use Rattle.std.specs.Prelude.{◌≡◌, ℕ, pos, true, List, [], ◌∷◌, None, Some, Ok, Err}
use Rattle.ca_term.specs.Tree.{Tree, Integer, Tuple, Nil, Ends, More}
use Rattle.ca_term.specs.Code.{code_of}
use Rattle.ca_ets.specs.Command.{Truth, Items, Error, Full}
use Rattle.ca_ets.specs.declared.command.Cmd.TheVariants.{Insert, Lookup}
use Rattle.ca_ets.specs.declared.command.Fault.TheVariants.{BadArg}
use Rattle.ca_model.specs.History.{Put, History}
use Rattle.ca_model.specs.Event.{Get, Write}
use Rattle.ca_explain.specs.Clients.{Part, Client}
use Rattle.ca_explain.specs.Explaining.{merge_of, HaveLogs}

-- the key n, and the object {n}
abbrev pub key : ℕ → Tree
key n = Integer (pos n)

abbrev pub object : ℕ → Tree
object n = Tuple (More (key n) Ends)

-- the part of a command that put {n} or found it, at this place; that of one that made no call of the store; and that of one that was
-- refused after it had read {n}
abbrev pub writes : ℕ → ℕ → Part
writes n place = record { left = []; event = Some (Write (code_of (key n)) (code_of (object n)), place) }

abbrev pub finds : ℕ → ℕ → Part
finds n place = record { left = []; event = Some (Get (code_of (key n)) (Some (code_of (object n))), place) }

abbrev pub makes_no_call : Part
makes_no_call = record { left = []; event = None }

abbrev pub is_refused : ℕ → ℕ → Part
is_refused n place = record { left = (Get (code_of (key n)) (Some (code_of (object n))), place) ∷ []; event = None }

-- Client 1 puts {1} and {3}, client 2 puts {2} between the two.
abbrev pub worked_history : History
worked_history =
    (1, Put (code_of (key 1)) (code_of (object 1)))
    ∷ (2, Put (code_of (key 2)) (code_of (object 2)))
    ∷ (1, Put (code_of (key 3)) (code_of (object 3)))
    ∷ []

-- `insert []`, which makes no call; `insert {1}` at 1; `lookup 2` at 2; `insert []`; `insert {3}` at 3
abbrev pub worked_first : Client
worked_first = record {
  commands = Insert Nil ∷ Insert (object 1) ∷ Lookup (key 2) ∷ Insert Nil ∷ Insert (object 3) ∷ [];
  answers = Ok (Error BadArg) ∷ Ok (Truth true) ∷ Ok (Items (object 2 ∷ [])) ∷ Ok (Error BadArg) ∷ Ok (Truth true) ∷ [];
  parts = makes_no_call ∷ writes 1 1 ∷ finds 2 2 ∷ makes_no_call ∷ writes 3 3 ∷ [];
}

-- `insert {2}` at 2; `lookup 1` at 2; `insert {4}`, which is refused; `insert []`; `lookup 3` at 3
abbrev pub worked_second : Client
worked_second = record {
  commands = Insert (object 2) ∷ Lookup (key 1) ∷ Insert (object 4) ∷ Insert Nil ∷ Lookup (key 3) ∷ [];
  answers = Ok (Truth true) ∷ Ok (Items (object 1 ∷ [])) ∷ Err Full ∷ Ok (Error BadArg) ∷ Ok (Items (object 3 ∷ [])) ∷ [];
  parts = writes 2 2 ∷ finds 1 2 ∷ is_refused 1 2 ∷ makes_no_call ∷ finds 3 3 ∷ [];
}

abbrev pub worked_clients : List Client
worked_clients = worked_first ∷ worked_second ∷ []

-- Their logs are lawful for the history, and its last state stands for {1}, {2} and {3}.
abbrev pub HaveWorkedLogs : Type 0
HaveWorkedLogs = HaveLogs 1 worked_history worked_clients (object 1 ∷ object 2 ∷ object 3 ∷ [])

-- At place 2 stands client 2's update, then the reads, client 1's before client 2's, each with its client's command behind it that made
-- no call; what client 1 did before its first call comes first of all, and the refused command isn't there.
abbrev pub IsWorkedMerge : Type 0
IsWorkedMerge = merge_of worked_history worked_clients ≡
    (1, Insert Nil)
    ∷ (1, Insert (object 1))
    ∷ (2, Insert (object 2))
    ∷ (1, Lookup (key 2)) ∷ (1, Insert Nil)
    ∷ (2, Lookup (key 1)) ∷ (2, Insert Nil)
    ∷ (1, Insert (object 3))
    ∷ (2, Lookup (key 3))
    ∷ []
