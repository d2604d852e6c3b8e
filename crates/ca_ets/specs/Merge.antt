-- Merges of several clients' lists, and the run of one thread over a merge. Clients count from 1.
use Rattle.std.specs.Prelude.{◌≡◌, ℕ, zero, suc, ◌==◌, List, [], ◌∷◌, if◌then◌else◌, slice_index_or}
use Rattle.ca_term.specs.Tree.{Tree}
use Rattle.ca_ets.specs.Command.{Command, Response, Continuation, Never}
use Rattle.ca_ets.specs.Step.{step}

-- the list of the client of this number; number 0 has the empty list, and so has each number past the last client's
abbrev pub list_of_client : {A : Type 0} → List (List A) → ℕ → List A
list_of_client lists zero = []
list_of_client lists (suc before) = slice_index_or lists before []

-- a client's items in a merge, in order
abbrev pub items_of : {A : Type 0} → ℕ → List (ℕ × A) → List A
items_of client [] = []
items_of client (turn ∷ merge) = if turn.0 == client then turn.1 ∷ items_of client merge else items_of client merge

-- The merge holds each item of each client's list once, keeps the order of each list, and holds nothing else.
abbrev pub IsMerge : {A : Type 0} → List (List A) → List (ℕ × A) → Type 0
IsMerge lists merge = (client : ℕ) → items_of client merge ≡ list_of_client lists client

-- what a run comes to: the table, and the replies in order, each with its client
pub record Run : Type 0 where
  pub table : List Tree
  pub replies : List (ℕ × Response)

-- the clients' continuations with this one for this client
abbrev pub with_continuation : (ℕ → Continuation) → ℕ → Continuation → ℕ → Continuation
with_continuation continuations client continuation other = if other == client then continuation else continuations other

abbrev pub run_from : ℕ → List Tree → (ℕ → Continuation) → List (ℕ × Command) → Run
run_from keypos map continuations [] = record { table = map; replies = [] }
run_from keypos map continuations (turn ∷ merge) =
    let first = step keypos map (continuations turn.0) turn.1 in
    let rest = run_from keypos first.map (with_continuation continuations turn.0 first.continuation) merge in
    record { table = rest.table; replies = (turn.0, first.response) ∷ rest.replies }

-- The run of one thread begins with the empty map, and no client has a continuation.
abbrev pub run_of : ℕ → List (ℕ × Command) → Run
run_of keypos merge = run_from keypos [] (λ _. Never) merge
