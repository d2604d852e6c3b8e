-- One client's commands on one thread, in order.
use Rattle.std.specs.Prelude.{◌≡◌, ℕ, List, [], ◌∷◌, length}
use Rattle.ca_term.specs.Tree.{Tree}
use Rattle.ca_ets.specs.Command.{Command, Response, Answer, Continuation, Never}
use Rattle.ca_ets.specs.Explained.{commands_of_replies, replies_of}
use Rattle.ca_ets.specs.Step.{step}

-- what the commands come to, from a map and a continuation on: the replies, the table and the continuation
pub record RunInOrder : Type 0 where
  pub replies : List Response
  pub table : List Tree
  pub continuation : Continuation

abbrev pub run_in_order : ℕ → List Tree → Continuation → List Command → RunInOrder
run_in_order keypos map continuation [] = record { replies = []; table = map; continuation = continuation }
run_in_order keypos map continuation (c ∷ cs) =
    let first = step keypos map continuation c in
    let rest = run_in_order keypos first.map first.continuation cs in
    record { replies = first.response ∷ rest.replies; table = rest.table; continuation = rest.continuation }

-- One answer a command, and the commands that were answered by a reply give, in order and from the empty map, these replies and this table.
pub record IsInOrder (keypos : ℕ) (commands : List Command) (answers : List Answer) (table : List Tree) : Type 0 where
  pub answered : length commands ≡ length answers
  pub replies : (run_in_order keypos [] Never (commands_of_replies commands answers)).replies ≡ replies_of answers
  pub table_is : (run_in_order keypos [] Never (commands_of_replies commands answers)).table ≡ table
