-- What several clients' logs of one history explain.
use Rattle.std.specs.Prelude.{ℕ, zero, suc, ◌≤◌, List, ◌∷◌, [], length, map, slice_index_or}
use Rattle.ca_term.specs.Tree.{Tree}
use Rattle.ca_ets.specs.Command.{Command, Never}
use Rattle.ca_ets.specs.Explained.{ExplainedBy}
use Rattle.ca_model.specs.History.{History, state, AreByPasses}
use Rattle.ca_model.specs.Lawful.{IsLawful}
use Rattle.ca_explain.specs.Stands.{Stands}
use Rattle.ca_explain.specs.Clients.{Client, log_of, Plays}
use Rattle.ca_explain.specs.Places.{Turn, turns_of, AtStart, moments_from, turns_through}

abbrev pub nobody : Client
nobody = record { commands = []; answers = []; parts = [] }

-- the client of this number
abbrev pub client_of : List Client → ℕ → Client
client_of clients zero = nobody
client_of clients (suc before) = slice_index_or clients before nobody

-- all turns of each client
abbrev pub all_turns : List Client → ℕ → List Turn
all_turns clients number =
    let client = client_of clients number in turns_of client.commands client.answers client.parts

-- the commands of these turns, each with its client
abbrev pub commands_of : List (ℕ × Turn) → List (ℕ × Command)
commands_of turns = map (λ turn. (turn.0, turn.1.command)) turns

-- the merge of the clients' commands by the places of their events
abbrev pub merge_of : History → List Client → List (ℕ × Command)
merge_of history clients = commands_of (turns_through (AtStart ∷ moments_from 0 (length history)) (length clients) (all_turns clients))

-- Each client played as its log tells, which is lawful for the one history; it has no other edits, and its last state stands for the table.
pub record HaveLogs (keypos : ℕ) (history : History) (clients : List Client) (table : List Tree) : Type 0 where
  pub enrolled : AreByPasses (length clients) history
  pub plays : (i : ℕ) → 1 ≤ i → i ≤ length clients
      → Plays keypos Never (client_of clients i).commands (client_of clients i).answers (client_of clients i).parts
  pub lawful : (i : ℕ) → 1 ≤ i → i ≤ length clients → IsLawful i history (log_of (client_of clients i).parts)
  pub ends : Stands keypos (state history (length history)) table

-- Such logs explain the answers and the table, by the merge by places.
abbrev pub LogsExplain : Type 0
LogsExplain = (keypos : ℕ) (history : History) (clients : List Client) (table : List Tree) → HaveLogs keypos history clients table
    → ExplainedBy keypos (map (λ c. c.commands) clients) (map (λ c. c.answers) clients) (merge_of history clients) table
