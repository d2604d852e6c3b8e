-- The merge of several clients' commands by the places of their events in one history. Clients count from 1.
use Rattle.std.specs.Prelude.{ℕ, zero, suc, ◌==◌, Bool, true, false, List, [], ◌∷◌, ◌++◌, map, Option, None, Some, Ok, Err, if◌then◌else◌}
use Rattle.ca_ets.specs.Command.{Command, Response, Answer}
use Rattle.ca_model.specs.History.{Edit}
use Rattle.ca_model.specs.Event.{Entry, effect}
use Rattle.ca_explain.specs.Clients.{Part}

-- a command that was answered by a reply, and the entry of the log that is its event, where it has one
pub record Turn : Type 0 where
  pub command : Command
  pub response : Response
  pub event : Option Entry

-- a client's commands that were answered by a reply
abbrev pub turns_of : List Command → List Answer → List Part → List Turn
turns_of (command ∷ commands) (Ok response ∷ answers) (part ∷ parts) =
    record { command = command; response = response; event = part.event } ∷ turns_of commands answers parts
turns_of (command ∷ commands) (Err refusal ∷ answers) (part ∷ parts) = turns_of commands answers parts
turns_of commands answers parts = []

-- when a turn comes in the merge: before its client's first call of the store, with the update at a place, or with the reads at a place
pub data Moment : Type 0 where
  AtStart : Moment
  AtUpdate : ℕ → Moment
  AtReads : ℕ → Moment

-- whether two moments are one
abbrev pub is_same : Moment → Moment → Bool
is_same AtStart AtStart = true
is_same (AtUpdate p) (AtUpdate q) = p == q
is_same (AtReads p) (AtReads q) = p == q
is_same moment other = false

-- when a call of the store with these edits comes
abbrev pub moment_of : List Edit → ℕ → Moment
moment_of [] place = AtReads place
moment_of (edit ∷ edits) place = AtUpdate place

-- when a turn comes behind one of its client's: with its own event, or else right behind that one
abbrev pub moment_after : Moment → Option Entry → Moment
moment_after last None = last
moment_after last (Some entry) = moment_of (effect entry.0) entry.1

-- the turns of this moment, among those behind a turn of the moment `last`
abbrev pub turns_at : Moment → Moment → List Turn → List Turn
turns_at here last [] = []
turns_at here last (turn ∷ turns) =
    let moment = moment_after last turn.event in
    if is_same moment here then turn ∷ turns_at here moment turns else turns_at here moment turns

-- these turns, each with its client
abbrev pub by_client : ℕ → List Turn → List (ℕ × Turn)
by_client client turns = map (λ turn. (client, turn)) turns

-- client by client, so many from this one on, the turns of this moment
abbrev pub all_turns_at : Moment → ℕ → ℕ → (ℕ → List Turn) → List (ℕ × Turn)
all_turns_at here zero client turns = []
all_turns_at here (suc count) client turns = by_client client (turns_at here AtStart (turns client)) ++ all_turns_at here count (suc client) turns

-- the moments from a place on, where so many edits follow: the reads at it, the update at the next place, the reads at that one, and so on
abbrev pub moments_from : ℕ → ℕ → List Moment
moments_from place zero = AtReads place ∷ []
moments_from place (suc edits) = AtReads place ∷ AtUpdate (suc place) ∷ moments_from (suc place) edits

-- moment by moment, the turns of each moment
abbrev pub turns_through : List Moment → ℕ → (ℕ → List Turn) → List (ℕ × Turn)
turns_through [] clients turns = []
turns_through (moment ∷ moments) clients turns = all_turns_at moment clients 1 turns ++ turns_through moments clients turns
