-- What the play of several clients comes to.
use Rattle.std.specs.Prelude.{◌≡◌, ℕ, ◌<◌, min, List, length, sum_by, None, Some, slice_index_or}
use Rattle.ca_cmd.specs.File.{commands_in}
use Rattle.ca_cmd.specs.Lines.{numbered}
use Rattle.ca_cmd.specs.declared.answers.Answers.{Answers}
use Rattle.ca_cmd.specs.declared.line.Line.{Line}
use Rattle.ca_model.specs.declared.outcome.Changed.{Changed}
use Rattle.ca_model.specs.declared.outcome.Outcome.{Outcome}
use Rattle.ca_model.specs.Known.{Known}
use Rattle.ca_model.specs.Promises.{Promises}
use Rattle.ca_client.specs.Played.{HasStopped}
use Rattle.ca_client.specs.Told.{HasToldBefore}
use Rattle.ca_client.specs.declared.clients.Client.{Client}

-- how many lines these files have together, up to the last number that 64 bits hold
abbrev pub lines_in : List (List Line) → ℕ
lines_in files = min 18446744073709551615 (sum_by (λ lines. length lines) files)

-- It is the same client with the same lines and answers, and nothing changed that is known of its store.
pub record IsTended {S W : Type 0} (knows : S → Known) (a b : Client S W) : Type 0 where
  pub number : b.number ≡ a.number
  pub lines : b.lines ≡ a.lines
  pub answers : b.answers ≡ a.answers
  pub known : knows b.table ≡ knows a.table

module _ {S W : Type 0} (knows : S → Known) (promises : Promises S) (asked : ℕ → S → S → Outcome Changed → Type 0) where
  -- It is the same client with the same lines, and what it was told are the answers to its lines; or it was told nothing, and memory wasn't found.
  pub record IsBehind (a b : Client S W) : Type 0 where
    pub number : b.number ≡ a.number
    pub lines : b.lines ≡ a.lines
    pub played : (told : Answers) → b.answers ≡ Some told
        → HasToldBefore knows promises asked a.table b.table (numbered a.lines.now) told
    pub stopped : b.answers ≡ None → HasStopped (knows a.table) (knows b.table) (commands_in (numbered a.lines.now))

  -- Each client has played.
  abbrev pub HavePlayed : List (Client S W) → List (Client S W) → Type 0
  HavePlayed before behind = (i : ℕ) (d : Client S W) → i < length before → IsBehind (slice_index_or before i d) (slice_index_or behind i d)
