-- What a client was told of its answers.
use Rattle.std.specs.Prelude.{◌≡◌, ℕ, List}
use Rattle.ca_ets.specs.Command.{Answer}
use Rattle.ca_model.specs.declared.outcome.Changed.{Changed}
use Rattle.ca_model.specs.declared.outcome.Outcome.{Outcome}
use Rattle.ca_model.specs.Known.{Known}
use Rattle.ca_model.specs.Promises.{Promises}
use Rattle.ca_cmd.specs.File.{Numbered, commands_in}
use Rattle.ca_cmd.specs.Told.{AreTold}
use Rattle.ca_cmd.specs.declared.answers.Answers.{Answers}
use Rattle.ca_client.specs.Chain.{HaveBeenAnswered}
use Rattle.ca_client.specs.Played.{HasPlayed}

module _ {S : Type 0} (knows : S → Known) (promises : Promises S) (asked : ℕ → S → S → Outcome Changed → Type 0) where
  -- A client's lines were played, by such calls of its table's store, and what was answered is told so.
  pub record HasTold (s t : S) (lines : List Numbered) (told : Answers) : Type 0 where
    pub answers : List Answer
    pub played : HasPlayed (knows s) (knows t) (commands_in lines) answers
    pub made : HaveBeenAnswered knows promises asked (commands_in lines) answers s t
    pub are_told : AreTold lines answers told

  -- So it was, and behind that nothing changed that is known of the store.
  abbrev pub HasToldBefore : S → S → List Numbered → Answers → Type 0
  HasToldBefore s t lines told = (u : S) × HasTold s u lines told × (knows t ≡ knows u)
