-- A client that played, and whose store was tended behind that, has played.
use Rattle.std.proofs.Common.{◌∙◌, ℕ, sym, subst}
use Rattle.ca_cmd.specs.File.{commands_in}
use Rattle.ca_cmd.specs.Lines.{numbered}
use Rattle.ca_model.specs.declared.outcome.Changed.{Changed}
use Rattle.ca_model.specs.declared.outcome.Outcome.{Outcome}
use Rattle.ca_model.specs.Known.{Known}
use Rattle.ca_model.specs.Promises.{Promises}
use Rattle.ca_client.specs.Clients.{IsBehind, IsTended}
use Rattle.ca_client.specs.Played.{HasStopped}
use Rattle.ca_client.specs.declared.clients.Client.{Client}

pub behind_tended : {S W : Type 0} (knows : S → Known) (promises : Promises S) (asked : ℕ → S → S → Outcome Changed → Type 0)
    (a b d : Client S W) → IsBehind knows promises asked a b → IsTended knows b d → IsBehind knows promises asked a d
behind_tended knows promises asked a b d behind tended = record {
  number = tended.number ∙ behind.number;
  lines = tended.lines ∙ behind.lines;
  played = λ told is. let before = behind.played told (sym tended.answers ∙ is) in (before.0, before.1, tended.known ∙ before.2);
  stopped = λ none. subst (λ (k : Known). HasStopped (knows a.table) k (commands_in (numbered a.lines.now))) (sym tended.known)
      (behind.stopped (sym tended.answers ∙ none));
}
