-- Tries of a command, and commands, one after the other.
use Rattle.std.proofs.Common.{◌≡◌, ℕ, suc, List, [], ◌∷◌, ◌++◌, refl, sym, ◌∙◌, ap, subst, inl, inr, append_assoc, append-nil}
use Rattle.ca_ets.specs.Command.{Answer, Command}
use Rattle.ca_ets.specs.Step.{nature_of}
use Rattle.ca_ets.specs.declared.command.Reply.{Reply}
use Rattle.ca_model.specs.declared.outcome.Changed.{Changed}
use Rattle.ca_model.specs.declared.outcome.Outcome.{Outcome}
use Rattle.ca_model.specs.declared.outcome.Outcome.TheVariants as outcome
use Rattle.ca_model.specs.Known.{IsSameStore, Known}
use Rattle.ca_model.specs.Promises.{Promises}
use Rattle.ca_table.specs.ComesTo.{HasOutcome}
use Rattle.ca_table.specs.Made.{HasMadeFor}
use Rattle.ca_client.specs.Chain.{HasBeenAnswered, HasBeenTried, HaveBeenAnswered, IsAnsweredSo, IsTriedAgain}
use Rattle.ca_client.proofs.Trying.{overtaken_reads}

-- A try is one of the same store.
pub same_by : (a b : Known) (budget : ℕ) (command : Command) (o : Outcome Reply) → IsTriedAgain o
    → HasOutcome a b budget command o → IsSameStore a b
same_by a b budget command (outcome.Done reply) again h = absurd again
same_by a b budget command (outcome.Busy spent) again (inl busy) = busy.1.refrains.learns.same
same_by a b budget command (outcome.Busy spent) again (inr over) =
    (overtaken_reads a b (nature_of command).asks spent over).learns.same
same_by a b budget command (outcome.Full why) again h = h.1.refrains.learns.same
same_by a b budget command (outcome.Deep level) again h = absurd again
same_by a b budget command (outcome.Worn counter) again h = absurd again

module _ {S : Type 0} (knows : S → Known) (promises : Promises S) (asked : ℕ → S → S → Outcome Changed → Type 0) where
  -- The tries of a command so far.
  pub record AreTries (command : Command) (s t : S) : Type 0 where
    pub again : ℕ
    pub tried : HasBeenTried knows promises asked again command s t

  pub no_tries : (command : Command) (s : S) → AreTries command s s
  no_tries command s = record { again = 0; tried = refl }

  pub one_try : (command : Command) (s t u : S) (budget : ℕ) (o : Outcome Reply) → AreTries command s t → IsTriedAgain o
      → HasOutcome (knows t) (knows u) budget command o → HasMadeFor knows promises asked command t u o → AreTries command s u
  one_try command s t u budget o tries again comes made = record {
    again = suc tries.again;
    tried = (t, tries.tried, record { budget = budget; outcome = o; again = again; comes = comes; made = made });
  }

  pub last_try : (command : Command) (answer : Answer) (s t u : S) (o : Outcome Reply) → AreTries command s t
      → HasMadeFor knows promises asked command t u o → IsAnsweredSo o answer → IsSameStore (knows s) (knows u)
      → HasBeenAnswered knows promises asked command answer s u
  last_try command answer s t u o tries made answered same = record {
    again = tries.again;
    before = t;
    tries = tries.tried;
    outcome = o;
    made = made;
    answered = answered;
    same = same;
  }

  -- Commands so far, and these are left.
  pub record AreCommands (commands left : List Command) (answers : List Answer) (s t : S) : Type 0 where
    pub done : List Command
    pub all : commands ≡ done ++ left
    pub made : HaveBeenAnswered knows promises asked done answers s t

  pub no_commands : (commands : List Command) (s : S) → AreCommands commands commands [] s s
  no_commands commands s = record { done = []; all = refl; made = refl }

  more_made : (commands : List Command) (answers : List Answer) (command : Command) (answer : Answer) (s t u : S)
      → HaveBeenAnswered knows promises asked commands answers s t → HasBeenAnswered knows promises asked command answer t u
      → HaveBeenAnswered knows promises asked (commands ++ command ∷ []) (answers ++ answer ∷ []) s u
  more_made [] [] command answer s t u so_far one =
      (u, subst (λ (x : S). HasBeenAnswered knows promises asked command answer x u) so_far one, refl)
  more_made [] (a ∷ answers) command answer s t u so_far one = absurd so_far
  more_made (c ∷ commands) [] command answer s t u so_far one = absurd so_far
  more_made (c ∷ commands) (a ∷ answers) command answer s t u so_far one =
      (so_far.0, so_far.1, more_made commands answers command answer so_far.0 t u so_far.2 one)

  pub one_command : (commands left : List Command) (answers : List Answer) (command : Command) (answer : Answer) (s t u : S)
      → AreCommands commands (command ∷ left) answers s t → HasBeenAnswered knows promises asked command answer t u
      → AreCommands commands left (answers ++ answer ∷ []) s u
  one_command commands left answers command answer s t u so_far one = record {
    done = so_far.done ++ command ∷ [];
    all = so_far.all ∙ sym (append_assoc so_far.done (command ∷ []) left);
    made = more_made so_far.done answers command answer s t u so_far.made one;
  }

  -- None is left.
  pub all_commands : (commands left : List Command) (answers : List Answer) (s t : S) → AreCommands commands left answers s t → left ≡ []
      → HaveBeenAnswered knows promises asked commands answers s t
  all_commands commands left answers s t so_far none =
      subst (λ (cs : List Command). HaveBeenAnswered knows promises asked cs answers s t)
      (sym (so_far.all ∙ ap (λ (cs : List Command). so_far.done ++ cs) none ∙ append-nil so_far.done)) so_far.made
