-- Logs of one history explain the answers and the table.
use Rattle.std.proofs.Common.{◌≡◌, ℕ, zero, suc, ◌≤◌, ◌<◌, ◌==◌, Bool, true, false, List, [], ◌∷◌, length, map, arith, refl, sym, ◌∙◌, ap, subst, if◌then◌else◌}
use Rattle.std.specs.Prelude.{slice_index_or, nat_le}
use Rattle.std.proofs.lemmas.Bool.Decides.{nat_tests}
use Rattle.ca_ets.specs.Command.{Never}
use Rattle.ca_ets.specs.Explained.{AreAnswered, all_commands_of_replies, commands_of_replies, replies_of}
use Rattle.ca_ets.specs.Merge.{list_of_client}
use Rattle.ca_model.specs.History.{History, state, edits_of_pass, AreByPasses}
use Rattle.ca_model.specs.Lawful.{IsLawful}
use Rattle.ca_explain.specs.Clients.{Client, log_of, Plays}
use Rattle.ca_explain.specs.Places.{turns_of}
use Rattle.ca_explain.specs.Explaining.{nobody, client_of, all_turns, LogsExplain}
use Rattle.ca_explain.proofs.Filters.{empty_stands, same_table}
use Rattle.ca_explain.proofs.Waits.{Waits}
use Rattle.ca_explain.proofs.ByPlaces.{merge_runs}
use Rattle.ca_explain.proofs.Starts.{start, IsAnswered, answered}

past_all : (clients : List Client) (n : ℕ) → length clients ≤ n → slice_index_or clients n nobody ≡ nobody
past_all [] n h = refl
past_all (c ∷ clients) zero h = absurd (omega arith)
past_all (c ∷ clients) (suc n) h = past_all clients n (omega arith)

-- nobody has a number past the last client's
past_last : (clients : List Client) (i : ℕ) → length clients < i → client_of clients i ≡ nobody
past_last clients zero h = refl
past_last clients (suc n) h = past_all clients n (omega arith)

-- a history of so many passes has no edit of another one
no_edits : (passes i : ℕ) (history : History) → AreByPasses passes history → (1 ≤ i → i ≤ passes → ⊥) → edits_of_pass i history ≡ []
no_edits passes i [] h out = refl
no_edits passes i (step ∷ steps) h out = by (step.0 == i) refl (no_edits passes i steps h.2 out)
  where
    by : (b : Bool) → (step.0 == i) ≡ b → edits_of_pass i steps ≡ [] → (if b then step.1 ∷ edits_of_pass i steps else edits_of_pass i steps) ≡ []
    by true is rest = let same : step.0 ≡ i = grind (arith, nat_tests) in absurd (out (omega (arith, h.0)) (omega (arith, h.1)))
    by false is rest = rest

module _ (p : ℕ) (history : History) (clients : List Client) where
  -- what is known of a client of any number, also of one that there isn't
  record Known (i : ℕ) : Type 0 where
    waits : Waits p history 0 history i Never (all_turns clients i)
    answers : IsAnswered (client_of clients i).commands (client_of clients i).answers (all_turns clients i)

  known_client : (i : ℕ) → Plays p Never (client_of clients i).commands (client_of clients i).answers (client_of clients i).parts
      → IsLawful i history (log_of (client_of clients i).parts) → Known i
  known_client i play lawful = record {
    waits = start p i history (client_of clients i).commands (client_of clients i).answers (client_of clients i).parts Never play lawful;
    answers = answered p Never (client_of clients i).commands (client_of clients i).answers (client_of clients i).parts play;
  }

  known_nobody : (i : ℕ) → client_of clients i ≡ nobody → edits_of_pass i history ≡ [] → Known i
  known_nobody i none edits =
      known_client i (subst (λ (c : Client). Plays p Never c.commands c.answers c.parts) (sym none) tt)
      (subst (λ (c : Client). IsLawful i history (log_of c.parts)) (sym none) (record { entries = tt; places = tt; edits = edits }))

  module _ (enrolled : AreByPasses (length clients) history)
      (plays : (i : ℕ) → 1 ≤ i → i ≤ length clients
      → Plays p Never (client_of clients i).commands (client_of clients i).answers (client_of clients i).parts)
      (lawful : (i : ℕ) → 1 ≤ i → i ≤ length clients → IsLawful i history (log_of (client_of clients i).parts)) where
    known : (i : ℕ) → Known i
    known zero = known_nobody 0 refl (no_edits (length clients) 0 history enrolled (λ h k. absurd (omega arith)))
    known (suc n) = by (nat_le (suc n) (length clients)) refl
      where
        by : (b : Bool) → nat_le (suc n) (length clients) ≡ b → Known (suc n)
        by true is =
            let inside : suc n ≤ length clients = grind (arith, nat_tests) in
            known_client (suc n) (plays (suc n) (omega arith) inside) (lawful (suc n) (omega arith) inside)
        by false is =
            let past : length clients < suc n = grind (arith, nat_tests) in
            known_nobody (suc n) (past_last clients (suc n) past) (no_edits (length clients) (suc n) history enrolled (λ h k. absurd (omega arith)))

-- each client's commands that were answered by a reply, and its replies
commands_at : (clients : List Client) (n : ℕ)
    → slice_index_or (all_commands_of_replies (map (λ c. c.commands) clients) (map (λ c. c.answers) clients)) n []
    ≡ commands_of_replies (slice_index_or clients n nobody).commands (slice_index_or clients n nobody).answers
commands_at [] n = refl
commands_at (c ∷ clients) zero = refl
commands_at (c ∷ clients) (suc n) = commands_at clients n

commands_of_client : (clients : List Client) (i : ℕ)
    → list_of_client (all_commands_of_replies (map (λ c. c.commands) clients) (map (λ c. c.answers) clients)) i
    ≡ commands_of_replies (client_of clients i).commands (client_of clients i).answers
commands_of_client clients zero = refl
commands_of_client clients (suc n) = commands_at clients n

replies_at : (clients : List Client) (n : ℕ)
    → slice_index_or (map replies_of (map (λ c. c.answers) clients)) n [] ≡ replies_of (slice_index_or clients n nobody).answers
replies_at [] n = refl
replies_at (c ∷ clients) zero = refl
replies_at (c ∷ clients) (suc n) = replies_at clients n

replies_of_client : (clients : List Client) (i : ℕ)
    → list_of_client (map replies_of (map (λ c. c.answers) clients)) i ≡ replies_of (client_of clients i).answers
replies_of_client clients zero = refl
replies_of_client clients (suc n) = replies_at clients n

all_answered : (clients : List Client) → ((i : ℕ) → length (client_of clients (suc i)).commands ≡ length (client_of clients (suc i)).answers)
    → AreAnswered (map (λ c. c.commands) clients) (map (λ c. c.answers) clients)
all_answered [] h = tt
all_answered (c ∷ clients) h = (h 0, all_answered clients (λ i. h (suc i)))

-- Lawful logs of one history explain the answers and the table.
pub explains : LogsExplain
explains p history clients table logs =
    let facts = known p history clients logs.enrolled logs.plays logs.lawful in
    let past = λ (i : ℕ) (h : length clients < i). ap (λ (c : Client). turns_of c.commands c.answers c.parts) (past_last clients i h) in
    let runs = merge_runs p history (length clients) [] (λ i. Never) (all_turns clients) refl past (empty_stands p) (λ i. (facts i).waits) in
    record {
      answered = all_answered clients (λ i. (facts (suc i)).answers.one_each);
      merges = λ i. runs.commands i ∙ (facts i).answers.commands ∙ sym (commands_of_client clients i);
      replies = λ i. runs.responses i ∙ (facts i).answers.responses ∙ sym (replies_of_client clients i);
      table_is = same_table p (state history (length history)) _ table runs.table logs.ends;
    }
