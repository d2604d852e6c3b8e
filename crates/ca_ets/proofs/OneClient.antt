-- Runs of one client, and of clients without commands.
use Rattle.std.proofs.Common.{◌≡◌, ℕ, zero, suc, ◌==◌, false, List, [], ◌∷◌, arith, map, refl, sym, ◌∙◌, ap}
use Rattle.std.proofs.lemmas.Bool.Decides.{nat_tests}
use Rattle.std.specs.Prelude.{replicate}
use Rattle.ca_term.specs.Tree.{Tree}
use Rattle.ca_ets.specs.Command.{Command, Answer, Never}
use Rattle.ca_ets.specs.Merge.{items_of, list_of_client, run_of}
use Rattle.ca_ets.specs.InOrder.{IsInOrder}
use Rattle.ca_ets.specs.Explained.{Explained, AreAnswered, all_commands_of_replies, commands_of_replies, replies_of}
use Rattle.ca_ets.specs.OrderedMap.{IsTable}
use Rattle.ca_ets.proofs.Merges.{turns_of, own_turns, only_turns, nobody}
use Rattle.ca_ets.proofs.Runs.{run_turns, run_table}
use Rattle.ca_ets.proofs.Turns.{explained_more}
use Rattle.std.proofs.Common.{subst}

no_other : {A : Type 0} (x : List A) (k : ℕ) → (k == 1) ≡ false → list_of_client (x ∷ []) k ≡ []
no_other x zero e = refl
no_other x (suc zero) e = absurd (grind (arith, nat_tests))
no_other x (suc (suc k)) e = refl

-- What explains one client's answers is the run of its commands in order.
pub in_order : (p : ℕ) (cs : List Command) (answers : List Answer) (t : List Tree) → Explained p (cs ∷ []) (answers ∷ []) t → IsInOrder p cs answers t
in_order p cs answers t (merge, e) =
    let own = commands_of_replies cs answers in
    let alone : merge ≡ turns_of 1 own = only_turns 1 merge (λ k f. e.merges k ∙ no_other own k f) ∙ ap (turns_of 1) (e.merges 1) in
    let r = run_turns p 1 [] (λ _. Never) own in
    record {
      answered = e.answered.0;
      replies = sym (own_turns 1 _) ∙ ap (items_of 1) (sym r.1 ∙ ap (λ x. (run_of p x).replies) (sym alone)) ∙ e.replies 1;
      table_is = sym r.0 ∙ ap (λ x. (run_of p x).table) (sym alone) ∙ e.table_is;
    }

none_replied : (n k : ℕ) → list_of_client (all_commands_of_replies (replicate n []) (replicate n [])) k ≡ []
none_replied n zero = refl
none_replied zero (suc k) = refl
none_replied (suc n) (suc zero) = refl
none_replied (suc n) (suc (suc k)) = none_replied n (suc k)

no_replies : (n k : ℕ) → list_of_client (map replies_of (replicate n [])) k ≡ []
no_replies n zero = refl
no_replies zero (suc k) = refl
no_replies (suc n) (suc zero) = refl
no_replies (suc n) (suc (suc k)) = no_replies n (suc k)

none_asked : (n : ℕ) → AreAnswered (replicate n []) (replicate n [])
none_asked zero = tt
none_asked (suc n) = (refl, none_asked n)

-- Without commands the table is empty.
pub empty_table : (p n : ℕ) (t : List Tree) → Explained p (replicate n []) (replicate n []) t → t ≡ []
empty_table p n t (merge, e) = sym e.table_is ∙ ap (λ x. (run_of p x).table) (nobody merge (λ k. e.merges k ∙ none_replied n k))

-- The empty merge explains clients without commands.
pub no_commands_explained : (p n : ℕ) (t : List Tree) → t ≡ [] → Explained p (replicate n []) (replicate n []) t
no_commands_explained p n t e =
    ([], record { answered = none_asked n; merges = λ k. sym (none_replied n k); replies = λ k. sym (no_replies n k); table_is = sym e })

-- The run of one client's commands in order explains its answers.
pub explained : (p : ℕ) (cs : List Command) (answers : List Answer) (t : List Tree) → IsInOrder p cs answers t → Explained p (cs ∷ []) (answers ∷ []) t
explained p cs answers t i = explained_more p [] [] [] t cs answers (no_commands_explained p 0 [] refl) i.answered i.replies i.table_is

-- The table of an explained run is a table.
pub explained_table : (p : ℕ) (files : List (List Command)) (answers : List (List Answer)) (t : List Tree) → Explained p files answers t → IsTable p t
explained_table p files answers t (merge, e) = subst (λ (x : List Tree). IsTable p x) e.table_is (run_table p [] (λ _. Never) merge tt (λ _. tt))
