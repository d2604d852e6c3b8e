-- A run over turns of several clients, built from its front.
use Rattle.std.proofs.Common.{◌≡◌, ℕ, ◌==◌, Bool, true, false, List, ◌∷◌, map, arith, refl, sym, ◌∙◌, ap, subst}
use Rattle.std.proofs.lemmas.Bool.Decides.{nat_tests}
use Rattle.ca_term.specs.Tree.{Tree}
use Rattle.ca_ets.specs.Command.{Continuation}
use Rattle.ca_ets.specs.Step.{Step, step}
use Rattle.ca_ets.specs.Merge.{Run, items_of, run_from, with_continuation}
use Rattle.ca_model.specs.StoreMap.{StoreMap}
use Rattle.ca_explain.specs.Stands.{Stands}
use Rattle.ca_explain.specs.Carries.{Gives}
use Rattle.ca_explain.specs.Places.{Turn}
use Rattle.ca_explain.specs.Explaining.{commands_of}
use Rattle.ca_explain.proofs.Fronts.{Waiting, with_turns}

-- Numbers that are found equal are equal.
pub same_number : (m n : ℕ) → (m == n) ≡ true → m ≡ n
same_number m n e = grind (arith, nat_tests)

-- Whether numbers are equal is asked either way.
pub flipped : (m n : ℕ) (b : Bool) → (m == n) ≡ b → (n == m) ≡ b
flipped m n true e = grind (arith, nat_tests)
flipped m n false e = grind (arith, nat_tests)

-- The run of these turns has each client's turns in order, with their responses, and ends with a table that the map stands for.
pub record Runs (p : ℕ) (end : StoreMap) (t : List Tree) (ks : ℕ → Continuation) (ws : Waiting) (turns : List (ℕ × Turn)) : Type 0 where
  pub commands : (i : ℕ) → items_of i (commands_of turns) ≡ map (λ x. x.command) (ws i)
  pub responses : (i : ℕ) → items_of i (run_from p t ks (commands_of turns)).replies ≡ map (λ x. x.response) (ws i)
  pub table : Stands p end (run_from p t ks (commands_of turns)).table

-- Only what each client's turns are matters.
pub runs_same : (p : ℕ) (end : StoreMap) (t : List Tree) (ks : ℕ → Continuation) (ws zs : Waiting) (turns : List (ℕ × Turn))
    → ((i : ℕ) → ws i ≡ zs i) → Runs p end t ks ws turns → Runs p end t ks zs turns
runs_same p end t ks ws zs turns e r = record {
  commands = λ i. r.commands i ∙ ap (map (λ (x : Turn). x.command)) (e i);
  responses = λ i. r.responses i ∙ ap (map (λ (x : Turn). x.response)) (e i);
  table = r.table;
}

-- what a turn holds comes first among what its client's turns hold
first_of_client : {A : Type 0} (i j : ℕ) (x : A) (xs : List (ℕ × A)) (f : Turn → A) (turn : Turn) (rest : List Turn) (ws : Waiting) → f turn ≡ x
    → ws j ≡ turn ∷ rest → items_of i xs ≡ map f (with_turns ws j rest i) → items_of i ((j, x) ∷ xs) ≡ map f (ws i)
first_of_client i j x xs f turn rest ws fx e h = by (j == i) refl
  where
    by : (b : Bool) → (j == i) ≡ b → items_of i ((j, x) ∷ xs) ≡ map f (ws i)
    by true is =
        let same : j ≡ i = same_number j i is in
        let here : (i == j) ≡ true = flipped j i true is in
        let g : items_of i xs ≡ map f rest = rw here at h in
        let s : ws i ≡ turn ∷ rest = subst (λ (k : ℕ). ws k ≡ turn ∷ rest) same e in
        rw (is, s, fx, g) refl
    by false is =
        let other : (i == j) ≡ false = flipped j i false is in
        let g : items_of i xs ≡ map f (ws i) = rw other at h in
        rw is g

-- what follows a step of client j
abbrev run_behind : ℕ → (ℕ → Continuation) → ℕ → List (ℕ × Turn) → Step → Run
run_behind p ks j turns made = run_from p made.map (with_continuation ks j made.continuation) (commands_of turns)

-- A run has one turn more at its front: the first one of its client, with the step that the turn tells.
pub one_more : (p : ℕ) (end : StoreMap) (t u : List Tree) (ks : ℕ → Continuation) (ws : Waiting) (j : ℕ) (x : Turn) (rest : List Turn) (l : Continuation)
    (turns : List (ℕ × Turn)) → ws j ≡ x ∷ rest → Gives (step p t (ks j) x.command) u x.response l
    → Runs p end u (with_continuation ks j l) (with_turns ws j rest) turns → Runs p end t ks ws ((j, x) ∷ turns)
one_more p end t u ks ws j x rest l turns e s r =
    let made = step p t (ks j) x.command in
    record {
      commands = λ i. first_of_client i j x.command (commands_of turns) (λ (y : Turn). y.command) x rest ws refl e (r.commands i);
      responses = λ i. first_of_client i j made.response (run_behind p ks j turns made).replies (λ (y : Turn). y.response) x rest ws
          (sym (ap (λ (z : Step). z.response) s)) e
          (subst (λ (z : Step). items_of i (run_behind p ks j turns z).replies ≡ map (λ (y : Turn). y.response) (with_turns ws j rest i)) (sym s)
          (r.responses i));
      table = subst (λ (z : Step). Stands p end (run_behind p ks j turns z).table) (sym s) r.table;
    }
