-- Runs of one thread: one after another, and of one client's turns.
use Rattle.std.proofs.Common.{◌≡◌, ℕ, ◌==◌, Bool, true, false, List, [], ◌∷◌, ◌++◌, refl, ◌∙◌, ap, if◌then◌else◌}
use Rattle.ca_term.specs.Tree.{Tree}
use Rattle.ca_ets.specs.Command.{Command, Continuation, IsContinuation}
use Rattle.ca_ets.specs.Step.{step}
use Rattle.ca_ets.specs.Merge.{items_of, run_from, with_continuation}
use Rattle.ca_ets.specs.InOrder.{run_in_order}
use Rattle.ca_ets.specs.OrderedMap.{IsTable}
use Rattle.ca_ets.proofs.Merges.{itself, turns_of, none_behind, other_first}
use Rattle.ca_ets.proofs.Steps.{step_keeps}

module _ (p : ℕ) where
  -- the continuations after a run
  abbrev pub left_by : List Tree → (ℕ → Continuation) → List (ℕ × Command) → ℕ → Continuation
  left_by m ks [] = ks
  left_by m ks (turn ∷ merge) = let s = step p m (ks turn.0) turn.1 in left_by s.map (with_continuation ks turn.0 s.continuation) merge

  -- A run that goes on is a second run from where the first one ended.
  pub run-append : (m : List Tree) (ks : ℕ → Continuation) (xs ys : List (ℕ × Command)) →
      ((run_from p m ks (xs ++ ys)).table ≡ (run_from p (run_from p m ks xs).table (left_by m ks xs) ys).table)
      × ((run_from p m ks (xs ++ ys)).replies ≡ (run_from p m ks xs).replies ++ (run_from p (run_from p m ks xs).table (left_by m ks xs) ys).replies)
  run-append m ks [] ys = (refl, refl)
  run-append m ks ((n, c) ∷ xs) ys =
      let s = step p m (ks n) c in
      let r = run-append s.map (with_continuation ks n s.continuation) xs ys in
      (r.0, ap (λ zs. (n, s.response) ∷ zs) r.1)

  -- A client without a turn keeps its continuation.
  pub untouched : (n : ℕ) (m : List Tree) (ks : ℕ → Continuation) (merge : List (ℕ × Command)) → items_of n merge ≡ [] → left_by m ks merge n ≡ ks n
  untouched n m ks [] h = refl
  untouched n m ks ((k, c) ∷ merge) h =
      let s = step p m (ks k) c in
      let kept : with_continuation ks k s.continuation n ≡ ks n = rw (other_first n k c merge h) refl in
      untouched n s.map (with_continuation ks k s.continuation) merge (none_behind n k c merge h) ∙ kept

  -- The run of one client's turns is the run of its items in order.
  pub run_turns : (n : ℕ) (m : List Tree) (ks : ℕ → Continuation) (cs : List Command)
      → ((run_from p m ks (turns_of n cs)).table ≡ (run_in_order p m (ks n) cs).table)
      × ((run_from p m ks (turns_of n cs)).replies ≡ turns_of n (run_in_order p m (ks n) cs).replies)
  run_turns n m ks [] = (refl, refl)
  run_turns n m ks (c ∷ cs) =
      let s = step p m (ks n) c in
      let same : with_continuation ks n s.continuation n ≡ s.continuation = (rw (itself n) refl) in
      let r = rw same at (run_turns n s.map (with_continuation ks n s.continuation) cs) in
      (r.0, ap (λ zs. (n, s.response) ∷ zs) r.1)

  -- A run keeps a table, where each client has a continuation.
  pub run_table : (m : List Tree) (ks : ℕ → Continuation) (merge : List (ℕ × Command)) → IsTable p m → ((n : ℕ) → IsContinuation (ks n))
      → IsTable p (run_from p m ks merge).table
  run_table m ks [] h l = h
  run_table m ks ((n, c) ∷ merge) h l =
      let s = step p m (ks n) c in
      let kept = step_keeps p m (ks n) c h (l n) in
      run_table s.map (with_continuation ks n s.continuation) merge kept.0 (λ k. by k (k == n) kept.1)
    where
      by : (k : ℕ) (b : Bool) → IsContinuation (step p m (ks n) c).continuation → IsContinuation (if b then (step p m (ks n) c).continuation else ks k)
      by k true i = i
      by k false i = l k
