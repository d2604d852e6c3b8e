-- A pass begins a range, or a range ends: decided by whomever, or given up by its pass.
use Rattle.std.proofs.Common.{◌≡◌, ◌≢◌, ℕ, List, [], sym, subst}
use mathlib.Core.Logic.{dite}
use native.Mathlib.Decide.{ℕ_discrete}
use Rattle.ca_runs.specs.Runs.{IsAmong, Scene, IsMarked, Range, IsRun, Ends, range_of, AreRuns}
use Rattle.ca_runs.specs.Scenes.{Turns}
use Rattle.ca_runs.proofs.Keeping.{marked_alike, run_still}
use Rattle.ca_runs.proofs.Marking.{with_at, with_here, with_else}

module _ (s s' : Scene) (ends : ℕ → Ends) (pass : ℕ) (runs : AreRuns s ends) (t : Turns s s' pass) where
  -- Runs are as before.
  same_run : (range : Range) (rows : List ℕ) → IsRun s range rows → IsRun s' range rows
  same_run range rows run = run_still s s' range rows (λ row i o. (t.bases row o.is_base, t.keys row, t.marks row o.is_base)) run

  -- Marks are.
  was_marked : (p n row : ℕ) → s'.is_base row → IsMarked s' row p n → IsMarked s row p n
  was_marked p n row base m = marked_alike s' s row p n (sym (t.marks row (t.were row base))) m

  was_begun : (p n row : ℕ) → s'.is_base row → IsMarked s' row p n → s'.has_begun p n
  was_begun p n row base m = t.begun p n (runs.begun p n row (t.were row base) (was_marked p n row base m))

  -- The pass begins a range with a number that it had begun none with: nothing has its mark.
  pub begins : (number : ℕ) (its : Ends) → ((n : ℕ) → s'.is_active pass n → n ≡ number) → ¬ s.has_begun pass number
      → AreRuns s' (with_at ends pass its)
  begins number its only fresh = record {
    run = with_at runs.run pass [];
    each = λ p n now. dite (ℕ_discrete p pass)
        (λ e. subst (IsRun s' (range_of (with_at ends pass its) p n)) (sym (with_here runs.run pass [] p e)) tt)
        (λ d. subst (IsRun s' (range_of (with_at ends pass its) p n)) (sym (with_else runs.run pass [] p d))
        (subst (λ (x : Ends). IsRun s' (record { pass = p; number = n; edge = x.edge; top = x.top }) (runs.run p)) (sym (with_else ends pass its p d))
        (same_run (range_of ends p n) (runs.run p) (runs.each p n (t.others p n d now)))));
    whole = λ p n row now base m. let w = was_marked p n row base m in dite (ℕ_discrete p pass)
        (λ (e : p ≡ pass). let same = only n (subst (λ (x : ℕ). s'.is_active x n) e now) in
        absurd (fresh (subst (λ (x : ℕ × ℕ). s.has_begun x.0 x.1) (λ k. (e k, same k)) (runs.begun p n row (t.were row base) w))))
        (λ d. subst (IsAmong row) (sym (with_else runs.run pass [] p d)) (runs.whole p n row (t.others p n d now) (t.were row base) w));
    begun = was_begun;
  }

  -- The range of the pass is over.
  pub ends_one : ((n : ℕ) → ¬ s'.is_active pass n) → AreRuns s' ends
  ends_one over = let other : (p n : ℕ) → s'.is_active p n → p ≢ pass = λ p n now e. over n (subst (λ (x : ℕ). s'.is_active x n) e now) in record {
    run = runs.run;
    each = λ p n now. same_run (range_of ends p n) (runs.run p) (runs.each p n (t.others p n (other p n now) now));
    whole = λ p n row now base m. runs.whole p n row (t.others p n (other p n now) now) (t.were row base) (was_marked p n row base m);
    begun = was_begun;
  }
