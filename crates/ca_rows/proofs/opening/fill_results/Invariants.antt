use Rattle.std.proofs.Common.{◌≡◌, ◌≢◌, ℕ, ◌+◌, ◌-◌, ◌*◌, ◌<◌, ◌≤◌, length, slice_index}
use Rattle.ca_rows.proofs.opening.fill_results.Given as goal
use Rattle.ca_rows.specs.Layout.{pass_words, passes_words}

abbrev pub invariant-loop-pass : goal.invariant-loop-pass
invariant-loop-pass l = record {
  few : l.pass ≤ 64;
  first_is : l.first ≡ length l.fn.words - passes_words + 1;
  long : length l.words ≡ length l.fn.words;
  filled : (p : ℕ) → p < l.pass → slice_index l.words (length l.fn.words - passes_words + 1 + pass_words * p) ≡ l.value;
  others : (i : ℕ) → ((p : ℕ) → p < 64 → i ≢ length l.fn.words - passes_words + 1 + pass_words * p)
      → slice_index l.words i ≡ slice_index l.fn.words i;
}

abbrev pub decreases-loop-pass : goal.decreases-loop-pass
decreases-loop-pass l = 64 - l.pass
