use Rattle.std.proofs.Common.{◌≢◌, ℕ, ◌+◌, ◌-◌, ◌<◌, ◌≤◌, get_or, vec_len}
use Rattle.ca_rows.specs.Kept.{nobody}
use Rattle.ca_rows.proofs.kept.KeptRows.oldest.Given as goal

abbrev pub invariant-loop-at : goal.invariant-loop-at
invariant-loop-at l = record {
  within : l.at ≤ vec_len l.self.rows;
  old : (i : ℕ) → i < l.at → (get_or l.self.rows.items i nobody).at + 2 ≤ l.epoch;
  others : (i : ℕ) → i < l.at → (get_or l.self.rows.items i nobody).form ≢ l.like;
}

abbrev pub decreases-loop-at : goal.decreases-loop-at
decreases-loop-at l = vec_len l.self.rows - l.at
