use Rattle.std.proofs.Common.{ℕ, ◌+◌, ◌-◌, ◌<◌, ◌≤◌, get_or, vec_len}
use Rattle.ca_rows.specs.Kept.{nobody}
use Rattle.ca_rows.proofs.kept.KeptRows.old_count.Given as goal

abbrev pub invariant-loop-count : goal.invariant-loop-count
invariant-loop-count l = record {
  within : l.count ≤ vec_len l.self.rows;
  old : (i : ℕ) → i < l.count → (get_or l.self.rows.items i nobody).at + 2 ≤ l.epoch;
}

abbrev pub decreases-loop-count : goal.decreases-loop-count
decreases-loop-count l = vec_len l.self.rows - l.count
