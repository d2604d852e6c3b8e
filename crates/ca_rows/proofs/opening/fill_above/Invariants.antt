use Rattle.std.proofs.Common.{◌≡◌, ℕ, ◌-◌, ◌<◌, ◌≤◌, length, slice_index}
use Rattle.ca_rows.proofs.opening.fill_above.Given as goal

abbrev pub invariant-loop-word : goal.invariant-loop-word
invariant-loop-word g l =
    (2 ≤ l.word) × (l.word ≤ 272) × (length l.words ≡ length l.fn.words)
    × ((i : ℕ) → 2 ≤ i → i < l.word → slice_index l.words i ≡ g.R.RowRule.opens l.sizes i)
    × ((i : ℕ) → i < 2 → slice_index l.words i ≡ slice_index l.fn.words i)
    × ((i : ℕ) → 272 ≤ i → slice_index l.words i ≡ slice_index l.fn.words i)

abbrev pub decreases-loop-word : goal.decreases-loop-word
decreases-loop-word g l = 272 - l.word
