-- How large a space may be, and its words at the start.
use Rattle.std.specs.Prelude.{◌≡◌, ℕ, ◌+◌, ◌*◌, ◌<◌, ◌≤◌, List, slice_index}
use Rattle.ca_rows.specs.declared.sizes.Sizes.{Sizes}
use Rattle.ca_rows.specs.declared.sizes.Starts.{Starts}
use Rattle.ca_rows.specs.Words.{IsWide, epoch, announced, result_of, first_of}
use Rattle.ca_rows.specs.Layout.{row_limit, last_tag, last_sequence, last_epoch}

-- what a space is made with, by these numbers
abbrev pub sizes_by : ℕ → ℕ → ℕ → ℕ → ℕ → Starts → Sizes
sizes_by rows passes keypos leaf levels starts =
    record { rows = rows; passes = passes; keypos = keypos; leaf = leaf; levels = levels; starts = starts }

-- No start is above its counter's last value, and rows and passes are within their bounds.
pub record AreInBounds (z : Sizes) : Type 0 where
  pub least_rows : 384 ≤ z.rows
  pub most_rows : z.rows < row_limit
  pub least_passes : 1 ≤ z.passes
  pub most_passes : z.passes ≤ 64
  pub tag : z.starts.tag ≤ last_tag
  pub epoch_start : z.starts.epoch ≤ last_epoch
  pub sequence : z.starts.sequence ≤ last_sequence
  pub attempt : z.starts.attempt ≤ 4611686018427387903

-- What the sizes must be whatever is asked for: which element is the key, how many items a leaf has, how many levels there are.
pub record AreUsable (z : Sizes) : Type 0 where
  pub least_keypos : 1 ≤ z.keypos
  pub most_keypos : z.keypos ≤ 120
  pub least_leaf : 2 ≤ z.leaf
  pub most_leaf : z.leaf ≤ 120
  pub most_levels : z.levels ≤ 4096

-- The words at the start: the words from 2 to 135, row 1 and the words of the ranges are those of the rule above. The rows from 2 on are free, and the first word of each says
-- that the next one by number is the one below it.
pub record IsOpening (opens : Sizes → ℕ → ℕ) (result : Sizes → ℕ) (z : Sizes) (words : List ℕ) : Type 0 where
  pub wide : IsWide z.rows words
  pub head : slice_index words 0 ≡ z.starts.tag * row_limit + 2
  pub epoch_is : epoch words ≡ z.starts.epoch
  pub absent : (pass : ℕ) → 0 < pass → pass ≤ 64 → announced words pass ≡ 0
  pub above : (i : ℕ) → 2 ≤ i → i < 272 → slice_index words i ≡ opens z i
  pub results : (pass : ℕ) → 0 < pass → pass ≤ 64 → result_of words pass ≡ result z
  pub free : (r : ℕ) → 2 ≤ r → r ≤ z.rows → first_of words r ≡ 0
