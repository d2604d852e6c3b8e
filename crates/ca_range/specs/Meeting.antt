-- What a call notes of the ranges that its pass found unfinished.
use Rattle.std.specs.Prelude.{◌≡◌, ◌≢◌, ◌==◌, ℕ, ◌+◌, ◌*◌, ◌<◌, ◌≤◌, cond, List, Option, None, Some, slice_index_or}
use Rattle.ca_rows.specs.Layout.{row_limit}
use Rattle.ca_node.specs.Layout.{sequence_unit, marked_by_range}
use Rattle.ca_node.specs.Told.{finished_by}
use Rattle.ca_node.specs.Row.{mark, IsMarkedBy}
use Rattle.ca_node.specs.TreeView.{Unfinished}
use Rattle.ca_range.specs.declared.account.Range.{Range}

-- how many ranges of a pass are finished by its word, where this one was found unfinished, if one was
abbrev pub finished_of : ℕ → Option ℕ → ℕ
finished_of word None = 0
finished_of word (Some number) = cond (word == sequence_unit * number + row_limit) 0 1

-- The numbers, each at the place of its pass, are those of the ranges that were found unfinished.
abbrev pub AreMet : List (Option ℕ) → List Unfinished → Type 0
AreMet numbers xs = (pass word : ℕ) → 0 < pass → pass ≤ 64 → finished_by pass word xs ≡ finished_of word (slice_index_or numbers pass None)

-- The base with these words was marked by this range of a pass, or by none.
abbrev pub IsRangeOf : List ℕ → Option Range → Type 0
IsRangeOf its None = mark its ≢ marked_by_range
IsRangeOf its (Some range) = IsMarkedBy its range.owner range.number × (0 < range.owner) × (range.owner ≤ 64)
