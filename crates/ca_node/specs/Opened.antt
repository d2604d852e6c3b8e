-- The words of the tree at the start: one empty base under the root link.
use Rattle.std.specs.Prelude.{◌==◌, ℕ, ◌*◌, cond}
use Rattle.ca_rows.specs.declared.sizes.Sizes.{Sizes}
use Rattle.ca_rows.specs.Layout.{row_words}
use Rattle.ca_node.specs.Layout.{root_word, sequence_unit}

abbrev pub opens_at : Sizes → ℕ → ℕ
opens_at z i = cond (i == root_word) 1 (cond (i == 131) z.keypos (cond (i == 132) z.leaf
    (cond (i == 133) z.levels (cond (i == row_words) 144115188075855872 (cond (i == 137) 4294967296 0)))))

-- No pass has begun a range: each begins with the same sequence.
abbrev pub result_at : Sizes → ℕ
result_at z = sequence_unit * z.starts.sequence
