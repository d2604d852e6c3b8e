-- The tree that the clients of a call share: how large it is and how it adapts.
use Rattle.std.specs.Prelude.{◌≡◌, ℕ, ◌+◌, ◌/◌, min, max, pos, neg_ℤ, ◌-ℤ◌, List, length, unwrap_or}
use Rattle.std.specs.List.{sum_by}
use Rattle.ca_adapt.specs.declared.tuning.Tuning.{Tuning}
use Rattle.ca_ets.specs.Command.{Command}
use Rattle.ca_cmd.specs.Adding.{adding_in}
use Rattle.ca_replace.specs.Made.{sizes_with}
use Rattle.ca_replace.specs.Past.{TreePast}
use Rattle.ca_replace.specs.declared.tree.Tree.{Tree}
use Rattle.ca_rows.specs.declared.sizes.Starts.{Starts}
use Rattle.ca_words.specs.declared.tree.TreeOptions.{TreeOptions}

-- ---- rows

-- how many commands of all clients may add an object
abbrev pub count_of_adding : List (List Command) → ℕ
count_of_adding all = sum_by (λ commands. adding_in commands) all

-- how many rows there are for so many of them, where the options don't say it
abbrev pub default_rows : ℕ → ℕ
default_rows adding = min 16777215 (max 65535 (adding + adding / 8 + 4096))

abbrev pub rows_of : TreeOptions → List (List Command) → ℕ
rows_of options all = unwrap_or options.rows (default_rows (count_of_adding all))

-- ---- tuning

-- An update adds the heat to a statistic and takes the calm from it, a lost exchange adds 250, and a range takes 100.
abbrev pub tuning_of : TreeOptions → Tuning
tuning_of options = record {
  leaf = unwrap_or options.leaf 64;
  levels = unwrap_or options.levels 4096;
  lost = pos 250;
  calm = pos (unwrap_or options.heat 0) -ℤ pos (unwrap_or options.calm 1);
  range = neg_ℤ (pos 100);
  high = pos (unwrap_or options.high 1000);
  low = neg_ℤ (pos (unwrap_or options.low 1000));
}

-- ---- the tree

abbrev pub from_zero : Starts
from_zero = record { tag = 0; epoch = 0; sequence = 0; attempt = 0 }

-- The tree is made for these clients' commands, with a pass for each client, and none has a pass yet.
pub record IsOpened (keypos : ℕ) (options : TreeOptions) (all : List (List Command)) (tree : Tree) : Type 0 where
  pub sizes : tree.space.sizes ≡ sizes_with (rows_of options all) (length all) keypos (tuning_of options) from_zero
  pub tuning : tree.tuning ≡ tuning_of options
  pub unused : tree.space.made ≡ 0

-- The tree that was closed was made for these clients' commands, as these options ask, with a pass for each client.
pub record IsMadeFor (keypos : ℕ) (options : TreeOptions) (all : List (List Command)) (past : TreePast) : Type 0 where
  pub sizes : past.sizes ≡ sizes_with (rows_of options all) (length all) keypos (tuning_of options) from_zero
  pub tuning : past.tuning ≡ tuning_of options
