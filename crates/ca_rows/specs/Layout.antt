-- Where the words of a table stand, and how large its numbers are.
use Rattle.std.specs.Prelude.{ℕ}

-- how many words a row has; so many stand before the first row, too
abbrev pub row_words : ℕ
row_words = 136

-- how many words a pass has for itself behind the rows, and how many all passes have
abbrev pub pass_words : ℕ
pass_words = 8

abbrev pub passes_words : ℕ
passes_words = 512

-- The number of each row is below this.
abbrev pub row_limit : ℕ
row_limit = 16777216

-- the last value of the epoch
abbrev pub last_epoch : ℕ
last_epoch = 4611686018427387904

-- the last value of the tag in the pool's head
abbrev pub last_tag : ℕ
last_tag = 1099511627775

-- the last value of the sequence in a pass's range result
abbrev pub last_sequence : ℕ
last_sequence = 274877906943
