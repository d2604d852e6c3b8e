-- Where things stand in the words. Word 0 is the pool's head, word 1 the epoch; the words of row r are those from 136 * r on. Behind the rows each pass has
-- eight words for itself: the first one is its announcement, the second one says how far its last range is.
use Rattle.std.specs.Prelude.{◌≡◌, ◌==◌, ℕ, cond, ◌+◌, ◌-◌, ◌*◌, ◌/◌, ◌%◌, ◌<◌, List, length, slice_index}
use Rattle.ca_rows.specs.Layout.{row_words, pass_words, passes_words, row_limit}

abbrev pub IsWide : ℕ → List ℕ → Type 0
IsWide rows words = length words ≡ row_words * rows + row_words + passes_words

-- the first of the words that a pass has for itself, counted from the end
abbrev pub own_word : List ℕ → ℕ → ℕ
own_word words pass = length words + pass_words * pass - (passes_words + pass_words)

-- the tag of the pool's head, which rises whenever a row is taken
abbrev pub head_tag : List ℕ → ℕ
head_tag words = slice_index words 0 / row_limit

-- the first free row, or 0
abbrev pub head_row : List ℕ → ℕ
head_row words = slice_index words 0 % row_limit

abbrev pub epoch : List ℕ → ℕ
epoch words = slice_index words 1

-- what a pass announces: 0, or one more than an epoch
abbrev pub announced : List ℕ → ℕ → ℕ
announced words pass = slice_index words (own_word words pass)

-- how far a pass's last range is
abbrev pub result_of : List ℕ → ℕ → ℕ
result_of words pass = slice_index words (own_word words pass + 1)

abbrev pub first_of : List ℕ → ℕ → ℕ
first_of words row = slice_index words (row_words * row)

-- The free row below a free row, or 0, as the first word says: 0 for the next row by number, 1 for none, else one more than the row.
abbrev pub next_below : ℕ → ℕ → ℕ → ℕ
next_below rows row first = cond (first == 0) (cond (row == rows) 0 (row + 1)) (first - 1)

-- The row has these words.
abbrev pub Spells : List ℕ → ℕ → List ℕ → Type 0
Spells words row its = (k : ℕ) → k < row_words → slice_index words (row_words * row + k) ≡ slice_index its k
