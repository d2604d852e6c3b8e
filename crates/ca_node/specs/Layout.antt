-- Where the words of a tree stand, and those of its rows.
use Rattle.std.specs.Prelude.{ℕ}

-- the word of the root link
abbrev pub root_word : ℕ
root_word = 130

-- The sequence of a pass's last range stands in the pass's second word in units of this, above two bits for how far it is and a row's number.
abbrev pub sequence_unit : ℕ
sequence_unit = 67108864

-- what a row is stands in its first word in units of this
abbrev pub form_unit : ℕ
form_unit = 72057594037927936

-- A count stands in the first word of a row below this; a level, the place of an object's key, or which end a range has, stands there in units of this.
abbrev pub count_limit : ℕ
count_limit = 65536

-- the ends of ranges: to no end, up to the key, and up to right below it
abbrev pub to_no_end : ℕ
to_no_end = 0

abbrev pub to_key : ℕ
to_key = 1

abbrev pub below_key : ℕ
below_key = 2

-- the mark of a base by a range, and that by a join
abbrev pub marked_by_range : ℕ
marked_by_range = 1

abbrev pub marked_by_join : ℕ
marked_by_join = 2

-- the form of an object row, that of a base row, and that of a row which says up to where a range goes
abbrev pub object_form : ℕ
object_form = 1

abbrev pub base_form : ℕ
base_form = 2

abbrev pub border_form : ℕ
border_form = 4

-- the first word of a row with an object's bytes, with the bytes of a route's key, with those of a base's prefix, with a base's items
abbrev pub code_word : ℕ
code_word = 1

abbrev pub key_word : ℕ
key_word = 4

abbrev pub prefix_word : ℕ
prefix_word = 7

abbrev pub items_word : ℕ
items_word = 11
