-- Prefixes of bases, and the heads of keys behind them.
use Rattle.std.specs.Prelude.{◌≡◌, ◌≢◌, ℕ, ◌+◌, ◌-◌, ◌*◌, ◌/◌, ◌^◌, ◌<◌, ◌≤◌, min, List, [], ◌∷◌, Result, length, map, take, drop, slice_index, slice_index_or}
use Rattle.ca_rows.specs.Layout.{row_limit}
use Rattle.ca_node.specs.Row.{front_of, head_in, head_of, item_words, items, key, prefix, row_in}
use Rattle.ca_node.specs.TreeView.{Note}
use Rattle.ca_base.specs.Putting.{put_in}
use Rattle.ca_base.specs.Writing.{SpellsBase}
use Rattle.std.specs.List.{remove}

-- the word of an item whose head loses so many of its last bytes, and gets others before it, of which this is the head
abbrev pub reheaded : ℕ → ℕ → ℕ → ℕ
reheaded lead bytes word = (lead + head_in word / 256 ^ bytes) * row_limit + row_in word

-- The head of others leaves room for what a head is then that lost so many bytes.
abbrev pub IsShift : ℕ → ℕ → Type 0
IsShift lead bytes = (bytes ≤ 5) × (lead + 256 ^ (5 - bytes) ≤ 1099511627776)

-- Two lists begin with so many equal elements, and no more.
pub record AreShared (a b : List ℕ) (n : ℕ) : Type 0 where
  pub within : n ≤ length a
  pub within_both : n ≤ length b
  pub alike : take n a ≡ take n b
  pub longest : n < length a → n < length b → slice_index a n ≢ slice_index b n

-- A prefix is what a key begins with of another one. The heads behind that one lose as many bytes as it is shorter by, and the bytes that it lacks come
-- before them.
pub record IsTrimmed (old key new : List ℕ) (lead bytes : ℕ) : Type 0 where
  pub new_is : new ≡ take (length new) old
  pub shared : AreShared old key (length new)
  pub lead_is : lead ≡ front_of 5 (drop (length new) old)
  pub bytes_are : bytes ≡ min (length old - length new) 5
  pub shift : IsShift lead bytes

-- the words of items for these rows, with the heads of these objects' keys behind so many bytes
abbrev pub worded : ℕ → List ℕ → List (List ℕ) → List ℕ
worded skip [] objects = []
worded skip (row ∷ rows) [] = []
worded skip (row ∷ rows) (object ∷ objects) = (head_of skip object * row_limit + row) ∷ worded skip rows objects

-- The words are those of a half of a base: so many of its items, from a place on. Their keys begin with the half's prefix, the longest one that the
-- first 32 bytes of the first key and of the last one share.
pub record SpellsHalf (note : Note) (from count at_level : ℕ) (its : List ℕ) : Type 0 where
  pub prefix : List ℕ
  pub short : length prefix ≤ 32
  pub longest : AreShared (take 32 (key (slice_index_or note.objects from []))) (take 32 (key (slice_index_or note.objects (from + count - 1) [])))
      (length prefix)
  pub begin : (k : ℕ) → from ≤ k → k < from + count → take (length prefix) (key (slice_index_or note.objects k [])) ≡ prefix
  pub spells : SpellsBase prefix (take count (drop from (worded (length prefix) (items note.its) note.objects))) at_level 4294967296 its

-- The words are those of a base with an object put at a place, with this key, in this row: the base's prefix is trimmed by the key, and heads are shifted so.
pub record SpellsPut (note : Note) (place : Result ℕ ℕ) (new : List ℕ) (row at_level statistic : ℕ) (its : List ℕ) : Type 0 where
  pub front : List ℕ
  pub lead : ℕ
  pub bytes : ℕ
  pub word : ℕ
  pub trimmed : IsTrimmed (prefix note.its) new front lead bytes
  pub is_row : row_in word ≡ row
  pub is_head : head_in word ≡ front_of 5 (drop (length front) new)
  pub spells : SpellsBase front (put_in (map (reheaded lead bytes) (item_words note.its)) place word) at_level statistic its

-- The words are those of a base without the item at a place. It keeps its prefix, where an item is left.
pub record SpellsLeft (note : Note) (at at_level statistic : ℕ) (its : List ℕ) : Type 0 where
  pub front : List ℕ
  pub kept : 1 < length note.objects → front ≡ prefix note.its
  pub none : length note.objects ≤ 1 → front ≡ []
  pub spells : SpellsBase front (remove (item_words note.its) at) at_level statistic its
