-- What the words of a row spell.
use Rattle.std.specs.Prelude.{◌≡◌, ℕ, ◌+◌, ◌*◌, ◌/◌, ◌%◌, ◌^◌, ◌<◌, ◌≤◌, List, [], ◌∷◌, ◌++◌, take, drop, map, slice_index}
use mathlib.Core.Option.{some}
use lib.ListN.{get_elem?}
use Prim.Native.Nat.{zero, suc}
use Rattle.std.specs.Int.{to_be_bytes, w64}
use Rattle.ca_model.specs.StoreMap.{Pair, StoreMap}
use Rattle.ca_rows.specs.Layout.{row_words, row_limit}
use Rattle.ca_node.specs.Layout.{code_word, key_word, prefix_word, items_word, form_unit, count_limit, marked_by_range, marked_by_join}

-- the 136 words of a row
abbrev pub row_at : List ℕ → ℕ → List ℕ
row_at words row = take row_words (drop (row_words * row) words)

-- the form, in the first word
abbrev pub form : List ℕ → ℕ
form its = slice_index its 0 / form_unit

abbrev pub IsBaseRow : List ℕ → Type 0
IsBaseRow its = form its ≡ 2

abbrev pub IsRouteRow : List ℕ → Type 0
IsRouteRow its = form its ≡ 3

-- The row says up to where a range goes.
abbrev pub IsBorderRow : List ℕ → Type 0
IsBorderRow its = form its ≡ 4

-- the number in the last two bytes of the first word: of a base the number of its items, of the other forms a length
abbrev pub count : List ℕ → ℕ
count its = slice_index its 0 % count_limit

-- of a base or a route: the level that it stands at
abbrev pub level : List ℕ → ℕ
level its = slice_index its 0 / count_limit % count_limit

-- of a base: a word for each object that it names, in the order of their keys
abbrev pub item_words : List ℕ → List ℕ
item_words its = take (count its) (drop items_word its)

-- in such a word, the object's row, and above it the head of its key
abbrev pub row_in : ℕ → ℕ
row_in word = word % row_limit

abbrev pub head_in : ℕ → ℕ
head_in word = word / row_limit

-- of a base: the object rows that it names, and the heads of their keys
abbrev pub items : List ℕ → List ℕ
items its = map row_in (item_words its)

abbrev pub heads : List ℕ → List ℕ
heads its = map head_in (item_words its)

-- of a base: which kind of operation marked it (0 none, 1 a range, 2 a join), whose (a pass or a route), which one (a sequence or an
-- attempt), the row to its left in the same range, and the row that tells where the range ends
abbrev pub mark : List ℕ → ℕ
mark its = slice_index its 2

abbrev pub mark_owner : List ℕ → ℕ
mark_owner its = slice_index its 3

abbrev pub mark_number : List ℕ → ℕ
mark_number its = slice_index its 4

abbrev pub mark_back : List ℕ → ℕ
mark_back its = slice_index its 5

abbrev pub mark_bound : List ℕ → ℕ
mark_bound its = slice_index its 6

-- This range of a pass marked the base.
abbrev pub IsMarkedBy : List ℕ → ℕ → ℕ → Type 0
IsMarkedBy its pass number = (mark its ≡ marked_by_range) × (mark_owner its ≡ pass) × (mark_number its ≡ number)

-- This attempt to join the bases under a route marked the base.
abbrev pub IsMarkedFor : List ℕ → ℕ → ℕ → Type 0
IsMarkedFor its route attempt = (mark its ≡ marked_by_join) × (mark_owner its ≡ route) × (mark_number its ≡ attempt)

-- No operation marked the base.
abbrev pub IsUnmarked : List ℕ → Type 0
IsUnmarked its = mark its ≡ 0

-- of a route: how far the join is that was begun last, which no more than one is at a time: 0 none is under way, 1 it is prepared, 2 it is secured
abbrev pub join_word : List ℕ → ℕ
join_word its = slice_index its 3

abbrev pub IsIdle : List ℕ → Type 0
IsIdle its = join_word its % 4 ≡ 0

-- the bytes of words, eight a word, the highest first
abbrev pub bytes_in : List ℕ → List ℕ
bytes_in [] = []
bytes_in (word ∷ words) = to_be_bytes w64 word ++ bytes_in words

-- of an object: the words that have room for its bytes
abbrev pub code_words : List ℕ → List ℕ
code_words its = take 125 (drop code_word its)

-- of an object: its bytes, and where its key stands in them
abbrev pub object : List ℕ → List ℕ
object its = take (count its) (bytes_in (code_words its))

-- The bytes behind the object are 0, to the end of its last word. Behind that word anything may stand.
abbrev pub IsPadded : List ℕ → Type 0
IsPadded its = (i : ℕ) → count its ≤ i → i < (count its + 7) / 8 * 8 → slice_index (bytes_in (code_words its)) i ≡ 0

abbrev pub IsObjectRow : List ℕ → Type 0
IsObjectRow its = (form its ≡ 1) × IsPadded its

-- of a route: its key
abbrev pub route_key : List ℕ → List ℕ
route_key its = take (count its) (bytes_in (drop key_word its))

-- of a row that says up to where a range goes: how its key bounds it, 0 not at all, 1 it is the last one, 2 it is left out
abbrev pub edge_form : List ℕ → ℕ
edge_form its = slice_index its 0 / count_limit % 1099511627776

abbrev pub key_place : List ℕ → ℕ
key_place its = slice_index its 0 / count_limit % count_limit

abbrev pub key_length : List ℕ → ℕ
key_length its = slice_index its 0 / 4294967296 % 16777216

abbrev pub key : List ℕ → List ℕ
key its = take (key_length its) (drop (key_place its) (object its))

-- so many bytes at the front as a number, the highest first, with zeros behind their end
abbrev pub front_of : ℕ → List ℕ → ℕ
front_of zero bytes = 0
front_of (suc n) [] = 0
front_of (suc n) (byte ∷ bytes) = byte * 256 ^ n + front_of n bytes

-- the head of an object's key behind so many bytes: the next five
abbrev pub head_of : ℕ → List ℕ → ℕ
head_of skip its = front_of 5 (drop skip (key its))

-- an object's key and its bytes
abbrev pub pair : List ℕ → Pair
pair its = (key its, object its)

-- what a base has: the objects that it names
abbrev pub objects_in : List ℕ → ℕ → StoreMap
objects_in words base = map (λ row. pair (row_at words row)) (items (row_at words base))

-- of a base: how many bytes its prefix has, the words that have room for them, and these bytes
abbrev pub prefix_length : List ℕ → ℕ
prefix_length its = slice_index its 0 / 4294967296 % 16777216

abbrev pub prefix_words : List ℕ → List ℕ
prefix_words its = take 4 (drop prefix_word its)

abbrev pub prefix : List ℕ → List ℕ
prefix its = take (prefix_length its) (bytes_in (prefix_words its))

-- A base has a prefix of 32 bytes at most, with zeros behind it. The keys of these objects begin with it, and each item has the head of its object's key
-- behind it. Where there are none, it has no byte.
pub record IsHeaded (its : List ℕ) (objects : List (List ℕ)) : Type 0 where
  pub short : prefix_length its ≤ 32
  pub zeros : (i : ℕ) → prefix_length its ≤ i → i < 32 → slice_index (bytes_in (prefix_words its)) i ≡ 0
  pub bare : objects ≡ [] → prefix_length its ≡ 0
  pub begin : (k : ℕ) (object : List ℕ) → get_elem? objects k ≡ some object → take (prefix_length its) (key object) ≡ prefix its
  pub headed : heads its ≡ map (head_of (prefix_length its)) objects

-- The base is headed so, by the objects that it names.
abbrev pub AreHeaded : List ℕ → ℕ → Type 0
AreHeaded words base = IsHeaded (row_at words base) (map (λ row. row_at words row) (items (row_at words base)))
