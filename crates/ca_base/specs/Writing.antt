-- Rows that a seat holds, and what is written into them.
use Rattle.std.specs.Prelude.{◌≡◌, ◌≢◌, ℕ, ◌+◌, ◌-◌, ◌*◌, ◌<◌, ◌≤◌, List, [], ◌∷◌, length, take, drop, slice_index, slice_set, slice_range}
use Rattle.std.specs.Int.{to_be_bytes, w64}
use mathlib.Core.Option.{some}
use Rattle.ca_rows.specs.declared.sizes.Sizes.{Sizes}
use Rattle.ca_rows.specs.declared.view.Claim.TheVariants.{Holds}
use Rattle.ca_rows.specs.Claims.{claim_of, held_count}
use Rattle.ca_node.specs.Told.{MyTree}
use Rattle.ca_node.specs.Row.{IsObjectRow, IsBaseRow, count, level, IsUnmarked, object, key, item_words, bytes_in, prefix, prefix_length, prefix_words}
use Rattle.ca_node.specs.Layout.{count_limit}
use Rattle.ca_rows.specs.Layout.{row_words}

-- The seat holds the row.
abbrev pub IsHeld : MyTree → ℕ → Type 0
IsHeld m row = (its : List ℕ) × (length its ≡ row_words) × (claim_of m.0.claims row ≡ some (Holds its))

-- The seat holds the row, one of a space of these sizes.
abbrev pub IsHeldIn : Sizes → MyTree → ℕ → Type 0
IsHeldIn z m row = (row ≤ z.rows) × IsHeld m row

-- The seat holds the row with these words now, and its other rows as before. Nothing else changed.
pub record IsRewritten (row : ℕ) (its : List ℕ) (m m' : MyTree) : Type 0 where
  pub here : claim_of m'.0.claims row ≡ some (Holds its)
  pub others : (r : ℕ) → r ≢ row → claim_of m'.0.claims r ≡ claim_of m.0.claims r
  pub no_more : held_count m'.0.claims ≤ held_count m.0.claims
  pub only : m' ≡ (record m.0 { claims = m'.0.claims }, m.1)

-- The seat holds the row with this word set, and with its other words as before.
abbrev pub HasSet : ℕ → ℕ → ℕ → MyTree → MyTree → Type 0
HasSet row index value m m' = (its : List ℕ) → claim_of m.0.claims row ≡ some (Holds its) → IsRewritten row (slice_set its index value) m m'

-- Of the words so many were written, from one on: the one at each place is as said, and the words before and behind are as they were.
pub record IsFilled (at count : ℕ) (says : ℕ → ℕ → Type 0) (its new : List ℕ) : Type 0 where
  pub long : length new ≡ length its
  pub inside : (k : ℕ) → k < count → says k (slice_index new (at + k))
  pub before : (k : ℕ) → k < at → slice_index new k ≡ slice_index its k
  pub behind : (k : ℕ) → at + count ≤ k → slice_index new k ≡ slice_index its k

-- So the row was filled.
abbrev pub HasFilled : ℕ → ℕ → ℕ → (ℕ → ℕ → Type 0) → MyTree → MyTree → Type 0
HasFilled row at count says m m' = (its : List ℕ) → length its ≡ row_words → claim_of m.0.claims row ≡ some (Holds its)
    → (new : List ℕ) × IsFilled at count says its new × IsRewritten row new m m'

-- The word has the eight bytes at the front, with zeros behind their end.
pub record HasBytes (bytes : List ℕ) (word : ℕ) : Type 0 where
  pub front : take (length bytes) (to_be_bytes w64 word) ≡ take 8 bytes
  pub zeros : (k : ℕ) → length bytes ≤ k → slice_index (to_be_bytes w64 word) k ≡ 0

-- the word that has the k-th eight of the bytes
abbrev pub HasEight : List ℕ → ℕ → ℕ → Type 0
HasEight bytes k word = HasBytes (drop (8 * k) bytes) word

-- The words are an object row's: these bytes, in which the key stands there.
pub record SpellsObject (bytes : List ℕ) (key_at key_end : ℕ) (its : List ℕ) : Type 0 where
  pub long : length its ≡ row_words
  pub is_object : IsObjectRow its
  pub object_is : object its ≡ bytes
  pub key_is : key its ≡ slice_range bytes key_at key_end

-- The words are a base's: this prefix, these words for its items, at this level, with this word for the statistic, and no mark.
pub record SpellsBase (front these : List ℕ) (at_level statistic : ℕ) (its : List ℕ) : Type 0 where
  pub long : length its ≡ row_words
  pub is_base : IsBaseRow its
  pub length_is : prefix_length its ≡ length front
  pub prefix_is : prefix its ≡ front
  pub zeros : (i : ℕ) → length front ≤ i → i < 32 → slice_index (bytes_in (prefix_words its)) i ≡ 0
  pub words_are : item_words its ≡ these
  pub level_is : level its ≡ at_level
  pub count_is : count its ≡ length these
  pub unmarked : IsUnmarked its
  pub statistic_is : slice_index its 1 ≡ statistic

-- the words of a base row from the first one up to the mark's bound: so many bytes of a prefix, this level, so many items, this word for the statistic, and
-- no mark
abbrev pub base_head : ℕ → ℕ → ℕ → ℕ → List ℕ
base_head bytes at_level many statistic =
    (144115188075855872 + bytes * 4294967296 + at_level * count_limit + many) ∷ statistic ∷ 0 ∷ 0 ∷ 0 ∷ 0 ∷ 0 ∷ []

-- A word of a base row before its items is one of these, or behind them one with eight bytes of the prefix.
pub record IsHeadWord (front : List ℕ) (at_level many statistic k word : ℕ) : Type 0 where
  pub head : k < 7 → word ≡ slice_index (base_head (length front) at_level many statistic) k
  pub prefix : 7 ≤ k → HasEight front (k - 7) word

-- The seat holds the row with such words, and its other rows as before.
abbrev pub HasWritten : ℕ → (List ℕ → Type 0) → MyTree → MyTree → Type 0
HasWritten row Spells m m' = (its : List ℕ) × Spells its × IsRewritten row its m m'
