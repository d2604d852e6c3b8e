-- Words of a closed tree that are read: where they stand, and what they say of a row.
use Rattle.std.proofs.Common.{◌≡◌, ℕ, zero, suc, ◌+◌, ◌*◌, ◌%◌, ◌<◌, ◌≤◌, List, [], ◌∷◌, length, get_or, drop, sym, ap, ◌∙◌, arith, length-drop}
use Rattle.std.proofs.lemmas.List.{get_or-take, get_or-drop, length-take-le, get_or-map, length-map}
use mathlib.Core.Option.{some, some-injective, some-ne-none}
use lib.ListN.{get_elem?}
use Rattle.ca_rows.specs.Layout.{row_words, row_limit}
use Rattle.ca_node.specs.Layout.{items_word, count_limit}
use Rattle.ca_node.specs.Row.{row_at, count, item_words, items, row_in}
use Rattle.ca_node.specs.Stays.{word_at}
use Rattle.ca_close.specs.Listing.{IsInside}

-- What stands at a place is what is read there.
pub got : (words : List ℕ) (at word : ℕ) → get_elem? words at ≡ some word → word ≡ get_or words at 0
got [] at word e = absurd (some-ne-none word (sym e))
got (x ∷ xs) zero word e = sym (some-injective x word e)
got (x ∷ xs) (suc at) word e = got xs at word e

-- A word that is read at a row's place is the row's.
pub got_of : (words : List ℕ) (row k at word : ℕ) → k < row_words → at ≡ row_words * row + k → get_elem? words at ≡ some word
    → word ≡ get_or (row_at words row) k 0
got_of words row k at word l e g = got words at word g ∙ (ap (λ (i : ℕ). get_or words i 0) e ∙ sym (word_at words row k l))

module _ (words : List ℕ) (row : ℕ) (inside : IsInside words row) where
  abbrev its : List ℕ
  its = row_at words row

  pub row_long : length its ≡ row_words
  row_long = let w = inside.whole in length-take-le row_words (drop (row_words * row) words) (omega (arith, length-drop (row_words * row) words))

  -- A base has as many items as its first word says.
  pub items_many : count its ≤ 120 → (length (item_words its) ≡ count its) × (length (items its) ≡ count its)
  items_many few = let long = row_long in
      let many : length (item_words its) ≡ count its =
      length-take-le (count its) (drop items_word its) (omega (arith, length-drop items_word its)) in
      (many, length-map (item_words its) row_in ∙ many)

  -- Each of its items names a row, by a word behind the others.
  pub item_is : (place at word : ℕ) → count its ≤ 120 → place < count its → at ≡ row_words * row + items_word + place → get_elem? words at ≡ some word
      → get_or (items its) place 0 ≡ word % row_limit
  item_is place at word few l e g = let many = (items_many few).0 in let there : at ≡ row_words * row + (items_word + place) = omega arith in
      get_or-map row_in (item_words its) place 0 0 (omega arith)
      ∙ ap row_in (get_or-take (count its) (drop items_word its) place 0 l ∙ (get_or-drop items_word its place 0
      ∙ sym (got_of words row (items_word + place) at word (omega arith) there g)))

-- The number of a base's items, as its first word is read.
pub many_are : (words : List ℕ) (base word : ℕ) → get_elem? words (row_words * base) ≡ some word → word % count_limit ≡ count (row_at words base)
many_are words base word g = let here : row_words * base ≡ row_words * base + 0 = omega arith in
    ap (λ (n : ℕ). n % count_limit) (got_of words base 0 (row_words * base) word (omega arith) here g)
