-- The prefix of a base that was shown, by its words.
use Rattle.std.proofs.Common.{◌≡◌, ℕ, ◌+◌, ◌-◌, ◌*◌, ◌/◌, ◌%◌, ◌<◌, ◌≤◌, List, [], ◌∷◌, length, take, drop, get_or, sym, refl, ap, ◌∙◌, subst, inl, arith, length-take, length-drop}
use Rattle.std.proofs.lemmas.List.{get_or-take, get_or-drop, length-take-le, take-take, drop-take}
use Rattle.std.specs.Int.{to_be_bytes, w64}
use Rattle.ca_node.specs.Layout.{prefix_word}
use Rattle.ca_node.specs.Links.{IsIn}
use Rattle.ca_node.specs.Row.{bytes_in, prefix, prefix_length, prefix_words}
use Rattle.ca_node.specs.TreeView.{Note, TreeView}
use Rattle.ca_node.proofs.WordOrder.{bytes_long, word_part}
use Rattle.ca_base.specs.Finding.{IsRowShown, IsBaseSeen, IsReadable}
use Rattle.ca_base.specs.Putting.{IsShownLast, first_note}
use Rattle.ca_rows.specs.Layout.{row_words}
use Rattle.ca_rows.specs.declared.sizes.Sizes.{Sizes}

-- There are four words for it.
pub words_long : (its : List ℕ) → length its ≡ row_words → length (prefix_words its) ≡ 4
words_long its long = omega (arith, length-take 4 (drop prefix_word its), length-drop prefix_word its)

pub word_is : (its : List ℕ) (i : ℕ) → i < 4 → get_or (prefix_words its) i 0 ≡ get_or its (prefix_word + i) 0
word_is its i l = get_or-take 4 (drop prefix_word its) i 0 l ∙ get_or-drop prefix_word its i 0

-- It has as many bytes as the first word says.
pub prefix_long : (its : List ℕ) → length its ≡ row_words → prefix_length its ≤ 32
    → length (prefix its) ≡ prefix_length its
prefix_long its long few = length-take-le (prefix_length its) (bytes_in (prefix_words its))
    (omega (arith, bytes_long (prefix_words its), words_long its long))

-- Its bytes at a word's place are the first ones of the word.
pub part_at : (its : List ℕ) (i n word : ℕ) → length its ≡ row_words → i < 4 → n ≤ 8
    → word ≡ get_or its (prefix_word + i) 0
    → take n (to_be_bytes w64 word) ≡ take n (drop (8 * i) (bytes_in (prefix_words its)))
part_at its i n word long l few is =
    ap (λ (w : ℕ). take n (to_be_bytes w64 w)) (is ∙ sym (word_is its i l))
    ∙ (ap (take n) (sym (word_part (prefix_words its) i (omega (arith, words_long its long))))
    ∙ take-take n 8 (drop (8 * i) (bytes_in (prefix_words its))) few)

-- A part of the front of a list is one of the list.
pub front_part_of : (xs : List ℕ) (m at n : ℕ) → at + n ≤ m
    → take n (drop at (take m xs)) ≡ take n (drop at xs)
front_part_of xs m at n l = let e : m ≡ at + (m - at) = omega arith in
    ap (λ (k : ℕ). take n (drop at (take k xs))) e
    ∙ (ap (take n) (drop-take at (m - at) xs) ∙ take-take n (m - at) (drop at xs) (omega arith))

module _ (z : Sizes) (u : TreeView) (base : ℕ) (note : Note) (r : IsBaseSeen z u base note) where
  pub shows : IsRowShown u base note.its
  shows = (note, r.noted, inl (r.here, refl))

  pub base_there : (its : List ℕ) × IsRowShown u base its
  base_there = (note.its, shows)

  pub inside : base ≤ z.rows
  inside = let here = r.here in let high = r.is_base.in_range in omega arith

  -- Its first word says how long the prefix is.
  pub length_is : (word : ℕ) → ((its : List ℕ) → IsRowShown u base its → word ≡ get_or its 0 0)
      → word / 4294967296 % 16777216 ≡ prefix_length note.its
  length_is word is = ap (λ (n : ℕ). n / 4294967296 % 16777216) (is note.its shows)

  pub length_few : (word : ℕ) → ((its : List ℕ) → IsRowShown u base its → word ≡ get_or its 0 0)
      → word / 4294967296 % 16777216 ≤ 32
  length_few word is = subst (λ (n : ℕ). n ≤ 32) (sym (length_is word is)) r.is_base.headed.short

-- A base that can be read was shown.
pub read_shown : (z : Sizes) (u : TreeView) (base : ℕ) (note : Note) → IsReadable z u base note
    → IsBaseSeen z u base note
read_shown z u base note r = record { noted = r.noted; here = r.here; is_base = r.is_base }

-- Where the first note is on a base there is one.
noted_first : (notes : List Note) → 0 < (first_note notes).row → IsIn (first_note notes) notes
noted_first [] l = absurd (omega arith)
noted_first (note ∷ notes) l = (0, refl)

pub first_noted : (z : Sizes) (u : TreeView) (base : ℕ) → IsReadable z u base (first_note u.notes) → IsIn (first_note u.notes) u.notes
first_noted z u base r = noted_first u.notes r.is_base.some_row

-- So was the one that was shown last.
pub last_there : (z : Sizes) (u : TreeView) (base : ℕ) → IsShownLast z u base
    → IsBaseSeen z u base (first_note u.notes)
last_there z u base s = record { noted = inl s.noted; here = s.here; is_base = s.is_base }
