-- What the words of a base say that a pass was shown.
use Rattle.std.proofs.Common.{◌≡◌, ℕ, zero, suc, ◌+◌, ◌%◌, ◌<◌, ◌≤◌, List, [], ◌∷◌, length, get_or, drop, sym, refl, ap, ◌∙◌, inl, inr, ⊎_elim, arith, length-drop}
use Rattle.std.proofs.lemmas.List.{get_or-take, get_or-drop, length-take-le, get_or-map, length-map}
use mathlib.Core.Option.{some}
use lib.ListN.{get_elem?}
use Rattle.ca_node.specs.Links.{IsIn}
use Rattle.ca_node.specs.Row.{count, items, item_words, row_in, head_in, head_of, prefix_length}
use Rattle.ca_node.specs.Told.{IsShownWord}
use Rattle.ca_node.specs.TreeView.{Note, TreeView}
use Rattle.ca_base.specs.Finding.{IsRowShown, IsReadable, IsObjectShown}
use Rattle.ca_rows.specs.declared.sizes.Sizes.{Sizes}
use Rattle.ca_node.specs.Layout.{items_word, count_limit}

-- What stands at a place of a list.
pub at_place : {A : Type 0} (xs : List A) (k : ℕ) (d : A) → k < length xs
    → get_elem? xs k ≡ some (get_or xs k d)
at_place [] k d l = absurd (omega arith)
at_place (x ∷ xs) zero d l = refl
at_place (x ∷ xs) (suc k) d l = at_place xs k d (omega arith)

-- A word of a row that was shown as a base or an object, by itself or as one of a run, is one that was shown, and so it is what is loaded.
told_word : (u : TreeView) (row index : ℕ) (its : List ℕ) → IsRowShown u row its → IsShownWord u row index (get_or its index 0)
told_word u row index its s = ⊎_elim
    (λ (i : IsIn s.0 u.notes). (its, inl (s.0, i, s.2), refl))
    (λ (i : IsIn s.0 u.ranges.run). (its, inr (inr (inr (s.0, i, s.2))), refl))
    s.1

pub word_shown : (u : TreeView) (row index : ℕ) → (its : List ℕ) × IsRowShown u row its → (word : ℕ) × IsShownWord u row index word
word_shown u row index s = (get_or s.0 index 0, told_word u row index s.0 s.1)

pub as_shown : (u : TreeView) (row index n : ℕ) → ((word : ℕ) → IsShownWord u row index word → n ≡ word) → (its : List ℕ) → IsRowShown u row its
    → n ≡ get_or its index 0
as_shown u row index n is its s = is (get_or its index 0) (told_word u row index its s)

module _ (z : Sizes) (u : TreeView) (base : ℕ) (note : Note) (r : IsReadable z u base note) where
  pub shows : IsRowShown u base note.its
  shows = (note, r.noted, inl (r.here, refl))

  pub base_shown : (its : List ℕ) × IsRowShown u base its
  base_shown = (note.its, shows)

  words_many : length (item_words note.its) ≡ count note.its
  words_many = let few = r.few in let long = r.is_base.long in
      length-take-le (count note.its) (drop items_word note.its) (omega (arith, length-drop items_word note.its))

  pub many : length (items note.its) ≡ count note.its
  many = length-map (item_words note.its) row_in ∙ words_many

  -- Its first word says how many objects it has.
  pub count_is : (word : ℕ) → ((its : List ℕ) → IsRowShown u base its → word ≡ get_or its 0 0)
      → (word % count_limit ≡ length note.objects) × (word % count_limit ≤ 120)
  count_is word is = let first : count note.its ≡ word % count_limit = ap
      (λ (n : ℕ). n % count_limit) (sym (is note.its shows)) in
      let few = r.few in (sym first ∙ (sym many ∙ sym r.is_base.as_many), omega arith)

  -- The word of an item is this one.
  word_is : (place word : ℕ)
      → ((its : List ℕ) → IsRowShown u base its → word ≡ get_or its (items_word + place) 0)
      → place < length note.objects
      → get_or (item_words note.its) place 0 ≡ word
  word_is place word is l = let m = many in let a = r.is_base.as_many in
      let in_range : place < count note.its = omega arith in
      get_or-take (count note.its) (drop items_word note.its) place 0 in_range
      ∙ (get_or-drop items_word note.its place 0 ∙ sym (is note.its shows))

  -- It has the head of the object's key.
  pub head_is : (place word : ℕ)
      → ((its : List ℕ) → IsRowShown u base its → word ≡ get_or its (items_word + place) 0)
      → place < length note.objects
      → head_in word ≡ head_of (prefix_length note.its) (get_or note.objects place [])
  head_is place word is l = let m = many in let w = words_many in let a = r.is_base.as_many in
      sym (get_or-map head_in (item_words note.its) place 0 0 (omega arith)
      ∙ ap head_in (word_is place word is l))
      ∙ (ap (λ (hs : List ℕ). get_or hs place 0) r.is_base.headed.headed
      ∙ get_or-map (head_of (prefix_length note.its)) note.objects place [] 0 l)

  -- It names its object row.
  pub item_is : (place word : ℕ)
      → ((its : List ℕ) → IsRowShown u base its → word ≡ get_or its (items_word + place) 0)
      → place < length note.objects
      → get_elem? (items note.its) place ≡ some (row_in word)
  item_is place word is l = let m = many in let w = words_many in let a = r.is_base.as_many in
      at_place (items note.its) place 0 (omega arith)
      ∙ ap some (get_or-map row_in (item_words note.its) place 0 0 (omega arith)
      ∙ ap row_in (word_is place word is l))

  pub item_inside : (place word : ℕ)
      → ((its : List ℕ) → IsRowShown u base its → word ≡ get_or its (items_word + place) 0)
      → place < length note.objects
      → (0 < row_in word) × (row_in word ≤ z.rows)
  item_inside place word is l = r.is_base.named (row_in word) (place, item_is place word is l)

  pub object_is : (place word : ℕ)
      → ((its : List ℕ) → IsRowShown u base its → word ≡ get_or its (items_word + place) 0)
      → place < length note.objects
      → IsObjectShown u (row_in word) (get_or note.objects place [])
  object_is place word is l = let its : List ℕ = get_or note.objects place [] in
      let here = at_place note.objects place [] l in record {
        shown = (note, r.noted, inr (r.is_base.is_base, (place, item_is place word is l, here)));
        long = (r.is_base.objects_long its (place, here)).0;
      }
