-- What the words of a row spell once it was filled.
use Rattle.std.proofs.Common.{◌≡◌, ℕ, ◌+◌, ◌-◌, ◌*◌, ◌/◌, ◌%◌, ◌<◌, ◌≤◌, List, length, take, drop, get_or, sym, ap, ◌∙◌, subst, arith, length-drop}
use Rattle.std.proofs.lemmas.Grind.{same_number_lists}
use Rattle.std.proofs.lemmas.List.{length-take-le, get_or-take, get_or-drop}
use Rattle.ca_node.specs.Row.{bytes_in, object, key_place, count, code_words, prefix_length, prefix_words}
use Rattle.ca_base.specs.Writing.{HasEight, IsFilled, IsHeadWord, SpellsObject, SpellsBase}
use Rattle.ca_base.proofs.Fronted.{words_long, word_is}
use Rattle.ca_base.proofs.Words.{packed, padded}
use Rattle.ca_rows.specs.Layout.{row_words}
use Rattle.ca_node.specs.Layout.{code_word, items_word, form_unit, count_limit}
use Rattle.ca_base.proofs.ObjectBytes.{code_long, code_at}

-- An object row: its first word, and its bytes from the second word on.
pub spells_object : (bytes : List ℕ) (key_at key_end form : ℕ) (its one new : List ℕ)
    → length its ≡ row_words → get_or one 0 0 ≡ form → length one ≡ length its
    → form / form_unit ≡ 1 → form / 4294967296 % 16777216 ≡ key_end - key_at
    → form / count_limit % count_limit ≡ key_at → form % count_limit ≡ length bytes
    → length bytes ≤ 1000 → IsFilled code_word ((length bytes + 7) / 8) (HasEight bytes) one new
    → SpellsObject bytes key_at key_end new
spells_object bytes key_at key_end form its one new long first wide_one is_object is_length is_place is_count
    short f = record {
      long = wide;
      is_object = (
        ap (λ x. x / form_unit) first' ∙ is_object,
        λ i behind inside. padded (code_words new) bytes ((length bytes + 7) / 8) i (omega (arith, count_is))
            (omega (arith, count_is)) (omega (arith, code_long new wide, wide)) has_eight,
      );
      object_is = object_is;
      key_is = ap (λ n. take n (drop (key_place new) (object new))) (ap
          (λ x. x / 4294967296 % 16777216) first' ∙ is_length)
          ∙ (ap (λ n. take (key_end - key_at) (drop n (object new))) (ap (λ x. x / count_limit % count_limit) first'
          ∙ is_place)
          ∙ ap (λ (o : List ℕ). take (key_end - key_at) (drop key_at o)) object_is);
    }
  where
    first' : get_or new 0 0 ≡ form
    first' = f.before 0 (omega arith) ∙ first

    wide : length new ≡ row_words
    wide = f.long ∙ (wide_one ∙ long)

    count_is : count new ≡ length bytes
    count_is = ap (λ x. x % count_limit) first' ∙ is_count

    has_eight : (k : ℕ) → k < (length bytes + 7) / 8 → HasEight bytes k (get_or (code_words new) k 0)
    has_eight k l = subst (HasEight bytes k) (sym (code_at new k (omega arith))) (f.inside k l)

    object_is : object new ≡ bytes
    object_is = ap (λ n. take n (bytes_in (code_words new))) count_is
        ∙ packed (code_words new) bytes ((length bytes + 7) / 8) (omega arith) (omega (
          arith,
          code_long new wide,
          wide,
        )) has_eight

-- A base row: the words before its items, and its items from word 11 on.
pub spells_base : (front these : List ℕ) (at_level statistic : ℕ) (its one new : List ℕ)
    → length its ≡ row_words → at_level < count_limit → length front ≤ 32 → length these ≤ 120
    → IsFilled 0 11 (IsHeadWord front at_level (length these) statistic) its one
    → IsFilled items_word (length these) (λ k word. word ≡ get_or these k 0) one new
    → SpellsBase front these at_level statistic new
spells_base front these at_level statistic its one new long low short few f g = record {
  long = wide;
  is_base = let h = first in omega arith;
  length_is = length_is;
  prefix_is = ap (λ n. take n (bytes_in (prefix_words new))) length_is
      ∙ packed (prefix_words new) front 4 (omega arith) (omega (arith, words_long new wide)) has_eight;
  zeros = λ i behind inside. padded (prefix_words new) front 4 i behind (omega arith)
      (omega (arith, words_long new wide)) has_eight;
  words_are = ap (λ n. take n (drop items_word new)) count_is
      ∙ same_number_lists (take (length these) (drop items_word new)) these wide_items
      (λ k l. let small : k < length these = omega (arith, wide_items) in
      get_or-take (length these) (drop items_word new) k 0 small
      ∙ (get_or-drop items_word new k 0 ∙ g.inside k small));
  level_is = let h = first in omega arith;
  count_is = count_is;
  unmarked = g.before 2 (omega arith) ∙ (f.inside 2 (omega arith)).head (omega arith);
  statistic_is = g.before 1 (omega arith) ∙ (f.inside 1 (omega arith)).head (omega arith);
}
  where
    wide : length new ≡ row_words
    wide = g.long ∙ (f.long ∙ long)

    first : get_or new 0 0
        ≡ 144115188075855872 + length front * 4294967296 + at_level * count_limit + length these
    first = g.before 0 (omega arith) ∙ (f.inside 0 (omega arith)).head (omega arith)

    length_is : prefix_length new ≡ length front
    length_is = let h = first in omega arith

    count_is : count new ≡ length these
    count_is = let h = first in omega arith

    has_eight : (k : ℕ) → k < 4 → HasEight front k (get_or (prefix_words new) k 0)
    has_eight k l = let here : 0 + (7 + k) ≡ 7 + k = omega arith in
        let back : 7 + k - 7 ≡ k = omega arith in
        subst (HasEight front k) (sym (word_is new k l ∙ (g.before (7 + k) (omega arith)
        ∙ ap (λ (i : ℕ). get_or one i 0) (sym here))))
        (subst (λ (i : ℕ). HasEight front i (get_or one (0 + (7 + k)) 0)) back
        ((f.inside (7 + k) (omega arith)).prefix (omega arith)))

    wide_items : length (take (length these) (drop items_word new)) ≡ length these
    wide_items =
        length-take-le (length these) (drop items_word new) (omega (arith, length-drop items_word new, wide))
