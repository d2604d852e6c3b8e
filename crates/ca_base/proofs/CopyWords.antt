-- What a row spells that a copy of a base was written to.
use Rattle.std.proofs.Common.{◌≡◌, ℕ, ◌+◌, ◌-◌, ◌/◌, ◌%◌, ◌<◌, ◌≤◌, List, [], ◌∷◌, zero, suc, length, map, take, drop, get_or, sym, ap, ◌∙◌, subst, arith, length-drop}
use Rattle.std.proofs.lemmas.List.{get_or-take, get_or-drop, length-take-le}
use Rattle.std.proofs.lemmas.Grind.{same_number_lists}
use Rattle.ca_rows.specs.declared.sizes.Sizes.{Sizes}
use Rattle.ca_rows.specs.Layout.{row_words}
use Rattle.ca_node.specs.Layout.{prefix_word, items_word, form_unit, count_limit}
use Rattle.ca_node.specs.Notes.{IsBaseNote}
use Rattle.ca_node.specs.Row.{bytes_in, count, head_in, head_of, row_in, item_words, key, prefix_length, prefix_words, IsHeaded}
use Rattle.ca_node.specs.TreeView.{Note}
use Rattle.ca_base.specs.Writing.{IsFilled}
use Rattle.ca_base.specs.Copied.{SpellsCopy}

-- A base is headed as another one that has the same prefix, and the same words for its items.
headed_as : (old new : List ℕ) (objects : List (List ℕ)) → prefix_length new ≡ prefix_length old → prefix_words new ≡ prefix_words old
    → item_words new ≡ item_words old → IsHeaded old objects → IsHeaded new objects
headed_as old new objects pl pw iw h = record {
  short = subst (λ (n : ℕ). n ≤ 32) (sym pl) h.short;
  zeros = λ i l m. ap (λ (ws : List ℕ). get_or (bytes_in ws) i 0) pw ∙ h.zeros i (subst (λ (n : ℕ). n ≤ i) pl l) m;
  bare = λ e. pl ∙ h.bare e;
  begin = λ k object e. ap (λ (n : ℕ). take n (key object)) pl ∙ (h.begin k object e ∙ sym (ap (λ (n : ℕ). take n (bytes_in (prefix_words new))) pl
      ∙ ap (λ (ws : List ℕ). take (prefix_length old) (bytes_in ws)) pw));
  headed = ap (λ (ws : List ℕ). map head_in ws) iw ∙ (h.headed ∙ ap (λ (n : ℕ). map (head_of n) objects) (sym pl));
}

-- A part of a row is that of another row which has the same words there.
same_part : (from many : ℕ) (old new : List ℕ) → length old ≡ row_words → length new ≡ row_words → from + many ≤ row_words
    → ((k : ℕ) → from ≤ k → k < from + many → get_or new k 0 ≡ get_or old k 0) → take many (drop from new) ≡ take many (drop from old)
same_part from many old new long long' inside same =
    let a : length (take many (drop from new)) ≡ many = length-take-le many (drop from new) (omega (arith, length-drop from new)) in
    let b : length (take many (drop from old)) ≡ many = length-take-le many (drop from old) (omega (arith, length-drop from old)) in
    same_number_lists _ _ (a ∙ sym b) (λ k l. let low : k < many = omega arith in
    get_or-take many (drop from new) k 0 low ∙ (get_or-drop from new k 0 ∙ (same (from + k) (omega arith) (omega arith)
    ∙ sym (get_or-take many (drop from old) k 0 low ∙ get_or-drop from old k 0))))

-- the first words of a row, by its first one and those behind that
abbrev pub front_words : ℕ → List ℕ → List ℕ
front_words form words = form ∷ get_or words 0 0 ∷ get_or words 1 0 ∷ get_or words 2 0 ∷ get_or words 3 0 ∷ get_or words 4 0 ∷ get_or words 5 0 ∷ []

-- The first words were written, and then those behind the mark.
pub spells_copy : (z : Sizes) (note : Note) (words : List ℕ) (form : ℕ) (its one new : List ℕ) → z.leaf ≤ 120 → IsBaseNote z note
    → form ≡ get_or note.its 0 0 → length its ≡ row_words
    → IsFilled 0 7 (λ k word. word ≡ get_or (front_words form words) k 0) its one
    → IsFilled 7 (4 + form % count_limit) (λ k word. word ≡ get_or note.its (7 + k) 0) one new → SpellsCopy note words new
spells_copy z note words form its one new leaf is form_is long f g = record {
  long = whole;
  is_base = ap (λ (n : ℕ). n / form_unit) zeroth ∙ is.is_base;
  level_is = ap (λ (n : ℕ). n / count_limit % count_limit) zeroth;
  count_is = many;
  items_are = ap (λ (ws : List ℕ). map row_in ws) same_items;
  headed = headed_as note.its new note.objects (ap (λ (n : ℕ). n / 4294967296 % 16777216) zeroth) same_prefix same_items is.headed;
  words_are = words_are;
}
  where
    whole : length new ≡ row_words
    whole = g.long ∙ (f.long ∙ long)

    first : (k : ℕ) → k < 7 → get_or new k 0 ≡ get_or (front_words form words) k 0
    first k l = let none : 0 + k ≡ k = omega arith in g.before k l ∙ subst (λ (i : ℕ). get_or one i 0 ≡ get_or (front_words form words) k 0) none (f.inside k l)

    words_are : (k : ℕ) → k < 6 → get_or new (1 + k) 0 ≡ get_or words k 0
    words_are zero l = first 1 (omega arith)
    words_are (suc zero) l = first 2 (omega arith)
    words_are (suc (suc zero)) l = first 3 (omega arith)
    words_are (suc (suc (suc zero))) l = first 4 (omega arith)
    words_are (suc (suc (suc (suc zero)))) l = first 5 (omega arith)
    words_are (suc (suc (suc (suc (suc zero))))) l = first 6 (omega arith)
    words_are (suc (suc (suc (suc (suc (suc k)))))) l = absurd (omega arith)

    zeroth : get_or new 0 0 ≡ get_or note.its 0 0
    zeroth = first 0 (omega arith) ∙ form_is

    many : count new ≡ count note.its
    many = ap (λ (n : ℕ). n % count_limit) zeroth

    few : count note.its ≤ 120
    few = let l = is.few in omega arith

    behind : (k : ℕ) → 7 ≤ k → k < 11 + count note.its → get_or new k 0 ≡ get_or note.its k 0
    behind k lo hi = let n : form % count_limit ≡ count note.its = ap (λ (x : ℕ). x % count_limit) form_is in let place : 7 + (k - 7) ≡ k = omega arith in
        subst (λ (i : ℕ). get_or new i 0 ≡ get_or note.its i 0) place (g.inside (k - 7) (omega arith))

    same_items : item_words new ≡ item_words note.its
    same_items = ap (λ (n : ℕ). take n (drop items_word new)) many
        ∙ same_part items_word (count note.its) note.its new is.long whole (let l = few in omega arith) (λ k lo hi. behind k (omega arith) hi)

    same_prefix : prefix_words new ≡ prefix_words note.its
    same_prefix = same_part prefix_word 4 note.its new is.long whole (omega arith) (λ k lo hi. behind k lo (omega arith))
