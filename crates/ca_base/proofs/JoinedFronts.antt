-- A base to which two are joined is headed by the objects of both.
use Rattle.std.proofs.Common.{◌≡◌, ◌⊎◌, ℕ, zero, suc, ◌+◌, ◌<◌, ◌≤◌, List, [], ◌∷◌, ◌++◌, length, map, take, drop, sym, refl, ap, ◌∙◌, subst, inl, inr, ⊎_elim, arith, length-append, length-drop}
use Rattle.std.proofs.lemmas.List.{length-map, length-take-le, map-append}
use mathlib.Core.Option.{some}
use lib.ListN.{get_elem?}
use Rattle.ca_node.specs.Layout.{items_word}
use Rattle.ca_node.specs.Notes.{IsBaseNote}
use Rattle.ca_node.specs.Row.{count, head_in, head_of, heads, item_words, items, key, prefix, prefix_length, row_in, IsHeaded}
use Rattle.ca_node.specs.TreeView.{Note}
use Rattle.ca_rows.specs.declared.sizes.Sizes.{Sizes}
use Rattle.ca_base.specs.declared.prefixes.Trimmed.{Trimmed}
use Rattle.ca_base.specs.Joined.{AreTrimmed, SpellsJoined}
use Rattle.ca_base.specs.Prefixes.{AreShared, IsTrimmed, reheaded}
use Rattle.ca_base.specs.Trimming.{shifted_words}
use Rattle.ca_base.specs.Writing.{SpellsBase}
use Rattle.ca_base.proofs.Fronted.{prefix_long}
use Rattle.ca_base.proofs.NewFronts.{begins, rows_same, trimmed_heads}

-- What stands in one list behind another stands in one of them.
in_either : {A : Type 0} (xs ys : List A) (k : ℕ) (x : A) → get_elem? (xs ++ ys) k ≡ some x
    → ((i : ℕ) × (get_elem? xs i ≡ some x)) ⊎ ((i : ℕ) × (get_elem? ys i ≡ some x))
in_either [] ys k x e = inr (k, e)
in_either (y ∷ xs) ys zero x e = inl (0, e)
in_either (y ∷ xs) ys (suc k) x e = ⊎_elim (λ (h : (i : ℕ) × (get_elem? xs i ≡ some x)). inl (suc h.0, h.1)) (λ h. inr h) (in_either xs ys k x e)

-- A list with no length is empty.
none_in : {A : Type 0} (xs : List A) → length xs ≡ 0 → xs ≡ []
none_in [] e = refl
none_in (x ∷ xs) e = absurd (omega arith)

-- One of two bases: it has as many objects as items, and its prefix is trimmed so, if it has any.
module _ (z : Sizes) (note : Note) (is : IsBaseNote z note) (leaf : count note.its ≤ 120) where
  pub words_many : length (item_words note.its) ≡ count note.its
  words_many = let long = is.long in length-take-le (count note.its) (drop items_word note.its) (omega (arith, length-drop items_word note.its))

  pub objects_many : length note.objects ≡ count note.its
  objects_many = is.as_many ∙ (length-map (item_words note.its) row_in ∙ words_many)

  pub front_long : length (prefix note.its) ≡ prefix_length note.its
  front_long = prefix_long note.its is.long is.headed.short

  module _ (front : List ℕ) (lead bytes : ℕ)
      (trimmed : 0 < count note.its → (new : List ℕ) × IsTrimmed (prefix note.its) new front lead bytes) where
    -- Its objects' keys begin with that.
    pub part_begins : (k : ℕ) (o : List ℕ) → get_elem? note.objects k ≡ some o → take (length front) (key o) ≡ front
    part_begins k o e = by (count note.its) refl
      where
        by : (n : ℕ) → n ≡ count note.its → take (length front) (key o) ≡ front
        by zero same = let none = none_in note.objects (objects_many ∙ sym same) in
            absurd (let f = sym (ap (λ (os : List (List ℕ)). get_elem? os k) none) ∙ e in cc)
        by (suc n) same = let t = trimmed (omega arith) in begins note.its note.objects is.headed is.long t.0 front lead bytes t.1 k o e

    -- The heads are those behind that.
    pub part_heads : map head_in (map (reheaded lead bytes) (item_words note.its)) ≡ map (head_of (length front)) note.objects
    part_heads = by (count note.its) refl
      where
        by : (n : ℕ) → n ≡ count note.its → map head_in (map (reheaded lead bytes) (item_words note.its)) ≡ map (head_of (length front)) note.objects
        by zero same = ap (λ (ws : List ℕ). map head_in (map (reheaded lead bytes) ws)) (none_in (item_words note.its) (words_many ∙ sym same))
            ∙ ap (map (head_of (length front))) (sym (none_in note.objects (objects_many ∙ sym same)))
        by (suc n) same = let t = trimmed (omega arith) in trimmed_heads note.its note.objects is.headed is.long t.0 front lead bytes t.1

-- The prefix of both is short enough.
pub both_short : (low high : List ℕ) (many more : ℕ) (first second : Trimmed) → AreTrimmed low many high more first second → length low ≤ 32
    → length high ≤ 32 → length first.prefix.now ≤ 32
both_short low high zero more first second t l h = let e = ap (λ (xs : List ℕ). length xs) (t.right_alone refl) in omega arith
both_short low high (suc many) more first second t l h = let w = (t.left_words (omega arith)).1.shared.within in omega arith

-- A base with the words of both spells the base to which they are joined.
module _ (z : Sizes) (left right : Note) (left_is : IsBaseNote z left) (right_is : IsBaseNote z right) (few : count left.its + count right.its ≤ 120)
    (first second : Trimmed) (t : AreTrimmed (prefix left.its) (count left.its) (prefix right.its) (count right.its) first second) (at_level : ℕ)
    (its : List ℕ) (s : SpellsBase first.prefix.now (shifted_words first.shift (item_words left.its) ++ shifted_words second.shift (item_words right.its))
    at_level 4294967296 its) where
  abbrev front : List ℕ
  front = first.prefix.now

  abbrev words : List ℕ
  words = shifted_words first.shift (item_words left.its)

  abbrev rest : List ℕ
  rest = shifted_words second.shift (item_words right.its)

  short : length front ≤ 32
  short = let a = front_long z left left_is (omega arith) in let b = front_long z right right_is (omega arith) in
      let c = left_is.headed.short in let d = right_is.headed.short in
      both_short (prefix left.its) (prefix right.its) (count left.its) (count right.its) first second t (omega arith) (omega arith)

  right_words : 0 < count right.its → (new : List ℕ) × IsTrimmed (prefix right.its) new front second.shift.lead second.shift.bytes
  right_words any = let w = t.right_words any in (
    w.0,
    subst (λ (p : List ℕ). IsTrimmed (prefix right.its) w.0 p second.shift.lead second.shift.bytes) (sym t.one) w.1,
  )

  prefix_is : length (prefix its) ≡ prefix_length its
  prefix_is = ap (λ (xs : List ℕ). length xs) s.prefix_is ∙ sym s.length_is

  many : count its ≡ count left.its + count right.its
  many = s.count_is ∙ (length-append words rest ∙ (λ i. long_left i + long_right i))
    where
      long_left : length words ≡ count left.its
      long_left = length-map (item_words left.its) (reheaded first.shift.lead first.shift.bytes) ∙ words_many z left left_is (omega arith)

      long_right : length rest ≡ count right.its
      long_right = length-map (item_words right.its) (reheaded second.shift.lead second.shift.bytes) ∙ words_many z right right_is (omega arith)

  same_items : items its ≡ items left.its ++ items right.its
  same_items = ap (λ (ws : List ℕ). map row_in ws) s.words_are ∙ (map-append row_in words rest ∙ (λ i.
      rows_same first.shift.lead first.shift.bytes (item_words left.its) i ++ rows_same second.shift.lead second.shift.bytes (item_words right.its) i))

  same_heads : heads its ≡ map (head_of (length front)) (left.objects ++ right.objects)
  same_heads = ap (λ (ws : List ℕ). map head_in ws) s.words_are ∙ (map-append head_in words rest ∙ ((λ i.
      part_heads z left left_is (omega arith) front first.shift.lead first.shift.bytes t.left_words i
      ++ part_heads z right right_is (omega arith) front second.shift.lead second.shift.bytes right_words i)
      ∙ sym (map-append (head_of (length front)) left.objects right.objects)))

  -- Without an object it has no prefix.
  bare : left.objects ++ right.objects ≡ [] → length front ≡ 0
  bare e = let long = length-append left.objects right.objects in let none = ap (λ (os : List (List ℕ)). length os) e in
      let a = objects_many z left left_is (omega arith) in let b = objects_many z right right_is (omega arith) in
      ap (λ (xs : List ℕ). length xs) (t.right_alone (omega arith)) ∙ (front_long z right right_is (omega arith)
      ∙ right_is.headed.bare (none_in right.objects (omega arith)))

  pub joined_headed : IsHeaded its (left.objects ++ right.objects)
  joined_headed = record {
    short = subst (λ (n : ℕ). n ≤ 32) (sym s.length_is) short;
    zeros = λ i behind l. s.zeros i (subst (λ (n : ℕ). n ≤ i) s.length_is behind) l;
    bare = λ e. s.length_is ∙ bare e;
    begin = λ k o e. ap (λ (n : ℕ). take n (key o)) s.length_is ∙ (⊎_elim
        (λ (h : (i : ℕ) × (get_elem? left.objects i ≡ some o)).
        part_begins z left left_is (omega arith) front first.shift.lead first.shift.bytes t.left_words h.0 o h.1)
        (λ (h : (i : ℕ) × (get_elem? right.objects i ≡ some o)).
        part_begins z right right_is (omega arith) front second.shift.lead second.shift.bytes right_words h.0 o h.1)
        (in_either left.objects right.objects k o e) ∙ sym s.prefix_is);
    headed = same_heads ∙ ap (λ (n : ℕ). map (head_of n) (left.objects ++ right.objects)) (sym s.length_is);
  }

  pub spells_joined : SpellsJoined left right at_level its
  spells_joined = record {
    long = s.long;
    is_base = s.is_base;
    level_is = s.level_is;
    count_is = many;
    items_are = same_items;
    headed = joined_headed;
    unmarked = s.unmarked;
    statistic_is = s.statistic_is;
    longest = λ a b. subst (AreShared (prefix left.its) (prefix right.its)) (sym s.length_is) (t.both a b);
    left_alone = λ none. alone none (count left.its) refl;
    right_alone = λ none. s.prefix_is ∙ t.right_alone none;
  }
    where
      alone : count right.its ≡ 0 → (n : ℕ) → n ≡ count left.its → prefix its ≡ prefix left.its
      alone none zero same = s.prefix_is ∙ (t.right_alone (sym same) ∙ (nothing right right_is none ∙ sym (nothing left left_is (sym same))))
        where
          nothing : (note : Note) → IsBaseNote z note → count note.its ≡ 0 → prefix note.its ≡ []
          nothing note is e = none_in (prefix note.its) (front_long z note is (omega arith) ∙ is.headed.bare (none_in note.objects
              (objects_many z note is (omega arith) ∙ e)))
      alone none (suc n) same = s.prefix_is ∙ t.left_alone none (omega arith)
