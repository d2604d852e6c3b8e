-- New bases are headed by their objects: halves of a base, a base that got an object, and one that
-- lacks one.
use Rattle.std.proofs.Common.{◌≡◌, ◌≢◌, ℕ, suc, ◌+◌, ◌-◌, ◌/◌, ◌^◌, ◌<◌, ◌≤◌, min, List, [], ◌∷◌, length, map, take, drop, get_or, Result, Ok, Err, sym, refl, ap, ◌∙◌, subst, ⊎_elim, arith, length-take, length-drop}
use Rattle.std.specs.List.{remove}
use Rattle.std.proofs.lemmas.Bool.{cases_lt}
use Rattle.std.proofs.lemmas.List.{take-take, take-map, drop-map, get_or-take, get_or-drop}
use Rattle.std.proofs.lemmas.List.Edits.{length-remove}
use mathlib.Core.Option.{some, some-injective, some-ne-none}
use lib.ListN.{get_elem?}
use Rattle.ca_node.specs.Links.{IsIn}
use Rattle.ca_node.specs.Row.{front_of, head_in, head_of, heads, item_words, items, key, prefix, prefix_length, row_in, IsHeaded}
use Rattle.ca_node.specs.TreeView.{Note}
use Rattle.ca_rows.specs.Layout.{row_limit, row_words}
use Rattle.ca_base.specs.Prefixes.{IsTrimmed, SpellsHalf, reheaded, worded}
use Rattle.ca_base.specs.Putting.{put_in}
use Rattle.ca_base.specs.Writing.{SpellsBase}
use Rattle.ca_base.proofs.Behind.{head_behind, reheaded_head, reheaded_row}
use Rattle.ca_base.proofs.Fronted.{prefix_long}
use Rattle.ca_base.proofs.HalfFronts.{worded_heads, worded_rows}
use Rattle.ca_base.proofs.Heads.{key_small}
use Rattle.ca_base.proofs.Inserting.{IsInRange, elem_or, length_put, map_put_in, put_both, put_length, within}
use Rattle.ca_base.proofs.Removed.{at_removed, map_removed, past}

-- The half of a base.
module _ (note : Note) (from count at_level : ℕ) (its : List ℕ)
    (h : SpellsHalf note from count at_level its)
    (as_many : length note.objects ≡ length (items note.its))
    (small : (r : ℕ) → IsIn r (items note.its) → r < row_limit)
    (inside : from + count ≤ length note.objects) (any : 0 < count) where
  abbrev words : List ℕ
  words = worded (length h.prefix) (items note.its) note.objects

  pub half_items : items its ≡ take count (drop from (items note.its))
  half_items = ap (map row_in) h.spells.words_are
      ∙ (sym (take-map row_in count (drop from words))
      ∙ (ap (take count) (sym (drop-map row_in from words))
      ∙ ap (λ (rs : List ℕ). take count (drop from rs))
      (worded_rows (length h.prefix) (items note.its) note.objects as_many small)))

  some_objects : List (List ℕ)
  some_objects = take count (drop from note.objects)

  half_heads : heads its ≡ map (head_of (length h.prefix)) (take count (drop from note.objects))
  half_heads = let head = head_of (length h.prefix) in ap (map head_in) h.spells.words_are
      ∙ (sym (take-map head_in count (drop from words))
      ∙ (ap (take count) (sym (drop-map head_in from words))
      ∙ (ap (λ (hs : List ℕ). take count (drop from hs))
      (worded_heads (length h.prefix) (items note.its) note.objects as_many small)
      ∙ (ap (take count) (drop-map head from note.objects)
      ∙ take-map head count (drop from note.objects)))))

  object_there : (k : ℕ) (object : List ℕ)
      → get_elem? (take count (drop from note.objects)) k ≡ some object
      → (k < count) × (object ≡ get_or note.objects (from + k) [])
  object_there k object e = let these : List (List ℕ) = take count (drop from note.objects) in
      let l = within these k object e in
      let low : k < count = omega (arith, length-take count (drop from note.objects)) in (
        low,
        some-injective object (get_or these k []) (sym e ∙ elem_or these k [] l)
            ∙ (get_or-take count (drop from note.objects) k [] low
            ∙ get_or-drop from note.objects k []),
      )

  pub half_headed : IsHeaded its (take count (drop from note.objects))
  half_headed = record {
    short = subst (λ (n : ℕ). n ≤ 32) (sym h.spells.length_is) h.short;
    zeros = λ i behind l. h.spells.zeros i (subst (λ (n : ℕ). n ≤ i) h.spells.length_is behind) l;
    bare = λ e. absurd (omega (
      arith,
      ap (λ (os : List (List ℕ)). length os) e,
      length-take count (drop from note.objects),
      length-drop from note.objects,
    ));
    begin = λ k object e. let t = object_there k object e in
        ap (λ (n : ℕ). take n (key object)) h.spells.length_is
        ∙ (ap (λ (o : List ℕ). take (length h.prefix) (key o)) t.1
        ∙ (h.begin (from + k) (omega arith) (let l = t.0 in omega arith) ∙ sym h.spells.prefix_is));
    headed = half_heads
        ∙ ap (λ (n : ℕ). map (head_of n) (take count (drop from note.objects))) (sym h.spells.length_is);
  }

-- One map after another, and maps that are the same at each object.
twice : (f : ℕ → ℕ) (g : List ℕ → ℕ) (objects : List (List ℕ))
    → map f (map g objects) ≡ map (λ o. f (g o)) objects
twice f g [] = refl
twice f g (o ∷ os) = ap (λ (xs : List ℕ). f (g o) ∷ xs) (twice f g os)

alike : (f g : List ℕ → ℕ) (objects : List (List ℕ))
    → ((k : ℕ) (o : List ℕ) → get_elem? objects k ≡ some o → f o ≡ g o)
    → map f objects ≡ map g objects
alike f g [] each = refl
alike f g (o ∷ os) each = ap (λ (x : ℕ). x ∷ map f os) (each 0 o refl)
    ∙ ap (λ (xs : List ℕ). g o ∷ xs) (alike f g os (λ k p e. each (suc k) p e))

-- Words with shifted heads name the same rows.
pub rows_same : (lead bytes : ℕ) (words : List ℕ)
    → map row_in (map (reheaded lead bytes) words) ≡ map row_in words
rows_same lead bytes [] = refl
rows_same lead bytes (w ∷ ws) =
    ap (λ (x : ℕ). x ∷ map row_in (map (reheaded lead bytes) ws)) (reheaded_row lead bytes w)
    ∙ ap (λ (xs : List ℕ). row_in w ∷ xs) (rows_same lead bytes ws)

heads_shifted : (lead bytes : ℕ) (words : List ℕ)
    → map head_in (map (reheaded lead bytes) words)
    ≡ map (λ (h : ℕ). lead + h / 256 ^ bytes) (map head_in words)
heads_shifted lead bytes [] = refl
heads_shifted lead bytes (w ∷ ws) =
    ap (λ (x : ℕ). x ∷ map head_in (map (reheaded lead bytes) ws)) (reheaded_head lead bytes w)
    ∙ ap (λ (xs : List ℕ). (lead + head_in w / 256 ^ bytes) ∷ xs) (heads_shifted lead bytes ws)

-- A base that has its prefix trimmed by a key.
module _ (its : List ℕ) (objects : List (List ℕ)) (old : IsHeaded its objects)
    (long : length its ≡ row_words) (new front : List ℕ) (lead bytes : ℕ)
    (t : IsTrimmed (prefix its) new front lead bytes) where
  old_long : length (prefix its) ≡ prefix_length its
  old_long = prefix_long its long old.short

  within_old : length front ≤ length (prefix its)
  within_old = t.shared.within

  -- The keys begin with what is left of it.
  pub begins : (k : ℕ) (o : List ℕ) → get_elem? objects k ≡ some o
      → take (length front) (key o) ≡ front
  begins k o e = let l = within_old in let same = old_long in
      sym (take-take (length front) (prefix_length its) (key o) (omega arith))
      ∙ (ap (take (length front)) (old.begin k o e) ∙ sym t.new_is)

  new_begins : take (length front) new ≡ front
  new_begins = sym t.shared.alike ∙ sym t.new_is

  -- The heads are those behind that.
  pub trimmed_heads : map head_in (map (reheaded lead bytes) (item_words its))
      ≡ map (head_of (length front)) objects
  trimmed_heads = let shift = λ (h : ℕ). lead + h / 256 ^ bytes in
      heads_shifted lead bytes (item_words its) ∙ (ap (map shift) old.headed
      ∙ (twice shift (head_of (prefix_length its)) objects
      ∙ alike (λ o. lead + head_of (prefix_length its) o / 256 ^ bytes) (head_of (length front))
      objects (λ k o e.
      let begins_old : take (length (prefix its)) (key o) ≡ prefix its =
      ap (λ (n : ℕ). take n (key o)) old_long ∙ old.begin k o e in
      ap (λ (x : ℕ × ℕ). x.0 + head_of (prefix_length its) o / 256 ^ x.1)
      (λ i. (t.lead_is i, t.bytes_are i))
      ∙ (ap (λ (n : ℕ). front_of 5 (drop (length front) (prefix its))
      + front_of 5 (drop n (key o)) / 256 ^ min (length (prefix its) - length front) 5) (sym old_long)
      ∙ sym (head_behind (prefix its) (key o) (length front) within_old begins_old
      (λ i. key_small i o))))))

  -- With an object put, whose key is that one, it is headed.
  pub put_headed : (place : Result ℕ ℕ) (word at_level statistic : ℕ) (a b : List ℕ) → new ≡ key a
      → SpellsBase front (put_in (map (reheaded lead bytes) (item_words its)) place word) at_level
      statistic b
      → head_in word ≡ head_of (length front) a → IsInRange place (length objects)
      → IsHeaded b (put_in objects place a)
  put_headed place word at_level statistic a b is s head range = record {
    short = let l = within_old in let m = old_long in let few = old.short in
        omega (arith, s.length_is);
    zeros = λ i behind l. s.zeros i (subst (λ (n : ℕ). n ≤ i) s.length_is behind) l;
    bare = λ e. absurd (some_more place (length objects) range (sym (length_put place objects a range)
        ∙ ap (λ (os : List (List ℕ)). length os) e));
    begin = λ k o e. ap (λ (n : ℕ). take n (key o)) s.length_is ∙ (⊎_elim
        (λ (x : (a ≡ o) × (a ≡ o)). ap (λ (q : List ℕ). take (length front) (key q)) (sym x.0)
        ∙ (ap (take (length front)) (sym is) ∙ new_begins))
        (λ (x : (i : ℕ) × (get_elem? objects i ≡ some o) × (get_elem? objects i ≡ some o)).
        begins x.0 o x.1)
        (put_both place objects objects k a o a o refl range e e) ∙ sym s.prefix_is);
    headed = ap (map head_in) s.words_are
        ∙ (map_put_in place head_in (map (reheaded lead bytes) (item_words its)) word
        ∙ (ap (λ (hs : List ℕ). put_in hs place (head_in word)) trimmed_heads
        ∙ (ap (put_in (map (head_of (length front)) objects) place) head
        ∙ (sym (map_put_in place (head_of (length front)) objects a)
        ∙ ap (λ (n : ℕ). map (head_of n) (put_in objects place a)) (sym s.length_is)))));
  }
    where
      some_more : (place : Result ℕ ℕ) (n : ℕ) → IsInRange place n → put_length place n ≢ 0
      some_more (Ok at) n l e = omega arith
      some_more (Err at) n l e = omega arith

-- A base without one of its objects keeps its prefix, but for the last object.
pub left_headed : (its : List ℕ) (objects : List (List ℕ)) (front : List ℕ)
    (at at_level statistic : ℕ) (b : List ℕ) → IsHeaded its objects → length its ≡ row_words
    → at < length objects → length (item_words its) ≡ length objects
    → (1 < length objects → front ≡ prefix its) → (length objects ≤ 1 → front ≡ [])
    → SpellsBase front (remove (item_words its) at) at_level statistic b
    → IsHeaded b (remove objects at)
left_headed its objects front at at_level statistic b old long l many kept none s = ⊎_elim
    (λ (more : 1 < length objects).
    let same : prefix_length b ≡ prefix_length its = s.length_is
    ∙ (ap (λ (xs : List ℕ). length xs) (kept more) ∙ prefix_long its long old.short) in record {
      short = subst (λ (n : ℕ). n ≤ 32) (sym same) old.short;
      zeros = λ i behind m. s.zeros i (subst (λ (n : ℕ). n ≤ i) s.length_is behind) m;
      bare = λ e. absurd (omega (
        arith,
        ap (λ (os : List (List ℕ)). length os) e,
        length-remove objects at l,
      ));
      begin = λ k o e. ap (λ (n : ℕ). take n (key o)) same
          ∙ (old.begin (past at k) o (sym (at_removed objects at k) ∙ e)
          ∙ sym (s.prefix_is ∙ kept more));
      headed = ap (map head_in) s.words_are ∙ (map_removed head_in (item_words its) at
          ∙ (ap (λ (hs : List ℕ). remove hs at) old.headed
          ∙ (sym (map_removed (head_of (prefix_length its)) objects at)
          ∙ ap (λ (n : ℕ). map (head_of n) (remove objects at)) (sym same))));
    })
    (λ (one : length objects ≤ 1).
    let bare : prefix_length b ≡ 0 = s.length_is ∙ ap (λ (xs : List ℕ). length xs) (none one) in
    let gone : remove objects at ≡ [] = nothing (remove objects at) (omega (arith, length-remove objects at l)) in
    let words : remove (item_words its) at ≡ [] = nothing (remove (item_words its) at) (omega (
      arith,
      length-remove (item_words its) at (omega arith),
    )) in
    subst (IsHeaded b) (sym gone) record {
      short = omega arith;
      zeros = λ i behind m. s.zeros i (subst (λ (n : ℕ). n ≤ i) s.length_is behind) m;
      bare = λ _. bare;
      begin = λ k o e. absurd (some-ne-none o (sym e));
      headed = ap (map head_in) (s.words_are ∙ words);
    })
    (cases_lt 1 (length objects))
  where
    nothing : {A : Type 0} (xs : List A) → length xs ≡ 0 → xs ≡ []
    nothing [] e = refl
    nothing (x ∷ xs) e = absurd (omega arith)
