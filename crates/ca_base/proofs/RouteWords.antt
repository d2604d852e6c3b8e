-- What the words of a route row spell once it was filled.
use Rattle.std.proofs.Common.{◌≡◌, ℕ, ◌+◌, ◌*◌, ◌/◌, ◌<◌, ◌≤◌, List, [], ◌∷◌, length, take, drop, get_or, sym, ap, ◌∙◌, subst, arith, length-drop}
use Rattle.std.proofs.lemmas.List.{get_or-drop}
use Rattle.ca_node.specs.Row.{bytes_in, count, route_key}
use Rattle.ca_node.specs.Told.{MyTree}
use Rattle.ca_base.specs.Splitting.{SpellsRoute}
use Rattle.ca_base.specs.Writing.{IsHeld, HasEight, IsFilled, HasFilled, HasWritten}
use Rattle.ca_base.proofs.Filling.{rewritten_again}
use Rattle.ca_base.proofs.Words.{packed}
use Rattle.ca_rows.specs.Layout.{row_words}
use Rattle.ca_node.specs.Layout.{key_word, count_limit}

-- The bytes of a key that were filled in from word 4 on are the key that a row has, by so many as its first word says.
pub key_spelled : (bytes one new : List ℕ) → length one ≡ row_words → length bytes ≤ 1000
    → IsFilled key_word ((length bytes + 7) / 8) (HasEight bytes) one new → count new ≡ length bytes → route_key new ≡ bytes
key_spelled bytes one new long short g many = ap (λ n. take n (bytes_in (drop key_word new))) many
    ∙ packed (drop key_word new) bytes ((length bytes + 7) / 8) (omega arith) (omega (arith, length-drop key_word new, g.long, long)) has_eight
  where
    has_eight : (k : ℕ) → k < (length bytes + 7) / 8 → HasEight bytes k (get_or (drop key_word new) k 0)
    has_eight k l = subst (HasEight bytes k) (sym (get_or-drop key_word new k 0)) (g.inside k l)

-- The first word, the links and the join word, and the key's bytes from word 11 on.
pub spells_route : (bytes : List ℕ) (at_level left right attempt form join : ℕ)
    (its one new : List ℕ) → length its ≡ row_words → at_level < count_limit
    → form ≡ 216172782113783808 + at_level * count_limit + length bytes → join ≡ attempt * 4
    → length bytes ≤ 1000
    → IsFilled 0 4 (λ k word. word ≡ get_or (form ∷ left ∷ right ∷ join ∷ []) k 0) its one
    → IsFilled key_word ((length bytes + 7) / 8) (HasEight bytes) one new
    → SpellsRoute at_level bytes left right attempt new
spells_route bytes at_level left right attempt form join its one new long low is joins short f g =
    record {
      long = wide;
      is_route = let h = first in omega arith;
      level_is = let h = first in omega arith;
      count_is = count_is;
      key_is = key_spelled bytes one new (f.long ∙ long) short g count_is;
      left_is = g.before 1 (omega arith) ∙ f.inside 1 (omega arith);
      right_is = g.before 2 (omega arith) ∙ f.inside 2 (omega arith);
      join_is = g.before 3 (omega arith) ∙ (f.inside 3 (omega arith) ∙ joins);
    }
  where
    first : get_or new 0 0 ≡ form
    first = g.before 0 (omega arith) ∙ f.inside 0 (omega arith)

    wide : length new ≡ row_words
    wide = g.long ∙ (f.long ∙ long)

    count_is : count new ≡ length bytes
    count_is = let h = first in omega arith

-- A row that was filled with a route's words is a route.
pub route_written : (row at_level left right attempt form join : ℕ) (bytes : List ℕ)
    (k m n : MyTree) → IsHeld k row → at_level < count_limit
    → form ≡ 216172782113783808 + at_level * count_limit + length bytes → join ≡ attempt * 4
    → length bytes ≤ 1000
    → HasFilled row 0 4 (λ i word. word ≡ get_or (form ∷ left ∷ right ∷ join ∷ []) i 0) k m
    → HasFilled row key_word ((length bytes + 7) / 8) (HasEight bytes) m n
    → HasWritten row (SpellsRoute at_level bytes left right attempt) k n
route_written row at_level left right attempt form join bytes k m n h low is joins short f g =
    let one = f h.0 h.1 h.2 in
    let two = g one.0 (one.1.long ∙ h.1) one.2.here in (
      two.0,
      spells_route bytes at_level left right attempt form join h.0 one.0 two.0 h.1 low is joins
          short one.1 two.1,
      rewritten_again row one.0 two.0 k m n one.2 two.2,
    )
