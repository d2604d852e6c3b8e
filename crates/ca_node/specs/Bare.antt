-- A base without a prefix.
use Rattle.std.proofs.Common.{◌≡◌, ℕ, zero, suc, ◌+◌, ◌/◌, ◌%◌, ◌<◌, List, [], ◌∷◌, ◌++◌, map, take, drop, get_or, sym, refl, ap, ◌∙◌, subst, arith}
use Rattle.std.proofs.lemmas.List.{get_or-take, get_or-drop, length-take}
use Rattle.std.proofs.Math.ListN.{get_or-eq_default}
use Rattle.std.specs.Int.{to_be_bytes, w64}
use mathlib.Core.Option.{some-ne-none}
use Rattle.ca_node.specs.Row.{bytes_in, head_in, item_words, prefix_words, IsHeaded}
use Rattle.ca_node.specs.Layout.{prefix_word, items_word, count_limit}

eight_zeros : (xs : List ℕ) → ((i : ℕ) → get_or xs i 0 ≡ 0) → (i : ℕ) → get_or (to_be_bytes w64 0 ++ xs) i 0 ≡ 0
eight_zeros xs are zero = refl
eight_zeros xs are (suc zero) = refl
eight_zeros xs are (suc (suc zero)) = refl
eight_zeros xs are (suc (suc (suc zero))) = refl
eight_zeros xs are (suc (suc (suc (suc zero)))) = refl
eight_zeros xs are (suc (suc (suc (suc (suc zero))))) = refl
eight_zeros xs are (suc (suc (suc (suc (suc (suc zero)))))) = refl
eight_zeros xs are (suc (suc (suc (suc (suc (suc (suc zero))))))) = refl
eight_zeros xs are (suc (suc (suc (suc (suc (suc (suc (suc i)))))))) = are i

-- The bytes of words that are 0 are.
zero_bytes : (words : List ℕ) → ((k : ℕ) → get_or words k 0 ≡ 0) → (i : ℕ) → get_or (bytes_in words) i 0 ≡ 0
zero_bytes [] are i = refl
zero_bytes (word ∷ words) are i = subst (λ (w : ℕ). get_or (to_be_bytes w64 w ++ bytes_in words) i 0 ≡ 0) (sym (are 0))
    (eight_zeros (bytes_in words) (zero_bytes words (λ k. are (suc k))) i)

-- A base without items whose words for a prefix are 0 is headed.
module _ (its : List ℕ) (first : get_or its 0 0 ≡ 144115188075855872) (seven : get_or its 7 0 ≡ 0) (eight : get_or its 8 0 ≡ 0)
    (nine : get_or its 9 0 ≡ 0) (ten : get_or its 10 0 ≡ 0) where
  at : (k : ℕ) → k < 4 → get_or its (prefix_word + k) 0 ≡ 0 → get_or (prefix_words its) k 0 ≡ 0
  at k l is = get_or-take 4 (drop prefix_word its) k 0 l ∙ (get_or-drop prefix_word its k 0 ∙ is)

  words_are : (k : ℕ) → get_or (prefix_words its) k 0 ≡ 0
  words_are zero = at 0 (omega arith) seven
  words_are (suc zero) = at 1 (omega arith) eight
  words_are (suc (suc zero)) = at 2 (omega arith) nine
  words_are (suc (suc (suc zero))) = at 3 (omega arith) ten
  words_are (suc (suc (suc (suc k)))) =
      get_or-eq_default (prefix_words its) 0 (omega (arith, length-take 4 (drop prefix_word its)))

  no_words : item_words its ≡ []
  no_words = ap (λ n. take (n % count_limit) (drop items_word its)) first

  pub bare_headed : IsHeaded its []
  bare_headed = record {
    short = omega (arith, first);
    zeros = λ i _ _. zero_bytes (prefix_words its) words_are i;
    bare = λ _. ap (λ n. n / 4294967296 % 16777216) first;
    begin = λ k object e. absurd (some-ne-none object (sym e));
    headed = ap (map head_in) no_words;
  }
