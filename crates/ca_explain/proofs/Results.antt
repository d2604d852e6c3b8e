-- The results that a specification gives the first objects of a table, and a batch of them.
use Rattle.std.proofs.Common.{◌≡◌, ℕ, ◌≤◌, true, false, List, [], ◌∷◌, ◌++◌, length, take, arith, refl, sym, ◌∙◌, ap, Option, None, Some, length-append}
use Rattle.std.specs.Prelude.{nat_le}
use Rattle.std.specs.Option.{option_map}
use Rattle.std.proofs.lemmas.Bool.Decides.{nat_tests}
use Rattle.std.proofs.lemmas.List.Elements.{filter_map-append}
use Rattle.ca_term.specs.Tree.{Tree}
use Rattle.ca_term.specs.Object.{key_of}
use Rattle.ca_match.specs.Match.{chosen, result_of}
use Rattle.ca_ets.specs.Command.{At, AtEnd, Results, End}
use Rattle.ca_ets.specs.Step.{keyed_results, results_in, last_found, step_of_results, with_map}

module _ (p : ℕ) (s : Tree) where
  -- Results of more objects stand behind those of the first ones.
  pub keyed_append : (xs ys : List Tree) → keyed_results p s (xs ++ ys) ≡ keyed_results p s xs ++ keyed_results p s ys
  keyed_append xs ys = filter_map-append (λ o. option_map (λ t. (key_of p o, t)) (result_of s o)) xs ys

  -- The results without their keys.
  pub results_chosen : (t : List Tree) → results_in (keyed_results p s t) ≡ chosen s t
  results_chosen [] = refl
  results_chosen (o ∷ t) = by (result_of s o) refl (results_chosen t)
    where
      by : (r : Option Tree) → result_of s o ≡ r → results_in (keyed_results p s t) ≡ chosen s t
          → results_in (keyed_results p s (o ∷ t)) ≡ chosen s (o ∷ t)
      by None e rest = rw e rest
      by (Some r) e rest = rw e (ap (λ x. r ∷ x) rest)

  -- An object without a result.
  pub keyed_none : (o : Tree) → result_of s o ≡ None → keyed_results p s (o ∷ []) ≡ []
  keyed_none o e = rw e refl

  -- An object with a result.
  pub keyed_some : (o r : Tree) → result_of s o ≡ Some r → keyed_results p s (o ∷ []) ≡ (key_of p o, r) ∷ []
  keyed_some o r e = rw e refl

-- The last of several.
pub last_append : (xs : List (Tree × Tree)) (x : Tree × Tree) → last_found (xs ++ x ∷ []) ≡ x.0
last_append [] x = refl
last_append (y ∷ []) x = refl
last_append (y ∷ z ∷ xs) x = last_append (z ∷ xs) x

take_first : (xs ys : List (Tree × Tree)) → take (length xs) (xs ++ ys) ≡ xs
take_first [] ys = refl
take_first (x ∷ xs) ys = ap (λ (zs : List (Tree × Tree)). x ∷ zs) (take_first xs ys)

-- Where the first results are as many as were asked for, the batch has them, and goes on behind the last of them.
pub batch_full : (t : List Tree) (s : Tree) (limit : ℕ) (found more : List (Tree × Tree)) → length found ≡ limit
    → step_of_results t s limit (found ++ more) ≡ with_map t (At s limit (last_found found)) (Results (results_in found) true)
batch_full t s limit found more e =
    let enough : nat_le limit (length (found ++ more)) ≡ true = reaches limit (length (found ++ more)) (omega (arith, length-append found more, e)) in
    let first : take limit (found ++ more) ≡ found = ap (λ (n : ℕ). take n (found ++ more)) (sym e) ∙ take_first found more in
    rw (enough, first) refl
  where
    reaches : (a b : ℕ) → a ≤ b → nat_le a b ≡ true
    reaches a b l = grind (arith, nat_tests)

-- Where all results are fewer than were asked for, the batch has them, and is the last one.
pub batch_last : (t : List Tree) (s : Tree) (limit : ℕ) (found : List (Tree × Tree)) → nat_le limit (length found) ≡ false
    → (1 ≤ length found) → step_of_results t s limit found ≡ with_map t AtEnd (Results (results_in found) false)
batch_last t s limit [] e l = absurd (omega (arith, l))
batch_last t s limit (f ∷ found) e l = rw e refl

-- Where there are no results, the batch tells the end.
pub batch_none : (t : List Tree) (s : Tree) (limit : ℕ) (found : List (Tree × Tree)) → nat_le limit (length found) ≡ false → found ≡ []
    → step_of_results t s limit found ≡ with_map t AtEnd End
batch_none t s limit [] e l = rw e refl
batch_none t s limit (f ∷ found) e l = let no : f ∷ found ≡ [] = l in cc
