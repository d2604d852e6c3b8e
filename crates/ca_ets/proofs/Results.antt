-- The results of batches: their keys fit, and what a batch asks for is a specification and at least one result.
use Rattle.std.proofs.Common.{◌≡◌, ℕ, zero, suc, ◌≤◌, pos, negsuc, Bool, true, false, List, [], ◌∷◌, take, Option, None, Some, refl, arith, nat_le}
use Rattle.std.specs.Prelude.{option_map, if◌then◌else◌}
use Rattle.std.specs.List.{cons_option}
use Rattle.std.proofs.lemmas.Bool.Decides.{nat_tests}
use Rattle.ca_term.specs.Tree.{Tree, Integer, Atom, Tuple, Nil, Cons, Binary}
use Rattle.ca_term.specs.Object.{key_of, fits}
use Rattle.ca_ets.specs.declared.command.Fault.TheVariants.{BadArg}
use Rattle.ca_match.specs.Match.{result_of}
use Rattle.ca_ets.specs.OrderedMap.{IsTable}
use Rattle.ca_match.specs.Specification.{Reason, IsSpecification, first_fault}
use Rattle.ca_ets.specs.Step.{fault_of_specification, keyed_results, last_found, limit_of}
use Rattle.ca_ets.proofs.Keys.{key_fits, nil_fits}

-- What is not refused is a specification.
pub specification_is : (s : Tree) → fault_of_specification s ≡ None → IsSpecification s
specification_is s n = by (first_fault s) refl n
  where
    by : (f : Option (ℕ × Reason)) → first_fault s ≡ f → option_map (λ fault. BadArg) f ≡ None → IsSpecification s
    by None e n = e
    by (Some fault) e n = cc

-- A batch asks for at least one result.
pub limit_from : (n : Tree) (limit : ℕ) → limit_of n ≡ Some limit → 1 ≤ limit
limit_from (Integer (pos n)) limit e = by (nat_le 1 n) refl e
  where
    by : (b : Bool) → nat_le 1 n ≡ b → (if b then Some n else None) ≡ Some limit → 1 ≤ limit
    by true l e = let same : n ≡ limit = cc in grind (arith, nat_tests)
    by false l e = cc
limit_from (Integer (negsuc n)) limit e = cc
limit_from (Atom text) limit e = cc
limit_from (Tuple row) limit e = cc
limit_from Nil limit e = cc
limit_from (Cons head tail) limit e = cc
limit_from (Binary bytes) limit e = cc

-- The keys of these results fit.
abbrev pub KeysFit : List (Tree × Tree) → Type 0
KeysFit [] = Unit {0}
KeysFit (f ∷ found) = (fits f.0 ≡ true) × KeysFit found

keys_fit : (p : ℕ) (s : Tree) (objects : List Tree) → IsTable p objects → KeysFit (keyed_results p s objects)
keys_fit p s [] t = tt
keys_fit p s (o ∷ objects) t = by (result_of s o) (keys_fit p s objects t.2)
  where
    by : (r : Option Tree) → KeysFit (keyed_results p s objects) → KeysFit (cons_option (option_map (λ t. (key_of p o, t)) r) (keyed_results p s objects))
    by None others = others
    by (Some r) others = (key_fits p o t.0.fitting, others)

last_fits : (found : List (Tree × Tree)) (n : ℕ) → KeysFit found → fits (last_found (take n found)) ≡ true
last_fits found zero f = nil_fits
last_fits [] (suc n) f = nil_fits
last_fits (f ∷ []) (suc zero) k = k.0
last_fits (f ∷ []) (suc (suc n)) k = k.0
last_fits (f ∷ g ∷ found) (suc zero) k = k.0
last_fits (f ∷ g ∷ found) (suc (suc n)) k = last_fits (g ∷ found) (suc n) k.1

-- The key of the last of the first results fits.
pub results_fit : (p : ℕ) (s : Tree) (objects : List Tree) → IsTable p objects → (n : ℕ) → fits (last_found (take n (keyed_results p s objects))) ≡ true
results_fit p s objects t n = last_fits (keyed_results p s objects) n (keys_fit p s objects t)
