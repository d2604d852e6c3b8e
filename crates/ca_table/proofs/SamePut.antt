-- An object put in its own place changes nothing.
use Rattle.std.proofs.Common.{◌≡◌, ℕ, zero, suc, ◌<◌, ◌+◌, Bool, true, false, List, [], ◌∷◌, ◌++◌, length, take, drop, get_or, arith, sym, ◌∙◌, ap, if◌then◌else◌}
use Rattle.std.specs.Ordering.{is_eq}
use Rattle.std.specs.declared.cmp.Ordering.TheVariants.{Equal}
use Rattle.std.proofs.lemmas.Cmp.{tied_itself}
use Rattle.ca_term.specs.Tree.{Tree, Nil}
use Rattle.ca_term.specs.Order.{term_cmp}
use Rattle.ca_term.specs.Object.{key_of}
use Rattle.ca_term.proofs.TotalOrder.{term_cmp_total}
use Rattle.ca_ets.specs.OrderedMap.{get, put, IsTable}
use Rattle.ca_ets.proofs.Places.{found}

-- where an object stands
record StandsIn (t : List Tree) (o : Tree) : Type 0 where
  at : ℕ
  inside : at < length t
  is : get_or t at Nil ≡ o

place : (p : ℕ) (t : List Tree) (k o : Tree) (more : List Tree) → get p t k ≡ o ∷ more → StandsIn t o
place p [] k o more e = let no : [] ≡ o ∷ more = e in cc
place p (x ∷ t) k o more e = by (is_eq (term_cmp (key_of p x) k)) e (place p t k o more)
  where
    by : (b : Bool) → (if b then x ∷ get p t k else get p t k) ≡ o ∷ more → (get p t k ≡ o ∷ more → StandsIn t o) → StandsIn (x ∷ t) o
    by true e rest = let whole : x ∷ get p t k ≡ o ∷ more = e in let same : x ≡ o = cc in record { at = 0; inside = omega arith; is = same }
    by false e rest = let s = rest e in record { at = suc s.at; inside = omega (arith, s.inside); is = s.is }

split_same : (t : List Tree) (i : ℕ) (o : Tree) → i < length t → get_or t i Nil ≡ o → take i t ++ o ∷ drop (i + 1) t ≡ t
split_same [] i o h e = absurd (omega (arith, h))
split_same (x ∷ t) zero o h e = ap (λ (y : Tree). y ∷ t) (sym e)
split_same (x ∷ t) (suc i) o h e =
    let s : suc i + 1 ≡ suc (i + 1) = omega arith in
    rw s (ap (λ (ys : List Tree). x ∷ ys) (split_same t i o (omega (arith, h)) e))

-- A table with an object of its own put into it is the same.
pub put_same : (p : ℕ) (t : List Tree) (k o : Tree) (more : List Tree) → IsTable p t → get p t k ≡ o ∷ more → put p t o ≡ t
put_same p t k o more table e =
    let s = place p t k o more e in
    let key : term_cmp (key_of p (get_or t s.at Nil)) (key_of p o) ≡ Equal =
    ap (λ (x : Tree). term_cmp (key_of p x) (key_of p o)) s.is ∙ tied_itself term_cmp_total (key_of p o) in
    let there = found p t (key_of p o) s.at table s.inside key in
    (λ i. there.less i ++ o ∷ there.greater i) ∙ split_same t s.at o s.inside s.is
