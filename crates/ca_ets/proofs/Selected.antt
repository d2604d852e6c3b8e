-- Results of the objects so far, and of all.
use Rattle.std.proofs.Common.{◌≡◌, ℕ, zero, suc, ◌+◌, ◌≤◌, ◌<◌, Bool, true, false, List, [], ◌∷◌, ◌++◌, length, take, drop, get_or, Option, Some, None, refl, ap, sym, subst, ◌∙◌, arith, length-append, nat_le, append-nil}
use Rattle.std.specs.Prelude.{filter, filter_map, is_some, nat_lt, option_map, ◌&&◌, if◌then◌else◌}
use Rattle.std.specs.Ordering.{is_le}
use Rattle.std.specs.List.{cons_option}
use Rattle.std.proofs.lemmas.Bool.Decides.{nat_tests}
use Rattle.std.proofs.lemmas.List.{take-append-drop, take_all}
use Rattle.ca_term.specs.Tree.{Tree}
use Rattle.ca_term.specs.Object.{key_of}
use Rattle.ca_term.specs.Order.{term_cmp}
use Rattle.ca_ets.specs.Command.{At, AtEnd, End, Results}
use Rattle.ca_match.specs.Match.{chosen, result_of}
use Rattle.ca_ets.specs.OrderedMap.{between}
use Rattle.ca_ets.specs.Selected.{HasFound}
use Rattle.ca_ets.specs.Step.{keyed_results, last_found, results_in, step_of_results, step_of_full_batch, step_of_last_batch, with_map}

module _ {X : Type 0} (f : Tree → Option X) where
  front_cons : (r : Option X) (xs ys : List X) → cons_option r (xs ++ ys) ≡ cons_option r xs ++ ys
  front_cons None xs ys = refl
  front_cons (Some x) xs ys = refl

  -- what two lists give stands one behind the other
  pub map_both : (os ps : List Tree) → filter_map f (os ++ ps) ≡ filter_map f os ++ filter_map f ps
  map_both [] ps = refl
  map_both (o ∷ os) ps = ap (cons_option (f o)) (map_both os ps) ∙ front_cons (f o) (filter_map f os) (filter_map f ps)

-- one more object stands behind those so far
one_more : (os : List Tree) (i : ℕ) (d : Tree) → i < length os → take (i + 1) os ≡ take i os ++ get_or os i d ∷ []
one_more [] i d h = absurd (omega arith)
one_more (o ∷ os) zero d h = refl
one_more (o ∷ os) (suc i) d h = let s : suc i + 1 ≡ suc (i + 1) = omega arith in rw s (ap (λ x. o ∷ x) (one_more os i d (omega arith)))

-- The results with one more object.
pub chosen_more : (s : Tree) (os : List Tree) (i : ℕ) (o : Tree) (ts us : List Tree) → i < length os → o ≡ get_or os i o → ts ≡ chosen s (take i os)
    → us ≡ ts ++ chosen s (o ∷ []) → us ≡ chosen s (take (i + 1) os)
chosen_more s os i o ts us h e t u =
    let one : take (i + 1) os ≡ take i os ++ o ∷ [] = one_more os i o h ∙ ap (λ x. take i os ++ x ∷ []) (sym e) in
    let both : chosen s (take (i + 1) os) ≡ chosen s (take i os) ++ chosen s (o ∷ []) =
    ap (chosen s) one ∙ map_both (result_of s) (take i os) (o ∷ []) in
    u ∙ ap (λ x. x ++ chosen s (o ∷ [])) t ∙ sym both

filter_both : (g : Tree → Bool) (os ps : List Tree) → filter g (os ++ ps) ≡ filter g os ++ filter g ps
filter_both g [] ps = refl
filter_both g (o ∷ os) ps = by (g o) (filter_both g os ps)
  where
    by : (b : Bool) → filter g (os ++ ps) ≡ filter g os ++ filter g ps
        → (if b then o ∷ filter g (os ++ ps) else filter g (os ++ ps)) ≡ (if b then o ∷ filter g os else filter g os) ++ filter g ps
    by true e = ap (λ x. o ∷ x) e
    by false e = e

-- The results between two keys with one more object.
pub between_more : (p : ℕ) (s : Tree) (os : List Tree) (lo hi : Tree) (i : ℕ) (o : Tree) (ts us : List Tree) → i < length os → o ≡ get_or os i o
    → ts ≡ chosen s (between p (take i os) lo hi) → us ≡ ts ++ chosen s (between p (o ∷ []) lo hi) → us ≡ chosen s (between p (take (i + 1) os) lo hi)
between_more p s os lo hi i o ts us h e t u =
    let one : take (i + 1) os ≡ take i os ++ o ∷ [] = one_more os i o h ∙ ap (λ x. take i os ++ x ∷ []) (sym e) in
    let all : chosen s (between p (take (i + 1) os) lo hi) ≡ chosen s (between p (take i os) lo hi) ++ chosen s (between p (o ∷ []) lo hi) =
    ap (λ x. chosen s (between p x lo hi)) one
    ∙ ap (chosen s) (filter_both (λ o. is_le (term_cmp lo (key_of p o)) && is_le (term_cmp (key_of p o) hi)) (take i os) (o ∷ []))
    ∙ map_both (result_of s) (between p (take i os) lo hi) (between p (o ∷ []) lo hi) in
    u ∙ ap (λ x. x ++ chosen s (between p (o ∷ []) lo hi)) t ∙ sym all

-- An object alone, between two keys or not.
pub is_between : (p : ℕ) (o lo hi : Tree) → true ≡ (is_le (term_cmp lo (key_of p o)) && is_le (term_cmp (key_of p o) hi)) → between p (o ∷ []) lo hi ≡ o ∷ []
is_between p o lo hi b = rw (← b) refl

pub is_not_between : (p : ℕ) (o lo hi : Tree) → false ≡ (is_le (term_cmp lo (key_of p o)) && is_le (term_cmp (key_of p o) hi)) → between p (o ∷ []) lo hi ≡ []
is_not_between p o lo hi b = rw (← b) refl

pub ruleset one_between = (is_between, is_not_between, append-nil)

-- results with one more object, and with all
pub ruleset selecting = (chosen_more, between_more, take_all)

-- ---- results with their keys

keyed_more : (p : ℕ) (s : Tree) (os : List Tree) (i : ℕ) (o : Tree) → i < length os → o ≡ get_or os i o
    → keyed_results p s (take (i + 1) os) ≡ keyed_results p s (take i os) ++ keyed_results p s (o ∷ [])
keyed_more p s os i o h e =
    let one : take (i + 1) os ≡ take i os ++ o ∷ [] = one_more os i o h ∙ ap (λ x. take i os ++ x ∷ []) (sym e) in
    ap (keyed_results p s) one ∙ map_both (λ o. option_map (λ t. (key_of p o, t)) (result_of s o)) (take i os) (o ∷ [])

results_both : (fs gs : List (Tree × Tree)) → results_in (fs ++ gs) ≡ results_in fs ++ results_in gs
results_both [] gs = refl
results_both (f ∷ fs) gs = ap (λ x. f.1 ∷ x) (results_both fs gs)

results_one : (p : ℕ) (s o : Tree) → results_in (keyed_results p s (o ∷ [])) ≡ chosen s (o ∷ [])
results_one p s o = by (result_of s o)
  where
    by : (r : Option Tree) → results_in (cons_option (option_map (λ t. (key_of p o, t)) r) []) ≡ cons_option r []
    by None = refl
    by (Some t) = refl

last_behind : (fs : List (Tree × Tree)) (f : Tree × Tree) → last_found (fs ++ f ∷ []) ≡ f.0
last_behind [] f = refl
last_behind (g ∷ []) f = refl
last_behind (g ∷ h ∷ fs) f = last_behind (h ∷ fs) f

module _ (p : ℕ) (s : Tree) (os : List Tree) (i : ℕ) (o : Tree) (h : i < length os) (e : o ≡ get_or os i o) where
  -- The results with one more object.
  pub found_more : (ts us : List Tree) → ts ≡ results_in (keyed_results p s (take i os)) → us ≡ ts ++ chosen s (o ∷ [])
      → us ≡ results_in (keyed_results p s (take (i + 1) os))
  found_more ts us t u =
      u ∙ ap (λ x. x ++ chosen s (o ∷ [])) t
      ∙ ap (λ x. results_in (keyed_results p s (take i os)) ++ x) (sym (results_one p s o))
      ∙ sym (results_both (keyed_results p s (take i os)) (keyed_results p s (o ∷ [])))
      ∙ ap results_in (sym (keyed_more p s os i o h e))

  -- The last of them is that of an object with a result.
  pub last_more : HasFound s o true → key_of p o ≡ last_found (keyed_results p s (take (i + 1) os))
  last_more r = by (result_of s o) refl r
    where
      by : (found : Option Tree) → result_of s o ≡ found → true ≡ is_some found → key_of p o ≡ last_found (keyed_results p s (take (i + 1) os))
      by None f r = cc
      by (Some t) f r =
          let one : keyed_results p s (o ∷ []) ≡ (key_of p o, t) ∷ [] = rw f refl in
          sym (ap last_found (keyed_more p s os i o h e ∙ ap (λ x. keyed_results p s (take i os) ++ x) one)
          ∙ last_behind (keyed_results p s (take i os)) (key_of p o, t))

  -- Without a result they stay.
  pub none_more : HasFound s o false → keyed_results p s (take (i + 1) os) ≡ keyed_results p s (take i os)
  none_more r = by (result_of s o) refl r
    where
      by : (found : Option Tree) → result_of s o ≡ found → false ≡ is_some found
          → keyed_results p s (take (i + 1) os) ≡ keyed_results p s (take i os)
      by None f r =
          let one : keyed_results p s (o ∷ []) ≡ [] = rw f refl in
          keyed_more p s os i o h e ∙ ap (λ x. keyed_results p s (take i os) ++ x) one ∙ append-nil (keyed_results p s (take i os))
      by (Some t) f r = cc

-- One more result, or none more.
pub one_longer : (s o : Tree) (ts us : List Tree) → HasFound s o true → us ≡ ts ++ chosen s (o ∷ []) → length us ≡ length ts + 1
one_longer s o ts us r u = by (result_of s o) refl r
  where
    by : (found : Option Tree) → result_of s o ≡ found → true ≡ is_some found → length us ≡ length ts + 1
    by None f r = cc
    by (Some t) f r = let one : chosen s (o ∷ []) ≡ t ∷ [] = rw f refl in ap length (u ∙ ap (λ x. ts ++ x) one) ∙ length-append ts (t ∷ [])

pub none_longer : (s o : Tree) (ts us : List Tree) → HasFound s o false → us ≡ ts ++ chosen s (o ∷ []) → us ≡ ts
none_longer s o ts us r u = by (result_of s o) refl r
  where
    by : (found : Option Tree) → result_of s o ≡ found → false ≡ is_some found → us ≡ ts
    by None f r = let one : chosen s (o ∷ []) ≡ [] = rw f refl in u ∙ ap (λ x. ts ++ x) one ∙ append-nil ts
    by (Some t) f r = cc

-- One result more, which is not as many as are asked for.
pub fewer_still : (a b n l : ℕ) → b ≡ a + 1 → a < n → l ≡ b → (l ≡ n → ⊥) → b < n
fewer_still a b n l more few e other = omega arith

pub some_longer : (a b : ℕ) → b ≡ a + 1 → true ≡ nat_lt 0 b
some_longer a b more = let some : nat_lt 0 b ≡ true = grind (arith, nat_tests) in sym some

length_results : (fs : List (Tree × Tree)) → length (results_in fs) ≡ length fs
length_results [] = refl
length_results (f ∷ fs) = ap suc (length_results fs)

take_front : {X : Type 0} (xs ys : List X) (n : ℕ) → length xs ≡ n → take n (xs ++ ys) ≡ xs
take_front [] ys zero e = refl
take_front [] ys (suc n) e = absurd (omega arith)
take_front (x ∷ xs) ys zero e = absurd (omega arith)
take_front (x ∷ xs) ys (suc n) e = ap (λ z. x ∷ z) (take_front xs ys n (omega arith))

-- As many results as are asked for, out of the objects so far, are the first of all.
pub enough : (p : ℕ) (s : Tree) (os : List Tree) (j n : ℕ) → length (results_in (keyed_results p s (take j os))) ≡ n
    → take n (keyed_results p s os) ≡ keyed_results p s (take j os)
enough p s os j n e =
    let whole : keyed_results p s os ≡ keyed_results p s (take j os) ++ keyed_results p s (drop j os) =
    ap (keyed_results p s) (sym (take-append-drop j os))
    ∙ map_both (λ o. option_map (λ t. (key_of p o, t)) (result_of s o)) (take j os) (drop j os) in
    ap (take n) whole ∙ take_front (keyed_results p s (take j os)) (keyed_results p s (drop j os)) n (sym (length_results (keyed_results p s (take j os))) ∙ e)

module _ (p : ℕ) (s : Tree) (os : List Tree) (i : ℕ) (o : Tree) (h : i < length os) (e : o ≡ get_or os i o) (ts us : List Tree) (n : ℕ)
    (t : ts ≡ results_in (keyed_results p s (take i os))) (u : us ≡ ts ++ chosen s (o ∷ [])) (l : length us ≡ n) where
  first_are : take n (keyed_results p s os) ≡ keyed_results p s (take (i + 1) os)
  first_are = enough p s os (i + 1) n (ap length (sym (found_more p s os i o h e ts us t u)) ∙ l)

  -- With this object's result there are as many as are asked for.
  pub full_results : us ≡ results_in (take n (keyed_results p s os))
  full_results = found_more p s os i o h e ts us t u ∙ ap results_in (sym first_are)

  pub full_last : HasFound s o true → key_of p o ≡ last_found (take n (keyed_results p s os))
  full_last r = last_more p s os i o h e r ∙ ap last_found (sym first_are)

-- Fewer results than are asked for are all.
pub too_few_found : (p : ℕ) (s : Tree) (os : List Tree) (j n : ℕ) → length os ≤ j → length (results_in (keyed_results p s (take j os))) < n
    → take n (keyed_results p s os) ≡ keyed_results p s (take j os)
too_few_found p s os j n l e =
    let all : take j os ≡ os = take_all j os l in
    let few : length (keyed_results p s (take j os)) < n = subst (λ m. m < n) (length_results (keyed_results p s (take j os))) e in
    let fewer : length (keyed_results p s os) < n = subst (λ x. length (keyed_results p s x) < n) all few in
    take_all n (keyed_results p s os) (omega arith) ∙ ap (keyed_results p s) (sym all)

-- ---- the batch of the first results

module _ (map : List Tree) (s : Tree) (limit : ℕ) (found : List (Tree × Tree)) where
  -- With no result it is at the end.
  pub batch_none : 1 ≤ limit → length (results_in (take limit found)) ≡ 0 → step_of_results map s limit found ≡ with_map map AtEnd End
  batch_none l e = by limit found l e
    where
      by : (n : ℕ) (fs : List (Tree × Tree)) → 1 ≤ n → length (results_in (take n fs)) ≡ 0
          → (if nat_le n (length fs) then step_of_full_batch map s n (take n fs) else step_of_last_batch map fs) ≡ with_map map AtEnd End
      by zero fs l e = absurd (omega arith)
      by (suc n) [] l e = let more : nat_le (suc n) 0 ≡ false = grind (arith, nat_tests) in rw more refl
      by (suc n) (f ∷ fs) l e = absurd (omega arith)

  -- With fewer results than were asked for they are the last ones.
  pub batch_last : (ts : List Tree) → ts ≡ results_in (take limit found) → 0 < length ts → length ts < limit
      → step_of_results map s limit found ≡ with_map map AtEnd (Results ts false)
  batch_last ts t some few =
      let short : length (take limit found) < limit = subst (λ m. m < limit) (ap length t ∙ length_results (take limit found)) few in
      let all : take limit found ≡ found = taken_short limit found short in
      let test : nat_le limit (length found) ≡ false = decides limit (length found) (subst (λ x. length x < limit) all short) in
      rw test (by found ts (t ∙ ap results_in all) some)
    where
      decides : (n m : ℕ) → m < n → nat_le n m ≡ false
      decides n m h = grind (arith, nat_tests)

      taken_short : (n : ℕ) (fs : List (Tree × Tree)) → length (take n fs) < n → take n fs ≡ fs
      taken_short zero fs h = absurd (omega arith)
      taken_short (suc n) [] h = refl
      taken_short (suc n) (f ∷ fs) h = ap (λ x. f ∷ x) (taken_short n fs (omega arith))

      by : (fs : List (Tree × Tree)) (ts : List Tree) → ts ≡ results_in fs → 0 < length ts → step_of_last_batch map fs ≡ with_map map AtEnd (Results ts false)
      by [] ts t some = let none : length ts ≡ 0 = ap length t in absurd (omega arith)
      by (f ∷ fs) ts t some = ap (λ x. with_map map AtEnd (Results x false)) (sym t)

  -- With as many results as were asked for it goes on behind the last one.
  pub batch_full : (ts : List Tree) (k : Tree) → ts ≡ results_in (take limit found) → k ≡ last_found (take limit found) → limit ≤ length ts
      → step_of_results map s limit found ≡ with_map map (At s limit k) (Results ts true)
  batch_full ts k t e full =
      let long : limit ≤ length (take limit found) = subst (λ m. limit ≤ m) (ap length t ∙ length_results (take limit found)) full in
      let test : nat_le limit (length found) ≡ true = decides limit (length found) (taken_long limit found long) in
      rw test (ap (λ x. with_map map (At s limit x) (Results (results_in (take limit found)) true)) (sym e)
      ∙ ap (λ x. with_map map (At s limit k) (Results x true)) (sym t))
    where
      decides : (n m : ℕ) → n ≤ m → nat_le n m ≡ true
      decides n m h = grind (arith, nat_tests)

      taken_long : (n : ℕ) (fs : List (Tree × Tree)) → n ≤ length (take n fs) → n ≤ length fs
      taken_long zero fs h = omega arith
      taken_long (suc n) [] h = absurd (omega arith)
      taken_long (suc n) (f ∷ fs) h = let less = taken_long n fs (omega arith) in omega arith

-- a batch's results with one more object, and its step
pub ruleset batching = (found_more, last_more, none_more, one_longer, none_longer, full_results, full_last, too_few_found, batch_none, batch_last, batch_full)
