-- Merges of clients' lists: one client's turns, and a further client's turns behind all others.
use Rattle.std.proofs.Common.{◌≡◌, ℕ, zero, suc, ◌==◌, Bool, true, false, List, [], ◌∷◌, ◌++◌, length, map, arith, refl, sym, ◌∙◌, ap, if◌then◌else◌, append-nil}
use Rattle.std.proofs.lemmas.Bool.Decides.{nat_tests}
use Rattle.std.specs.Prelude.{slice_index_or}
use Rattle.ca_ets.specs.Merge.{items_of, IsMerge, list_of_client}

-- a client's items as turns
abbrev pub turns_of : {A : Type 0} → ℕ → List A → List (ℕ × A)
turns_of n xs = map (λ x. (n, x)) xs

-- A number is itself.
pub itself : (n : ℕ) → (n == n) ≡ true
itself n = grind (arith, nat_tests)

same_number : (m n : ℕ) → (m == n) ≡ true → m ≡ n
same_number m n e = grind (arith, nat_tests)

suc_same : (m n : ℕ) → (suc m == suc n) ≡ (m == n)
suc_same m n = grind (arith, nat_tests)

-- The items of a merge that goes on with another one are those of both.
pub items-append : {A : Type 0} (n : ℕ) (xs ys : List (ℕ × A)) → items_of n (xs ++ ys) ≡ items_of n xs ++ items_of n ys
items-append n [] ys = refl
items-append n ((k, x) ∷ xs) ys = by (k == n) (items-append n xs ys)
  where
    by : (b : Bool) → items_of n (xs ++ ys) ≡ items_of n xs ++ items_of n ys
        → (if b then x ∷ items_of n (xs ++ ys) else items_of n (xs ++ ys)) ≡ (if b then x ∷ items_of n xs else items_of n xs) ++ items_of n ys
    by true e = ap (λ zs. x ∷ zs) e
    by false e = e

-- A client's turns hold its items, and no other client's.
pub items_of_turns : {A : Type 0} (k n : ℕ) (xs : List A) → items_of k (turns_of n xs) ≡ (if n == k then xs else [])
items_of_turns {A = A} k n [] = by (n == k)
  where
    by : (b : Bool) → ◌≡◌ {A = List A} [] (if b then [] else [])
    by true = refl
    by false = refl
items_of_turns k n (x ∷ xs) = by (n == k) (items_of_turns k n xs)
  where
    by : (b : Bool) → items_of k (turns_of n xs) ≡ (if b then xs else [])
        → (if b then x ∷ items_of k (turns_of n xs) else items_of k (turns_of n xs)) ≡ (if b then x ∷ xs else [])
    by true e = ap (λ ys. x ∷ ys) e
    by false e = e

-- A client's turns hold its items.
pub own_turns : {A : Type 0} (n : ℕ) (xs : List A) → items_of n (turns_of n xs) ≡ xs
own_turns n xs = items_of_turns n n xs ∙ rw (itself n) refl

-- A client without items has none behind the first turn.
pub none_behind : {A : Type 0} (k n : ℕ) (x : A) (merge : List (ℕ × A)) → items_of k ((n, x) ∷ merge) ≡ [] → items_of k merge ≡ []
none_behind k n x merge h = by (n == k) h
  where
    by : (b : Bool) → (if b then x ∷ items_of k merge else items_of k merge) ≡ [] → items_of k merge ≡ []
    by true g = cc
    by false g = g

-- A client without items does not have the first turn.
pub other_first : {A : Type 0} (k n : ℕ) (x : A) (merge : List (ℕ × A)) → items_of k ((n, x) ∷ merge) ≡ [] → (k == n) ≡ false
other_first k n x merge h = by (n == k) refl h
  where
    by : (b : Bool) → (n == k) ≡ b → (if b then x ∷ items_of k merge else items_of k merge) ≡ [] → (k == n) ≡ false
    by true e g = cc
    by false e g = grind (arith, nat_tests)

-- A merge in which no other client has a turn is one client's turns.
pub only_turns : {A : Type 0} (n : ℕ) (merge : List (ℕ × A)) → ((k : ℕ) → (k == n) ≡ false → items_of k merge ≡ []) → merge ≡ turns_of n (items_of n merge)
only_turns n [] h = refl
only_turns n ((k, x) ∷ merge) h = by (k == n) refl (only_turns n merge (λ j e. none_behind j k x merge (h j e)))
  where
    by : (b : Bool) → (k == n) ≡ b → merge ≡ turns_of n (items_of n merge) → (k, x) ∷ merge ≡ turns_of n (if b then x ∷ items_of n merge else items_of n merge)
    by true e r = let same : k ≡ n = same_number k n e in λ i. (same i, x) ∷ r i
    by false e r = let none : x ∷ items_of k merge ≡ [] = sym (rw (itself k) refl) ∙ h k e in cc

-- Where nobody has a turn there is none.
pub nobody : {A : Type 0} (merge : List (ℕ × A)) → ((n : ℕ) → items_of n merge ≡ []) → merge ≡ []
nobody merge h = only_turns 0 merge (λ k e. h k) ∙ ap (turns_of 0) (h 0)

-- The next client has no list yet.
pub nothing_there : {A : Type 0} (lists : List (List A)) → list_of_client lists (suc (length lists)) ≡ []
nothing_there [] = refl
nothing_there (l ∷ lists) = nothing_there lists

list_more : {A : Type 0} (lists : List (List A)) (x : List A) (k : ℕ)
    → slice_index_or (lists ++ x ∷ []) k [] ≡ slice_index_or lists k [] ++ (if length lists == k then x else [])
list_more [] x zero = refl
list_more [] x (suc k) = let other : (0 == suc k) ≡ false = grind (arith, nat_tests) in rw other refl
list_more (l ∷ lists) x zero = let other : (length (l ∷ lists) == 0) ≡ false = grind (arith, nat_tests) in rw other (sym (append-nil l))
list_more (l ∷ lists) x (suc k) = rw (suc_same (length lists) k) (list_more lists x k)

client_more : {A : Type 0} (lists : List (List A)) (x : List A) (k : ℕ)
    → list_of_client (lists ++ x ∷ []) k ≡ list_of_client lists k ++ (if suc (length lists) == k then x else [])
client_more lists x zero = let other : (suc (length lists) == 0) ≡ false = grind (arith, nat_tests) in rw other refl
client_more lists x (suc k) = rw (suc_same (length lists) k) (list_more lists x k)

-- A further client's turns behind a merge make a merge with its list.
pub merge_more : {A : Type 0} (lists : List (List A)) (merge : List (ℕ × A)) (x : List A) → IsMerge lists merge
    → IsMerge (lists ++ x ∷ []) (merge ++ turns_of (suc (length lists)) x)
merge_more lists merge x h k =
    let n = suc (length lists) in
    items-append k merge (turns_of n x) ∙ ap (λ ys. ys ++ items_of k (turns_of n x)) (h k)
    ∙ ap (λ ys. list_of_client lists k ++ ys) (items_of_turns k n x) ∙ sym (client_more lists x k)
