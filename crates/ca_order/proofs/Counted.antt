-- Operations on counters, one after another.
use Rattle.std.proofs.Common.{◌≡◌, ℕ, zero, suc, ◌≤◌, ◌<◌, ◌+◌, Bool, true, false, List, [], ◌∷◌, ◌++◌, length, drop, map, set, get_or, arith, refl, sym, ◌∙◌, ap, subst, append_assoc, append-nil, ◌⊎◌, inl, inr, ⊎_elim, ℤ, Option, Some, None, Ok, Err}
use Rattle.std.specs.Prelude.{Result, if◌then◌else◌, ok_or}
use Rattle.std.proofs.lemmas.List.{drop_all, length-map}
use Rattle.ca_term.specs.Tree.{Tree, Integer, Atom, Tuple, Nil, Cons, Binary}
use Rattle.ca_term.specs.Updates.{ElementFault, BadArgument, OutOfRange, Addition, integer_of, is_word, value_of, count, count_at, count_with, counter_place, counts, with_value, and_then}
use Rattle.ca_order.specs.declared.patched.Patched.{Patched}
use Rattle.ca_term.specs.declared.add.Add.{Add}
use Rattle.ca_term.specs.Add.{addition_of}
use Rattle.ca_term.proofs.Sums.{next_add}
use Rattle.ca_order.specs.Patches.{IsCount, answer_of_fault, with_number, with_numbers}

-- ---- elements, some of which are other integers

abbrev AreRenewed : List Tree → List Tree → Type 0
AreRenewed [] [] = Unit {0}
AreRenewed [] (u ∷ us) = ⊥
AreRenewed (t ∷ ts) [] = ⊥
AreRenewed (t ∷ ts) (u ∷ us) = ((u ≡ t) ⊎ ((n : ℤ) × (u ≡ Integer n))) × AreRenewed ts us

renewed_self : (items : List Tree) → AreRenewed items items
renewed_self [] = tt
renewed_self (t ∷ ts) = (inl refl, renewed_self ts)

renewed_set : (items left : List Tree) (at : ℕ) (v : ℤ) → AreRenewed items left → AreRenewed items (set left at (Integer v))
renewed_set [] [] at v h = h
renewed_set [] (u ∷ us) at v h = absurd h
renewed_set (t ∷ ts) [] at v h = absurd h
renewed_set (t ∷ ts) (u ∷ us) zero v h = (inr (v, refl), h.1)
renewed_set (t ∷ ts) (u ∷ us) (suc at) v h = (h.0, renewed_set ts us at v h.1)

renewed_many : (items left : List Tree) → AreRenewed items left → length left ≡ length items
renewed_many [] [] h = refl
renewed_many [] (u ∷ us) h = absurd h
renewed_many (t ∷ ts) [] h = absurd h
renewed_many (t ∷ ts) (u ∷ us) h = omega (arith, renewed_many ts us h.1)

own_number : (t : Tree) → with_number t (integer_of t) ≡ t
own_number (Integer n) = refl
own_number (Atom text) = refl
own_number (Tuple row) = refl
own_number Nil = refl
own_number (Cons head tail) = refl
own_number (Binary bytes) = refl

one_number : (t u : Tree) → (u ≡ t) ⊎ ((n : ℤ) × (u ≡ Integer n)) → with_number t (integer_of u) ≡ u
one_number t u h =
    ⊎_elim (λ e. ap (λ x. with_number t (integer_of x)) e ∙ own_number t ∙ sym e) (λ k. ap (λ x. with_number t (integer_of x)) k.1 ∙ sym k.1) h

numbers_renewed : (items left : List Tree) → AreRenewed items left → with_numbers items (map integer_of left) ≡ left
numbers_renewed [] [] h = refl
numbers_renewed [] (u ∷ us) h = absurd h
numbers_renewed (t ∷ ts) [] h = absurd h
numbers_renewed (t ∷ ts) (u ∷ us) h = λ i. one_number t u h.0 i ∷ numbers_renewed ts us h.1 i

-- an operation leaves such elements
abbrev LeavesRenewed : List Tree → Result (List Tree × ℤ) ElementFault → Type 0
LeavesRenewed items (Ok left) = AreRenewed items left.0
LeavesRenewed items (Err fault) = Unit {0}

module _ (items left : List Tree) (a : Addition) (h : AreRenewed items left) where
  by_word : (at : ℕ) (v : ℤ) (b : Bool) → LeavesRenewed items (if b then Ok (set left at (Integer v), v) else Err OutOfRange)
  by_word at v true = renewed_set items left at v h
  by_word at v false = tt

  by_number : (at : ℕ) (o : Option ℤ) → LeavesRenewed items (and_then (ok_or o BadArgument) (λ n. count_with left at (value_of a n)))
  by_number at None = tt
  by_number at (Some n) = by_word at (value_of a n) (is_word (value_of a n))

  by_place : (o : Option ℕ) → LeavesRenewed items (and_then (ok_or o BadArgument) (count_at left a))
  by_place None = tt
  by_place (Some at) = by_number at (integer_of (get_or left at Nil))

  leaves_renewed : (keypos : ℕ) → LeavesRenewed items (count keypos left a)
  leaves_renewed keypos = by_place (counter_place keypos (length left) a.position)

-- ---- the operations so far

abbrev behind : List ℤ → Result (List Tree × List ℤ) ElementFault → Result (List Tree × List ℤ) ElementFault
behind values (Ok left) = Ok (left.0, values ++ left.1)
behind values (Err fault) = Err fault

-- what further operations give behind one
abbrev after_one : ℤ → Result (List Tree × List ℤ) ElementFault → Result (List Tree × List ℤ) ElementFault
after_one v r = and_then r (λ further. Ok (with_value v further))

-- an operation and further ones
abbrev after_count : ℕ → List Addition → List Tree × ℤ → Result (List Tree × List ℤ) ElementFault
after_count keypos further first = after_one first.1 (counts keypos first.0 further)

-- The operations so far stored these values and left these numbers, and with the further ones they come to what all come to.
pub record IsCounting (keypos : ℕ) (items : List Tree) (all : List Addition) (numbers : List (Option ℤ)) (values : List ℤ) (further : List Addition) : Type 0
  where
    pub left : List Tree
    pub numbers_are : numbers ≡ map integer_of left
    pub renewed : AreRenewed items left
    pub all_is : counts keypos items all ≡ behind values (counts keypos left further)

behind_none : (r : Result (List Tree × List ℤ) ElementFault) → r ≡ behind [] r
behind_none (Ok left) = refl
behind_none (Err fault) = refl

behind_one : (values : List ℤ) (v : ℤ) (r : Result (List Tree × List ℤ) ElementFault) → behind values (after_one v r) ≡ behind (values ++ v ∷ []) r
behind_one values v (Ok left) = ap (λ x. Ok (left.0, x)) (sym (append_assoc values (v ∷ []) left.1))
behind_one values v (Err fault) = refl

-- At first no operation is done.
pub counting_none : (keypos : ℕ) (items : List Tree) (all : List Addition) (numbers : List (Option ℤ)) → numbers ≡ map integer_of items
    → IsCounting keypos items all numbers [] all
counting_none keypos items all numbers e =
    record { left = items; numbers_are = e; renewed = renewed_self items; all_is = behind_none (counts keypos items all) }

-- what is answered where an operation fails
pub record IsStopped (keypos : ℕ) (items : List Tree) (all : List Addition) (answer : Patched) : Type 0 where
  pub fault : ElementFault
  pub all_is : counts keypos items all ≡ Err fault
  pub answer_is : answer ≡ answer_of_fault fault

module _ (keypos : ℕ) (items : List Tree) (all : List Addition) (numbers : List (Option ℤ)) (values : List ℤ) (a : Addition) (further : List Addition)
    (k : IsCounting keypos items all numbers values (a ∷ further)) where
  go_on : (v : ℤ) (new : List (Option ℤ)) (r : Result (List Tree × ℤ) ElementFault) → LeavesRenewed items r → IsCount r (Ok v) new
      → counts keypos items all ≡ behind values (and_then r (after_count keypos further)) → IsCounting keypos items all new (values ++ v ∷ []) further
  go_on v new (Ok left) h d e = record {
    left = left.0;
    numbers_are = d.1;
    renewed = h;
    all_is = e ∙ behind_one values left.1 (counts keypos left.0 further) ∙ ap (λ x. behind (values ++ x ∷ []) (counts keypos left.0 further)) (sym d.0);
  }
  go_on v new (Err fault) h d e = absurd d

  counting_more : (v : ℤ) (new : List (Option ℤ)) → IsCount (count keypos k.left a) (Ok v) new → IsCounting keypos items all new (values ++ v ∷ []) further
  counting_more v new d = go_on v new (count keypos k.left a) (leaves_renewed items k.left a k.renewed keypos) d k.all_is

  stop : (answer : Patched) (new : List (Option ℤ)) (r : Result (List Tree × ℤ) ElementFault) → IsCount r (Err answer) new
      → counts keypos items all ≡ behind values (and_then r (after_count keypos further)) → IsStopped keypos items all answer
  stop answer new (Ok left) d e = absurd d
  stop answer new (Err fault) d e = record { fault = fault; all_is = e; answer_is = d }

  counting_stops : (answer : Patched) (new : List (Option ℤ)) → IsCount (count keypos k.left a) (Err answer) new → IsStopped keypos items all answer
  counting_stops answer new d = stop answer new (count keypos k.left a) d k.all_is

module _ (keypos : ℕ) (items : List Tree) (all : List Addition) (numbers : List (Option ℤ)) (values : List ℤ)
    (k : IsCounting keypos items all numbers values []) where
  -- In the end all operations pass, and leave elements with these numbers.
  pub counts_are : counts keypos items all ≡ Ok (with_numbers items numbers, values)
  counts_are =
      let left : k.left ≡ with_numbers items numbers = sym (numbers_renewed items k.left k.renewed) ∙ ap (with_numbers items) (sym k.numbers_are) in
      k.all_is ∙ (λ i. Ok (left i, append-nil values i))

-- There are as many numbers as elements.
pub counting_many : (keypos : ℕ) (items : List Tree) (all : List Addition) (numbers : List (Option ℤ)) (values : List ℤ) (further : List Addition)
    → IsCounting keypos items all numbers values further → length numbers ≡ length items
counting_many keypos items all numbers values further k =
    ap length k.numbers_are ∙ length-map k.left integer_of ∙ renewed_many items k.left k.renewed

-- ---- at an operation's place

module _ (keypos : ℕ) (items : List Tree) (adds : List Add) (numbers : List (Option ℤ)) (values : List ℤ) (i : ℕ) (d : Add) (h : i < length adds)
    (k : IsCounting keypos items (map addition_of adds) numbers values (map addition_of (drop i adds))) where
  here : IsCounting keypos items (map addition_of adds) numbers values (addition_of (get_or adds i d) ∷ map addition_of (drop (i + 1) adds))
  here = subst (λ (x : List Addition). IsCounting keypos items (map addition_of adds) numbers values x) (next_add adds i d h) k

  -- One more operation passes.
  pub more_at : (v : ℤ) (new : List (Option ℤ))
      → ((left : List Tree) → numbers ≡ map integer_of left → IsCount (count keypos left (addition_of (get_or adds i d))) (Ok v) new)
      → IsCounting keypos items (map addition_of adds) new (values ++ v ∷ []) (map addition_of (drop (i + 1) adds))
  more_at v new f =
      counting_more keypos items (map addition_of adds) numbers values (addition_of (get_or adds i d)) (map addition_of (drop (i + 1) adds)) here v new
      (f here.left here.numbers_are)

  -- An operation fails.
  pub stops_at : (answer : Patched) (new : List (Option ℤ))
      → ((left : List Tree) → numbers ≡ map integer_of left → IsCount (count keypos left (addition_of (get_or adds i d))) (Err answer) new)
      → IsStopped keypos items (map addition_of adds) answer
  stops_at answer new f =
      counting_stops keypos items (map addition_of adds) numbers values (addition_of (get_or adds i d)) (map addition_of (drop (i + 1) adds)) here answer new
      (f here.left here.numbers_are)

-- Behind the last operation none is left.
pub at_end : (keypos : ℕ) (items : List Tree) (adds : List Add) (numbers : List (Option ℤ)) (values : List ℤ) (i : ℕ) → length adds ≤ i
    → IsCounting keypos items (map addition_of adds) numbers values (map addition_of (drop i adds))
    → IsCounting keypos items (map addition_of adds) numbers values []
at_end keypos items adds numbers values i h k =
    let e : map addition_of (drop i adds) ≡ [] = ap (map addition_of) (drop_all i adds h) in
    subst (λ (x : List Addition). IsCounting keypos items (map addition_of adds) numbers values x) e k
