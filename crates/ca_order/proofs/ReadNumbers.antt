-- The numbers of elements, read one after another.
use Rattle.std.proofs.Common.{◌≡◌, ℕ, zero, suc, ◌≤◌, ◌<◌, ◌+◌, ℤ, List, [], ◌∷◌, ◌++◌, length, take, map, get_or, arith, sym, ◌∙◌, ap, take_all}
use Rattle.std.specs.Prelude.{Option}
use Rattle.std.proofs.lemmas.List.{take_more, map-append, length-map}
use Rattle.ca_term.specs.declared.bounds.TheConstants.{MOST_ELEMENTS}
use Rattle.ca_term.specs.Tree.{Tree, Nil}
use Rattle.ca_term.specs.Updates.{integer_of}
use Rattle.ca_order.specs.Patches.{HasItems}
use Rattle.ca_order.proofs.Items.{few_items}

length_front : (xs : List Tree) (i : ℕ) → length (take i xs) ≤ i
length_front [] zero = omega arith
length_front [] (suc i) = omega arith
length_front (x ∷ xs) zero = omega arith
length_front (x ∷ xs) (suc i) = omega (arith, length_front xs i)

-- While elements are left, there is room for a number more.
pub numbers_few : (items : List Tree) (code : List ℕ) (h : HasItems items code) (i : ℕ) (numbers : List (Option ℤ)) → i < length items
    → numbers ≡ map integer_of (take i items) → length numbers < MOST_ELEMENTS
numbers_few items code h i numbers l e =
    omega (arith, l, few_items items code h, ap length e, length-map (take i items) integer_of, length_front items i)

-- One more number is read.
pub numbers_more : (items : List Tree) (i : ℕ) (numbers new : List (Option ℤ)) (n : Option ℤ) → i < length items → numbers ≡ map integer_of (take i items)
    → n ≡ integer_of (get_or items i Nil) → new ≡ numbers ++ n ∷ [] → new ≡ map integer_of (take (i + 1) items)
numbers_more items i numbers new n l e f g =
    g ∙ (λ j. e j ++ f j ∷ []) ∙ sym (map-append integer_of (take i items) (get_or items i Nil ∷ [])) ∙ sym (ap (map integer_of) (take_more items i Nil l))

-- All numbers are read.
pub numbers_all : (items : List Tree) (i : ℕ) (numbers : List (Option ℤ)) → length items ≤ i → numbers ≡ map integer_of (take i items)
    → numbers ≡ map integer_of items
numbers_all items i numbers l e = e ∙ ap (map integer_of) (take_all i items l)
