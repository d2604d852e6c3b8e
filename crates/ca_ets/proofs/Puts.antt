-- A put keeps a table.
use Rattle.std.proofs.Common.{◌≡◌, ℕ, Bool, true, false, List, [], ◌∷◌, ◌++◌, refl, ap, ◌∙◌, if◌then◌else◌}
use Rattle.std.specs.Prelude.{filter}
use Rattle.std.specs.declared.cmp.Ordering.{Ordering}
use Rattle.std.specs.declared.cmp.Ordering.TheVariants.{Less, Equal, Greater}
use Rattle.std.specs.Ordering.{is_lt, is_gt, ordering_reverse}
use Rattle.ca_term.specs.Tree.{Tree}
use Rattle.ca_term.specs.Order.{term_cmp}
use Rattle.ca_term.proofs.TotalOrder.{tree_flip, tree_chain}
use Rattle.ca_term.specs.Object.{key_of}
use Rattle.ca_ets.specs.OrderedMap.{below, above, put, IsEntry, AreAbove, IsTable}

-- the keys of all these are less than k
abbrev pub AreBelow : ℕ → List Tree → Tree → Type 0
AreBelow p [] k = Unit {0}
AreBelow p (o ∷ m) k = (term_cmp (key_of p o) k ≡ Less) × AreBelow p m k

-- What stands below a key is less than it.
pub below_are : (p : ℕ) (m : List Tree) (k : Tree) → AreBelow p (below p m k) k
below_are p [] k = tt
below_are p (o ∷ m) k = by (term_cmp (key_of p o) k) refl (below_are p m k)
  where
    by : (r : Ordering) → term_cmp (key_of p o) k ≡ r → AreBelow p (below p m k) k → AreBelow p (if is_lt r then o ∷ below p m k else below p m k) k
    by Less e rest = (e, rest)
    by Equal e rest = rest
    by Greater e rest = rest

-- What stands above an object's key is greater than it.
pub above_are : (p : ℕ) (o : Tree) (m : List Tree) → AreAbove p o (above p m (key_of p o))
above_are p o [] = tt
above_are p o (q ∷ m) = by (term_cmp (key_of p q) (key_of p o)) refl (above_are p o m)
  where
    by : (r : Ordering) → term_cmp (key_of p q) (key_of p o) ≡ r → AreAbove p o (above p m (key_of p o))
        → AreAbove p o (if is_gt r then q ∷ above p m (key_of p o) else above p m (key_of p o))
    by Less e rest = rest
    by Equal e rest = rest
    by Greater e rest = (tree_flip (key_of p o) (key_of p q) ∙ ap ordering_reverse e, rest)

-- What is above a greater key is above a less one.
pub above_far : (p : ℕ) (x o : Tree) (m : List Tree) → term_cmp (key_of p x) (key_of p o) ≡ Less → AreAbove p o m → AreAbove p x m
above_far p x o [] e a = tt
above_far p x o (q ∷ m) e a = (tree_chain (key_of p x) (key_of p o) (key_of p q) e a.0, above_far p x o m e a.1)

above_append : (p : ℕ) (o : Tree) (xs ys : List Tree) → AreAbove p o xs → AreAbove p o ys → AreAbove p o (xs ++ ys)
above_append p o [] ys a b = b
above_append p o (x ∷ xs) ys a b = (a.0, above_append p o xs ys a.1 b)

above_filter : (p : ℕ) (o : Tree) (m : List Tree) (f : Tree → Bool) → AreAbove p o m → AreAbove p o (filter f m)
above_filter p o [] f a = tt
above_filter p o (q ∷ m) f a = by (f q) (above_filter p o m f a.1)
  where
    by : (b : Bool) → AreAbove p o (filter f m) → AreAbove p o (if b then q ∷ filter f m else filter f m)
    by true rest = (a.0, rest)
    by false rest = rest

-- Some objects of a table are a table.
pub table_filter : (p : ℕ) (m : List Tree) (f : Tree → Bool) → IsTable p m → IsTable p (filter f m)
table_filter p [] f t = tt
table_filter p (q ∷ m) f t = by (f q) (table_filter p m f t.2)
  where
    by : (b : Bool) → IsTable p (filter f m) → IsTable p (if b then q ∷ filter f m else filter f m)
    by true rest = (t.0, above_filter p q m f t.1, rest)
    by false rest = rest

-- A table, and behind it another one whose first key is greater, are a table.
pub table_append : (p : ℕ) (xs : List Tree) (o : Tree) (ys : List Tree) → AreBelow p xs (key_of p o) → IsTable p xs → IsTable p (o ∷ ys)
    → IsTable p (xs ++ o ∷ ys)
table_append p [] o ys b s t = t
table_append p (x ∷ xs) o ys b s t =
    (s.0, above_append p x xs (o ∷ ys) s.1 (b.0, above_far p x o ys b.0 t.1), table_append p xs o ys b.1 s.2 t)

-- A put leaves a table.
pub table_put : (p : ℕ) (m : List Tree) (o : Tree) → IsTable p m → IsEntry p o → IsTable p (put p m o)
table_put p m o t e =
    let k = key_of p o in
    table_append p (below p m k) o (above p m k) (below_are p m k) (table_filter p m (λ q. is_lt (term_cmp (key_of p q) k)) t)
    (e, above_are p o m, table_filter p m (λ q. is_gt (term_cmp (key_of p q) k)) t)
