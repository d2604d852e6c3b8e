-- What a store map has within edges stands for what the table has from a key on, up to a key, or between two keys.
use Rattle.std.proofs.Common.{◌≡◌, ℕ, Bool, true, false, List, [], ◌∷◌, refl, sym, ap, subst, if◌then◌else◌}
use Rattle.std.specs.Prelude.{filter, not, ◌&&◌}
use Rattle.std.specs.declared.cmp.Ordering.{Ordering}
use Rattle.std.specs.declared.cmp.Ordering.TheVariants.{Less, Equal, Greater}
use Rattle.std.specs.Ordering.{is_lt, is_le, is_gt, ordering_reverse}
use Rattle.ca_term.specs.Tree.{Tree, IsTerm}
use Rattle.ca_term.specs.Order.{term_cmp}
use Rattle.ca_term.specs.Code.{code_of}
use Rattle.ca_term.specs.Object.{key_of}
use Rattle.ca_term.proofs.TotalOrder.{tree_flip}
use Rattle.ca_ets.specs.OrderedMap.{above, below, between}
use Rattle.ca_model.specs.StoreMap.{StoreMap}
use Rattle.ca_model.specs.Edges.{Unbounded, Included, Excluded, from, up_to, within}
use Rattle.ca_explain.specs.Stands.{Stands}
use Rattle.ca_explain.proofs.Filters.{above_stands, below_stands, filter_stands}

-- Two tests that answer alike leave the same.
same_filter : {X : Type 0} (f g : X → Bool) → ((x : X) → f x ≡ g x) → (xs : List X) → filter f xs ≡ filter g xs
same_filter f g e [] = refl
same_filter f g e (x ∷ xs) = rw (e x) (ap (λ ys. if g x then x ∷ ys else ys) (same_filter f g e xs))

-- A test that each passes leaves all.
all_filter : {X : Type 0} (xs : List X) → filter (λ x. true) xs ≡ xs
all_filter [] = refl
all_filter (x ∷ xs) = ap (λ ys. x ∷ ys) (all_filter xs)

-- What passes one test and then another one passes both.
filter_twice : {X : Type 0} (f g : X → Bool) (xs : List X) → filter g (filter f xs) ≡ filter (λ x. f x && g x) xs
filter_twice f g [] = refl
filter_twice {X} f g (x ∷ xs) = by (f x) (filter_twice f g xs)
  where
    by : (b : Bool) → filter g (filter f xs) ≡ filter (λ y. f y && g y) xs
        → filter g (if b then x ∷ filter f xs else filter f xs)
        ≡ (if b && g x then x ∷ filter (λ y. f y && g y) xs else filter (λ y. f y && g y) xs)
    by true rest = ap (λ (ys : List X). if g x then x ∷ ys else ys) rest
    by false rest = rest

-- the objects from a key on, and up to a key
abbrev pub from_key : ℕ → List Tree → Tree → List Tree
from_key p t k = filter (λ o. is_le (term_cmp k (key_of p o))) t

abbrev pub up_to_key : ℕ → List Tree → Tree → List Tree
up_to_key p t k = filter (λ o. is_le (term_cmp (key_of p o) k)) t

-- What is not less is as great or greater.
not_less : (k x : Tree) → not (is_lt (term_cmp x k)) ≡ is_le (term_cmp k x)
not_less k x = by (term_cmp x k) (tree_flip k x)
  where
    by : (r : Ordering) → term_cmp k x ≡ ordering_reverse r → not (is_lt r) ≡ is_le (term_cmp k x)
    by Less e = rw e refl
    by Equal e = rw e refl
    by Greater e = rw e refl

-- What is not greater is as great or less.
not_greater : (r : Ordering) → not (is_gt r) ≡ is_le r
not_greater Less = refl
not_greater Equal = refl
not_greater Greater = refl

-- From one key on and up to another one is between them.
pub from_up_to : (p : ℕ) (t : List Tree) (lo hi : Tree) → up_to_key p (from_key p t lo) hi ≡ between p t lo hi
from_up_to p t lo hi = filter_twice (λ o. is_le (term_cmp lo (key_of p o))) (λ o. is_le (term_cmp (key_of p o) hi)) t

module _ (p : ℕ) (m : StoreMap) (t : List Tree) (st : Stands p m t) where
  -- Without a lower edge, or an upper one, all of the map is left.
  pub from_all : Stands p (from Unbounded m) t
  from_all = subst (λ (x : StoreMap). Stands p x t) (sym (all_filter m)) st

  pub up_to_all : Stands p (up_to Unbounded m) t
  up_to_all = subst (λ (x : StoreMap). Stands p x t) (sym (all_filter m)) st

  -- The map past a key's code stands for the objects above the key.
  pub from_past : (k : Tree) → IsTerm k → Stands p (from (Excluded (code_of k)) m) (above p t k)
  from_past k b = above_stands p m t st k b

  -- The map up to a key's code without it stands for the objects below the key.
  pub up_to_past : (k : Tree) → IsTerm k → Stands p (up_to (Excluded (code_of k)) m) (below p t k)
  up_to_past k b = below_stands p m t st k b

  -- The map from a key's code on stands for the objects from the key on.
  pub from_at : (k : Tree) → IsTerm k → Stands p (from (Included (code_of k)) m) (from_key p t k)
  from_at k b =
      subst (λ (x : List Tree). Stands p (from (Included (code_of k)) m) x)
      (same_filter (λ o. not (is_lt (term_cmp (key_of p o) k))) (λ o. is_le (term_cmp k (key_of p o))) (λ o. not_less k (key_of p o)) t)
      (filter_stands p m t st k b (λ r. not (is_lt r)))

  -- The map up to a key's code stands for the objects up to the key.
  pub up_to_at : (k : Tree) → IsTerm k → Stands p (up_to (Included (code_of k)) m) (up_to_key p t k)
  up_to_at k b =
      subst (λ (x : List Tree). Stands p (up_to (Included (code_of k)) m) x)
      (same_filter (λ o. not (is_gt (term_cmp (key_of p o) k))) (λ o. is_le (term_cmp (key_of p o) k)) (λ o. not_greater (term_cmp (key_of p o) k)) t)
      (filter_stands p m t st k b (λ r. not (is_gt r)))

-- The map from one key's code up to another one's stands for the objects between the keys.
pub within_between : (p : ℕ) (m : StoreMap) (t : List Tree) → Stands p m t → (lo hi : Tree) → IsTerm lo → IsTerm hi
    → Stands p (within (Included (code_of lo)) (Included (code_of hi)) m) (between p t lo hi)
within_between p m t st lo hi b c =
    subst (λ (x : List Tree). Stands p (within (Included (code_of lo)) (Included (code_of hi)) m) x) (from_up_to p t lo hi)
    (up_to_at p (from (Included (code_of lo)) m) (from_key p t lo) (from_at p m t st lo b) hi c)

-- The whole map within no edges stands for the whole table, and the map past a key's code, with no upper edge, for what is above the key.
pub within_all : (p : ℕ) (m : StoreMap) (t : List Tree) → Stands p m t → Stands p (within Unbounded Unbounded m) t
within_all p m t st = up_to_all p (from Unbounded m) t (from_all p m t st)

pub within_past : (p : ℕ) (m : StoreMap) (t : List Tree) → Stands p m t → (k : Tree) → IsTerm k
    → Stands p (within (Excluded (code_of k)) Unbounded m) (above p t k)
within_past p m t st k b = up_to_all p (from (Excluded (code_of k)) m) (above p t k) (from_past p m t st k b)
