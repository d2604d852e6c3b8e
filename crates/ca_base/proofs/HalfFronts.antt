-- Halves of a base: the words of their items, and the prefix with which their keys begin.
use Rattle.std.proofs.Common.{◌≡◌, ℕ, zero, suc, ◌+◌, ◌-◌, ◌*◌, ◌<◌, ◌≤◌, min, List, [], ◌∷◌, length, map, take, drop, get_or, sym, refl, ap, ◌∙◌, subst, ⊎_elim, arith, length-take}
use Rattle.std.proofs.Math.Nat.{eq-or-lt_of_le}
use Rattle.std.proofs.lemmas.List.{length-take-le, take-take}
use Rattle.std.specs.declared.cmp.Ordering.TheVariants.{Less}
use Rattle.ca_model.specs.StoreMap.{bytes_cmp, AreAbove, IsStoreMap}
use mathlib.Core.Option.{some, some-injective}
use lib.ListN.{get_elem?}
use Rattle.ca_node.specs.Links.{IsIn}
use Rattle.ca_node.specs.Row.{head_in, head_of, items, key, pair, row_in}
use Rattle.ca_node.specs.TreeView.{Note}
use Rattle.ca_rows.specs.Layout.{row_limit}
use Rattle.ca_base.specs.Prefixes.{AreShared, SpellsHalf, worded}
use Rattle.ca_base.specs.Writing.{SpellsBase}
use Rattle.ca_base.proofs.Behind.{between}
use Rattle.ca_base.proofs.Inserting.{elem_or, within}

-- There is a word for each row.
pub worded_long : (skip : ℕ) (rows : List ℕ) (objects : List (List ℕ)) → length objects ≡ length rows
    → length (worded skip rows objects) ≡ length rows
worded_long skip [] objects same = refl
worded_long skip (row ∷ rows) [] same = absurd (omega arith)
worded_long skip (row ∷ rows) (object ∷ objects) same = let rest = worded_long skip rows objects (omega arith) in
    omega arith

pub worded_at : (skip : ℕ) (rows : List ℕ) (objects : List (List ℕ)) (k : ℕ)
    → length objects ≡ length rows → k < length rows
    → get_or (worded skip rows objects) k 0
    ≡ head_of skip (get_or objects k []) * row_limit + get_or rows k 0
worded_at skip [] objects k same l = absurd (omega arith)
worded_at skip (row ∷ rows) [] k same l = absurd (omega arith)
worded_at skip (row ∷ rows) (object ∷ objects) zero same l = refl
worded_at skip (row ∷ rows) (object ∷ objects) (suc k) same l =
    worded_at skip rows objects k (omega arith) (omega arith)

-- It names that row, and has the head of that object's key.
row_of : (head row : ℕ) → row < row_limit → row_in (head * row_limit + row) ≡ row
row_of head row l = omega arith

head_at : (head row : ℕ) → row < row_limit → head_in (head * row_limit + row) ≡ head
head_at head row l = omega arith

rest_inside : (row : ℕ) (rows : List ℕ) → ((r : ℕ) → IsIn r (row ∷ rows) → r < row_limit)
    → (r : ℕ) → IsIn r rows → r < row_limit
rest_inside row rows inside r i = inside r (suc i.0, i.1)

pub worded_rows : (skip : ℕ) (rows : List ℕ) (objects : List (List ℕ)) → length objects ≡ length rows
    → ((r : ℕ) → IsIn r rows → r < row_limit) → map row_in (worded skip rows objects) ≡ rows
worded_rows skip [] objects same inside = refl
worded_rows skip (row ∷ rows) [] same inside = absurd (omega arith)
worded_rows skip (row ∷ rows) (object ∷ objects) same inside =
    ap (λ (r : ℕ). r ∷ map row_in (worded skip rows objects))
    (row_of (head_of skip object) row (inside row (0, refl)))
    ∙ ap (λ (rs : List ℕ). row ∷ rs)
    (worded_rows skip rows objects (omega arith) (rest_inside row rows inside))

pub worded_heads : (skip : ℕ) (rows : List ℕ) (objects : List (List ℕ)) → length objects ≡ length rows
    → ((r : ℕ) → IsIn r rows → r < row_limit)
    → map head_in (worded skip rows objects) ≡ map (head_of skip) objects
worded_heads skip [] [] same inside = refl
worded_heads skip [] (object ∷ objects) same inside = absurd (omega arith)
worded_heads skip (row ∷ rows) [] same inside = absurd (omega arith)
worded_heads skip (row ∷ rows) (object ∷ objects) same inside =
    ap (λ (h : ℕ). h ∷ map head_in (worded skip rows objects))
    (head_at (head_of skip object) row (inside row (0, refl)))
    ∙ ap (λ (hs : List ℕ). head_of skip object ∷ hs)
    (worded_heads skip rows objects (omega arith) (rest_inside row rows inside))

-- The keys of a base's objects ascend.
above_at : (k : List ℕ) (objects : List (List ℕ)) → AreAbove k (map pair objects) → (j : ℕ)
    → j < length objects → bytes_cmp k (key (get_or objects j [])) ≡ Less
above_at k [] a j l = absurd (omega arith)
above_at k (o ∷ os) a zero l = a.0
above_at k (o ∷ os) a (suc j) l = above_at k os a.1 j (omega arith)

rises : (keypos : ℕ) (objects : List (List ℕ)) → IsStoreMap keypos (map pair objects) → (i j : ℕ)
    → i < j → j < length objects
    → bytes_cmp (key (get_or objects i [])) (key (get_or objects j [])) ≡ Less
rises keypos [] s i j l m = absurd (omega arith)
rises keypos (o ∷ os) s zero zero l m = absurd (omega arith)
rises keypos (o ∷ os) s zero (suc j) l m = above_at (key o) os s.1 j (omega arith)
rises keypos (o ∷ os) s (suc i) zero l m = absurd (omega arith)
rises keypos (o ∷ os) s (suc i) (suc j) l m = rises keypos os s.2 i j (omega arith) (omega arith)

-- So what the first one of some and their last one begin with, all do.
all_begin : (keypos : ℕ) (objects : List (List ℕ)) → IsStoreMap keypos (map pair objects)
    → (i j n : ℕ) → j < length objects → n ≤ length (key (get_or objects i []))
    → take n (key (get_or objects i [])) ≡ take n (key (get_or objects j [])) → (k : ℕ) → i ≤ k
    → k ≤ j → take n (key (get_or objects k [])) ≡ take n (key (get_or objects i []))
all_begin keypos objects s i j n m long alike k low high = ⊎_elim
    (λ (e : i ≡ k). ap (λ (x : ℕ). take n (key (get_or objects x []))) (sym e))
    (λ (l : i < k). ⊎_elim
    (λ (e : k ≡ j). ap (λ (x : ℕ). take n (key (get_or objects x []))) e ∙ sym alike)
    (λ (h : k < j). between n (key (get_or objects i [])) (key (get_or objects k []))
    (key (get_or objects j [])) long (rises keypos objects s i k l (omega arith))
    (rises keypos objects s k j h m) alike)
    (eq-or-lt_of_le high))
    (eq-or-lt_of_le low)

-- Where the first 32 bytes of the first key and of the last one share so many bytes, and these are
-- written as the prefix, the words spell a half.
pub half_spells : (keypos : ℕ) (note : Note) (from count at_level n : ℕ) (low high front its : List ℕ)
    → IsStoreMap keypos (map pair note.objects) → 0 < count → from + count ≤ length note.objects
    → low ≡ take 32 (key (get_or note.objects from []))
    → high ≡ take 32 (key (get_or note.objects (from + count - 1) [])) → AreShared low high n
    → front ≡ take n low
    → SpellsBase front (take count (drop from (worded n (items note.its) note.objects))) at_level
    4294967296 its
    → SpellsHalf note from count at_level its
half_spells keypos note from count at_level n low high front its ordered any inside low_is high_is
    shared front_is spells = let within = shared.within in
    let first : List ℕ = key (get_or note.objects from []) in
    let last : List ℕ = key (get_or note.objects (from + count - 1) []) in
    let low_long : length low ≡ min 32 (length first) = ap (λ (xs : List ℕ). length xs) low_is ∙ length-take 32 first in
    let long : length front ≡ n = ap (λ (xs : List ℕ). length xs) front_is
    ∙ length-take-le n low within in
    let low_begins : take n low ≡ take n first = ap (take n) low_is ∙ take-take n 32 first (omega (arith, low_long)) in
    let high_begins : take n high ≡ take n last = ap (take n) high_is ∙ take-take n 32 last (omega (arith, low_long)) in
    let both : take n first ≡ take n last = sym low_begins ∙ (shared.alike ∙ high_begins) in record {
      prefix = front;
      short = omega (arith, low_long);
      longest = subst (λ (x : List ℕ × (List ℕ × ℕ)). AreShared x.0 x.1.0 x.1.1)
          (λ i. (low_is i, (high_is i, sym long i))) shared;
      begin = λ k l h. ap (λ (m : ℕ). take m (key (get_or note.objects k []))) long
          ∙ (all_begin keypos note.objects ordered from (from + count - 1) n (omega arith)
          (omega (arith, low_long)) both k l (omega arith) ∙ (sym low_begins ∙ sym front_is));
      spells = subst (λ (m : ℕ). SpellsBase front
          (take count (drop from (worded m (items note.its) note.objects))) at_level 4294967296 its)
          (sym long) spells;
    }

-- The word of an item is that of its row and its object.
pub word_there : (skip : ℕ) (rows : List ℕ) (objects : List (List ℕ)) (k row word : ℕ)
    → length objects ≡ length rows → get_elem? rows k ≡ some row
    → word ≡ head_of skip (get_or objects k []) * row_limit + row
    → word ≡ get_or (worded skip rows objects) k 0
word_there skip rows objects k row word same there is = let l = within rows k row there in
    let e : get_or rows k 0 ≡ row = some-injective (get_or rows k 0) row
    (sym (elem_or rows k 0 l) ∙ there) in
    is ∙ (ap (λ (r : ℕ). head_of skip (get_or objects k []) * row_limit + r) (sym e)
    ∙ sym (worded_at skip rows objects k same l))
