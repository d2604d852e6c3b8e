-- Lists of what a tree has: their members, each once, and how long they are; and what is listed
-- once a step put some rows in the place of others.
use Rattle.std.proofs.Common.{◌≡◌, ◌≢◌, ◌⊎◌, ℕ, suc, ◌+◌, ◌<◌, ◌≤◌, max, cond, List, [], ◌∷◌, ◌++◌, length, set, sym, refl, ap, ◌∙◌, subst, inl, inr, ⊎_elim, arith, length-append, eq-eqb, ne_eqb}
use mathlib.Core.Logic.{dite}
use mathlib.Core.Option.{some}
use native.Mathlib.Decide.{ℕ_discrete}
use lib.ListN.{get_elem?}
use Rattle.atomic_table.proofs.Lists.{at_set}
use Rattle.ca_model.specs.History.{History}
use Rattle.ca_rows.specs.declared.sizes.Sizes.{Sizes}
use Rattle.ca_node.specs.Inventory.{AreOnce, but, but_all, row_itself, row_of_base, IsInventory, OwnsTree, own_tree}
use Rattle.ca_node.specs.Laws.{in_nothing, in_one}
use Rattle.ca_node.specs.Links.{IsIn, IsLinked}
use Rattle.ca_node.specs.Place.{Place}
use Rattle.ca_node.specs.Shape.{Role, Out, Base}
use Rattle.ca_node.specs.Told.{Update, exchanged_inventory}
use Rattle.ca_node.specs.Tree.{Knows}
use Rattle.ca_node.specs.TreeView.{Inventory, TreeView}
use Rattle.ca_node.proofs.Looking.{in_more}
use Rattle.ca_node.proofs.Members.{has}

-- A member of two lists together is one of the first or of the second.
pub in_either : {A : Type 0} (xs ys : List A) (x : A) → IsIn x (xs ++ ys) → IsIn x xs ⊎ IsIn x ys
in_either [] ys x i = inr i
in_either (z ∷ xs) ys x i = ⊎_elim (λ (e : z ≡ x). inl (0, ap some e))
    (λ j. ⊎_elim (λ (k : IsIn x xs). inl (suc k.0, k.1))
    (λ k. inr k) (in_either xs ys x j)) (in_more z x (xs ++ ys) i)

-- A member of the first is one of both together.
pub in_front : {A : Type 0} (xs ys : List A) (x : A) → IsIn x xs → IsIn x (xs ++ ys)
in_front [] ys x i = absurd (in_nothing x [] refl i)
in_front (z ∷ xs) ys x i = ⊎_elim (λ (e : z ≡ x). (0, ap some e))
    (λ j. let k = in_front xs ys x j in (suc k.0, k.1)) (in_more z x xs i)

-- So is one of the second.
pub in_back : {A : Type 0} (xs ys : List A) (x : A) → IsIn x ys → IsIn x (xs ++ ys)
in_back [] ys x i = i
in_back (z ∷ xs) ys x i = let k = in_back xs ys x i in (suc k.0, k.1)

module _ {A : Type 0} (row_of : A → ℕ) where
  -- The first member is left out if it is of the row, and stays if it isn't.
  but_drops : (row : ℕ) (x : A) (xs : List A) → row_of x ≡ row
      → but row_of row (x ∷ xs) ≡ but row_of row xs
  but_drops row x xs e = ap
      (λ b. cond b (but row_of row xs) (x ∷ but row_of row xs)) (eq-eqb (row_of x) row e)

  but_keeps : (row : ℕ) (x : A) (xs : List A) → row_of x ≢ row
      → but row_of row (x ∷ xs) ≡ x ∷ but row_of row xs
  but_keeps row x xs n = ap
      (λ b. cond b (but row_of row xs) (x ∷ but row_of row xs)) (ne_eqb (row_of x) row n)

  -- What isn't left out is a member, and isn't of the row.
  pub of_but : (row : ℕ) (xs : List A) (y : A) → IsIn y (but row_of row xs) → IsIn y xs
      × (row_of y ≢ row)
  of_but row [] y i = absurd (in_nothing y [] refl i)
  of_but row (x ∷ xs) y i = dite (ℕ_discrete (row_of x) row)
      (λ (e : row_of x ≡ row). let j = of_but row xs y (subst (IsIn y) (but_drops row x xs e) i) in
      ((suc j.0.0, j.0.1), j.1))
      (λ (n : row_of x ≢ row). ⊎_elim
      (λ (e : x ≡ y). ((0, ap some e), λ (f : row_of y ≡ row). n (ap row_of e ∙ f)))
      (λ (k : IsIn y (but row_of row xs)). let j = of_but row xs y k in ((suc j.0.0, j.0.1), j.1))
      (in_more x y (but row_of row xs) (subst (IsIn y) (but_keeps row x xs n) i)))

  -- A member that isn't of the row isn't left out.
  pub in_but : (row : ℕ) (xs : List A) (y : A) → IsIn y xs → row_of y ≢ row
      → IsIn y (but row_of row xs)
  in_but row [] y i m = absurd (in_nothing y [] refl i)
  in_but row (x ∷ xs) y i m = dite (ℕ_discrete (row_of x) row)
      (λ (e : row_of x ≡ row). subst (IsIn y) (sym (but_drops row x xs e))
      (⊎_elim (λ (f : x ≡ y). absurd (m (ap row_of (sym f) ∙ e)))
      (λ (k : IsIn y xs). in_but row xs y k m) (in_more x y xs i)))
      (λ (n : row_of x ≢ row). subst (IsIn y) (sym (but_keeps row x xs n)) (⊎_elim
      (λ (f : x ≡ y). (0, ap some f))
      (λ (k : IsIn y xs). let j = in_but row xs y k m in (suc j.0, j.1))
      (in_more x y xs i)))

  -- The same of several rows: what isn't left out is a member, and is of none of them.
  pub of_but_all : (rows : List ℕ) (xs : List A) (y : A) → IsIn y (but_all row_of rows xs)
      → IsIn y xs × ¬ IsIn (row_of y) rows
  of_but_all [] xs y i = (i, in_nothing (row_of y) [] refl)
  of_but_all (row ∷ rows) xs y i = let j = of_but row (but_all row_of rows xs) y i in
      let k = of_but_all rows xs y j.0 in (
        k.0,
        λ (o : IsIn (row_of y) (row ∷ rows)). ⊎_elim
            (λ (e : row ≡ row_of y). j.1 (sym e)) k.1 (in_more row (row_of y) rows o),
      )

  -- A member that is of none of them isn't left out.
  pub in_but_all : (rows : List ℕ) (xs : List A) (y : A) → IsIn y xs → ¬ IsIn (row_of y) rows
      → IsIn y (but_all row_of rows xs)
  in_but_all [] xs y i m = i
  in_but_all (row ∷ rows) xs y i m =
      in_but row (but_all row_of rows xs) y (in_but_all rows xs y i
      (λ (o : IsIn (row_of y) rows). m (suc o.0, o.1)))
      (λ (e : row_of y ≡ row). m (0, ap some (sym e)))

  -- No two of them are of one row, if none were.
  pub but_once : (row : ℕ) (xs : List A) → AreOnce row_of xs → AreOnce row_of (but row_of row xs)
  but_once row [] o = tt
  but_once row (x ∷ xs) o = dite (ℕ_discrete (row_of x) row)
      (λ (e : row_of x ≡ row).
      subst (AreOnce row_of) (sym (but_drops row x xs e)) (but_once row xs o.1))
      (λ (n : row_of x ≢ row). subst (AreOnce row_of) (sym (but_keeps row x xs n)) (
        (λ (t : (y : A) × IsIn y (but row_of row xs) × (row_of y ≡ row_of x)).
            o.0 (t.0, (of_but row xs t.0 t.1).0, t.2)),
        but_once row xs o.1,
      ))

  -- So it is where several rows are left out.
  pub but_all_once : (rows : List ℕ) (xs : List A) → AreOnce row_of xs
      → AreOnce row_of (but_all row_of rows xs)
  but_all_once [] xs o = o
  but_all_once (row ∷ rows) xs o = but_once row (but_all row_of rows xs) (but_all_once rows xs o)

  -- Of two lists whose rows are apart no two members are of one row, if none of either are.
  pub both_once : (xs ys : List A) → AreOnce row_of xs → AreOnce row_of ys
      → ((x y : A) → IsIn x xs → IsIn y ys → row_of x ≢ row_of y)
      → AreOnce row_of (xs ++ ys)
  both_once [] ys a b apart = b
  both_once (x ∷ xs) ys a b apart = (
    (λ (t : (y : A) × IsIn y (xs ++ ys) × (row_of y ≡ row_of x)). ⊎_elim
        (λ (i : IsIn t.0 xs). a.0 (t.0, i, t.2))
        (λ (i : IsIn t.0 ys). apart x t.0 (0, refl) i (sym t.2))
        (in_either xs ys t.0 t.1)),
    both_once xs ys a.1 b (λ c d i j. apart c d (suc i.0, i.1) j),
  )

  -- A list is no longer without the members of a row.
  pub but_length : (row : ℕ) (xs : List A) → length (but row_of row xs) ≤ length xs
  but_length row [] = omega arith
  but_length row (x ∷ xs) = let l = but_length row xs in dite (ℕ_discrete (row_of x) row)
      (λ (e : row_of x ≡ row). let n = ap (λ (ys : List A). length ys) (but_drops row x xs e) in
      omega arith)
      (λ (n : row_of x ≢ row). let n = ap (λ (ys : List A). length ys) (but_keeps row x xs n) in
      omega arith)

  -- It is shorter if it had one.
  pub but_shorter : (row : ℕ) (xs : List A) (y : A) → IsIn y xs → row_of y ≡ row
      → length (but row_of row xs) + 1 ≤ length xs
  but_shorter row [] y i is = absurd (in_nothing y [] refl i)
  but_shorter row (x ∷ xs) y i is = dite (ℕ_discrete (row_of x) row)
      (λ (e : row_of x ≡ row). let n = ap (λ (ys : List A). length ys) (but_drops row x xs e) in
      let l = but_length row xs in omega arith)
      (λ (d : row_of x ≢ row). let n = ap (λ (ys : List A). length ys) (but_keeps row x xs d) in
      let l = but_shorter row xs y (⊎_elim (λ (e : x ≡ y). absurd (d (ap row_of e ∙ is)))
      (λ (j : IsIn y xs). j) (in_more x y xs i)) is in omega arith)

  -- It is no longer without those of several rows.
  pub but_all_length : (rows : List ℕ) (xs : List A) → length (but_all row_of rows xs) ≤ length xs
  but_all_length [] xs = omega arith
  but_all_length (row ∷ rows) xs = let a = but_length row (but_all row_of rows xs) in
      let b = but_all_length rows xs in omega arith

  -- It is shorter without those of several rows, one of which a member is of.
  pub but_all_shorter : (rows : List ℕ) (xs : List A) (y : A) → IsIn y xs → IsIn (row_of y) rows
      → length (but_all row_of rows xs) + 1 ≤ length xs
  but_all_shorter [] xs y i o = absurd (in_nothing (row_of y) [] refl o)
  but_all_shorter (row ∷ rows) xs y i o = ⊎_elim
      (λ (k : IsIn (row_of y) rows). let a = but_all_shorter rows xs y i k in
      let b = but_length row (but_all row_of rows xs) in omega arith)
      (λ (n : ¬ IsIn (row_of y) rows).
      let a = but_shorter row (but_all row_of rows xs) y (in_but_all rows xs y i n)
      (⊎_elim (λ (e : row ≡ row_of y). sym e)
      (λ k. absurd (n k)) (in_more row (row_of y) rows o)) in let b = but_all_length rows xs in
      omega arith)
      (has rows (row_of y))

-- A list of one has no other member.
pub not_one : (row old : ℕ) → row ≢ old → ¬ IsIn row (old ∷ [])
not_one row old ne i = ne (sym (in_one old row i))

-- A step links rows and unlinks others. Some bases come so, and some go.
pub record Relists (words words' : List ℕ) (role role' : ℕ → Role) (ins outs : List ℕ)
    (bases : List (ℕ × Place)) (olds : List ℕ) : Type 0 where
  pub comes : (row : ℕ) → IsIn row ins → IsLinked words' row
  pub came_out : (row : ℕ) → IsIn row ins → ¬ IsLinked words row
  pub goes : (row : ℕ) → IsIn row outs → ¬ IsIn row ins → ¬ IsLinked words' row
  pub back : (row : ℕ) → ¬ IsIn row ins → IsLinked words' row → IsLinked words row
  pub on : (row : ℕ) → ¬ IsIn row outs → IsLinked words row → IsLinked words' row
  pub ins_once : AreOnce row_itself ins
  -- What is a base then comes, or was one, and isn't one that goes.
  pub base_comes : (row : ℕ) (place : Place) → IsIn (row, place) bases → role' row ≡ Base place
  pub base_out : (row : ℕ) (place : Place) → IsIn (row, place) bases → role row ≡ Out
  pub base_back : (row : ℕ) (place : Place) → role' row ≡ Base place → IsIn (row, place) bases
      ⊎ ((role row ≡ Base place) × ¬ IsIn row olds)
  pub base_on : (row : ℕ) (place : Place) → role row ≡ Base place → ¬ IsIn row olds
      → role' row ≡ Base place
  pub bases_once : AreOnce row_of_base bases

-- what is listed then
abbrev pub relisting : List ℕ → List ℕ → List (ℕ × Place) → List ℕ → Inventory → Inventory
relisting ins outs bases olds i = record {
  rows = ins ++ but_all row_itself outs i.rows;
  bases = bases ++ but_all row_of_base olds i.bases;
  most = max i.most (length (ins ++ but_all row_itself outs i.rows));
}

module _ (words words' : List ℕ) (role role' : ℕ → Role) (ins outs : List ℕ)
    (bases : List (ℕ × Place)) (olds : List ℕ) (i : Inventory)
    (r : Relists words words' role role' ins outs bases olds) (is : IsInventory words role i) where
  -- the rows and the bases that stay
  abbrev rest : List ℕ
  rest = but_all row_itself outs i.rows

  abbrev others : List (ℕ × Place)
  others = but_all row_of_base olds i.bases

  -- What the tree has is listed again.
  pub listed_again : IsInventory words' role' (relisting ins outs bases olds i)
  listed_again = record {
    linked = λ row l. ⊎_elim
        (λ (c : IsIn row ins). in_front ins rest row c)
        (λ (n : ¬ IsIn row ins).
        in_back ins rest row (in_but_all row_itself outs i.rows row
        (is.linked row (r.back row n l)) (λ o. r.goes row o n l)))
        (has ins row);
    rows = λ row l. ⊎_elim
        (λ (c : IsIn row ins). r.comes row c)
        (λ (o : IsIn row rest). let k = of_but_all row_itself outs i.rows row o in
        r.on row k.1 (is.rows row k.0))
        (in_either ins rest row l);
    rows_once =
        both_once row_itself ins rest r.ins_once (but_all_once row_itself outs i.rows is.rows_once)
        (λ a b c o e. let k = of_but_all row_itself outs i.rows b o in
        r.came_out a c (subst (IsLinked words) (sym e) (is.rows b k.0)));
    based = λ row place e. ⊎_elim
        (λ (c : IsIn (row, place) bases). in_front bases others (row, place) c)
        (λ (o : (role row ≡ Base place) × ¬ IsIn row olds). in_back bases others (row, place)
        (in_but_all row_of_base olds i.bases (row, place) (is.based row place o.0) o.1))
        (r.base_back row place e);
    bases = λ row place l. ⊎_elim
        (λ (c : IsIn (row, place) bases). r.base_comes row place c)
        (λ (o : IsIn (row, place) others). let k = of_but_all row_of_base olds i.bases (row, place) o in
        r.base_on row place (is.bases row place k.0) k.1)
        (in_either bases others (row, place) l);
    bases_once =
        both_once row_of_base bases others r.bases_once
        (but_all_once row_of_base olds i.bases is.bases_once)
        (λ a b c o e. let k = of_but_all row_of_base olds i.bases b o in
        let y : Base b.1 ≡ Out = sym (is.bases b.0 b.1 k.0)
        ∙ (ap role (sym e) ∙ r.base_out a.0 a.1 c) in cc);
  }

-- So many rows are listed behind an exchange of a base for a base, if the old one was.
pub exchanged_length : (served : List ℕ) (new : ℕ) (x : Update) (i : Inventory) → IsIn x.old.row i.rows
    → length (exchanged_inventory served new x i).rows ≤ length served + length x.comes + length i.rows
exchanged_length served new x i is = let rest = but_all row_itself (x.old.row ∷ x.goes) i.rows in
    let less = but_all_shorter row_itself (x.old.row ∷ x.goes) i.rows x.old.row is (0, refl) in
    let all = length-append (served ++ new ∷ x.comes) rest in
    let ins = length-append served (new ∷ x.comes) in omega arith

-- Where no more than one pass was made, the one that took a step is the only one: if it knows the
-- list then, so does each pass.
pub known_by_one : (z : Sizes) (made : ℕ) (words words' : List ℕ) (role role' : ℕ → Role) (uppers : List TreeView)
    (history : History)
    → ((j : ℕ) (v : TreeView) → get_elem? uppers j ≡ some v
    → Knows z made words role uppers history j v)
    → (id : ℕ) (u u' : TreeView) (i : Inventory) → get_elem? uppers id ≡ some u → 0 < u.number
    → (made ≤ 1 → OwnsTree words' role' i (own_tree u'))
    → (j : ℕ) (v : TreeView) → get_elem? (set uppers id u') j ≡ some v → made ≤ 1 → 0 < v.number
    → OwnsTree words' role' i (own_tree v)
known_by_one z made words words' role role' uppers history each id u u' i at is_pass known j v here few pass =
    ⊎_elim
    (λ (t : (j ≡ id) × (u' ≡ v)). subst (λ (w : TreeView). OwnsTree words' role' i (own_tree w)) t.1 (known few))
    (λ (t : (j ≢ id) × (get_elem? uppers j ≡ some v)). let mine = each id u at in
    let a = mine.made_before in let b = (each j v t.1).made_before in
    absurd (t.0 (mine.alone is_pass j v t.1 (omega arith))))
    (at_set uppers id j u' v here)
