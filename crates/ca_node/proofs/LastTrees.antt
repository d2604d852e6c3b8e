-- A tree whose passes were all joined into the space's own seat: the logs are lawful for its
-- history, and the objects stand in it in order.
use Rattle.std.proofs.Common.{◌≡◌, ℕ, zero, suc, ◌+◌, ◌*◌, ◌<◌, cond, List, [], ◌∷◌, ◌++◌, map, get_or, sym, refl, ap, ◌∙◌, subst, ⊎_elim, arith, eq-eqb, ne_eqb}
use mathlib.Core.Option.{some, some-injective, some-ne-none}
use lib.ListN.{get_elem?}
use Rattle.atomic_table.specs.Table.{State}
use Rattle.atomic_table.proofs.Lists.{at_map}
use Rattle.ca_model.specs.History.{History, after, AreEdits, AreByPasses}
use Rattle.ca_model.specs.StoreMap.{StoreMap, IsStoreMap}
use Rattle.ca_model.proofs.Edits.{map_after}
use Rattle.ca_rows.specs.declared.sizes.Sizes.{Sizes}
use Rattle.ca_rows.specs.declared.view.View.{View}
use Rattle.ca_rows.specs.Closed.{IsLast, joined_from}
use Rattle.ca_rows.specs.Rule.{Ruled, upper_of}
use Rattle.ca_node.specs.LastTree.{rows_under, IsLastTree}
use Rattle.ca_node.specs.Links.{IsIn, IsLinked, IsLent, IsNoted}
use Rattle.ca_node.specs.Place.{Span, all_keys, left_of, right_of, part}
use Rattle.ca_node.specs.Reached.{led_to, led_place}
use Rattle.ca_node.specs.Row.{row_at, form, items, pair}
use Rattle.ca_node.specs.Shape.{Role, Base, Route, LeadsTo, IsBaseAt, IsRouteAt, IsShape}
use Rattle.ca_node.specs.Tree.{IsTree}
use Rattle.ca_node.specs.TreeView.{Ended, TreeView, ended_of, and_ended, ended_with}
use Rattle.ca_node.proofs.Parts.{part_sides, part_all}
use Rattle.ca_rows.specs.Layout.{row_words}
use Rattle.ca_node.specs.Layout.{root_word}

abbrev R : Sizes → State (Unit {0}) (View TreeView) → Type 0
R = Ruled IsLinked IsLent IsNoted IsTree

-- What was left of a pass stays.
still : (n : ℕ) (x y : Ended) (xs : List Ended) → IsIn y xs → IsIn y (and_ended n x xs)
still zero x y xs i = i
still (suc n) x y xs i = (suc i.0, i.1)

here_now : (n : ℕ) (x : Ended) (xs : List Ended) → 0 < n → IsIn x (and_ended n x xs)
here_now zero x xs lo = absurd (omega arith)
here_now (suc n) x xs lo = (0, refl)

-- Each pass that was joined in is left.
all_left : (own : View TreeView) (views : List (View TreeView)) (u : TreeView)
    → IsIn u (map upper_of views) → 0 < u.number
    → IsIn (ended_of u) (joined_from ended_with own views).upper.ended
all_left own views u i lo = by views i.0 i.1
  where
    by : (views : List (View TreeView)) (k : ℕ) → get_elem? (map upper_of views) k ≡ some u
        → IsIn (ended_of u) (joined_from ended_with own views).upper.ended
    by [] k e = absurd (some-ne-none u (sym e))
    by (w ∷ ws) zero e = let is : w.upper ≡ u = some-injective w.upper u e in
        subst (λ (y : TreeView).
        IsIn (ended_of u) (and_ended y.number (ended_of y)
        (joined_from ended_with own ws).upper.ended)) (sym is)
        (here_now u.number (ended_of u) (joined_from ended_with own ws).upper.ended lo)
    by (w ∷ ws) (suc k) e =
        still w.upper.number (ended_of w.upper) (ended_of u)
        (joined_from ended_with own ws).upper.ended (by ws k e)

made_same : (own : View TreeView) (views : List (View TreeView))
    → (joined_from ended_with own views).made ≡ own.made
made_same own [] = refl
made_same own (w ∷ ws) = made_same own ws

both : {A B : Type 0} (f : A → B) (xs ys : List A) → map f (xs ++ ys) ≡ map f xs ++ map f ys
both f [] ys = refl
both f (x ∷ xs) ys = ap (λ zs. f x ∷ zs) (both f xs ys)

-- The objects of the rows under a link are what the map has of the keys that are led there, in
-- order.
module _ (z : Sizes) (words : List ℕ) (role : ℕ → Role) (m : StoreMap)
    (shape : IsShape z words role m) (p : ℕ) (valid : IsStoreMap p m) where
  abbrev pairs : List ℕ → StoreMap
  pairs rows = map (λ row. pair (row_at words row)) rows

  pub in_order : (deep link least : ℕ) (span : Span) (l : LeadsTo words role link least span)
      → z.levels < l.level + deep
      → pairs (rows_under deep words link) ≡ part span m
  in_order zero link least span l enough = ⊎_elim
      (λ (b : IsBaseAt z words role m (led_to words role link least span l) (get_or words link 0)
      × (role (get_or words link 0) ≡ Base (led_to words role link least span l))).
      let d = b.0.deep in absurd (omega arith))
      (λ (t : (key : List ℕ)
      × IsRouteAt z words role (led_to words role link least span l) key (get_or words link 0)
      × (role (get_or words link 0) ≡ Route (led_to words role link least span l) key)).
      let d = t.1.above in absurd (omega arith))
      (led_place z words role m shape link least span l)
  in_order (suc deep) link least span l enough = let row : ℕ = get_or words link 0 in
      let lefts : List ℕ = rows_under deep words (row_words * row + 1) in
      let rights : List ℕ = rows_under deep words (row_words * row + 2) in ⊎_elim
      (λ (b : IsBaseAt z words role m (led_to words role link least span l) row
      × (role row ≡ Base (led_to words role link least span l))).
      ap (λ c. pairs (cond c (lefts ++ rights) (items (row_at words row))))
      (ne_eqb (form (row_at words row)) 3 (λ e. let f = b.0.is_base in omega arith))
      ∙ b.0.has)
      (λ (t : (key : List ℕ) × IsRouteAt z words role (led_to words role link least span l) key row
      × (role row ≡ Route (led_to words role link least span l) key)). let at = t.1 in
      let g = at.left.greater in let h = at.right.greater in
      ap (λ c. pairs (cond c (lefts ++ rights) (items (row_at words row))))
      (eq-eqb (form (row_at words row)) 3 at.is_route)
      ∙ (both (λ r. pair (row_at words r)) lefts rights
      ∙ (ap (λ (xs : StoreMap).
      xs ++ pairs rights) (in_order deep (row_words * row + 1) (l.level + 1) (left_of t.0 span)
      at.left (omega arith))
      ∙ (ap (λ (xs : StoreMap).
      part (left_of t.0 span) m ++ xs)
      (in_order deep (row_words * row + 2) (l.level + 1) (right_of t.0 span) at.right (omega arith))
      ∙ sym (part_sides p span m t.0 valid at.inside)))))
      (led_place z words role m shape link least span l)

-- So all of them are the whole map.
all_in_order : (z : Sizes) (words : List ℕ) (role : ℕ → Role) (h : History) → AreEdits z.keypos h
    → IsShape z words role (after h [])
    → map (λ row. pair (row_at words row)) (rows_under (suc z.levels) words root_word) ≡ after h []
all_in_order z words role h edits shape =
    in_order z words role (after h []) shape z.keypos (map_after z.keypos h [] edits tt)
    (suc z.levels) root_word 0 all_keys shape.top (omega arith) ∙ part_all (after h [])

-- What is known of the words of a closed space.
pub last_tree : (z : Sizes) (made : ℕ) (own : View TreeView) (views : List (View TreeView))
    (words : List ℕ) → own.made ≡ made
    → IsLast (R z) (joined_from ended_with own views) words
    → IsLastTree z made (map upper_of views) words
last_tree z made own views words so_many last = let s = last.0 in let r : R z s = last.1 in
    let f = r.above in
    let v : View TreeView = joined_from ended_with own views in
    let mine = f.each_seat 0 v.upper (at_map upper_of s.views 0 v last.2) in
    let shape_last : IsShape z words f.role (after f.history []) = subst
    (λ (ws : List ℕ). IsShape z ws f.role (after f.history [])) last.3 f.shape in
    let same : r.made ≡ made = sym ((r.seat 0 v last.2).made_are refl)
    ∙ (made_same own views ∙ so_many) in record {
      history = f.history;
      edits = f.edits;
      by_passes = subst (λ (n : ℕ). AreByPasses n f.history) same f.by_passes;
      lawful = λ u i lo. (mine.ended (ended_of u) (all_left own views u i lo)).lawful;
      role = f.role;
      shape = shape_last;
      has = all_in_order z words f.role f.history f.edits shape_last;
    }
