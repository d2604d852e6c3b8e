-- A split: a route over two bases takes the place of a base under its link.
use Rattle.std.proofs.Common.{◌≡◌, ◌≢◌, ◌⊎◌, ℕ, zero, suc, ◌+◌, ◌*◌, ◌%◌, ◌<◌, ◌≤◌, Bool, true, false, eqb, List, [], ◌∷◌, ◌++◌, length, map, take, drop, get_or, set, sym, refl, ap, ◌∙◌, subst, inl, inr, ⊎_elim, arith, eq-eqb, ne_eqb}
use Rattle.std.proofs.lemmas.List.{map-set, length-map, take-map, drop-map}
use mathlib.Core.Logic.{dite}
use mathlib.Core.Option.{some, none, some-injective, some-ne-none}
use native.Mathlib.Decide.{ℕ_discrete}
use lib.ListN.{get_elem?}
use prog.Atomic.{either}
use Rattle.atomic_table.specs.Table.{State, step, keeps, stepped, Allows}
use Rattle.atomic_table.proofs.Lists.{at_set, at_map}
use Rattle.ca_model.specs.History.{after}
use Rattle.ca_model.specs.StoreMap.{StoreMap, IsStoreMap}
use Rattle.ca_model.proofs.Edits.{map_after}
use Rattle.ca_rows.specs.Calls.{Relinks}
use Rattle.ca_rows.specs.declared.sizes.Sizes.{Sizes}
use Rattle.ca_rows.specs.declared.view.Claim.{Claim}
use Rattle.ca_rows.specs.declared.view.Claim.TheVariants.{Holds}
use Rattle.ca_rows.specs.declared.view.View.{View}
use Rattle.ca_rows.specs.Claims.{claim_of}
use Rattle.ca_rows.specs.Rule.{upper_of}
use Rattle.ca_rows.specs.Words.{IsWide, result_of}
use Rattle.ca_runs.specs.Runs.{AreRuns}
use Rattle.ca_runs.proofs.Keeping.{runs_still}
use Rattle.ca_rows.proofs.Relinking.{Change, Stays, Comes, Goes, IsChange, relinks}
use Rattle.ca_rows.proofs.Rules.{all_seats}
use Rattle.ca_node.specs.LoneStays.{same_kept, same_active, lone_still}
use Rattle.ca_node.proofs.Lone.{lone_by_one}
use Rattle.ca_node.specs.Inventory.{row_itself, row_of_base, IsInventory}
use Rattle.ca_node.specs.Attempts.{join_of, IsJoinWord, IsSecured, IsUnderWay}
use Rattle.ca_node.specs.JoinsStay.{joining_unnoted}
use Rattle.ca_node.specs.Laws.{noted_alike, tree_lends, in_nothing, numbered, relisted}
use Rattle.ca_node.specs.Links.{IsIn, IsActive, IsBoundOf, IsLinked, by_range, IsLent, IsNoted, by_note}
use Rattle.ca_node.specs.Place.{Place, left_place, right_place}
use Rattle.ca_node.specs.Ranging.{IsRanging}
use Rattle.ca_node.specs.RangesStay.{active_back, active_on, begun_on}
use Rattle.ca_node.specs.Reached.{same_place, base_at, link_range, reached, placed_linked, item_linked, item_out, lent_end, end_lent, unlent}
use Rattle.ca_node.specs.Row.{row_at, form, IsBaseRow, IsRouteRow, items, count, level, mark, mark_owner, mark_number, mark_bound, IsMarkedBy, IsMarkedFor, IsUnmarked, join_word, key, route_key, IsHeaded}
use Rattle.ca_node.specs.Scenes.{span_of, mark_of, scene_of}
use Rattle.ca_node.specs.Shape.{Role, Out, Base, Route, place_of, IsBaseAt, IsShape}
use Rattle.ca_node.specs.Stays.{word_at}
use Rattle.ca_rows.specs.Told.{relinked}
use Rattle.ca_node.specs.May.{MaySwap}
use Rattle.ca_node.specs.Told.{MyTree, IsHalf, IsDivision, given, taken_out, divided_inventory, divided, one_more_lost, IsDivided, IsMissed, Divides, HasDivided}
use Rattle.ca_node.specs.Tree.{IsTrue, IsTrueWay, Knows, IsTree}
use Rattle.ca_node.specs.TreeView.{Note, Way, Inventory, TreeView, Division}
use Rattle.ca_node.proofs.Divided.{IsNewRoute, AreDivided, with_route, with_route_route, with_route_left, with_route_right, with_route_old, with_route_else, route_was, shape_divided}
use Rattle.ca_node.proofs.Exchanging.{settled_over}
use Rattle.ca_node.proofs.Holding.{held_row, unclaimed_row}
use Rattle.ca_node.proofs.Joined.{unjoined_over, joined_keeps, states_keep, joining_keeps}
use Rattle.ca_node.proofs.Listing.{but_shorter, in_either, in_front, in_back, not_one, Relists, listed_again, known_by_one}
use Rattle.ca_node.proofs.Looking.{R, loses, hangs_still, of_map, knows_upper, in_more}
use Rattle.ca_node.proofs.Members.{in_notes, has, given_here, given_else, taken_here, taken_else}
use Rattle.ca_node.proofs.Relinked.{IsNewBase, relinked_wide, relinked_else, relinked_ranges, relinked_told, relinked_joins, relinked_keeps, relinked_row, base_no_route, out_no_route}
use Rattle.ca_node.proofs.Remembering.{shown_hangs, unlinked_out, note_stays, way_stays, ranges_stay, notes_stay}
use Rattle.ca_rows.specs.Layout.{row_words}
use Rattle.ca_node.specs.Layout.{root_word}

-- The base of a split is among the seat's notes.
pub was_shown : (z : Sizes) (m : MyTree) (x : Division) → IsDivision z m x
    → IsIn x.old m.0.upper.notes
was_shown z m x u = in_notes x.old m.0.upper.notes u.shown

-- A list is its first members and the others.
take_drop : {A : Type 0} (n : ℕ) (xs : List A) → xs ≡ take n xs ++ drop n xs
take_drop zero xs = refl
take_drop (suc n) [] = refl
take_drop (suc n) (x ∷ xs) = ap (λ ys. x ∷ ys) (take_drop n xs)

-- Where there is a member at a place, the others begin with it.
drop_at : {A : Type 0} (n : ℕ) (xs : List A) → n < length xs → (x : A) × (ys : List A)
    × (drop n xs ≡ x ∷ ys) × (get_elem? xs n ≡ some x)
drop_at n [] l = absurd (omega arith)
drop_at zero (x ∷ xs) l = (x, xs, refl, refl)
drop_at (suc n) (x ∷ xs) l = let r = drop_at n xs (omega arith) in (r.0, r.1, r.2, r.3)

module _ (z : Sizes) (s : State (Unit {0}) (View TreeView)) (r : R z s) (id : ℕ) (me : MyTree)
    (at : get_elem? s.views id ≡ some me.0) (x : Division)
    (u : IsDivision z me x) (hit : get_or s.words x.old.place.link 0 ≡ x.old.row) where
  abbrev d : View TreeView
  d = me.0

  abbrev f : IsTree z r.made s.words (map upper_of s.views)
  f = r.above

  abbrev role : ℕ → Role
  role = r.above.role

  abbrev last : StoreMap
  last = after r.above.history []

  abbrev shape : IsShape z s.words r.above.role (after r.above.history [])
  shape = r.above.shape

  abbrev place : Place
  place = x.old.place

  abbrev words' : List ℕ
  words' = set s.words x.old.place.link x.route

  abbrev knows : Knows z r.made s.words r.above.role (map upper_of s.views) r.above.history id
      d.upper
  knows = knows_upper z s r id d at

  is_last : IsStoreMap z.keypos last
  is_last = map_after z.keypos f.history [] f.edits tt

  old_true : IsTrue z.rows s.words r.above.role x.old
  old_true = knows.notes x.old (was_shown z me x u)

  -- The old base hangs where it was shown.
  is_old : r.above.role x.old.row ≡ Base x.old.place
  is_old = shown_hangs z s.words role last shape d.upper r.above.history knows.ways x.old old_true
      (knows.links x.old (was_shown z me x u)) hit (unjoined_over z s r id d at x.old.its u.settled.1)

  old_at : IsBaseAt z s.words r.above.role (after r.above.history []) x.old.place x.old.row
  old_at = base_at z s.words role last shape x.old.row x.old.place is_old

  held : (row : ℕ) (its : List ℕ) → claim_of d.claims row ≡ some (Holds its) → (0 < row)
      × (row ≤ z.rows) × (row_at s.words row ≡ its)
      × ¬ IsLinked s.words row
      × ((j : ℕ) (y : View TreeView) → get_elem? s.views j ≡ some y
      → ¬ IsNoted s.words y.upper row)
  held = held_row z s r id d at

  -- What the seat holds is nothing in the tree.
  held_out : (row : ℕ) (its : List ℕ) → claim_of d.claims row ≡ some (Holds its)
      → r.above.role row ≡ Out
  held_out row its e = unlinked_out z s.words role last shape row (held row its e).3

  old_item : (row : ℕ) → IsIn row (items x.old.its) → IsIn row (items (row_at s.words x.old.row))
  old_item row i = subst (λ its. IsIn row (items its)) (sym old_true.spells) i

  objects_are : map (λ c. row_at s.words c) (items x.old.its) ≡ x.old.objects
  objects_are = old_true.objects_are u.old_base

  -- A half is a base that may come.
  half : (row : ℕ) (its these : List ℕ) (objects : List (List ℕ)) (there : Place)
      → there.level ≡ x.old.place.level + 1
      → claim_of d.claims row ≡ some (Holds its)
      → IsHalf z x.old.place.level these objects its
      → ((c : ℕ) → IsIn c these → IsIn c (items x.old.its))
      → map (λ c. row_at s.words c) these ≡ objects
      → IsNewBase z s.words r.above.role there row
  half row its these objects there below e h within are = let w = held row its e in
      let items_are = ap items w.2 ∙ h.items_are in record {
        some_row = w.0;
        in_range = w.1;
        is_out = held_out row its e;
        is_base = subst IsBaseRow (sym w.2) h.is_base;
        level_is = ap level w.2 ∙ (h.level_is ∙ sym below);
        few = subst (λ y. count y ≤ z.leaf) (sym w.2) h.few;
        marked = inl (subst IsUnmarked (sym w.2) h.unmarked);
        bounded = λ border b. let none : mark (row_at s.words row) ≡ 0 = ap mark w.2 ∙ h.unmarked in
            let one = b.0 in absurd (omega arith);
        are_objects =
            λ c i. old_at.are_objects c
            (old_item c (within c (subst (IsIn c) items_are i)));
        headed = subst (λ (y : List ℕ × List (List ℕ)). IsHeaded y.0 y.1) (λ i. (
          sym w.2 i,
          sym (ap (map (λ c. row_at s.words c)) items_are ∙ are) i,
        )) h.headed;
      }

  both : items x.old.its ≡ take x.middle (items x.old.its) ++ drop x.middle (items x.old.its)
  both = take_drop x.middle (items x.old.its)

  left_base : IsNewBase z s.words r.above.role
      (left_place x.old.place (route_key x.route_its) x.route) x.left
  left_base =
      half x.left x.left_its (take x.middle (items x.old.its)) (take x.middle x.old.objects)
      (left_place x.old.place (route_key x.route_its) x.route) refl u.held_left u.is_left
      (λ c i. subst (IsIn c) (sym both)
      (in_front (take x.middle (items x.old.its)) (drop x.middle (items x.old.its)) c i))
      (sym (take-map (λ c. row_at s.words c) x.middle (items x.old.its))
      ∙ ap (take x.middle) objects_are)

  right_base : IsNewBase z s.words r.above.role
      (right_place x.old.place (route_key x.route_its) x.route) x.right
  right_base =
      half x.right x.right_its (drop x.middle (items x.old.its)) (drop x.middle x.old.objects)
      (right_place x.old.place (route_key x.route_its) x.route) refl u.held_right u.is_right
      (λ c i. subst (IsIn c) (sym both)
      (in_back (take x.middle (items x.old.its)) (drop x.middle (items x.old.its)) c i))
      (sym (drop-map (λ c. row_at s.words c) x.middle (items x.old.its))
      ∙ ap (drop x.middle) objects_are)

  new_route : IsNewRoute z s.words r.above.role x.old.place.level (route_key x.route_its) x.left
      x.right x.route
  new_route = let w = held x.route x.route_its u.held_route in record {
    some_row = w.0;
    in_range = w.1;
    is_out = held_out x.route x.route_its u.held_route;
    is_route = subst IsRouteRow (sym w.2) u.is_route;
    level_is = ap level w.2 ∙ u.route_level;
    short = subst (λ y. count y ≤ 1000) (sym w.2) u.short;
    key_is = ap route_key w.2;
    left_is = ap (λ y. get_or y 1 0) w.2 ∙ u.left_link;
    right_is = ap (λ y. get_or y 2 0) w.2 ∙ u.right_link;
  }

  left_items : items (row_at s.words x.left) ≡ take x.middle (items x.old.its)
  left_items = ap items (held x.left x.left_its u.held_left).2 ∙ u.is_left.items_are

  right_items : items (row_at s.words x.right) ≡ drop x.middle (items x.old.its)
  right_items = ap items (held x.right x.right_its u.held_right).2 ∙ u.is_right.items_are

  -- The object at a place of the old base, by its row.
  object_is : (k row : ℕ) → get_elem? (items x.old.its) k ≡ some row
      → get_or x.old.objects k [] ≡ row_at s.words row
  object_is k row e = at_place x.old.objects k (row_at s.words row) (ap
      (λ xs. get_elem? xs k) (sym objects_are)
      ∙ at_map (λ c. row_at s.words c) (items x.old.its) k row e)
    where
      at_place : (xs : List (List ℕ)) (k : ℕ) (y : List ℕ) → get_elem? xs k ≡ some y
          → get_or xs k [] ≡ y
      at_place [] k y e = absurd (some-ne-none y (sym e))
      at_place (z ∷ xs) zero y e = some-injective z y e
      at_place (z ∷ xs) (suc k) y e = at_place xs k y e

  -- The first item that goes right, and those behind it.
  first : (row : ℕ) × (rest : List ℕ) × (drop x.middle (items x.old.its) ≡ row ∷ rest)
      × (get_elem? (items x.old.its) x.middle ≡ some row)
  first = drop_at x.middle (items x.old.its) (let e = ap
      (λ (xs : List (List ℕ)). length xs) objects_are in
      let l = length-map (items x.old.its) (λ c. row_at s.words c) in let lo = u.middle_is in
      omega arith)

  -- The first item that goes left, and those behind it.
  left_first : (row : ℕ) × (rest : List ℕ) × (take x.middle (items x.old.its) ≡ row ∷ rest)
  left_first = begins_with x.middle (items x.old.its) u.some_left (let e = ap
      (λ (xs : List (List ℕ)). length xs) objects_are in
      let l = length-map (items x.old.its) (λ c. row_at s.words c) in let lo = u.middle_is in
      omega arith)
    where
      begins_with : (n : ℕ) (xs : List ℕ) → 0 < n → 0 < length xs
          → (row : ℕ) × (rest : List ℕ) × (take n xs ≡ row ∷ rest)
      begins_with zero xs lo any = absurd (omega arith)
      begins_with (suc n) [] lo any = absurd (omega arith)
      begins_with (suc n) (y ∷ ys) lo any = (y, take n ys, refl)

  are_divided : AreDivided s.words x.old.row x.left x.right (route_key x.route_its)
  are_divided = record {
    both = ap items old_true.spells
        ∙ (both ∙ (ap (λ (xs : List ℕ). xs ++ drop x.middle (items x.old.its)) (sym left_items)
        ∙ ap (λ (xs : List ℕ). items (row_at s.words x.left) ++ xs) (sym right_items)));
    left_first = left_first.0;
    left_rest = left_first.1;
    left_begins = left_items ∙ left_first.2;
    first = first.0;
    rest = first.1;
    begins = right_items ∙ first.2;
    key_is = ap key (sym (object_is x.middle first.0 first.3)) ∙ sym u.key_is;
  }

  abbrev role' : ℕ → Role
  role' = with_route r.above.role x.old.place (route_key x.route_its) x.old.row x.route x.left
      x.right

  shape' : IsShape z words' role' last
  shape' = shape_divided z s.words role last shape z.keypos is_last x.old.row place is_old u.above
      (route_key x.route_its) x.route x.left x.right
      (λ e. u.apart.0 (sym e)) (λ e. u.apart.1 (sym e))
      (λ e. u.apart.2 (sym e)) new_route left_base right_base are_divided

  -- A route is the new one, or one of the old tree.
  routes_back : (c : ℕ) (p : Place) (key : List ℕ) → role' c ≡ Route p key → (c ≡ x.route) ⊎ (r.above.role c ≡ Route p key)
  routes_back = route_was z s.words role last shape z.keypos is_last x.old.row place is_old u.above
      (route_key x.route_its) x.route x.left x.right
      (λ e. u.apart.0 (sym e)) (λ e. u.apart.1 (sym e))
      (λ e. u.apart.2 (sym e)) new_route left_base right_base are_divided

  -- A row that is nothing in the tree isn't the old base.
  other : (c : ℕ) → r.above.role c ≡ Out → x.old.row ≢ c
  other c e same = let y : Base place ≡ Out = sym is_old ∙ (ap role same ∙ e) in cc

  role_route : role' x.route ≡ Route x.old.place (route_key x.route_its)
  role_route = with_route_route role place (route_key x.route_its) x.old.row x.route x.left x.right

  role_left : role' x.left ≡ Base (left_place x.old.place (route_key x.route_its) x.route)
  role_left = with_route_left role place (route_key x.route_its) x.old.row x.route x.left x.right
      (λ e. u.apart.0 (sym e))

  role_right : role' x.right ≡ Base (right_place x.old.place (route_key x.route_its) x.route)
  role_right = with_route_right role place (route_key x.route_its) x.old.row x.route x.left x.right
      (λ e. u.apart.1 (sym e)) (λ e. u.apart.2 (sym e))

  role_old : role' x.old.row ≡ Out
  role_old = with_route_old role place (route_key x.route_its) x.old.row x.route x.left x.right
      (other x.route new_route.is_out) (other x.left left_base.is_out)
      (other x.right right_base.is_out)

  -- The row comes by the split.
  abbrev Coming : ℕ → Type 0
  Coming c = IsIn c (x.route ∷ x.left ∷ x.right ∷ [])

  comes_out : (c : ℕ) → Coming c → r.above.role c ≡ Out
  comes_out c i = ⊎_elim (λ (e : x.route ≡ c). ap role (sym e) ∙ new_route.is_out)
      (λ j. ⊎_elim (λ (e : x.left ≡ c). ap role (sym e) ∙ left_base.is_out)
      (λ k. ⊎_elim (λ (e : x.right ≡ c). ap role (sym e) ∙ right_base.is_out)
      (λ l. absurd (some-ne-none c (sym l.1))) (in_more x.right c [] k))
      (in_more x.left c (x.right ∷ []) j)) (in_more x.route c (x.left ∷ x.right ∷ []) i)

  role_else : (c : ℕ) → ¬ Coming c → c ≢ x.old.row → role' c ≡ r.above.role c
  role_else c n ne =
      with_route_else role place (route_key x.route_its) x.old.row x.route x.left x.right c
      (λ e. n (0, ap some (sym e))) (λ e. n (1, ap some (sym e))) (λ e. n (2, ap some (sym e))) ne

  -- What has a role doesn't come.
  no_coming : (c : ℕ) (p : Place) → place_of (r.above.role c) ≡ some p → ¬ Coming c
  no_coming c p e i = some-ne-none p (sym e ∙ ap place_of (comes_out c i))

  wide' : IsWide z.rows words'
  wide' = relinked_wide z s.words role last shape x.old.row place (ap place_of is_old) x.route

  base_stays : (c : ℕ) (p : Place) → r.above.role c ≡ Base p → row_at words' c ≡ row_at s.words c
  base_stays c p e = let b = base_at z s.words role last shape c p e in
      relinked_row z s.words role last shape x.old.row place (ap place_of is_old) x.route c b.some_row b.in_range
      (base_no_route role c p e)

  out_stays : (c : ℕ) → 0 < c → c ≤ z.rows → r.above.role c ≡ Out
      → row_at words' c ≡ row_at s.words c
  out_stays c lo hi e =
      relinked_row z s.words role last shape x.old.row place (ap place_of is_old) x.route c lo hi
      (out_no_route role c e)

  old_linked : IsLinked s.words x.old.row
  old_linked = placed_linked z s.words role last shape x.old.row place (ap place_of is_old)

  come_linked : (c : ℕ) → Coming c → IsLinked words' c
  come_linked c i = ⊎_elim (λ (e : x.route ≡ c). by x.route c place (ap place_of role_route) e)
      (λ j. ⊎_elim (λ (e : x.left ≡ c). by x.left c _ (ap place_of role_left) e)
      (λ k. ⊎_elim (λ (e : x.right ≡ c). by x.right c _ (ap place_of role_right) e)
      (λ l. absurd (some-ne-none c (sym l.1))) (in_more x.right c [] k))
      (in_more x.left c (x.right ∷ []) j)) (in_more x.route c (x.left ∷ x.right ∷ []) i)
    where
      by : (a c : ℕ) (p : Place) → place_of (role' a) ≡ some p → a ≡ c → IsLinked words' c
      by a c p e same =
          subst (IsLinked words') same (placed_linked z words' role' last shape' a p e)

  -- The items of a base of the new tree are those of a base of the old one.
  was_item : (row base : ℕ) (p : Place) → role' base ≡ Base p
      → IsIn row (items (row_at words' base))
      → (b : ℕ) × (q : Place) × (r.above.role b ≡ Base q) × IsIn row (items (row_at s.words b))
  was_item row base p e i = ⊎_elim
      (λ (c : Coming base). ⊎_elim
      (λ (same : x.route ≡ base).
      let y : Route place (route_key x.route_its) ≡ Base p = sym role_route
      ∙ (ap role' same ∙ e) in absurd cc)
      (λ j. ⊎_elim
      (λ (same : x.left ≡ base). (
        x.old.row,
        place,
        is_old,
        old_item row (subst (IsIn row) (sym both) (in_front (take x.middle (items x.old.its))
            (drop x.middle (items x.old.its)) row
            (subst (IsIn row) left_items (subst (λ its. IsIn row (items its))
            (ap (row_at words') (sym same)
            ∙ out_stays x.left left_base.some_row left_base.in_range left_base.is_out) i)))),
      ))
      (λ k. ⊎_elim
      (λ (same : x.right ≡ base). (
        x.old.row,
        place,
        is_old,
        old_item row (subst (IsIn row) (sym both) (in_back (take x.middle (items x.old.its))
            (drop x.middle (items x.old.its)) row
            (subst (IsIn row) right_items (subst (λ its. IsIn row (items its))
            (ap (row_at words') (sym same)
            ∙ out_stays x.right right_base.some_row right_base.in_range right_base.is_out)
            i)))),
      ))
      (λ l. absurd (some-ne-none base (sym l.1))) (in_more x.right base [] k))
      (in_more x.left base (x.right ∷ []) j)) (in_more x.route base (x.left ∷ x.right ∷ []) c))
      (λ (n : ¬ Coming base). dite (ℕ_discrete base x.old.row)
      (λ (o : base ≡ x.old.row). let y : Out ≡ Base p = sym role_old ∙ (ap role' (sym o) ∙ e) in
      absurd cc)
      (λ (ne : base ≢ x.old.row). let is = sym (role_else base n ne) ∙ e in
      (base, p, is, subst (λ its. IsIn row (items its)) (base_stays base p is) i)))
      (has (x.route ∷ x.left ∷ x.right ∷ []) base)

  -- The other way round.
  item_now : (row base : ℕ) (p : Place) → r.above.role base ≡ Base p
      → IsIn row (items (row_at s.words base)) → IsLinked words' row
  item_now row base p e i = dite (ℕ_discrete base x.old.row)
      (λ (o : base ≡ x.old.row). ⊎_elim
      (λ (j : IsIn row (take x.middle (items x.old.its))). item_linked z words' role' last shape'
      x.left _ role_left row (subst (λ its. IsIn row (items its))
      (sym (out_stays x.left left_base.some_row left_base.in_range left_base.is_out))
      (subst (IsIn row) (sym left_items) j)))
      (λ (j : IsIn row (drop x.middle (items x.old.its))). item_linked z words' role' last shape'
      x.right _ role_right row (subst (λ its. IsIn row (items its))
      (sym (out_stays x.right right_base.some_row right_base.in_range right_base.is_out))
      (subst (IsIn row) (sym right_items) j)))
      (in_either (take x.middle (items x.old.its)) (drop x.middle (items x.old.its)) row
      (subst (IsIn row) both
      (subst (λ its. IsIn row (items its)) (ap (row_at s.words) o ∙ old_true.spells) i))))
      (λ (ne : base ≢ x.old.row). item_linked z words' role' last shape' base p
      (role_else base (no_coming base p (ap place_of e)) ne ∙ e) row
      (subst (λ its. IsIn row (items its)) (sym (base_stays base p e)) i))

  -- The range that marked the old base is over.
  old_over : (pass number : ℕ) → IsMarkedBy (row_at s.words x.old.row) pass number
      → ¬ IsActive s.words pass number
  old_over pass number m = settled_over z s r id me.0 at x.old.its u.settled.0 pass number
      (subst (λ its. IsMarkedBy its pass number) old_true.spells m)

  -- What is marked in the new tree was a base of the old one: no range has a base that comes.
  was_marked : (c : ℕ) (p : Place) → role' c ≡ Base p → mark (row_at words' c) ≡ 1
      → (r.above.role c ≡ Base p) × (c ≢ x.old.row)
  was_marked c p e m = ⊎_elim
      (λ (i : Coming c). ⊎_elim
      (λ (same : x.route ≡ c). let y : Route place (route_key x.route_its) ≡ Base p =
      sym role_route ∙ (ap role' same ∙ e) in absurd cc)
      (λ j. ⊎_elim
      (λ (same : x.left ≡ c). absurd (half_unmarked x.left x.left_its left_base.some_row
      left_base.in_range left_base.is_out (held x.left x.left_its u.held_left).2 u.is_left.unmarked
      same))
      (λ k. ⊎_elim
      (λ (same : x.right ≡ c). absurd (half_unmarked x.right x.right_its right_base.some_row
      right_base.in_range right_base.is_out (held x.right x.right_its u.held_right).2
      u.is_right.unmarked same))
      (λ l. absurd (some-ne-none c (sym l.1))) (in_more x.right c [] k))
      (in_more x.left c (x.right ∷ []) j)) (in_more x.route c (x.left ∷ x.right ∷ []) i))
      (λ (n : ¬ Coming c). dite (ℕ_discrete c x.old.row)
      (λ (o : c ≡ x.old.row). let y : Out ≡ Base p = sym role_old ∙ (ap role' (sym o) ∙ e) in
      absurd cc)
      (λ (ne : c ≢ x.old.row). (sym (role_else c n ne) ∙ e, ne)))
      (has (x.route ∷ x.left ∷ x.right ∷ []) c)
    where
      half_unmarked : (part : ℕ) (its : List ℕ) → 0 < part → part ≤ z.rows → role part ≡ Out
          → row_at s.words part ≡ its → IsUnmarked its → part ≡ c → ⊥
      half_unmarked part its lo hi out spells unmarked same =
          let zero_mark : mark (row_at words' c) ≡ 0 = ap (λ k. mark (row_at words' k)) (sym same)
          ∙ (ap mark (out_stays part lo hi out ∙ spells) ∙ unmarked) in omega arith

  same_ranges : (pass : ℕ) → 0 < pass → pass ≤ 64 → result_of words' pass ≡ result_of s.words pass
  same_ranges = relinked_ranges z s.words role last shape x.old.row place (ap place_of is_old) x.route

  -- A base stays that an active range marked.
  marked_stay : (c : ℕ) (p : Place) (pass number : ℕ) → r.above.role c ≡ Base p
      → IsMarkedBy (row_at s.words c) pass number → IsActive s.words pass number
      → role' c ≡ Base p
  marked_stay c p pass number e m now = role_else c (no_coming c p (ap place_of e))
      (λ o. old_over pass number (subst (λ k. IsMarkedBy (row_at s.words k) pass number) o m) now)
      ∙ e

  -- What is lent is the same.
  lent_on : (row : ℕ) → IsLent s.words row → IsLent words' row
  lent_on row l = let t = lent_end z s.words role last shape row l in
      let same = base_stays t.0 t.1 t.2 in
      end_lent z words' role' last shape' row (
        t.0,
        t.1,
        marked_stay t.0 t.1 (mark_owner (row_at s.words t.0)) (mark_number (row_at s.words t.0)) t.2
            (t.3.0, refl, refl) t.3.1,
        subst (λ its. (mark its ≡ 1) × IsActive words' (mark_owner its) (mark_number its)
            × (mark_bound its ≡ row)) (sym same)
            (t.3.0, active_on z s.words words' role role' same_ranges _ _ t.3.1, t.3.2),
      )

  lent_back : (row : ℕ) → IsLent words' row → IsLent s.words row
  lent_back row l = let t = lent_end z words' role' last shape' row l in
      let b = was_marked t.0 t.1 t.2 t.3.0 in
      let c = subst (λ its. (mark its ≡ 1) × IsActive words' (mark_owner its) (mark_number its)
      × (mark_bound its ≡ row)) (base_stays t.0 t.1 b.0) t.3 in
      end_lent z s.words role last shape row (
        t.0,
        t.1,
        b.0,
        (c.0, active_back z s.words words' role role' same_ranges _ _ c.1, c.2),
      )

  stays_back : (row : ℕ) → ¬ Coming row → IsLinked words' row → IsLinked s.words row
  stays_back row n l = ⊎_elim
      (λ (t : (p : Place) × (place_of (role' row) ≡ some p)). dite (ℕ_discrete row x.old.row)
      (λ (e : row ≡ x.old.row). subst (IsLinked s.words) (sym e) old_linked)
      (λ (ne : row ≢ x.old.row). placed_linked z s.words role last shape row t.0
      (ap place_of (sym (role_else row n ne)) ∙ t.1)))
      (λ y. ⊎_elim
      (λ (t : (base : ℕ) × (p : Place) × (role' base ≡ Base p)
      × IsIn row (items (row_at words' base))). let w = was_item row t.0 t.1 t.2 t.3 in
      item_linked z s.words role last shape w.0 w.1 w.2 row w.3)
      (λ (t : (base : ℕ) × (p : Place) × (role' base ≡ Base p) × IsBoundOf words' base row).
      let k = lent_back row (end_lent z words' role' last shape' row t) in
      by_range k.0 row k.1 k.2 k.3)
      y)
      (reached z words' role' last shape' row l)

  stays_on : (row : ℕ) → row ≢ x.old.row → IsLinked s.words row → IsLinked words' row
  stays_on row ne l = ⊎_elim
      (λ (t : (p : Place) × (place_of (role row) ≡ some p)).
      placed_linked z words' role' last shape' row t.0
      (ap place_of (role_else row (no_coming row t.0 t.1) ne) ∙ t.1))
      (λ y. ⊎_elim
      (λ (t : (base : ℕ) × (p : Place) × (role base ≡ Base p)
      × IsIn row (items (row_at s.words base))). item_now row t.0 t.1 t.2 t.3)
      (λ (t : (base : ℕ) × (p : Place) × (role base ≡ Base p) × IsBoundOf s.words base row).
      let k = lent_on row (end_lent z s.words role last shape row t) in
      by_range k.0 row k.1 k.2 k.3)
      y)
      (reached z s.words role last shape row l)

  -- The old base isn't lent.
  old_unlent : ¬ IsLent s.words x.old.row
  old_unlent = unlent z s.words role last shape x.old.row
      (λ (f : form (row_at s.words x.old.row) ≡ 4). let b = old_at.is_base in omega arith)

  -- The old base is nothing the new tree has.
  old_unlinked : ¬ IsLinked words' x.old.row
  old_unlinked l = ⊎_elim
      (λ (t : (p : Place) × (place_of (role' x.old.row) ≡ some p)). some-ne-none t.0 (sym t.1
      ∙ ap place_of role_old))
      (λ k. ⊎_elim
      (λ (t : (base : ℕ) × (p : Place) × (role' base ≡ Base p)
      × IsIn x.old.row (items (row_at words' base))).
      let w = was_item x.old.row t.0 t.1 t.2 t.3 in
      let y : Base place ≡ Out = sym is_old
      ∙ item_out z s.words role last shape w.0 w.1 w.2 x.old.row w.3 in cc)
      (λ (t : (base : ℕ) × (p : Place) × (role' base ≡ Base p) × IsBoundOf words' base x.old.row).
      old_unlent (lent_back x.old.row (end_lent z words' role' last shape' x.old.row t)))
      k)
      (reached z words' role' last shape' x.old.row l)

  abbrev ins : List ℕ
  ins = x.route ∷ x.left ∷ x.right ∷ []

  abbrev outs : List ℕ
  outs = x.old.row ∷ []

  held_in : (row : ℕ) → IsIn row ins → (its : List ℕ) × (claim_of d.claims row ≡ some (Holds its))
  held_in row i = ⊎_elim
      (λ (e : x.route ≡ row). (x.route_its, ap (claim_of d.claims) (sym e) ∙ u.held_route))
      (λ j. ⊎_elim
      (λ (e : x.left ≡ row). (x.left_its, ap (claim_of d.claims) (sym e) ∙ u.held_left))
      (λ k. ⊎_elim
      (λ (e : x.right ≡ row). (x.right_its, ap (claim_of d.claims) (sym e) ∙ u.held_right))
      (λ l. absurd (some-ne-none row (sym l.1)))
      (in_more x.right row [] k)) (in_more x.left row (x.right ∷ []) j))
      (in_more x.route row (x.left ∷ x.right ∷ []) i)

  -- What comes isn't lent before.
  in_unlinked : (row : ℕ) → IsIn row ins → ¬ IsLent s.words row
  in_unlinked row i l = let h = held_in row i in (held row h.0 h.1).3 (by_range l.0 row l.1 l.2 l.3)

  is_out : (row : ℕ) → IsIn row outs → row ≡ x.old.row
  is_out row o = ⊎_elim (λ (e : x.old.row ≡ row). sym e)
      (λ l. absurd (some-ne-none row (sym l.1))) (in_more x.old.row row [] o)

  apart : (row : ℕ) → IsIn row ins → ¬ IsIn row outs
  apart row i o = other row (comes_out row i) (sym (is_out row o))

  abbrev u' : TreeView
  u' = divided x d.upper

  abbrev d' : View TreeView
  d' = (relinked me (taken_out outs (given ins d.claims)) u').0

  kind_by : (row : ℕ) → IsIn row ins ⊎ ¬ IsIn row ins → IsIn row outs ⊎ ¬ IsIn row outs → Change
  kind_by row (inl i) o = Comes
  kind_by row (inr n) (inl o) = Goes
  kind_by row (inr n) (inr m) = Stays

  kind : ℕ → Change
  kind row = kind_by row (has ins row) (has outs row)

  abbrev IsSo : ℕ → Change → Type 0
  IsSo = IsChange IsLinked IsLent IsNoted IsTree tree_lends z s r id d d' words' kind

  changed : (row : ℕ) (a : IsIn row ins ⊎ ¬ IsIn row ins) (b : IsIn row outs ⊎ ¬ IsIn row outs)
      → IsSo row (kind_by row a b)
  unfolding kind_by
  changed row (inl i) b = (
    come_linked row i,
    (λ l. in_unlinked row i (lent_back row l)),
    held_in row i,
    taken_else outs (given ins d.claims) row (apart row i) ∙ given_here ins d.claims row i,
  )
  changed row (inr n) (inl o) = (
    subst (IsLinked s.words) (sym (is_out row o)) old_linked,
    (λ l. old_unlent (subst (IsLent s.words) (is_out row o) l)),
    (λ l. old_unlinked (subst (IsLinked words') (is_out row o) l)),
    taken_here outs (given ins d.claims) row o,
    u.is_pinned,
  )
  changed row (inr n) (inr m) = (
    stays_back row n,
    stays_on row (λ e. m (0, ap some (sym e))),
    lent_back row,
    lent_on row,
    taken_else outs (given ins d.claims) row m ∙ given_else ins d.claims row n,
  )

  changed_now : (c : ℕ) → IsSo c (kind c)
  unfolding kind
  changed_now c = changed c (has ins c) (has outs c)

  -- What seats remember.
  routes_stay : (c : ℕ) (p : Place) (key : List ℕ) → r.above.role c ≡ Route p key
      → role' c ≡ Route p key
  routes_stay c p key e = role_else c (no_coming c p (ap place_of e))
      (λ o. (let y : Route p key ≡ Base place = sym e ∙ (ap role o ∙ is_old) in cc)) ∙ e

  bases_stay : (c : ℕ) (p : Place) → r.above.role c ≡ Base p → (role' c ≡ Base p) ⊎ (role' c ≡ Out)
  bases_stay c p e = dite (ℕ_discrete c x.old.row)
      (λ (o : c ≡ x.old.row). inr (ap role' o ∙ role_old))
      (λ (ne : c ≢ x.old.row). inl (role_else c (no_coming c p (ap place_of e)) ne ∙ e))

  outs_stay : (c : ℕ) → r.above.role c ≡ Out → ¬ Coming c → role' c ≡ Out
  outs_stay c e n = role_else c n (λ o. other c e (sym o)) ∙ e

  unnoted : (j : ℕ) (y : View TreeView) → get_elem? s.views j ≡ some y → (c : ℕ) → Coming c
      → ¬ IsNoted s.words y.upper c
  unnoted j y here c i = let h = held_in c i in (held c h.0 h.1).4 j y here

  note_keeps : (j : ℕ) (y : View TreeView) → get_elem? s.views j ≡ some y → (note : Note)
      → IsIn note y.upper.notes → IsTrue z.rows words' role' note
  note_keeps j y here note i =
      note_stays z s.words role last shape x.old.row place (ap place_of is_old) x.route role' last shape' Coming (λ _. ⊥)
      (λ c p key e. inl (routes_stay c p key e)) (λ c d x. absurd x) bases_stay outs_stay marked_stay
      y.upper (unnoted j y here) note (by_note note note.row i refl)
      ((knows_upper z s r j y here).notes note i)

  way_keeps : (j : ℕ) (y : View TreeView) → get_elem? s.views j ≡ some y → (way : Way)
      → IsIn way y.upper.ways → IsTrueWay z words' role' y.upper.since r.above.history way
  way_keeps j y here way i =
      way_stays z s.words role last shape x.old.row place (ap place_of is_old) x.route role' last shape' Coming (λ _. ⊥)
      (λ c p key e. inl (routes_stay c p key e)) (λ c d x. absurd x) bases_stay outs_stay marked_stay
      y.upper (unnoted j y here) r.above.history r.above.history (λ at l. (l, refl)) (λ w a x. absurd x) way i ((knows_upper z s r j y here).ways way i)

  notes_keep : (j : ℕ) (y : View TreeView) → get_elem? s.views j ≡ some y → (c : ℕ)
      → IsNoted words' y.upper c
      → IsNoted s.words y.upper c ⊎ (IsLinked words' c × (y.pin.pinned ≡ true))
  notes_keep j y here c n = ⊎_elim (λ o. inl o)
      (λ l. inr (l.0, (r.seat j y here).noted_pinned l.1.0 l.1.1))
      (notes_stay z s.words role last shape x.old.row place (ap place_of is_old) x.route role' last shape' Coming (λ _. ⊥)
      (λ c p key e. inl (routes_stay c p key e)) (λ c d x. absurd x) bases_stay outs_stay marked_stay
      y.upper (unnoted j y here) (r.above.ranged.ends y.upper.number) f.history
      (f.ranged.each j y.upper (at_map upper_of s.views j y here))
      (knows_upper z s r j y here).ways c n)

  -- A seat knows of ranges what it knew.
  ranging_still : (j : ℕ) (y : View TreeView) → get_elem? s.views j ≡ some y
      → IsRanging z words' role' (r.above.ranged.ends y.upper.number) y.upper.since
      r.above.history y.upper.number y.upper.ranges
  ranging_still j y here =
      ranges_stay z s.words role last shape x.old.row place (ap place_of is_old) x.route role' last shape' Coming (λ _. ⊥)
      (λ c p key e. inl (routes_stay c p key e)) (λ c d x. absurd x) bases_stay outs_stay marked_stay
      y.upper (unnoted j y here) (r.above.ranged.ends y.upper.number) f.history
      (f.ranged.each j y.upper (at_map upper_of s.views j y here)) f.history (λ at l. (l, refl))
      (λ number now none c base m. let b = was_marked c base.0 base.1 m.0 in
      none c (base.0, b.0) (subst (λ its. IsMarkedBy its y.upper.number number)
      (base_stays c base.0 b.0) m))

  -- Runs stay as they are.
  runs_now : AreRuns (scene_of words' role') r.above.ranged.ends
  runs_now = runs_still (scene_of s.words role) (scene_of words' role') f.ranged.ends f.ranged.runs record {
    alike = record {
      active = active_on z s.words words' role role' same_ranges;
      was_active = active_back z s.words words' role role' same_ranges;
      begun = begun_on z s.words words' role role' same_ranges;
    };
    stay = λ pass number row now base m. let e = marked_stay row base.0 pass number base.1 m now in (
      (base.0, e),
      ap span_of e ∙ sym (ap span_of base.1),
      ap mark_of (base_stays row base.0 base.1),
    );
    begun = λ pass number row base m. let b = was_marked row base.0 base.1 m.0 in
        begun_on z s.words words' role role' same_ranges pass number
        (f.ranged.runs.begun pass number row (base.0, b.0)
        (subst (λ its. IsMarkedBy its pass number) (base_stays row base.0 b.0) m));
    were = λ pass number row base m now. let b = was_marked row base.0 base.1 m.0 in
        ((base.0, b.0), subst (λ its. IsMarkedBy its pass number) (base_stays row base.0 b.0) m);
  }

  -- No join under way has the old base, and none the new route.
  old_free : (route attempt : ℕ) → IsMarkedFor (row_at s.words x.old.row) route attempt → ¬ IsUnderWay s.words route attempt
  old_free route attempt m = unjoined_over z s r id me.0 at x.old.its u.settled.1 route attempt
      (subst (λ its. IsMarkedFor its route attempt) old_true.spells m)

  route_word : join_of words' x.route % 4 ≡ 0
  route_word = let w = held x.route x.route_its u.held_route in
      let e = relinked_joins z s.words role last shape x.old.row place (ap place_of is_old) x.route x.route in
      let word : join_word x.route_its ≡ join_of s.words x.route = ap (λ its. get_or its 3 0) (sym w.2) ∙ word_at s.words x.route 3 (omega arith) in
      let zero = u.idle in omega arith

  route_idle : (attempt : ℕ) → ¬ IsUnderWay words' x.route attempt
  route_idle attempt now = let zero = route_word in ⊎_elim (λ q. omega arith) (λ q. omega arith) now

  mine : get_elem? (map upper_of s.views) id ≡ some d.upper
  mine = at_map upper_of s.views id d at

  -- A seat knows what it knew.
  knows_still : (j : ℕ) (y : View TreeView) → get_elem? s.views j ≡ some y
      → Knows z r.made words' role' (set (map upper_of s.views) id u') r.above.history j
      y.upper
  knows_still j y here = let k = relisted z r.made s.words role (map upper_of s.views)
      (set (map upper_of s.views) id u') f.history j y.upper
      (numbered (map upper_of s.views) id d.upper u' mine (λ _. refl))
      (knows_upper z s r j y here) in record {
        made_before = k.made_before;
        alone = k.alone;
        seen_first = k.seen_first;
        since_first = k.since_first;
        lawful = k.lawful;
        past = k.past;
        notes = note_keeps j y here;
        links = k.links;
        ways = way_keeps j y here;
        way_links = k.way_links;
        one_place = k.one_place;
        joining = let w = knows_upper z s r j y here in
            joining_keeps z s.words role last shape x.old.row place (ap place_of is_old) x.route (λ _. old_free) y.upper w.links
            w.notes w.joining;
        ended = k.ended;
      }

  own_knows : Knows z r.made words' role' (set (map upper_of s.views) id u') r.above.history id
      u'
  own_knows = let k = knows_still id d at in record {
    made_before = k.made_before;
    alone = k.alone;
    seen_first = k.seen_first;
    since_first = k.since_first;
    lawful = k.lawful;
    past = k.past;
    notes = λ note i. absurd (in_nothing note [] refl i);
    links = λ note i. absurd (in_nothing note [] refl i);
    ways = k.ways;
    way_links = k.way_links;
    one_place = k.one_place;
    joining = joining_unnoted words' d.upper.notes d.upper.ways d.upper.ranges.joins k.joining;
    ended = k.ended;
  }

  -- No other control word changes.
  control : (i : ℕ) → i < row_words → i ≢ root_word → get_or words' i 0 ≡ get_or s.words i 0
  control i l ne = relinked_else z s.words role last shape x.old.row place (ap place_of is_old) x.route i
      (λ e. ⊎_elim (λ (t : x.old.place.link ≡ root_word). ne (omega arith))
      (λ t. let lo = t.0 in
      omega arith) (link_range z s.words role last shape x.old.place.link old_at.is_link))

  -- the bases that come
  abbrev left_part : ℕ × Place
  left_part = (x.left, left_place x.old.place (route_key x.route_its) x.route)

  abbrev right_part : ℕ × Place
  right_part = (x.right, right_place x.old.place (route_key x.route_its) x.route)

  abbrev parts : List (ℕ × Place)
  parts = left_part ∷ right_part ∷ []

  -- A base that comes is one of the two.
  which : (row : ℕ) (p : Place) → IsIn (row, p) parts → (left_part ≡ (row, p))
      ⊎ (right_part ≡ (row, p))
  which row p i = ⊎_elim (λ e. inl e)
      (λ j. ⊎_elim (λ e. inr e)
      (λ k. absurd (in_nothing (row, p) [] refl k)) (in_more right_part (row, p) [] j))
      (in_more left_part (row, p) (right_part ∷ []) i)

  part_now : (row : ℕ) (p : Place) → IsIn (row, p) parts → role' row ≡ Base p
  part_now row p i = ⊎_elim (by left_part role_left) (by right_part role_right) (which row p i)
    where
      by : (b : ℕ × Place) → role' b.0 ≡ Base b.1 → b ≡ (row, p) → role' row ≡ Base p
      by b is e = ap (λ (c : ℕ × Place). role' c.0) (sym e)
          ∙ (is ∙ ap (λ (c : ℕ × Place). Base c.1) e)

  part_out : (row : ℕ) (p : Place) → IsIn (row, p) parts → r.above.role row ≡ Out
  part_out row p i =
      ⊎_elim (by left_part left_base.is_out) (by right_part right_base.is_out) (which row p i)
    where
      by : (b : ℕ × Place) → role b.0 ≡ Out → b ≡ (row, p) → role row ≡ Out
      by b is e = ap (λ (c : ℕ × Place). role c.0) (sym e) ∙ is

  -- A base of the new tree is one of the two, or was one.
  part_back : (row : ℕ) (p : Place) → role' row ≡ Base p → IsIn (row, p) parts
      ⊎ ((r.above.role row ≡ Base p) × (row ≢ x.old.row))
  part_back row p e = ⊎_elim
      (λ (c : Coming row). ⊎_elim
      (λ (same : x.route ≡ row).
      let y : Route place (route_key x.route_its) ≡ Base p = sym role_route
      ∙ (ap role' same ∙ e) in absurd cc)
      (λ j. ⊎_elim
      (λ (same : x.left ≡ row). inl (0, by left_part role_left same))
      (λ k. ⊎_elim (λ (same : x.right ≡ row). inl (1, by right_part role_right same))
      (λ l. absurd (in_nothing row [] refl l)) (in_more x.right row [] k))
      (in_more x.left row (x.right ∷ []) j)) (in_more x.route row (x.left ∷ x.right ∷ []) c))
      (λ (n : ¬ Coming row). dite (ℕ_discrete row x.old.row)
      (λ (o : row ≡ x.old.row). let y : Out ≡ Base p = sym role_old ∙ (ap role' (sym o) ∙ e) in
      absurd cc)
      (λ (ne : row ≢ x.old.row). inr (sym (role_else row n ne) ∙ e, ne)))
      (has ins row)
    where
      by : (b : ℕ × Place) → role' b.0 ≡ Base b.1 → b.0 ≡ row → some b ≡ some (row, p)
      by b is same = ap some (ap (λ c. (c, b.1)) same
          ∙ ap (λ q. (row, q)) (same_place b.1 p (sym is ∙ (ap role' same ∙ e))))

  -- The three rows are apart.
  route_once : ¬ ((y : ℕ) × IsIn y (x.left ∷ x.right ∷ []) × (y ≡ x.route))
  route_once t = ⊎_elim (λ (e : x.left ≡ t.0). u.apart.0 (sym (e ∙ t.2)))
      (λ j. ⊎_elim
      (λ (e : x.right ≡ t.0). u.apart.1 (sym (e ∙ t.2))) (in_nothing t.0 [] refl)
      (in_more x.right t.0 [] j))
      (in_more x.left t.0 (x.right ∷ []) t.1)

  left_once : ¬ ((y : ℕ) × IsIn y (x.right ∷ []) × (y ≡ x.left))
  left_once t = ⊎_elim
      (λ (e : x.right ≡ t.0). u.apart.2 (sym (e ∙ t.2))) (in_nothing t.0 [] refl)
      (in_more x.right t.0 [] t.1)

  parts_once : ¬ ((y : ℕ × Place) × IsIn y (right_part ∷ []) × (y.0 ≡ x.left))
  parts_once t = ⊎_elim
      (λ (e : right_part ≡ t.0). u.apart.2 (sym (ap (λ (b : ℕ × Place). b.0) e ∙ t.2)))
      (in_nothing t.0 [] refl)
      (in_more right_part t.0 [] t.1)

  relists : Relists s.words words' r.above.role role' ins outs parts (x.old.row ∷ [])
  relists = record {
    comes = come_linked;
    came_out = λ row i. let h = held_in row i in (held row h.0 h.1).3;
    goes = λ row o _ l. old_unlinked (subst (IsLinked words') (is_out row o) l);
    back = stays_back;
    on = λ row n. stays_on row (λ e. n (0, ap some (sym e)));
    ins_once = (
      route_once,
      (
        left_once,
        ((λ (t : (y : ℕ) × IsIn y [] × (y ≡ x.right)). in_nothing t.0 [] refl t.1), tt),
      ),
    );
    base_comes = part_now;
    base_out = part_out;
    base_back = λ row p e. ⊎_elim (λ i. inl i) (λ w. inr (w.0, not_one row x.old.row w.1)) (part_back row p e);
    base_on = λ row p e ne. role_else row (no_coming row p (ap place_of e)) (λ o. ne (0, ap some (sym o))) ∙ e;
    bases_once = (
      parts_once,
      ((λ (t : (y : ℕ × Place) × IsIn y [] × (y.0 ≡ x.right)). in_nothing t.0 [] refl t.1), tt),
    );
  }

  listed_now : IsInventory words' role' (divided_inventory x r.above.inventory)
  listed_now =
      listed_again s.words words' role role' ins outs parts (x.old.row ∷ []) f.inventory relists f.listed

  tree_now : IsTree z r.made words' (set (map upper_of s.views) id u')
  tree_now = record {
    usable = f.usable;
    history = f.history;
    edits = f.edits;
    by_passes = f.by_passes;
    keypos = control 131 (omega arith) (λ e. omega arith) ∙ f.keypos;
    leaf = control 132 (omega arith) (λ e. omega arith) ∙ f.leaf;
    levels = control 133 (omega arith) (λ e. omega arith) ∙ f.levels;
    role = role';
    shape = shape';
    ranged = record {
      ends = f.ranged.ends;
      runs = runs_now;
      made_before = λ pass number now. f.ranged.made_before pass number
          (active_back z s.words words' role role' same_ranges pass number now);
      each =
          all_seats (λ j v. IsRanging z words' role' (f.ranged.ends v.number) v.since f.history
          v.number v.ranges) (map upper_of s.views) id u' (ranging_still id d at)
          (λ j v n here. let y = of_map upper_of s.views j v here in
          subst (λ (w : TreeView). IsRanging z words' role' (f.ranged.ends w.number) w.since
          f.history w.number w.ranges) y.2 (ranging_still j y.0 y.1));
    };
    joined = record {
      secured = λ c p key attempt e now. ⊎_elim
          (λ (new : c ≡ x.route). absurd (route_idle attempt (inr (subst (λ t. IsSecured words' t attempt) new now))))
          (λ (was : role c ≡ Route p key).
          joined_keeps z s.words role last shape x.old.row place (ap place_of is_old) x.route (λ _. old_free) f.joined c p key attempt was now)
          (routes_back c p key e);
      states = λ c p key e. ⊎_elim
          (λ (new : c ≡ x.route). subst (IsJoinWord words') (sym new) (let zero = route_word in omega arith))
          (λ (was : role c ≡ Route p key). states_keep z s.words role last shape x.old.row place (ap place_of is_old) x.route (λ _. old_free) f.joined c p key was)
          (routes_back c p key e);
    };
    lone = lone_by_one z r.made s.words words' role role' (map upper_of s.views) f.history f.each_seat id d.upper u' mine u.is_pass
        (λ few. lone_still s.words words' role role' d.upper.number d.upper.ranges.own d.upper.ranges.own d.upper.ways d.upper.ways d.upper.ranges.joins.begun
        d.upper.ranges.joins.begun (λ c p key e. ⊎_elim
        (λ (new : c ≡ x.route). inl (subst (λ t. join_of words' t % 4 ≡ 0) (sym new) route_word))
        (λ (was : role c ≡ Route p key). inr (p, key, was, relinked_joins z s.words role last shape x.old.row place (ap place_of is_old) x.route c))
        (routes_back c p key e))
        (λ c p key e. (routes_stay c p key e, relinked_joins z s.words role last shape x.old.row place (ap place_of is_old) x.route c))
        (λ way i. inl i) (same_kept d.upper.ranges.own)
        (same_active s.words words' d.upper.number d.upper.ranges.own (active_on z s.words words' role role' same_ranges d.upper.number)) refl
        (f.lone id d.upper mine few u.is_pass));
    each_seat =
        all_seats (Knows z r.made words' role' (set (map upper_of s.views) id u') f.history)
        (map upper_of s.views) id u' own_knows
        (λ j v n here. let y = of_map upper_of s.views j v here in
        subst (Knows z r.made words' role' (set (map upper_of s.views) id u') f.history j) y.2
        (knows_still j y.0 y.1));
    inventory = divided_inventory x f.inventory;
    listed = listed_now;
    at_first = λ (e : r.made ≡ 0). let lo = u.is_pass in let hi = knows.made_before in
        absurd (omega arith);
    only_one =
        known_by_one z r.made s.words words' role role' (map upper_of s.views) f.history f.each_seat id
        d.upper u'
        (divided_inventory x f.inventory) mine u.is_pass
        (λ few. let was = f.only_one id d.upper mine few u.is_pass in record {
          whole = ap (divided_inventory x) was.whole;
          shallow = λ row p e. let old = was.shallow x.old.row place is_old in ⊎_elim
              (λ (i : IsIn (row, p) parts). ⊎_elim
              (λ (o : left_part ≡ (row, p)). let l = ap (λ (b : ℕ × Place). b.1.level) o in omega arith)
              (λ (o : right_part ≡ (row, p)). let l = ap (λ (b : ℕ × Place). b.1.level) o in omega arith)
              (which row p i))
              (λ (o : (role row ≡ Base p) × (row ≢ x.old.row)). let l = was.shallow row p o.0 in omega arith)
              (part_back row p e);
          few = let less = but_shorter row_of_base x.old.row d.upper.inventory.bases (x.old.row, place)
              (subst (λ (j : Inventory). IsIn (x.old.row, place) j.bases) (sym was.whole) (f.listed.based x.old.row place is_old)) refl in
              let most = was.few in omega arith;
          rows = let most = was.rows in let less = but_shorter row_itself x.old.row d.upper.inventory.rows x.old.row
              (subst (λ (j : Inventory). IsIn x.old.row j.rows) (sym was.whole)
              (f.listed.linked x.old.row (placed_linked z s.words role last shape x.old.row place (ap place_of is_old)))) refl in
              (omega arith, λ none. let m = most.1 (λ row l. none row (lent_on row l)) in omega arith);
        });
  }

  claims_in : (row : ℕ) (c : Claim) → claim_of (taken_out outs (given ins d.claims)) row ≡ some c
      → (0 < row) × (row ≤ z.rows)
  claims_in row c e = ⊎_elim
      (λ o. subst (λ y. (0 < y)
      × (y ≤ z.rows)) (sym (is_out row o)) (old_at.some_row, old_at.in_range))
      (λ m. ⊎_elim (λ i. let h = held_in row i in let w = held row h.0 h.1 in (w.0, w.1))
      (λ n. (r.seat id d at).in_range row c (sym (taken_else outs (given ins d.claims) row m
      ∙ given_else ins d.claims row n) ∙ e)) (has ins row))
      (has outs row)

  -- A row that isn't linked keeps its words.
  unlinked_keeps : (c k : ℕ) → 0 < c → ¬ IsLinked s.words c → k < row_words
      → get_or words' (row_words * c + k) 0 ≡ get_or s.words (row_words * c + k) 0
  unlinked_keeps c k lo n l =
      relinked_keeps z s.words role last shape x.old.row place (ap place_of is_old) x.route c lo
      (out_no_route role c (unlinked_out z s.words role last shape c n)) k l

  -- Where the link names the old base, the exchange carries out the split.
  pub division_step : R z record { words = words'; homes = s.homes; views = set s.views id d' }
  division_step =
      relinks IsLinked IsLent IsNoted IsTree tree_lends z s r id d d' words' kind record {
        at = at;
        same_sizes = refl;
        same_made = refl;
        same_stage = refl;
        same_lost = refl;
        same_pin = refl;
        wide = wide' ∙ sym r.wide;
        low = λ i l. control i (omega arith) (λ e. omega arith);
        announcements = relinked_told z s.words role last shape x.old.row place (ap place_of is_old) x.route;
        unlinked_rows = λ c k lo hi n l. unlinked_keeps c k lo n l;
        changes = λ c _ _. changed_now c;
        in_range = claims_in;
        notes = λ j y here c n. ⊎_elim
            (λ (t : (j ≡ id) × (d' ≡ y)). ⊎_elim
            (λ (w : IsNoted s.words d.upper c). inl (d, ap (get_elem? s.views) t.0 ∙ at, w))
            (λ (l : IsLinked words' c
            × (d.pin.pinned ≡ true)). inr (
              l.0,
              ap (λ (w : View TreeView). w.pin.pinned) (sym t.1)
                  ∙ l.1,
            ))
            (notes_keep id d at c (noted_alike words' d.upper u'
            (λ y m. absurd (in_nothing y [] refl m)) (λ y m. m) (λ y m. m) (λ y m. m) (λ y m. m) c (subst
            (λ (w : View TreeView). IsNoted words' w.upper c) (sym t.1) n))))
            (λ (t : (j ≢ id) × (get_elem? s.views j ≡ some y)). ⊎_elim (λ w. inl (y, t.1, w))
            (λ l. inr l) (notes_keep j y t.1 c n))
            (at_set s.views id j d' y here);
        above = subst (IsTree z r.made words') (sym (map-set upper_of s.views id d')) tree_now;
      }

  divided_now : IsDivided x me (d', me.1)
  divided_now = record {
    now = refl;
    unclaimed = unclaimed_row z s r id d at x.old.row old_linked old_unlent;
  }

module _ (z : Sizes) where
  -- The exchange of a link that carries out a split.
  pub divides : (slots id : ℕ) (me : MyTree) (x : Division) → IsDivision z me x
      → Allows (R z) slots id me x.old.place.link (λ n. either (eqb n x.old.row) x.route n)
      (Relinks MaySwap (Divides x) (step slots x.old.place.link x.old.row x.route none) me)
  divides slots id me x u s r _ at _ = let n : ℕ = get_or s.words x.old.place.link 0 in
      let d = me.0 in dite (ℕ_discrete n x.old.row)
      (λ (hit : n ≡ x.old.row). let d' : View TreeView =
      (relinked me (taken_out (x.old.row ∷ []) (given (x.route ∷ x.left ∷ x.right ∷ []) d.claims))
      (divided x d.upper)).0 in
      let won : Divides x (step slots x.old.place.link x.old.row x.route none) me n (d', me.1) =
      ((λ _. divided_now z s r id me at x u hit), λ miss. absurd (miss hit)) in (
        d',
        keeps,
        tt,
        subst (λ (y : ℕ). R z (stepped s x.old.place.link y id me.1 d' keeps))
            (sym (ap (λ b. either b x.route n) (eq-eqb n x.old.row hit)))
            (division_step z s r id me at x u hit),
        ((λ _. refl), (λ miss. absurd (miss hit)), inr (inl (inl (x, (u.shown, refl, refl), won))), won),
      ))
      (λ miss. let lost : View TreeView = record d { upper = one_more_lost d.upper } in
      let missed : Divides x (step slots x.old.place.link x.old.row x.route none) me n (
        lost,
        me.1,
      ) = (
        (λ hit. absurd (miss hit)),
        λ _. (refl, hangs_still z s r id me x.old at miss),
      ) in (
        lost,
        keeps,
        tt,
        subst (λ (y : ℕ). R z (stepped s x.old.place.link y id me.1 lost keeps))
            (sym (ap (λ b. either b x.route n) (ne_eqb n x.old.row miss)))
            (loses z s r x.old.place.link id d at),
        ((λ hit. absurd (miss hit)), (λ _. refl), inr (inl (inl (x, (u.shown, refl, refl), missed))), missed),
      ))

  -- The same, where the old row, the route and the link have other names.
  pub divides_from : (slots id : ℕ) (me : MyTree) (link old route : ℕ) (x : Division)
      → IsDivision z me x → x.old.row ≡ old → x.route ≡ route
      → x.old.place.link ≡ link
      → Allows (R z) slots id me link
      (λ n. either (eqb n old) route n)
      (Relinks MaySwap (Divides x) (step slots link old route none) me)
  divides_from slots id me link old route x u same top here = subst
      (λ (i : ℕ). Allows (R z) slots id me i (λ n. either (eqb n old) route n)
      (Relinks MaySwap (Divides x) (step slots i old route none) me)) here (subst
      (λ (o : ℕ). Allows (R z) slots id me x.old.place.link (λ n. either (eqb n o) route n)
      (Relinks MaySwap (Divides x) (step slots x.old.place.link o route none) me)) same (subst
      (λ (t : ℕ). Allows (R z) slots id me x.old.place.link
      (λ n. either (eqb n x.old.row) t n)
      (Relinks MaySwap (Divides x) (step slots x.old.place.link x.old.row t none) me)) top
      (divides slots id me x u)))

-- The two ways that the exchange goes.
pub has_divided : (n link old route : ℕ) (x : Division) (m m' : MyTree) (slots : ℕ)
    → Divides x (step slots link old route none) m n m'
    → HasDivided (eqb n old) x m m'
has_divided n link old route x m m' slots told = dite (ℕ_discrete n old)
    (λ hit. subst (λ (b : Bool). HasDivided b x m m') (sym (eq-eqb n old hit)) (told.0 hit))
    (λ miss. subst (λ (b : Bool). HasDivided b x m m') (sym (ne_eqb n old miss)) (told.1 miss).0)

-- Where it was lost, a pass that is alone doesn't list the base.
pub missed_division : (n link old route : ℕ) (x : Division) (m m' : MyTree) (slots : ℕ) (won : Bool)
    → Divides x (step slots link old route none) m n m'
    → won ≡ eqb n old → won ≡ false → IsMissed x.old m
missed_division n link old route x m m' slots won told is lost = dite (ℕ_discrete n old)
    (λ hit. let y : true ≡ false = sym (eq-eqb n old hit) ∙ (sym is ∙ lost) in absurd cc)
    (λ miss. (told.1 miss).1)
