-- The exchange by which a route is unlinked whose join is secured: what becomes of the words, the
-- roles and the rows. The route and both bases under it go, and
-- the base comes that has the objects of both.
use Rattle.std.proofs.Common.{◌≡◌, ◌≢◌, ◌⊎◌, ℕ, suc, ◌+◌, ◌*◌, ◌/◌, ◌<◌, ◌≤◌, List, [], ◌∷◌, ◌++◌, length, map, get_or, set, sym, refl, ap, ◌∙◌, subst, inl, inr, ⊎_elim, arith}
use Rattle.std.proofs.lemmas.List.{map-append}
use mathlib.Core.Option.{some, some-ne-none}
use lib.ListN.{get_elem?}
use Rattle.atomic_table.specs.Table.{State}
use Rattle.ca_model.specs.History.{History, after}
use Rattle.ca_model.specs.StoreMap.{StoreMap, IsStoreMap}
use Rattle.ca_model.proofs.Edits.{map_after}
use Rattle.ca_rows.specs.Rule.{upper_of}
use Rattle.ca_rows.specs.Words.{result_of}
use Rattle.ca_rows.specs.declared.sizes.Sizes.{Sizes}
use Rattle.ca_rows.specs.declared.view.View.{View}
use Rattle.ca_node.specs.Attempts.{IsSecured}
use Rattle.ca_node.specs.DeadStays.{under_dead}
use Rattle.ca_node.specs.Inventory.{IsInventory}
use Rattle.ca_node.specs.JoinSteps.{attempt_of}
use Rattle.ca_node.specs.Laws.{in_nothing, in_one, under_placed}
use Rattle.ca_node.specs.Links.{IsIn, IsUnder, IsActive, IsBoundOf, IsLinked, by_range, IsLent, IsNoted}
use Rattle.ca_node.specs.Marks.{AreJoined}
use Rattle.ca_node.specs.Place.{Place, IsLinkOf}
use Rattle.ca_node.specs.RangesStay.{active_back, active_on}
use Rattle.ca_node.specs.Reached.{same_place, same_route, base_at, reached, placed_linked, item_linked, item_out, lent_end, end_lent, unlent}
use Rattle.ca_node.specs.Row.{row_at, form, IsBaseRow, IsRouteRow, items, count, level, mark, mark_owner, mark_number, mark_bound, IsMarkedBy, IsMarkedFor, IsUnmarked, route_key, IsHeaded}
use Rattle.ca_node.specs.Shape.{Role, Out, Base, Route, place_of, IsShape}
use Rattle.ca_node.specs.Stays.{word_at}
use Rattle.ca_node.specs.Told.{MyTree}
use Rattle.ca_node.specs.Tree.{IsAlive, IsDead, IsFixed, IsTrue, IsTrueWay, Knows, IsTree}
use Rattle.ca_node.specs.TreeView.{Way, TreeView}
use Rattle.ca_node.specs.Unlinks.{Unlinking, IsUnlinking, gone_by, unlinked_inventory}
use Rattle.ca_node.proofs.Holding.{held_row}
use Rattle.ca_node.proofs.Listing.{in_either, in_front, in_back, Relists, listed_again}
use Rattle.ca_node.proofs.Logs.{last_state}
use Rattle.ca_node.proofs.Looking.{R, knows_upper, in_more}
use Rattle.ca_node.proofs.Members.{has}
use Rattle.ca_node.proofs.Relinked.{IsNewBase, relinked_ranges, relinked_else, relinked_row, base_no_route, out_no_route}
use Rattle.ca_node.proofs.Remembering.{unlinked_out}
use Rattle.ca_node.proofs.Unlinked.{without_route, role_going, role_new as new_role, role_else as else_role, role_left as left_role, role_right as right_role, left_below, left_span, right_span, base_was as base_back, route_was as route_back, kept_link, shape_unlinked, way_dies}
use Rattle.ca_rows.specs.Layout.{row_words}
use Rattle.ca_node.specs.Layout.{form_unit, root_word}

module _ (z : Sizes) (s : State (Unit {0}) (View TreeView)) (r : R z s) (id : ℕ) (me : MyTree)
    (at : get_elem? s.views id ≡ some me.0)
    (new : ℕ) (x : Unlinking) (u : IsUnlinking z me new x)
    (hit : get_or s.words x.way.place.link 0 ≡ x.way.row) where
  abbrev d : View TreeView
  d = me.0

  abbrev f : IsTree z r.made s.words (map upper_of s.views)
  f = r.above

  abbrev role : ℕ → Role
  role = r.above.role

  abbrev last : StoreMap
  last = after r.above.history []

  abbrev shape : IsShape z s.words r.above.role (after r.above.history [])
  shape = r.above.shape

  abbrev place : Place
  place = x.way.place

  -- the bases under the route, by the words
  abbrev left : ℕ
  left = get_or s.words (row_words * x.way.row + 1) 0

  abbrev right : ℕ
  right = get_or s.words (row_words * x.way.row + 2) 0

  abbrev words' : List ℕ
  words' = set s.words x.way.place.link new

  pub knows : Knows z r.made s.words r.above.role (map upper_of s.views) r.above.history id d.upper
  knows = knows_upper z s r id d at

  way_true : IsTrueWay z s.words r.above.role d.upper.since r.above.history x.way
  way_true = knows.ways x.way u.remembered

  pub secured_now : IsSecured s.words x.way.row x.attempt
  secured_now = (knows.joining.secured (attempt_of x.way.row x.attempt) u.secured).1

  pub is_last : IsStoreMap z.keypos last
  is_last = map_after z.keypos f.history [] f.edits tt

  -- Its row has the form of a route.
  pub route_form : IsRouteRow (row_at s.words x.way.row)
  route_form = let fixed : IsFixed 0 =
      (omega arith, (λ e. omega arith), (λ e. omega arith), (λ e. omega arith)) in
      ap (λ n. n / form_unit) (word_at s.words x.way.row 0 (omega arith) ∙ way_true.spells 0 fixed)
      ∙ way_true.is_route

  -- What has no place isn't named by a link of the tree.
  none_there : (c : ℕ) (q : Place) → role x.way.row ≡ Out → c ≡ x.way.row
      → place_of (role c) ≡ some q → ⊥
  none_there c q out same is =
      some-ne-none q (sym is ∙ (ap (λ y. place_of (role y)) same ∙ ap place_of out))

  -- Its link names what is in the tree, or a base that was left over under a route that was
  -- unlinked.
  not_out : role x.way.row ≢ Out
  not_out out = ⊎_elim
      (λ (e : x.way.place.link ≡ root_word). none_there _ _ out
      (sym (ap (λ i. get_or s.words i 0) e) ∙ hit) shape.top.hangs)
      (λ (t : (way : Way) × IsIn way d.upper.ways × IsLinkOf way.row x.way.place.link).
      let under : IsUnder s.words t.0.row x.way.row =
      ⊎_elim (λ e. inl (ap (λ i. get_or s.words i 0) (sym e) ∙ hit))
      (λ e. inr (ap (λ i. get_or s.words i 0) (sym e) ∙ hit)) t.2 in ⊎_elim
      (λ (e : IsAlive role t.0). let p = under_placed z s.words role last shape t.0.row x.way.row
      t.0.place (route_key t.0.its) e under in
      none_there x.way.row p.0 out refl p.1)
      (λ (dead : (moment : ℕ) × IsDead z s.words role d.upper.since r.above.history t.0 moment).
      let b = (under_dead z s.words role d.upper.since r.above.history t.0 dead.0 dead.1 x.way.row
      under).1 in
      let two = b.is_base in let three = route_form in omega arith)
      (knows.ways t.0 t.1).stands)
      (knows.way_links x.way u.remembered)

  -- So it hangs where it was shown.
  pub is_there : r.above.role x.way.row ≡ Route x.way.place (route_key x.way.its)
  is_there = ⊎_elim (λ (e : IsAlive role x.way). e) (λ dead. absurd (not_out dead.1.is_out))
      way_true.stands

  pub both_joined : AreJoined z s.words x.way.row x.attempt
  both_joined = f.joined.secured x.way.row x.way.place (route_key x.way.its) x.attempt is_there
      secured_now

  pub is_left : IsBaseRow (row_at s.words (get_or s.words (row_words * x.way.row + 1) 0))
  is_left = both_joined.left.0

  pub is_right : IsBaseRow (row_at s.words (get_or s.words (row_words * x.way.row + 2) 0))
  is_right = both_joined.right.0

  -- The links name the bases that were shown.
  pub left_here : get_or s.words (row_words * x.way.row + 1) 0 ≡ x.left.row
  left_here = ap (λ i. get_or s.words i 0) (sym u.left.here)
      ∙ (knows.joining.hung x.left u.left.shown x.way.row x.attempt u.left.marked).hangs
      (inr secured_now)

  pub right_here : get_or s.words (row_words * x.way.row + 2) 0 ≡ x.right.row
  right_here = ap (λ i. get_or s.words i 0) (sym u.right.here)
      ∙ (knows.joining.hung x.right u.right.shown x.way.row x.attempt u.right.marked).hangs
      (inr secured_now)

  left_true : IsTrue z.rows s.words r.above.role x.left
  left_true = knows.notes x.left u.left.shown

  right_true : IsTrue z.rows s.words r.above.role x.right
  right_true = knows.notes x.right u.right.shown

  left_items : items (row_at s.words (get_or s.words (row_words * x.way.row + 1) 0)) ≡ items
      x.left.its
  left_items = ap (λ c. items (row_at s.words c)) left_here ∙ ap items left_true.spells

  right_items : items (row_at s.words (get_or s.words (row_words * x.way.row + 2) 0)) ≡ items
      x.right.its
  right_items = ap (λ c. items (row_at s.words c)) right_here ∙ ap items right_true.spells

  -- What the seat holds: a row with these words, that is nothing in the tree.
  pub held : (0 < new) × (new ≤ z.rows) × (row_at s.words new ≡ x.its) × ¬ IsLinked s.words new
      × ((j : ℕ) (y : View TreeView) → get_elem? s.views j ≡ some y → ¬ IsNoted s.words y.upper new)
  held = held_row z s r id d at new x.its u.held

  pub new_out : r.above.role new ≡ Out
  new_out = unlinked_out z s.words role last shape new held.3

  pub new_unlinked : ¬ IsLinked s.words new
  new_unlinked = held.3

  -- The new base has the objects of both.
  pub united : items (row_at s.words new)
      ≡ items (row_at s.words (get_or s.words (row_words * x.way.row + 1) 0)) ++ items
      (row_at s.words (get_or s.words (row_words * x.way.row + 2) 0))
  united = ap items held.2 ∙ (u.items_are ∙ (ap (λ xs. xs ++ items x.right.its) (sym left_items)
      ∙ ap (λ xs. items (row_at s.words left) ++ xs) (sym right_items)))

  abbrev its_of : ℕ → List ℕ
  its_of c = row_at s.words c

  objects_are : map its_of (items (row_at s.words new)) ≡ x.left.objects ++ x.right.objects
  objects_are = ap (map its_of) (ap items held.2 ∙ u.items_are)
      ∙ (map-append its_of (items x.left.its) (items x.right.its)
      ∙ (ap (λ (xs : List (List ℕ)). xs ++ map its_of (items x.right.its))
      (left_true.objects_are u.left.is_base)
      ∙ ap (λ (xs : List (List ℕ)). x.left.objects ++ xs) (right_true.objects_are u.right.is_base)))

  pub new_base : IsNewBase z s.words r.above.role x.way.place new
  new_base = record {
    some_row = held.0;
    in_range = held.1;
    is_out = new_out;
    is_base = subst IsBaseRow (sym held.2) u.is_base;
    level_is = ap level held.2 ∙ u.level_is;
    few = subst (λ y. count y ≤ z.leaf) (sym held.2) u.few;
    marked = inl (subst IsUnmarked (sym held.2) u.unmarked);
    bounded = λ border b. let none : mark (row_at s.words new) ≡ 0 = ap mark held.2 ∙ u.unmarked in
        let one = b.0 in absurd (omega arith);
    are_objects = λ c i. ⊎_elim
        (λ (j : IsIn c (items x.left.its)). left_true.named u.left.is_base c j)
        (λ (j : IsIn c (items x.right.its)). right_true.named u.right.is_base c j)
        (in_either (items x.left.its) (items x.right.its) c
        (subst (IsIn c) (ap items held.2 ∙ u.items_are) i));
    headed = subst (λ (y : List ℕ × List (List ℕ)). IsHeaded y.0 y.1)
        (λ i. (sym held.2 i, sym objects_are i)) u.headed;
  }

  -- the roles then
  abbrev role' : ℕ → Role
  role' = without_route r.above.role x.way.place x.way.row left right new

  pub shape_now : IsShape z (set s.words x.way.place.link new)
      (without_route r.above.role x.way.place x.way.row
      (get_or s.words (row_words * x.way.row + 1) 0) (get_or s.words (row_words * x.way.row + 2) 0)
      new) (after r.above.history [])
  shape_now = shape_unlinked z s.words role last shape z.keypos is_last x.way.row place
      (route_key x.way.its) is_there is_left is_right new new_base united

  -- the row that comes, and those that go
  abbrev ins : List ℕ
  ins = new ∷ []

  abbrev outs : List ℕ
  outs = gone_by x

  -- What goes, by the words.
  abbrev IsGoing : ℕ → Type 0
  IsGoing c = (c ≡ x.way.row) ⊎ ((c ≡ left) ⊎ (c ≡ right))

  going_of : (c : ℕ) → IsIn c (gone_by x) → IsGoing c
  going_of c i = ⊎_elim (λ (e : x.way.row ≡ c). inl (sym e))
      (λ j. ⊎_elim (λ (e : x.left.row ≡ c). inr (inl (sym (left_here ∙ e))))
      (λ k. inr (inr (sym (right_here ∙ in_one x.right.row c k))))
      (in_more x.left.row c (x.right.row ∷ []) j))
      (in_more x.way.row c (x.left.row ∷ x.right.row ∷ []) i)

  gone_of : (c : ℕ) → IsGoing c → IsIn c (gone_by x)
  gone_of c g = ⊎_elim (λ (e : c ≡ x.way.row). (0, ap some (sym e)))
      (λ o. ⊎_elim (λ (e : c ≡ left). (1, ap some (sym (e ∙ left_here))))
      (λ (e : c ≡ right). (2, ap some (sym (e ∙ right_here)))) o) g

  abbrev left_at : Place
  left_at = left_span z s.words role last shape z.keypos is_last x.way.row place
      (route_key x.way.its) is_there is_left is_right new new_base united

  abbrev right_at : Place
  right_at = right_span z s.words role last shape z.keypos is_last x.way.row place
      (route_key x.way.its) is_there is_left is_right new new_base united

  role_left : role left ≡ Base left_at
  role_left = left_role z s.words role last shape z.keypos is_last x.way.row place
      (route_key x.way.its) is_there is_left is_right new new_base united

  role_right : role right ≡ Base right_at
  role_right = right_role z s.words role last shape z.keypos is_last x.way.row place
      (route_key x.way.its) is_there is_left is_right new new_base united

  -- The left base is listed.
  pub left_listed : (p : Place) × IsIn (x.left.row, p) r.above.inventory.bases
  left_listed = (left_at, f.listed.based x.left.row left_at (subst (λ (c : ℕ). role c ≡ Base left_at) left_here role_left))

  pub role_new : role' new ≡ Base x.way.place
  role_new = new_role z s.words role last shape z.keypos is_last x.way.row place
      (route_key x.way.its) is_there is_left is_right new new_base united

  pub role_out : (c : ℕ) → IsIn c (gone_by x) → role' c ≡ Out
  role_out c i = role_going z s.words role last shape z.keypos is_last x.way.row place
      (route_key x.way.its) is_there is_left is_right new new_base united
      c (going_of c i)

  pub role_else : (c : ℕ) → c ≢ new → ¬ IsIn c (gone_by x) → role' c ≡ r.above.role c
  role_else c n m = else_role z s.words role last shape z.keypos is_last x.way.row place
      (route_key x.way.its) is_there is_left is_right new new_base united
      c n (λ g. m (gone_of c g))

  -- A base of the new tree is the new one, or one of the old tree that stays; so is a route.
  pub base_was : (c : ℕ) (q : Place) → role' c ≡ Base q → ((c ≡ new) × (q ≡ x.way.place))
      ⊎ ((r.above.role c ≡ Base q) × (c ≢ new) × ¬ IsIn c (gone_by x))
  base_was c q e = ⊎_elim (λ n. inl n) (λ w. inr (w.0, w.1, λ i. w.2 (going_of c i)))
      (base_back z s.words role last shape z.keypos is_last x.way.row place (route_key x.way.its)
      is_there is_left is_right new new_base united c q e)

  -- Bases that stand within some level do so still.
  pub within_still : (most : ℕ) → ((c : ℕ) (q : Place) → r.above.role c ≡ Base q → q.level ≤ most)
      → (c : ℕ) (q : Place) → role' c ≡ Base q → q.level ≤ most
  within_still most were c q e = ⊎_elim
      (λ (n : (c ≡ new) × (q ≡ x.way.place)). let l = were left left_at role_left in let level =
      ap (λ (p : Place). p.level) n.1 in
      let below = left_below z s.words role last shape z.keypos is_last x.way.row place
      (route_key x.way.its) is_there is_left is_right new new_base united in
      omega arith)
      (λ (w : (r.above.role c ≡ Base q) × (c ≢ new) × ¬ IsIn c (gone_by x)). were c q w.0)
      (base_was c q e)

  pub route_was : (c : ℕ) (q : Place) (key : List ℕ) → role' c ≡ Route q key
      → r.above.role c ≡ Route q key
  route_was c q key e =
      (route_back z s.words role last shape z.keypos is_last x.way.row place (route_key x.way.its)
      is_there is_left is_right new new_base
      united c q key e).0

  -- What goes has a place before,
  out_placed : (c : ℕ) → IsIn c (gone_by x) → (q : Place) × (place_of (role c) ≡ some q)
  out_placed c i = ⊎_elim
      (λ (e : c ≡ x.way.row). (place, ap (λ y. place_of (role y)) e ∙ ap place_of is_there))
      (λ o. ⊎_elim (λ (e : c ≡ left). (
        left_at,
        ap (λ y. place_of (role y)) e
            ∙ ap place_of role_left,
      ))
      (λ (e : c ≡ right). (right_at, ap (λ y. place_of (role y)) e ∙ ap place_of role_right)) o)
      (going_of c i)

  -- so it is linked, and isn't lent.
  pub out_linked : (c : ℕ) → IsIn c (gone_by x) → IsLinked s.words c
  out_linked c i = let p = out_placed c i in placed_linked z s.words role last shape c p.0 p.1

  pub out_unlent : (c : ℕ) → IsIn c (gone_by x) → ¬ IsLent s.words c
  out_unlent c i = unlent z s.words role last shape c
      (λ (four : form (row_at s.words c) ≡ 4). ⊎_elim
      (λ (e : c ≡ x.way.row). by x.way.row 3 route_form e four (λ e. omega arith))
      (λ o. ⊎_elim (λ (e : c ≡ left). by left 2 is_left e four (λ e. omega arith))
      (λ (e : c ≡ right). by right 2 is_right e four (λ e. omega arith)) o)
      (going_of c i))
    where
      by : (a n : ℕ) → form (row_at s.words a) ≡ n → c ≡ a → form (row_at s.words c) ≡ 4 → n ≢ 4 → ⊥
      by a n has e four ne = ne (sym has ∙ (ap (λ y. form (row_at s.words y)) (sym e) ∙ four))

  -- What has a place doesn't come.
  not_new : (c : ℕ) (q : Place) → place_of (role c) ≡ some q → c ≢ new
  not_new c q e same = some-ne-none q
      (sym e ∙ (ap (λ y. place_of (role y)) same ∙ ap place_of new_out))

  -- The three rows are apart.
  left_apart : x.way.row ≢ left
  left_apart e = let y : Route place (route_key x.way.its) ≡ Base left_at =
      sym is_there ∙ (ap role e ∙ role_left) in cc

  right_apart : x.way.row ≢ right
  right_apart e = let y : Route place (route_key x.way.its) ≡ Base right_at =
      sym is_there ∙ (ap role e ∙ role_right) in cc

  sides_apart : left ≢ right
  sides_apart e = let same = ap (λ (q : Place). q.link)
      (same_place left_at right_at (sym role_left ∙ (ap role e ∙ role_right))) in omega arith

  pub apart : (x.way.row ≢ x.left.row) × (x.way.row ≢ x.right.row) × (x.left.row ≢ x.right.row)
  apart = (
    (λ e. left_apart (e ∙ sym left_here)),
    (λ e. right_apart (e ∙ sym right_here)),
    λ e. sides_apart (left_here ∙ (e ∙ sym right_here)),
  )

  pub here : place_of (r.above.role x.way.row) ≡ some x.way.place
  here = ap place_of is_there

  pub base_stays : (c : ℕ) (q : Place) → role c ≡ Base q → row_at words' c ≡ row_at s.words c
  base_stays c q e = let b = base_at z s.words role last shape c q e in
      relinked_row z s.words role last shape x.way.row place here new c b.some_row b.in_range
      (base_no_route role c q e)

  new_stays : row_at words' new ≡ row_at s.words new
  new_stays = relinked_row z s.words role last shape x.way.row place here new new held.0 held.1
      (out_no_route role new new_out)

  new_items : items (row_at words' new) ≡ items (row_at s.words left) ++ items
      (row_at s.words right)
  new_items = ap items new_stays ∙ united

  -- The items of a base of the new tree are those of a base of the old one.
  was_item : (row base : ℕ) (q : Place) → role' base ≡ Base q
      → IsIn row (items (row_at words' base))
      → (b : ℕ) × (p : Place) × (r.above.role b ≡ Base p) × IsIn row (items (row_at s.words b))
  was_item row base q e i = ⊎_elim
      (λ (n : (base ≡ new) × (q ≡ place)). ⊎_elim (λ j. (left, left_at, role_left, j))
      (λ j. (right, right_at, role_right, j))
      (in_either (items (row_at s.words left)) (items (row_at s.words right)) row
      (subst (IsIn row) (ap (λ c. items (row_at words' c)) n.0 ∙ new_items) i)))
      (λ (w : (r.above.role base ≡ Base q) × (base ≢ new) × ¬ IsIn base (gone_by x)).
      (base, q, w.0, subst (λ its. IsIn row (items its)) (base_stays base q w.0) i))
      (base_was base q e)

  -- The other way round.
  item_now : (row base : ℕ) (q : Place) → r.above.role base ≡ Base q
      → IsIn row (items (row_at s.words base)) → IsLinked words' row
  item_now row base q e i = ⊎_elim
      (λ (o : IsIn base (gone_by x)). item_linked z words' role' last shape_now new place role_new
      row (subst (IsIn row) (sym new_items) (⊎_elim
      (λ (g : base ≡ x.way.row). let y : Route place (route_key x.way.its) ≡ Base q =
      sym is_there ∙ (ap role (sym g) ∙ e) in absurd cc)
      (λ g. ⊎_elim
      (λ (h : base ≡ left). in_front (items (row_at s.words left)) (items (row_at s.words right))
      row (subst (λ c. IsIn row (items (row_at s.words c))) h i))
      (λ (h : base ≡ right). in_back (items (row_at s.words left)) (items (row_at s.words right))
      row (subst (λ c. IsIn row (items (row_at s.words c))) h i)) g)
      (going_of base o))))
      (λ (m : ¬ IsIn base (gone_by x)). item_linked z words' role' last shape_now base q
      (role_else base (not_new base q (ap place_of e)) m ∙ e) row
      (subst (λ its. IsIn row (items its)) (sym (base_stays base q e)) i))
      (has outs base)

  pub same_ranges : (pass : ℕ) → 0 < pass → pass ≤ 64
      → result_of (set s.words x.way.place.link new) pass ≡ result_of s.words pass
  same_ranges = relinked_ranges z s.words role last shape x.way.row place here new

  -- A base that an active range marked stays: those that go have the mark of a join.
  pub marked_stay : (c : ℕ) (q : Place) (pass number : ℕ) → r.above.role c ≡ Base q
      → IsMarkedBy (row_at s.words c) pass number → IsActive s.words pass number
      → role' c ≡ Base q
  marked_stay c q pass number e m now = role_else c (not_new c q (ap place_of e)) (λ i. ⊎_elim
      (λ (g : c ≡ x.way.row). let y : Route place (route_key x.way.its) ≡ Base q =
      sym is_there ∙ (ap role (sym g) ∙ e) in cc)
      (λ o. ⊎_elim (λ (g : c ≡ left). by left both_joined.left.1 g)
      (λ (g : c ≡ right). by right both_joined.right.1 g) o) (going_of c i)) ∙ e
    where
      by : (a : ℕ) → IsMarkedFor (row_at s.words a) x.way.row x.attempt → c ≡ a → ⊥
      by a joined g = let one = m.0 in let two : mark (row_at s.words c) ≡ 2 =
          ap (λ y. mark (row_at s.words y)) g ∙ joined.0 in omega arith

  -- No range has the new base.
  pub was_marked : (c : ℕ) (q : Place) → role' c ≡ Base q
      → mark (row_at (set s.words x.way.place.link new) c) ≡ 1
      → (r.above.role c ≡ Base q) × (row_at (set s.words x.way.place.link new) c ≡ row_at s.words c)
  was_marked c q e m = ⊎_elim
      (λ (n : (c ≡ new) × (q ≡ place)). let zero : mark (row_at words' c) ≡ 0 =
      ap (λ y. mark (row_at words' y)) n.0
      ∙ (ap mark (new_stays ∙ held.2) ∙ u.unmarked) in absurd (omega arith))
      (λ (w : (r.above.role c ≡ Base q) × (c ≢ new) × ¬ IsIn c (gone_by x)).
      (w.0, base_stays c q w.0))
      (base_was c q e)

  -- Each other route stays, a base stays or goes, and what is nothing stays so, but for the new
  -- base.
  pub route_stays : (c : ℕ) (q : Place) (key : List ℕ) → r.above.role c ≡ Route q key
      → c ≢ x.way.row → role' c ≡ Route q key
  route_stays c q key e n = role_else c (not_new c q (ap place_of e)) (λ i. ⊎_elim n (λ o. ⊎_elim
      (λ (g : c ≡ left). let y : Base left_at ≡ Route q key =
      sym role_left ∙ (ap role (sym g) ∙ e) in cc)
      (λ (g : c ≡ right). let y : Base right_at ≡ Route q key =
      sym role_right ∙ (ap role (sym g) ∙ e) in cc) o) (going_of c i)) ∙ e

  pub base_goes : (c : ℕ) (q : Place) → r.above.role c ≡ Base q → (role' c ≡ Base q)
      ⊎ (role' c ≡ Out)
  base_goes c q e = ⊎_elim (λ o. inr (role_out c o))
      (λ m. inl (role_else c (not_new c q (ap place_of e)) m ∙ e)) (has outs c)

  pub out_stays : (c : ℕ) → r.above.role c ≡ Out → c ≢ new → role' c ≡ Out
  out_stays c e n = role_else c n (λ i. let p = out_placed c i in
      some-ne-none p.0 (sym p.1 ∙ ap place_of e)) ∙ e

  -- The links of the route name what they named, which has the words that it had.
  own_link : ¬ IsLinkOf x.way.row x.way.place.link
  own_link = kept_link z s.words role last shape z.keypos is_last x.way.row place
      (route_key x.way.its) is_there is_left is_right new new_base united
      x.way.row (inl refl)

  pub under_same : (c : ℕ) → IsUnder (set s.words x.way.place.link new) x.way.row c
      → IsUnder s.words x.way.row c
      × (row_at (set s.words x.way.place.link new) c ≡ row_at s.words c)
  under_same c under = ⊎_elim
      (λ (e : get_or words' (row_words * x.way.row + 1) 0 ≡ c).
      let was : left ≡ c = sym
      (relinked_else z s.words role last shape x.way.row place here new
      (row_words * x.way.row + 1)
      (λ g. own_link (inl (sym g)))) ∙ e in (
        inl was,
        subst (λ y. row_at words' y ≡ row_at s.words y) was
            (base_stays left left_at role_left),
      ))
      (λ (e : get_or words' (row_words * x.way.row + 2) 0 ≡ c).
      let was : right ≡ c =
      sym (relinked_else z s.words role last shape x.way.row place here new
      (row_words * x.way.row + 2)
      (λ g. own_link (inr (sym g)))) ∙ e in (
        inr was,
        subst (λ y. row_at words' y ≡ row_at s.words y) was
            (base_stays right right_at role_right),
      ))
      under

  -- A seat that remembers the route reads under it the last state from then on.
  pub dies_now : (since : History) → length since ≤ length r.above.history → (way : Way)
      → IsAlive r.above.role way → way.row ≡ x.way.row
      → (moment : ℕ) × IsDead z (set s.words x.way.place.link new) role' since
      r.above.history way moment
  dies_now since before way alive e = let same =
      same_route way.place x.way.place (route_key way.its) (route_key x.way.its)
      (sym alive ∙ (ap role e ∙ is_there)) in (
        length r.above.history,
        subst (λ (w : Way). IsDead z words' role' since r.above.history w (length r.above.history))
            (λ i. record { row = sym e i; its = way.its; place = sym same.0 i })
            (way_dies z s.words role last shape z.keypos is_last x.way.row place
            (route_key x.way.its) is_there is_left is_right new new_base united
            r.above.history (last_state r.above.history) x.attempt secured_now both_joined.left.1
            both_joined.right.1 both_joined.few since before way.its same.1),
      )

  -- What is lent is the same.
  pub lent_on : (row : ℕ) → IsLent s.words row → IsLent words' row
  lent_on row l = let t = lent_end z s.words role last shape row l in
      end_lent z words' role' last shape_now row (
        t.0,
        t.1,
        marked_stay t.0 t.1 (mark_owner (row_at s.words t.0)) (mark_number (row_at s.words t.0)) t.2
            (t.3.0, refl, refl) t.3.1,
        subst (λ its. (mark its ≡ 1) × IsActive words' (mark_owner its) (mark_number its)
            × (mark_bound its ≡ row)) (sym (base_stays t.0 t.1 t.2))
            (t.3.0, active_on z s.words words' role role' same_ranges _ _ t.3.1, t.3.2),
      )

  pub lent_back : (row : ℕ) → IsLent (set s.words x.way.place.link new) row → IsLent s.words row
  lent_back row l = let t = lent_end z words' role' last shape_now row l in
      let b = was_marked t.0 t.1 t.2 t.3.0 in
      let c = subst (λ its. (mark its ≡ 1) × IsActive words' (mark_owner its) (mark_number its)
      × (mark_bound its ≡ row)) b.1 t.3 in
      end_lent z s.words role last shape row (
        t.0,
        t.1,
        b.0,
        (c.0, active_back z s.words words' role role' same_ranges _ _ c.1, c.2),
      )

  -- Each row but the new one is linked still, if it doesn't go, and was linked, if it is.
  pub stays_back : (row : ℕ) → ¬ IsIn row ins → IsLinked words' row → IsLinked s.words row
  stays_back row n l = ⊎_elim (λ o. out_linked row o)
      (λ (m : ¬ IsIn row (gone_by x)). ⊎_elim
      (λ (t : (q : Place) × (place_of (role' row) ≡ some q)). placed_linked z s.words role last
      shape row t.0
      (ap place_of (sym (role_else row (λ e. n (0, ap some (sym e))) m)) ∙ t.1))
      (λ y. ⊎_elim
      (λ (t : (base : ℕ) × (q : Place) × (role' base ≡ Base q)
      × IsIn row (items (row_at words' base))). let w = was_item row t.0 t.1 t.2 t.3 in
      item_linked z s.words role last shape w.0 w.1 w.2 row w.3)
      (λ (t : (base : ℕ) × (q : Place) × (role' base ≡ Base q) × IsBoundOf words' base row).
      let k = lent_back row (end_lent z words' role' last shape_now row t) in
      by_range k.0 row k.1 k.2 k.3)
      y)
      (reached z words' role' last shape_now row l))
      (has outs row)

  pub stays_on : (row : ℕ) → ¬ IsIn row (gone_by x) → IsLinked s.words row → IsLinked words' row
  stays_on row m l = ⊎_elim
      (λ (t : (q : Place) × (place_of (role row) ≡ some q)). placed_linked z words' role' last
      shape_now row t.0
      (ap place_of (role_else row (not_new row t.0 t.1) m) ∙ t.1))
      (λ y. ⊎_elim
      (λ (t : (base : ℕ) × (q : Place) × (role base ≡ Base q)
      × IsIn row (items (row_at s.words base))). item_now row t.0 t.1 t.2 t.3)
      (λ (t : (base : ℕ) × (q : Place) × (role base ≡ Base q) × IsBoundOf s.words base row).
      let k = lent_on row (end_lent z s.words role last shape row t) in
      by_range k.0 row k.1 k.2 k.3)
      y)
      (reached z s.words role last shape row l)

  pub new_linked : IsLinked (set s.words x.way.place.link new) new
  new_linked = placed_linked z words' role' last shape_now new place (ap place_of role_new)

  -- What goes is nothing that the new tree has.
  pub out_unlinked : (row : ℕ) → IsIn row (gone_by x) → ¬ IsLinked words' row
  out_unlinked row o l = let p = out_placed row o in ⊎_elim
      (λ (t : (q : Place) × (place_of (role' row) ≡ some q)). some-ne-none t.0
      (sym t.1 ∙ ap place_of (role_out row o)))
      (λ y. ⊎_elim
      (λ (t : (base : ℕ) × (q : Place) × (role' base ≡ Base q)
      × IsIn row (items (row_at words' base))). let w = was_item row t.0 t.1 t.2 t.3 in
      some-ne-none p.0 (sym p.1
      ∙ ap place_of (item_out z s.words role last shape w.0 w.1 w.2 row w.3)))
      (λ (t : (base : ℕ) × (q : Place) × (role' base ≡ Base q) × IsBoundOf words' base row).
      out_unlent row o (lent_back row (end_lent z words' role' last shape_now row t)))
      y)
      (reached z words' role' last shape_now row l)

  -- What the tree has is listed again: the new base for the three rows, where the route was.
  abbrev coming : ℕ × Place
  coming = (new, x.way.place)

  -- A base is neither the route nor one that goes, where it is neither of both bases.
  no_base_out : (row : ℕ) (q : Place) → role row ≡ Base q
      → ¬ IsIn row (x.left.row ∷ x.right.row ∷ []) → ¬ IsIn row (gone_by x)
  no_base_out row q e n i = ⊎_elim
      (λ (g : x.way.row ≡ row). let y : Route place (route_key x.way.its) ≡ Base q =
      sym is_there ∙ (ap role g ∙ e) in cc)
      n (in_more x.way.row row (x.left.row ∷ x.right.row ∷ []) i)

  relists : Relists s.words words' role role' ins (gone_by x) (coming ∷ [])
      (x.left.row ∷ x.right.row ∷ [])
  relists = record {
    comes = λ row i. subst (IsLinked words') (in_one new row i) new_linked;
    came_out = λ row i l. new_unlinked (subst (IsLinked s.words) (sym (in_one new row i)) l);
    goes = λ row o _ l. out_unlinked row o l;
    back = stays_back;
    on = stays_on;
    ins_once = ((λ (t : (y : ℕ) × IsIn y [] × (y ≡ new)). in_nothing t.0 [] refl t.1), tt);
    base_comes = λ row q i. let e = in_one {A = ℕ × Place} coming (row, q) i in
        ap (λ (b : ℕ × Place). role' b.0) (sym e) ∙ (role_new ∙ ap (λ (b : ℕ × Place). Base b.1) e);
    base_out = λ row q i. ap (λ (b : ℕ × Place). role b.0)
        (sym (in_one {A = ℕ × Place} coming (row, q) i)) ∙ new_out;
    base_back = λ row q e. ⊎_elim
        (λ (n : (row ≡ new) × (q ≡ place)). inl
        (0, ap some (ap (λ c. (c, place)) (sym n.0) ∙ ap (λ p. (row, p)) (sym n.1))))
        (λ (w : (r.above.role row ≡ Base q) × (row ≢ new) × ¬ IsIn row (gone_by x)).
        inr (w.0, λ (i : IsIn row (x.left.row ∷ x.right.row ∷ [])). w.2 (suc i.0, i.1)))
        (base_was row q e);
    base_on = λ row q e n. role_else row (not_new row q (ap place_of e)) (no_base_out row q e n)
        ∙ e;
    bases_once = (
      (λ (t : (y : ℕ × Place) × IsIn y [] × (y.0 ≡ new)). in_nothing t.0 [] refl t.1),
      tt,
    );
  }

  pub listed_now : IsInventory (set s.words x.way.place.link new)
      (without_route r.above.role x.way.place x.way.row
      (get_or s.words (row_words * x.way.row + 1) 0) (get_or s.words (row_words * x.way.row + 2) 0)
      new) (unlinked_inventory new x r.above.inventory)
  listed_now = listed_again s.words words' role role' ins (gone_by x) (coming ∷ [])
      (x.left.row ∷ x.right.row ∷ []) f.inventory relists f.listed
