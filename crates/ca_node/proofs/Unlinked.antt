-- A route is unlinked: by one exchange of its link a base takes its place that has the objects of the two bases under it. It is the inverse of a division.
use Rattle.std.proofs.Common.{◌≡◌, ◌≢◌, ◌⊎◌, ℕ, ◌+◌, ◌*◌, ◌≤◌, le_refl, eqb, cond, List, ◌++◌, length, map, get_or, set, sym, refl, ap, ◌∙◌, subst, inl, inr, ⊎_elim, arith}
use Rattle.std.proofs.lemmas.Bool.Decides.{nat_tests}
use Rattle.std.proofs.lemmas.List.{map-append}
use mathlib.Core.Logic.{dite}
use mathlib.Core.Option.{some, some-injective, some-ne-none}
use native.Mathlib.Decide.{ℕ_discrete}
use Rattle.std.specs.declared.cmp.Ordering.{Ordering}
use Rattle.std.specs.declared.cmp.Ordering.TheVariants.{Less, Equal, Greater}
use Rattle.ca_model.specs.History.{History, state}
use Rattle.ca_model.specs.StoreMap.{Pair, StoreMap, bytes_cmp, IsStoreMap}
use Rattle.ca_rows.specs.declared.sizes.Sizes.{Sizes}
use Rattle.ca_node.specs.Attempts.{IsSecured}
use Rattle.ca_node.specs.Hindsight.{IsLeftOver, LedTo, IsDead}
use Rattle.ca_node.specs.Links.{IsIn}
use Rattle.ca_node.specs.Place.{Span, all_keys, left_of, right_of, HasKey, part, Place, IsLinkOf}
use Rattle.ca_node.specs.Row.{row_at, IsObjectRow, IsBaseRow, count, level, items, IsMarkedFor, route_key, pair, objects_in}
use Rattle.ca_node.specs.Shape.{Role, Out, Base, Route, place_of, LeadsTo, IsBaseAt, IsRouteAt, IsSo, IsShape}
use Rattle.ca_node.specs.Reached.{same_place, base_at, route_at, led_to, led_place, hung, deeper}
use Rattle.ca_node.specs.Standing.{objects_same, heads_same, link_route}
use Rattle.ca_node.proofs.Parts.{part_sides, goes_left, goes_right}
use Rattle.ca_node.proofs.Relinked.{IsRoute, base_no_route, IsNewBase, AreRolesThen, relinked_wide, relinked_here, relinked_else, relinked_joins, relinked_row, relinked_object, link_still, lead_still, row_still, base_comes}
use Rattle.ca_rows.specs.Layout.{row_words}
use Rattle.ca_node.specs.Layout.{root_word}

-- the roles where a base takes the place of a route and of the two bases under it
abbrev pub without_route : (ℕ → Role) → Place → ℕ → ℕ → ℕ → ℕ → ℕ → Role
without_route role place route left right new row =
    cond (eqb row new) (Base place) (cond (eqb row route) Out (cond (eqb row left) Out (cond (eqb row right) Out (role row))))

-- What is what then.
module _ (role : ℕ → Role) (place : Place) (route left right new : ℕ) where
  -- The new base is one there.
  pub without_new : without_route role place route left right new new ≡ Base place
  without_new = grind (arith, nat_tests)

  -- The route and its two bases are nothing.
  pub without_out : (row : ℕ) → row ≢ new → (row ≡ route) ⊎ ((row ≡ left) ⊎ (row ≡ right)) → without_route role place route left right new row ≡ Out
  without_out row n is = ⊎_elim (λ (e : row ≡ route). grind (arith, nat_tests))
      (λ o. ⊎_elim (λ (e : row ≡ left). grind (arith, nat_tests)) (λ (e : row ≡ right). grind (arith, nat_tests)) o) is

  -- Each other row is what it was.
  pub without_else : (row : ℕ) → row ≢ new → row ≢ route → row ≢ left → row ≢ right → without_route role place route left right new row ≡ role row
  without_else row n m l d = grind (arith, nat_tests)

-- A base takes the place of a route over two bases, and has the objects of both.
module _ (z : Sizes) (words : List ℕ) (role : ℕ → Role) (m : StoreMap) (shape : IsShape z words role m) (p : ℕ) (is_map : IsStoreMap p m)
    (route : ℕ) (place : Place) (k : List ℕ) (is : role route ≡ Route place k)
    (is_left : IsBaseRow (row_at words (get_or words (row_words * route + 1) 0))) (is_right : IsBaseRow (row_at words (get_or words (row_words * route + 2) 0)))
    (new : ℕ) (b : IsNewBase z words role place new)
    (united : items (row_at words new)
    ≡ items (row_at words (get_or words (row_words * route + 1) 0)) ++ items (row_at words (get_or words (row_words * route + 2) 0))) where
  -- the bases under the route
  abbrev left : ℕ
  left = get_or words (row_words * route + 1) 0

  abbrev right : ℕ
  right = get_or words (row_words * route + 2) 0

  -- the words and the roles then
  abbrev words' : List ℕ
  words' = set words place.link new

  abbrev roles : ℕ → Role
  roles = without_route role place route left right new

  -- the rows that go
  abbrev pub IsGoing : ℕ → Type 0
  IsGoing c = (c ≡ route) ⊎ ((c ≡ left) ⊎ (c ≡ right))

  pub was : IsRouteAt z words role place k route
  was = route_at z words role m shape route place k is

  hangs : place_of (role route) ≡ some place
  hangs = ap place_of is

  -- Each link of the route leads to a base.
  base_under : (link least : ℕ) (span : Span) (l : LeadsTo words role link least span) → IsBaseRow (row_at words (get_or words link 0))
      → role (get_or words link 0) ≡ Base (led_to words role link least span l)
  base_under link least span l f = ⊎_elim (λ t. t.1)
      (λ t. let g = t.1.is_route in absurd (omega arith)) (led_place z words role m shape link least span l)

  abbrev pub left_span : Place
  left_span = led_to words role (row_words * route + 1) _ _ was.left

  abbrev pub right_span : Place
  right_span = led_to words role (row_words * route + 2) _ _ was.right

  pub role_left : role (get_or words (row_words * route + 1) 0) ≡ Base left_span
  role_left = base_under (row_words * route + 1) _ _ was.left is_left

  pub role_right : role (get_or words (row_words * route + 2) 0) ≡ Base right_span
  role_right = base_under (row_words * route + 2) _ _ was.right is_right

  -- The left base stands below the route.
  pub left_below : place.level ≤ left_span.level
  left_below = let l = was.left.greater in omega arith

  -- What goes had a place, so it isn't the new base; and it is nothing then.
  pub going_other : (c : ℕ) → IsGoing c → c ≢ new
  going_other c g e = ⊎_elim (λ (f : c ≡ route). apart route place hangs (sym f ∙ e))
      (λ o. ⊎_elim (λ (f : c ≡ left). apart left left_span (ap place_of role_left) (sym f ∙ e))
      (λ (f : c ≡ right). apart right right_span (ap place_of role_right) (sym f ∙ e)) o) g
    where
      apart : (d : ℕ) (q : Place) → place_of (role d) ≡ some q → d ≢ new
      apart d q h f = some-ne-none q (sym h ∙ (ap (λ y. place_of (role y)) f ∙ ap place_of b.is_out))

  pub role_going : (c : ℕ) → IsGoing c → roles c ≡ Out
  role_going c g = without_out role place route left right new c (going_other c g) g

  pub role_new : roles new ≡ Base place
  role_new = without_new role place route left right new

  pub role_else : (c : ℕ) → c ≢ new → ¬ IsGoing c → roles c ≡ role c
  role_else c n s = without_else role place route left right new c n (λ e. s (inl e)) (λ e. s (inr (inl e))) (λ e. s (inr (inr e)))

  -- A route that goes is the one.
  going_route : (c : ℕ) → IsGoing c → IsRoute role c → c ≡ route
  going_route c g t = ⊎_elim (λ (e : c ≡ route). e)
      (λ o. ⊎_elim
      (λ (e : c ≡ left). let f : Base left_span ≡ Route t.0 t.1 = sym role_left ∙ (ap role (sym e) ∙ t.2) in absurd cc)
      (λ (e : c ≡ right). let f : Base right_span ≡ Route t.0 t.1 = sym role_right ∙ (ap role (sym e) ∙ t.2) in absurd cc) o) g

  -- What hangs on a link of the route is one of its bases.
  hangs_under : (c : ℕ) (q : Place) → place_of (role c) ≡ some q → IsLinkOf route q.link → IsGoing c
  hangs_under c q e of = let here = sym (hung z words role m shape c q e).0 in ⊎_elim
      (λ (f : q.link ≡ row_words * route + 1). inr (inl (here ∙ ap (λ i. get_or words i 0) f)))
      (λ (f : q.link ≡ row_words * route + 2). inr (inr (here ∙ ap (λ i. get_or words i 0) f))) of

  -- The roles are those after the exchange.
  takes : AreRolesThen role roles m m route place new IsGoing
  takes = record {
    fills = ap place_of role_new;
    still = λ c q e s. role_else c (λ f. some-ne-none q (sym e ∙ (ap (λ y. place_of (role y)) f ∙ ap place_of b.is_out))) s;
    parts = λ c q e s. refl;
    old_goes = inl refl;
    under = λ r c q g is_route e of. hangs_under c q e (subst (λ y. IsLinkOf y q.link) (going_route r g is_route) of);
    above = λ c q g other e. ⊎_elim (λ (f : c ≡ route). absurd (other f))
        (λ o. ⊎_elim
        (λ (f : c ≡ left). (route, inl refl, inl (ap (λ (y : Place). y.link) (same_place q left_span (at_once c q e g left left_span f role_left)))))
        (λ (f : c ≡ right). (route, inl refl, inr (ap (λ (y : Place). y.link) (same_place q right_span (at_once c q e g right right_span f role_right))))) o) g;
  }
    where
      at_once : (c : ℕ) (q : Place) → place_of (role c) ≡ some q → IsGoing c → (d : ℕ) (s : Place) → c ≡ d → role d ≡ Base s → Base q ≡ Base s
      at_once c q e g d s f is = ap Base (some-injective q s (sym e ∙ (ap (λ y. place_of (role y)) f ∙ ap place_of is)))

  -- The link on which the route hangs is none of its own, since a level rises along them.
  pub kept_link : (r : ℕ) → IsGoing r → ¬ IsLinkOf r place.link
  kept_link r g of = let t = link_route role place.link r was.is_link of in
      let own : IsLinkOf route place.link = subst (λ y. IsLinkOf y place.link) (going_route r g t) of in ⊎_elim
      (λ (f : place.link ≡ row_words * route + 1). let d = deeper z words role m shape (row_words * route + 1) _ _ was.left route place hangs f in omega arith)
      (λ (f : place.link ≡ row_words * route + 2). let d = deeper z words role m shape (row_words * route + 2) _ _ was.right route place hangs f in omega arith)
      own

  -- The root link is none of a route's.
  kept_root : (r : ℕ) → IsGoing r → ¬ IsLinkOf r root_word
  kept_root r g of = ⊎_elim (λ (f : root_word ≡ row_words * r + 1). omega arith) (λ (f : root_word ≡ row_words * r + 2). omega arith) of

  -- the pair of an object row
  abbrev f : ℕ → Pair
  f row = pair (row_at words row)

  -- The new base has what the map has of both sides of the route's key.
  pub united_has : objects_in words new ≡ part place.span m
  united_has = ap (map f) united
      ∙ (map-append f (items (row_at words left)) (items (row_at words right))
      ∙ (ap (λ (xs : StoreMap). xs ++ map f (items (row_at words right))) (base_at z words role m shape left left_span role_left).has
      ∙ (ap (λ (xs : StoreMap). part (left_of k place.span) m ++ xs) (base_at z words role m shape right right_span role_right).has
      ∙ sym (part_sides p place.span m k is_map was.inside))))

  new_at : IsBaseAt z words' roles m place new
  new_at = base_comes z words role m shape route place hangs new roles m IsGoing takes new place b
      (relinked_here z words role m shape route place hangs new)
      (link_still z words role m shape route place hangs new roles m IsGoing takes place.link was.is_link kept_link)
      (let above = was.above in omega arith) united_has

  -- what a row is then
  abbrev Is : ℕ → Role → Type 0
  Is = IsSo z words' roles m

  -- Whether a row goes.
  going : (c : ℕ) → IsGoing c ⊎ ¬ IsGoing c
  going c = dite (ℕ_discrete c route) (λ (e : c ≡ route). inl (inl e))
      (λ (n : c ≢ route). dite (ℕ_discrete c left) (λ (e : c ≡ left). inl (inr (inl e)))
      (λ (l : c ≢ left). dite (ℕ_discrete c right) (λ (e : c ≡ right). inl (inr (inr e)))
      (λ (h : c ≢ right). inr (λ g. ⊎_elim n (λ o. ⊎_elim l h o) g))))

  -- Each row is what its role says.
  so : (c : ℕ) → IsSo z words' roles m c (roles c)
  so c = dite (ℕ_discrete c new)
      (λ (e : c ≡ new). subst (λ (y : ℕ). Is y (roles y)) (sym e) (subst (Is new) (sym role_new) new_at))
      (λ (n : c ≢ new). ⊎_elim
      (λ (g : IsGoing c). subst (Is c) (sym (role_going c g)) tt)
      (λ (s : ¬ IsGoing c). subst (Is c) (sym (role_else c n s))
      (row_still z words role m shape route place hangs new roles m IsGoing takes c s (role c) refl (shape.each_row c)))
      (going c))

  -- A base of the new tree is the new one, or one of the old tree that stays.
  pub base_was : (c : ℕ) (q : Place) → roles c ≡ Base q → ((c ≡ new) × (q ≡ place)) ⊎ ((role c ≡ Base q) × (c ≢ new) × ¬ IsGoing c)
  base_was c q e = dite (ℕ_discrete c new)
      (λ (f : c ≡ new). inl (f, same_place q place (sym e ∙ (ap roles f ∙ role_new))))
      (λ (n : c ≢ new). ⊎_elim
      (λ (g : IsGoing c). let w : Base q ≡ Out = sym e ∙ role_going c g in absurd cc)
      (λ (s : ¬ IsGoing c). inr (sym (role_else c n s) ∙ e, n, s)) (going c))

  -- So is a route, which isn't the one that goes.
  pub route_was : (c : ℕ) (q : Place) (key : List ℕ) → roles c ≡ Route q key → (role c ≡ Route q key) × ¬ IsGoing c
  route_was c q key e = dite (ℕ_discrete c new)
      (λ (f : c ≡ new). let w : Base place ≡ Route q key = sym role_new ∙ (ap roles (sym f) ∙ e) in absurd cc)
      (λ (n : c ≢ new). ⊎_elim
      (λ (g : IsGoing c). let w : Out ≡ Route q key = sym (role_going c g) ∙ e in absurd cc)
      (λ (s : ¬ IsGoing c). (sym (role_else c n s) ∙ e, s)) (going c))

  -- A key that was led to the route was led to one of its bases, and so to no other base.
  none_else : (c : ℕ) (q : Place) (x : List ℕ) → role c ≡ Base q → ¬ IsGoing c → HasKey q.span x → ¬ HasKey place.span x
  none_else c q x e s h inside = by (bytes_cmp x k) refl
    where
      to_left : bytes_cmp x k ≡ Less → ⊥
      to_left less = s (inr (inl (shape.apart c left q left_span x e role_left h (goes_left k x place.span inside less))))

      to_right : bytes_cmp x k ≢ Less → ⊥
      to_right far = s (inr (inr (shape.apart c right q right_span x e role_right h (goes_right k x place.span inside far))))

      by : (o : Ordering) → bytes_cmp x k ≡ o → ⊥
      by Less less = to_left less
      by Equal same = to_right (λ less. let w : Equal ≡ Less = sym same ∙ less in cc)
      by Greater more = to_right (λ less. let w : Greater ≡ Less = sym more ∙ less in cc)

  -- No key is led to two bases.
  alone : (c d : ℕ) (q s : Place) (x : List ℕ) → roles c ≡ Base q → roles d ≡ Base s → HasKey q.span x → HasKey s.span x → c ≡ d
  alone c d q s x e g h j = ⊎_elim
      (λ (v : (c ≡ new) × (q ≡ place)). ⊎_elim
      (λ (w : (d ≡ new) × (s ≡ place)). v.0 ∙ sym w.0)
      (λ (w : (role d ≡ Base s) × (d ≢ new) × ¬ IsGoing d).
      absurd (none_else d s x w.0 w.2 j (subst (λ (y : Place). HasKey y.span x) v.1 h)))
      (base_was d s g))
      (λ (v : (role c ≡ Base q) × (c ≢ new) × ¬ IsGoing c). ⊎_elim
      (λ (w : (d ≡ new) × (s ≡ place)). absurd (none_else c q x v.0 v.2 h (subst (λ (y : Place). HasKey y.span x) w.1 j)))
      (λ (w : (role d ≡ Base s) × (d ≢ new) × ¬ IsGoing d). shape.apart c d q s x v.0 w.0 h j)
      (base_was d s g))
      (base_was c q e)

  -- The exchange of the link puts the new base in the place of the route and of its bases,
  pub shape_unlinked : IsShape z (set words place.link new)
      (without_route role place route (get_or words (row_words * route + 1) 0) (get_or words (row_words * route + 2) 0) new) m
  shape_unlinked = record {
    wide = relinked_wide z words role m shape route place hangs new;
    top = lead_still z words role m shape route place hangs new roles m IsGoing takes root_word 0 all_keys shape.top kept_root;
    each_row = so;
    apart = alone;
  }

  -- and from then on the route is dead for each seat that remembers it, where its attempt is secured, which marked both bases: with the state that there was.
  module _ (history : History) (last : state history (length history) ≡ m) (attempt : ℕ) (secured : IsSecured words route attempt)
      (marked_left : IsMarkedFor (row_at words (get_or words (row_words * route + 1) 0)) route attempt)
      (marked_right : IsMarkedFor (row_at words (get_or words (row_words * route + 2) 0)) route attempt)
      (few : count (row_at words (get_or words (row_words * route + 1) 0)) + count (row_at words (get_or words (row_words * route + 2) 0)) ≤ z.leaf) where
    -- A link of the route names what it named, and that is left over.
    led_then : (link : ℕ) (span : Span) (l : LeadsTo words role link (place.level + 1) span) → IsLinkOf route link → IsGoing (get_or words link 0)
        → IsBaseRow (row_at words (get_or words link 0)) → IsMarkedFor (row_at words (get_or words link 0)) route attempt
        → LedTo z words' roles (state history (length history)) route attempt link (place.level + 1) span
    led_then link span l of g base marked = let c = get_or words link 0 in let q = led_to words role link (place.level + 1) span l in
        let e = base_under link (place.level + 1) span l base in let at = base_at z words role m shape c q e in
        let here : get_or words' link 0 ≡ c = relinked_else z words role m shape route place hangs new link
        (λ f. kept_link route (inl refl) (subst (IsLinkOf route) f of)) in
        let same = relinked_row z words role m shape route place hangs new c at.some_row at.in_range (base_no_route role c q e) in
        let objects : (r : ℕ) → IsIn r (items (row_at words c)) → row_at words' r ≡ row_at words r = λ r i. let o = at.are_objects r i in
        relinked_object z words role m shape route place hangs new r o.0 o.1 o.2.0 in record {
          level = l.level;
          greater = l.greater;
          base = subst (IsLeftOver z words' roles (state history (length history)) route attempt q) (sym here) record {
            some_row = at.some_row;
            in_range = at.in_range;
            is_out = role_going c g;
            deep = at.deep;
            is_base = subst IsBaseRow (sym same) at.is_base;
            level_is = ap level same ∙ at.level_is;
            few = subst (λ its. count its ≤ z.leaf) (sym same) at.few;
            marked = subst (λ its. IsMarkedFor its route attempt) (sym same) marked;
            are_objects = λ r i. let before = subst (λ its. IsIn r (items its)) same i in let o = at.are_objects r before in
                (o.0, o.1, subst IsObjectRow (sym (objects r before)) o.2);
            headed = heads_same words words' c same objects at.headed;
            has = objects_same words words' c same objects ∙ (at.has ∙ ap (part span) (sym last));
          };
        }

    -- It has the words that it had.
    same_under : (link : ℕ) (span : Span) → LeadsTo words role link (place.level + 1) span → IsLinkOf route link
        → IsBaseRow (row_at words (get_or words link 0)) → row_at words' (get_or words' link 0) ≡ row_at words (get_or words link 0)
    same_under link span l of base = let c = get_or words link 0 in let e = base_under link (place.level + 1) span l base in
        let at = base_at z words role m shape c (led_to words role link (place.level + 1) span l) e in
        ap (row_at words') (relinked_else z words role m shape route place hangs new link
        (λ f. kept_link route (inl refl) (subst (IsLinkOf route) f of)))
        ∙ relinked_row z words role m shape route place hangs new c at.some_row at.in_range
        (base_no_route role c (led_to words role link (place.level + 1) span l) e)

    pub way_dies : (since : History) → length since ≤ length history → (its : List ℕ) → route_key its ≡ k
        → IsDead z words' roles since history (record { row = route; its = its; place = place }) (length history)
    way_dies since before its key = record {
      since_pin = before;
      in_history = le_refl (length history);
      is_out = role_going route (inl refl);
      attempt = attempt;
      secured = relinked_joins z words role m shape route place hangs new route ∙ secured;
      left = subst (λ y. LedTo z words' roles (state history (length history)) route attempt (row_words * route + 1) (place.level + 1) (left_of y place.span))
          (sym key) (led_then (row_words * route + 1) _ was.left (inl refl) (inr (inl refl)) is_left marked_left);
      right = subst (λ y. LedTo z words' roles (state history (length history)) route attempt (row_words * route + 2) (place.level + 1) (right_of y place.span))
          (sym key) (led_then (row_words * route + 2) _ was.right (inr refl) (inr (inr refl)) is_right marked_right);
      few = omega (
        arith,
        few,
        ap count (same_under (row_words * route + 1) _ was.left (inl refl) is_left),
        ap count (same_under (row_words * route + 2) _ was.right (inr refl) is_right),
      );
    }
