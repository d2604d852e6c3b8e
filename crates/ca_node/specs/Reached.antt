-- What the root link reaches in a tree of routes: what has a place, and the objects of the bases.
use Rattle.std.proofs.Common.{◌≡◌, ◌⊎◌, ℕ, zero, suc, ◌+◌, ◌*◌, ◌<◌, ◌≤◌, List, [], ◌≢◌, get_or, sym, refl, ap, ◌∙◌, subst, inl, inr, ⊎_elim, arith}
use mathlib.Core.Option.{some, some-injective, some-ne-none}
use Rattle.ca_model.specs.StoreMap.{StoreMap}
use Rattle.ca_rows.specs.declared.sizes.Sizes.{Sizes}
use Rattle.ca_node.specs.Links.{IsIn, IsBoundOf, IsLinked, by_root, by_route, by_base, by_range, IsLent}
use Rattle.ca_node.specs.Place.{Span, all_keys, left_of, right_of, Place, IsLinkOf}
use Rattle.ca_node.specs.Row.{row_at, form, IsObjectRow, IsBaseRow, IsRouteRow, IsBorderRow, items}
use Rattle.ca_node.specs.Shape.{Role, Out, Base, Route, place_of, IsLink, LeadsTo, IsBaseAt, IsRouteAt, IsSo, IsShape}
use Rattle.ca_rows.specs.Layout.{row_words}
use Rattle.ca_node.specs.Layout.{root_word}

-- What has a place is a base there, or a route.
pub by_place : (is : Role) (place : Place) → place_of is ≡ some place → (is ≡ Base place) ⊎ ((key : List ℕ) × (is ≡ Route place key))
by_place Out place e = absurd (some-ne-none place (sym e))
by_place (Base p) place e = inl (ap Base (some-injective p place e))
by_place (Route p key) place e = inr (key, ap (λ (q : Place). Route q key) (some-injective p place e))

-- A base has its place alone.
pub same_place : (p q : Place) → Base p ≡ Base q → p ≡ q
same_place p q e = some-injective p q (ap place_of e)

-- the key of a route
abbrev key_of : Role → List ℕ
key_of Out = []
key_of (Base place) = []
key_of (Route place key) = key

-- So has a route, and its key.
pub same_route : (p q : Place) (k l : List ℕ) → Route p k ≡ Route q l → (p ≡ q) × (k ≡ l)
same_route p q k l e = (some-injective p q (ap place_of e), ap key_of e)

-- the place that a link leads to
abbrev pub led_to : (words : List ℕ) (role : ℕ → Role) (link least : ℕ) (span : Span) → LeadsTo words role link least span → Place
led_to words role link least span l = record { link = link; level = l.level; span = span }

-- The tree under the root link, by its roles.
module _ (z : Sizes) (words : List ℕ) (role : ℕ → Role) (m : StoreMap) (shape : IsShape z words role m) where
  -- A base is what its role says.
  pub base_at : (row : ℕ) (place : Place) → role row ≡ Base place → IsBaseAt z words role m place row
  base_at row place e = subst (IsSo z words role m row) e (shape.each_row row)

  -- A route is what its role says.
  pub route_at : (row : ℕ) (place : Place) (key : List ℕ) → role row ≡ Route place key → IsRouteAt z words role place key row
  route_at row place key e = subst (IsSo z words role m row) e (shape.each_row row)

  -- A row that is led to stands at that place, as a base or a route.
  pub led_place : (link least : ℕ) (span : Span) (l : LeadsTo words role link least span)
      → (IsBaseAt z words role m (led_to words role link least span l) (get_or words link 0)
      × (role (get_or words link 0) ≡ Base (led_to words role link least span l)))
      ⊎ ((key : List ℕ) × IsRouteAt z words role (led_to words role link least span l) key (get_or words link 0)
      × (role (get_or words link 0) ≡ Route (led_to words role link least span l) key))
  led_place link least span l = let place = led_to words role link least span l in let row = get_or words link 0 in ⊎_elim
      (λ (e : role row ≡ Base place). inl (base_at row place e, e))
      (λ (t : (key : List ℕ) × (role row ≡ Route place key)). inr (t.0, route_at row place t.0 t.1, t.1))
      (by_place (role row) place l.hangs)

  -- What has a place is a row in range, under a link of the tree.
  pub hung : (row : ℕ) (place : Place) → place_of (role row) ≡ some place
      → (get_or words place.link 0 ≡ row) × IsLink role place.link × (0 < row) × (row ≤ z.rows)
  hung row place e = ⊎_elim
      (λ (b : role row ≡ Base place). let at = base_at row place b in (at.under, at.is_link, at.some_row, at.in_range))
      (λ (t : (key : List ℕ) × (role row ≡ Route place key)). let at = route_at row place t.0 t.1 in (at.under, at.is_link, at.some_row, at.in_range))
      (by_place (role row) place e)

  -- A link is the root link, or a word of the rows.
  pub link_range : (link : ℕ) → IsLink role link → (link ≡ root_word) ⊎ ((row_words < link) × (link < row_words * z.rows + row_words))
  link_range link is = ⊎_elim
      (λ (e : link ≡ root_word). inl e)
      (λ (t : (route : ℕ) × (place : Place) × (key : List ℕ) × (role route ≡ Route place key) × IsLinkOf route link).
      let lo = (route_at t.0 t.1 t.2 t.3).some_row in let hi = (route_at t.0 t.1 t.2 t.3).in_range in inr (⊎_elim
      (λ (e : link ≡ row_words * t.0 + 1). (omega arith, omega arith)) (λ (e : link ≡ row_words * t.0 + 2). (omega arith, omega arith)) t.4))
      is

  -- What is led to at a link is what has its place there.
  pub led_same : (link least : ℕ) (span : Span) (l : LeadsTo words role link least span) (row : ℕ) (place : Place)
      → place_of (role row) ≡ some place → place.link ≡ link → place ≡ led_to words role link least span l
  led_same link least span l row place e here = let h = hung row place e in some-injective place (led_to words role link least span l)
      (sym e ∙ (ap (λ (r : ℕ). place_of (role r)) (sym h.0 ∙ ap (λ (i : ℕ). get_or words i 0) here) ∙ l.hangs))

  -- A place under a route is deeper than that of the route.
  pub deeper : (link least : ℕ) (span : Span) → LeadsTo words role link least span → (row : ℕ) (place : Place) → place_of (role row) ≡ some place
      → place.link ≡ link → least ≤ place.level
  deeper link least span l row place e here = let same = ap (λ (p : Place). p.level) (led_same link least span l row place e here) in
      let g = l.greater in omega arith

  -- By a bound of its level, a place's row is linked: its route's level is less.
  linked_to : (n row : ℕ) (place : Place) → place.level < n → place_of (role row) ≡ some place → IsLinked words row
  linked_to zero row place deep e = absurd (omega arith)
  linked_to (suc n) row place deep e = let h = hung row place e in ⊎_elim
      (λ (top : place.link ≡ root_word). by_root row (sym (ap (λ (i : ℕ). get_or words i 0) top) ∙ h.0))
      (λ (t : (route : ℕ) × (p : Place) × (key : List ℕ) × (role route ≡ Route p key) × IsLinkOf route place.link).
      let at = route_at t.0 t.1 t.2 t.3 in ⊎_elim
      (λ (here : place.link ≡ row_words * t.0 + 1). let far = deeper (row_words * t.0 + 1) (t.1.level + 1) (left_of t.2 t.1.span) at.left row place e here in
      by_route t.0 row (linked_to n t.0 t.1 (omega arith) (ap place_of t.3)) at.is_route (inl (sym (ap (λ (i : ℕ). get_or words i 0) here) ∙ h.0)))
      (λ (here : place.link ≡ row_words * t.0 + 2). let far = deeper (row_words * t.0 + 2) (t.1.level + 1) (right_of t.2 t.1.span) at.right row place e here in
      by_route t.0 row (linked_to n t.0 t.1 (omega arith) (ap place_of t.3)) at.is_route (inr (sym (ap (λ (i : ℕ). get_or words i 0) here) ∙ h.0)))
      t.4)
      h.1

  -- What has a place is linked.
  pub placed_linked : (row : ℕ) (place : Place) → place_of (role row) ≡ some place → IsLinked words row
  placed_linked row place e = linked_to (suc place.level) row place (omega arith) e

  -- So are the objects of a base.
  pub item_linked : (base : ℕ) (place : Place) → role base ≡ Base place → (row : ℕ) → IsIn row (items (row_at words base)) → IsLinked words row
  item_linked base place e row i = by_base base row (placed_linked base place (ap place_of e)) (base_at base place e).is_base i

  -- The row is an object of a base, or says up to where the active range goes that marked one.
  abbrev pub IsItem : ℕ → Type 0
  IsItem row = (base : ℕ) × (place : Place) × (role base ≡ Base place) × IsIn row (items (row_at words base))

  abbrev pub IsEnd : ℕ → Type 0
  IsEnd row = (base : ℕ) × (place : Place) × (role base ≡ Base place) × IsBoundOf words base row

  -- The row has a place, or is such an object, or such an end.
  abbrev pub IsOfTree : ℕ → Type 0
  IsOfTree row = ((place : Place) × (place_of (role row) ≡ some place)) ⊎ (IsItem row ⊎ IsEnd row)

  -- An end of a range has the form of one, and is in range.
  pub end_at : (row : ℕ) → IsEnd row → (0 < row) × (row ≤ z.rows) × IsBorderRow (row_at words row)
  end_at row t = let b = (base_at t.0 t.1 t.2).bounded row t.3 in (b.some_row, b.in_range, b.is_border)

  -- An object of a base is an object row, in range.
  pub item_at : (base : ℕ) (place : Place) → role base ≡ Base place → (row : ℕ) → IsIn row (items (row_at words base))
      → (0 < row) × (row ≤ z.rows) × IsObjectRow (row_at words row)
  item_at base place e row i = (base_at base place e).are_objects row i

  -- What is of the tree and has the form of a base is a base.
  pub of_base : (row : ℕ) → IsOfTree row → IsBaseRow (row_at words row) → (place : Place) × (role row ≡ Base place)
  of_base row is f = ⊎_elim
      (λ (t : (place : Place) × (place_of (role row) ≡ some place)). ⊎_elim
      (λ (b : role row ≡ Base t.0). (t.0, b))
      (λ (r : (key : List ℕ) × (role row ≡ Route t.0 key)). let g = (route_at row t.0 r.0 r.1).is_route in absurd (omega arith))
      (by_place (role row) t.0 t.1))
      (λ is'. ⊎_elim
      (λ (t : IsItem row). let g = (item_at t.0 t.1 t.2 row t.3).2.0 in absurd (omega arith))
      (λ (t : IsEnd row). let g = (end_at row t).2 in absurd (omega arith))
      is')
      is

  -- What is of the tree and has the form of a route is a route.
  pub of_route : (row : ℕ) → IsOfTree row → IsRouteRow (row_at words row) → (place : Place) × (key : List ℕ) × (role row ≡ Route place key)
  of_route row is f = ⊎_elim
      (λ (t : (place : Place) × (place_of (role row) ≡ some place)). ⊎_elim
      (λ (b : role row ≡ Base t.0). let g = (base_at row t.0 b).is_base in absurd (omega arith))
      (λ (r : (key : List ℕ) × (role row ≡ Route t.0 key)). (t.0, r.0, r.1))
      (by_place (role row) t.0 t.1))
      (λ is'. ⊎_elim
      (λ (t : IsItem row). let g = (item_at t.0 t.1 t.2 row t.3).2.0 in absurd (omega arith))
      (λ (t : IsEnd row). let g = (end_at row t).2 in absurd (omega arith))
      is')
      is

  -- What a link leads to has a place.
  of_lead : (link least : ℕ) (span : Span) → LeadsTo words role link least span → (row : ℕ) → get_or words link 0 ≡ row → IsOfTree row
  of_lead link least span l row e = inl (led_to words role link least span l, sym (ap (λ (r : ℕ). place_of (role r)) e) ∙ l.hangs)

  -- The root link reaches nothing else.
  pub reached : (row : ℕ) → IsLinked words row → IsOfTree row
  reached _ (by_root row e) = of_lead root_word 0 all_keys shape.top row e
  reached _ (by_route route row l f u) = let t = of_route route (reached route l) f in let at = route_at route t.0 t.1 t.2 in ⊎_elim
      (of_lead (row_words * route + 1) (t.0.level + 1) (left_of t.1 t.0.span) at.left row)
      (of_lead (row_words * route + 2) (t.0.level + 1) (right_of t.1 t.0.span) at.right row)
      u
  reached _ (by_base base row l f i) = let t = of_base base (reached base l) f in inr (inl (base, t.0, t.1, i))
  reached _ (by_range base row l f x) = let t = of_base base (reached base l) f in inr (inr (base, t.0, t.1, x))

  -- What is linked is a row in range.
  pub linked_range : (row : ℕ) → IsLinked words row → (0 < row) × (row ≤ z.rows)
  linked_range row l = ⊎_elim
      (λ (t : (place : Place) × (place_of (role row) ≡ some place)). let h = hung row t.0 t.1 in (h.2, h.3))
      (λ is. ⊎_elim
      (λ (t : IsItem row). let o = item_at t.0 t.1 t.2 row t.3 in (o.0, o.1))
      (λ (t : IsEnd row). let o = end_at row t in (o.0, o.1))
      is)
      (reached row l)

  -- What is lent is an end of an active range.
  pub lent_end : (row : ℕ) → IsLent words row → IsEnd row
  lent_end row x = let t = of_base x.0 (reached x.0 x.1) x.2 in (x.0, t.0, t.1, x.3)

  pub end_lent : (row : ℕ) → IsEnd row → IsLent words row
  end_lent row t = (t.0, placed_linked t.0 t.1 (ap place_of t.2), (base_at t.0 t.1 t.2).is_base, t.3)

  -- So what has another form isn't.
  pub unlent : (row : ℕ) → form (row_at words row) ≢ 4 → ¬ IsLent words row
  unlent row n x = n (end_at row (lent_end row x)).2

  -- An end of a range has no place,
  pub end_out : (row : ℕ) → IsEnd row → role row ≡ Out
  end_out row t = by (role row) refl
    where
      by : (is : Role) → role row ≡ is → role row ≡ Out
      by Out e = e
      by (Base place) e = let g = (base_at row place e).is_base in let f = (end_at row t).2 in absurd (omega arith)
      by (Route place key) e = let g = (route_at row place key e).is_route in let f = (end_at row t).2 in absurd (omega arith)

  -- An object row has no place.
  pub object_out : (row : ℕ) → form (row_at words row) ≡ 1 → role row ≡ Out
  object_out row f = by (role row) refl
    where
      by : (is : Role) → role row ≡ is → role row ≡ Out
      by Out e = e
      by (Base place) e = let g = (base_at row place e).is_base in absurd (omega arith)
      by (Route place key) e = let g = (route_at row place key e).is_route in absurd (omega arith)

  -- So an object of a base is neither a base nor a route.
  pub item_out : (base : ℕ) (place : Place) → role base ≡ Base place → (row : ℕ) → IsIn row (items (row_at words base)) → role row ≡ Out
  item_out base place e row i = object_out row (item_at base place e row i).2.0
