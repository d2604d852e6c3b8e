-- A link of a closed tree leads to a base, whose items are the rows under it, or to a route, under which the rows are those on its left and on its right.
use Rattle.std.proofs.Common.{◌≡◌, ◌≢◌, ◌==◌, ◌⊎◌, ℕ, zero, suc, ◌+◌, ◌-◌, ◌*◌, ◌<◌, ◌≤◌, cond, List, ◌++◌, length, get_or, sym, ap, ◌∙◌, subst, inl, inr, ⊎_elim, arith, eq-eqb, ne_eqb}
use Rattle.ca_rows.specs.declared.sizes.Sizes.{Sizes}
use Rattle.ca_rows.specs.Layout.{row_words}
use Rattle.ca_node.specs.LastTree.{rows_under}
use Rattle.ca_node.specs.Place.{Place, left_of, right_of}
use Rattle.ca_node.specs.Reached.{led_to, led_place, link_range}
use Rattle.ca_node.specs.Row.{row_at, form, count, items}
use Rattle.ca_node.specs.Shape.{IsBaseAt, IsRouteAt}
use Rattle.ca_close.specs.Listing.{IsInside, IsWalkable}

-- the rows under a link, by what the link names
abbrev by_form : List ℕ → ℕ → ℕ → List ℕ
by_form words row less = cond (form (row_at words row) == 3) (rows_under less words (row_words * row + 1) ++ rows_under less words (row_words * row + 2)) (items (row_at words row))

unrolled : (deep : ℕ) (words : List ℕ) (link : ℕ) → 0 < deep → rows_under deep words link ≡ by_form words (get_or words link 0) (deep - 1)
unrolled zero words link lo = absurd (omega arith)
unrolled (suc deep) words link lo = let e : deep ≡ suc deep - 1 = omega arith in ap (by_form words (get_or words link 0)) e

-- The link names this route, and on both sides of it may be walked on, one link further down.
pub record Forks (z : Sizes) (words : List ℕ) (link deep row : ℕ) : Type 0 where
  pub left : IsWalkable z words (row_words * row + 1) (deep - 1)
  pub right : IsWalkable z words (row_words * row + 2) (deep - 1)
  pub rows : rows_under deep words link ≡ rows_under (deep - 1) words (row_words * row + 1) ++ rows_under (deep - 1) words (row_words * row + 2)

-- It names this base, whose items are the rows under it.
pub record Ends (words : List ℕ) (link deep row : ℕ) : Type 0 where
  pub few : count (row_at words row) ≤ 120
  pub rows : rows_under deep words link ≡ items (row_at words row)

module _ (z : Sizes) (words : List ℕ) (link deep : ℕ) (w : IsWalkable z words link deep) where
  abbrev row : ℕ
  row = get_or words link 0

  abbrev place : Place
  place = led_to words w.role link w.least w.span w.leads

  -- It is a base, or a route.
  abbrev pub IsBase : Type 0
  IsBase = IsBaseAt z words w.role w.has place row

  abbrev pub IsRoute : Type 0
  IsRoute = (key : List ℕ) × IsRouteAt z words w.role place key row

  pub either_is : IsBase ⊎ IsRoute
  either_is = ⊎_elim (λ b. inl b.0) (λ t. inr (t.0, t.1)) (led_place z words w.role w.has w.shape link w.least w.span w.leads)

  pub link_inside : link < length words
  link_inside = let wide = w.shape.wide in ⊎_elim (λ e. omega arith) (λ r. let hi = r.1 in omega arith)
      (link_range z words w.role w.has w.shape link (⊎_elim (λ (b : IsBase). b.is_link) (λ (t : IsRoute). t.1.is_link) either_is))

  -- The row is one of the space's.
  pub in_range : (0 < row) × (row ≤ z.rows)
  in_range = ⊎_elim (λ (b : IsBase). (b.some_row, b.in_range)) (λ (t : IsRoute). (t.1.some_row, t.1.in_range)) either_is

  pub row_inside : IsInside words row
  row_inside = let wide = w.shape.wide in let hi = in_range.1 in let few = w.fit.below in record { below = omega arith; whole = omega arith }

  -- Some levels are left.
  pub some_left : 0 < deep
  some_left = let e = w.enough in ⊎_elim (λ (b : IsBase). let d = b.deep in omega arith) (λ (t : IsRoute). let d = t.1.above in omega arith) either_is

  forks_here : form (row_at words row) ≡ 3 → Forks z words link deep row
  forks_here is = let e = w.enough in let some_more = some_left in ⊎_elim
      (λ (b : IsBase). let f = b.is_base in absurd (omega arith))
      (λ (t : IsRoute). let l = t.1.left.greater in let r = t.1.right.greater in record {
        left = record {
          fit = w.fit;
          role = w.role;
          has = w.has;
          shape = w.shape;
          least = w.leads.level + 1;
          span = left_of t.0 w.span;
          leads = t.1.left;
          enough = omega arith;
        };
        right = record {
          fit = w.fit;
          role = w.role;
          has = w.has;
          shape = w.shape;
          least = w.leads.level + 1;
          span = right_of t.0 w.span;
          leads = t.1.right;
          enough = omega arith;
        };
        rows = unrolled deep words link some_more
            ∙ ap (λ c. cond c (rows_under (deep - 1) words (row_words * row + 1) ++ rows_under (deep - 1) words (row_words * row + 2)) (items (row_at words row)))
            (eq-eqb (form (row_at words row)) 3 is);
      })
      either_is

  ends_here : form (row_at words row) ≢ 3 → Ends words link deep row
  ends_here other = let few = w.fit.few in ⊎_elim
      (λ (b : IsBase). let c = b.few in record {
        few = omega arith;
        rows = unrolled deep words link some_left
            ∙ ap (λ c. cond c (rows_under (deep - 1) words (row_words * row + 1) ++ rows_under (deep - 1) words (row_words * row + 2)) (items (row_at words row)))
            (ne_eqb (form (row_at words row)) 3 other);
      })
      (λ (t : IsRoute). absurd (other t.1.is_route))
      either_is

  pub forks : (route : ℕ) → route ≡ row → form (row_at words route) ≡ 3 → Forks z words link deep route
  forks route e is = subst (Forks z words link deep) (sym e) (forks_here (subst (λ (r : ℕ). form (row_at words r) ≡ 3) e is))

  pub ends : (base : ℕ) → base ≡ row → form (row_at words base) ≢ 3 → Ends words link deep base
  ends base e other = subst (Ends words link deep) (sym e) (ends_here (subst (λ (r : ℕ). form (row_at words r) ≢ 3) e other))

  pub inside_at : (at : ℕ) → at ≡ row → IsInside words at
  inside_at at e = subst (IsInside words) (sym e) row_inside
