-- What the tree is to ranges: its bases stand side by side, and its map is cut by keys.
use Rattle.std.proofs.Common.{◌≡◌, ◌⊎◌, ℕ, ◌+◌, ◌*◌, true, List, get_or, sym, refl, ap, ◌∙◌, subst, inl, inr, ⊎_elim}
use mathlib.Core.Option.{some-injective}
use Rattle.std.specs.Ordering.{is_lt, ordering_reverse}
use Rattle.std.specs.declared.cmp.Ordering.{Ordering}
use Rattle.std.specs.declared.cmp.Ordering.TheVariants.{Less, Equal, Greater}
use Rattle.ca_term.proofs.Bytes.{bytes_itself}
use Rattle.ca_model.specs.Edges.{Bound, Unbounded, Included, Excluded, is_from, is_up_to}
use Rattle.ca_model.specs.StoreMap.{StoreMap, bytes_cmp, IsStoreMap}
use Rattle.ca_model.proofs.Places.{bytes_flip}
use Rattle.ca_rows.specs.declared.sizes.Sizes.{Sizes}
use Rattle.ca_rows.specs.Layout.{row_words}
use Rattle.ca_runs.specs.Runs.{Span, AreApart}
use Rattle.ca_runs.proofs.Showing.{IsCutByKeys, IsChained}
use Rattle.ca_node.specs.Layout.{root_word}
use Rattle.ca_node.specs.Place.{Place, all_keys, left_of, right_of, HasKey, IsLinkOf}
use Rattle.ca_node.specs.Reached.{base_at}
use Rattle.ca_node.specs.Scenes.{IsBase, span_of, scene_of}
use Rattle.ca_node.specs.Shape.{Role, Base, Route, place_of, LeadsTo, IsBaseAt, IsRouteAt, IsSo, IsShape}
use Rattle.ca_node.proofs.Parts.{both_hold, first_holds, second_holds, greater_within, part_sides}

-- What is greater than a key is behind it.
after_less : (a b : List ℕ) → is_lt (bytes_cmp a b) ≡ true → is_from (Included a) b ≡ true
after_less a b e = by (bytes_cmp a b) refl e
  where
    by : (o : Ordering) → bytes_cmp a b ≡ o → is_lt o ≡ true → is_from (Included a) b ≡ true
    by Less is e = rw (bytes_flip b a ∙ ap ordering_reverse is) refl
    by Equal is e = cc
    by Greater is e = cc

module _ (z : Sizes) (words : List ℕ) (role : ℕ → Role) (m : StoreMap) (shape : IsShape z words role m) where
  route_at : (row : ℕ) (place : Place) (key : List ℕ) → role row ≡ Route place key
      → IsRouteAt z words role place key row
  route_at row place key e = subst (IsSo z words role m row) e (shape.each_row row)

  -- A base has all keys, or those on one side of a route.
  abbrev Sides : Span → Type 0
  Sides span = (span ≡ all_keys) ⊎ ((route : ℕ) × (place : Place) × (key : List ℕ) × IsRouteAt z words role place key route
      × ((span ≡ left_of key place.span) ⊎ (span ≡ right_of key place.span)))

  same_span : (link least : ℕ) (span : Span) (row : ℕ) (place : Place) → LeadsTo words role link least span
      → place.link ≡ link → IsBaseAt z words role m place row → role row ≡ Base place → place.span ≡ span
  same_span link least span row place lead e base is = ap (λ (p : Place). p.span)
      (some-injective place (record { link = link; level = lead.level; span = span })
      (sym (ap place_of is) ∙ (ap (λ (r : ℕ). place_of (role r)) (sym base.under ∙ ap (λ (i : ℕ). get_or words i 0) e) ∙ lead.hangs)))

  sides : (row : ℕ) (place : Place) → role row ≡ Base place → Sides place.span
  sides row place is = let base = base_at z words role m shape row place is in ⊎_elim
      (λ (e : place.link ≡ root_word). inl (same_span root_word 0 all_keys row place shape.top e base is))
      (λ (t : (r : ℕ) × (p : Place) × (key : List ℕ) × (role r ≡ Route p key) × IsLinkOf r place.link).
      let at = route_at t.0 t.1 t.2 t.3 in inr (
        t.0,
        t.1,
        t.2,
        at,
        ⊎_elim
            (λ (e : place.link ≡ row_words * t.0 + 1). inl (same_span (row_words * t.0 + 1) (t.1.level + 1) (left_of t.2 t.1.span) row place at.left e base is))
            (λ (e : place.link ≡ row_words * t.0 + 2). inr (same_span (row_words * t.0 + 2) (t.1.level + 1) (right_of t.2 t.1.span) row place at.right e base is))
            t.4,
      ))
      base.is_link

  -- A part that begins with a key has it, and none ends before it begins.
  span_begins : (span : Span) (k : List ℕ) → Sides span → span.low ≡ Included k → is_up_to span.high k ≡ true
  span_begins span k s e = ⊎_elim
      (λ (all : span ≡ all_keys). let no : Unbounded ≡ Included k = sym (ap (λ (x : Span). x.low) all) ∙ e in cc)
      (λ (t : (route : ℕ) × (place : Place) × (key : List ℕ) × IsRouteAt z words role place key route
      × ((span ≡ left_of key place.span) ⊎ (span ≡ right_of key place.span))). ⊎_elim
      (λ (l : span ≡ left_of t.2 t.1.span).
      let low : t.1.span.low ≡ Included k = sym (ap (λ (x : Span). x.low) l) ∙ e in
      subst (λ (x : Span). is_up_to x.high k ≡ true) (sym l) (rw (t.3.rises k low) refl))
      (λ (r : span ≡ right_of t.2 t.1.span).
      let same : t.2 ≡ k = same_included t.2 k (sym (ap (λ (x : Span). x.low) r) ∙ e) in
      subst (λ (x : Span). is_up_to x.high k ≡ true) (sym r)
      (subst (λ (y : List ℕ). is_up_to t.1.span.high y ≡ true) same (second_holds (is_from t.1.span.low t.2) _ t.3.inside)))
      t.4)
      s
    where
      same_included : (a b : List ℕ) → Included a ≡ Included b → a ≡ b
      same_included a b e = cc

  span_ends : (span : Span) (k : List ℕ) → Sides span → span.high ≡ Excluded k → is_from span.low k ≡ true
  span_ends span k s e = ⊎_elim
      (λ (all : span ≡ all_keys). let no : Unbounded ≡ Excluded k = sym (ap (λ (x : Span). x.high) all) ∙ e in cc)
      (λ (t : (route : ℕ) × (place : Place) × (key : List ℕ) × IsRouteAt z words role place key route
      × ((span ≡ left_of key place.span) ⊎ (span ≡ right_of key place.span))). ⊎_elim
      (λ (l : span ≡ left_of t.2 t.1.span).
      let same : t.2 ≡ k = same_excluded t.2 k (sym (ap (λ (x : Span). x.high) l) ∙ e) in
      subst (λ (x : Span). is_from x.low k ≡ true) (sym l)
      (subst (λ (y : List ℕ). is_from t.1.span.low y ≡ true) same (first_holds (is_from t.1.span.low t.2) _ t.3.inside)))
      (λ (r : span ≡ right_of t.2 t.1.span).
      let high : t.1.span.high ≡ Excluded k = sym (ap (λ (x : Span). x.high) r) ∙ e in
      let less : is_lt (bytes_cmp t.2 k) ≡ true = subst (λ (b : Bound). is_up_to b t.2 ≡ true) high
      (second_holds (is_from t.1.span.low t.2) _ t.3.inside) in
      subst (λ (x : Span). is_from x.low k ≡ true) (sym r) (after_less t.2 k less))
      t.4)
      s
    where
      same_excluded : (a b : List ℕ) → Excluded a ≡ Excluded b → a ≡ b
      same_excluded a b e = cc

  -- The bases of a tree stand apart.
  pub bases_apart : AreApart (scene_of words role)
  bases_apart = record {
    begins = λ row k base e. span_begins (span_of (role row)) k (of_row row base) e;
    ends = λ row k base e. span_ends (span_of (role row)) k (of_row row base) e;
    apart = λ a b k base other low low'. shape.apart a b base.0 other.0 k base.1 other.1 (has_first a k base low) (has_first b k other low');
  }
    where
      of_row : (row : ℕ) → IsBase role row → Sides (span_of (role row))
      of_row row base = subst (λ (x : Role). Sides (span_of x)) (sym base.1) (sides row base.0 base.1)

      has_first : (row : ℕ) (k : List ℕ) (base : IsBase role row) → (span_of (role row)).low ≡ Included k → HasKey base.0.span k
      has_first row k base e = let low : base.0.span.low ≡ Included k = sym (ap (λ (x : Role). (span_of x).low) base.1) ∙ e in
          both_hold (is_from base.0.span.low k) (is_up_to base.0.span.high k)
          (subst (λ (b : Bound). is_from b k ≡ true) (sym low) (rw (bytes_itself k) refl))
          (span_begins base.0.span k (sides row base.0 base.1) low)

-- The map of a tree is cut by keys.
pub map_cuts : (keypos : ℕ) (m : StoreMap) → IsStoreMap keypos m → IsCutByKeys m
map_cuts keypos m is low high key from up = part_sides keypos (record { low = low; high = high }) m key is
    (both_hold (is_from low key) (is_up_to high key) from up)

-- What is behind a key that is within a lower edge is within it.
pub edges_chained : IsChained
edges_chained low a b from behind = greater_within low b a behind from
