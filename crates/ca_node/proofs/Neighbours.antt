-- Bases that stand side by side: where the keys of one end, those of the next one begin.
use Rattle.std.proofs.Common.{◌≡◌, ℕ, zero, suc, ◌+◌, ◌*◌, ◌<◌, true, List, get_or, sym, refl, ap, ◌∙◌, subst, ⊎_elim, arith}
use mathlib.Core.Option.{some}
use Rattle.ca_model.specs.Edges.{Bound, Unbounded, Included, Excluded, is_from, is_up_to}
use Rattle.ca_model.specs.StoreMap.{StoreMap}
use Rattle.ca_term.proofs.Bytes.{bytes_itself}
use Rattle.ca_rows.specs.declared.sizes.Sizes.{Sizes}
use Rattle.ca_rows.specs.Layout.{row_words}
use Rattle.ca_runs.specs.Runs.{Span}
use Rattle.ca_node.specs.Layout.{root_word}
use Rattle.ca_node.specs.Place.{Place, all_keys, left_of, right_of, HasKey, IsLinkOf}
use Rattle.ca_node.specs.Reached.{same_place, led_to, led_place, led_same, deeper, hung, route_at}
use Rattle.ca_node.specs.Scenes.{span_of}
use Rattle.ca_node.specs.Shape.{Role, Base, Route, place_of, LeadsTo, IsBaseAt, IsRouteAt, IsShape}
use Rattle.ca_node.proofs.Parts.{both_hold}
use Rattle.ca_node.proofs.Ranged.{bases_apart}

module _ (z : Sizes) (words : List ℕ) (role : ℕ → Role) (m : StoreMap) (shape : IsShape z words role m) where
  -- A base whose keys begin with this bound.
  abbrev BeginsAt : Bound → Type 0
  BeginsAt low = (base : ℕ) × (place : Place) × (role base ≡ Base place) × (place.span.low ≡ low)

  -- A link leads to a base whose keys begin where those begin that are led there.
  leftmost : (n link least : ℕ) (span : Span) → z.levels < least + n → LeadsTo words role link least span → BeginsAt span.low
  leftmost zero link least span deep lead = ⊎_elim
      (λ (t : IsBaseAt z words role m (led_to words role link least span lead) (get_or words link 0)
      × (role (get_or words link 0) ≡ Base (led_to words role link least span lead))). (
        get_or words link 0,
        led_to words role link least span lead,
        t.1,
        refl,
      ))
      (λ (t : (key : List ℕ) × IsRouteAt z words role (led_to words role link least span lead) key (get_or words link 0)
      × (role (get_or words link 0) ≡ Route (led_to words role link least span lead) key)).
      let above = t.1.above in let more = lead.greater in absurd (omega arith))
      (led_place z words role m shape link least span lead)
  leftmost (suc n) link least span deep lead = ⊎_elim
      (λ (t : IsBaseAt z words role m (led_to words role link least span lead) (get_or words link 0)
      × (role (get_or words link 0) ≡ Base (led_to words role link least span lead))). (
        get_or words link 0,
        led_to words role link least span lead,
        t.1,
        refl,
      ))
      (λ (t : (key : List ℕ) × IsRouteAt z words role (led_to words role link least span lead) key (get_or words link 0)
      × (role (get_or words link 0) ≡ Route (led_to words role link least span lead) key)).
      let more = lead.greater in
      leftmost n (row_words * get_or words link 0 + 1) (lead.level + 1) (left_of t.0 span) (omega arith) t.1.left)
      (led_place z words role m shape link least span lead)

  same_excluded : (a b : List ℕ) → Excluded a ≡ Excluded b → a ≡ b
  same_excluded a b e = cc

  -- Keys that end below a key end there by a route that has it.
  high_route : (n row : ℕ) (place : Place) (key : List ℕ) → place.level < n → place_of (role row) ≡ some place → place.span.high ≡ Excluded key
      → (route : ℕ) × (at : Place) × (role route ≡ Route at key)
  high_route zero row place key deep e high = absurd (omega arith)
  high_route (suc n) row place key deep e high = let h = hung z words role m shape row place e in ⊎_elim
      (λ (top : place.link ≡ root_word). let same = led_same z words role m shape root_word 0 all_keys shape.top row place e top in
      let none : Unbounded ≡ Excluded key = sym (ap (λ (p : Place). p.span.high) same) ∙ high in absurd cc)
      (λ (t : (route : ℕ) × (p : Place) × (k : List ℕ) × (role route ≡ Route p k) × IsLinkOf route place.link).
      let at = route_at z words role m shape t.0 t.1 t.2 t.3 in ⊎_elim
      (λ (here : place.link ≡ row_words * t.0 + 1).
      let same = led_same z words role m shape (row_words * t.0 + 1) (t.1.level + 1) (left_of t.2 t.1.span) at.left row place e here in
      (t.0, t.1, t.3 ∙ ap (Route t.1) (same_excluded t.2 key (sym (ap (λ (p : Place). p.span.high) same) ∙ high))))
      (λ (here : place.link ≡ row_words * t.0 + 2).
      let same = led_same z words role m shape (row_words * t.0 + 2) (t.1.level + 1) (right_of t.2 t.1.span) at.right row place e here in
      let far = deeper z words role m shape (row_words * t.0 + 2) (t.1.level + 1) (right_of t.2 t.1.span) at.right row place e here in
      high_route n t.0 t.1 key (omega arith) (ap place_of t.3) (sym (ap (λ (p : Place). p.span.high) same) ∙ high))
      t.4)
      h.1

  -- The base that has the key where another one's keys end begins with it.
  pub begins_there : (a b : ℕ) (p q : Place) (key : List ℕ) → role a ≡ Base p → role b ≡ Base q → p.span.high ≡ Excluded key → HasKey q.span key
      → q.span.low ≡ Included key
  begins_there a b p q key is is' high has =
      let r = high_route (suc p.level) a p key (omega arith) (ap place_of is) high in
      let at = route_at z words role m shape r.0 r.1 key r.2 in
      let next = leftmost (suc z.levels) (row_words * r.0 + 2) (r.1.level + 1) (right_of key r.1.span) (omega arith) at.right in
      let up : is_up_to next.1.span.high key ≡ true = subst (λ (x : Role). is_up_to (span_of x).high key ≡ true) next.2
      ((bases_apart z words role m shape).begins next.0 key (next.1, next.2) (ap (λ (x : Role). (span_of x).low) next.2 ∙ next.3)) in
      let first : HasKey next.1.span key = both_hold (is_from next.1.span.low key) (is_up_to next.1.span.high key)
      (subst (λ (x : Bound). is_from x key ≡ true) (sym next.3) (rw (bytes_itself key) refl)) up in
      let same : b ≡ next.0 = shape.apart b next.0 q next.1 key is' next.2 has first in
      let spot : q ≡ next.1 = same_place q next.1 (sym is' ∙ (ap role same ∙ next.2)) in
      ap (λ (x : Place). x.span.low) spot ∙ next.3
