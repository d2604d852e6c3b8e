-- A route that was unlinked stays as it was, for a seat that remembers it: where its words are the same, those of the bases on its links, and their objects.
use Rattle.std.proofs.Common.{◌≡◌, ℕ, ◌+◌, ◌*◌, ◌<◌, ◌≤◌, List, length, get_or, sym, refl, ap, ◌∙◌, subst, inl, inr, ⊎_elim, arith}
use Rattle.ca_model.specs.History.{History, state}
use Rattle.ca_model.specs.StoreMap.{StoreMap}
use Rattle.ca_rows.specs.declared.sizes.Sizes.{Sizes}
use Rattle.ca_node.specs.Hindsight.{IsLeftOver, LedTo, IsDead}
use Rattle.ca_node.specs.Links.{IsIn, IsUnder}
use Rattle.ca_node.specs.Place.{Span, left_of, right_of, part, Place}
use Rattle.ca_node.specs.Row.{row_at, IsObjectRow, IsBaseRow, count, level, items, IsMarkedFor, route_key}
use Rattle.ca_node.specs.Shape.{Role, Out}
use Rattle.ca_node.specs.Standing.{objects_same, heads_same}
use Rattle.ca_node.specs.TreeView.{Way}
use Rattle.ca_rows.specs.Layout.{row_words}

-- The row isn't in the tree under other roles, and it has the same words in another table, as each object row has that it names.
pub record IsOutStill (words others : List ℕ) (role' : ℕ → Role) (row : ℕ) : Type 0 where
  pub is_out : role' row ≡ Out
  pub same : row_at others row ≡ row_at words row
  pub objects : (r : ℕ) → IsIn r (items (row_at words row)) → row_at others r ≡ row_at words r

-- A base that was left over is one still.
left_over_stays : (z : Sizes) (words others : List ℕ) (role role' : ℕ → Role) (m n : StoreMap) (route attempt : ℕ) (place : Place) (row : ℕ)
    → IsOutStill words others role' row → part place.span n ≡ part place.span m → IsLeftOver z words role m route attempt place row
    → IsLeftOver z others role' n route attempt place row
left_over_stays z words others role role' m n route attempt place row still parts b = record {
  some_row = b.some_row;
  in_range = b.in_range;
  is_out = still.is_out;
  deep = b.deep;
  is_base = subst IsBaseRow (sym still.same) b.is_base;
  level_is = ap level still.same ∙ b.level_is;
  few = subst (λ its. count its ≤ z.leaf) (sym still.same) b.few;
  marked = subst (λ its. IsMarkedFor its route attempt) (sym still.same) b.marked;
  are_objects = λ r i. let was = subst (λ its. IsIn r (items its)) still.same i in let o = b.are_objects r was in
      (o.0, o.1, subst IsObjectRow (sym (still.objects r was)) o.2);
  headed = heads_same words others row still.same still.objects b.headed;
  has = objects_same words others row still.same still.objects ∙ (b.has ∙ sym parts);
}

-- So the link leads there still.
led_stays : (z : Sizes) (words others : List ℕ) (role role' : ℕ → Role) (m n : StoreMap) (route attempt link least : ℕ) (span : Span)
    → get_or others link 0 ≡ get_or words link 0 → IsOutStill words others role' (get_or words link 0) → part span n ≡ part span m
    → LedTo z words role m route attempt link least span → LedTo z others role' n route attempt link least span
led_stays z words others role role' m n route attempt link least span here still parts l = record {
  level = l.level;
  greater = l.greater;
  base = subst (IsLeftOver z others role' n route attempt (record { link = link; level = l.level; span = span })) (sym here)
      (left_over_stays z words others role role' m n route attempt (record { link = link; level = l.level; span = span }) (get_or words link 0) still parts
      l.base);
}

-- What such a route's link names was left over.
pub under_dead : (z : Sizes) (words : List ℕ) (role : ℕ → Role) (since history : History) (way : Way) (at : ℕ) (d : IsDead z words role since history way at)
    → (row : ℕ) → IsUnder words way.row row → (place : Place) × IsLeftOver z words role (state history at) way.row d.attempt place row
under_dead z words role since history way at d row under = ⊎_elim
    (λ (e : get_or words (row_words * way.row + 1) 0 ≡ row). (
      record { link = row_words * way.row + 1; level = d.left.level; span = left_of (route_key way.its) way.place.span },
      subst (IsLeftOver z words role (state history at) way.row d.attempt
          (record { link = row_words * way.row + 1; level = d.left.level; span = left_of (route_key way.its) way.place.span })) e d.left.base,
    ))
    (λ (e : get_or words (row_words * way.row + 2) 0 ≡ row). (
      record { link = row_words * way.row + 2; level = d.right.level; span = right_of (route_key way.its) way.place.span },
      subst (IsLeftOver z words role (state history at) way.row d.attempt
          (record { link = row_words * way.row + 2; level = d.right.level; span = right_of (route_key way.its) way.place.span })) e d.right.base,
    ))
    under

-- The route is as it was, in a history that has the same state at that place.
pub dead_stays : (z : Sizes) (words others : List ℕ) (role role' : ℕ → Role) (since history history' : History) (way : Way) (at : ℕ)
    → role' way.row ≡ Out
    → ((k : ℕ) → k < row_words → get_or others (row_words * way.row + k) 0 ≡ get_or words (row_words * way.row + k) 0)
    → ((row : ℕ) → IsUnder words way.row row → (map : StoreMap) (attempt : ℕ) (place : Place) → IsLeftOver z words role map way.row attempt place row
    → IsOutStill words others role' row)
    → (at ≤ length history → (at ≤ length history') × (state history' at ≡ state history at))
    → IsDead z words role since history way at → IsDead z others role' since history' way at
dead_stays z words others role role' since history history' way at out same bases longer d = let more = longer d.in_history in record {
  since_pin = d.since_pin;
  in_history = more.0;
  is_out = out;
  attempt = d.attempt;
  secured = same 3 (omega arith) ∙ d.secured;
  left = led_stays z words others role role' (state history at) (state history' at) way.row d.attempt (row_words * way.row + 1) (way.place.level + 1)
      (left_of (route_key way.its) way.place.span) (same 1 (omega arith)) (bases _ (inl refl) _ _ _ d.left.base) (ap (part (left_of (route_key way.its) way.place.span)) more.1) d.left;
  right = led_stays z words others role role' (state history at) (state history' at) way.row d.attempt (row_words * way.row + 2) (way.place.level + 1)
      (right_of (route_key way.its) way.place.span) (same 2 (omega arith)) (bases _ (inr refl) _ _ _ d.right.base) (ap (part (right_of (route_key way.its) way.place.span)) more.1) d.right;
  few = let was = d.few in
      let left = ap (row_at others) (same 1 (omega arith)) ∙ (bases _ (inl refl) _ _ _ d.left.base).same in
      let right = ap (row_at others) (same 2 (omega arith)) ∙ (bases _ (inr refl) _ _ _ d.right.base).same in omega (arith, was, ap count left, ap count right);
}
