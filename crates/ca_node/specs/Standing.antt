-- What stands of the shape of a tree: a base and a route in other words, the whole shape in words that are the same where it matters, and
-- with a map that has the same for each base.
use Rattle.std.proofs.Common.{◌≡◌, ◌≢◌, ℕ, ◌+◌, ◌*◌, ◌/◌, ◌%◌, ◌<◌, ◌≤◌, List, map, take, drop, get_or, sym, refl, ap, ◌∙◌, subst, inl, inr, ⊎_elim, arith, length-drop}
use Rattle.std.proofs.lemmas.List.{get_or-drop}
use Rattle.std.proofs.lemmas.Grind.{same_number_lists}
use mathlib.Core.Option.{some}
use Rattle.ca_model.specs.StoreMap.{StoreMap}
use Rattle.ca_rows.specs.declared.sizes.Sizes.{Sizes}
use Rattle.ca_rows.specs.Words.{IsWide, result_of}
use Rattle.ca_node.specs.Attempts.{HasAttempt}
use Rattle.ca_node.specs.Links.{root, IsIn, IsActive, IsBoundOf, IsLinked, by_range}
use Rattle.ca_node.specs.Marks.{IsOfRange, IsOfJoin, IsMark, IsMarkIn, IsBorder}
use Rattle.ca_node.specs.Place.{Span, all_keys, left_of, right_of, part, Place, IsLinkOf}
use Rattle.ca_node.specs.Row.{row_at, form, IsObjectRow, IsBaseRow, IsBorderRow, count, level, items, mark, mark_owner, mark_number, mark_bound, IsMarkedBy, IsUnmarked, route_key, bytes_in, pair, objects_in, IsHeaded, AreHeaded}
use Rattle.ca_node.specs.Shape.{Role, Out, Base, Route, place_of, IsLink, LeadsTo, IsBaseAt, IsRouteAt, IsSo, IsShape}
use Rattle.ca_node.specs.Stays.{IsSameRow, word_at, row_long, row_same, map_same}
use Rattle.ca_node.specs.Reached.{linked_range, placed_linked, item_linked}
use Rattle.ca_rows.specs.Layout.{row_words}
use Rattle.ca_node.specs.Layout.{key_word, form_unit, root_word, sequence_unit, count_limit, marked_by_range}

-- The row has the same words in both tables, but for those of a route's links, and its join word.
abbrev pub IsSameButLinks : List ℕ → List ℕ → ℕ → Type 0
IsSameButLinks words others row = (k : ℕ) → k < row_words → k ≢ 1 → k ≢ 2 → k ≢ 3
    → get_or others (row_words * row + k) 0 ≡ get_or words (row_words * row + k) 0

-- What a row says without these words.
module _ (words others : List ℕ) (rows row : ℕ) (wide : IsWide rows words) (wide' : IsWide rows others) (hi : row ≤ rows)
    (same : IsSameButLinks words others row) where
  -- A word of the row is the same, unless it is one of these.
  pub word_same : (k : ℕ) → k < row_words → k ≢ 1 → k ≢ 2 → k ≢ 3 → get_or (row_at others row) k 0 ≡ get_or (row_at words row) k 0
  word_same k l a b c = word_at others row k l ∙ (same k l a b c ∙ sym (word_at words row k l))

  -- So is the first word.
  first_same : get_or (row_at others row) 0 0 ≡ get_or (row_at words row) 0 0
  first_same = word_same 0 (omega arith) (λ e. omega arith) (λ e. omega arith) (λ e. omega arith)

  -- So are the words of the bytes.
  rest_same : drop key_word (row_at others row) ≡ drop key_word (row_at words row)
  rest_same = let long = row_long words rows row wide hi in let long' = row_long others rows row wide' hi in
      let a = length-drop key_word (row_at words row) in let b = length-drop key_word (row_at others row) in
      same_number_lists (drop key_word (row_at others row)) (drop key_word (row_at words row)) (omega arith)
      (λ k l. get_or-drop key_word (row_at others row) k 0
      ∙ (word_same (key_word + k) (omega arith) (λ e. omega arith) (λ e. omega arith) (λ e. omega arith) ∙ sym (get_or-drop key_word (row_at words row) k 0)))

  -- So it has the same key, if it is a route.
  pub key_same : route_key (row_at others row) ≡ route_key (row_at words row)
  key_same = ap (λ n. take (n % count_limit) (bytes_in (drop key_word (row_at others row)))) first_same
      ∙ ap (λ xs. take (count (row_at words row)) (bytes_in xs)) rest_same

  -- It has the same form.
  pub form_same : form (row_at others row) ≡ form (row_at words row)
  form_same = ap (λ n. n / form_unit) first_same

  -- It has the same count.
  pub count_same : count (row_at others row) ≡ count (row_at words row)
  count_same = ap (λ n. n % count_limit) first_same

  -- It stands at the same level.
  pub level_same : level (row_at others row) ≡ level (row_at words row)
  level_same = ap (λ n. n / count_limit % count_limit) first_same

-- What a base has, if it has its words, and each object row that it names has.
pub objects_same : (words others : List ℕ) (base : ℕ) → row_at others base ≡ row_at words base
    → ((r : ℕ) → IsIn r (items (row_at words base)) → row_at others r ≡ row_at words r) → objects_in others base ≡ objects_in words base
objects_same words others base e same = ap (λ its. map (λ r. pair (row_at others r)) (items its)) e
    ∙ map_same (λ r. pair (row_at others r)) (λ r. pair (row_at words r)) (items (row_at words base)) (λ r i. ap pair (same r i))

-- It is headed by these objects then.
pub heads_same : (words others : List ℕ) (base : ℕ) → row_at others base ≡ row_at words base
    → ((r : ℕ) → IsIn r (items (row_at words base)) → row_at others r ≡ row_at words r) → AreHeaded words base → AreHeaded others base
heads_same words others base e same = subst (λ (x : List ℕ × List (List ℕ)). IsHeaded x.0 x.1) (λ i. (
  sym e i,
  sym (ap (λ its. map (λ r. row_at others r) (items its)) e
      ∙ map_same (λ r. row_at others r) (λ r. row_at words r) (items (row_at words base)) same) i,
))

-- A mark that is there is one.
pub mark_of : (words : List ℕ) (place : Place) (its : List ℕ) → IsMarkIn words place its → IsMark place its
mark_of words place its m = ⊎_elim
    (λ (none : IsUnmarked its). inl none)
    (λ some_mark. ⊎_elim
    (λ (r : IsOfRange its × (mark_number its ≤ result_of words (mark_owner its) / sequence_unit)). inr (inl r.0))
    (λ (j : IsOfJoin place its × HasAttempt words (mark_owner its) (mark_number its)). inr (inr j.0))
    some_mark) m

-- A mark stays one, where no pass's sequence falls, and each attempt that was begun of the route above was.
pub mark_stays : (words others : List ℕ) (place : Place) (its : List ℕ)
    → ((pass : ℕ) → 0 < pass → pass ≤ 64 → result_of words pass / sequence_unit ≤ result_of others pass / sequence_unit)
    → ((route attempt : ℕ) → IsLinkOf route place.link → HasAttempt words route attempt → HasAttempt others route attempt)
    → IsMarkIn words place its → IsMarkIn others place its
mark_stays words others place its ranges joins m = ⊎_elim
    (λ (none : IsUnmarked its). inl none)
    (λ some_mark. ⊎_elim
    (λ (r : IsOfRange its × (mark_number its ≤ result_of words (mark_owner its) / sequence_unit)).
    let before = r.1 in let rises = ranges (mark_owner its) r.0.1 r.0.2 in inr (inl (r.0, omega arith)))
    (λ (j : IsOfJoin place its × HasAttempt words (mark_owner its) (mark_number its)).
    inr (inr (j.0, joins (mark_owner its) (mark_number its) j.0.1 j.1)))
    some_mark) m

-- The route of a link of the tree is one.
pub link_route : (role : ℕ → Role) (link route : ℕ) → IsLink role link → IsLinkOf route link
    → (place : Place) × (key : List ℕ) × (role route ≡ Route place key)
link_route role link route is of = ⊎_elim
    (λ (e : link ≡ root_word). absurd (⊎_elim (λ (l : link ≡ row_words * route + 1). omega arith) (λ (r : link ≡ row_words * route + 2). omega arith) of))
    (λ (t : (r : ℕ) × (place : Place) × (key : List ℕ) × (role r ≡ Route place key) × IsLinkOf r link).
    let same : t.0 ≡ route = ⊎_elim
    (λ (e : link ≡ row_words * t.0 + 1). ⊎_elim (λ (f : link ≡ row_words * route + 1). omega arith) (λ (f : link ≡ row_words * route + 2). omega arith) of)
    (λ (e : link ≡ row_words * t.0 + 2). ⊎_elim (λ (f : link ≡ row_words * route + 1). omega arith) (λ (f : link ≡ row_words * route + 2). omega arith) of) t.4 in
    (t.1, t.2, sym (ap role same) ∙ t.3))
    is

-- The row stays one that says up to where the range goes that marked a base, where its words and those of the base are the same, and no range becomes
-- active.
pub bounded_stays : (rows : ℕ) (words others : List ℕ) (base : ℕ) → row_at others base ≡ row_at words base
    → ((pass number : ℕ) → IsMarkedBy (row_at words base) pass number → IsActive others pass number → IsActive words pass number)
    → ((border : ℕ) → IsBoundOf words base border → row_at others border ≡ row_at words border)
    → ((border : ℕ) → IsBoundOf words base border → IsBorder rows words (mark_owner (row_at words base)) border)
    → (border : ℕ) → IsBoundOf others base border → IsBorder rows others (mark_owner (row_at others base)) border
bounded_stays rows words others base e active same was border b =
    let c = subst (λ its. (mark its ≡ marked_by_range) × IsActive others (mark_owner its) (mark_number its) × (mark_bound its ≡ border)) e b in
    let before : IsBoundOf words base border = (c.0, active (mark_owner (row_at words base)) (mark_number (row_at words base)) (c.0, refl, refl) c.1, c.2) in
    let w = was border before in record {
      some_row = w.some_row;
      in_range = w.in_range;
      is_border = subst IsBorderRow (sym (same border before)) w.is_border;
      owner = ap (λ its. get_or its 1 0) (same border before) ∙ (w.owner ∙ ap mark_owner (sym e));
    }

-- A base is one in other words, under other roles and for another map, if its words and those of its objects are the same, it is under its
-- link, which is one of the tree, the map has the same for it, a mark on it stays one, no range becomes active, and the row that says up to where the
-- range goes that marked it has the same words.
pub base_stands : (z : Sizes) (words others : List ℕ) (role role' : ℕ → Role) (m n : StoreMap) (place : Place) (row : ℕ)
    → IsBaseAt z words role m place row → row_at others row ≡ row_at words row
    → ((r : ℕ) → IsIn r (items (row_at words row)) → row_at others r ≡ row_at words r) → get_or others place.link 0 ≡ row → IsLink role' place.link
    → part place.span n ≡ part place.span m → (IsMarkIn words place (row_at words row) → IsMarkIn others place (row_at words row))
    → ((pass number : ℕ) → IsMarkedBy (row_at words row) pass number → IsActive others pass number → IsActive words pass number)
    → ((border : ℕ) → IsBoundOf words row border → row_at others border ≡ row_at words border) → IsBaseAt z others role' n place row
base_stands z words others role role' m n place row b e same under is parts marks active ends = record {
  some_row = b.some_row;
  in_range = b.in_range;
  under = under;
  is_link = is;
  deep = b.deep;
  is_base = subst IsBaseRow (sym e) b.is_base;
  level_is = subst (λ its. level its ≡ place.level) (sym e) b.level_is;
  few = subst (λ its. count its ≤ z.leaf) (sym e) b.few;
  marked = subst (IsMarkIn others place) (sym e) (marks b.marked);
  bounded = bounded_stays z.rows words others row e active ends b.bounded;
  are_objects = λ r i. let was = subst (λ its. IsIn r (items its)) e i in let o = b.are_objects r was in
      (o.0, o.1, subst IsObjectRow (sym (same r was)) o.2);
  headed = heads_same words others row e same b.headed;
  has = objects_same words others row e same ∙ (b.has ∙ sym parts);
}

-- A route is one in other words and under other roles, if all its words are the same but its links and its join word, it is under its link, which is one of the
-- tree, and its own links lead where they led.
pub route_stands : (z : Sizes) (words others : List ℕ) (role role' : ℕ → Role) (place : Place) (key : List ℕ) (row : ℕ)
    → IsRouteAt z words role place key row → IsWide z.rows words → IsWide z.rows others → IsSameButLinks words others row
    → get_or others place.link 0 ≡ row → IsLink role' place.link
    → LeadsTo others role' (row_words * row + 1) (place.level + 1) (left_of key place.span)
    → LeadsTo others role' (row_words * row + 2) (place.level + 1) (right_of key place.span) → IsRouteAt z others role' place key row
route_stands z words others role role' place key row r wide wide' same under is left right = record {
  some_row = r.some_row;
  in_range = r.in_range;
  under = under;
  is_link = is;
  is_route = form_same words others z.rows row wide wide' r.in_range same ∙ r.is_route;
  level_is = level_same words others z.rows row wide wide' r.in_range same ∙ r.level_is;
  above = r.above;
  short = subst (λ n. n ≤ 1000) (sym (count_same words others z.rows row wide wide' r.in_range same)) r.short;
  key_is = key_same words others z.rows row wide wide' r.in_range same ∙ r.key_is;
  inside = r.inside;
  rises = r.rises;
  left = left;
  right = right;
}

-- Two tables that agree on the root link and on each linked row, where no pass's sequence falls and no range becomes active, have the same shape.
module _ (z : Sizes) (words others : List ℕ) (role : ℕ → Role) (m : StoreMap) (shape : IsShape z words role m) (wide : IsWide z.rows others)
    (same_root : root others ≡ root words)
    (sequences : (pass : ℕ) → 0 < pass → pass ≤ 64 → result_of words pass / sequence_unit ≤ result_of others pass / sequence_unit)
    (active : (base : ℕ) (place : Place) → role base ≡ Base place → (pass number : ℕ) → IsMarkedBy (row_at words base) pass number
    → IsActive others pass number → IsActive words pass number)
    (same : (row : ℕ) → IsLinked words row → IsSameRow words others row) where
  -- A linked row has the same words.
  its_same : (row : ℕ) → IsLinked words row → row_at others row ≡ row_at words row
  its_same row l = row_same words others z.rows row shape.wide wide (linked_range z words role m shape row l).1 (same row l)

  -- What has a place is linked.
  placed : (row : ℕ) (place : Place) → place_of (role row) ≡ some place → IsLinked words row
  placed = placed_linked z words role m shape

  -- A link names what it named.
  pub link_same : (link : ℕ) → IsLink role link → get_or others link 0 ≡ get_or words link 0
  link_same link is = ⊎_elim
      (λ (e : link ≡ root_word). ap (λ (i : ℕ). get_or others i 0) e ∙ (same_root ∙ sym (ap (λ (i : ℕ). get_or words i 0) e)))
      (λ (t : (route : ℕ) × (place : Place) × (key : List ℕ) × (role route ≡ Route place key) × IsLinkOf route link).
      let s = same t.0 (placed t.0 t.1 (ap place_of t.3)) in ⊎_elim
      (λ (e : link ≡ row_words * t.0 + 1). ap (λ (i : ℕ). get_or others i 0) e ∙ (s 1 (omega arith) ∙ sym (ap (λ (i : ℕ). get_or words i 0) e)))
      (λ (e : link ≡ row_words * t.0 + 2). ap (λ (i : ℕ). get_or others i 0) e ∙ (s 2 (omega arith) ∙ sym (ap (λ (i : ℕ). get_or words i 0) e)))
      t.4)
      is

  -- A link leads where it led.
  lead_same : (link least : ℕ) (span : Span) → IsLink role link → LeadsTo words role link least span → LeadsTo others role link least span
  lead_same link least span is l = record {
    level = l.level;
    greater = l.greater;
    hangs = ap (λ (r : ℕ). place_of (role r)) (link_same link is) ∙ l.hangs;
  }

  -- A mark at a place of the tree stays one.
  marks : (place : Place) (its : List ℕ) → IsLink role place.link → IsMarkIn words place its → IsMarkIn others place its
  marks place its is = mark_stays words others place its sequences
      (λ route attempt of before. let t = link_route role place.link route is of in let e = same route (placed route t.0 (ap place_of t.2)) 3 (omega arith) in
      omega (arith, before))

  -- Each row is what it was.
  so : (row : ℕ) (is : Role) → role row ≡ is → IsSo z words role m row is → IsSo z others role m row is
  so row Out e s = tt
  so row (Base place) e s = base_stands z words others role role m m place row s (its_same row (placed row place (ap place_of e)))
      (λ r i. its_same r (item_linked z words role m shape row place e r i)) (link_same place.link s.is_link ∙ s.under) s.is_link refl
      (marks place (row_at words row) s.is_link) (active row place e)
      (λ border b. its_same border (by_range row border (placed row place (ap place_of e)) s.is_base b))
  so row (Route place key) e s = route_stands z words others role role place key row s shape.wide wide
      (λ k l _ _ _. same row (placed row place (ap place_of e)) k l) (link_same place.link s.is_link ∙ s.under) s.is_link
      (lead_same (row_words * row + 1) (place.level + 1) (left_of key place.span) (inr (row, place, key, e, inl refl)) s.left)
      (lead_same (row_words * row + 2) (place.level + 1) (right_of key place.span) (inr (row, place, key, e, inr refl)) s.right)

  -- The other table has the same shape.
  pub shape_stands : IsShape z others role m
  shape_stands = record {
    wide = wide;
    top = lead_same root_word 0 all_keys (inl refl) shape.top;
    each_row = λ row. so row (role row) refl (shape.each_row row);
    apart = shape.apart;
  }

-- A shape for one map is one for another that has the same for each base.
module _ (z : Sizes) (words : List ℕ) (role : ℕ → Role) (m n : StoreMap) (shape : IsShape z words role m)
    (parts : (base : ℕ) (place : Place) → role base ≡ Base place → part place.span n ≡ part place.span m) where
  -- Each row is what it was, for the other map.
  so_too : (row : ℕ) (is : Role) → role row ≡ is → IsSo z words role m row is → IsSo z words role n row is
  so_too row Out e s = tt
  so_too row (Base place) e s = base_stands z words words role role m n place row s refl (λ r i. refl) s.under s.is_link (parts row place e)
      (λ k. k) (λ pass number m x. x) (λ border b. refl)
  so_too row (Route place key) e s = s
