-- Walks from a link down, a link at a time.
use Rattle.std.proofs.Common.{◌≡◌, ◌≢◌, true, false, ℕ, suc, ◌+◌, ◌-◌, ◌*◌, ◌/◌, ◌%◌, ◌<◌, ◌≤◌, List, [], ◌∷◌, ◌++◌, get_or, Option, None, Some, sym, refl, ap, subst, ◌∙◌, inl, inr, ⊎_elim, arith, append-nil}
use Rattle.std.proofs.lemmas.List.{append_assoc}
use Rattle.std.specs.declared.cmp.Ordering.{Ordering}
use Rattle.std.specs.declared.cmp.Ordering.TheVariants.{Less, Equal, Greater}
use Rattle.std.specs.Ordering.{is_lt, is_gt, ordering_reverse}
use Rattle.std.specs.Prelude.{not}
use Rattle.ca_model.specs.Edges.{Bound}
use Rattle.ca_model.specs.History.{History, after}
use Rattle.ca_model.specs.StoreMap.{bytes_cmp}
use Rattle.ca_model.proofs.Places.{bytes_flip}
use Rattle.ca_rows.specs.declared.sizes.Sizes.{Sizes}
use Rattle.ca_node.specs.declared.cursor.Cursor.{Cursor}
use Rattle.ca_node.specs.declared.cursor.Spot.{Spot}
use Rattle.ca_node.specs.declared.cursor.Spot.TheVariants as spot
use Rattle.ca_node.specs.declared.link.Link.{Link}
use Rattle.ca_node.specs.declared.link.Link.TheVariants as link
use Rattle.ca_node.specs.Inventory.{HasFewRows, IsListed}
use Rattle.ca_node.specs.Links.{IsIn}
use Rattle.ca_node.specs.Lone.{IsBehindOwn}
use Rattle.ca_node.specs.Place.{Span, all_keys, left_of, right_of, HasKey, Place, IsLinkOf}
use Rattle.ca_node.specs.Row.{level, route_key}
use Rattle.ca_node.specs.Notes.{IsBaseNote}
use Rattle.ca_node.specs.Told.{MyTree, with_upper, IsRouteNote, IsKnown, IsKnownLink, IsAnyLink, IsLed, IsLedToBase, IsLedToRoute, IsShownWord, led_to_base, led_to_route, link_word}
use Rattle.ca_node.specs.States.{IsAlone, HasState}
use Rattle.ca_node.specs.TreeView.{Note, Way, TreeView}
use Rattle.ca_node.specs.Walking.{IsSought, IsSide, IsAbove, IsHungOn, IsLinkAmong, IsLowRoute, IsHighRoute, IsPlaced, IsBegin, IsRouteShown, IsAtRoute, IsAtBase, IsWalking, IsWalked, walked, passed}
use Rattle.ca_node.proofs.Parts.{goes_left, goes_right, of_all}
use Rattle.ca_node.proofs.RouteWords.{fixed_word, first_fixed}
use Rattle.ca_rows.specs.Layout.{row_words}
use Rattle.ca_node.specs.Layout.{form_unit, root_word, count_limit}

-- What is looked for is one of all keys.
pub sought_first : (s : Spot) → IsSought s all_keys
sought_first spot.First = refl
sought_first (spot.At key) = of_all key.now
sought_first (spot.Below key) = (tt, tt)
sought_first spot.Last = refl

-- Keys compare the other way round in the other order.
flipped : (a b : List ℕ) (o : Ordering) → bytes_cmp b a ≡ o → bytes_cmp a b ≡ ordering_reverse o
flipped a b o e = bytes_flip a b ∙ ap ordering_reverse e

-- What is left of a route's key is sought there.
pub sought_left : (s : Spot) (key : List ℕ) (span : Span) → IsSide true s key → IsSought s span
    → IsSought s (left_of key span)
sought_left spot.First key span side is = is
sought_left (spot.At k) key span side is = by (bytes_cmp key k.now) refl side
  where
    by : (o : Ordering) → bytes_cmp key k.now ≡ o → true ≡ is_gt o → HasKey (left_of key span) k.now
    by Less e d = cc
    by Equal e d = cc
    by Greater e d = goes_left key k.now span is (flipped k.now key Greater e)
sought_left (spot.Below k) key span side is = (is.0, by (bytes_cmp key k.now) refl side)
  where
    by : (o : Ordering) → bytes_cmp key k.now ≡ o → true ≡ not (is_lt o)
        → bytes_cmp k.now key ≢ Greater
    by Less e d = cc
    by Equal e d = λ g. let f = sym (flipped k.now key Equal e) ∙ g in cc
    by Greater e d = λ g. let f = sym (flipped k.now key Greater e) ∙ g in cc
sought_left spot.Last key span side is = let no : true ≡ false = side in cc

-- What isn't left of it is sought on the right.
pub sought_right : (s : Spot) (key : List ℕ) (span : Span) → IsSide false s key → IsSought s span
    → IsSought s (right_of key span)
sought_right spot.First key span side is = let no : false ≡ true = side in cc
sought_right (spot.At k) key span side is = by (bytes_cmp key k.now) refl side
  where
    by : (o : Ordering) → bytes_cmp key k.now ≡ o → false ≡ is_gt o
        → HasKey (right_of key span) k.now
    by Less e d = goes_right key k.now span is
        (λ l. let f = sym (flipped k.now key Less e) ∙ l in cc)
    by Equal e d = goes_right key k.now span is
        (λ l. let f = sym (flipped k.now key Equal e) ∙ l in cc)
    by Greater e d = cc
sought_right (spot.Below k) key span side is = (by (bytes_cmp key k.now) refl side, is.1)
  where
    by : (o : Ordering) → bytes_cmp key k.now ≡ o → false ≡ not (is_lt o)
        → bytes_cmp key k.now ≡ Less
    by Less e d = e
    by Equal e d = cc
    by Greater e d = cc
sought_right spot.Last key span side is = is

-- What is in a list is in a longer one.
more_in : {A : Type 0} (x y : A) (xs : List A) → IsIn x xs → IsIn x (y ∷ xs)
more_in x y xs i = (suc i.0, i.1)

-- A route hung on the same link, when more were shown.
hung_more : (z : Sizes) (way : Way) (ways : List Way) (route : ℕ) (a : Link) → IsHungOn z ways route a → IsHungOn z (way ∷ ways) route a
hung_more z way ways route a is = record {
  way = is.way;
  remembered = more_in is.way way ways is.remembered;
  row_is = is.row_is;
  link_is = is.link_is;
  is_route = is.is_route;
  known = ⊎_elim (λ (e : link_word a ≡ root_word). inl e)
      (λ (t : (w : Way) × IsIn w ways × IsLinkOf w.row (link_word a)). inr (t.0, more_in t.0 way ways t.1, t.2)) is.known;
  inside = is.inside;
}

-- The link is the root link, or one of a route that was shown, where it is known what is above.
link_among : (z : Sizes) (ways : List Way) (l : Link) (a : Option Link) → IsAbove z ways l a → IsLinkAmong ways (link_word l)
link_among z ways link.Root a is = inl refl
link_among z ways (link.Left route) None is = absurd is
link_among z ways (link.Left route) (Some a) is = inr (is.way, is.remembered, inl (ap (λ (n : ℕ). row_words * n + 1) (sym is.row_is)))
link_among z ways (link.Right route) None is = absurd is
link_among z ways (link.Right route) (Some a) is = inr (is.way, is.remembered, inr (ap (λ (n : ℕ). row_words * n + 2) (sym is.row_is)))

-- What some of the routes tell of the link above, more routes do.
above_more : (z : Sizes) (way : Way) (ways : List Way) (l : Link) (a : Option Link) → IsAbove z ways l a
    → IsAbove z (way ∷ ways) l a
above_more z way ways link.Root a is = is
above_more z way ways (link.Left route) None is = is
above_more z way ways (link.Left route) (Some a) is = hung_more z way ways route a is
above_more z way ways (link.Right route) None is = is
above_more z way ways (link.Right route) (Some a) is = hung_more z way ways route a is

-- So they do of the lower bound.
low_more : (z : Sizes) (way : Way) (ways : List Way) (route : Option ℕ) (bound : Bound)
    → IsLowRoute z ways route bound → IsLowRoute z (way ∷ ways) route bound
low_more z way ways None bound is = is
low_more z way ways (Some route) bound is = (is.0, more_in is.0 way ways is.1, is.2, is.3, is.4)

-- So they do of the upper bound.
high_more : (z : Sizes) (way : Way) (ways : List Way) (route : Option ℕ) (bound : Bound)
    → IsHighRoute z ways route bound → IsHighRoute z (way ∷ ways) route bound
high_more z way ways None bound is = is
high_more z way ways (Some route) bound is = (is.0, more_in is.0 way ways is.1, is.2, is.3, is.4)

-- So they do of all that the cursor tells.
placed_more : (z : Sizes) (way : Way) (ways : List Way) (place : Place) (cursor : Cursor)
    → IsPlaced z ways place cursor → IsPlaced z (way ∷ ways) place cursor
placed_more z way ways place cursor p = record {
  link = p.link;
  inside = p.inside;
  above = above_more z way ways cursor.link cursor.above p.above;
  low = low_more z way ways cursor.low place.span.low p.low;
  high = high_more z way ways cursor.high place.span.high p.high;
}

-- the cursor one link further, on the left of a route
abbrev pub left_cursor : Cursor → ℕ → Cursor
left_cursor cursor base =
    record cursor {
      base =
          base;
      link = link.Left cursor.base;
      above = Some cursor.link;
      high = Some cursor.base;
    }

-- the same on its right
abbrev pub right_cursor : Cursor → ℕ → Cursor
right_cursor cursor base =
    record cursor {
      base =
          base;
      link = link.Right cursor.base;
      above = Some cursor.link;
      low = Some cursor.base;
    }

-- The routes that were shown lead to a link of the last one.
module _ (z : Sizes) (ways : List Way) (way : Way) (cursor : Cursor) (base : ℕ) (place : Place)
    (shown : IsIn way ways) (row : way.row ≡ cursor.base)
    (is_route : IsRouteNote z way) (placed : IsPlaced z ways way.place cursor) where
  -- The route hung on the cursor's link.
  hung_here : IsHungOn z ways cursor.base cursor.link
  hung_here = record {
    way = way;
    remembered = shown;
    row_is = row;
    link_is = placed.link;
    is_route = is_route;
    known = link_among z ways cursor.link cursor.above placed.above;
    inside = placed.inside;
  }

  -- The cursor tells where its left link leads.
  left_placed : place.link ≡ row_words * cursor.base + 1
      → place.span ≡ left_of (route_key way.its) way.place.span
      → IsPlaced z ways place (left_cursor cursor base)
  left_placed link_is span_is = record {
    link = link_is;
    inside = let in_range = is_route.in_range in omega arith;
    above = hung_here;
    low = subst (λ (s : Span). IsLowRoute z ways cursor.low s.low) (sym span_is) placed.low;
    high = (way, shown, row, ap (λ (s : Span). s.high) span_is, is_route);
  }

  -- The cursor tells where its right link leads.
  right_placed : place.link ≡ row_words * cursor.base + 2
      → place.span ≡ right_of (route_key way.its) way.place.span
      → IsPlaced z ways place (right_cursor cursor base)
  right_placed link_is span_is = record {
    link = link_is;
    inside = let in_range = is_route.in_range in omega arith;
    above = hung_here;
    low = (way, shown, row, ap (λ (s : Span). s.low) span_is, is_route);
    high = subst (λ (s : Span). IsHighRoute z ways cursor.high s.high) (sym span_is) placed.high;
  }

-- What a seat knows after one link more, which named a base.
walked_on : (m m' m'' : MyTree) (more next : History) (note : Note) (ways : List Way) (loads : ℕ)
    → m' ≡ with_upper m (passed m.0.upper more ways loads)
    → m'' ≡ with_upper m' (led_to_base m'.0.upper next note note (m'.0.upper.loads + 1))
    → m'' ≡ with_upper m (walked m.0.upper (more ++ next) note ways (loads + 1))
walked_on m m' m'' more next note ways loads e d =
    let u : TreeView = m.0.upper in
    let n : u.loads + loads + 1 ≡ u.loads + (loads + 1) = omega arith in
    d ∙ (ap (λ (x : MyTree).
    with_upper x (led_to_base x.0.upper next note note (x.0.upper.loads + 1))) e
    ∙ (ap (λ (h : History).
    with_upper m (record u {
      seen =
          h;
      notes =
          note ∷ u.notes;
      ways =
          ways ++ u.ways;
      loads = u.loads + loads + 1;
      last = note;
      shown = u.loads + loads + 1;
    }))
    (append_assoc u.seen more next)
    ∙ ap (λ (k : ℕ). with_upper m (record u {
      seen = u.seen ++ (more ++ next);
      notes = note ∷ u.notes;
      ways = ways ++ u.ways;
      loads = k;
      last = note;
      shown = k;
    })) n))

-- The same of a link that named a route.
passed_on : (m m' m'' : MyTree) (more next : History) (way : Way) (ways : List Way) (loads : ℕ)
    → m' ≡ with_upper m (passed m.0.upper more ways loads)
    → m'' ≡ with_upper m' (led_to_route m'.0.upper next way)
    → m'' ≡ with_upper m (passed m.0.upper (more ++ next) (way ∷ ways) (loads + 1))
passed_on m m' m'' more next way ways loads e d =
    let u : TreeView = m.0.upper in
    let n : u.loads + loads + 1 ≡ u.loads + (loads + 1) = omega arith in
    d ∙ (ap (λ (x : MyTree). with_upper x (led_to_route x.0.upper next way)) e
    ∙ (ap (λ (h : History).
    with_upper m (record u {
      seen =
          h;
      ways = way ∷ ways ++ u.ways;
      loads = u.loads + loads + 1;
    }))
    (append_assoc u.seen more next)
    ∙ ap (λ (k : ℕ).
    with_upper m (record u {
      seen =
          u.seen ++ (more ++ next);
      ways = way ∷ ways ++ u.ways;
      loads = k;
    })) n))

-- What a pass that is the only one knows of a base that it comes to it knew on its way there.
behind_passed : (u : TreeView) (more : History) (ways : List Way) (loads : ℕ) (note : Note)
    → IsBehindOwn (passed u more ways loads) note → IsBehindOwn u note
behind_passed u more ways loads note b = record { latest = b.latest; next = b.next }

-- A link was loaded of which the seat knows where it leads.
module _ (z : Sizes) (s : Spot) (m m' m'' : MyTree) (some_rows : 0 < z.rows)
    (sizes : m'.0.sizes ≡ z) (more : History) (ways : List Way) (loads : ℕ)
    (now : m' ≡ with_upper m (passed m.0.upper more ways loads)) (word least : ℕ) (span : Span)
    (is_link : IsKnownLink m'.0.upper word least span)
    (few : loads ≤ least) (sought : IsSought s span) (next : Cursor)
    (placed : (place : Place) → place.link ≡ word → place.span ≡ span
    → IsPlaced z m'.0.upper.ways place next) where
  -- The seat knows that there are rows.
  rows_too : 0 < m'.0.sizes.rows
  rows_too = subst (λ (y : Sizes). 0 < y.rows) (sym sizes) some_rows

  -- The walk came to a base.
  to_base : IsLedToBase true word m' next.base m'' → IsAtBase z s m next m''
  to_base led = let at = led.place.1 least span is_link in let told = led.known rows_too in
      let low = at.0 in record {
        note = led.note;
        more = more ++ led.more;
        ways = ways;
        loads = loads + 1;
        now = walked_on m m' m'' more led.more led.note ways loads now led.now;
        some = omega arith;
        few = omega arith;
        sought = subst (λ (p : Span). IsSought s p) (sym at.1) sought;
        row = led.row_is;
        placed = subst
            (λ (x : MyTree). IsPlaced z x.0.upper.ways led.note.place next) (sym led.now)
            (placed led.note.place led.place.0 at.1);
        begins = let here = placed led.note.place led.place.0 at.1 in
            subst (λ (x : MyTree). IsBegin z x.0.upper led.note.place.span next) (sym led.now)
            record {
              least = least;
              is_link = subst
                  (λ (w : ℕ). IsKnownLink m'.0.upper w least led.note.place.span)
                  (sym led.place.0 ∙ here.link)
                  (subst (λ (p : Span). IsKnownLink m'.0.upper word least p) (sym at.1) is_link);
              placed = placed _ (sym here.link ∙ led.place.0) at.1;
            };
        is_base = subst (λ (y : Sizes). IsBaseNote y led.note) sizes told.0;
        has = subst (λ (x : MyTree). HasState z x.0.upper led.note) (sym led.now) (subst
            (λ (y : Sizes).
            HasState y (led_to_base m'.0.upper led.more led.note led.note (m'.0.upper.loads + 1))
            led.note) sizes led.has);
        known = subst (λ (x : MyTree). IsKnown z x.0.upper) (sym led.now)
            (subst (λ (y : Sizes).
            IsKnown y (led_to_base m'.0.upper led.more led.note led.note (m'.0.upper.loads + 1)))
            sizes told.1);
        listed = λ alone. subst
            (λ (x : MyTree). IsListed x.0.upper.inventory led.note) now (led.listed rows_too
            (subst (λ (y : Sizes). IsAlone y m'.0.upper) (sym sizes) (subst
            (λ (x : MyTree). IsAlone z x.0.upper) (sym now) alone)));
        shallow = λ alone. subst
            (λ (x : MyTree). led.note.place.level ≤ x.0.upper.splits) now (led.shallow rows_too
            (subst (λ (y : Sizes). IsAlone y m'.0.upper) (sym sizes) (subst
            (λ (x : MyTree). IsAlone z x.0.upper) (sym now) alone)));
        few_rows = λ alone. subst
            (λ (x : MyTree). HasFewRows x.0.upper) now (led.few_rows rows_too
            (subst (λ (y : Sizes). IsAlone y m'.0.upper) (sym sizes) (subst
            (λ (x : MyTree). IsAlone z x.0.upper) (sym now) alone)));
        behind = λ alone. behind_passed m.0.upper more ways loads led.note
            (subst (λ (x : MyTree). IsBehindOwn x.0.upper led.note) now (led.behind rows_too
            (subst (λ (y : Sizes). IsAlone y m'.0.upper) (sym sizes) (subst
            (λ (x : MyTree). IsAlone z x.0.upper) (sym now) alone))));
        alike = λ old i. led.alike old
            (subst (λ (x : MyTree). IsIn old x.0.upper.notes) (sym now) i);
      }

  -- The walk came to a route.
  to_route : IsLedToRoute word m' next.base m'' → IsAtRoute z s m next m''
  to_route led = let at = led.place.1 least span is_link in let told = led.known rows_too in
      let low = at.0 in record {
        way = led.way;
        more = more ++ led.more;
        ways = ways;
        loads = loads + 1;
        now = passed_on m m' m'' more led.more led.way ways loads now led.now;
        few = omega arith;
        sought = subst (λ (p : Span). IsSought s p) (sym at.1) sought;
        row = led.row_is;
        placed = subst (λ (x : MyTree). IsPlaced z x.0.upper.ways led.way.place next) (sym led.now)
            (placed_more z led.way m'.0.upper.ways led.way.place next
            (placed led.way.place led.place.0 at.1));
        is_route = subst (λ (y : Sizes). IsRouteNote y led.way) sizes told.0;
      }

  -- The walk goes on one link further.
  pub comes_to : IsLed true word m' next.base m'' → IsWalking z s m next m''
  comes_to led = ⊎_elim (λ l. inl (to_base l)) (λ l. inr (to_route l)) led

-- The walk is at a route, and goes left or right from there.
module _ (z : Sizes) (s : Spot) (m : MyTree) (cursor : Cursor) (m' : MyTree)
    (at : IsAtRoute z s m cursor m') where
  -- the route's words
  abbrev route : List ℕ
  route = at.way.its

  -- the keys that are led to the route
  abbrev span : Span
  span = at.way.place.span

  -- The seat remembers the route.
  here : IsIn at.way m'.0.upper.ways
  here = subst (λ (x : MyTree). IsIn at.way x.0.upper.ways) (sym at.now) (0, refl)

  -- The route was shown.
  pub route_shown : IsRouteShown m'.0.upper cursor.base at.way.its
  route_shown =
      record {
        shown = (
          at.way,
          here,
          at.row,
          refl,
        );
        long = at.is_route.long;
        short = at.is_route.short;
      }

  -- The seat knows where the left link leads.
  left_known : IsKnownLink m'.0.upper (row_words * cursor.base + 1) (at.way.place.level + 1)
      (left_of (route_key route) span)
  left_known = inr (at.way, here, refl, inl (ap (λ (r : ℕ). row_words * r + 1) (sym at.row), refl))

  -- The seat knows where the right link leads.
  right_known : IsKnownLink m'.0.upper (row_words * cursor.base + 2) (at.way.place.level + 1)
      (right_of (route_key route) span)
  right_known = inr (at.way, here, refl, inr (ap (λ (r : ℕ). row_words * r + 2) (sym at.row), refl))

  -- So it may load the left link.
  pub left_any : IsAnyLink m'.0.upper (row_words * cursor.base + 1)
  left_any = (at.way.place.level + 1, left_of (route_key route) span, left_known)

  -- So it may load the right link.
  pub right_any : IsAnyLink m'.0.upper (row_words * cursor.base + 2)
  right_any = (at.way.place.level + 1, right_of (route_key route) span, right_known)

  -- There are as many links left to load as levels below the route.
  pub few_left : m'.0.upper.loads + 1 ≤ m.0.upper.loads + z.levels + 1
  few_left = let e = ap (λ (x : MyTree). x.0.upper.loads) at.now in let l = at.few in
      let a = at.is_route.above in omega arith

  module _ (m'' : MyTree) (base : ℕ) (some_rows : 0 < z.rows) (sizes : m'.0.sizes ≡ z) where
    -- The walk goes left.
    pub goes_left_on : IsSide true s (route_key route)
        → IsLed true (row_words * cursor.base + 1) m' base m''
        → IsWalking z s m (left_cursor cursor base) m''
    goes_left_on side led =
        comes_to z s m m' m'' some_rows sizes at.more (at.way ∷ at.ways) at.loads at.now
        (row_words * cursor.base + 1) (at.way.place.level + 1)
        (left_of (route_key route) span) left_known at.few
        (sought_left s (route_key route) span side at.sought) (left_cursor cursor base)
        (λ place l p.
        left_placed z m'.0.upper.ways at.way cursor base place here at.row at.is_route
        at.placed l p) led

    -- The walk goes right.
    pub goes_right_on : IsSide false s (route_key route)
        → IsLed true (row_words * cursor.base + 2) m' base m''
        → IsWalking z s m (right_cursor cursor base) m''
    goes_right_on side led =
        comes_to z s m m' m'' some_rows sizes at.more (at.way ∷ at.ways) at.loads at.now
        (row_words * cursor.base + 2) (at.way.place.level + 1)
        (right_of (route_key route) span) right_known at.few
        (sought_right s (route_key route) span side at.sought) (right_cursor cursor base)
        (λ place l p.
        right_placed z m'.0.upper.ways at.way cursor base place here at.row at.is_route
        at.placed l p) led

-- One load more of at most so many.
pub one_load_less : (first before after levels : ℕ) → before + 1 ≤ first + levels + 1
    → after ≡ before + 1
    → first + levels + 1 - after < first + levels + 1 - before
one_load_less first before after levels few one = omega arith

-- the cursor at the row that a link names, where a walk begins
abbrev pub begin_cursor : Cursor → ℕ → Cursor
begin_cursor from base = record from { base = base }

-- The walk begins with a load of a link to which what is looked for is led.
pub begins : (z : Sizes) (s : Spot) (m m' : MyTree) (from : Cursor) (base : ℕ) (span : Span)
    → 0 < z.rows → m.0.sizes ≡ z → IsBegin z m.0.upper span from → IsSought s span
    → IsLed true (link_word from.link) m base m' → IsWalking z s m (begin_cursor from base) m'
begins z s m m' from base span some_rows sizes at sought led =
    comes_to z s m m m' some_rows sizes [] [] 0 here (link_word from.link) at.least span at.is_link
    (omega arith) sought (begin_cursor from base) placed led
  where
    here : m ≡ with_upper m (passed m.0.upper [] [] 0)
    here = let u : TreeView = m.0.upper in let n : u.loads ≡ u.loads + 0 = omega arith in
        ap (λ (h : History). with_upper m (record u { seen = h })) (sym (append-nil u.seen))
        ∙ ap (λ (k : ℕ). with_upper m (record u { seen = u.seen ++ []; loads = k })) n

    placed : (place : Place) → place.link ≡ link_word from.link → place.span ≡ span
        → IsPlaced z m.0.upper.ways place (begin_cursor from base)
    placed place l p = record {
      link = l;
      inside = at.placed.inside;
      above = at.placed.above;
      low = subst
          (λ (x : Span). IsLowRoute z m.0.upper.ways from.low x.low) (sym p) at.placed.low;
      high = subst
          (λ (x : Span). IsHighRoute z m.0.upper.ways from.high x.high) (sym p) at.placed.high;
    }

-- A walk may begin with the root link, to which all keys are led.
pub begins_first : (z : Sizes) (u : TreeView)
    → IsBegin z u all_keys (record {
      base = 0;
      link = link.Root;
      above = None;
      level = 0;
      low = None;
      high = None;
    })
begins_first z u = record {
  least = 0;
  is_link = inl (refl, refl, refl);
  placed = record { link = refl; inside = omega arith; above = refl; low = refl; high = refl };
}

-- The first word of the row under the cursor was shown, and tells whether it is a route.
module _ (z : Sizes) (s : Spot) (m : MyTree) (cursor : Cursor) (m' : MyTree) where
  -- The word is the one that was shown.
  abbrev IsFirstWord : ℕ → Type 0
  IsFirstWord word = IsShownWord m'.0.upper cursor.base 0 word

  -- Of a base it was shown.
  base_word : (at : IsAtBase z s m cursor m') → IsFirstWord (get_or at.note.its 0 0)
  base_word at = (
    at.note.its,
    inl (
      at.note,
      subst (λ (x : MyTree). IsIn at.note x.0.upper.notes) (sym at.now) (0, refl),
      inl (at.row, refl),
    ),
    refl,
  )

  -- Of a route it was shown.
  route_word : (at : IsAtRoute z s m cursor m') → IsFirstWord (get_or at.way.its 0 0)
  route_word at =
      fixed_word m'.0.upper cursor.base at.way.its 0 (route_shown z s m cursor m' at) first_fixed

  -- So it was shown of any row on the way.
  pub first_word : IsWalking z s m cursor m' → (word : ℕ) × IsFirstWord word
  first_word w = ⊎_elim (λ b. (get_or b.note.its 0 0, base_word b))
      (λ r. (get_or r.way.its 0 0, route_word r)) w

  -- The row under the cursor is in the table.
  pub row_inside : IsWalking z s m cursor m' → cursor.base ≤ z.rows
  row_inside w = ⊎_elim (λ b. subst (λ (r : ℕ). r ≤ z.rows) b.row b.is_base.in_range)
      (λ r. subst (λ (r : ℕ). r ≤ z.rows) r.row r.is_route.in_range) w

  -- Where the word is that of a route, the walk is at one.
  pub is_at_route : IsWalking z s m cursor m' → (word : ℕ) → ((w : ℕ) → IsFirstWord w → word ≡ w)
      → word / form_unit ≡ 3
      → IsAtRoute z s m cursor m'
  is_at_route w word is route = ⊎_elim
      (λ b. let f = b.is_base.is_base in let e = is (get_or b.note.its 0 0) (base_word b) in
      absurd (omega arith)) (λ r. r) w

  -- Else it is at a base.
  pub is_at_base : IsWalking z s m cursor m' → (word : ℕ) → ((w : ℕ) → IsFirstWord w → word ≡ w)
      → word / form_unit ≢ 3
      → IsAtBase z s m cursor m'
  is_at_base w word is other = ⊎_elim (λ b. b)
      (λ r. let f = r.is_route.is_route in let e = is (get_or r.way.its 0 0) (route_word r) in
      absurd (omega arith)) w

  -- The word tells the level of a base.
  pub level_told : (at : IsAtBase z s m cursor m') (word : ℕ) → ((w : ℕ) → IsFirstWord w → word ≡ w)
      → at.note.place.level ≡ word / count_limit % count_limit
  level_told at word is = sym at.is_base.level_is
      ∙ ap (λ (k : ℕ). k / count_limit % count_limit) (sym (is (get_or at.note.its 0 0) (base_word at)))

  -- The walk ends at a base.
  pub ends : (level : ℕ) (at : IsAtBase z s m cursor m') → at.note.place.level ≡ level
      → IsWalked z s m (record cursor { level = level }) m'
  ends level at level_is = let l = at.few in let d = at.is_base.deep in record {
    note = at.note;
    more = at.more;
    ways = at.ways;
    loads = at.loads;
    now = at.now;
    some = at.some;
    few = omega arith;
    sought = at.sought;
    cursor_is = record {
      base = at.row;
      link = at.placed.link;
      level = level_is;
      above = at.placed.above;
      low = at.placed.low;
      high = at.placed.high;
    };
    inside = at.placed.inside;
    begins = record {
      least = at.begins.least;
      is_link = at.begins.is_link;
      placed = record {
        link = at.begins.placed.link;
        inside = at.begins.placed.inside;
        above = at.begins.placed.above;
        low = at.begins.placed.low;
        high = at.begins.placed.high;
      };
    };
    is_base = at.is_base;
    has = at.has;
    known = at.known;
    listed = at.listed;
    shallow = at.shallow;
    few_rows = at.few_rows;
    behind = at.behind;
    alike = at.alike;
  }

-- The first word of the base that a walk came to was shown.
pub walked_shows : (z : Sizes) (s : Spot) (m : MyTree) (cursor : Cursor) (m' : MyTree)
    → IsWalked z s m cursor m'
    → (word : ℕ) × IsShownWord m'.0.upper cursor.base 0 word
walked_shows z s m cursor m' w =
    let shown : IsIn w.note m'.0.upper.notes = subst
    (λ (x : MyTree). IsIn w.note x.0.upper.notes) (sym w.now) (0, refl) in
    (get_or w.note.its 0 0, (w.note.its, inl (w.note, shown, inl (w.cursor_is.base, refl)), refl))
