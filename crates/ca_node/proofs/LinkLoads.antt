-- Loads of links: what a link names that a seat knows is a base or a route of the tree, or a base
-- that was left over under a route that was unlinked.
use Rattle.std.proofs.Common.{◌≡◌, ◌≢◌, ◌⊎◌, ℕ, suc, ◌+◌, ◌*◌, ◌≤◌, le_refl, Bool, true, List, [], ◌∷◌, length, map, get_or, set, sym, refl, ap, ◌∙◌, subst, inl, inr, ⊎_elim, arith}
use mathlib.Core.Option.{some, none, some-injective}
use lib.ListN.{get_elem?}
use Rattle.atomic_table.specs.Table.{State, step, keeps, Allows}
use Rattle.atomic_table.proofs.Lists.{at_map}
use Rattle.ca_model.specs.History.{History, after, state}
use Rattle.ca_rows.specs.declared.sizes.Sizes.{Sizes}
use Rattle.ca_rows.specs.declared.view.View.{View}
use Rattle.ca_rows.specs.Calls.{Raises}
use Rattle.ca_rows.specs.Rule.{upper_of}
use Rattle.ca_node.specs.LoneStays.{same_kept, same_active, lone_same}
use Rattle.ca_node.specs.Attempts.{HasAttempt, IsSecured}
use Rattle.ca_node.specs.Inventory.{HasFewRows, IsListed}
use Rattle.ca_node.specs.Joining.{AreJoining, IsHung}
use Rattle.ca_node.specs.JoinsStay.{mark_hangs, joining_noted, joining_further}
use Rattle.ca_node.specs.Laws.{numbered, relisted, seat_changed, starts_whole}
use Rattle.ca_node.specs.Links.{IsIn, IsUnder, IsLinked, IsNoted, by_link, by_link_item}
use Rattle.ca_node.specs.Lone.{IsBehindOwn}
use Rattle.ca_node.specs.Marks.{IsMarkedUnder, AreJoined}
use Rattle.ca_node.specs.May.{MayLoad}
use Rattle.ca_node.specs.Notes.{IsBaseNote}
use Rattle.ca_node.specs.Place.{part, Place, IsLinkOf}
use Rattle.ca_node.specs.Reached.{by_place, base_at, route_at, placed_linked, item_linked}
use Rattle.ca_node.specs.Row.{row_at, count, items, IsMarkedFor, route_key, pair}
use Rattle.ca_node.specs.Shape.{Role, Base, Route, place_of, LeadsTo, Out}
use Rattle.ca_node.specs.States.{IsAlone}
use Rattle.ca_node.specs.Told.{MyTree, with_upper, IsRouteNote, IsKnown, IsAnyLink, come_to, come_at, led_to_base, led_to_route, IsLedToBase, IsLedToRoute, IsLed, IsShownSecured, IsLedSecured, Leads}
use Rattle.ca_node.specs.Tree.{StartsWith, ArePast, IsAlive, IsDead, IsLinkOfView, IsTrue, IsTrueWay, Knows, IsTree}
use Rattle.ca_node.specs.TreeView.{Note, Way, Attempt, Inventory, TreeView}
use Rattle.ca_rows.specs.Layout.{row_words}
use Rattle.ca_node.proofs.BehindOwn.{behind_own}
use Rattle.ca_node.proofs.Logs.{last_state}
use Rattle.ca_node.proofs.Looking.{R, looked, knows_upper, in_more, new_note, new_way, row_note, in_turn, starts_shorter, base_true, base_is, base_has, left_true, left_is, route_way, there, way_true, way_alike, route_is, IsLeftLink, known_leads, link_of_view, place_known, whole, since_whole, past_whole, known_now}

-- A secured attempt of a route that a seat remembers has both bases under the route, whether that
-- is in the tree or was unlinked.
pub secured_joined : (z : Sizes) (words : List ℕ) (role : ℕ → Role) (since history : History)
    (way : Way) → IsTrueWay z words role since history way
    → AreJoining z words role → (attempt : ℕ) → IsSecured words way.row attempt
    → AreJoined z words way.row attempt
secured_joined z words role since history way t joined attempt secured = ⊎_elim
    (λ (e : IsAlive role way). joined.secured way.row way.place (route_key way.its)
    attempt e secured)
    (λ (d : (at : ℕ) × IsDead z words role since history way at). let was = d.1.secured in
    let same : d.1.attempt ≡ attempt = omega (arith, was, secured) in
    subst (AreJoined z words way.row) same record {
      left = (d.1.left.base.is_base, d.1.left.base.marked);
      right = (d.1.right.base.is_base, d.1.right.base.marked);
      few = d.1.few;
    })
    t.stands

module _ (z : Sizes) (s : State (Unit {0}) (View TreeView)) (r : R z s) (id : ℕ) (me : MyTree)
    (at : get_elem? s.views id ≡ some me.0)
    (is_pinned : me.0.pin.pinned ≡ true) (sizes : me.0.sizes ≡ z) (walks : Bool) (link : ℕ)
    (any : IsAnyLink me.0.upper link) where
  abbrev f : IsTree z r.made s.words (map upper_of s.views)
  f = r.above

  abbrev us : List TreeView
  us = map upper_of s.views

  abbrev u : TreeView
  u = me.0.upper

  abbrev k : Knows z r.made s.words r.above.role (map upper_of s.views) r.above.history
      id me.0.upper
  k = knows_upper z s r id me.0 at

  -- the row that the link names
  abbrev c : ℕ
  c = get_or s.words link 0

  abbrev its : List ℕ
  its = row_at s.words (get_or s.words link 0)

  abbrev more : History
  more = k.seen_first.0

  first : get_elem? us id ≡ some u
  first = at_map upper_of s.views id me.0 at

  abbrev Next : TreeView → Type 0
  Next u' = R z record {
    words = set s.words link (get_or s.words link 0);
    homes = s.homes;
    views =
        set s.views id (record me.0 { upper = u' });
  }

  -- What holds of the sizes holds of those that the seat knows.
  sized : (P : Sizes → Type 0) → P z → P me.0.sizes
  sized P p = subst P (sym sizes) p

  abbrev spot : ℕ → Place
  spot level = record { link = link; level = level; span = any.1 }

  abbrev note : ℕ → Note
  note level = row_note s.words c (spot level)

  -- It is the link of a route whose attempt is secured, as the seat knows: that marked what it
  -- names.
  module _ (x : Attempt) (i : IsIn x me.0.upper.ranges.joins.secured)
      (of : IsLinkOf x.route link) where
    both_joined : AreJoined z s.words x.route x.number
    both_joined = let known = k.joining.secured x i in
        subst (λ t. AreJoined z s.words t x.number) known.0.2
        (secured_joined z s.words f.role u.since f.history known.0.0 (k.ways known.0.0 known.0.1)
        f.joined x.number
        (subst (λ t. IsSecured s.words t x.number) (sym known.0.2) known.1))

    marked_here : IsMarkedUnder s.words x.route x.number link
    marked_here = ⊎_elim (λ (e : link ≡ row_words * x.route + 1). subst
        (IsMarkedUnder s.words x.route x.number) (sym e) both_joined.left)
        (λ (e : link ≡ row_words * x.route + 2). subst (IsMarkedUnder s.words x.route x.number)
        (sym e) both_joined.right) of

    few_together : (other : Note) → IsIn other me.0.upper.notes → IsLinkOf x.route other.place.link
        → other.place.link ≢ link
        → IsMarkedFor other.its x.route x.number → count other.its + count
        (row_at s.words (get_or s.words link 0)) ≤ z.leaf
    few_together other j on ne m = let few = both_joined.few in
        let was : row_at s.words (get_or s.words other.place.link 0) ≡ other.its =
        ap (row_at s.words)
        ((k.joining.hung other j x.route x.number m).hangs (inr (k.joining.secured x i).1))
        ∙ (k.notes other j).spells in ⊎_elim
        (λ (l : link ≡ row_words * x.route + 1). ⊎_elim
        (λ (o : other.place.link ≡ row_words * x.route + 1). absurd (ne (o ∙ sym l)))
        (λ (o : other.place.link ≡ row_words * x.route + 2). let there =
        at_link (row_words * x.route + 2) other.place.link o ∙ was in
        omega (arith, few, ap count there, ap count (at_link (row_words * x.route + 1) link l))) on)
        (λ (l : link ≡ row_words * x.route + 2). ⊎_elim
        (λ (o : other.place.link ≡ row_words * x.route + 1). let there =
        at_link (row_words * x.route + 1) other.place.link o ∙ was in
        omega (arith, few, ap count there, ap count (at_link (row_words * x.route + 2) link l)))
        (λ (o : other.place.link ≡ row_words * x.route + 2). absurd (ne (o ∙ sym l))) on) of
      where
        at_link : (a b : ℕ) → b ≡ a → row_at s.words (get_or s.words a 0) ≡ row_at s.words
            (get_or s.words b 0)
        at_link a b e = ap (λ w. row_at s.words (get_or s.words w 0)) (sym e)

  -- It names a base at this level, in the tree or left over: each row that the base shows is
  -- linked, or one that the seat has a note on, and the base has what
  -- a state since the pin has.
  record IsShownBase (level : ℕ) : Type 0 where
    greater : any.0 ≤ level
    noted : (row : ℕ) → (c ≡ row) ⊎ IsIn row (items its) → IsNoted s.words u row
        ⊎ IsLinked s.words row
    is_true : IsTrue z.rows s.words f.role (note level)
    is_base : IsBaseNote z (note level)
    hangs : (route attempt : ℕ) → IsMarkedFor its route attempt
        → IsHung s.words (note level) route attempt
    moment : ℕ
    since : length u.since ≤ moment
    in_history : moment ≤ length f.history
    has : map pair (note level).objects ≡ part any.1 (state f.history moment)
    last : IsAlone z u → moment ≡ length f.history
    listed : IsAlone z u → IsListed u.inventory (note level)
    shallow : IsAlone z u → level ≤ u.splits
    few_rows : IsAlone z u → HasFewRows u
    behind : IsAlone z u → IsBehindOwn u (note level)

  module _ (level : ℕ) (b : IsShownBase level) where
    abbrev with_base : TreeView
    with_base = led_to_base u more (note level) (come_to walks u (note level)) (come_at walks u)

    to_base : Next with_base
    to_base = let k' = relisted z r.made s.words f.role us (set us id with_base) f.history id u
        (numbered us id u with_base first (λ _. refl)) k in
        looked z s r link id me.0 with_base at
        (λ row m. ⊎_elim (λ o. inl o)
        (λ p. ⊎_elim (λ o. inl o) (λ l. inr (l, is_pinned)) (b.noted row p))
        (new_note s.words u more (note level) (come_to walks u (note level)) (come_at walks u)
        (λ row. (c ≡ row) ⊎ IsIn row (items its))
        (inl refl) (λ x i. inr i) row m))
        (seat_changed z r.made s.words us id u with_base f first (λ _. refl) (λ _. refl)
        (λ _ _ l. l) record {
          made_before = k'.made_before;
          alone = k'.alone;
          seen_first = subst (StartsWith f.history) (whole z s r id me at) (starts_whole f.history);
          since_first = subst (λ (h : History). StartsWith h u.since) (whole z s r id me at)
              (since_whole z s r id me at);
          lawful = k'.lawful;
          past = subst (λ (h : History). ArePast (length h) u.log) (whole z s r id me at)
              (past_whole z s r id me at);
          notes = λ m i. ⊎_elim
              (λ (e : note level ≡ m). subst (IsTrue z.rows s.words f.role) e b.is_true)
              (λ (o : IsIn m u.notes). k.notes m o) (in_more (note level) m u.notes i);
          links = λ m i. ⊎_elim
              (λ (e : note level ≡ m). subst (λ (x : Note). IsLinkOfView u x.place.link) e
              (link_of_view z r.made s.words us f id u k link any.0 any.1 any.2))
              (λ (o : IsIn m u.notes). k.links m o) (in_more (note level) m u.notes i);
          ways = k.ways;
          way_links = k.way_links;
          one_place = k.one_place;
          joining = joining_noted s.words (note level) u.notes u.ways u.ranges.joins
              b.hangs k.joining;
          ended = k'.ended;
        }
        (f.ranged.each id u first))

    base_told : IsLedToBase walks link me (get_or s.words link 0) (with_upper me with_base)
    base_told = record {
      note = note level;
      more = more;
      now = refl;
      row_is = refl;
      place = place_known z r.made s.words us f id u k link level any.0 any.1 any.2 b.greater;
      has = record {
        at = b.moment;
        since = (
          b.since,
          subst (λ (h : History). b.moment ≤ length h) (whole z s r id me at)
              b.in_history,
        );
        has = subst (λ (h : History). map pair (note level).objects ≡ part any.1 (state h b.moment))
            (whole z s r id me at) b.has;
        last = λ alone. b.last (subst (λ (y : Sizes). IsAlone y u) sizes alone)
            ∙ ap (λ (h : History). length h) (whole z s r id me at);
      };
      known = λ _. sized (λ y. IsBaseNote y (note level) × IsKnown y with_base)
          (b.is_base, known_now z s r id me at with_base refl refl refl);
      listed = λ _. sized (λ y. IsAlone y u → IsListed u.inventory (note level)) b.listed;
      shallow = λ _. sized (λ y. IsAlone y u → level ≤ u.splits) b.shallow;
      few_rows = λ _. sized (λ y. IsAlone y u → HasFewRows u) b.few_rows;
      behind = λ _. sized (λ y. IsAlone y u → IsBehindOwn u (note level)) b.behind;
      alike = λ old i same. sym (k.notes old i).spells ∙ ap (row_at s.words) same;
    }

    secured_told : IsLedSecured link me (with_upper me with_base)
    secured_told x i of = let here = marked_here x i of in record {
      note = note level;
      shown = refl;
      hangs = refl;
      is_base = here.0;
      marked = here.1;
      few = λ other j on ne m. sized (λ y. count other.its + count its ≤ y.leaf)
          (few_together x i of other j on ne m);
    }

  -- It names a base of the tree.
  base_in_tree : (level : ℕ) → any.0 ≤ level → f.role (get_or s.words link 0) ≡ Base (spot level)
      → IsShownBase level
  base_in_tree level greater is = let linked = placed_linked z s.words f.role (after f.history [])
      f.shape c (spot level) (ap place_of is) in record {
        greater = greater;
        noted = λ row p. inr (⊎_elim (λ e. subst (IsLinked s.words) e linked)
            (λ i. item_linked z s.words f.role (after f.history []) f.shape c (spot level) is row i) p);
        is_true = base_true z r.made s.words us f c (spot level) is;
        is_base = base_is z r.made s.words us f c (spot level) is;
        hangs = mark_hangs s.words (note level)
            (base_at z s.words f.role (after f.history []) f.shape c (spot level) is).marked refl;
        moment = length f.history;
        since = starts_shorter f.history u.since (since_whole z s r id me at);
        in_history = le_refl (length f.history);
        has = base_has z r.made s.words us f c (spot level) is
            ∙ ap (part any.1) (sym (last_state f.history));
        last = λ _. refl;
        listed = λ alone. let one = alone.0 in let within = r.within in
            subst (λ (i : Inventory). IsListed i (note level))
            (sym (f.only_one id u first (omega arith) alone.1).whole) record {
              row = f.listed.linked c linked;
              base = f.listed.based c (spot level) is;
              one = λ place i. some-injective place (spot level)
                  (ap place_of (sym (f.listed.bases c place i) ∙ is));
              only = λ row place key i has here. f.shape.apart row c place (spot level) key
                  (f.listed.bases row place i) is has here;
            };
        shallow = λ alone. let one = alone.0 in let within = r.within in
            (f.only_one id u first (omega arith) alone.1).shallow c (spot level) is;
        few_rows = λ alone. let one = alone.0 in let within = r.within in
            let own = f.only_one id u first (omega arith) alone.1 in
            let most = own.rows in let bases = own.few in (omega arith, omega arith);
        behind = λ alone. let one = alone.0 in let within = r.within in
            behind_own z r.made s.words us f id u first (omega arith) alone.1 c (spot level) is;
      }

  -- It names a base that was left over: the seat remembers the route, and so has a note on the base
  -- and on its objects.
  base_left_over : (t : IsLeftLink z r.made s.words us f id u k link any.0 any.1)
      → IsShownBase t.4.level
  base_left_over t = let d = t.3 in let left = t.4.base in
      let under : IsUnder s.words t.0.row c = ⊎_elim
      (λ e. inl (ap (λ i. get_or s.words i 0) (sym e)))
      (λ e. inr (ap (λ i. get_or s.words i 0) (sym e))) t.5 in
      let not_alone : ¬ IsAlone z u = λ alone. let one = alone.0 in let within = r.within in
      let w : Route t.0.place (route_key t.0.its) ≡ Out =
      sym ((f.lone id u first (omega arith) alone.1).alive t.0 t.1) ∙ d.is_out in absurd cc in
      record {
        greater = t.4.greater;
        noted = λ row p. inl (⊎_elim
            (λ e. by_link t.0 row t.1 (subst (IsUnder s.words t.0.row) e under))
            (λ i. by_link_item t.0 c row t.1 under left.is_base i) p);
        is_true = left_true z r.made s.words us f (state f.history t.2) t.0.row d.attempt c
            (spot t.4.level) t.5 left;
        is_base = left_is z r.made s.words us f (state f.history t.2) t.0.row d.attempt c
            (spot t.4.level) t.5 left;
        hangs = λ route attempt m. record {
          is_link = subst (λ w. IsLinkOf w link) (sym left.marked.1 ∙ m.1) t.5;
          begun = subst (λ (y : ℕ × ℕ). HasAttempt s.words y.0 y.1)
              (λ i. ((sym left.marked.1 ∙ m.1) i, (sym left.marked.2 ∙ m.2) i))
              (let now = d.secured in omega (arith, now));
          hangs = λ _. refl;
        };
        moment = t.2;
        since = d.since_pin;
        in_history = d.in_history;
        has = in_turn s.words (items its) ∙ left.has;
        last = λ alone. absurd (not_alone alone);
        listed = λ alone. absurd (not_alone alone);
        shallow = λ alone. absurd (not_alone alone);
        few_rows = λ alone. absurd (not_alone alone);
        behind = λ alone. absurd (not_alone alone);
      }

  -- It names a route.
  module _ (level : ℕ) (greater : any.0 ≤ level) (key : List ℕ)
      (is : f.role (get_or s.words link 0) ≡ Route (spot level) key) where
    abbrev way : Way
    way = route_way z r.made s.words us f c (spot level) key is

    abbrev with_route : TreeView
    with_route = led_to_route u more way

    -- A link that was known is known.
    more_links : (i : ℕ) → IsLinkOfView u i → IsLinkOfView with_route i
    more_links i known = ⊎_elim (λ e. inl e) (λ t. inr (t.0, (suc t.1.0, t.1.1), t.2)) known

    -- The route is remembered at the place at which it was shown before, if it was.
    one_place_now : (a b : Way) → IsIn a (way ∷ u.ways) → IsIn b (way ∷ u.ways) → a.row ≡ b.row
        → (a.place ≡ b.place) × (route_key a.its ≡ route_key b.its)
    one_place_now a b i j same = ⊎_elim
        (λ (e : way ≡ a). ⊎_elim
        (λ (g : way ≡ b). (
          ap (λ (w : Way). w.place) (sym e ∙ g),
          ap (λ (w : Way). route_key w.its) (sym e ∙ g),
        ))
        (λ (o : IsIn b u.ways). let w = alike b o (ap (λ (y : Way). y.row) e ∙ same) in
        (ap (λ (y : Way). y.place) (sym e) ∙ w.0, ap (λ (y : Way). route_key y.its) (sym e) ∙ w.1))
        (in_more way b u.ways j))
        (λ (o : IsIn a u.ways). ⊎_elim
        (λ (g : way ≡ b). let w = alike a o (ap (λ (y : Way). y.row) g ∙ sym same) in
        (sym w.0 ∙ ap (λ (y : Way). y.place) g, sym w.1 ∙ ap (λ (y : Way). route_key y.its) g))
        (λ (p : IsIn b u.ways). k.one_place a b o p same)
        (in_more way b u.ways j))
        (in_more way a u.ways i)
      where
        alike : (old : Way) → IsIn old u.ways → way.row ≡ old.row → (way.place ≡ old.place)
            × (route_key way.its ≡ route_key old.its)
        alike old o e = way_alike z r.made s.words us f c (spot level) key is u.since old
            (k.ways old o) e

    alive_now : IsAlive f.role way
    alive_now = ⊎_elim (λ e. e) (λ d. let w : Route (spot level) key ≡ Out =
        sym is ∙ d.1.is_out in absurd cc)
        (way_true z r.made s.words us f c (spot level) key is u.since).stands

    to_route : Next with_route
    to_route =
        let k' = relisted z r.made s.words f.role us (set us id with_route) f.history id u
        (numbered us id u with_route first (λ _. refl)) k in
        looked z s r link id me.0 with_route at
        (λ row m. ⊎_elim (λ o. inl o) (λ l. inr (l, is_pinned))
        (new_way s.words u more way
        (placed_linked z s.words f.role (after f.history []) f.shape c (spot level)
        (ap place_of is))
        (there z r.made s.words us f c (spot level) key is).is_route row m))
        (seat_changed z r.made s.words us id u with_route f first (λ _. refl) (λ _. refl)
        (λ _ _ l. lone_same s.words f.role u.number u.ranges.own u.ranges.own u.ways (way ∷ u.ways)
        u.ranges.joins.begun u.ranges.joins.begun
        (λ w i. ⊎_elim (λ (e : way ≡ w). inr (subst (IsAlive f.role) e alive_now))
        (λ (o : IsIn w u.ways). inl o) (in_more way w u.ways i))
        (same_kept u.ranges.own)
        (same_active s.words s.words u.number u.ranges.own (λ _ now. now)) (inl refl) l) record {
          made_before = k'.made_before;
          alone = k'.alone;
          seen_first = subst (StartsWith f.history) (whole z s r id me at) (starts_whole f.history);
          since_first = subst (λ (h : History). StartsWith h u.since) (whole z s r id me at)
              (since_whole z s r id me at);
          lawful = k'.lawful;
          past = subst (λ (h : History). ArePast (length h) u.log) (whole z s r id me at)
              (past_whole z s r id me at);
          notes = k.notes;
          links = λ m i. more_links m.place.link (k.links m i);
          ways = λ w i. ⊎_elim
              (λ (e : way ≡ w). subst (IsTrueWay z s.words f.role u.since f.history) e
              (way_true z r.made s.words us f c (spot level) key is u.since))
              (λ (o : IsIn w u.ways). k.ways w o) (in_more way w u.ways i);
          way_links = λ w i. more_links w.place.link
              (⊎_elim (λ (e : way ≡ w). subst (λ (y : Way). IsLinkOfView u y.place.link) e
              (link_of_view z r.made s.words us f id u k link any.0 any.1 any.2))
              (λ (o : IsIn w u.ways). k.way_links w o) (in_more way w u.ways i));
          one_place = one_place_now;
          joining = joining_further s.words u.notes way u.ways u.ranges.joins k.joining;
          ended = k'.ended;
        }
        (f.ranged.each id u first))

    route_told : IsLedToRoute link me (get_or s.words link 0) (with_upper me with_route)
    route_told = record {
      way = way;
      more = more;
      now = refl;
      row_is = refl;
      place = place_known z r.made s.words us f id u k link level any.0 any.1 any.2 greater;
      known = λ _. sized (λ y. IsRouteNote y way × IsKnown y with_route) (
        route_is z r.made s.words us f c (spot level) key is,
        known_now z s r id me at with_route refl refl refl,
      );
    }

    no_secured : IsLedSecured link me (with_upper me with_route)
    no_secured x i of = let two = (marked_here x i of).0 in
        let three = (route_at z s.words f.role (after f.history []) f.shape c (spot level) key
        is).is_route in absurd (omega (arith, two, three))

  pub link_loaded : (d' : View TreeView) × Next d'.upper × (d' ≡ record me.0 { upper = d'.upper })
      × IsLed walks link me (get_or s.words link 0) (d', me.1) × IsLedSecured link me (d', me.1)
  link_loaded = ⊎_elim
      (λ (l : LeadsTo s.words f.role link any.0 any.1). ⊎_elim
      (λ (b : f.role c ≡ Base (spot l.level)). by_base l.level (base_in_tree l.level l.greater b))
      (λ (t : (key : List ℕ) × (f.role c ≡ Route (spot l.level) key)). (
        record me.0 { upper = with_route l.level l.greater t.0 t.1 },
        to_route l.level l.greater t.0 t.1,
        refl,
        inr (route_told l.level l.greater t.0 t.1),
        no_secured l.level l.greater t.0 t.1,
      ))
      (by_place (f.role c) (spot l.level) l.hangs))
      (λ (t : IsLeftLink z r.made s.words us f id u k link any.0 any.1). by_base t.4.level
      (base_left_over t))
      (known_leads z r.made s.words us f id u k link any.0 any.1 any.2)
    where
      by_base : (level : ℕ) → IsShownBase level → (d' : View TreeView) × Next d'.upper
          × (d' ≡ record me.0 { upper = d'.upper })
          × IsLed walks link me (get_or s.words link 0) (d', me.1) × IsLedSecured link me (d', me.1)
      by_base level b = (
        record me.0 { upper = with_base level b },
        to_base level b,
        refl,
        inl (base_told level b),
        secured_told level b,
      )

-- Where a load showed what a secured attempt marked it led to that base.
pub led_to_marked : (walks : Bool) (link : ℕ) (m : MyTree) (n : ℕ) (m' : MyTree) (x : Attempt)
    → IsLed walks link m n m' → (s : IsShownSecured link x m m')
    → (b : IsLedToBase walks link m n m') × (b.note ≡ s.note)
led_to_marked walks link m n m' x led s = ⊎_elim
    (λ (b : IsLedToBase walks link m n m').
    let here : b.note ∷ m.0.upper.notes ≡ s.note ∷ m.0.upper.notes =
    sym (ap (λ (y : MyTree). y.0.upper.notes) b.now) ∙ s.shown in
    (b, some-injective b.note s.note (ap (λ (notes : List Note). get_elem? notes 0) here)))
    (λ (t : IsLedToRoute link m n m').
    let here : m.0.upper.notes ≡ s.note ∷ m.0.upper.notes =
    sym (ap (λ (y : MyTree). y.0.upper.notes) t.now) ∙ s.shown in
    absurd (let longer : length m.0.upper.notes ≡ suc (length m.0.upper.notes) = ap length here in
    omega (arith, longer)))
    led

module _ (z : Sizes) where
  -- The load of a link.
  pub leads : (walks : Bool) (slots id : ℕ) (me : MyTree) (link : ℕ) → me.0.pin.pinned ≡ true
      → me.0.sizes ≡ z → IsAnyLink me.0.upper link
      → Allows (R z) slots id me link (λ x. x)
      (Raises MayLoad (Leads walks) (step slots link 0 0 none) me)
  leads walks slots id me link is_pinned sizes any s r _ at _ = let x =
      link_loaded z s r id me at is_pinned sizes walks link any in
      let led = subst (λ (d' : View TreeView). IsLed walks link me (get_or s.words link 0)
      (d', me.1) × IsLedSecured link me (d', me.1)) x.2 (x.3, x.4) in (
        record me.0 { upper = x.0.upper },
        keeps,
        tt,
        x.1,
        (refl, inl (walks, led), led),
      )
