-- Loads: of links, and of words of rows that were shown.
use Rattle.std.proofs.Common.{◌≡◌, ◌≢◌, ◌⊎◌, ℕ, zero, suc, ◌+◌, ◌*◌, ◌/◌, ◌<◌, ◌≤◌, true, List, [], ◌∷◌, ◌++◌, length, map, get_or, set, sym, refl, ap, ◌∙◌, subst, inl, inr, ⊎_elim, arith, length-append}
use Rattle.std.proofs.lemmas.List.{map-set, set-get_or, append_assoc, length-map}
use mathlib.Core.Option.{some, none, some-injective, some-ne-none}
use lib.ListN.{get_elem?}
use Rattle.atomic_table.specs.Table.{State, step, keeps, Allows}
use Rattle.atomic_table.proofs.Lists.{at_set, at_map, set_again}
use Rattle.ca_model.specs.Event.{Event, Entry, IsAnswer}
use Rattle.ca_model.specs.History.{History, after, state, AreEdits, AreByPasses}
use Rattle.ca_model.specs.Known.{Counts}
use Rattle.ca_model.specs.Lawful.{IsLawful}
use Rattle.ca_model.specs.StoreMap.{StoreMap}
use Rattle.ca_rows.specs.declared.sizes.Sizes.{Sizes}
use Rattle.ca_rows.specs.declared.view.View.{View}
use Rattle.ca_rows.specs.Calls.{Raises}
use Rattle.ca_rows.specs.Words.{result_of}
use Rattle.ca_rows.specs.Rule.{upper_of, Ruled}
use Rattle.ca_rows.proofs.Relinking.{Stays, relinks}
use Rattle.ca_runs.specs.Runs.{Ends}
use Rattle.ca_node.specs.Lone.{IsLone}
use Rattle.ca_node.specs.Attempts.{HasAttempt}
use Rattle.ca_node.specs.Hindsight.{IsLeftOver, LedTo, IsDead}
use Rattle.ca_node.specs.Joining.{IsRemembered, IsJoining}
use Rattle.ca_node.specs.JoinsStay.{link_of_one, remembered_route, joining_unnoted}
use Rattle.ca_node.specs.Aside.{IsAside, PassesOn, passed_on}
use Rattle.ca_node.specs.Laws.{noted_alike, tree_lends, numbered, relisted, seat_changed}
use Rattle.ca_node.specs.Links.{IsIn, IsUnder, IsLinked, by_route, by_base, IsLent, HasBegun, IsNoted, by_note, by_item, by_way, by_link, by_link_item, by_border, by_run, by_run_item, by_shown, by_shown_item}
use Rattle.ca_node.specs.Marks.{IsOfRange, IsOfJoin, IsMark}
use Rattle.ca_node.specs.Place.{Span, all_keys, left_of, right_of, HasKey, part, Place, IsLinkOf}
use Rattle.ca_node.specs.Ranging.{IsRanging}
use Rattle.ca_node.specs.Reached.{base_at, route_at, same_route}
use Rattle.ca_node.specs.Row.{row_at, IsObjectRow, IsBaseRow, IsRouteRow, count, level, items, mark_owner, mark_number, IsMarkedBy, IsUnmarked, route_key, pair, AreHeaded}
use Rattle.ca_node.specs.Shape.{Out, Base, Route, LeadsTo, IsBaseAt, IsRouteAt}
use Rattle.ca_node.specs.Standing.{mark_of}
use Rattle.ca_node.specs.Stays.{word_at, row_long}
use Rattle.ca_node.specs.May.{MayLoad}
use Rattle.ca_node.specs.Notes.{IsBaseNote}
use Rattle.ca_node.specs.Told.{MyTree, with_upper, IsRouteNote, IsKnown, IsMissed, IsKnownLink, IsPlaceOf, led_to_base, led_to_route, IsOfNote, IsShown, IsShownRoute, IsShownOfRange, IsRead, Reads, entered, ReadsLast, Refuses, IsRise, one_more_lost}
use Rattle.ca_node.specs.States.{IsReadSince}
use Rattle.ca_node.specs.Tree.{StartsWith, ArePast, IsLinkOfView, IsFixed, IsAlive, IsTrue, IsTrueWay, Knows, IsTree}
use Rattle.ca_node.specs.TreeView.{Note, Way, Border, Inventory, KnownRanges, Turns, Tries, TreeView, no_note, one_passed}
use Rattle.ca_node.proofs.Logs.{state_stays, read_lawful, past_more}
use Rattle.ca_rows.specs.Layout.{row_words}
use Rattle.ca_node.specs.Layout.{root_word, sequence_unit}

module _ (z : Sizes) where
  abbrev pub R : State (Unit {0}) (View TreeView) → Type 0
  R = Ruled IsLinked IsLent IsNoted IsTree z

  -- A load after which the seat knows something else of the tree: each new note is on a linked row,
  -- and the seat is pinned.
  pub looked : (s : State (Unit {0}) (View TreeView)) (r : R s) (i id : ℕ) (d : View TreeView)
      (u : TreeView) → get_elem? s.views id ≡ some d
      → ((row : ℕ) → IsNoted s.words u row → IsNoted s.words d.upper row
      ⊎ (IsLinked s.words row × (d.pin.pinned ≡ true)))
      → IsTree z r.made s.words (set (map upper_of s.views) id u)
      → R record {
        words =
            set s.words i (get_or s.words i 0);
        homes =
            s.homes;
        views = set s.views id (record d { upper = u });
      }
  looked s r i id d u at notes above = let d' : View TreeView = record d { upper = u } in
      subst (λ (ws : List ℕ). R record { words = ws; homes = s.homes; views = set s.views id d' })
      (sym (set-get_or s.words i 0))
      (relinks IsLinked IsLent IsNoted IsTree tree_lends z s r id d d' s.words (λ _. Stays) record {
        at = at;
        same_sizes = refl;
        same_made = refl;
        same_stage = refl;
        same_lost = refl;
        same_pin = refl;
        wide = refl;
        low = λ k _. refl;
        announcements = λ _ _ _. refl;
        unlinked_rows = λ c k _ _ _ _. refl;
        changes = λ c _ _. ((λ l. l), (λ l. l), (λ l. l), (λ l. l), refl);
        in_range = (r.seat id d at).in_range;
        notes = λ j x here c n. ⊎_elim
            (λ (t : (j ≡ id) × (d' ≡ x)). ⊎_elim
            (λ (o : IsNoted s.words d.upper c). inl (d, ap (get_elem? s.views) t.0 ∙ at, o))
            (λ (l : IsLinked s.words c
            × (d.pin.pinned ≡ true)). inr (
              l.0,
              ap (λ (y : View TreeView). y.pin.pinned) (sym t.1) ∙ l.1,
            ))
            (notes c (subst (λ (y : View TreeView). IsNoted s.words y.upper c) (sym t.1) n)))
            (λ (t : (j ≢ id) × (get_elem? s.views j ≡ some x)). inl (x, t.1, n))
            (at_set s.views id j d' x here);
        above = subst (IsTree z r.made s.words) (sym (map-set upper_of s.views id d')) above;
      })

  -- What a seat knows of the tree, by its view.
  pub knows_upper : (s : State (Unit {0}) (View TreeView)) (r : R s) (id : ℕ) (d : View TreeView)
      → get_elem? s.views id ≡ some d
      → Knows z r.made s.words r.above.role (map upper_of s.views) r.above.history id d.upper
  knows_upper s r id d at = r.above.each_seat id d.upper (at_map upper_of s.views id d at)

-- A load, or an exchange that was lost, after which a seat knows more of ranges, and its turns and tries are counted anew.
module _ (z : Sizes) (s : State (Unit {0}) (View TreeView)) (r : R z s) (i id : ℕ) (d : View TreeView)
    (at : get_elem? s.views id ≡ some d) (ranges : KnownRanges) (turns : Turns) (tries : Tries) where
  abbrev with_ranges : TreeView
  with_ranges = record d.upper { ranges = ranges; turns = turns; tries = tries }

  pub knows_ranges : IsJoining s.words d.upper.notes d.upper.ways ranges.joins
      → ((row : ℕ) → IsNoted s.words (record d.upper { ranges = ranges; turns = turns; tries = tries }) row
      → IsNoted s.words d.upper row ⊎ (IsLinked s.words row × (d.pin.pinned ≡ true)))
      → (r.made ≤ 1 → 0 < d.upper.number
      → IsLone s.words r.above.role d.upper.number d.upper.ranges.own d.upper.ways d.upper.ranges.joins.begun
      → IsLone s.words r.above.role d.upper.number ranges.own d.upper.ways ranges.joins.begun)
      → IsRanging z s.words r.above.role (r.above.ranged.ends d.upper.number) d.upper.since
      r.above.history d.upper.number ranges
      → R z record {
        words = set s.words i (get_or s.words i 0);
        homes = s.homes;
        views = set s.views id (record d { upper = record d.upper { ranges = ranges; turns = turns; tries = tries } });
      }
  knows_ranges joining notes lone ranging = let us : List TreeView = map upper_of s.views in
      let first = at_map upper_of s.views id d at in
      let k = relisted z r.made s.words r.above.role us (set us id with_ranges) r.above.history
      id d.upper (numbered us id d.upper with_ranges first (λ _. refl)) (knows_upper z s r id d at) in
      looked z s r i id d with_ranges at notes
      (seat_changed z r.made s.words us id d.upper with_ranges r.above first (λ _. refl) (λ _. refl) lone
      record {
        made_before = k.made_before;
        alone = k.alone;
        seen_first = k.seen_first;
        since_first = k.since_first;
        lawful = k.lawful;
        past = k.past;
        notes = k.notes;
        links = k.links;
        ways = k.ways;
        way_links = k.way_links;
        one_place = k.one_place;
        joining = joining;
        ended = k.ended;
      }
      ranging)

-- A member of a list with one more in front.
pub in_more : {A : Type 0} (x y : A) (xs : List A) → IsIn y (x ∷ xs) → (x ≡ y) ⊎ IsIn y xs
in_more x y xs i = by i.0 i.1
  where
    by : (k : ℕ) → get_elem? (x ∷ xs) k ≡ some y → (x ≡ y) ⊎ IsIn y xs
    by zero e = inl (some-injective x y e)
    by (suc k) e = inr (k, e)

-- A member of what a function gives a list comes from a member of the list.
pub of_map : {A B : Type 0} (f : A → B) (xs : List A) (k : ℕ) (y : B)
    → get_elem? (map f xs) k ≡ some y
    → (x : A) × (get_elem? xs k ≡ some x) × (f x ≡ y)
of_map f [] k y e = absurd (some-ne-none y (sym e))
of_map f (x ∷ xs) zero y e = (x, refl, some-injective (f x) y e)
of_map f (x ∷ xs) (suc k) y e = of_map f xs k y e

-- Edits by some passes are edits by more.
pub fewer_passes : (made most : ℕ) (h : History) → made ≤ most → AreByPasses made h
    → AreByPasses most h
fewer_passes made most [] l b = tt
fewer_passes made most (x ∷ xs) l b = let hi = b.1 in
    (b.0, omega arith, fewer_passes made most xs l b.2)

-- Places that are not behind one place are not behind a later one.
pub longer_past : (n m : ℕ) (log : List Entry) → n ≤ m → ArePast n log → ArePast m log
longer_past n m [] l p = tt
longer_past n m (x ∷ xs) l p = let hi = p.0 in (omega arith, longer_past n m xs l p.1)

-- The beginning of a history is no longer than the history.
pub starts_shorter : (h seen : History) → StartsWith h seen → length seen ≤ length h
starts_shorter h seen s = let e = ap (λ (x : History). length x) s.1 in
    let m = length-append seen s.0 in omega arith

-- The beginning of a beginning.
pub further : (a b c : History) → StartsWith a b → StartsWith b c → StartsWith a c
further a b c x y = (y.0 ++ x.0, x.1 ∙ (ap (λ h. h ++ x.0) y.1 ∙ append_assoc c y.0 x.0))

-- A note more: on a base of which this holds, as of its objects.
pub new_note : (words : List ℕ) (u : TreeView) (more : History) (note last : Note) (shown : ℕ)
    → (P : ℕ → Type 0) → P note.row
    → ((r : ℕ) → IsIn r (items note.its) → P r) → (row : ℕ)
    → IsNoted words (led_to_base u more note last shown) row
    → IsNoted words u row ⊎ P row
new_note words u more note last shown P here named _ (by_note n row i e) = ⊎_elim
    (λ (same : note ≡ n). inr (subst P
    (ap (λ (x : Note). x.row) same ∙ e) here))
    (λ (o : IsIn n u.notes). inl (by_note n row o e)) (in_more note n u.notes i)
new_note words u more note last shown P here named _ (by_item n row i b m) = ⊎_elim
    (λ (same : note ≡ n).
    inr (named row (subst (λ (x : Note). IsIn row (items x.its)) (sym same) m)))
    (λ (o : IsIn n u.notes). inl (by_item n row o b m)) (in_more note n u.notes i)
new_note words u more note last shown P here named _ (by_way way row i e) = inl (by_way way row i e)
new_note words u more note last shown P here named _ (by_link way row i under) =
    inl (by_link way row i under)
new_note words u more note last shown P here named _ (by_link_item way base row i under f m) =
    inl (by_link_item way base row i under f m)
new_note words u more note last shown P here named _ (by_border border row i e) =
    inl (by_border border row i e)
new_note words u more note last shown P here named _ (by_run row o) = inl (by_run row o)
new_note words u more note last shown P here named _ (by_run_item base row o k) =
    inl (by_run_item base row o k)
new_note words u more note last shown P here named _ (by_shown n row i e) = inl (by_shown n row i e)
new_note words u more note last shown P here named _ (by_shown_item n row i b k) =
    inl (by_shown_item n row i b k)

-- A route more: one that is linked, and so is what its links name.
pub new_way : (words : List ℕ) (u : TreeView) (more : History) (way : Way) → IsLinked words way.row
    → IsRouteRow (row_at words way.row) → (row : ℕ)
    → IsNoted words (led_to_route u more way) row → IsNoted words u row ⊎ IsLinked words row
new_way words u more way here form _ (by_note n row i e) = inl (by_note n row i e)
new_way words u more way here form _ (by_item n row i b m) = inl (by_item n row i b m)
new_way words u more way here form _ (by_way w row i e) = ⊎_elim
    (λ (same : way ≡ w). inr (subst (IsLinked words)
    (ap (λ (x : Way). x.row) same ∙ e) here))
    (λ (o : IsIn w u.ways). inl (by_way w row o e)) (in_more way w u.ways i)
new_way words u more way here form _ (by_link w row i under) = ⊎_elim
    (λ (same : way ≡ w).
    inr (by_route way.row row here form (subst
    (λ (x : Way). IsUnder words x.row row) (sym same) under)))
    (λ (o : IsIn w u.ways). inl (by_link w row o under)) (in_more way w u.ways i)
new_way words u more way here form _ (by_link_item w base row i under f m) = ⊎_elim
    (λ (same : way ≡ w).
    inr (by_base base row (by_route way.row base here form (subst
    (λ (x : Way). IsUnder words x.row base) (sym same) under)) f m))
    (λ (o : IsIn w u.ways). inl (by_link_item w base row o under f m)) (in_more way w u.ways i)
new_way words u more way here form _ (by_border border row i e) = inl (by_border border row i e)
new_way words u more way here form _ (by_run row o) = inl (by_run row o)
new_way words u more way here form _ (by_run_item base row o k) = inl (by_run_item base row o k)
new_way words u more way here form _ (by_shown n row i e) = inl (by_shown n row i e)
new_way words u more way here form _ (by_shown_item n row i b k) = inl (by_shown_item n row i b k)

-- a row with the words that it has, as a note on a base at this place
abbrev pub row_note : List ℕ → ℕ → Place → Note
row_note words row place = record { row = row; its = row_at words row; objects = map (λ r. row_at words r) (items (row_at words row)); place = place }

-- What a list of rows spells, one after another.
pub in_turn : (words : List ℕ) (xs : List ℕ)
    → map pair (map (λ r. row_at words r) xs) ≡ map (λ r. pair (row_at words r)) xs
in_turn words [] = refl
in_turn words (x ∷ xs) = ap (λ ys. pair (row_at words x) ∷ ys) (in_turn words xs)

module _ (z : Sizes) (made : ℕ) (words : List ℕ) (uppers : List TreeView)
    (f : IsTree z made words uppers) where
  abbrev last : StoreMap
  last = after f.history []

  -- A row that hangs at a place, or hung there, and spells a base: all that is said of it but its mark and what the map has.
  record IsSpelled (row : ℕ) (place : Place) : Type 0 where
    some_row : 0 < row
    in_range : row ≤ z.rows
    is_base : IsBaseRow (row_at words row)
    level_is : level (row_at words row) ≡ place.level
    deep : place.level ≤ z.levels
    few : count (row_at words row) ≤ z.leaf
    marked : IsMark place (row_at words row)
    are_objects : (r : ℕ) → IsIn r (items (row_at words row)) → (0 < r) × (r ≤ z.rows) × IsObjectRow (row_at words r)
    headed : AreHeaded words row

  -- Its note is on a base.
  spelled_is : (row : ℕ) (place : Place) → IsSpelled row place → IsBaseNote z (row_note words row place)
  spelled_is row place at = record {
    some_row = at.some_row;
    in_range = at.in_range;
    is_base = at.is_base;
    long = row_long words z.rows row f.shape.wide at.in_range;
    level_is = at.level_is;
    deep = at.deep;
    most_levels = f.usable.most_levels;
    few = at.few;
    marked = at.marked;
    named = λ r i. let o = at.are_objects r i in (o.0, o.1);
    as_many = length-map (items (row_at words row)) (λ r. row_at words r);
    objects_long = λ its i. let from = of_map
        (λ r. row_at words r) (items (row_at words row)) i.0 its i.1 in
        let o = at.are_objects from.0 (i.0, from.1) in
        subst (λ (x : List ℕ). (length x ≡ row_words)
        × IsObjectRow x) from.2 (row_long words z.rows from.0 f.shape.wide o.1, o.2);
    headed = at.headed;
  }

  -- A base of the tree, as a note.
  module _ (row : ℕ) (place : Place) (is : f.role row ≡ Base place) where
    abbrev pub base_note : Note
    base_note = row_note words row place

    at : IsBaseAt z words f.role last place row
    at = base_at z words f.role last f.shape row place is

    -- A range that marked it was begun.
    base_begun : (pass number : ℕ) → IsMarkedBy (row_at words row) pass number
        → HasBegun words pass number
    base_begun pass number m = ⊎_elim
        (λ (none : IsUnmarked (row_at words row)). let one = m.0 in absurd (omega arith))
        (λ some_mark. ⊎_elim
        (λ (k : IsOfRange (row_at words row) × (mark_number (row_at words row)
        ≤ result_of words (mark_owner (row_at words row)) / sequence_unit)).
        subst (λ (x : ℕ × ℕ). HasBegun words x.0 x.1) (λ i. (m.1 i, m.2 i)) (k.0.1, k.0.2, k.1))
        (λ (k : IsOfJoin place (row_at words row) × HasAttempt words (mark_owner (row_at words row)) (mark_number (row_at words row))).
        let one = m.0 in let two = k.0.0 in absurd (omega arith))
        some_mark)
        at.marked

    -- That note says what the words spell.
    pub base_true : IsTrue z.rows words f.role base_note
    base_true = record {
      some_row = at.some_row;
      in_range = at.in_range;
      spells = refl;
      named = λ _ r i. at.are_objects r i;
      objects_are = λ _. refl;
      stands = inl is;
      marks = λ pass number m. (base_begun pass number m, λ _. is);
    }

    -- It is on a base.
    pub base_is : IsBaseNote z base_note
    base_is = spelled_is row place record {
      some_row = at.some_row;
      in_range = at.in_range;
      is_base = at.is_base;
      level_is = at.level_is;
      deep = at.deep;
      few = at.few;
      marked = mark_of words place (row_at words row) at.marked;
      are_objects = at.are_objects;
      headed = at.headed;
    }

    -- Its objects are what the last state has of the keys that are led there.
    pub base_has : map pair base_note.objects ≡ part place.span last
    base_has = in_turn words (items (row_at words row)) ∙ at.has

  -- A base that was left over under a route that was unlinked, as a note.
  module _ (map : StoreMap) (route attempt row : ℕ) (place : Place) (of : IsLinkOf route place.link)
      (left : IsLeftOver z words f.role map route attempt place row) where
    -- That note says what the words spell.
    pub left_true : IsTrue z.rows words f.role (row_note words row place)
    left_true = record {
      some_row = left.some_row;
      in_range = left.in_range;
      spells = refl;
      named = λ _ r i. left.are_objects r i;
      objects_are = λ _. refl;
      stands = inr left.is_out;
      marks = λ pass number m. let one = m.0 in let two = left.marked.0 in absurd (omega arith);
    }

    -- It is on a base.
    pub left_is : IsBaseNote z (row_note words row place)
    left_is = spelled_is row place record {
      some_row = left.some_row;
      in_range = left.in_range;
      is_base = left.is_base;
      level_is = left.level_is;
      deep = left.deep;
      few = left.few;
      marked = inr (inr (left.marked.0, subst (λ t. IsLinkOf t place.link) (sym left.marked.1) of));
      are_objects = left.are_objects;
      headed = left.headed;
    }

  -- A route of the tree, as one that is remembered.
  module _ (row : ℕ) (place : Place) (key : List ℕ) (is : f.role row ≡ Route place key) where
    abbrev pub route_way : Way
    route_way = record { row = row; its = row_at words row; place = place }

    pub there : IsRouteAt z words f.role place key row
    there = route_at z words f.role last f.shape row place key is

    -- It is what the words spell.
    pub way_true : (since : History) → IsTrueWay z words f.role since f.history route_way
    way_true since = record {
      some_row = there.some_row;
      is_route = there.is_route;
      in_range = there.in_range;
      stands = inl (is ∙ ap (Route place) (sym there.key_is));
      spells = λ index fixed. sym (word_at words row index fixed.0);
    }

    -- A route with this row that a seat remembers was shown at this place.
    pub way_alike : (since : History) (way : Way) → IsTrueWay z words f.role since f.history way → row ≡ way.row
        → (place ≡ way.place) × (route_key (row_at words row) ≡ route_key way.its)
    way_alike since way t e = ⊎_elim
        (λ (a : IsAlive f.role way). let same = same_route place way.place key (route_key way.its) (sym is ∙ (ap f.role e ∙ a)) in
        (same.0, there.key_is ∙ same.1))
        (λ (d : (at : ℕ) × IsDead z words f.role since f.history way at).
        let y : Route place key ≡ Out = sym is ∙ (ap f.role e ∙ d.1.is_out) in absurd cc)
        t.stands

    pub route_is : IsRouteNote z route_way
    route_is = record {
      some_row = there.some_row;
      in_range = there.in_range;
      is_route = there.is_route;
      long = row_long words z.rows row f.shape.wide there.in_range;
      level_is = there.level_is;
      above = there.above;
      short = there.short;
      inside = subst (HasKey place.span) (sym there.key_is) there.inside;
    }

  -- What one seat knows of links and words.
  module _ (j : ℕ) (u : TreeView) (k : Knows z made words f.role uppers f.history j u) where
    -- The link is one of a route that was unlinked since the pin, and leads to a base that was left over.
    abbrev pub IsLeftLink : ℕ → ℕ → Span → Type 0
    IsLeftLink link least span = (way : Way) × IsIn way u.ways × (at : ℕ) × (d : IsDead z words f.role u.since f.history way at)
        × (LedTo z words f.role (state f.history at) way.row d.attempt link least span) × IsLinkOf way.row link

    -- The link of a route that it remembers, on one side, leads there, or is such a link.
    way_leads : (way : Way) → IsIn way u.ways → (link least : ℕ) (span : Span) → least ≡ way.place.level + 1
        → ((link ≡ row_words * way.row + 1) × (span ≡ left_of (route_key way.its) way.place.span))
        ⊎ ((link ≡ row_words * way.row + 2) × (span ≡ right_of (route_key way.its) way.place.span))
        → LeadsTo words f.role link least span ⊎ IsLeftLink link least span
    way_leads way i link least span deep side = ⊎_elim
        (λ (e : IsAlive f.role way). let r = there way.row way.place (route_key way.its) e in inl (⊎_elim
        (λ t. subst (λ (y : ℕ × ℕ × Span). LeadsTo words f.role y.0 y.1 y.2) (λ n. (sym t.0 n, sym deep n, sym t.1 n)) r.left)
        (λ t. subst (λ (y : ℕ × ℕ × Span). LeadsTo words f.role y.0 y.1 y.2) (λ n. (sym t.0 n, sym deep n, sym t.1 n)) r.right)
        side))
        (λ (d : (at : ℕ) × IsDead z words f.role u.since f.history way at). inr (
          way,
          i,
          d.0,
          d.1,
          ⊎_elim
              (λ t. subst (λ (y : ℕ × ℕ × Span). LedTo z words f.role (state f.history d.0) way.row d.1.attempt y.0 y.1 y.2)
              (λ n. (sym t.0 n, sym deep n, sym t.1 n)) d.1.left)
              (λ t. subst (λ (y : ℕ × ℕ × Span). LedTo z words f.role (state f.history d.0) way.row d.1.attempt y.0 y.1 y.2)
              (λ n. (sym t.0 n, sym deep n, sym t.1 n)) d.1.right)
              side,
          ⊎_elim (λ t. inl t.0) (λ t. inr t.0) side,
        ))
        (k.ways way i).stands

    -- A link that it knows leads there, or is such a link.
    pub known_leads : (link least : ℕ) (span : Span) → IsKnownLink u link least span
        → LeadsTo words f.role link least span ⊎ IsLeftLink link least span
    known_leads link least span known = ⊎_elim
        (λ (t : (link ≡ root_word) × (least ≡ 0) × (span ≡ all_keys)).
        inl (subst (λ (y : ℕ × ℕ × Span). LeadsTo words f.role y.0 y.1 y.2) (λ n. (sym t.0 n, sym t.1 n, sym t.2 n)) f.shape.top))
        (λ t. way_leads t.0 t.1 link least span t.2 t.3)
        known

    -- Of one link it knows one level and one part of the keys.
    known_once : (link a b : ℕ) (s t : Span) → IsKnownLink u link a s → IsKnownLink u link b t → (a ≡ b) × (s ≡ t)
    known_once link a b s t one other = ⊎_elim
        (λ (x : (link ≡ root_word) × (a ≡ 0) × (s ≡ all_keys)). ⊎_elim
        (λ (y : (link ≡ root_word) × (b ≡ 0) × (t ≡ all_keys)). (x.1 ∙ sym y.1, x.2 ∙ sym y.2))
        (λ y. absurd (no_root y.0.row (⊎_elim (λ e. inl e.0) (λ e. inr e.0) y.3) x.0)) other)
        (λ x. ⊎_elim
        (λ (y : (link ≡ root_word) × (b ≡ 0) × (t ≡ all_keys)). absurd (no_root x.0.row (⊎_elim (λ e. inl e.0) (λ e. inr e.0) x.3) y.0))
        (λ y. let row = link_of_one x.0.row y.0.row link (⊎_elim (λ e. inl e.0) (λ e. inr e.0) x.3) (⊎_elim (λ e. inl e.0) (λ e. inr e.0) y.3) in
        let same = k.one_place x.0 y.0 x.1 y.1 row in (
          x.2 ∙ (ap (λ (p : Place). p.level + 1) same.0 ∙ sym y.2),
          ⊎_elim
              (λ e. ⊎_elim (λ g. e.1 ∙ (ap (λ (q : List ℕ × Span). left_of q.0 q.1) (λ n. (same.1 n, (same.0 n).span)) ∙ sym g.1))
              (λ g. let l = e.0 in let m = g.0 in absurd (omega arith)) y.3)
              (λ e. ⊎_elim (λ g. let l = e.0 in let m = g.0 in absurd (omega arith))
              (λ g. e.1 ∙ (ap (λ (q : List ℕ × Span). right_of q.0 q.1) (λ n. (same.1 n, (same.0 n).span)) ∙ sym g.1)) y.3)
              x.3,
        ))
        other)
        one
      where
        no_root : (route : ℕ) → IsLinkOf route link → link ≡ root_word → ⊥
        no_root route of top = ⊎_elim (λ (e : link ≡ row_words * route + 1). omega arith) (λ (e : link ≡ row_words * route + 2). omega arith) of

    -- It is a link that the view knows.
    pub link_of_view : (link least : ℕ) (span : Span) → IsKnownLink u link least span
        → IsLinkOfView u link
    link_of_view link least span known = ⊎_elim (λ t. inl t.0)
        (λ t. inr (t.0, t.1, ⊎_elim (λ e. inl e.0) (λ e. inr e.0) t.3)) known

    -- What hangs there hangs at a place as the seat knows it.
    pub place_known : (link level : ℕ) (least : ℕ) (span : Span) → IsKnownLink u link least span → least ≤ level
        → IsPlaceOf u link (record { link = link; level = level; span = span })
    place_known link level least span known greater = (
      refl,
      λ a s other. let same = known_once link least a span s known other in let low = same.0 in (omega arith, same.1),
    )

    -- Of a row that a true note tells of, a load gives the word that the note says.
    pub noted_word : (row index : ℕ) (its : List ℕ) (note : Note) → index < row_words
        → IsTrue z.rows words f.role note → IsOfNote note row its
        → get_or words (row_words * row + index) 0 ≡ get_or its index 0
    noted_word row index its note inside t of = sym (word_at words row index inside)
        ∙ ap (λ (x : List ℕ). get_or x index 0) (⊎_elim
        (λ (e : (note.row ≡ row) × (note.its ≡ its)). ap (row_at words) (sym e.0)
        ∙ (t.spells ∙ e.1))
        (λ (e : IsBaseRow note.its × ((i : ℕ) × (get_elem? (items note.its) i ≡ some row)
        × (get_elem? note.objects i ≡ some its))).
        let named = at_map (λ r. row_at words r) (items note.its) e.1.0 row e.1.1 in
        some-injective (row_at words row) its (sym named
        ∙ (ap (λ xs. get_elem? xs e.1.0) (t.objects_are e.0) ∙ e.1.2)))
        of)

    -- So it is of a row that was shown,
    pub shown_word : (row index : ℕ) (its : List ℕ) → index < row_words → IsShown u row its
        → get_or words (row_words * row + index) 0 ≡ get_or its index 0
    shown_word row index its inside shown =
        noted_word row index its shown.0 inside (k.notes shown.0 shown.1) shown.2

    -- and of one that was shown of a range.
    pub range_word : (ends : Ends)
        → IsRanging z words f.role ends u.since f.history u.number u.ranges
        → (row index : ℕ) (its : List ℕ) → index < row_words → IsShownOfRange u row its
        → get_or words (row_words * row + index) 0 ≡ get_or its index 0
    range_word ends known row index its inside shown = ⊎_elim
        (λ (b : (border : Border) × IsIn border u.ranges.borders × (border.row ≡ row)
        × (border.its ≡ its)). sym (word_at words row index inside)
        ∙ ap (λ (x : List ℕ). get_or x index 0) (ap (row_at words) (sym b.2)
        ∙ ((known.borders b.0 b.1).spells ∙ b.3)))
        (λ (n : (note : Note) × IsIn note u.ranges.run × IsOfNote note row its).
        noted_word row index its n.0 inside (known.run n.0 n.1) n.2)
        shown

    -- So it is of a route, but for its links and its join word.
    pub shown_fixed : (row index : ℕ) (its : List ℕ) → IsFixed index → IsShownRoute u row its
        → get_or words (row_words * row + index) 0 ≡ get_or its index 0
    shown_fixed row index its fixed shown = ap
        (λ (r : ℕ). get_or words (row_words * r + index) 0) (sym shown.2)
        ∙ ((k.ways shown.0 shown.1).spells index fixed
        ∙ ap (λ (x : List ℕ). get_or x index 0) shown.3)

    pub read_is : (ends : Ends)
        → IsRanging z words f.role ends u.since f.history u.number u.ranges
        → (place : ℕ) → IsRead u place (get_or words place 0)
    read_is ends known place row index word is inside shown = ap (λ (i : ℕ). get_or words i 0) is
        ∙ (⊎_elim (λ (x : IsShown u row shown.0). shown_word row index shown.0 inside x)
        (λ x. ⊎_elim
        (λ (y : IsShownRoute u row shown.0 × IsFixed index).
        shown_fixed row index shown.0 y.1 y.0)
        (λ (y : IsShownOfRange u row shown.0). range_word ends known row index shown.0 inside y)
        x) shown.1 ∙ sym shown.2)

module _ (z : Sizes) where
  -- A seat that has seen the whole history.
  module _ (s : State (Unit {0}) (View TreeView)) (r : R z s) (id : ℕ) (me : MyTree)
      (at : get_elem? s.views id ≡ some me.0) where
    abbrev mine : Knows z r.made s.words r.above.role (map upper_of s.views) r.above.history id
        me.0.upper
    mine = knows_upper z s r id me.0 at

    abbrev before : TreeView
    before = me.0.upper

    -- The rest of the history is behind what it had seen.
    pub whole : r.above.history ≡ me.0.upper.seen ++ (knows_upper z s r id me.0 at).seen_first.0
    whole = mine.seen_first.1

    pub long : length me.0.upper.seen ≤ length r.above.history
    long = starts_shorter r.above.history before.seen mine.seen_first

    pub since_whole : StartsWith r.above.history me.0.upper.since
    since_whole = further r.above.history before.seen before.since mine.seen_first mine.since_first

    pub past_whole : ArePast (length r.above.history) me.0.upper.log
    past_whole = longer_past (length before.seen) (length r.above.history) before.log long mine.past

    -- It knows a history as it may.
    pub known_now : (u' : TreeView) → u'.number ≡ me.0.upper.number → u'.log ≡ me.0.upper.log
        → u'.seen ≡ me.0.upper.seen ++ (knows_upper z s r id me.0 at).seen_first.0 → IsKnown z u'
    known_now u' same_number same_log same_seen = let e : r.above.history ≡ u'.seen = whole
        ∙ sym same_seen in let low = mine.made_before in
        let within = r.within in record {
          lawful = subst (λ (log : List Entry). IsLawful u'.number u'.seen log) (sym same_log)
              (subst (λ (h : History). IsLawful u'.number h before.log) e (subst
              (λ (m : ℕ). IsLawful m r.above.history before.log) (sym same_number) mine.lawful));
          past = subst (ArePast (length u'.seen)) (sym same_log)
              (subst (λ (h : History). ArePast (length h) before.log) e past_whole);
          edits = subst (AreEdits z.keypos) e r.above.edits;
          enrolled = omega arith;
          by_passes = subst (AreByPasses z.passes) e
              (fewer_passes r.made z.passes r.above.history r.within r.above.by_passes);
        }

    -- The seat knows the sizes, if it has any rows.
    pub sized : (P : Sizes → Type 0) → P z → 0 < me.0.sizes.rows → P me.0.sizes
    sized P p some_rows =
        subst P (sym (⊎_elim (λ (e : me.0.sizes.rows ≡ 0). absurd (omega arith))
        (λ (e : me.0.sizes ≡ z). e) (r.seat id me.0 at).sizes_are)) p

  -- A route that a seat remembers is one of the table.
  remembered_range : (s : State (Unit {0}) (View TreeView)) (r : R z s) (id : ℕ) (me : MyTree) → get_elem? s.views id ≡ some me.0
      → (route : ℕ) → IsRemembered me.0.upper.ways route → route ≤ z.rows
  remembered_range s r id me here route known = subst (λ (c : ℕ). c ≤ z.rows) known.2
      ((knows_upper z s r id me.0 here).ways known.0 known.1).in_range

  -- The load of a word of a row that was shown.
  pub reads : (slots id : ℕ) (me : MyTree) (i : ℕ) → me.0.sizes ≡ z
      → Allows (R z) slots id me i (λ x. x) (Raises MayLoad Reads (step slots i 0 0 none) me)
  reads slots id me i sized s r _ at _ = let f = r.above in let d = me.0 in
      let k = knows_upper z s r id d at in let us : List TreeView = map upper_of s.views in
      let first = at_map upper_of s.views id d at in
      let read : Reads (step slots i 0 0 none) me (get_or s.words i 0) me = (
        refl,
        read_is z r.made s.words us f id d.upper k
            (f.ranged.ends d.upper.number) (f.ranged.each id d.upper first) i,
        λ note m route attempt marked. let h = k.joining.hung note m route attempt marked in
            let known = remembered_route d.upper note.place.link route (k.links note m) h.is_link in
            (known, subst (λ (y : Sizes). route ≤ y.rows) (sym sized) (remembered_range s r id me at route known), h.is_link),
      ) in (
        d,
        keeps,
        tt,
        looked z s r i id d d.upper at
            (λ row n. inl n) (subst (IsTree z r.made s.words) (sym (set_again us id d.upper first))
            f),
        (refl, inr (inl read), read),
      )

  -- The same load, which ends a call that edits nothing.
  pub reads_last : (slots id : ℕ) (me : MyTree) (i : ℕ) (event : Event)
      → IsReadSince event me.0.upper
      → Allows (R z) slots id me i
      (λ x. x) (Raises MayLoad (ReadsLast event) (step slots i 0 0 none) me)
  reads_last slots id me i event (p, now) s r _ at _ = let f = r.above in let d = me.0 in
      let k = knows_upper z s r id d at in
      let us : List TreeView = map upper_of s.views in
      let first = at_map upper_of s.views id d at in
      let u' : TreeView = entered d.upper event p in
      let low = starts_shorter f.history d.upper.seen k.seen_first in
      let inside = now.since.1 in
      let k' = relisted z r.made s.words f.role us (set us id u') f.history id d.upper
      (numbered us id d.upper u' first (λ _. refl)) k in
      let there : state f.history p ≡ state d.upper.seen p = ap (λ h. state h p) k.seen_first.1
      ∙ state_stays d.upper.seen k.seen_first.0 p now.since.1 in
      let read : ReadsLast event (step slots i 0 0 none) me (get_or s.words i 0)
      (with_upper me u') = (
        record { at = p; is_read = now; now = refl },
        read_is z r.made s.words us f id d.upper k
            (f.ranged.ends d.upper.number) (f.ranged.each id d.upper first) i,
      ) in (
        record d { upper = u' },
        keeps,
        tt,
        looked z s r i id d u' at (λ row n. inl (noted_alike s.words d.upper u'
            (λ x m. m) (λ x m. m) (λ x m. m) (λ x m. m) (λ x m. m) row n))
            (seat_changed z r.made s.words us id d.upper u' f first (λ _. refl) (λ _. refl) (λ _ _ l. l) record {
              made_before = k'.made_before;
              alone = k'.alone;
              seen_first = k'.seen_first;
              since_first = k'.since_first;
              lawful = read_lawful d.upper.number event f.history p d.upper.log now.edits_nothing
                  (omega arith)
                  (subst (IsAnswer event) (sym there) now.answer) now.first k.lawful;
              past = past_more (length d.upper.seen) d.upper.log (event, p) k.past now.since.1;
              notes = k'.notes;
              links = k'.links;
              ways = k'.ways;
              way_links = k'.way_links;
              one_place = k'.one_place;
              joining = k'.joining;
              ended = k'.ended;
            }
            (f.ranged.each id d.upper first)),
        (refl, inr (inr (inl (event, read))), read),
      )

  -- A load after which the seat counts otherwise, and knows what it knew, but for the base that a walk came to last.
  pub recounted : (s : State (Unit {0}) (View TreeView)) (r : R z s) (i id : ℕ) (d : View TreeView)
      (counts : Counts) (turns : Turns) (last : Note)
      → get_elem? s.views id ≡ some d
      → R z record {
        words = set s.words i (get_or s.words i 0);
        homes = s.homes;
        views = set s.views id
            (record d { upper = record d.upper { counts = counts; turns = turns; last = last } });
      }
  recounted s r i id d counts turns last at = let f = r.above in
      let us : List TreeView = map upper_of s.views in
      let first = at_map upper_of s.views id d at in
      let u' : TreeView = record d.upper { counts = counts; turns = turns; last = last } in
      let k = relisted z r.made s.words f.role us (set us id u') f.history id d.upper
      (numbered us id d.upper u' first (λ _. refl))
      (knows_upper z s r id d at) in
      looked z s r i id d u' at (λ row n. inl (noted_alike s.words d.upper u'
      (λ x m. m) (λ x m. m) (λ x m. m) (λ x m. m) (λ x m. m) row n))
      (seat_changed z r.made s.words us id d.upper u' f first (λ _. refl) (λ _. refl) (λ _ _ l. l) record {
        made_before = k.made_before;
        alone = k.alone;
        seen_first = k.seen_first;
        since_first = k.since_first;
        lawful = k.lawful;
        past = k.past;
        notes = k.notes;
        links = k.links;
        ways = k.ways;
        way_links = k.way_links;
        one_place = k.one_place;
        joining = k.joining;
        ended = k.ended;
      }
      (f.ranged.each id d.upper first))

  -- An exchange after which the seat counts one more that was lost, and remembers no base.
  pub loses : (s : State (Unit {0}) (View TreeView)) (r : R z s) (i id : ℕ) (d : View TreeView)
      → get_elem? s.views id ≡ some d
      → R z record {
        words = set s.words i (get_or s.words i 0);
        homes = s.homes;
        views = set s.views id (record d { upper = one_more_lost d.upper });
      }
  loses s r i id d at = let f = r.above in let us : List TreeView = map upper_of s.views in
      let first = at_map upper_of s.views id d at in let u' : TreeView = one_more_lost d.upper in
      let k = relisted z r.made s.words f.role us (set us id u') f.history id d.upper
      (numbered us id d.upper u' first (λ _. refl))
      (knows_upper z s r id d at) in
      looked z s r i id d u' at (λ row n. inl (noted_alike s.words d.upper u'
      (λ x m. absurd (some-ne-none x (sym m.1))) (λ x m. m) (λ x m. m) (λ x m. m) (λ x m. m) row n))
      (seat_changed z r.made s.words us id d.upper u' f first (λ _. refl) (λ _. refl) (λ _ _ l. l) record {
        made_before = k.made_before;
        alone = k.alone;
        seen_first = k.seen_first;
        since_first = k.since_first;
        lawful = k.lawful;
        past = k.past;
        notes = λ m i. absurd (some-ne-none m (sym i.1));
        links = λ m i. absurd (some-ne-none m (sym i.1));
        ways = k.ways;
        way_links = k.way_links;
        one_place = k.one_place;
        joining = joining_unnoted s.words d.upper.notes d.upper.ways d.upper.ranges.joins k.joining;
        ended = k.ended;
      }
      (f.ranged.each id d.upper first))

  -- A base that a pass lists which is alone hangs under its link.
  pub hangs_still : (s : State (Unit {0}) (View TreeView)) (r : R z s) (id : ℕ) (me : MyTree)
      (note : Note) → get_elem? s.views id ≡ some me.0
      → get_or s.words note.place.link 0 ≢ note.row → IsMissed note me
  hangs_still s r id me note at miss some_rows alone i = let f = r.above in let within = r.within in
      let same : me.0.sizes ≡ z = ⊎_elim (λ (e : me.0.sizes.rows ≡ 0). absurd (omega arith))
      (λ (e : me.0.sizes ≡ z). e) (r.seat id me.0 at).sizes_are in
      let one : z.passes ≡ 1 = ap (λ (y : Sizes). y.passes) (sym same) ∙ alone.0 in
      let whole =
      (f.only_one id me.0.upper (at_map upper_of s.views id me.0 at) (omega arith) alone.1).whole in
      let listed : IsIn (note.row, note.place) f.inventory.bases = subst
      (λ (y : Inventory). IsIn (note.row, note.place) y.bases) whole i in
      miss (base_at z s.words f.role (after f.history []) f.shape note.row note.place
      (f.listed.bases note.row note.place listed)).under

  -- A load that ends a refused call.
  pub refuses : (slots id : ℕ) (me : MyTree) (i : ℕ) (one_more : Counts → Counts) → IsRise one_more
      → Allows (R z) slots id me i
      (λ x. x) (Raises MayLoad (Refuses one_more) (step slots i 0 0 none) me)
  refuses slots id me i one_more rise s r _ at _ = let d = me.0 in (
    record d { upper = record d.upper { counts = one_more d.upper.counts } },
    keeps,
    tt,
    recounted s r i id d (one_more d.upper.counts) d.upper.turns d.upper.last at,
    (refl, inr (inr (inr (inl (one_more, rise, refl)))), refl),
  )

  -- A load by which the seat counts that it looked to the left.
  pub passes_on : (slots id : ℕ) (me : MyTree) (i : ℕ) → IsAside me.0.upper → Allows (R z) slots id me i
      (λ x. x) (Raises MayLoad PassesOn (step slots i 0 0 none) me)
  passes_on slots id me i aside s r _ at _ = let d = me.0 in (
    record d { upper = passed_on d.upper },
    keeps,
    tt,
    recounted s r i id d d.upper.counts (one_passed d.upper.turns) no_note at,
    (refl, inr (inr (inr (inr (inr (inr (inl (aside, refl))))))), (aside, refl)),
  )
