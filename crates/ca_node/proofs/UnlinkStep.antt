-- The step by which a route is unlinked: the rule holds again, and what the exchange tells is so.
use Rattle.std.proofs.Common.{◌≡◌, ◌≢◌, ◌⊎◌, ℕ, ◌+◌, ◌*◌, ◌<◌, ◌≤◌, Bool, true, false, eqb, List, [], ◌∷◌, map, get_or, set, sym, refl, ap, ◌∙◌, subst, inl, inr, ⊎_elim, arith, eq-eqb, ne_eqb}
use Rattle.std.proofs.lemmas.List.{map-set}
use mathlib.Core.Logic.{dite}
use mathlib.Core.Option.{some, none}
use native.Mathlib.Decide.{ℕ_discrete}
use lib.ListN.{get_elem?}
use prog.Atomic.{either}
use Rattle.atomic_table.specs.Table.{State, step, keeps, stepped, Allows}
use Rattle.atomic_table.proofs.Lists.{at_set, at_map}
use Rattle.ca_model.specs.History.{after}
use Rattle.ca_model.specs.StoreMap.{StoreMap}
use Rattle.ca_rows.specs.Calls.{Relinks}
use Rattle.ca_rows.specs.Claims.{claim_of}
use Rattle.ca_rows.specs.Rule.{upper_of}
use Rattle.ca_rows.specs.Told.{relinked}
use Rattle.ca_rows.specs.declared.sizes.Sizes.{Sizes}
use Rattle.ca_rows.specs.declared.view.Claim.{Claim}
use Rattle.ca_rows.specs.declared.view.Claim.TheVariants.{Holds}
use Rattle.ca_rows.specs.declared.view.View.{View}
use Rattle.ca_rows.proofs.Relinking.{Change, Stays, Comes, Goes, IsChange, relinks}
use Rattle.ca_rows.proofs.Rules.{all_seats}
use Rattle.ca_runs.specs.Runs.{AreRuns}
use Rattle.ca_runs.proofs.Keeping.{runs_still}
use Rattle.ca_node.specs.Attempts.{IsUnderWay}
use Rattle.ca_node.specs.JoinsStay.{nothing_joining}
use Rattle.ca_node.specs.Laws.{noted_alike, tree_lends, in_nothing, in_one, numbered, relisted, seat_changed}
use Rattle.ca_node.specs.Inventory.{row_itself, row_of_base}
use Rattle.ca_node.specs.Links.{IsIn, IsUnder, IsLinked, by_range, IsLent, IsOfOwnRun, IsNoted, by_note}
use Rattle.ca_node.specs.Lone.{attempt_of, IsLone}
use Rattle.ca_node.specs.May.{MaySwap}
use Rattle.ca_node.specs.Place.{Place}
use Rattle.ca_node.specs.Ranging.{IsRanging}
use Rattle.ca_node.specs.RangesStay.{active_back, active_on, begun_on}
use Rattle.ca_node.specs.Reached.{route_at, link_range, linked_range}
use Rattle.ca_node.specs.Row.{row_at, IsBaseRow, IsMarkedBy, IsMarkedFor, route_key}
use Rattle.ca_node.specs.Scenes.{span_of, mark_of, scene_of}
use Rattle.ca_node.specs.Shape.{Role, Out, Route, place_of, IsShape}
use Rattle.ca_node.specs.Told.{MyTree, given, taken_out}
use Rattle.ca_node.specs.Tree.{IsTrue, IsTrueWay, Knows, IsTree}
use Rattle.ca_node.specs.States.{IsAlone}
use Rattle.ca_node.specs.TreeView.{Note, Way, Attempt, Inventory, Ranging, Quiet, Marking, Joining, TreeView, own_behind}
use Rattle.ca_node.specs.Unlinks.{Unlinking, IsUnlinking, attempt_by, gone_by, unlinked_inventory, unlinked, one_unlinking_lost, IsUnlinked, UnlinksRoute, HasUnlinked}
use Rattle.ca_node.proofs.Holding.{unclaimed_row}
use Rattle.ca_node.proofs.Joined.{joined_keeps, states_keep, joining_keeps}
use Rattle.ca_node.proofs.Listing.{but_all_shorter, known_by_one}
use Rattle.ca_node.proofs.Lone.{lone_by_one}
use Rattle.ca_node.proofs.Looking.{R, looked, of_map, knows_upper, further, starts_shorter}
use Rattle.ca_node.proofs.Members.{has, given_here, given_else, taken_here, taken_else}
use Rattle.ca_node.proofs.OwnTurns.{behind_turns, behind_own, so_turned, marking_back, same_secured}
use Rattle.ca_node.proofs.Relinked.{relinked_wide, relinked_else, relinked_told, relinked_joins, relinked_keeps, out_no_route}
use Rattle.ca_node.proofs.Remembering.{unlinked_out, note_stays, way_stays, ranges_stay, notes_stay}
use Rattle.ca_node.proofs.Unlinked.{without_route}
use Rattle.ca_node.proofs.UnlinkedRows.{route_form, is_there, secured_now, here as hangs, held, new_unlinked, apart, shape_now, route_was, base_stays, out_linked, out_unlent, out_unlinked, new_linked, lent_on, lent_back, stays_back, stays_on, marked_stay, was_marked, same_ranges, route_stays, base_goes, out_stays, under_same, within_still, dies_now, left_listed, listed_now}
use Rattle.ca_rows.specs.Layout.{row_words}
use Rattle.ca_node.specs.Layout.{root_word}

module _ (z : Sizes) (s : State (Unit {0}) (View TreeView)) (r : R z s) (id : ℕ) (me : MyTree)
    (at : get_elem? s.views id ≡ some me.0)
    (new : ℕ) (x : Unlinking) (u : IsUnlinking z me new x)
    (hit : get_or s.words x.way.place.link 0 ≡ x.way.row) where
  abbrev d : View TreeView
  d = me.0

  abbrev f : IsTree z r.made s.words (map upper_of s.views)
  f = r.above

  abbrev role : ℕ → Role
  role = r.above.role

  abbrev last : StoreMap
  last = after r.above.history []

  abbrev shape : IsShape z s.words r.above.role (after r.above.history [])
  shape = r.above.shape

  abbrev place : Place
  place = x.way.place

  abbrev words' : List ℕ
  words' = set s.words x.way.place.link new

  abbrev role' : ℕ → Role
  role' = without_route r.above.role x.way.place x.way.row
      (get_or s.words (row_words * x.way.row + 1) 0)
      (get_or s.words (row_words * x.way.row + 2) 0) new

  shape' : IsShape z words' role' last
  shape' = shape_now z s r id me at new x u hit

  here : place_of (role x.way.row) ≡ some place
  here = hangs z s r id me at new x u hit

  -- what comes, and what goes
  abbrev ins : List ℕ
  ins = new ∷ []

  abbrev outs : List ℕ
  outs = gone_by x

  abbrev u' : TreeView
  u' = unlinked new x d.upper

  abbrev d' : View TreeView
  d' = (relinked me (taken_out (gone_by x) (given (new ∷ []) d.claims)) (unlinked new x d.upper)).0

  held_in : (row : ℕ) → IsIn row ins → (its : List ℕ) × (claim_of d.claims row ≡ some (Holds its))
  held_in row i = (x.its, ap (claim_of d.claims) (sym (in_one new row i)) ∙ u.held)

  in_unlinked : (row : ℕ) → IsIn row ins → ¬ IsLinked s.words row
  in_unlinked row i l = new_unlinked z s r id me at new x u hit
      (subst (IsLinked s.words) (sym (in_one new row i)) l)

  in_apart : (row : ℕ) → IsIn row ins → ¬ IsIn row outs
  in_apart row i o = in_unlinked row i (out_linked z s r id me at new x u hit row o)

  -- What becomes of each row.
  kind_by : (row : ℕ) → IsIn row ins ⊎ ¬ IsIn row ins → IsIn row outs ⊎ ¬ IsIn row outs → Change
  kind_by row (inl i) o = Comes
  kind_by row (inr n) (inl o) = Goes
  kind_by row (inr n) (inr m) = Stays

  kind : ℕ → Change
  kind row = kind_by row (has ins row) (has outs row)

  abbrev IsSo : ℕ → Change → Type 0
  IsSo = IsChange IsLinked IsLent IsNoted IsTree tree_lends z s r id d d' words' kind

  changed : (row : ℕ) (a : IsIn row ins ⊎ ¬ IsIn row ins) (b : IsIn row outs ⊎ ¬ IsIn row outs)
      → IsSo row (kind_by row a b)
  unfolding kind_by
  changed row (inl i) b = (
    subst (IsLinked words') (in_one new row i) (new_linked z s r id me at new x u hit),
    (λ l. let k = lent_back z s r id me at new x u hit row l in
        in_unlinked row i (by_range k.0 row k.1 k.2 k.3)),
    held_in row i,
    taken_else outs (given ins d.claims) row (in_apart row i) ∙ given_here ins d.claims row i,
  )
  changed row (inr n) (inl o) = (
    out_linked z s r id me at new x u hit row o,
    out_unlent z s r id me at new x u hit row o,
    out_unlinked z s r id me at new x u hit row o,
    taken_here outs (given ins d.claims) row o,
    u.is_pinned,
  )
  changed row (inr n) (inr m) = (
    stays_back z s r id me at new x u hit row n,
    stays_on z s r id me at new x u hit row m,
    lent_back z s r id me at new x u hit row,
    lent_on z s r id me at new x u hit row,
    taken_else outs (given ins d.claims) row m ∙ given_else ins d.claims row n,
  )

  changed_now : (c : ℕ) → IsSo c (kind c)
  unfolding kind
  changed_now c = changed c (has ins c) (has outs c)

  claims_in : (row : ℕ) (c : Claim) → claim_of (taken_out outs (given ins d.claims)) row ≡ some c
      → (0 < row) × (row ≤ z.rows)
  claims_in row c e = ⊎_elim
      (λ o. linked_range z s.words role last shape row
      (out_linked z s r id me at new x u hit row o))
      (λ m. ⊎_elim
      (λ i. let w = held z s r id me at new x u hit in
      subst (λ y. (0 < y) × (y ≤ z.rows)) (in_one new row i) (w.0, w.1))
      (λ n. (r.seat id d at).in_range row c
      (sym (taken_else outs (given ins d.claims) row m ∙ given_else ins d.claims row n) ∙ e))
      (has ins row))
      (has outs row)

  -- What seats remember: the route is dead for each that remembers it, and both bases are out of
  -- the tree.
  abbrev IsNew : ℕ → Type 0
  IsNew c = c ≡ new

  abbrev IsTheRoute : ℕ → Type 0
  IsTheRoute c = c ≡ x.way.row

  routes_go : (c : ℕ) (p : Place) (key : List ℕ) → role c ≡ Route p key → (role' c ≡ Route p key)
      ⊎ IsTheRoute c
  routes_go c p key e = dite (ℕ_discrete c x.way.row) (λ (same : c ≡ x.way.row). inr same)
      (λ (ne : c ≢ x.way.row). inl (route_stays z s r id me at new x u hit c p key e ne))

  dying_now : (c e : ℕ) → IsTheRoute c → IsUnder words' c e → IsUnder s.words c e
      × (row_at words' e ≡ row_at s.words e)
  dying_now c e same under = let w = under_same z s r id me at new x u hit e
      (subst (λ t. IsUnder words' t e) same under) in
      (subst (λ t. IsUnder s.words t e) (sym same) w.0, w.1)

  unnoted : (j : ℕ) (y : View TreeView) → get_elem? s.views j ≡ some y → (c : ℕ) → IsNew c
      → ¬ IsNoted s.words y.upper c
  unnoted j y there c same n = (held z s r id me at new x u hit).4 j y there
      (subst (IsNoted s.words y.upper) same n)

  note_keeps : (j : ℕ) (y : View TreeView) → get_elem? s.views j ≡ some y → (note : Note)
      → IsIn note y.upper.notes → IsTrue z.rows words' role' note
  note_keeps j y there note i = note_stays z s.words role last shape x.way.row place here new role'
      last shape' IsNew IsTheRoute routes_go dying_now
      (base_goes z s r id me at new x u hit) (out_stays z s r id me at new x u hit)
      (marked_stay z s r id me at new x u hit)
      y.upper (unnoted j y there) note (by_note note note.row i refl)
      ((knows_upper z s r j y there).notes note i)

  way_keeps : (j : ℕ) (y : View TreeView) → get_elem? s.views j ≡ some y → (way : Way)
      → IsIn way y.upper.ways
      → IsTrueWay z words' role' y.upper.since r.above.history way
  way_keeps j y there way i = let k = knows_upper z s r j y there in
      let before = starts_shorter f.history y.upper.since
      (further f.history y.upper.seen y.upper.since k.seen_first k.since_first) in
      way_stays z s.words role last shape x.way.row place here new role' last shape' IsNew
      IsTheRoute routes_go dying_now
      (base_goes z s r id me at new x u hit) (out_stays z s r id me at new x u hit)
      (marked_stay z s r id me at new x u hit)
      y.upper (unnoted j y there) r.above.history r.above.history (λ moment l. (l, refl))
      (λ w alive same. dies_now z s r id me at new x u hit y.upper.since before w alive same) way i
      (k.ways way i)

  notes_keep : (j : ℕ) (y : View TreeView) → get_elem? s.views j ≡ some y → (c : ℕ)
      → IsNoted words' y.upper c
      → IsNoted s.words y.upper c ⊎ (IsLinked words' c × (y.pin.pinned ≡ true))
  notes_keep j y there c n = ⊎_elim (λ o. inl o)
      (λ l. inr (l.0, (r.seat j y there).noted_pinned l.1.0 l.1.1))
      (notes_stay z s.words role last shape x.way.row place here new role' last shape' IsNew
      IsTheRoute routes_go dying_now
      (base_goes z s r id me at new x u hit) (out_stays z s r id me at new x u hit)
      (marked_stay z s r id me at new x u hit)
      y.upper (unnoted j y there) (r.above.ranged.ends y.upper.number) f.history
      (f.ranged.each j y.upper (at_map upper_of s.views j y there))
      (knows_upper z s r j y there).ways c n)

  -- A seat knows of ranges what it knew.
  ranging_still : (j : ℕ) (y : View TreeView) → get_elem? s.views j ≡ some y
      → IsRanging z words' role' (r.above.ranged.ends y.upper.number) y.upper.since r.above.history
      y.upper.number y.upper.ranges
  ranging_still j y there = ranges_stay z s.words role last shape x.way.row place here new role'
      last shape' IsNew IsTheRoute routes_go dying_now
      (base_goes z s r id me at new x u hit) (out_stays z s r id me at new x u hit)
      (marked_stay z s r id me at new x u hit)
      y.upper (unnoted j y there) (r.above.ranged.ends y.upper.number) f.history
      (f.ranged.each j y.upper (at_map upper_of s.views j y there)) f.history
      (λ moment l. (l, refl))
      (λ number now none c base m. let b = was_marked z s r id me at new x u hit c base.0
      base.1 m.0 in
      none c (base.0, b.0) (subst (λ its. IsMarkedBy its y.upper.number number) b.1 m))

  -- Runs stay as they are.
  runs_now : AreRuns (scene_of words' role') r.above.ranged.ends
  runs_now = let same = same_ranges z s r id me at new x u hit in
      runs_still (scene_of s.words role) (scene_of words' role') f.ranged.ends
      f.ranged.runs record {
        alike = record {
          active = active_on z s.words words' role role' same;
          was_active = active_back z s.words words' role role' same;
          begun = begun_on z s.words words' role role' same;
        };
        stay = λ pass number row now base m. let e = marked_stay z s r id me at new x u hit row
            base.0 pass number base.1 m now in (
              (base.0, e),
              ap span_of e ∙ sym (ap span_of base.1),
              ap mark_of (base_stays z s r id me at new x u hit row base.0 base.1),
            );
        begun = λ pass number row base m. let b = was_marked z s r id me at new x u hit row base.0
            base.1 m.0 in
            begun_on z s.words words' role role' same pass number
            (f.ranged.runs.begun pass number row (base.0, b.0)
            (subst (λ its. IsMarkedBy its pass number) b.1 m));
        were = λ pass number row base m now. let b = was_marked z s r id me at new x u hit row
            base.0 base.1 m.0 in
            ((base.0, b.0), subst (λ its. IsMarkedBy its pass number) b.1 m);
      }

  -- What hung there is no base, so no join had it.
  none_under : IsBaseRow (row_at s.words x.way.row) → (route attempt : ℕ)
      → IsMarkedFor (row_at s.words x.way.row) route attempt
      → ¬ IsUnderWay s.words route attempt
  none_under two route attempt m now = let three = route_form z s r id me at new x u hit in
      omega arith

  mine : get_elem? (map upper_of s.views) id ≡ some d.upper
  mine = at_map upper_of s.views id d at

  -- A seat knows what it knew.
  knows_still : (j : ℕ) (y : View TreeView) → get_elem? s.views j ≡ some y
      → Knows z r.made words' role' (set (map upper_of s.views) id u') r.above.history j y.upper
  knows_still j y there = let k = relisted z r.made s.words role (map upper_of s.views)
      (set (map upper_of s.views) id u') f.history j y.upper
      (numbered (map upper_of s.views) id d.upper u' mine (λ _. refl))
      (knows_upper z s r j y there) in record {
        made_before = k.made_before;
        alone = k.alone;
        seen_first = k.seen_first;
        since_first = k.since_first;
        lawful = k.lawful;
        past = k.past;
        notes = note_keeps j y there;
        links = k.links;
        ways = way_keeps j y there;
        way_links = k.way_links;
        one_place = k.one_place;
        joining = joining_keeps z s.words role last shape x.way.row place here new none_under
            y.upper k.links
            (knows_upper z s r j y there).notes (knows_upper z s r j y there).joining;
        ended = k.ended;
      }

  own_knows : Knows z r.made words' role' (set (map upper_of s.views) id u') r.above.history id u'
  own_knows = let k = knows_still id d at in record {
    made_before = k.made_before;
    alone = k.alone;
    seen_first = k.seen_first;
    since_first = k.since_first;
    lawful = k.lawful;
    past = k.past;
    notes = λ note i. absurd (in_nothing note [] refl i);
    links = λ note i. absurd (in_nothing note [] refl i);
    ways = λ way i. absurd (in_nothing way [] refl i);
    way_links = λ way i. absurd (in_nothing way [] refl i);
    one_place = λ a b i. absurd (in_nothing a [] refl i);
    joining = nothing_joining words';
    ended = k.ended;
  }

  own_ranging : IsRanging z words' role' (r.above.ranged.ends u'.number) u'.since r.above.history
      u'.number u'.ranges
  own_ranging = let k = ranging_still id d at in record {
    over = k.over;
    borders = k.borders;
    own = λ pass. so_turned z words' role' (f.ranged.ends d.upper.number) d.upper.since f.history
        d.upper.number d.upper.ranges.borders d.upper.ranges.own
        (own_behind (attempt_by x) d.upper.ranges.own)
        (behind_turns (attempt_by x) d.upper.ranges.own) (k.own pass);
    sequence = k.sequence;
    run = k.run;
  }

  run_was : (row : ℕ) → IsOfOwnRun words' u' row → IsOfOwnRun words' d.upper row
  run_was row o = (
    o.0,
    o.1,
    (
      o.2.0,
      o.2.1,
      marking_back d.upper.ranges.own (own_behind (attempt_by x) d.upper.ranges.own)
          (behind_turns (attempt_by x) d.upper.ranges.own) o.2.0 o.2.1 o.2.2,
      o.2.3,
    ),
    o.3,
    o.4,
  )

  -- If the pass is the only one, the attempt was its own, and no other one was under way.
  out_now : role' x.way.row ≡ Out
  out_now = let k = knows_upper z s r id d at in (dies_now z s r id me at new x u hit d.upper.since
      (starts_shorter f.history d.upper.since
      (further f.history d.upper.seen d.upper.since k.seen_first k.since_first)) x.way
      (is_there z s r id me at new x u hit) refl).1.is_out

  lone_now : r.made ≤ 1 → IsLone words' role' d.upper.number (own_behind (attempt_by x) d.upper.ranges.own) [] []
  lone_now few = let l = f.lone id d.upper mine few u.is_pass in
      let own = l.secured x.way.row place (route_key x.way.its) x.attempt
      (is_there z s r id me at new x u hit) (secured_now z s r id me at new x u hit) in
      record {
        prepared = λ c p key attempt e now. ap (own_behind (attempt_by x))
            (l.prepared c p key attempt (route_was z s r id me at new x u hit c p key e)
            (sym (same_word c) ∙ now));
        secured = λ c p key attempt e now.
            let other = l.secured c p key attempt (route_was z s r id me at new x u hit c p key e)
            (sym (same_word c) ∙ now) in
            let same = same_secured d.upper.ranges.own (attempt_by x) (attempt_of c attempt)
            own other in
            let gone : Out ≡ Route p key =
            sym out_now ∙ (ap (λ (y : Attempt). role' y.route) same ∙ e) in absurd cc;
        still = λ y is. let c : Quiet ≡ Joining y = sym
            (ap (own_behind (attempt_by x)) own ∙ behind_own (attempt_by x)) ∙ is in absurd cc;
        alive = λ way i. absurd (in_nothing way [] refl i);
        latest = λ y i. absurd (in_nothing y [] refl i);
        active = λ range border is. let c : Quiet ≡ Marking range border = sym
            (ap (own_behind (attempt_by x)) own ∙ behind_own (attempt_by x)) ∙ is in absurd cc;
      }
    where
      same_word : (c : ℕ) → get_or words' (row_words * c + 3) 0 ≡ get_or s.words
          (row_words * c + 3) 0
      same_word c = relinked_joins z s.words role last shape x.way.row place here new c

  -- No other control word changes.
  control : (i : ℕ) → i < row_words → i ≢ root_word → get_or words' i 0 ≡ get_or s.words i 0
  control i l ne = relinked_else z s.words role last shape x.way.row place here new i
      (λ e. ⊎_elim (λ (t : x.way.place.link ≡ root_word). ne (omega arith))
      (λ t. let lo = t.0 in omega arith)
      (link_range z s.words role last shape x.way.place.link
      (route_at z s.words role last shape x.way.row place (route_key x.way.its)
      (is_there z s r id me at new x u hit)).is_link))

  tree_now : IsTree z r.made words' (set (map upper_of s.views) id u')
  tree_now = record {
    usable = f.usable;
    history = f.history;
    edits = f.edits;
    by_passes = f.by_passes;
    keypos = control 131 (omega arith) (λ e. omega arith) ∙ f.keypos;
    leaf = control 132 (omega arith) (λ e. omega arith) ∙ f.leaf;
    levels = control 133 (omega arith) (λ e. omega arith) ∙ f.levels;
    role = role';
    shape = shape';
    ranged = record {
      ends = f.ranged.ends;
      runs = runs_now;
      made_before = λ pass number now. f.ranged.made_before pass number
          (active_back z s.words words' role role' (same_ranges z s r id me at new x u hit) pass
          number now);
      each = all_seats (λ j v. IsRanging z words' role' (f.ranged.ends v.number) v.since f.history
          v.number v.ranges) (map upper_of s.views) id u'
          own_ranging
          (λ j v n there. let y = of_map upper_of s.views j v there in
          subst (λ (w : TreeView). IsRanging z words' role' (f.ranged.ends w.number) w.since
          f.history w.number w.ranges) y.2 (ranging_still j y.0 y.1));
    };
    joined = record {
      secured = λ c p key attempt e now. joined_keeps z s.words role last shape x.way.row place here
          new none_under f.joined c p key attempt
          (route_was z s r id me at new x u hit c p key e) now;
      states = λ c p key e. states_keep z s.words role last shape x.way.row place here new
          none_under f.joined c p key
          (route_was z s r id me at new x u hit c p key e);
    };
    lone = lone_by_one z r.made s.words words' role role' (map upper_of s.views) f.history
        f.each_seat id d.upper u' mine u.is_pass lone_now;
    each_seat = all_seats (Knows z r.made words' role' (set (map upper_of s.views) id u') f.history)
        (map upper_of s.views) id u' own_knows
        (λ j v n there. let y = of_map upper_of s.views j v there in
        subst (Knows z r.made words' role' (set (map upper_of s.views) id u') f.history j) y.2
        (knows_still j y.0 y.1));
    inventory = unlinked_inventory new x f.inventory;
    listed = listed_now z s r id me at new x u hit;
    at_first = λ (e : r.made ≡ 0). let lo = u.is_pass in let hi =
        (knows_upper z s r id d at).made_before in absurd (omega arith);
    only_one = known_by_one z r.made s.words words' role role' (map upper_of s.views) f.history f.each_seat
        id d.upper u' (unlinked_inventory new x f.inventory) mine
        u.is_pass (λ few. let was = f.only_one id d.upper mine few u.is_pass in record {
          whole = ap (unlinked_inventory new x) was.whole;
          shallow = within_still z s r id me at new x u hit d.upper.splits was.shallow;
          few = let left = left_listed z s r id me at new x u hit in
              let less = but_all_shorter row_of_base (x.left.row ∷ x.right.row ∷ []) d.upper.inventory.bases (x.left.row, left.0)
              (subst (λ (j : Inventory). IsIn (x.left.row, left.0) j.bases) (sym was.whole) left.1) (0, refl) in
              let most = was.few in omega arith;
          rows = let most = was.rows in
              let less = but_all_shorter row_itself (gone_by x) d.upper.inventory.rows x.way.row
              (subst (λ (j : Inventory). IsIn x.way.row j.rows) (sym was.whole)
              (f.listed.linked x.way.row (out_linked z s r id me at new x u hit x.way.row (0, refl)))) (0, refl) in (
                omega arith,
                λ none.
                    let m = most.1 (λ row l. none row (lent_on z s r id me at new x u hit row l)) in omega arith,
              );
        });
  }

  -- A row that isn't linked keeps its words.
  unlinked_keeps : (c k : ℕ) → 0 < c → ¬ IsLinked s.words c → k < row_words
      → get_or words' (row_words * c + k) 0 ≡ get_or s.words (row_words * c + k) 0
  unlinked_keeps c k lo n l = relinked_keeps z s.words role last shape x.way.row place here new c lo
      (out_no_route role c (unlinked_out z s.words role last shape c n)) k l

  -- Where the link names the route, the exchange puts the joined base in its place.
  pub unlink_step : R z record { words = words'; homes = s.homes; views = set s.views id d' }
  unlink_step = relinks IsLinked IsLent IsNoted IsTree tree_lends z s r id d d' words' kind record {
    at = at;
    same_sizes = refl;
    same_made = refl;
    same_stage = refl;
    same_lost = refl;
    same_pin = refl;
    wide = relinked_wide z s.words role last shape x.way.row place here new ∙ sym r.wide;
    low = λ i l. control i (omega arith) (λ e. omega arith);
    announcements = relinked_told z s.words role last shape x.way.row place here new;
    unlinked_rows = λ c k lo hi n l. unlinked_keeps c k lo n l;
    changes = λ c _ _. changed_now c;
    in_range = claims_in;
    notes = λ j y there c n. ⊎_elim
        (λ (t : (j ≡ id) × (d' ≡ y)). ⊎_elim
        (λ (w : IsNoted s.words d.upper c). inl (d, ap (get_elem? s.views) t.0 ∙ at, w))
        (λ (l : IsLinked words' c × (d.pin.pinned ≡ true)). inr
        (l.0, ap (λ (w : View TreeView). w.pin.pinned) (sym t.1) ∙ l.1))
        (notes_keep id d at c
        (noted_alike words' d.upper u' (λ y m. absurd (in_nothing y [] refl m))
        (λ y m. absurd (in_nothing y [] refl m))
        (λ y m. m) run_was (λ y m. m) c
        (subst (λ (w : View TreeView). IsNoted words' w.upper c) (sym t.1) n))))
        (λ (t : (j ≢ id) × (get_elem? s.views j ≡ some y)). ⊎_elim (λ w. inl (y, t.1, w))
        (λ l. inr l) (notes_keep j y t.1 c n))
        (at_set s.views id j d' y there);
    above = subst (IsTree z r.made words') (sym (map-set upper_of s.views id d')) tree_now;
  }

  pub unlinked_now : IsUnlinked new x me (
    (relinked me (taken_out (gone_by x) (given (new ∷ []) d.claims)) (unlinked new x d.upper)).0,
    me.1,
  )
  unlinked_now = record {
    now = refl;
    unclaimed = λ row i. unclaimed_row z s r id d at row
        (out_linked z s r id me at new x u hit row i) (out_unlent z s r id me at new x u hit row i);
    apart = apart z s r id me at new x u hit;
  }

module _ (z : Sizes) where
  -- Where the link doesn't name the route any more that is dead, and so the pass isn't the only
  -- one.
  not_alone : (s : State (Unit {0}) (View TreeView)) (r : R z s) (id : ℕ) (me : MyTree)
      → get_elem? s.views id ≡ some me.0 → (way : Way)
      → IsIn way me.0.upper.ways → get_or s.words way.place.link 0 ≢ way.row → r.made ≤ 1
      → ¬ (0 < me.0.upper.number)
  not_alone s r id me at way i miss few pass = miss
      (route_at z s.words r.above.role (after r.above.history []) r.above.shape way.row way.place
      (route_key way.its) ((r.above.lone id me.0.upper (at_map upper_of s.views id me.0 at) few
      pass).alive way i)).under

  -- An exchange after which the seat counts one more that was lost, and remembers no base and no
  -- route.
  unlinking_lost : (s : State (Unit {0}) (View TreeView)) (r : R z s) (id : ℕ) (me : MyTree)
      → get_elem? s.views id ≡ some me.0 → (x : Unlinking)
      → IsIn x.way me.0.upper.ways → get_or s.words x.way.place.link 0 ≢ x.way.row → (i : ℕ)
      → R z record {
        words = set s.words i (get_or s.words i 0);
        homes = s.homes;
        views = set s.views id (record me.0 { upper = one_unlinking_lost x me.0.upper });
      }
  unlinking_lost s r id me at x remembered miss i = let f = r.above in let us : List TreeView =
      map upper_of s.views in let d = me.0 in
      let first = at_map upper_of s.views id d at in let u' : TreeView =
      one_unlinking_lost x d.upper in
      let turn = behind_turns (attempt_by x) d.upper.ranges.own in let own' : Ranging =
      own_behind (attempt_by x) d.upper.ranges.own in
      let k = relisted z r.made s.words f.role us (set us id u') f.history id d.upper
      (numbered us id d.upper u' first (λ _. refl))
      (knows_upper z s r id d at) in
      looked z s r i id d u' at (λ row n. inl (noted_alike s.words d.upper u'
      (λ y m. absurd (in_nothing y [] refl m)) (λ y m. absurd (in_nothing y [] refl m)) (λ y m. m)
      (λ c o. (
        o.0,
        o.1,
        (
          o.2.0,
          o.2.1,
          marking_back d.upper.ranges.own own' turn o.2.0 o.2.1 o.2.2,
          o.2.3,
        ),
        o.3,
        o.4,
      )) (λ y m. m) row n))
      (seat_changed z r.made s.words us id d.upper u' f first (λ _. refl) (λ _. refl)
      (λ few pass l. absurd (not_alone s r id me at x.way remembered miss few pass)) record {
        made_before = k.made_before;
        alone = k.alone;
        seen_first = k.seen_first;
        since_first = k.since_first;
        lawful = k.lawful;
        past = k.past;
        notes = λ note i. absurd (in_nothing note [] refl i);
        links = λ note i. absurd (in_nothing note [] refl i);
        ways = λ way i. absurd (in_nothing way [] refl i);
        way_links = λ way i. absurd (in_nothing way [] refl i);
        one_place = λ a b i. absurd (in_nothing a [] refl i);
        joining = nothing_joining s.words;
        ended = k.ended;
      }
      (let known = f.ranged.each id d.upper first in record {
        over = known.over;
        borders = known.borders;
        own = λ pass. so_turned z s.words f.role (f.ranged.ends d.upper.number) d.upper.since
            f.history d.upper.number d.upper.ranges.borders
            d.upper.ranges.own own' turn (known.own pass);
        sequence = known.sequence;
        run = known.run;
      }))

  -- The exchange of a link that unlinks a route.
  unlinks : (slots id : ℕ) (me : MyTree) (new : ℕ) (x : Unlinking) → me.0.sizes ≡ z
      → IsUnlinking z me new x
      → Allows (R z) slots id me x.way.place.link (λ n. either (eqb n x.way.row) new n)
      (Relinks MaySwap (UnlinksRoute x) (step slots x.way.place.link x.way.row new none) me)
  unlinks slots id me new x sized u s r _ at _ = let n : ℕ = get_or s.words x.way.place.link 0 in
      let d = me.0 in dite (ℕ_discrete n x.way.row)
      (λ (hit : n ≡ x.way.row). let d' : View TreeView =
      (relinked me (taken_out (gone_by x) (given (new ∷ []) d.claims))
      (unlinked new x d.upper)).0 in
      let won : UnlinksRoute x (step slots x.way.place.link x.way.row new none) me n (d', me.1) =
      ((λ _. unlinked_now z s r id me at new x u hit), λ miss. absurd (miss hit)) in (
        d',
        keeps,
        tt,
        subst (λ (y : ℕ). R z (stepped s x.way.place.link y id me.1 d' keeps))
            (sym (ap (λ b. either b new n) (eq-eqb n x.way.row hit)))
            (unlink_step z s r id me at new x u hit),
        (
          (λ _. refl),
          (λ miss. absurd (miss hit)),
          inr
              (inl (inr (x, (u.remembered, u.secured, u.counted, refl, refl), won))),
          won,
        ),
      ))
      (λ miss. let lost : View TreeView = record d { upper = one_unlinking_lost x d.upper } in
      let several : ¬ IsAlone me.0.sizes me.0.upper = λ alone. let few : z.passes ≡ 1 =
      subst (λ (y : Sizes). y.passes ≡ 1) sized alone.0 in
      let within = r.within in not_alone s r id me at x.way u.remembered miss
      (omega (arith, few, within)) alone.1 in
      let missed : UnlinksRoute x (step slots x.way.place.link x.way.row new none) me n
      (lost, me.1) = ((λ hit. absurd (miss hit)), λ _. (refl, several)) in (
        lost,
        keeps,
        tt,
        subst (λ (y : ℕ). R z (stepped s x.way.place.link y id me.1 lost keeps))
            (sym (ap (λ b. either b new n) (ne_eqb n x.way.row miss)))
            (unlinking_lost s r id me at x u.remembered miss x.way.place.link),
        (
          (λ hit. absurd (miss hit)),
          (λ _. refl),
          inr
              (inl (inr (x, (u.remembered, u.secured, u.counted, refl, refl), missed))),
          missed,
        ),
      ))

  -- The same, where the route and the link have other names.
  pub unlinks_from : (slots id : ℕ) (me : MyTree) (link route new : ℕ) (x : Unlinking)
      → me.0.sizes ≡ z → IsUnlinking z me new x → x.way.row ≡ route
      → x.way.place.link ≡ link
      → Allows (R z) slots id me link (λ n. either (eqb n route) new n)
      (Relinks MaySwap (UnlinksRoute x) (step slots link route new none) me)
  unlinks_from slots id me link route new x sized u same here = subst
      (λ (i : ℕ). Allows (R z) slots id me i (λ n. either (eqb n route) new n)
      (Relinks MaySwap (UnlinksRoute x) (step slots i route new none) me)) here (subst
      (λ (o : ℕ). Allows (R z) slots id me x.way.place.link (λ n. either (eqb n o) new n)
      (Relinks MaySwap (UnlinksRoute x) (step slots x.way.place.link o new none) me)) same
      (unlinks slots id me new x sized u))

-- The two ways that the exchange goes.
pub has_unlinked : (n link route new : ℕ) (x : Unlinking) (m m' : MyTree) (slots : ℕ)
    → UnlinksRoute x (step slots link route new none) m n m'
    → HasUnlinked (eqb n route) new x m m'
has_unlinked n link route new x m m' slots told = dite (ℕ_discrete n route)
    (λ hit. subst (λ (b : Bool). HasUnlinked b new x m m') (sym (eq-eqb n route hit)) (told.0 hit))
    (λ miss. subst (λ (b : Bool). HasUnlinked b new x m m') (sym (ne_eqb n route miss))
    (told.1 miss).0)

-- It isn't lost where the pass is the only one.
pub lost_unlinking : (n link route new : ℕ) (x : Unlinking) (m m' : MyTree) (slots : ℕ)
    → UnlinksRoute x (step slots link route new none) m n m'
    → eqb n route ≡ false → ¬ IsAlone m.0.sizes m.0.upper
lost_unlinking n link route new x m m' slots told lost =
    (told.1 (λ hit. let e : true ≡ false = sym (eq-eqb n route hit) ∙ lost in absurd cc)).1
