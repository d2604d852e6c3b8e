-- What seats remember of the tree, once a link of it was exchanged.
use Rattle.std.proofs.Common.{◌≡◌, ◌⊎◌, ℕ, ◌+◌, ◌*◌, ◌<◌, ◌≤◌, List, length, get_or, set, refl, sym, ap, ◌∙◌, subst, inl, inr, ⊎_elim, arith}
use mathlib.Core.Option.{some, some-ne-none}
use Rattle.ca_model.specs.History.{History, state}
use Rattle.ca_model.specs.StoreMap.{StoreMap}
use Rattle.ca_rows.specs.declared.sizes.Sizes.{Sizes}
use Rattle.ca_rows.specs.Words.{result_of}
use Rattle.ca_runs.specs.Runs.{Ends}
use Rattle.ca_node.specs.Attempts.{IsUnderWay}
use Rattle.ca_node.specs.DeadStays.{IsOutStill, dead_stays, under_dead}
use Rattle.ca_node.specs.Hindsight.{IsLeftOver, IsDead}
use Rattle.ca_node.specs.Laws.{under_placed}
use Rattle.ca_node.specs.Links.{IsIn, IsUnder, IsActive, IsLinked, by_route, by_base, IsOfOwnRun, IsNoted, by_note, by_item, by_way, by_link, by_link_item, by_border, by_run, by_run_item, by_shown, by_shown_item}
use Rattle.ca_node.specs.Place.{Place, IsLinkOf}
use Rattle.ca_node.specs.Ranging.{IsRanging}
use Rattle.ca_node.specs.RangesStay.{own_note, own_run_back, begun_on, active_back, decided_back, ranging_stays}
use Rattle.ca_node.specs.Reached.{led_to, base_at, route_at, placed_linked}
use Rattle.ca_node.specs.Row.{row_at, form, IsObjectRow, IsBaseRow, items, IsMarkedBy, IsMarkedFor, route_key}
use Rattle.ca_node.specs.Scenes.{IsBase}
use Rattle.ca_node.specs.Shape.{Role, Out, Base, Route, place_of, IsShape}
use Rattle.ca_node.specs.Stays.{map_same}
use Rattle.ca_node.specs.Tree.{IsAlive, IsLinkOfView, IsTrue, IsTrueWay}
use Rattle.ca_node.specs.TreeView.{Note, Way, TreeView}
use Rattle.ca_node.proofs.Relinked.{IsRoute, base_no_route, out_no_route, relinked_ranges, relinked_keeps, relinked_row, relinked_object, relinked_border, relinked_routes}
use Rattle.ca_rows.specs.Layout.{row_words}
use Rattle.ca_node.specs.Layout.{root_word}

-- A base that was shown hangs where it hung, where its link names it still, and no join under way has it: what the link of a route names is in the tree, or
-- was left over by the join that is secured.
pub shown_hangs : (z : Sizes) (words : List ℕ) (role : ℕ → Role) (m : StoreMap) → IsShape z words role m → (u : TreeView) (history : History)
    → ((way : Way) → IsIn way u.ways → IsTrueWay z words role u.since history way) → (note : Note) → IsTrue z.rows words role note
    → IsLinkOfView u note.place.link → get_or words note.place.link 0 ≡ note.row
    → ((route attempt : ℕ) → IsMarkedFor note.its route attempt → ¬ IsUnderWay words route attempt) → role note.row ≡ Base note.place
shown_hangs z words role m shape u history ways note t link hit free = ⊎_elim (λ (e : role note.row ≡ Base note.place). e)
    (λ (out : role note.row ≡ Out). absurd (⊎_elim
    (λ (e : note.place.link ≡ root_word). in_tree (led_to words role root_word _ _ shape.top) out
    (ap (λ (i : ℕ). place_of (role (get_or words i 0))) e ∙ shape.top.hangs))
    (λ (w : (way : Way) × IsIn way u.ways × IsLinkOf way.row note.place.link). let under : IsUnder words w.0.row note.row = ⊎_elim
    (λ (e : note.place.link ≡ row_words * w.0.row + 1). inl (ap (λ i. get_or words i 0) (sym e) ∙ hit))
    (λ (e : note.place.link ≡ row_words * w.0.row + 2). inr (ap (λ i. get_or words i 0) (sym e) ∙ hit)) w.2 in ⊎_elim
    (λ (e : IsAlive role w.0). let p = under_placed z words role m shape w.0.row note.row w.0.place (route_key w.0.its) e under in
    some_row_out p.0 out p.1)
    (λ (d : (at : ℕ) × IsDead z words role u.since history w.0 at). let left = (under_dead z words role u.since history w.0 d.0 d.1 note.row under).1 in
    free w.0.row d.1.attempt (subst (λ its. IsMarkedFor its w.0.row d.1.attempt) t.spells left.marked) (inr d.1.secured))
    (ways w.0 w.1).stands)
    link))
    t.stands
  where
    some_row_out : (place : Place) → role note.row ≡ Out → place_of (role note.row) ≡ some place → ⊥
    some_row_out place out is = some-ne-none place (sym is ∙ ap place_of out)

    in_tree : (place : Place) → role note.row ≡ Out → place_of (role (get_or words note.place.link 0)) ≡ some place → ⊥
    in_tree place out is = some_row_out place out (sym (ap (λ c. place_of (role c)) hit) ∙ is)

-- A row that is nothing the root link reaches is nothing in the tree.
pub unlinked_out : (z : Sizes) (words : List ℕ) (role : ℕ → Role) (m : StoreMap)
    → IsShape z words role m → (row : ℕ) → ¬ IsLinked words row
    → role row ≡ Out
unlinked_out z words role m shape row n = by (role row) refl
  where
    by : (is : Role) → role row ≡ is → role row ≡ Out
    by Out e = e
    by (Base place) e = absurd (n (placed_linked z words role m shape row place (ap place_of e)))
    by (Route place key) e =
        absurd (n (placed_linked z words role m shape row place (ap place_of e)))

-- The link of what hangs there is exchanged, after which the rows have other roles: a route stays, or is unlinked, whose links and what they name stay as they
-- were, a base stays or goes, and what is nothing stays so, but for rows that come.
module _ (z : Sizes) (words : List ℕ) (role : ℕ → Role) (m : StoreMap)
    (shape : IsShape z words role m) (old : ℕ) (place : Place)
    (is : place_of (role old) ≡ some place) (row : ℕ) (role' : ℕ → Role) (n : StoreMap)
    (shape' : IsShape z (set words place.link row) role' n)
    (comes dies : ℕ → Type 0)
    (routes_stay : (c : ℕ) (p : Place) (key : List ℕ) → role c ≡ Route p key
    → (role' c ≡ Route p key) ⊎ dies c)
    (dying : (c d : ℕ) → dies c → IsUnder (set words place.link row) c d
    → IsUnder words c d × (row_at (set words place.link row) d ≡ row_at words d))
    (bases_stay : (c : ℕ) (p : Place) → role c ≡ Base p → (role' c ≡ Base p) ⊎ (role' c ≡ Out))
    (outs_stay : (c : ℕ) → role c ≡ Out → ¬ comes c → role' c ≡ Out)
    (marked_stay : (c : ℕ) (p : Place) (pass number : ℕ) → role c ≡ Base p
    → IsMarkedBy (row_at words c) pass number → IsActive words pass number → role' c ≡ Base p) where
  abbrev words' : List ℕ
  words' = set words place.link row

  abbrev same_ranges : (pass : ℕ) → 0 < pass → pass ≤ 64
      → result_of (set words place.link row) pass ≡ result_of words pass
  same_ranges = relinked_ranges z words role m shape old place is row

  -- What a seat remembers that has no note on a row that comes.
  module _ (u : TreeView) (unnoted : (c : ℕ) → comes c → ¬ IsNoted words u c) where
    -- A note of it says what is so still.
    pub note_stays : (note : Note) → IsNoted words u note.row → IsTrue z.rows words role note
        → IsTrue z.rows (set words place.link row) role' note
    note_stays note noted t = record {
      some_row = t.some_row;
      in_range = t.in_range;
      spells = relinked_row z words role m shape old place is row note.row t.some_row t.in_range
          no_route ∙ t.spells;
      named = λ b r j. let o = t.named b r j in
          (o.0, o.1, subst IsObjectRow (sym (object_stays b r j)) o.2);
      objects_are = λ b. map_same (λ r. row_at words' r)
          (λ r. row_at words r) (items note.its) (object_stays b) ∙ t.objects_are b;
      stands = ⊎_elim
          (λ (e : role note.row ≡ Base note.place). bases_stay note.row note.place e)
          (λ (e : role note.row ≡ Out). inr (outs_stay note.row e
          (λ c. unnoted note.row c noted)))
          t.stands;
      marks = λ pass number k. let was = t.marks pass number k in (
        begun_on z words words' role role' same_ranges pass number was.0,
        λ now. let before = active_back z words words' role role' same_ranges pass number now in
            marked_stay note.row note.place pass number (was.1 before)
            (subst (λ its. IsMarkedBy its pass number) (sym t.spells) k) before,
      );
    }
      where
        no_route : ¬ IsRoute role note.row
        no_route = ⊎_elim
            (λ (e : role note.row ≡ Base note.place). base_no_route role note.row note.place e)
            (λ (e : role note.row ≡ Out). out_no_route role note.row e) t.stands

        object_stays : IsBaseRow note.its → (r : ℕ) → IsIn r (items note.its)
            → row_at words' r ≡ row_at words r
        object_stays b r j = let o = t.named b r j in
            relinked_object z words role m shape old place is row r o.0 o.1 o.2.0

    -- A base that was left over is out still: no row comes that has a note.
    left_stays : (way : Way) → IsIn way u.ways → (c : ℕ) → IsUnder words way.row c → (map : StoreMap) (attempt : ℕ) (p : Place)
        → IsLeftOver z words role map way.row attempt p c → IsOutStill words (set words place.link row) role' c
    left_stays way i c under map attempt p left = record {
      is_out = outs_stay c left.is_out (λ x. unnoted c x (by_link way c i under));
      same = relinked_row z words role m shape old place is row c left.some_row left.in_range (out_no_route role c left.is_out);
      objects = λ r j. let o = left.are_objects r j in relinked_object z words role m shape old place is row r o.0 o.1 o.2.0;
    }

    -- A route that it remembers is as it was, in a history that has the states that there were.
    pub way_stays : (history history' : History)
        → ((at : ℕ) → at ≤ length history → (at ≤ length history') × (state history' at ≡ state history at))
        → ((way : Way) → IsAlive role way → dies way.row → (at : ℕ) × IsDead z (set words place.link row) role' u.since history' way at)
        → (way : Way) → IsIn way u.ways → IsTrueWay z words role u.since history way
        → IsTrueWay z (set words place.link row) role' u.since history' way
    way_stays history history' longer dead way i t = record {
      some_row = t.some_row;
      is_route = t.is_route;
      in_range = t.in_range;
      stands = ⊎_elim
          (λ (e : IsAlive role way). ⊎_elim (λ stays. inl stays) (λ d. inr (dead way e d)) (routes_stay way.row way.place (route_key way.its) e))
          (λ (d : (at : ℕ) × IsDead z words role u.since history way at).
          inr (
            d.0,
            dead_stays z words words' role role' u.since history history' way d.0
                (outs_stay way.row d.1.is_out (λ x. unnoted way.row x (by_way way way.row i refl)))
                (relinked_keeps z words role m shape old place is row way.row t.some_row (out_no_route role way.row d.1.is_out))
                (left_stays way i) (longer d.0) d.1,
          ))
          t.stands;
      spells = λ index fixed. relinked_routes z words role m shape old place is row way.row t.some_row
          index fixed.0 fixed.1 fixed.2 fixed.3 ∙ t.spells index fixed;
    }

    -- What a link of such a route names is linked, or was named by it, and has the words that it had.
    under_linked : (history : History) → ((way : Way) → IsIn way u.ways → IsTrueWay z words role u.since history way) → (way : Way)
        → IsIn way u.ways → (c : ℕ) → IsUnder (set words place.link row) way.row c
        → IsLinked (set words place.link row) c ⊎ (IsUnder words way.row c × (row_at (set words place.link row) c ≡ row_at words c))
    under_linked history ways way i c under = ⊎_elim
        (λ (e : IsAlive role way). ⊎_elim
        (λ (e' : IsAlive role' way). inl (by_route way.row c (placed_linked z words' role' n shape' way.row way.place (ap place_of e'))
        (route_at z words' role' n shape' way.row way.place (route_key way.its) e').is_route under))
        (λ d. inr (dying way.row c d under))
        (routes_stay way.row way.place (route_key way.its) e))
        (λ (d : (at : ℕ) × IsDead z words role u.since history way at).
        let same = relinked_keeps z words role m shape old place is row way.row (ways way i).some_row
        (out_no_route role way.row d.1.is_out) in
        let before : IsUnder words way.row c = ⊎_elim (λ x. inl (sym (same 1 (omega arith)) ∙ x)) (λ x. inr (sym (same 2 (omega arith)) ∙ x)) under in
        inr (before, (left_stays way i c before _ _ _ (under_dead z words role u.since history way d.0 d.1 c before).1).same))
        (ways way i).stands

    -- What it knows of ranges.
    module _ (ends : Ends) (history : History)
        (known : IsRanging z words role ends u.since history u.number u.ranges) where
      -- A base of the run of its own range has the words that it had.
      run_its : (c : ℕ) → IsOfOwnRun words u c → row_at (set words place.link row) c ≡ row_at words c
      run_its c o = let n = own_note z words role ends history u known c o in
          let stays : row_at words' n.0.row ≡ row_at words n.0.row =
          (note_stays n.0 (subst (IsNoted words u) (sym n.2) (by_run c o)) n.1).spells ∙ sym n.1.spells in
          ap (row_at words') (sym n.2) ∙ (stays ∙ ap (row_at words) n.2)

      run_back : (c : ℕ) → IsOfOwnRun (set words place.link row) u c → IsOfOwnRun words u c
      run_back = own_run_back words words' u
          (decided_back z words words' role role' same_ranges u.number) run_its

      -- It goes on to know them, where no base is marked for its own range that has none yet, and the
      -- history is longer.
      pub ranges_stay : (history' : History)
          → ((at : ℕ) → at ≤ length history
          → (at ≤ length history') × (state history' at ≡ state history at))
          → ((number : ℕ) → IsActive words u.number number
          → ((c : ℕ) → IsBase role c → ¬ IsMarkedBy (row_at words c) u.number number)
          → (c : ℕ) → IsBase role' c
          → ¬ IsMarkedBy (row_at (set words place.link row) c) u.number number)
          → IsRanging z (set words place.link row) role' ends u.since history' u.number u.ranges
      ranges_stay history' longer unmarked =
          ranging_stays z words words' role role' same_ranges ends u.since history history'
          u.number u.ranges
          (λ border i. let b = known.borders border i in
          relinked_border z words role m shape old place is row border.row b.some_row b.in_range
          (ap form b.spells ∙ b.is_border))
          unmarked
          (λ number last note marking decided on t.
          note_stays note (by_run note.row (number, last, marking, decided, on)) t)
          longer
          (λ number now t. let b = base_at z words role m shape t.0 t.1.0 t.1.1 in (
            t.0,
            (t.1.0, marked_stay t.0 t.1.0 u.number number t.1.1 t.2 now),
            subst (λ its. IsMarkedBy its u.number number)
                (sym (relinked_row z words role m shape old place is row t.0 b.some_row b.in_range
                (base_no_route role t.0 t.1.0 t.1.1))) t.2,
          ))
          (λ note i t. note_stays note (by_shown note note.row i refl) t) known

      -- What it has a note on now is what it had one on, or is linked; and then it had some note.
      pub notes_stay : ((way : Way) → IsIn way u.ways → IsTrueWay z words role u.since history way) → (c : ℕ)
          → IsNoted (set words place.link row) u c
          → IsNoted words u c ⊎ (IsLinked (set words place.link row) c
          × ((d : ℕ) × IsNoted words u d))
      notes_stay ways _ (by_note note c i e) = inl (by_note note c i e)
      notes_stay ways _ (by_item note c i b k) = inl (by_item note c i b k)
      notes_stay ways _ (by_way way c i e) = inl (by_way way c i e)
      notes_stay ways _ (by_link way c i under) = ⊎_elim
          (λ l. inr (l, (way.row, by_way way way.row i refl))) (λ before. inl (by_link way c i before.0))
          (under_linked history ways way i c under)
      notes_stay ways _ (by_link_item way base c i under b k) = ⊎_elim
          (λ l. inr (by_base base c l b k, (way.row, by_way way way.row i refl)))
          (λ before. inl (by_link_item way base c i before.0 (subst IsBaseRow before.1 b) (subst (λ its. IsIn c (items its)) before.1 k)))
          (under_linked history ways way i base under)
      notes_stay ways _ (by_border border c i e) = inl (by_border border c i e)
      notes_stay ways _ (by_run c o) = inl (by_run c (run_back c o))
      notes_stay ways _ (by_run_item base c o k) = let was = run_back base o in
          inl (by_run_item base c was (subst (λ its. IsIn c (items its)) (run_its base was) k))
      notes_stay ways _ (by_shown note c i e) = inl (by_shown note c i e)
      notes_stay ways _ (by_shown_item note c i b k) = inl (by_shown_item note c i b k)
