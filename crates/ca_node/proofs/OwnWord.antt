-- The word is written that says how far the last range of a pass is: what else of the words stays,
-- and what seats know by them.
use Rattle.std.proofs.Common.{◌≡◌, ◌≢◌, ◌⊎◌, ℕ, ◌+◌, ◌*◌, ◌/◌, ◌<◌, ◌≤◌, List, [], length, map, get_or, set, sym, refl, ap, ◌∙◌, subst, inl, inr, ⊎_elim, arith, length-set, get_or-set_other, get_or-set_same}
use mathlib.Core.Logic.{dite}
use mathlib.Core.Option.{some}
use native.Mathlib.Decide.{ℕ_discrete}
use lib.ListN.{get_elem?}
use Rattle.atomic_table.specs.Table.{State}
use Rattle.atomic_table.proofs.Lists.{at_map}
use Rattle.ca_model.specs.History.{History, after}
use Rattle.ca_model.specs.StoreMap.{StoreMap}
use Rattle.ca_rows.specs.Layout.{row_words, pass_words}
use Rattle.ca_rows.specs.Rule.{upper_of}
use Rattle.ca_rows.specs.Words.{IsWide, own_word, announced, result_of}
use Rattle.ca_rows.specs.declared.sizes.Sizes.{Sizes}
use Rattle.ca_rows.specs.declared.view.View.{View}
use Rattle.ca_rows.proofs.OwnWords.{own_is, own_same, announced_else, result_else}
use Rattle.ca_rows.proofs.Rules.{all_seats}
use Rattle.ca_runs.specs.Runs.{Ends, AreRuns}
use Rattle.ca_node.specs.LoneStays.{KeepsOwn, KeepsActive, lone_still}
use Rattle.ca_node.specs.Lone.{IsLone}
use Rattle.ca_node.proofs.Lone.{lone_by_one}
use Rattle.ca_node.specs.Inventory.{AreAtMost, IsInventory, OwnsTree, own_tree}
use Rattle.ca_node.specs.Attempts.{join_of}
use Rattle.ca_node.specs.JoinsStay.{joining_same, joined_same}
use Rattle.ca_node.specs.DeadStays.{dead_stays}
use Rattle.ca_node.specs.Hindsight.{IsDead}
use Rattle.ca_node.specs.Laws.{numbered, relisted, placed_range, under_way}
use Rattle.ca_node.specs.Layout.{root_word, sequence_unit}
use Rattle.ca_node.specs.Links.{IsIn, IsUnder, IsActive, HasBegun, IsLinked, by_base, IsOfOwnRun, IsNoted, by_note, by_item, by_way, by_link, by_link_item, by_border, by_run, by_run_item, by_shown, by_shown_item}
use Rattle.ca_node.specs.Place.{Place, IsLinkOf}
use Rattle.ca_node.specs.Ranging.{IsOver, IsTrueBorder, WasDecided, IsSoFar, IsRanging}
use Rattle.ca_node.specs.RangesStay.{own_note, own_run_back}
use Rattle.ca_node.specs.Reached.{base_at, route_at, link_range, placed_linked}
use Rattle.ca_node.specs.Row.{row_at, IsBaseRow, items, IsMarkedBy}
use Rattle.ca_node.specs.Scenes.{IsBase, scene_of}
use Rattle.ca_node.specs.Shape.{Role, Base, Route, place_of, IsLink, IsShape}
use Rattle.ca_node.specs.Stays.{row_same}
use Rattle.ca_node.specs.Tree.{IsAlive, IsTrue, Knows, IsTree}
use Rattle.ca_node.specs.TreeView.{Note, Way, Over, Border, Ranging, Quiet, Unmarked, Marking, Left, Joining, Secured, Inventory, TreeView}
use Rattle.ca_node.proofs.Listing.{known_by_one}
use Rattle.ca_node.proofs.Looking.{R, of_map, knows_upper}

module _ (z : Sizes) (s : State (Unit {0}) (View TreeView)) (r : R z s) (pass word' : ℕ)
    (lo : 0 < pass) (hi : pass ≤ 64) where
  abbrev f : IsTree z r.made s.words (map upper_of s.views)
  f = r.above

  abbrev role : ℕ → Role
  role = r.above.role

  abbrev last : StoreMap
  last = after r.above.history []

  abbrev words' : List ℕ
  words' = set s.words (own_word s.words pass + 1) word'

  far : own_word s.words pass + pass_words ≡ row_words * z.rows + row_words + pass_words * pass
  far = own_is z.rows pass s.words f.shape.wide lo

  -- No other word changes.
  pub else_word : (i : ℕ) → i < row_words * z.rows + row_words
      → get_or words' i 0 ≡ get_or s.words i 0
  else_word i l = let w = far in get_or-set_other s.words (own_word s.words pass + 1) i word' 0
      (λ e. omega arith)

  pub told_same : (p : ℕ) → 0 < p → p ≤ 64 → announced words' p ≡ announced s.words p
  told_same p lo' hi' = let w = far in let w' = own_is z.rows p s.words f.shape.wide lo' in
      announced_else s.words (own_word s.words pass + 1) word' p (λ e. omega arith)

  pub result_same : (p : ℕ) → 0 < p → p ≤ 64 → p ≢ pass → result_of words' p ≡ result_of s.words p
  result_same p lo' hi' ne = let w = far in let w' = own_is z.rows p s.words f.shape.wide lo' in
      result_else s.words (own_word s.words pass + 1) word' p (λ e. ne (omega arith))

  pub result_here : result_of words' pass ≡ word'
  result_here = let w = far in let wide = f.shape.wide in
      ap (λ (n : ℕ). get_or words' (n + 1) 0)
      (own_same s.words words' pass (length-set s.words (own_word s.words pass + 1) word'))
      ∙ get_or-set_same s.words (own_word s.words pass + 1) word' 0 (omega arith)

  pub wide' : IsWide z.rows words'
  wide' = length-set s.words (own_word s.words pass + 1) word' ∙ f.shape.wide

  -- Each row has the same words.
  pub row_stays : (row : ℕ) → row ≤ z.rows → row_at words' row ≡ row_at s.words row
  row_stays row inside = row_same s.words words' z.rows row f.shape.wide wide' inside
      (λ k l. else_word (row_words * row + k) (omega arith))

  pub base_stays : (b : ℕ) (p : Place) → role b ≡ Base p → row_at words' b ≡ row_at s.words b
  base_stays b p e = row_stays b (base_at z s.words role last f.shape b p e).in_range

  -- No range is unbegun, where the number of the last one doesn't fall.
  pub begun_then : result_of s.words pass / sequence_unit ≤ word' / sequence_unit → (p n : ℕ)
      → HasBegun s.words p n → HasBegun words' p n
  begun_then rises p n b = dite (ℕ_discrete p pass)
      (λ (e : p ≡ pass). (
        b.0,
        b.1,
        subst (λ q. n ≤ result_of words' q / sequence_unit) (sym e)
            (let was : n ≤ result_of s.words pass / sequence_unit =
            subst (λ q. n ≤ result_of s.words q / sequence_unit) e b.2 in
            subst (λ v. n ≤ v / sequence_unit) (sym result_here) (omega arith)),
      ))
      (λ ne. (b.0, b.1, subst (λ v. n ≤ v / sequence_unit) (sym (result_same p b.0 b.1 ne)) b.2))

  -- Ranges of other passes are as active as they were.
  pub else_before : (p n : ℕ) → p ≢ pass → IsActive words' p n → IsActive s.words p n
  else_before p n ne now = (now.0, now.1, sym (result_same p now.0 now.1 ne) ∙ now.2)

  pub else_then : (p n : ℕ) → p ≢ pass → IsActive s.words p n → IsActive words' p n
  else_then p n ne now = (now.0, now.1, result_same p now.0 now.1 ne ∙ now.2)

  pub border_stays : (b : Border) → IsTrueBorder z.rows s.words b → IsTrueBorder z.rows words' b
  border_stays b t = record {
    some_row = t.some_row;
    in_range = t.in_range;
    spells =
        row_stays b.row t.in_range ∙ t.spells;
    is_border = t.is_border;
  }

  -- What a seat of another pass knows of ranges it knows still, where notes stay true, and ranges
  -- over.
  module _ (true_then : (note : Note) → IsTrue z.rows s.words r.above.role note
      → IsTrue z.rows (set s.words (own_word s.words pass + 1) word') r.above.role note)
      (over_then : (x : Over) → IsOver s.words x → IsOver
      (set s.words (own_word s.words pass + 1) word') x) where
    so_far : (ends : Ends) (since : History) (p : ℕ) (borders : List Border) (own : Ranging)
        → p ≢ pass
        → IsSoFar z s.words r.above.role ends since r.above.history p borders own
        → IsSoFar z words' r.above.role ends since r.above.history p borders own
    so_far ends since p borders Quiet ne k = λ n now. k n (else_before p n ne now)
    so_far ends since p borders (Unmarked begun) ne k = (
      (else_then p begun.number ne k.0.0, k.0.1, k.0.2),
      λ row b m. k.1 row b (subst (λ its. IsMarkedBy its p begun.number)
          (base_stays row b.0 b.1) m),
    )
    so_far ends since p borders (Marking begun b) ne k = (
      k.0,
      k.1,
      ⊎_elim (λ on. inl (
        (else_then p begun.number ne on.0.0, on.0.1, on.0.2),
        (
          on.1.0,
          on.1.1,
          subst (λ its. IsMarkedBy its p begun.number)
              (sym (base_stays on.1.0 on.1.1.0 on.1.1.1)) on.1.2,
        ),
      ))
          (λ (was : WasDecided z s.words role since r.above.history p begun b.its). inr record {
            last = was.last;
            some_row = was.some_row;
            decided = let d = was.decided in (d.0, d.1, d.2, d.3, result_same p d.0 d.1 ne ∙ d.4);
            notes = was.notes;
            trues = λ note i. true_then note (was.trues note i);
            bases = was.bases;
            run = was.run;
            whole = was.whole;
          }) k.2,
    )
    so_far ends since p borders Left ne k = tt
    so_far ends since p borders (Joining x) ne k = λ n now. k n (else_before p n ne now)
    so_far ends since p borders (Secured x) ne k = λ n now. k n (else_before p n ne now)

    pub ranging_else : (ends : Ends) (v : TreeView) → v.number ≢ pass
        → IsRanging z s.words r.above.role ends v.since r.above.history v.number v.ranges
        → IsRanging z words' r.above.role ends v.since r.above.history v.number v.ranges
    ranging_else ends v ne k = record {
      over = λ x i. over_then x (k.over x i);
      borders = λ b i. border_stays b (k.borders b i);
      sequence = λ n some_pass is. let q = k.sequence n some_pass is in
          (q.0, ap (λ x. x / sequence_unit) (result_same v.number some_pass q.0 ne) ∙ q.1);
      run = λ note i. true_then note (k.run note i);
      own = λ some_pass. so_far ends v.since v.number v.ranges.borders v.ranges.own ne
          (k.own some_pass);
    }

  -- What one seat has a note on.
  module _ (j : ℕ) (y : View TreeView) (here : get_elem? s.views j ≡ some y) where
    known : IsRanging z s.words r.above.role (r.above.ranged.ends y.upper.number) y.upper.since
        r.above.history y.upper.number y.upper.ranges
    known = f.ranged.each j y.upper (at_map upper_of s.views j y here)

    knows : Knows z r.made s.words r.above.role (map upper_of s.views) r.above.history j y.upper
    knows = knows_upper z s r j y here

    way_range : (way : Way) → IsIn way y.upper.ways → (0 < way.row) × (way.row ≤ z.rows)
    way_range way i = let t = knows.ways way i in (t.some_row, t.in_range)

    under_back : (way : Way) → IsIn way y.upper.ways → (row : ℕ) → IsUnder words' way.row row
        → IsUnder s.words way.row row
    under_back way i row under = let w = way_range way i in let a = w.1 in
        let same : (k : ℕ) → k < row_words → get_or words' (row_words * way.row + k) 0 ≡ get_or
        s.words (row_words * way.row + k) 0 =
        λ k l. else_word (row_words * way.row + k) (omega arith) in
        ⊎_elim (λ e. inl (sym (same 1 (omega arith)) ∙ e))
        (λ e. inr (sym (same 2 (omega arith)) ∙ e)) under

    under_range : (way : Way) → IsIn way y.upper.ways → (row : ℕ) → IsUnder s.words way.row row
        → row ≤ z.rows
    under_range way i row under =
        (under_way z s.words role last f.shape y.upper.since r.above.history way (knows.ways way i)
        row under).1

    own_range : (row : ℕ) → IsOfOwnRun s.words y.upper row → row ≤ z.rows
    own_range row o = let n = own_note z s.words role (r.above.ranged.ends y.upper.number) f.history
        y.upper known row o in
        subst (λ c. c ≤ z.rows) n.2 n.1.in_range

    -- It has the run that it had, if its range is another one.
    pub run_before : y.upper.number ≢ pass → (row : ℕ) → IsOfOwnRun words' y.upper row
        → IsOfOwnRun s.words y.upper row
    run_before ne = own_run_back s.words words' y.upper
        (λ n x d. (d.0, d.1, d.2, d.3, sym (result_same y.upper.number d.0 d.1 ne) ∙ d.4))
        (λ row o. row_stays row (own_range row o))

    -- It has a note on nothing more than rows of which this holds, where its run has no others
    -- more.
    module _ (P : ℕ → Type 0)
        (run : (row : ℕ) → IsOfOwnRun (set s.words (own_word s.words pass + 1) word') y.upper row
        → IsOfOwnRun s.words y.upper row
        ⊎ (P row × ((c : ℕ) → IsIn c
        (items (row_at (set s.words (own_word s.words pass + 1) word') row)) → P c))) where
      pub noted_before : (row : ℕ) → IsNoted words' y.upper row
          → IsNoted s.words y.upper row ⊎ P row
      noted_before _ (by_note note row i e) = inl (by_note note row i e)
      noted_before _ (by_item note row i b k) = inl (by_item note row i b k)
      noted_before _ (by_way way row i e) = inl (by_way way row i e)
      noted_before _ (by_link way row i under) = inl
          (by_link way row i (under_back way i row under))
      noted_before _ (by_link_item way b row i under g k) = let was = under_back way i b under in
          let e = row_stays b (under_range way i b was) in
          inl (by_link_item way b row i was (subst IsBaseRow e g)
          (subst (λ its. IsIn row (items its)) e k))
      noted_before _ (by_border c row i e) = inl (by_border c row i e)
      noted_before _ (by_shown note row i e) = inl (by_shown note row i e)
      noted_before _ (by_shown_item note row i b k) = inl (by_shown_item note row i b k)
      noted_before _ (by_run row o) = ⊎_elim (λ w. inl (by_run row w)) (λ p. inr p.0) (run row o)
      noted_before _ (by_run_item b row o k) = ⊎_elim
          (λ w. inl (by_run_item b row w
          (subst (λ its. IsIn row (items its)) (row_stays b (own_range b w)) k)))
          (λ p. inr (p.1 row k)) (run b o)

    -- One whose run is as it was has no note more.
    pub noted_same : ((row : ℕ) → IsOfOwnRun words' y.upper row → IsOfOwnRun s.words y.upper row)
        → (row : ℕ) → IsNoted words' y.upper row
        → IsNoted s.words y.upper row
    noted_same run row n = ⊎_elim (λ (o : IsNoted s.words y.upper row). o)
        (λ (none : ⊥). absurd none)
        (noted_before (λ _. ⊥) (λ c o. inl (run c o)) row n)

  -- A base is linked, and so are its objects.
  pub base_linked : IsShape z words' r.above.role (after r.above.history []) → (row : ℕ)
      → IsBase r.above.role row
      → IsLinked words' row × ((c : ℕ) → IsIn c (items (row_at words' row)) → IsLinked words' c)
  base_linked shape' row base = let here = placed_linked z words' role last shape' row base.0
      (ap place_of base.1) in (
        here,
        λ c k. by_base row c here (base_at z words' role last shape' row base.0 base.1).is_base
            k,
      )

  -- What a seat knows else it knows still.
  pub knows_then : (id : ℕ) (d : View TreeView) → get_elem? s.views id ≡ some d
      → ((note : Note) → IsTrue z.rows s.words r.above.role note
      → IsTrue z.rows words' r.above.role note)
      → (j : ℕ) (y : View TreeView) → get_elem? s.views j ≡ some y → (u' : TreeView)
      → (0 < u'.number → u'.number ≡ d.upper.number)
      → Knows z r.made words' r.above.role (set (map upper_of s.views) id u')
      r.above.history j y.upper
  knows_then id d at true_then j y here u' same = let k =
      relisted z r.made s.words role (map upper_of s.views)
      (set (map upper_of s.views) id u') f.history j y.upper
      (numbered (map upper_of s.views) id d.upper u' (at_map upper_of s.views id d at) same)
      (knows_upper z s r j y here) in record {
        made_before = k.made_before;
        alone = k.alone;
        seen_first = k.seen_first;
        since_first = k.since_first;
        lawful = k.lawful;
        past = k.past;
        notes = λ note i. true_then note (k.notes note i);
        links = k.links;
        ways = λ way i. let t = k.ways way i in let hi' = t.in_range in record {
          some_row = t.some_row;
          is_route = t.is_route;
          in_range = t.in_range;
          stands = ⊎_elim (λ (e : IsAlive role way). inl e)
              (λ (d : (place : ℕ) × IsDead z s.words role y.upper.since f.history way place).
              inr (
                d.0,
                dead_stays z s.words words' role role y.upper.since f.history f.history way
                    d.0 d.1.is_out
                    (λ n l. else_word (row_words * way.row + n) (omega arith))
                    (λ c under m attempt p left. record {
                      is_out = left.is_out;
                      same = row_stays c left.in_range;
                      objects = λ o n. row_stays o (left.are_objects o n).1;
                    })
                    (λ l. (l, refl)) d.1,
              )) t.stands;
          spells = λ index fixed. let b = fixed.0 in else_word (row_words * way.row + index)
              (omega arith) ∙ t.spells index fixed;
        };
        way_links = k.way_links;
        one_place = k.one_place;
        joining = joining_same s.words words' y.upper k.links
            (λ way i index l. let w = way_range j y here way i in let a = w.1 in
            else_word (row_words * way.row + index) (omega arith)) k.joining;
        ended = k.ended;
      }

  -- A join has under its route what it had.
  child_then : (route : ℕ) (p : Place) (key : List ℕ) → role route ≡ Route p key → (link : ℕ)
      → IsLinkOf route link
      → IsBaseRow (row_at s.words (get_or s.words link 0))
      → row_at words' (get_or words' link 0) ≡ row_at s.words (get_or s.words link 0)
  child_then route p key is link of _ = let in_tree : IsLink role link =
      inr (route, p, key, is, of) in
      let inside : link < row_words * z.rows + row_words =
      ⊎_elim (λ (e : link ≡ root_word). omega arith) (λ t. t.1)
      (link_range z s.words role last f.shape link in_tree) in
      let c = get_or s.words link 0 in
      let at = ⊎_elim (λ (e : link ≡ row_words * route + 1). subst
      (λ i. (q : Place) × (place_of (role (get_or s.words i 0)) ≡ some q)) (sym e)
      (_, (route_at z s.words role last f.shape route p key is).left.hangs))
      (λ (e : link ≡ row_words * route + 2). subst (λ i. (q : Place)
      × (place_of (role (get_or s.words i 0)) ≡ some q)) (sym e)
      (_, (route_at z s.words role last f.shape route p key is).right.hangs)) of in
      ap (row_at words') (else_word link inside) ∙ row_stays c
      (placed_range z s.words role last f.shape c at.0 at.1).1

  join_then : (route : ℕ) (p : Place) (key : List ℕ) → role route ≡ Route p key
      → join_of words' route ≡ join_of s.words route
  join_then route p key is = let hi' =
      (route_at z s.words role last f.shape route p key is).in_range in
      else_word (row_words * route + 3) (omega arith)

  control : (i : ℕ) → i < row_words → get_or words' i 0 ≡ get_or s.words i 0
  control i l = else_word i (omega arith)

  -- The rule holds again, where the shape stands, what ranges marked are runs, and each seat knows
  -- what is so.
  pub tree_with : (id : ℕ) (d : View TreeView) → get_elem? s.views id ≡ some d → 0 < d.upper.number
      → (u' : TreeView)
      → IsShape z words' r.above.role (after r.above.history []) → (ends' : ℕ → Ends)
      → AreRuns (scene_of words' r.above.role) ends'
      → ((p n : ℕ) → IsActive words' p n → p ≤ r.made)
      → Knows z r.made words' r.above.role (set (map upper_of s.views) id u') r.above.history id u'
      → IsRanging z words' r.above.role (ends' u'.number) u'.since r.above.history
      u'.number u'.ranges
      → ((j : ℕ) (y : View TreeView) → j ≢ id → get_elem? s.views j ≡ some y
      → Knows z r.made words' r.above.role (set (map upper_of s.views) id u')
      r.above.history j y.upper
      × IsRanging z words' r.above.role (ends' y.upper.number) y.upper.since r.above.history
      y.upper.number y.upper.ranges)
      → (change : Inventory → Inventory) → IsInventory words' r.above.role
      (change r.above.inventory)
      → own_tree u' ≡ (change d.upper.inventory, d.upper.splits, d.upper.renewal.count)
      → length (change d.upper.inventory).bases ≤ length d.upper.inventory.bases
      → (r.made ≤ 1 → (most : ℕ) → AreAtMost s.words (length d.upper.inventory.rows) most
      → AreAtMost words' (length (change d.upper.inventory).rows) most)
      → KeepsOwn d.upper.ranges.own u'.ranges.own → u'.ways ≡ d.upper.ways
      → u'.ranges.joins.begun ≡ d.upper.ranges.joins.begun
      → KeepsActive s.words words' d.upper.number d.upper.ranges.own u'.ranges.own
      → u'.number ≡ d.upper.number → IsTree z r.made words' (set (map upper_of s.views) id u')
  tree_with id d at is_pass u' shape' ends' runs' made_before own_knows own_ranging others change
      listed same_tree no_more no_rows keeps_own same_ways same_begun keeps_active same_number = record {
        usable = f.usable;
        history = f.history;
        edits = f.edits;
        by_passes = f.by_passes;
        keypos = control 131 (omega arith) ∙ f.keypos;
        leaf = control 132 (omega arith) ∙ f.leaf;
        levels = control 133 (omega arith) ∙ f.levels;
        role = role;
        shape = shape';
        ranged = record {
          ends = ends';
          runs = runs';
          made_before = made_before;
          each = all_seats (λ j v. IsRanging z words' role (ends' v.number) v.since f.history
              v.number v.ranges)
              (map upper_of s.views) id u' own_ranging (λ j v ne here. let y =
              of_map upper_of s.views j v here in
              subst (λ (w : TreeView). IsRanging z words' role (ends' w.number) w.since f.history
              w.number w.ranges) y.2 (others j y.0 ne y.1).1);
        };
        joined = joined_same z s.words words' role join_then child_then f.joined;
        lone = lone_by_one z r.made s.words words' role role (map upper_of s.views) f.history
            f.each_seat id d.upper u'
            (at_map upper_of s.views id d at) is_pass
            (λ few. subst (λ (p : ℕ). IsLone words' role p u'.ranges.own u'.ways
            u'.ranges.joins.begun) (sym same_number)
            (lone_still s.words words' role role d.upper.number d.upper.ranges.own u'.ranges.own
            d.upper.ways u'.ways d.upper.ranges.joins.begun u'.ranges.joins.begun
            (λ route p key is. inr (p, key, is, join_then route p key is))
            (λ route p key is. (is, join_then route p key is))
            (λ way i. inl (subst (IsIn way) same_ways i)) keeps_own keeps_active
            same_begun (f.lone id d.upper (at_map upper_of s.views id d at) few is_pass)));
        each_seat = all_seats (Knows z r.made words' role (set (map upper_of s.views) id u') f.history)
            (map upper_of s.views) id u' own_knows (λ j v ne here. let y =
            of_map upper_of s.views j v here in
            subst (Knows z r.made words' role (set (map upper_of s.views) id u') f.history j) y.2
            (others j y.0 ne y.1).0);
        inventory = change f.inventory;
        listed = listed;
        at_first = λ (e : r.made ≡ 0). let hi' = (knows_upper z s r id d at).made_before in
            absurd (omega arith);
        only_one = known_by_one z r.made s.words words' role role (map upper_of s.views) f.history f.each_seat
            id d.upper u'
            (change f.inventory) (at_map upper_of s.views id d at) is_pass
            (λ few. let was = f.only_one id d.upper (at_map upper_of s.views id d at) few is_pass in
            subst (OwnsTree words' role (change f.inventory)) (sym same_tree) record {
              whole = ap change was.whole;
              shallow = was.shallow;
              few = let most = was.few in omega arith;
              rows = no_rows few (1 + 2 * d.upper.splits + d.upper.renewal.count) was.rows;
            });
      }
