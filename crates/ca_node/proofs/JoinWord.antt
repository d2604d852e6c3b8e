-- The join word of a route of the tree changes: no row comes or goes, and no base or link is
-- another one.
use Rattle.std.proofs.Common.{◌≡◌, ◌≢◌, ℕ, ◌+◌, ◌*◌, ◌<◌, ◌≤◌, List, [], map, get_or, set, sym, refl, ap, ◌∙◌, subst, inl, inr, ⊎_elim, arith, length-set, get_or-set_other, get_or-set_same}
use Rattle.std.proofs.lemmas.List.{map-set}
use mathlib.Core.Logic.{dite}
use mathlib.Core.Option.{some}
use native.Mathlib.Decide.{ℕ_discrete}
use lib.ListN.{get_elem?}
use Rattle.atomic_table.specs.Table.{State}
use Rattle.atomic_table.proofs.Lists.{at_set, at_map}
use Rattle.ca_model.specs.History.{after}
use Rattle.ca_model.specs.StoreMap.{StoreMap}
use Rattle.ca_rows.specs.Layout.{row_words}
use Rattle.ca_rows.specs.Rule.{upper_of}
use Rattle.ca_rows.specs.Words.{IsWide, announced, result_of}
use Rattle.ca_rows.specs.declared.sizes.Sizes.{Sizes}
use Rattle.ca_rows.specs.declared.view.View.{View}
use Rattle.ca_rows.proofs.OwnWords.{announced_else, result_else}
use Rattle.ca_rows.proofs.Relinking.{Stays, relinks}
use Rattle.ca_rows.proofs.Rules.{all_seats}
use Rattle.ca_runs.specs.Runs.{AreRuns}
use Rattle.ca_runs.proofs.Keeping.{runs_still}
use Rattle.ca_node.specs.Lone.{IsLone}
use Rattle.ca_node.proofs.OwnTurns.{TurnsOwn, so_turned, marking_back}
use Rattle.ca_node.specs.Attempts.{join_of, JoinGoesOn}
use Rattle.ca_node.specs.Inventory.{IsInventory, OwnsTree, own_tree}
use Rattle.ca_node.specs.Joining.{AreJoining, IsJoining}
use Rattle.ca_node.specs.JoinsStay.{remembered_route, join_same, joining_goes_on}
use Rattle.ca_node.specs.DeadStays.{dead_stays}
use Rattle.ca_node.specs.Hindsight.{IsDead}
use Rattle.ca_node.specs.Laws.{noted_alike, numbered, owns_still, placed_range, relisted, tree_lends, under_way}
use Rattle.ca_node.specs.Layout.{root_word}
use Rattle.ca_node.specs.Links.{IsIn, IsUnder, IsActive, IsBoundOf, IsLinked, by_range, IsLent, IsOfOwnRun, IsNoted, by_note, by_item, by_way, by_link, by_link_item, by_border, by_run, by_run_item, by_shown, by_shown_item}
use Rattle.ca_node.specs.Marks.{IsMarkIn}
use Rattle.ca_node.specs.Place.{Span, all_keys, left_of, right_of, Place, IsLinkOf}
use Rattle.ca_node.specs.Ranging.{IsRanging}
use Rattle.ca_node.specs.RangesStay.{own_note, own_run_back, active_back, active_on, begun_on, decided_back, ranging_stays}
use Rattle.ca_node.specs.Reached.{base_at, route_at, placed_linked, item_linked, reached, lent_end, end_lent}
use Rattle.ca_node.specs.Row.{row_at, form, IsObjectRow, IsBaseRow, items, mark, mark_owner, mark_number, mark_bound, IsMarkedBy}
use Rattle.ca_node.specs.Scenes.{IsBase, mark_of, scene_of}
use Rattle.ca_node.specs.Shape.{Role, Out, Base, Route, place_of, IsLink, LeadsTo, IsRouteAt, IsSo, IsShape}
use Rattle.ca_node.specs.Standing.{IsSameButLinks, form_same, mark_stays, base_stands, route_stands}
use Rattle.ca_node.specs.Stays.{row_same, map_same}
use Rattle.ca_node.specs.Tree.{IsTrue, Knows, IsTree}
use Rattle.ca_node.specs.TreeView.{Note, Way, Turns, Tries, KnownJoins, TreeView, Ranging}
use Rattle.ca_node.proofs.Looking.{R}

module _ (z : Sizes) (s : State (Unit {0}) (View TreeView)) (r : R z s) (route : ℕ) (place : Place)
    (key : List ℕ)
    (is : r.above.role route ≡ Route place key) (word' : ℕ) where
  abbrev f : IsTree z r.made s.words (map upper_of s.views)
  f = r.above

  abbrev role : ℕ → Role
  role = r.above.role

  abbrev last : StoreMap
  last = after r.above.history []

  abbrev words' : List ℕ
  words' = set s.words (row_words * route + 3) word'

  at_route : IsRouteAt z s.words r.above.role place key route
  at_route = route_at z s.words role last f.shape route place key is

  -- No other word changes.
  pub join_else : (i : ℕ) → i ≢ row_words * route + 3
      → get_or (set s.words (row_words * route + 3) word') i 0 ≡ get_or s.words i 0
  join_else i n = get_or-set_other s.words (row_words * route + 3) i word' 0 n

  pub join_here : join_of (set s.words (row_words * route + 3) word') route ≡ word'
  join_here = let w = f.shape.wide in let hi = at_route.in_range in
      get_or-set_same s.words (row_words * route + 3) word' 0 (omega arith)

  wide' : IsWide z.rows words'
  wide' = length-set s.words (row_words * route + 3) word' ∙ f.shape.wide

  same_ranges : (pass : ℕ) → 0 < pass → pass ≤ 64 → result_of words' pass ≡ result_of s.words pass
  same_ranges pass lo hi = let w = f.shape.wide in let most = at_route.in_range in
      result_else s.words (row_words * route + 3) word' pass (λ e. omega arith)

  -- A range that was active is so.
  pub active_then : (pass number : ℕ) → IsActive s.words pass number
      → IsActive (set s.words (row_words * route + 3) word') pass number
  active_then = active_on z s.words words' role role same_ranges

  same_told : (pass : ℕ) → 0 < pass → pass ≤ 64 → announced words' pass ≡ announced s.words pass
  same_told pass lo hi = let w = f.shape.wide in let most = at_route.in_range in
      announced_else s.words (row_words * route + 3) word' pass (λ e. omega arith)

  -- Each other row has the words that it had, and the route all others.
  row_stays : (row : ℕ) → row ≤ z.rows → row ≢ route → row_at words' row ≡ row_at s.words row
  row_stays row hi ne = row_same s.words words' z.rows row f.shape.wide wide' hi
      (λ k l. join_else (row_words * row + k) (λ e. ne (omega arith)))

  but_join : (row : ℕ) → IsSameButLinks s.words words' row
  but_join row k l a b n = join_else (row_words * row + k) (λ e. n (omega arith))

  -- What has another form is another row.
  other_form : (row : ℕ) → form (row_at s.words row) ≢ 3 → row ≢ route
  other_form row n e = n (ap (λ c. form (row_at s.words c)) e ∙ at_route.is_route)

  base_apart : (b : ℕ) (p : Place) → role b ≡ Base p → b ≢ route
  base_apart b p e same = let y : Base p ≡ Route place key = sym e ∙ (ap role same ∙ is) in cc

  base_stays : (b : ℕ) (p : Place) → role b ≡ Base p → row_at words' b ≡ row_at s.words b
  base_stays b p e = row_stays b (base_at z s.words role last f.shape b p e).in_range
      (base_apart b p e)

  link_stays : (link : ℕ) → IsLink role link → get_or words' link 0 ≡ get_or s.words link 0
  link_stays link of = join_else link (λ e. ⊎_elim (λ (top : link ≡ root_word). omega arith)
      (λ (t : (c : ℕ) × (p : Place) × (k : List ℕ) × (role c ≡ Route p k) × IsLinkOf c link).
      ⊎_elim (λ (a : link ≡ row_words * t.0 + 1). omega arith)
      (λ (a : link ≡ row_words * t.0 + 2). omega arith) t.4) of)

  lead_stays : (link least : ℕ) (span : Span) → IsLink role link
      → LeadsTo s.words role link least span → LeadsTo words' role link least span
  lead_stays link least span of l = record {
    level = l.level;
    greater = l.greater;
    hangs = ap (λ (c : ℕ). place_of (role c)) (link_stays link of) ∙ l.hangs;
  }

  -- What the links of a route name is there still, with the words that it had.
  pub child_stays : (t : ℕ) (p : Place) (k : List ℕ) → r.above.role t ≡ Route p k → (link : ℕ)
      → IsLinkOf t link
      → IsBaseRow (row_at s.words (get_or s.words link 0))
      → row_at words' (get_or words' link 0) ≡ row_at s.words (get_or s.words link 0)
  child_stays t p k e link of base = let c = get_or s.words link 0 in let there =
      route_at z s.words role last f.shape t p k e in
      let h = ⊎_elim (λ (a : link ≡ row_words * t + 1). subst
      (λ i. (get_or s.words i 0) ≤ z.rows) (sym a)
      (placed_range z s.words role last f.shape (get_or s.words (row_words * t + 1) 0) _
      there.left.hangs).1)
      (λ (a : link ≡ row_words * t + 2). subst (λ i. (get_or s.words i 0) ≤ z.rows) (sym a)
      (placed_range z s.words role last f.shape (get_or s.words (row_words * t + 2) 0) _
      there.right.hangs).1) of in
      ap (row_at words') (link_stays link (inr (t, p, k, e, of)))
      ∙ row_stays c h (other_form c (λ three. omega arith))

  -- The join goes on.
  module _ (on : JoinGoesOn s.words (set s.words (row_words * route + 3) word') route) where
    go_on : (t : ℕ) → JoinGoesOn s.words words' t
    go_on t = dite (ℕ_discrete t route)
        (λ (e : t ≡ route). subst (JoinGoesOn s.words words') (sym e) on)
        (λ (ne : t ≢ route). join_same s.words words' t
        (join_else (row_words * t + 3) (λ e. ne (omega arith))))

    marks : (p : Place) (its : List ℕ) → IsMarkIn s.words p its → IsMarkIn words' p its
    marks p its = mark_stays s.words words' p its
        (λ pass lo hi. let e = same_ranges pass lo hi in omega arith)
        (λ t attempt of. (go_on t).begun attempt)

    so : (row : ℕ) (o : Role) → role row ≡ o → IsSo z s.words role last row o
        → IsSo z words' role last row o
    so row Out e x = tt
    so row (Base p) e x = base_stands z s.words words' role role last last p row x
        (base_stays row p e)
        (λ c i. let o = x.are_objects c i in row_stays c o.1
        (other_form c (λ three. let one = o.2.0 in omega arith)))
        (link_stays p.link x.is_link ∙ x.under) x.is_link refl (marks p (row_at s.words row))
        (λ pass number m now. active_back z s.words words' role role same_ranges pass number now)
        (λ border b. let w = x.bounded border b in row_stays border w.in_range
        (other_form border (λ three. let four = w.is_border in omega arith)))
    so row (Route p k) e x = route_stands z s.words words' role role p k row x f.shape.wide wide'
        (but_join row)
        (link_stays p.link x.is_link ∙ x.under) x.is_link
        (lead_stays (row_words * row + 1) (p.level + 1) (left_of k p.span)
        (inr (row, p, k, e, inl refl)) x.left)
        (lead_stays (row_words * row + 2) (p.level + 1) (right_of k p.span)
        (inr (row, p, k, e, inr refl)) x.right)

    shape' : IsShape z words' role last
    shape' = record {
      wide = wide';
      top = lead_stays root_word 0 all_keys (inl refl) f.shape.top;
      each_row = λ row. so row (role row) refl (f.shape.each_row row);
      apart = f.shape.apart;
    }

    abbrev IsBoundBy : List ℕ → List ℕ → ℕ → Type 0
    IsBoundBy words its row = (mark its ≡ 1) × IsActive words (mark_owner its) (mark_number its)
        × (mark_bound its ≡ row)

    -- The same rows say up to where the active ranges go.
    bound_before : (b row : ℕ) → IsBase role b → IsBoundOf words' b row → IsBoundOf s.words b row
    bound_before b row base x =
        let k = subst (λ its. IsBoundBy words' its row) (base_stays b base.0 base.1) x in
        (k.0, active_back z s.words words' role role same_ranges _ _ k.1, k.2)

    bound_then : (b row : ℕ) → IsBase role b → IsBoundOf s.words b row → IsBoundOf words' b row
    bound_then b row base x = subst (λ its. IsBoundBy words' its row)
        (sym (base_stays b base.0 base.1))
        (x.0, active_on z s.words words' role role same_ranges _ _ x.1, x.2)

    lent_before : (row : ℕ) → IsLent words' row → IsLent s.words row
    lent_before row l = let t = lent_end z words' role last shape' row l in
        end_lent z s.words role last f.shape row (
          t.0,
          t.1,
          t.2,
          bound_before t.0 row (t.1, t.2) t.3,
        )

    lent_then : (row : ℕ) → IsLent s.words row → IsLent words' row
    lent_then row l = let t = lent_end z s.words role last f.shape row l in
        end_lent z words' role last shape' row (t.0, t.1, t.2, bound_then t.0 row (t.1, t.2) t.3)

    linked_before : (row : ℕ) → IsLinked words' row → IsLinked s.words row
    linked_before row l = ⊎_elim
        (λ (t : (p : Place) × (place_of (role row) ≡ some p)). placed_linked z s.words role last
        f.shape row t.0 t.1)
        (λ y. ⊎_elim
        (λ (t : (b : ℕ) × (p : Place) × (role b ≡ Base p) × IsIn row (items (row_at words' b))).
        item_linked z s.words role last f.shape t.0 t.1 t.2 row
        (subst (λ its. IsIn row (items its)) (base_stays t.0 t.1 t.2) t.3))
        (λ (t : (b : ℕ) × (p : Place) × (role b ≡ Base p) × IsBoundOf words' b row).
        let k = end_lent z s.words role last f.shape row
        (t.0, t.1, t.2, bound_before t.0 row (t.1, t.2) t.3) in by_range k.0 row k.1 k.2 k.3)
        y)
        (reached z words' role last shape' row l)

    linked_then : (row : ℕ) → IsLinked s.words row → IsLinked words' row
    linked_then row l = ⊎_elim
        (λ (t : (p : Place) × (place_of (role row) ≡ some p)). placed_linked z words' role last
        shape' row t.0 t.1)
        (λ y. ⊎_elim
        (λ (t : (b : ℕ) × (p : Place) × (role b ≡ Base p) × IsIn row (items (row_at s.words b))).
        item_linked z words' role last shape' t.0 t.1 t.2 row
        (subst (λ its. IsIn row (items its)) (sym (base_stays t.0 t.1 t.2)) t.3))
        (λ (t : (b : ℕ) × (p : Place) × (role b ≡ Base p) × IsBoundOf s.words b row).
        let k = end_lent z words' role last shape' row
        (t.0, t.1, t.2, bound_then t.0 row (t.1, t.2) t.3) in by_range k.0 row k.1 k.2 k.3)
        y)
        (reached z s.words role last f.shape row l)

    runs' : AreRuns (scene_of words' role) f.ranged.ends
    runs' = runs_still (scene_of s.words role) (scene_of words' role) f.ranged.ends
        f.ranged.runs record {
          alike = record {
            active = active_on z s.words words' role role same_ranges;
            was_active = active_back z s.words words' role role same_ranges;
            begun = begun_on z s.words words' role role same_ranges;
          };
          stay = λ pass number row now base marked. (
            base,
            refl,
            ap mark_of (base_stays row base.0 base.1),
          );
          begun = λ pass number row base marked. begun_on z s.words words' role role same_ranges
              pass number
              (f.ranged.runs.begun pass number row base
              (subst (λ its. IsMarkedBy its pass number) (base_stays row base.0 base.1) marked));
          were = λ pass number row base marked now. (
            base,
            subst (λ its. IsMarkedBy its pass number) (base_stays row base.0 base.1) marked,
          );
        }

    listed' : IsInventory words' role f.inventory
    listed' = record {
      linked = λ row l. f.listed.linked row (linked_before row l);
      rows = λ row i. linked_then row (f.listed.rows row i);
      rows_once = f.listed.rows_once;
      based = f.listed.based;
      bases = f.listed.bases;
      bases_once = f.listed.bases_once;
    }

    -- What a note says is so still.
    note_apart : (note : Note) → IsTrue z.rows s.words role note → note.row ≢ route
    note_apart note t e =
        ⊎_elim (λ (b : role note.row ≡ Base note.place). base_apart note.row note.place b e)
        (λ (o : role note.row ≡ Out). let y : Out ≡ Route place key = sym o ∙ (ap role e ∙ is) in
        cc) t.stands

    true_then : (note : Note) → IsTrue z.rows s.words role note → IsTrue z.rows words' role note
    true_then note t = record {
      some_row = t.some_row;
      in_range = t.in_range;
      spells = row_stays note.row t.in_range (note_apart note t) ∙ t.spells;
      named = λ b c i. let o = t.named b c i in
          (o.0, o.1, subst IsObjectRow (sym (object_stays b c i)) o.2);
      objects_are = λ b. map_same (λ c. row_at words' c) (λ c. row_at s.words c) (items note.its)
          (object_stays b) ∙ t.objects_are b;
      stands = t.stands;
      marks = λ pass number m. let was = t.marks pass number m in (
        begun_on z s.words words' role role same_ranges pass number was.0,
        λ now. was.1 (active_back z s.words words' role role same_ranges pass number now),
      );
    }
      where
        object_stays : IsBaseRow note.its → (c : ℕ) → IsIn c (items note.its)
            → row_at words' c ≡ row_at s.words c
        object_stays b c i = let o = t.named b c i in
            row_stays c o.1 (other_form c (λ three. let one = o.2.0 in omega arith))

    -- What one seat knows, and has a note on.
    module _ (j : ℕ) (v : TreeView) (here : get_elem? (map upper_of s.views) j ≡ some v) where
      known : IsRanging z s.words role (f.ranged.ends v.number) v.since f.history v.number v.ranges
      known = f.ranged.each j v here

      knows : Knows z r.made s.words role (map upper_of s.views) f.history j v
      knows = f.each_seat j v here

      ranging_then : IsRanging z words' role (f.ranged.ends v.number) v.since f.history
          v.number v.ranges
      ranging_then = ranging_stays z s.words words' role role same_ranges (f.ranged.ends v.number)
          v.since f.history f.history v.number v.ranges
          (λ border i. let b = known.borders border i in row_stays border.row b.in_range
          (other_form border.row (λ three. let four : form (row_at s.words border.row) ≡ 4 =
          ap form b.spells ∙ b.is_border in omega arith)))
          (λ number now none row base marked. none row base
          (subst (λ its. IsMarkedBy its v.number number) (base_stays row base.0 base.1) marked))
          (λ number end note marking decided on t. true_then note t)
          (λ at before. (before, refl))
          (λ number now marked. (
            marked.0,
            marked.1,
            subst (λ its. IsMarkedBy its v.number number)
                (sym (base_stays marked.0 marked.1.0 marked.1.1)) marked.2,
          ))
          (λ note i t. true_then note t)
          known

      pub joining_then : IsJoining words' v.notes v.ways v.ranges.joins
      joining_then = joining_goes_on s.words words' v.notes v.ways v.ranges.joins (λ t _. go_on t)
          (λ note i t of. remembered_route v note.place.link t (knows.links note i) of)
          (λ note i t attempt of m now there. join_else note.place.link
          (λ e. ⊎_elim (λ (a : note.place.link ≡ row_words * t + 1). omega arith)
          (λ (a : note.place.link ≡ row_words * t + 2). omega arith) of) ∙ there)
          knows.joining

      way_stays : (way : Way) (index : ℕ) → index < row_words → index ≢ 3
          → get_or words' (row_words * way.row + index) 0 ≡ get_or s.words
          (row_words * way.row + index) 0
      way_stays way index l n = join_else (row_words * way.row + index) (λ e. n (omega arith))

      -- What a seat knows else.
      dead_apart : (way : Way) (at : ℕ) → IsDead z s.words role v.since f.history way at
          → way.row ≢ route
      dead_apart way at d e = let y : Out ≡ Route place key = sym d.is_out ∙ (ap role e ∙ is) in cc

      dead_then : (way : Way) (at : ℕ) → IsDead z s.words role v.since f.history way at
          → IsDead z words' role v.since f.history way at
      dead_then way at d = dead_stays z s.words words' role role v.since f.history f.history way
          at d.is_out
          (λ k l. join_else (row_words * way.row + k) (λ e. dead_apart way at d (omega arith)))
          (λ c under m attempt p left. record {
            is_out = left.is_out;
            same = row_stays c left.in_range
                (other_form c (λ three. let two = left.is_base in omega arith));
            objects = λ r i. let o = left.are_objects r i in
                row_stays r o.1 (other_form r (λ three. let one = o.2.0 in omega arith));
          })
          (λ l. (l, refl)) d

      pub knows_then : (uppers' : List TreeView) → Knows z r.made s.words role uppers' f.history j v
          → Knows z r.made words' role uppers' f.history j v
      knows_then uppers' k = record {
        made_before = k.made_before;
        alone = k.alone;
        seen_first = k.seen_first;
        since_first = k.since_first;
        lawful = k.lawful;
        past = k.past;
        notes = λ note i. true_then note (k.notes note i);
        links = k.links;
        ways = λ way i. let t = k.ways way i in record {
          some_row = t.some_row;
          is_route = t.is_route;
          in_range = t.in_range;
          stands = ⊎_elim (λ e. inl e) (λ d. inr (d.0, dead_then way d.0 d.1)) t.stands;
          spells = λ index fixed. way_stays way index fixed.0 fixed.3 ∙ t.spells index fixed;
        };
        way_links = k.way_links;
        one_place = k.one_place;
        joining = joining_then;
        ended = k.ended;
      }

      under_back : (way : Way) (row : ℕ) → IsUnder words' way.row row → IsUnder s.words way.row row
      under_back way row under =
          ⊎_elim (λ e. inl (sym (way_stays way 1 (omega arith) (λ x. omega arith)) ∙ e))
          (λ e. inr (sym (way_stays way 2 (omega arith) (λ x. omega arith)) ∙ e)) under

      run_its : (row : ℕ) → IsOfOwnRun s.words v row → row_at words' row ≡ row_at s.words row
      run_its row o = let n = own_note z s.words role (f.ranged.ends v.number) f.history v
          known row o in
          ap (row_at words') (sym n.2)
          ∙ (row_stays n.0.row n.1.in_range (note_apart n.0 n.1) ∙ ap (row_at s.words) n.2)

      run_back : (row : ℕ) → IsOfOwnRun words' v row → IsOfOwnRun s.words v row
      run_back = own_run_back s.words words' v
          (decided_back z s.words words' role role same_ranges v.number) run_its

      -- A base under a link of a route that it remembers.
      under_base : (way : Way) → IsIn way v.ways → (base : ℕ) → IsUnder s.words way.row base
          → IsBaseRow (row_at words' base)
          → row_at words' base ≡ row_at s.words base
      under_base way i base under b = let hi =
          (under_way z s.words role last f.shape v.since f.history way (knows.ways way i) base
          under).1 in
          row_stays base hi (λ e. let three : form (row_at words' base) ≡ 3 =
          form_same s.words words' z.rows base f.shape.wide wide' hi (but_join base)
          ∙ (ap (λ c. form (row_at s.words c)) e ∙ at_route.is_route) in omega arith)

      pub noted_before : (row : ℕ) → IsNoted words' v row → IsNoted s.words v row
      noted_before _ (by_note note row i e) = by_note note row i e
      noted_before _ (by_item note row i b k) = by_item note row i b k
      noted_before _ (by_way way row i e) = by_way way row i e
      noted_before _ (by_link way row i under) = by_link way row i (under_back way row under)
      noted_before _ (by_link_item way base row i under b k) = let was =
          under_back way base under in let e = under_base way i base was b in
          by_link_item way base row i was (subst IsBaseRow e b)
          (subst (λ its. IsIn row (items its)) e k)
      noted_before _ (by_border border row i e) = by_border border row i e
      noted_before _ (by_run row o) = by_run row (run_back row o)
      noted_before _ (by_run_item base row o k) = let was = run_back base o in
          by_run_item base row was (subst (λ its. IsIn row (items its)) (run_its base was) k)
      noted_before _ (by_shown note row i e) = by_shown note row i e
      noted_before _ (by_shown_item note row i b k) = by_shown_item note row i b k

    -- A seat knows this of joins then, and counted these turns and tries, and the rule holds again.
    module _ (id : ℕ) (d : View TreeView) (at : get_elem? s.views id ≡ some d)
        (joining : KnownJoins) (turns : Turns) (tries : Tries) (most : ℕ)
        (joined' : AreJoining z (set s.words (row_words * route + 3) word') r.above.role)
        (own : IsJoining (set s.words (row_words * route + 3) word') d.upper.notes
        d.upper.ways joining)
        (own' : Ranging) (turn : TurnsOwn d.upper.ranges.own own')
        (lone' : r.made ≤ 1 → 0 < d.upper.number → IsLone
        (set s.words (row_words * route + 3) word') r.above.role d.upper.number own' d.upper.ways
        joining.begun)
        (lone_else : (j : ℕ) (v : TreeView) → j ≢ id → get_elem? (map upper_of s.views) j ≡ some v
        → r.made ≤ 1 → 0 < v.number
        → IsLone (set s.words (row_words * route + 3) word') r.above.role v.number v.ranges.own v.ways
        v.ranges.joins.begun) where
      abbrev u' : TreeView
      u' = record d.upper {
        ranges = record d.upper.ranges { own = own'; joins = joining };
        turns =
            turns;
        tries = tries;
      }

      abbrev d' : View TreeView
      d' = record d {
        upper =
            record d.upper {
              ranges = record d.upper.ranges { own = own'; joins = joining };
              turns =
                  turns;
              tries = tries;
            };
        most = most;
      }

      first : get_elem? (map upper_of s.views) id ≡ some d.upper
      first = at_map upper_of s.views id d at

      still : (j : ℕ) (v : TreeView) (here : get_elem? (map upper_of s.views) j ≡ some v)
          → Knows z r.made words' role (set (map upper_of s.views) id u') f.history j v
      still j v here = knows_then j v here (set (map upper_of s.views) id u')
          (relisted z r.made s.words role (map upper_of s.views) (set (map upper_of s.views) id u')
          f.history j v
          (numbered (map upper_of s.views) id d.upper u' first (λ _. refl)) (f.each_seat j v here))

      own_knows : Knows z r.made words' role (set (map upper_of s.views) id u') f.history id u'
      own_knows = let k = still id d.upper first in record {
        made_before = k.made_before;
        alone = k.alone;
        seen_first = k.seen_first;
        since_first = k.since_first;
        lawful = k.lawful;
        past = k.past;
        notes = k.notes;
        links = k.links;
        ways = k.ways;
        way_links = k.way_links;
        one_place = k.one_place;
        joining = own;
        ended = k.ended;
      }

      own_ranging : IsRanging z words' role (f.ranged.ends u'.number) u'.since f.history
          u'.number u'.ranges
      own_ranging = let k = ranging_then id d.upper first in record {
        over = k.over;
        borders = k.borders;
        own = λ pass. so_turned z words' role (f.ranged.ends d.upper.number) d.upper.since f.history
            d.upper.number d.upper.ranges.borders
            d.upper.ranges.own own' turn (k.own pass);
        sequence = k.sequence;
        run = k.run;
      }

      run_was : (row : ℕ) → IsOfOwnRun words' u' row → IsOfOwnRun words' d.upper row
      run_was row o = (
        o.0,
        o.1,
        (o.2.0, o.2.1, marking_back d.upper.ranges.own own' turn o.2.0 o.2.1 o.2.2, o.2.3),
        o.3,
        o.4,
      )

      control : (i : ℕ) → i < row_words → get_or words' i 0 ≡ get_or s.words i 0
      control i l = let lo = at_route.some_row in join_else i (λ e. omega arith)

      tree_now : IsTree z r.made words' (set (map upper_of s.views) id u')
      tree_now = record {
        usable = f.usable;
        history = f.history;
        edits = f.edits;
        by_passes = f.by_passes;
        keypos = control 131 (omega arith) ∙ f.keypos;
        leaf = control 132 (omega arith) ∙ f.leaf;
        levels = control 133 (omega arith) ∙ f.levels;
        role = role;
        shape = shape';
        ranged = record {
          ends = f.ranged.ends;
          runs = runs';
          made_before = λ pass number now. f.ranged.made_before pass number
              (active_back z s.words words' role role same_ranges pass number now);
          each = all_seats (λ j v. IsRanging z words' role (f.ranged.ends v.number) v.since
              f.history v.number v.ranges)
              (map upper_of s.views) id u' own_ranging (λ j v n here. ranging_then j v here);
        };
        joined = joined';
        lone = all_seats (λ j v. r.made ≤ 1 → 0 < v.number
            → IsLone words' role v.number v.ranges.own v.ways v.ranges.joins.begun) (map upper_of s.views)
            id u' lone' lone_else;
        each_seat = all_seats
            (Knows z r.made words' role (set (map upper_of s.views) id u') f.history)
            (map upper_of s.views) id u' own_knows (λ j v n here. still j v here);
        inventory = f.inventory;
        listed = listed';
        at_first = f.at_first;
        only_one = all_seats (λ j v. r.made ≤ 1 → 0 < v.number
            → OwnsTree words' role f.inventory (own_tree v)) (map upper_of s.views) id u'
            (λ few lo. owns_still s.words words' role f.inventory (own_tree d.upper) lent_then
            (f.only_one id d.upper first few lo))
            (λ j v n here few lo. owns_still s.words words' role f.inventory (own_tree v) lent_then
            (f.only_one j v here few lo));
      }

      pub join_step : R z record {
        words = set s.words (row_words * route + 3) word';
        homes = s.homes;
        views = set s.views id
            (record d {
              upper = record d.upper {
                ranges =
                    record d.upper.ranges { own = own'; joins = joining };
                turns = turns;
                tries = tries;
              };
              most = most;
            });
      }
      join_step = relinks IsLinked IsLent IsNoted IsTree tree_lends z s r id d d' words'
          (λ _. Stays) record {
            at = at;
            same_sizes = refl;
            same_made = refl;
            same_stage = refl;
            same_lost = refl;
            same_pin = refl;
            wide = wide' ∙ sym r.wide;
            low = λ i l. control i (omega arith);
            announcements = same_told;
            unlinked_rows = λ c k lo hi n l. join_else (row_words * c + k)
                (λ e. n (subst (IsLinked s.words) (route_is c k l e) route_linked));
            changes = λ c _ _. (linked_before c, linked_then c, lent_before c, lent_then c, refl);
            in_range = (r.seat id d at).in_range;
            notes = λ j y here c n. ⊎_elim
                (λ (t : (j ≡ id) × (d' ≡ y)). inl (
                  d,
                  ap (get_elem? s.views) t.0 ∙ at,
                  noted_before id d.upper first c
                      (noted_alike words' d.upper u' (λ x i. i) (λ x i. i) (λ x i. i) run_was
                      (λ x i. i) c
                      (subst (λ (w : View TreeView). IsNoted words' w.upper c) (sym t.1) n)),
                ))
                (λ (t : (j ≢ id) × (get_elem? s.views j ≡ some y)). inl
                (y, t.1, noted_before j y.upper (at_map upper_of s.views j y t.1) c n))
                (at_set s.views id j d' y here);
            above = subst (IsTree z r.made words') (sym (map-set upper_of s.views id d')) tree_now;
          }
        where
          route_linked : IsLinked s.words route
          route_linked = placed_linked z s.words role last f.shape route place (ap place_of is)

          route_is : (c k : ℕ) → k < row_words → row_words * c + k ≡ row_words * route + 3
              → route ≡ c
          route_is c k l e = omega arith
