-- The rule of the tree meets the laws of the rows.
use Rattle.std.proofs.Common.{◌≡◌, ◌≢◌, ◌⊎◌, ℕ, zero, suc, ◌+◌, ◌*◌, ◌<◌, ◌≤◌, List, [], ◌∷◌, ◌++◌, length, map, get_or, set, sym, refl, ap, ◌∙◌, subst, inl, inr, ⊎_elim, arith, append-nil, ne_eqb, if◌then◌else◌}
use mathlib.Core.Logic.{dite}
use mathlib.Core.Option.{some, some-injective, some-ne-none}
use native.Mathlib.Decide.{ℕ_discrete}
use lib.ListN.{get_elem?}
use Rattle.atomic_table.proofs.Lists.{at_set, set_else}
use Rattle.ca_model.specs.History.{History, after, edits_of_pass, AreByPasses}
use Rattle.ca_model.specs.StoreMap.{StoreMap}
use Rattle.ca_rows.specs.declared.sizes.Sizes.{Sizes}
use Rattle.ca_rows.specs.Laws.{Agrees, Framed, Frames, Lends, Listing, Pinning, Making, Closing}
use Rattle.ca_rows.specs.Words.{IsWide}
use Rattle.ca_runs.specs.Runs.{Ends}
use Rattle.ca_runs.proofs.Keeping.{runs_still}
use Rattle.ca_rows.proofs.Making.{at_place}
use Rattle.ca_rows.proofs.Rules.{all_seats}
use Rattle.ca_node.specs.Attempts.{IsSecured}
use Rattle.ca_node.specs.DeadStays.{dead_stays, under_dead}
use Rattle.ca_node.specs.Inventory.{HasListed, IsInventory, OwnsTree, own_tree}
use Rattle.ca_node.specs.Joining.{IsJoining}
use Rattle.ca_node.specs.JoinsStay.{joining_same, nothing_joining, joined_same}
use Rattle.ca_node.specs.Links.{root, IsIn, IsUnder, IsActive, IsLinked, by_route, by_range, IsLent, IsOfOwnRun, IsNoted, by_note, by_item, by_way, by_link, by_link_item, by_border, by_run, by_run_item, by_shown, by_shown_item}
use Rattle.ca_node.specs.Lone.{IsLone}
use Rattle.ca_node.specs.LoneStays.{same_kept, left_kept, same_active, left_active, lone_still, lone_same, no_route_first}
use Rattle.ca_node.specs.Place.{Place, IsLinkOf, root_place}
use Rattle.ca_node.specs.Ranging.{IsSoFar, IsRanging, AreRanged}
use Rattle.ca_node.specs.RangesStay.{own_note, own_run_back, begun_on, decided_back, ranging_stays}
use Rattle.ca_node.specs.Reached.{route_at, placed_linked, linked_range}
use Rattle.ca_node.specs.Row.{row_at, IsObjectRow, IsBaseRow, items, IsMarkedBy, route_key}
use Rattle.ca_node.specs.Scenes.{IsBase, mark_of, scene_of}
use Rattle.ca_node.specs.Shape.{Role, Out, Base, Route, place_of, IsSo, IsShape}
use Rattle.ca_node.specs.Standing.{shape_stands}
use Rattle.ca_node.specs.Stays.{IsSameRow, row_same, map_same, linked_on, linked_back, lent_on, lent_back}
use Rattle.ca_node.specs.Tree.{StartsWith, IsAlive, IsDead, IsTrue, IsTrueWay, IsEnded, Knows, IsTree}
use Rattle.ca_node.specs.TreeView.{Note, Way, Border, Begun, Ranging, Quiet, Unmarked, Marking, Left, Joining, Secured, Ended, Inventory, TreeView, no_ranges, first_inventory, blank, ended_of, and_ended, ended_with, left_over, pinned, unpinned}
use Rattle.ca_rows.specs.Layout.{row_words, passes_words}
use Rattle.ca_node.specs.Layout.{root_word}

-- A route that a seat remembers is alive, if no attempt of it is secured.
pub alive : (z : Sizes) (words : List ℕ) (role : ℕ → Role) (since history : History) (way : Way) → IsTrueWay z words role since history way
    → ((attempt : ℕ) → ¬ IsSecured words way.row attempt) → IsAlive role way
alive z words role since history way t free = ⊎_elim (λ (e : IsAlive role way). e) (λ d. absurd (free d.1.attempt d.1.secured)) t.stands

pub in_nothing : {A : Type 0} (x : A) (xs : List A) → xs ≡ [] → IsIn x xs → ⊥
in_nothing x xs e i = some-ne-none x (sym (ap (λ ys. get_elem? ys i.0) (sym e) ∙ i.1))

-- A list of one has no other member.
pub in_one : {A : Type 0} (x y : A) → IsIn y (x ∷ []) → x ≡ y
in_one x y i = by i.0 i.1
  where
    by : (k : ℕ) → get_elem? (x ∷ []) k ≡ some y → x ≡ y
    by zero e = some-injective x y e
    by (suc k) e = absurd (some-ne-none y (sym e))

-- What has a place in the tree is in range.
pub placed_range : (z : Sizes) (words : List ℕ) (role : ℕ → Role) (map : StoreMap) → IsShape z words role map → (row : ℕ) (place : Place)
    → place_of (role row) ≡ some place → (0 < row) × (row ≤ z.rows)
placed_range z words role map shape row place e = by (role row) refl (shape.each_row row)
  where
    by : (o : Role) → role row ≡ o → IsSo z words role map row o → (0 < row) × (row ≤ z.rows)
    by Out is so = absurd (some-ne-none place (sym e ∙ ap place_of is))
    by (Base at) is so = (so.some_row, so.in_range)
    by (Route at key) is so = (so.some_row, so.in_range)

-- What a route's link names has a place.
pub under_placed : (z : Sizes) (words : List ℕ) (role : ℕ → Role) (map : StoreMap) → IsShape z words role map → (route row : ℕ) (place : Place) (key : List ℕ)
    → role route ≡ Route place key → IsUnder words route row → (at : Place) × (place_of (role row) ≡ some at)
under_placed z words role map shape route row place key is under = let so = subst (IsSo z words role map route) is (shape.each_row route) in ⊎_elim
    (λ (e : get_or words (row_words * route + 1) 0 ≡ row). (_, ap (λ r. place_of (role r)) (sym e) ∙ so.left.hangs))
    (λ (e : get_or words (row_words * route + 2) 0 ≡ row). (_, ap (λ r. place_of (role r)) (sym e) ∙ so.right.hangs)) under

-- What the link of a route names that a seat remembers is in range.
pub under_way : (z : Sizes) (words : List ℕ) (role : ℕ → Role) (map : StoreMap) → IsShape z words role map → (since history : History) (way : Way)
    → IsTrueWay z words role since history way → (row : ℕ) → IsUnder words way.row row → (0 < row) × (row ≤ z.rows)
under_way z words role map shape since history way t row under = ⊎_elim
    (λ (e : IsAlive role way). let p = under_placed z words role map shape way.row row way.place (route_key way.its) e under in
    placed_range z words role map shape row p.0 p.1)
    (λ (d : (at : ℕ) × IsDead z words role since history way at). let b = (under_dead z words role since history way d.0 d.1 row under).1 in
    (b.some_row, b.in_range))
    t.stands

-- A seat that remembers no more, but rows of which this holds that say up to where ranges go or are of a run that it was shown, and whose own range is as
-- far, has no note more, but on rows of which this holds.
pub noted_more : (words : List ℕ) (u v : TreeView) (P : ℕ → Type 0) → ((note : Note) → IsIn note v.notes → IsIn note u.notes)
    → ((way : Way) → IsIn way v.ways → IsIn way u.ways)
    → ((border : Border) → IsIn border v.ranges.borders → IsIn border u.ranges.borders ⊎ P border.row)
    → ((row : ℕ) → IsOfOwnRun words v row → IsOfOwnRun words u row)
    → ((note : Note) → IsIn note v.ranges.run → IsIn note u.ranges.run ⊎ (P note.row × (IsBaseRow note.its → (r : ℕ) → IsIn r (items note.its) → P r)))
    → (row : ℕ) → IsNoted words v row → IsNoted words u row ⊎ P row
noted_more words u v P notes ways borders run shown _ (by_note note row i e) = inl (by_note note row (notes note i) e)
noted_more words u v P notes ways borders run shown _ (by_item note row i b k) = inl (by_item note row (notes note i) b k)
noted_more words u v P notes ways borders run shown _ (by_way way row i e) = inl (by_way way row (ways way i) e)
noted_more words u v P notes ways borders run shown _ (by_link way row i e) = inl (by_link way row (ways way i) e)
noted_more words u v P notes ways borders run shown _ (by_link_item way base row i e f k) = inl (by_link_item way base row (ways way i) e f k)
noted_more words u v P notes ways borders run shown _ (by_border border row i e) =
    ⊎_elim (λ o. inl (by_border border row o e)) (λ p. inr (subst P e p)) (borders border i)
noted_more words u v P notes ways borders run shown _ (by_run row o) = inl (by_run row (run row o))
noted_more words u v P notes ways borders run shown _ (by_run_item base row o k) = inl (by_run_item base row (run base o) k)
noted_more words u v P notes ways borders run shown _ (by_shown note row i e) =
    ⊎_elim (λ o. inl (by_shown note row o e)) (λ (p : P note.row × (IsBaseRow note.its → (r : ℕ) → IsIn r (items note.its) → P r)). inr (subst P e p.0))
    (shown note i)
noted_more words u v P notes ways borders run shown _ (by_shown_item note row i b k) =
    ⊎_elim (λ o. inl (by_shown_item note row o b k)) (λ (p : P note.row × (IsBaseRow note.its → (r : ℕ) → IsIn r (items note.its) → P r)). inr (p.1 b row k))
    (shown note i)

-- One that remembers no more has no note more.
pub noted_alike : (words : List ℕ) (u v : TreeView) → ((note : Note) → IsIn note v.notes → IsIn note u.notes)
    → ((way : Way) → IsIn way v.ways → IsIn way u.ways) → ((border : Border) → IsIn border v.ranges.borders → IsIn border u.ranges.borders)
    → ((row : ℕ) → IsOfOwnRun words v row → IsOfOwnRun words u row) → ((note : Note) → IsIn note v.ranges.run → IsIn note u.ranges.run)
    → (row : ℕ) → IsNoted words v row → IsNoted words u row
noted_alike words u v notes ways borders run shown row n = ⊎_elim (λ (o : IsNoted words u row). o) (λ (none : ⊥). absurd none)
    (noted_more words u v (λ _. ⊥) notes ways (λ border i. inl (borders border i)) run (λ note i. inl (shown note i)) row n)

-- A seat whose range is quiet, or left, has none of a run of its own.
pub left_run : (words : List ℕ) (u v : TreeView) (row : ℕ) → v.ranges.own ≡ left_over u.ranges.own → ¬ IsOfOwnRun words v row
left_run words u v row is o = by u.ranges.own o.2.0 o.2.1 (sym is ∙ o.2.2)
  where
    by : (own : Ranging) (begun : Begun) (border : Border) → ¬ (left_over own ≡ Marking begun border)
    by Quiet begun border e = absurd cc
    by (Unmarked b) begun border e = absurd cc
    by (Marking b c) begun border e = absurd cc
    by Left begun border e = absurd cc
    by (Joining x) begun border e = absurd cc
    by (Secured x) begun border e = absurd cc

-- What a seat knows of what the tree has it knows still, where what was lent to an operation is.
pub owns_still : (words others : List ℕ) (role : ℕ → Role) (i : Inventory) (own : Inventory × ℕ × ℕ)
    → ((row : ℕ) → IsLent words row → IsLent others row) → OwnsTree words role i own → OwnsTree others role i own
owns_still words others role i own lent o = record {
  whole = o.whole;
  shallow = o.shallow;
  few = o.few;
  rows = (o.rows.0, λ none. o.rows.1 (λ row l. none row (lent row l)));
}

-- The rows are the same where a table agrees with another on what is linked or noted.
module _ (z : Sizes) (made : ℕ) (uppers : List TreeView) (words others : List ℕ) (f : IsTree z made words uppers)
    (a : Agrees IsLinked IsLent IsNoted IsTree uppers words others) where
  wide' : IsWide z.rows others
  wide' = a.wide ∙ f.shape.wide

  same_root : root others ≡ root words
  same_root = a.control root_word (omega arith) (omega arith)

  active : (pass sequence : ℕ) → (IsActive others pass sequence → IsActive words pass sequence) × (IsActive words pass sequence → IsActive others pass sequence)
  active pass sequence = (
    (λ x. let lo = x.0 in let hi = x.1 in (x.0, x.1, sym (a.results pass lo hi) ∙ x.2)),
    (λ x. let lo = x.0 in let hi = x.1 in (x.0, x.1, a.results pass lo hi ∙ x.2)),
  )

  range : (row : ℕ) → IsLinked words row → (0 < row) × (row ≤ z.rows)
  range = linked_range z words f.role (after f.history []) f.shape

  in_range : (row : ℕ) → IsLinked words row → row ≤ z.rows
  in_range row l = (range row l).1

  room : (row : ℕ) → row ≤ z.rows → row_words * row + row_words + passes_words ≤ length words
  room row hi = let w = f.shape.wide in omega arith

  same : (row : ℕ) → IsLinked words row → IsSameRow words others row
  same row l k inside = a.seen row k (range row l).0 (room row (in_range row l)) (inl l) inside

  shape_now : IsShape z others f.role (after f.history [])
  shape_now = shape_stands z words others f.role (after f.history []) f.shape wide' same_root
      (λ pass lo hi. let e = a.results pass lo hi in omega arith) (λ base place is pass number m x. (active pass number).0 x) same

  -- A base has the same words.
  scene_on : (row : ℕ) → IsBase f.role row → row_at others row ≡ row_at words row
  scene_on row base = let l = placed_linked z words f.role (after f.history []) f.shape row base.0 (ap place_of base.1) in
      row_same words others z.rows row f.shape.wide wide' (in_range row l) (same row l)

  -- What one seat has a note on.
  module _ (j : ℕ) (u : TreeView) (at : get_elem? uppers j ≡ some u) where
    knows : Knows z made words f.role uppers f.history j u
    knows = f.each_seat j u at

    noted_same : (row : ℕ) → 0 < row → row ≤ z.rows → IsNoted words u row → IsSameRow words others row
    noted_same row lo hi n k inside = a.seen row k lo (room row hi) (inr (j, u, at, n)) inside

    noted_its : (row : ℕ) → 0 < row → row ≤ z.rows → IsNoted words u row → row_at others row ≡ row_at words row
    noted_its row lo hi n = row_same words others z.rows row f.shape.wide wide' hi (noted_same row lo hi n)

    true_now : (note : Note) → IsNoted words u note.row → (IsBaseRow note.its → (r : ℕ) → IsIn r (items note.its) → IsNoted words u r)
        → IsTrue z.rows words f.role note → IsTrue z.rows others f.role note
    true_now note noted items_noted t = record {
      some_row = t.some_row;
      in_range = t.in_range;
      spells = noted_its note.row t.some_row t.in_range noted ∙ t.spells;
      named = λ b r n. let o = t.named b r n in (o.0, o.1, subst IsObjectRow (sym (noted_its r o.0 o.1 (items_noted b r n))) o.2);
      objects_are = λ b. map_same (λ r. row_at others r) (λ r. row_at words r) (items note.its)
          (λ r n. let o = t.named b r n in noted_its r o.0 o.1 (items_noted b r n)) ∙ t.objects_are b;
      stands = t.stands;
      marks = λ pass number m. let was = t.marks pass number m in
          (begun_on z words others f.role f.role a.results pass number was.0, λ now. was.1 ((active pass number).0 now));
    }

    note_now : (note : Note) → IsIn note u.notes → IsTrue z.rows others f.role note
    note_now note i = true_now note (by_note note note.row i refl) (λ b r n. by_item note r i b n) (knows.notes note i)

    known_ranges : IsRanging z words f.role (f.ranged.ends u.number) u.since f.history u.number u.ranges
    known_ranges = f.ranged.each j u at

    ranges_now : IsRanging z others f.role (f.ranged.ends u.number) u.since f.history u.number u.ranges
    ranges_now = ranging_stays z words others f.role f.role a.results (f.ranged.ends u.number) u.since f.history f.history u.number u.ranges
        (λ border i. let b = known_ranges.borders border i in noted_its border.row b.some_row b.in_range (by_border border border.row i refl))
        (λ number now none row base marked. none row base (subst (λ its. IsMarkedBy its u.number number) (scene_on row base) marked))
        (λ number last note marking decided on t. true_now note (by_run note.row (number, last, marking, decided, on))
        (λ b r n. by_run_item note.row r (number, last, marking, decided, on) (subst (λ its. IsIn r (items its)) (sym t.spells) n)) t)
        (λ at before. (before, refl))
        (λ number now marked. (marked.0, marked.1, subst (λ its. IsMarkedBy its u.number number) (sym (scene_on marked.0 marked.1)) marked.2))
        (λ note i t. true_now note (by_shown note note.row i refl) (λ b r n. by_shown_item note r i b n) t)
        known_ranges

    -- The run of the seat's own range is as it was.
    run_its : (row : ℕ) → IsOfOwnRun words u row → row_at others row ≡ row_at words row
    run_its row o = let n = own_note z words f.role (f.ranged.ends u.number) f.history u known_ranges row o in
        noted_its row (subst (λ r. 0 < r) n.2 n.1.some_row) (subst (λ r. r ≤ z.rows) n.2 n.1.in_range) (by_run row o)

    run_back : (row : ℕ) → IsOfOwnRun others u row → IsOfOwnRun words u row
    run_back = own_run_back words others u (decided_back z words others f.role f.role a.results u.number) run_its

    way_range : (way : Way) → IsIn way u.ways → (0 < way.row) × (way.row ≤ z.rows)
    way_range way i = let t = knows.ways way i in (t.some_row, t.in_range)

    way_same : (way : Way) → IsIn way u.ways → IsSameRow words others way.row
    way_same way i = noted_same way.row (way_range way i).0 (way_range way i).1 (by_way way way.row i refl)

    way_now : (way : Way) → IsIn way u.ways → IsTrueWay z others f.role u.since f.history way
    way_now way i = let t = knows.ways way i in record {
      some_row = t.some_row;
      is_route = t.is_route;
      in_range = t.in_range;
      stands = ⊎_elim (λ e. inl e)
          (λ d. inr (
            d.0,
            dead_stays z words others f.role f.role u.since f.history f.history way d.0 d.1.is_out (way_same way i)
                (λ c under m attempt place left. record {
                  is_out = left.is_out;
                  same = noted_its c left.some_row left.in_range (by_link way c i under);
                  objects = λ r k. let o = left.are_objects r k in noted_its r o.0 o.1 (by_link_item way c r i under left.is_base k);
                })
                (λ l. (l, refl)) d.1,
          )) t.stands;
      spells = λ index fixed. way_same way i index fixed.0 ∙ t.spells index fixed;
    }

    joining_now : IsJoining others u.notes u.ways u.ranges.joins
    joining_now = joining_same words others u knows.links
        way_same knows.joining

    under_back : (way : Way) → IsIn way u.ways → (row : ℕ) → IsUnder others way.row row → IsUnder words way.row row
    under_back way i row under = let s = way_same way i in
        ⊎_elim (λ e. inl (sym (s 1 (omega arith)) ∙ e)) (λ e. inr (sym (s 2 (omega arith)) ∙ e)) under

    under_range : (way : Way) → IsIn way u.ways → (row : ℕ) → IsUnder words way.row row → (0 < row) × (row ≤ z.rows)
    under_range way i = under_way z words f.role (after f.history []) f.shape u.since f.history way (knows.ways way i)

    notes_back : (row : ℕ) → IsNoted others u row → IsNoted words u row
    notes_back _ (by_note note row i e) = by_note note row i e
    notes_back _ (by_item note row i b k) = by_item note row i b k
    notes_back _ (by_way way row i e) = by_way way row i e
    notes_back _ (by_link way row i under) = by_link way row i (under_back way i row under)
    notes_back _ (by_link_item way base row i under b k) = let was = under_back way i base under in let lo = under_range way i base was in
        let e = noted_its base lo.0 lo.1 (by_link way base i was) in
        by_link_item way base row i was (subst IsBaseRow e b) (subst (λ its. IsIn row (items its)) e k)
    notes_back _ (by_border border row i e) = by_border border row i e
    notes_back _ (by_run row o) = by_run row (run_back row o)
    notes_back _ (by_run_item base row o k) = let was = run_back base o in
        by_run_item base row was (subst (λ its. IsIn row (items its)) (run_its base was) k)
    notes_back _ (by_shown note row i e) = by_shown note row i e
    notes_back _ (by_shown_item note row i b k) = by_shown_item note row i b k

  linked_then : (row : ℕ) → IsLinked others row → IsLinked words row
  linked_then row = linked_back z.rows words others f.shape.wide wide' same_root active in_range same row

  linked_now : (row : ℕ) → IsLinked words row → IsLinked others row
  linked_now row = linked_on z.rows words others f.shape.wide wide' same_root active in_range same row

  listed_now : IsInventory others f.role f.inventory
  listed_now = record {
    linked = λ row l. f.listed.linked row (linked_then row l);
    rows = λ row i. linked_now row (f.listed.rows row i);
    rows_once = f.listed.rows_once;
    based = f.listed.based;
    bases = f.listed.bases;
    bases_once = f.listed.bases_once;
  }

  ranged_now : AreRanged z made others f.role uppers f.history
  ranged_now = record {
    ends = f.ranged.ends;
    runs = runs_still (scene_of words f.role) (scene_of others f.role) f.ranged.ends f.ranged.runs record {
      alike = record {
        active = λ pass number now. (active pass number).1 now;
        was_active = λ pass number now. (active pass number).0 now;
        begun = λ pass number b. begun_on z words others f.role f.role a.results pass number b;
      };
      stay = λ pass number row now base marked. (base, refl, ap mark_of (scene_on row base));
      begun = λ pass number row base marked. begun_on z words others f.role f.role a.results pass number
          (f.ranged.runs.begun pass number row base (subst (λ its. IsMarkedBy its pass number) (scene_on row base) marked));
      were = λ pass number row base marked now. (base, subst (λ its. IsMarkedBy its pass number) (scene_on row base) marked);
    };
    made_before = λ pass number now. f.ranged.made_before pass number ((active pass number).0 now);
    each = λ j u at. ranges_now j u at;
  }

  -- A row under a route of the tree is there still, with the words that it had, and so is the route's join word.
  join_now : (route : ℕ) (place : Place) (key : List ℕ) → f.role route ≡ Route place key → IsSameRow words others route
  join_now route place key is = same route (placed_linked z words f.role (after f.history []) f.shape route place (ap place_of is))

  child_now : (route : ℕ) (place : Place) (key : List ℕ) → f.role route ≡ Route place key → (link : ℕ) → IsLinkOf route link
      → IsBaseRow (row_at words (get_or words link 0)) → row_at others (get_or others link 0) ≡ row_at words (get_or words link 0)
  child_now route place key is link of _ = let c = get_or words link 0 in
      let above = placed_linked z words f.role (after f.history []) f.shape route place (ap place_of is) in
      let l = by_route route c above (route_at z words f.role (after f.history []) f.shape route place key is).is_route
      (⊎_elim (λ e. inl (ap (λ i. get_or words i 0) (sym e))) (λ e. inr (ap (λ i. get_or words i 0) (sym e))) of) in
      let here : get_or others link 0 ≡ c = ⊎_elim
      (λ (e : link ≡ row_words * route + 1). subst (λ i. get_or others i 0 ≡ get_or words i 0) (sym e) (join_now route place key is 1 (omega arith)))
      (λ (e : link ≡ row_words * route + 2). subst (λ i. get_or others i 0 ≡ get_or words i 0) (sym e) (join_now route place key is 2 (omega arith))) of in
      ap (row_at others) here ∙ row_same words others z.rows c f.shape.wide wide' (in_range c l) (same c l)

  tree_now : IsTree z made others uppers
  tree_now = record {
    usable = f.usable;
    history = f.history;
    edits = f.edits;
    by_passes = f.by_passes;
    keypos = a.control 131 (omega arith) (omega arith) ∙ f.keypos;
    leaf = a.control 132 (omega arith) (omega arith) ∙ f.leaf;
    levels = a.control 133 (omega arith) (omega arith) ∙ f.levels;
    role = f.role;
    shape = shape_now;
    ranged = ranged_now;
    joined = joined_same z words others f.role (λ route place key is. join_now route place key is 3 (omega arith)) child_now f.joined;
    lone = λ j u at few lo. lone_still words others f.role f.role u.number u.ranges.own u.ranges.own u.ways u.ways u.ranges.joins.begun u.ranges.joins.begun
        (λ route place key is. inr (place, key, is, join_now route place key is 3 (omega arith)))
        (λ route place key is. (is, join_now route place key is 3 (omega arith))) (λ way i. inl i) (same_kept u.ranges.own)
        (same_active words others u.number u.ranges.own (λ number now. (active u.number number).1 now)) refl (f.lone j u at few lo);
    each_seat = λ j u at. let k = f.each_seat j u at in record {
      made_before = k.made_before;
      alone = k.alone;
      seen_first = k.seen_first;
      since_first = k.since_first;
      lawful = k.lawful;
      past = k.past;
      notes = note_now j u at;
      links = k.links;
      ways = way_now j u at;
      way_links = k.way_links;
      one_place = k.one_place;
      joining = joining_now j u at;
      ended = k.ended;
    };
    inventory = f.inventory;
    listed = listed_now;
    at_first = f.at_first;
    only_one = λ j u at few lo. owns_still words others f.role f.inventory (own_tree u)
        (lent_on z.rows words others f.shape.wide wide' same_root active in_range same) (f.only_one j u at few lo);
  }

  framed : Framed IsLinked IsLent IsNoted IsTree z made uppers words others
  framed = record {
    stays = tree_now;
    links = λ r. (linked_then r, linked_now r);
    lents = λ r. (
      lent_back z.rows words others f.shape.wide wide' same_root active in_range same r,
      lent_on z.rows words others f.shape.wide wide' same_root active in_range same r,
    );
    notes = λ j u at r n. notes_back j u at r n;
  }

pub tree_frames : Frames IsLinked IsLent IsNoted IsTree
tree_frames z made uppers words others f a = framed z made uppers words others f a

pub tree_lends : Lends IsLinked IsLent IsNoted IsTree
tree_lends z made uppers words f r x = by_range x.0 r x.1 x.2 x.3

pub tree_listing : Listing IsLinked IsLent IsNoted IsTree HasListed
tree_listing z made uppers words f few j u at r l = dite (ℕ_discrete u.number 0) (λ e. inr e)
    (λ n. let own = (f.only_one j u at few (omega arith)).whole in
    inl (subst (λ (i : Inventory). IsIn r i.rows) (sym own) (f.listed.linked r l)))

-- Who is there now was there with this number.
abbrev pub IsNumbered : List TreeView → List TreeView → Type 0
IsNumbered uppers uppers' = (i : ℕ) (v : TreeView) → get_elem? uppers' i ≡ some v → 0 < v.number → (y : TreeView) × (get_elem? uppers i ≡ some y)
    × (y.number ≡ v.number)

pub numbered : (uppers : List TreeView) (id : ℕ) (u u' : TreeView) → get_elem? uppers id ≡ some u → (0 < u'.number → u'.number ≡ u.number)
    → IsNumbered uppers (set uppers id u')
numbered uppers id u u' at same i v here lo = ⊎_elim
    (λ (t : (i ≡ id) × (u' ≡ v)). let n = ap (λ (y : TreeView). y.number) t.1 in (u, ap (get_elem? uppers) t.0 ∙ at, sym (same (omega arith)) ∙ n))
    (λ (t : (i ≢ id) × (get_elem? uppers i ≡ some v)). (v, t.1, refl)) (at_set uppers id i u' v here)

pub relisted : (z : Sizes) (made : ℕ) (words : List ℕ) (role : ℕ → Role) (uppers uppers' : List TreeView) (history : History) (j : ℕ) (u : TreeView)
    → IsNumbered uppers uppers' → Knows z made words role uppers history j u → Knows z made words role uppers' history j u
relisted z made words role uppers uppers' history j u n k = record {
  made_before = k.made_before;
  alone = λ lo i v here same. let y = n i v here (omega arith) in k.alone lo i y.0 y.1 (y.2 ∙ same);
  seen_first = k.seen_first;
  since_first = k.since_first;
  lawful = k.lawful;
  past = k.past;
  notes = k.notes;
  links = k.links;
  ways = k.ways;
  way_links = k.way_links;
  one_place = k.one_place;
  joining = k.joining;
  ended = λ x i. let e = k.ended x i in let lo = e.some_number in record {
    some_number = lo;
    made_before = e.made_before;
    lawful = e.lawful;
    gone = λ s v here same. let y = n s v here (omega arith) in e.gone s y.0 y.1 (y.2 ∙ same);
  };
}

-- One seat's view is another.
pub seat_changed : (z : Sizes) (made : ℕ) (words : List ℕ) (uppers : List TreeView) (id : ℕ) (u u' : TreeView) (f : IsTree z made words uppers)
    → get_elem? uppers id ≡ some u → (0 < u'.number → u'.number ≡ u.number) → (0 < u'.number → own_tree u' ≡ own_tree u)
    → (made ≤ 1 → 0 < u'.number → IsLone words f.role u'.number u.ranges.own u.ways u.ranges.joins.begun
    → IsLone words f.role u'.number u'.ranges.own u'.ways u'.ranges.joins.begun)
    → Knows z made words f.role (set uppers id u') f.history id u'
    → IsRanging z words f.role (f.ranged.ends u'.number) u'.since f.history u'.number u'.ranges → IsTree z made words (set uppers id u')
seat_changed z made words uppers id u u' f at same has lone k ranging = record {
  usable = f.usable;
  history = f.history;
  edits = f.edits;
  by_passes = f.by_passes;
  keypos = f.keypos;
  leaf = f.leaf;
  levels = f.levels;
  role = f.role;
  shape = f.shape;
  ranged = record {
    ends = f.ranged.ends;
    runs = f.ranged.runs;
    made_before = f.ranged.made_before;
    each = all_seats (λ j v. IsRanging z words f.role (f.ranged.ends v.number) v.since f.history v.number v.ranges) uppers id u' ranging
        (λ j v n here. f.ranged.each j v here);
  };
  joined = f.joined;
  lone = all_seats (λ j v. made ≤ 1 → 0 < v.number → IsLone words f.role v.number v.ranges.own v.ways v.ranges.joins.begun) uppers id u'
      (λ few lo. let n = same lo in lone few lo (subst (λ (p : ℕ). IsLone words f.role p u.ranges.own u.ways u.ranges.joins.begun) (sym n)
      (f.lone id u at few (omega arith)))) (λ j v n here. f.lone j v here);
  each_seat = all_seats (Knows z made words f.role (set uppers id u') f.history) uppers id u' k
      (λ j v n here. relisted z made words f.role uppers (set uppers id u') f.history j v (numbered uppers id u u' at same) (f.each_seat j v here));
  inventory = f.inventory;
  listed = f.listed;
  at_first = f.at_first;
  only_one = all_seats (λ j v. made ≤ 1 → 0 < v.number → OwnsTree words f.role f.inventory (own_tree v)) uppers id u'
      (λ few lo. let n = same lo in subst (OwnsTree words f.role f.inventory) (sym (has lo)) (f.only_one id u at few (omega arith)))
      (λ j v n here. f.only_one j v here);
}

pub starts_whole : (h : History) → StartsWith h h
starts_whole h = ([], sym (append-nil h))

pub no_notes : (words : List ℕ) (u : TreeView) (row : ℕ) → u.notes ≡ [] → u.ways ≡ [] → u.ranges.borders ≡ [] → ((r : ℕ) → ¬ IsOfOwnRun words u r)
    → u.ranges.run ≡ [] → ¬ IsNoted words u row
no_notes words u _ empty empty_too no_borders no_run none_shown (by_note note row i e) = in_nothing note u.notes empty i
no_notes words u _ empty empty_too no_borders no_run none_shown (by_item note row i b k) = in_nothing note u.notes empty i
no_notes words u _ empty empty_too no_borders no_run none_shown (by_way way row i e) = in_nothing way u.ways empty_too i
no_notes words u _ empty empty_too no_borders no_run none_shown (by_link way row i e) = in_nothing way u.ways empty_too i
no_notes words u _ empty empty_too no_borders no_run none_shown (by_link_item way base row i e f k) = in_nothing way u.ways empty_too i
no_notes words u _ empty empty_too no_borders no_run none_shown (by_border border row i e) = in_nothing border u.ranges.borders no_borders i
no_notes words u _ empty empty_too no_borders no_run none_shown (by_run row o) = no_run row o
no_notes words u _ empty empty_too no_borders no_run none_shown (by_run_item base row o k) = no_run base o
no_notes words u _ empty empty_too no_borders no_run none_shown (by_shown note row i e) = in_nothing note u.ranges.run none_shown i
no_notes words u _ empty empty_too no_borders no_run none_shown (by_shown_item note row i b k) = in_nothing note u.ranges.run none_shown i

-- A seat that knows nothing yet has no note.
pub no_blank_notes : (words : List ℕ) (number row : ℕ) → ¬ IsNoted words (blank number) row
no_blank_notes words number row = no_notes words (blank number) row refl refl refl (λ r. left_run words (blank number) (blank number) r refl) refl

-- A range that is left to others isn't spoken of.
left_so_far : (z : Sizes) (words : List ℕ) (role : ℕ → Role) (ends : Ends) (since since' history : History) (pass : ℕ) (borders borders' : List Border)
    (own : Ranging) → IsSoFar z words role ends since history pass borders own
    → IsSoFar z words role ends since' history pass borders' (left_over own)
left_so_far z words role ends since since' history pass borders borders' Quiet k = k
left_so_far z words role ends since since' history pass borders borders' (Unmarked begun) k = tt
left_so_far z words role ends since since' history pass borders borders' (Marking begun border) k = tt
left_so_far z words role ends since since' history pass borders borders' Left k = tt
left_so_far z words role ends since since' history pass borders borders' (Joining x) k = k
left_so_far z words role ends since since' history pass borders borders' (Secured x) k = k

pub tree_pinning : Pinning IsLinked IsLent IsNoted IsTree pinned unpinned
tree_pinning = record {
  keeps_entering = λ z made uppers words i u f at. let k = relisted z made words f.role uppers (set uppers i (pinned u)) f.history i u
      (numbered uppers i u (pinned u) at (λ _. refl)) (f.each_seat i u at) in
      seat_changed z made words uppers i u (pinned u) f at (λ _. refl) (λ _. refl)
      (λ _ _ l. lone_same words f.role u.number u.ranges.own (left_over u.ranges.own) u.ways [] u.ranges.joins.begun []
      (λ way i. absurd (in_nothing way [] refl i)) (left_kept u.ranges.own)
      (left_active words words u.number u.ranges.own u.ranges.own) (inr refl) l)
      record {
        made_before = k.made_before;
        alone = k.alone;
        seen_first = k.seen_first;
        since_first = starts_whole u.seen;
        lawful = k.lawful;
        past = k.past;
        notes = λ note i. absurd (in_nothing note [] refl i);
        links = λ note i. absurd (in_nothing note [] refl i);
        ways = λ way i. absurd (in_nothing way [] refl i);
        way_links = λ way i. absurd (in_nothing way [] refl i);
        one_place = λ a b i. absurd (in_nothing a [] refl i);
        joining = nothing_joining words;
        ended = k.ended;
      }
      (let known = f.ranged.each i u at in record {
        over = known.over;
        borders = known.borders;
        own = λ lo. left_so_far z words f.role (f.ranged.ends u.number) u.since u.seen f.history u.number u.ranges.borders u.ranges.borders
            u.ranges.own (known.own lo);
        sequence = known.sequence;
        run = known.run;
      });
  entering_notes = λ words u. noted_alike words u (pinned u) (λ n i. absurd (in_nothing n [] refl i)) (λ w i. absurd (in_nothing w [] refl i)) (λ b i. i)
      (λ row o. absurd (left_run words u (pinned u) row refl o)) (λ n i. i);
  keeps_leaving = λ z made uppers words i u f at. let k = relisted z made words f.role uppers (set uppers i (unpinned u)) f.history i u
      (numbered uppers i u (unpinned u) at (λ _. refl)) (f.each_seat i u at) in
      seat_changed z made words uppers i u (unpinned u) f at (λ _. refl) (λ _. refl)
      (λ _ _ l. lone_same words f.role u.number u.ranges.own (left_over u.ranges.own) u.ways [] u.ranges.joins.begun []
      (λ way i. absurd (in_nothing way [] refl i)) (left_kept u.ranges.own)
      (left_active words words u.number u.ranges.own u.ranges.own) (inr refl) l)
      record {
        made_before = k.made_before;
        alone = k.alone;
        seen_first = k.seen_first;
        since_first = k.since_first;
        lawful = k.lawful;
        past = k.past;
        notes = λ note i. absurd (in_nothing note [] refl i);
        links = λ note i. absurd (in_nothing note [] refl i);
        ways = λ way i. absurd (in_nothing way [] refl i);
        way_links = λ way i. absurd (in_nothing way [] refl i);
        one_place = λ a b i. absurd (in_nothing a [] refl i);
        joining = nothing_joining words;
        ended = k.ended;
      }
      (let known = f.ranged.each i u at in record {
        over = λ x m. absurd (in_nothing x [] refl m);
        borders = λ border m. absurd (in_nothing border [] refl m);
        own = λ lo. left_so_far z words f.role (f.ranged.ends u.number) u.since u.since f.history u.number u.ranges.borders [] u.ranges.own
            (known.own lo);
        sequence = known.sequence;
        run = λ note m. absurd (in_nothing note [] refl m);
      });
  leaving_notes = λ words u r. no_notes words (unpinned u) r refl refl refl (λ row. left_run words u (unpinned u) row refl) refl;
}

-- A pass that wasn't made yet has no edit in the history.
pub none_made : (made pass : ℕ) (h : History) → AreByPasses made h → (pass ≡ 0) ⊎ (made < pass) → edits_of_pass pass h ≡ []
none_made made pass [] b w = refl
none_made made pass (step ∷ steps) b w = let lo = b.0 in let hi = b.1 in
    let n : step.0 ≢ pass = λ e. ⊎_elim (λ (z : pass ≡ 0). omega arith) (λ (l : made < pass). omega arith) w in
    ap (λ c. if c then step.1 ∷ edits_of_pass pass steps else edits_of_pass pass steps) (ne_eqb step.0 pass n) ∙ none_made made pass steps b.2 w

one_more : (made : ℕ) (h : History) → AreByPasses made h → AreByPasses (made + 1) h
one_more made [] b = tt
one_more made (step ∷ steps) b = let hi = b.1 in (b.0, omega arith, one_more made steps b.2)

-- what a seat knows that knows nothing yet
pub knows_nothing : (z : Sizes) (made : ℕ) (words : List ℕ) (role : ℕ → Role) (uppers : List TreeView) (history : History) (j number : ℕ) → number ≤ made
    → (0 < number → (i : ℕ) (v : TreeView) → get_elem? uppers i ≡ some v → v.number ≡ number → i ≡ j) → edits_of_pass number history ≡ []
    → Knows z made words role uppers history j (blank number)
knows_nothing z made words role uppers history j number before alone unmade = record {
  made_before = before;
  alone = alone;
  seen_first = (history, refl);
  since_first = ([], refl);
  lawful = record { entries = tt; places = tt; edits = unmade };
  past = tt;
  notes = λ note i. absurd (in_nothing note [] refl i);
  links = λ note i. absurd (in_nothing note [] refl i);
  ways = λ way i. absurd (in_nothing way [] refl i);
  way_links = λ way i. absurd (in_nothing way [] refl i);
  one_place = λ a b i. absurd (in_nothing a [] refl i);
  joining = nothing_joining words;
  ended = λ x i. absurd (in_nothing x [] refl i);
}

-- A seat that knows nothing yet knows nothing of ranges, and none of its own is active.
pub new_ranging : (z : Sizes) (words : List ℕ) (role : ℕ → Role) (ends : Ends) (history : History) (pass : ℕ) → ((number : ℕ) → ¬ IsActive words pass number)
    → IsRanging z words role ends [] history pass no_ranges
new_ranging z words role ends history pass quiet = record {
  over = λ x i. absurd (in_nothing x [] refl i);
  borders = λ border i. absurd (in_nothing border [] refl i);
  own = λ _. quiet;
  sequence = λ number lo e. absurd (some-ne-none number (sym e));
  run = λ note i. absurd (in_nothing note [] refl i);
}

-- So it is of a seat that is no pass's.
pub no_ranging : (z : Sizes) (words : List ℕ) (role : ℕ → Role) (ends : Ends) (history : History) → IsRanging z words role ends [] history 0 no_ranges
no_ranging z words role ends history = record {
  over = λ x i. absurd (in_nothing x [] refl i);
  borders = λ border i. absurd (in_nothing border [] refl i);
  own = λ lo. absurd (omega arith);
  sequence = λ number lo e. absurd (some-ne-none number (sym e));
  run = λ note i. absurd (in_nothing note [] refl i);
}

pub tree_making : Making IsLinked IsLent IsNoted IsTree blank
tree_making = record {
  keeps_making = λ z made uppers words f. let next : List TreeView = uppers ++ blank (made + 1) ∷ [] in record {
    usable = f.usable;
    history = f.history;
    edits = f.edits;
    by_passes = one_more made f.history f.by_passes;
    keypos = f.keypos;
    leaf = f.leaf;
    levels = f.levels;
    role = f.role;
    shape = f.shape;
    ranged = record {
      ends = f.ranged.ends;
      runs = f.ranged.runs;
      made_before = λ pass number now. let before = f.ranged.made_before pass number now in omega arith;
      each = λ j u here. ⊎_elim (λ (was : get_elem? uppers j ≡ some u). f.ranged.each j u was)
          (λ (t : (j ≡ length uppers) × (blank (made + 1) ≡ u)).
          subst (λ (v : TreeView). IsRanging z words f.role (f.ranged.ends v.number) v.since f.history v.number v.ranges) t.1
          (new_ranging z words f.role (f.ranged.ends (made + 1)) f.history (made + 1)
          (λ number now. let before = f.ranged.made_before (made + 1) number now in omega arith)))
          (at_place uppers (blank (made + 1)) u j here);
    };
    joined = f.joined;
    lone = λ j u here few lo. let first : made ≡ 0 = omega arith in ⊎_elim
        (λ (was : get_elem? uppers j ≡ some u). let low = (f.each_seat j u was).made_before in absurd (omega arith))
        (λ (t : (j ≡ length uppers) × (blank (made + 1) ≡ u)).
        subst (λ (y : TreeView). IsLone words f.role y.number y.ranges.own y.ways y.ranges.joins.begun) t.1 record {
          prepared = λ route place key attempt e now. absurd (no_route_first z words f.role (after f.history []) f.inventory f.shape f.listed
              (f.at_first first) route place key e);
          secured = λ route place key attempt e now. absurd (no_route_first z words f.role (after f.history []) f.inventory f.shape f.listed
              (f.at_first first) route place key e);
          still = λ x is. let c : Quiet ≡ Joining x = is in absurd cc;
          alive = λ way i. absurd (in_nothing way [] refl i);
          latest = λ x i. absurd (in_nothing x [] refl i);
          active = λ range border is. let c : Quiet ≡ Marking range border = is in absurd cc;
        })
        (at_place uppers (blank (made + 1)) u j here);
    each_seat = λ j u here. ⊎_elim
        (λ (was : get_elem? uppers j ≡ some u). let k = f.each_seat j u was in let low = k.made_before in record {
          made_before = omega arith;
          alone = λ lo i v at same. ⊎_elim (λ (old : get_elem? uppers i ≡ some v). k.alone lo i v old same)
              (λ (t : (i ≡ length uppers) × (blank (made + 1) ≡ v)). let n : made + 1 ≡ v.number = ap (λ (y : TreeView). y.number) t.1 in
              absurd (omega arith)) (at_place uppers (blank (made + 1)) v i at);
          seen_first = k.seen_first;
          since_first = k.since_first;
          lawful = k.lawful;
          past = k.past;
          notes = k.notes;
          links = k.links;
          ways = k.ways;
          way_links = k.way_links;
          one_place = k.one_place;
          joining = k.joining;
          ended = λ x i. let e = k.ended x i in let before = e.made_before in record {
            some_number = e.some_number;
            made_before = omega arith;
            lawful = e.lawful;
            gone = λ s v at same. ⊎_elim (λ (old : get_elem? uppers s ≡ some v). e.gone s v old same)
                (λ (t : (s ≡ length uppers) × (blank (made + 1) ≡ v)). let n : made + 1 ≡ v.number = ap (λ (y : TreeView). y.number) t.1 in
                absurd (omega arith)) (at_place uppers (blank (made + 1)) v s at);
          };
        })
        (λ (t : (j ≡ length uppers) × (blank (made + 1) ≡ u)). subst (Knows z (made + 1) words f.role next f.history j) t.1
        (knows_nothing z (made + 1) words f.role next f.history j (made + 1) (omega arith)
        (λ _ i v at same. ⊎_elim (λ (old : get_elem? uppers i ≡ some v). let low = (f.each_seat i v old).made_before in absurd (omega arith))
        (λ (y : (i ≡ length uppers) × (blank (made + 1) ≡ v)). y.0 ∙ sym t.0) (at_place uppers (blank (made + 1)) v i at))
        (none_made made (made + 1) f.history f.by_passes (inr (omega arith)))))
        (at_place uppers (blank (made + 1)) u j here);
    inventory = f.inventory;
    listed = f.listed;
    at_first = λ none_yet. absurd (omega arith);
    only_one = λ j u here few lo. let first : made ≡ 0 = omega arith in ⊎_elim
        (λ (was : get_elem? uppers j ≡ some u). let low = (f.each_seat j u was).made_before in absurd (omega arith))
        (λ (t : (j ≡ length uppers) × (blank (made + 1) ≡ u)). subst (λ (y : TreeView). OwnsTree words f.role f.inventory (own_tree y)) t.1 record {
          whole = sym (f.at_first first);
          shallow = λ row place is. let here : IsIn (row, place) first_inventory.bases = subst (λ (y : Inventory). IsIn (row, place) y.bases)
              (f.at_first first) (f.listed.based row place is) in let top : ℕ × Place = (1, root_place) in let base : ℕ × Place = (row, place) in
              let one : top ≡ base = in_one top base here in let level = ap (λ (b : ℕ × Place). b.1.level) one in omega arith;
          few = omega arith;
          rows = (omega arith, λ _. omega arith);
        })
        (at_place uppers (blank (made + 1)) u j here);
  };
  making_notes = λ words pass r. no_blank_notes words pass r;
}

-- Two places of a list are set in either order.
set_apart : {A : Type 0} (xs : List A) (i j : ℕ) (a b : A) → j ≢ i → set (set xs i a) j b ≡ set (set xs j b) i a
set_apart [] i j a b n = refl
set_apart (x ∷ xs) zero zero a b n = absurd (n refl)
set_apart (x ∷ xs) zero (suc j) a b n = refl
set_apart (x ∷ xs) (suc i) zero a b n = refl
set_apart (x ∷ xs) (suc i) (suc j) a b n = ap (λ ys. x ∷ ys) (set_apart xs i j a b (λ e. n (ap suc e)))

-- A pass is joined into a seat: its log stays lawful, and no seat has its number any more.
module _ (z : Sizes) (made : ℕ) (words : List ℕ) (uppers : List TreeView) (i j : ℕ) (v w : TreeView) (f : IsTree z made words uppers)
    (at : get_elem? uppers i ≡ some v) (ne : j ≢ i) (there : get_elem? uppers j ≡ some w) where
  fewer : IsTree z made words (set uppers j (blank 0))
  fewer = seat_changed z made words uppers j w (blank 0) f there (λ lo. absurd (omega arith)) (λ lo. absurd (omega arith)) (λ _ lo. absurd (omega arith))
      (knows_nothing z made words f.role (set uppers j (blank 0)) f.history j 0 (omega arith) (λ lo. absurd (omega arith))
      (none_made made 0 f.history f.by_passes (inl refl))) (no_ranging z words f.role (f.ranged.ends 0) f.history)

  at_too : get_elem? (set uppers j (blank 0)) i ≡ some v
  at_too = set_else uppers j i (blank 0) (λ e. ne (sym e)) ∙ at

  abbrev joined : TreeView
  joined = ended_with v w

  abbrev left : List TreeView
  left = set (set uppers j (blank 0)) i joined

  gone_now : 0 < w.number → (s : ℕ) (y : TreeView) → get_elem? left s ≡ some y → y.number ≢ w.number
  gone_now lo s y here same = let alone = (f.each_seat j w there).alone lo in ⊎_elim
      (λ (t : (s ≡ i) × (joined ≡ y)). let n : v.number ≡ y.number = ap (λ (x : TreeView). x.number) t.1 in ne (sym (alone i v at (n ∙ same))))
      (λ (t : (s ≢ i) × (get_elem? (set uppers j (blank 0)) s ≡ some y)). ⊎_elim
      (λ (b : (s ≡ j) × (blank 0 ≡ y)). let n : 0 ≡ y.number = ap (λ (x : TreeView). x.number) b.1 in absurd (omega arith))
      (λ (b : (s ≢ j) × (get_elem? uppers s ≡ some y)). b.0 (alone s y b.1 same))
      (at_set uppers j s (blank 0) y t.1))
      (at_set (set uppers j (blank 0)) i s joined y here)

  one_more_ended : (n : ℕ) → n ≡ w.number → (xs : List Ended) → ((x : Ended) → IsIn x xs → IsEnded made left f.history x)
      → (x : Ended) → IsIn x (and_ended n (ended_of w) xs) → IsEnded made left f.history x
  one_more_ended zero is xs each x here = each x here
  one_more_ended (suc n) is xs each x here = by_place here.0 here.1
    where
      by_place : (k : ℕ) → get_elem? (ended_of w ∷ xs) k ≡ some x → IsEnded made left f.history x
      by_place zero e = subst (IsEnded made left f.history) (some-injective (ended_of w) x e) record {
        some_number = omega arith;
        made_before = (f.each_seat j w there).made_before;
        lawful = (f.each_seat j w there).lawful;
        gone = gone_now (omega arith);
      }
      by_place (suc k) e = each x (k, e)

  knows_joined : Knows z made words f.role left f.history i joined
  knows_joined = let k = relisted z made words f.role (set uppers j (blank 0)) left f.history i v
      (numbered (set uppers j (blank 0)) i v joined at_too (λ _. refl))
      (relisted z made words f.role uppers (set uppers j (blank 0)) f.history i v
      (numbered uppers j w (blank 0) there (λ lo. absurd (omega arith))) (f.each_seat i v at)) in record {
        made_before = k.made_before;
        alone = k.alone;
        seen_first = k.seen_first;
        since_first = k.since_first;
        lawful = k.lawful;
        past = k.past;
        notes = k.notes;
        links = k.links;
        ways = k.ways;
        way_links = k.way_links;
        one_place = k.one_place;
        joining = k.joining;
        ended = one_more_ended w.number refl v.ended k.ended;
      }

  closes : IsTree z made words (set (set uppers i joined) j (blank 0))
  unfolding seat_changed fewer
  closes = subst (IsTree z made words) (sym (set_apart uppers i j joined (blank 0) ne))
      (seat_changed z made words (set uppers j (blank 0)) i v joined fewer at_too (λ _. refl) (λ _. refl) (λ _ _ l. l) knows_joined (f.ranged.each i v at))

pub tree_closing : Closing IsLinked IsLent IsNoted IsTree ended_with (blank 0)
tree_closing = record {
  keeps_closing = λ z made uppers words i j v w f at ne there. closes z made words uppers i j v w f at ne there;
  closing_notes = λ words v w r n. inl (noted_alike words v (ended_with v w) (λ n i. i) (λ y i. i) (λ b i. i) (λ row o. o) (λ n i. i) r n);
  spent_notes = λ words r. no_blank_notes words 0 r;
}
