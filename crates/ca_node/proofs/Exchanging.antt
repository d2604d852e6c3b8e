-- One exchange of a link, by which a base takes the place of another one, whether it carries out an
-- edit or none.
use Rattle.std.proofs.Common.{◌≡◌, ◌≢◌, ◌⊎◌, ℕ, ◌+◌, ◌*◌, ◌/◌, ◌<◌, ◌≤◌, true, List, [], ◌∷◌, ◌++◌, length, map, get_or, set, sym, refl, ap, ◌∙◌, subst, inl, inr, ⊎_elim, arith}
use Rattle.std.proofs.lemmas.List.{map-set}
use mathlib.Core.Logic.{dite}
use mathlib.Core.Option.{some, some-injective, some-ne-none}
use native.Mathlib.Decide.{ℕ_discrete}
use lib.ListN.{get_elem?}
use Rattle.atomic_table.specs.Table.{State}
use Rattle.atomic_table.proofs.Lists.{at_set, at_map}
use Rattle.ca_model.specs.History.{History, after, state, AreEdits, AreByPasses}
use Rattle.ca_model.specs.StoreMap.{StoreMap, IsStoreMap}
use Rattle.ca_model.proofs.Edits.{map_after}
use Rattle.ca_rows.specs.declared.sizes.Sizes.{Sizes}
use Rattle.ca_rows.specs.declared.view.Claim.{Claim}
use Rattle.ca_rows.specs.declared.view.Claim.TheVariants.{Holds}
use Rattle.ca_rows.specs.declared.view.View.{View}
use Rattle.ca_rows.specs.declared.view.Claimed.{Claimed}
use Rattle.ca_rows.specs.Claims.{claim_of}
use Rattle.ca_rows.specs.Rule.{upper_of}
use Rattle.ca_rows.specs.Words.{IsWide, result_of}
use Rattle.ca_runs.specs.Runs.{AreRuns}
use Rattle.ca_runs.specs.Scenes.{Replaces}
use Rattle.ca_rows.proofs.Relinking.{Change, Stays, Comes, Serves, Goes, IsChange, relinks}
use Rattle.ca_rows.proofs.Rules.{all_seats}
use Rattle.ca_node.specs.LoneStays.{KeepsOwn, MarksActive, marks_active, lone_still}
use Rattle.ca_node.specs.Lone.{IsLone}
use Rattle.ca_node.proofs.Lone.{lone_by_one}
use Rattle.ca_node.specs.Inventory.{AreOnce, row_itself, row_of_base, IsInventory, OwnsTree, own_tree, IsLentFirst, AreCounted}
use Rattle.ca_node.specs.Attempts.{HasAttempt, IsUnderWay}
use Rattle.ca_node.specs.Joining.{IsJoining}
use Rattle.ca_node.specs.JoinsStay.{joining_noted}
use Rattle.ca_node.specs.Laws.{tree_lends, in_nothing, in_one}
use Rattle.ca_node.specs.Links.{IsIn, IsActive, HasBegun, IsBoundOf, IsLinked, by_range, IsLent, IsOfOwnRun, IsNoted, by_note, by_item, by_way, by_link, by_link_item, by_border, by_run, by_run_item, by_shown, by_shown_item}
use Rattle.ca_node.specs.Marks.{IsOfRange, IsOfJoin, IsMarkIn, IsBorder}
use Rattle.ca_node.specs.Place.{part, Place}
use Rattle.ca_node.specs.Ranging.{IsRanging}
use Rattle.ca_node.specs.RangesStay.{active_back, active_on, begun_on}
use Rattle.ca_node.specs.Reached.{same_place, base_at, link_range, reached, placed_linked, item_linked, item_out, linked_range, lent_end, end_lent, unlent}
use Rattle.ca_node.specs.Row.{row_at, form, IsObjectRow, IsBaseRow, items, count, level, mark as mark_kind, mark_owner, mark_number, mark_bound, IsMarkedBy, IsMarkedFor, IsUnmarked, pair, objects_in, IsHeaded}
use Rattle.ca_node.specs.Scenes.{IsBase, span_of, mark_of, scene_of}
use Rattle.ca_node.specs.Shape.{Role, Out, Base, Route, place_of, IsBaseAt, IsShape}
use Rattle.ca_node.specs.Stays.{map_same}
use Rattle.ca_rows.specs.Told.{relinked}
use Rattle.ca_node.specs.Told.{MyTree, IsUnranged, Update, IsObjectOf, IsNotFrom, IsLastThere, given, lent_out, taken_out, exchanged_inventory}
use Rattle.ca_node.specs.Tree.{IsTrue, IsTrueWay, Knows, IsTree}
use Rattle.ca_node.specs.TreeView.{Note, Way, Over, Border, Inventory, TreeView}
use Rattle.ca_node.proofs.Holding.{held_row}
use Rattle.ca_node.proofs.Joined.{joined_keeps, states_keep, joining_keeps, new_hangs}
use Rattle.ca_node.proofs.Listing.{but_shorter, exchanged_length, in_either, in_front, in_back, not_one, Relists, listed_again, known_by_one}
use Rattle.ca_node.proofs.Looking.{R, knows_upper, in_turn, in_more}
use Rattle.ca_node.proofs.Members.{in_notes, in_rest, has, given_here, given_else, lent_here, lent_else, taken_here, taken_else, other_has, map_is_list}
use Rattle.ca_node.proofs.Named.{named_once}
use Rattle.ca_node.proofs.Rebased.{with_base, with_base_new, with_base_old, with_base_else, shape_rebased}
use Rattle.ca_node.proofs.Relinked.{IsNewBase, relinked_wide, relinked_else, relinked_ranges, relinked_told, relinked_joins, relinked_row, relinked_object, base_no_route, out_no_route, relinked_keeps}
use Rattle.ca_node.proofs.Remembering.{shown_hangs, unlinked_out, note_stays, way_stays, ranges_stay, notes_stay}
use Rattle.ca_rows.specs.Layout.{row_words}
use Rattle.ca_node.specs.Layout.{root_word, sequence_unit}

-- The seat may put the new row in the place of the old base, as far as the rows and the items go:
-- it is pinned, its last load of that link showed that
-- base, and it holds the new one. What goes stood in one place of the old base, and no item of the
-- new one is from there.
pub record IsExchange (z : Sizes) (m : MyTree) (new : ℕ) (x : Update) : Type 0 where
  pub is_pinned : m.0.pin.pinned ≡ true
  pub is_pass : 0 < m.0.upper.number
  pub shown : IsLastThere x.old m.0.upper.notes
  pub old_base : IsBaseRow x.old.its
  pub held : claim_of m.0.claims new ≡ some (Holds x.its)
  pub is_base : IsBaseRow x.its
  pub level_is : level x.its ≡ x.old.place.level
  pub few : count x.its ≤ z.leaf
  pub as_many : length x.objects ≡ length (items x.its)
  pub headed : IsHeaded x.its x.objects
  pub are_objects : (k row : ℕ) (its : List ℕ) → get_elem? (items x.its) k ≡ some row
      → get_elem? x.objects k ≡ some its → IsObjectOf m x row its
  pub come : (row : ℕ) → IsIn row x.comes → IsIn row (items x.its)
      × ((its : List ℕ) × (claim_of m.0.claims row ≡ some (Holds its)))
  pub come_once : AreOnce row_itself x.comes
  pub go : (row : ℕ) → IsIn row x.goes → (i : ℕ) × (get_elem? (items x.old.its) i ≡ some row)
      × IsNotFrom x i row
  pub stay : (row : ℕ) → IsIn row (items x.old.its) → IsIn row (items x.its) ⊎ IsIn row x.goes

-- What the seat knows of ranges is so.
pub own_ranging : (z : Sizes) (s : State (Unit {0}) (View TreeView)) (r : R z s) (id : ℕ)
    (d : View TreeView) → get_elem? s.views id ≡ some d
    → IsRanging z s.words r.above.role (r.above.ranged.ends d.upper.number) d.upper.since
    r.above.history d.upper.number d.upper.ranges
own_ranging z s r id d at = r.above.ranged.each id d.upper (at_map upper_of s.views id d at)

-- A range is over that marked a base which no range has.
pub settled_over : (z : Sizes) (s : State (Unit {0}) (View TreeView)) (r : R z s) (id : ℕ)
    (d : View TreeView) → get_elem? s.views id ≡ some d → (its : List ℕ) → IsUnranged d.upper its
    → (pass number : ℕ) → IsMarkedBy its pass number → ¬ IsActive s.words pass number
settled_over z s r id d at its unranged pass number m now = ⊎_elim
    (λ (n : mark_kind its ≢ 1). n m.0)
    (λ (t : (y : Over) × IsIn y d.upper.ranges.over × (mark_owner its ≡ y.pass)
    × (mark_number its < y.below)). let less = t.3 in let same = m.2 in
    ((own_ranging z s r id d at).over t.0 t.1 number (omega arith)).1 (subst
    (λ (p : ℕ). IsActive s.words p number) (sym m.1 ∙ t.2) now))
    unranged

-- The link names the old base, and the range is over that marked it, or the attempt is finished.
module _ (z : Sizes) (s : State (Unit {0}) (View TreeView)) (r : R z s) (id : ℕ) (me : MyTree)
    (at : get_elem? s.views id ≡ some me.0) (new : ℕ) (x : Update)
    (u : IsExchange z me new x) (hit : get_or s.words x.old.place.link 0 ≡ x.old.row)
    (over : (pass number : ℕ) → IsMarkedBy x.old.its pass number → ¬ IsActive s.words pass number)
    (free : (route attempt : ℕ) → IsMarkedFor x.old.its route attempt → ¬ IsUnderWay s.words route attempt) where
  abbrev d : View TreeView
  d = me.0

  abbrev f : IsTree z r.made s.words (map upper_of s.views)
  f = r.above

  abbrev role : ℕ → Role
  role = r.above.role

  abbrev last : StoreMap
  last = after r.above.history []

  abbrev shape : IsShape z s.words r.above.role (after r.above.history [])
  shape = r.above.shape

  abbrev place : Place
  place = x.old.place

  abbrev words' : List ℕ
  words' = set s.words x.old.place.link new

  abbrev knows : Knows z r.made s.words r.above.role (map upper_of s.views) r.above.history id
      d.upper
  knows = knows_upper z s r id d at

  old_true : IsTrue z.rows s.words r.above.role x.old
  old_true = knows.notes x.old (in_notes x.old me.0.upper.notes u.shown)

  -- The old base hangs where it was shown.
  pub is_old : r.above.role x.old.row ≡ Base x.old.place
  is_old = shown_hangs z s.words role last shape d.upper r.above.history knows.ways x.old old_true
      (knows.links x.old (in_notes x.old me.0.upper.notes u.shown)) hit free

  old_at : IsBaseAt z s.words r.above.role (after r.above.history []) x.old.place x.old.row
  old_at = base_at z s.words role last shape x.old.row x.old.place is_old

  held : (row : ℕ) (its : List ℕ) → claim_of d.claims row ≡ some (Holds its) → (0 < row)
      × (row ≤ z.rows) × (row_at s.words row ≡ its)
      × ¬ IsLinked s.words row
      × ((j : ℕ) (y : View TreeView) → get_elem? s.views j ≡ some y
      → ¬ IsNoted s.words y.upper row)
  held = held_row z s r id d at

  pub new_row : (0 < new) × (new ≤ z.rows) × (row_at s.words new ≡ x.its) × ¬ IsLinked s.words new
      × ((j : ℕ) (y : View TreeView) → get_elem? s.views j ≡ some y → ¬ IsNoted s.words y.upper new)
  new_row = held new x.its u.held

  new_out : r.above.role new ≡ Out
  new_out = unlinked_out z s.words role last shape new new_row.3

  pub old_linked : IsLinked s.words x.old.row
  old_linked = placed_linked z s.words role last shape x.old.row x.old.place (ap place_of is_old)

  pub old_item : (row : ℕ) → IsIn row (items x.old.its) → IsLinked s.words row
  old_item row i = item_linked z s.words role last shape x.old.row x.old.place is_old row (subst
      (λ its. IsIn row (items its)) (sym old_true.spells) i)

  -- An item of the new base: its words, and that it is an object in range.
  item_is : (k row : ℕ) (its : List ℕ) → get_elem? (items x.its) k ≡ some row
      → get_elem? x.objects k ≡ some its → (0 < row) × (row ≤ z.rows)
      × (row_at s.words row ≡ its) × IsObjectRow its
  item_is k row its a b = ⊎_elim
      (λ (o : (i : ℕ) × (get_elem? (items x.old.its) i ≡ some row)
      × (get_elem? x.old.objects i ≡ some its)).
      let range = old_true.named u.old_base row (o.0, o.1) in
      let there = at_map (λ c. row_at s.words c) (items x.old.its) o.0 row o.1 in
      let same : row_at s.words row ≡ its = some-injective (row_at s.words row) its (sym there
      ∙ (ap (λ xs. get_elem? xs o.0) (old_true.objects_are u.old_base) ∙ o.2)) in
      (range.0, range.1, same, subst IsObjectRow same range.2))
      (λ (o : IsIn row x.comes × (claim_of d.claims row ≡ some (Holds its)) × IsObjectRow its).
      let h = held row its o.1 in (h.0, h.1, h.2, o.2))
      (u.are_objects k row its a b)

  -- an item of the new base, by its row
  words_of : (row : ℕ) → IsIn row (items x.its) → (its : List ℕ) × (0 < row) × (row ≤ z.rows)
      × (row_at s.words row ≡ its) × IsObjectRow its
  words_of row i = let o = other_has (items x.its) x.objects i.0 row u.as_many i.1 in
      let e = item_is i.0 row o.0 i.1 o.1 in (o.0, e.0, e.1, e.2, e.3)

  was_item : (row : ℕ) → IsIn row (items x.its) → IsIn row (items x.old.its) ⊎ IsIn row x.comes
  was_item row i = let o = other_has (items x.its) x.objects i.0 row u.as_many i.1 in ⊎_elim
      (λ (y : (k : ℕ) × (get_elem? (items x.old.its) k ≡ some row)
      × (get_elem? x.old.objects k ≡ some o.0)). inl (y.0, y.1))
      (λ (y : IsIn row x.comes × (claim_of d.claims row ≡ some (Holds o.0))
      × IsObjectRow o.0). inr y.0) (u.are_objects i.0 row o.0 i.1 o.1)

  pub is_last : IsStoreMap z.keypos last
  is_last = map_after z.keypos f.history [] f.edits tt

  -- What the old base has.
  pub old_map : map pair x.old.objects ≡ part x.old.place.span (after r.above.history [])
  old_map = ap (map pair) (sym (old_true.objects_are u.old_base))
      ∙ (in_turn s.words (items x.old.its)
      ∙ (ap (λ its. map (λ row. pair (row_at s.words row)) (items its)) (sym old_true.spells)
      ∙ old_at.has))

  pub objects_now : map (λ row. row_at s.words row) (items x.its) ≡ x.objects
  objects_now = map_is_list (λ row. row_at s.words row) (items x.its) x.objects u.as_many
      (λ k row its a b. (item_is k row its a b).2)

  -- So it is by the words.
  old_over : (pass number : ℕ) → IsMarkedBy (row_at s.words x.old.row) pass number
      → ¬ IsActive s.words pass number
  old_over pass number m =
      over pass number (subst (λ its. IsMarkedBy its pass number) old_true.spells m)

  -- No join under way has the old base.
  old_free : (route attempt : ℕ) → IsMarkedFor (row_at s.words x.old.row) route attempt → ¬ IsUnderWay s.words route attempt
  old_free route attempt m = free route attempt (subst (λ its. IsMarkedFor its route attempt) old_true.spells m)

  -- The objects that come are none of the bases.
  comes_object : (row : ℕ) → IsIn row x.comes → form (row_at s.words row) ≡ 1
  comes_object row i = let w = words_of row (u.come row i).0 in ap form w.3 ∙ w.4.0

  -- The new base is none of the objects that come, and no row comes twice.
  pub ins_once : AreOnce row_itself (new ∷ x.comes)
  ins_once = (
    (λ (t : (y : ℕ) × IsIn y x.comes × (y ≡ new)).
        let o = comes_object new (subst (λ c. IsIn c x.comes) t.2 t.1) in
        let b : form (row_at s.words new) ≡ 2 = ap form new_row.2 ∙ u.is_base in absurd (omega arith)),
    u.come_once,
  )

  -- The history is this one then, the mark on the new base is one, each base has what the last
  -- state of that history has of the keys that are led there, and these rows are lent to the
  -- operation that marks the new base.
  module _ (next : History) (mark : IsMarkIn s.words x.old.place x.its)
      (bounded : (border : ℕ) → IsBoundOf s.words new border
      → IsBorder z.rows s.words (mark_owner (row_at s.words new)) border)
      (has_then : map pair x.objects ≡ part x.old.place.span (after next []))
      (others_have : (c : ℕ) (p : Place) → r.above.role c ≡ Base p → c ≢ x.old.row
      → part p.span (after next []) ≡ part p.span (after r.above.history []))
      (served : List ℕ)
      (serve : (row : ℕ) → IsIn row served → ((its : List ℕ) × (claim_of me.0.claims row ≡ some (Holds its)))
      × IsBoundOf s.words new row)
      (served_once : AreOnce row_itself (served ++ new ∷ x.comes))
      (new_end : (border : ℕ) → IsBoundOf s.words new border → IsLent s.words border ⊎ IsIn border served)
    where
      abbrev last' : StoreMap
      last' = after next []

      new_has : objects_in s.words new ≡ part x.old.place.span (after next [])
      new_has = ap (λ its. map (λ row. pair (row_at s.words row)) (items its)) new_row.2
          ∙ (sym (in_turn s.words (items x.its)) ∙ (ap (map pair) objects_now ∙ has_then))

      new_base : IsNewBase z s.words r.above.role x.old.place new
      new_base = record {
        some_row = new_row.0;
        in_range = new_row.1;
        is_out = new_out;
        is_base = subst IsBaseRow (sym new_row.2) u.is_base;
        level_is = subst (λ its. level its ≡ x.old.place.level) (sym new_row.2) u.level_is;
        few = subst (λ its. count its ≤ z.leaf) (sym new_row.2) u.few;
        marked = subst (IsMarkIn s.words x.old.place) (sym new_row.2) mark;
        bounded = bounded;
        are_objects = λ row i.
            let w = words_of row (subst (λ its. IsIn row (items its)) new_row.2 i) in
            (w.1, w.2, subst IsObjectRow (sym w.3) w.4);
        headed = subst (λ (y : List ℕ × List (List ℕ)). IsHeaded y.0 y.1) (λ i. (
          sym new_row.2 i,
          sym (ap (λ its. map (λ row. row_at s.words row) (items its)) new_row.2 ∙ objects_now) i,
        )) u.headed;
      }

      abbrev pub role' : ℕ → Role
      role' = with_base r.above.role x.old.place x.old.row new

      shape' : IsShape z words' role' last'
      shape' = shape_rebased z s.words role last shape x.old.row place is_old new new_base last'
          new_has others_have

      pub is_new : role' new ≡ Base x.old.place
      is_new = with_base_new role place x.old.row new

      old_other : x.old.row ≢ new
      old_other e = let y : Base place ≡ Out = sym is_old ∙ (ap role e ∙ new_out) in cc

      old_gone : role' x.old.row ≡ Out
      old_gone = with_base_old role place x.old.row new old_other

      role_else : (c : ℕ) → c ≢ new → c ≢ x.old.row → role' c ≡ r.above.role c
      role_else c ne ne' = with_base_else role place x.old.row new c ne ne'

      wide' : IsWide z.rows words'
      wide' = relinked_wide z s.words role last shape x.old.row place (ap place_of is_old) new

      else_word : (i : ℕ) → i ≢ x.old.place.link → get_or words' i 0 ≡ get_or s.words i 0
      else_word = relinked_else z s.words role last shape x.old.row place (ap place_of is_old) new

      base_stays : (c : ℕ) (p : Place) → r.above.role c ≡ Base p
          → row_at words' c ≡ row_at s.words c
      base_stays c p e = let b = base_at z s.words role last shape c p e in
          relinked_row z s.words role last shape x.old.row place (ap place_of is_old) new c b.some_row b.in_range
          (base_no_route role c p e)

      pub new_its : row_at words' new ≡ x.its
      new_its = relinked_row z s.words role last shape x.old.row place (ap place_of is_old) new new new_row.0
          new_row.1 (out_no_route role new new_out) ∙ new_row.2

      -- A base of the new tree that isn't the new one was a base, another one than the old one.
      was_base : (c : ℕ) (p : Place) → role' c ≡ Base p → c ≢ new → (r.above.role c ≡ Base p)
          × (c ≢ x.old.row)
      was_base c p e ne = dite (ℕ_discrete c x.old.row)
          (λ (o : c ≡ x.old.row). let y : Out ≡ Base p = sym old_gone ∙ (ap role' (sym o) ∙ e) in
          absurd cc)
          (λ (n : c ≢ x.old.row). (sym (role_else c ne n) ∙ e, n))

      item_now : (row : ℕ) → IsIn row (items x.its) → IsLinked words' row
      item_now row i = item_linked z words' role' last' shape' new place is_new row (subst
          (λ its. IsIn row (items its)) (sym new_its) i)

      new_linked : IsLinked words' new
      new_linked = placed_linked z words' role' last' shape' new place (ap place_of is_new)

      abbrev comings : List ℕ
      comings = new ∷ x.comes

      abbrev ins : List ℕ
      ins = served ++ new ∷ x.comes

      abbrev outs : List ℕ
      outs = x.old.row ∷ x.goes

      same_ranges : (pass : ℕ) → 0 < pass → pass ≤ 64
          → result_of (set s.words x.old.place.link new) pass ≡ result_of s.words pass
      same_ranges = relinked_ranges z s.words role last shape x.old.row place (ap place_of is_old) new

      -- What a base that stays says of the range that marked it.
      bound_on : (base border : ℕ) → row_at words' base ≡ row_at s.words base
          → IsBoundOf s.words base border → IsBoundOf words' base border
      bound_on base border e b = subst (λ its. (mark_kind its ≡ 1)
          × IsActive words' (mark_owner its) (mark_number its) × (mark_bound its ≡ border)) (sym e)
          (b.0, active_on z s.words words' role role' same_ranges _ _ b.1, b.2)

      bound_back : (base border : ℕ) → row_at words' base ≡ row_at s.words base
          → IsBoundOf words' base border → IsBoundOf s.words base border
      bound_back base border e b = let c = subst (λ its. (mark_kind its ≡ 1)
          × IsActive words' (mark_owner its) (mark_number its) × (mark_bound its ≡ border)) e b in
          (c.0, active_back z s.words words' role role' same_ranges _ _ c.1, c.2)

      new_words : row_at words' new ≡ row_at s.words new
      new_words = new_its ∙ sym new_row.2

      -- What is lent is lent still: the old base's range is over.
      lent_on : (row : ℕ) → IsLent s.words row → IsLent words' row
      lent_on row l = let t = lent_end z s.words role last shape row l in
          let ne : t.0 ≢ new = λ e.
          (let y : Base t.1 ≡ Out = sym t.2 ∙ (ap role e ∙ new_out) in cc) in
          let other : t.0 ≢ x.old.row = λ e. old_over (mark_owner (row_at s.words t.0))
          (mark_number (row_at s.words t.0))
          (subst (λ c. IsMarkedBy (row_at s.words c) (mark_owner (row_at s.words t.0))
          (mark_number (row_at s.words t.0))) e (t.3.0, refl, refl)) t.3.1 in
          end_lent z words' role' last' shape' row
          (t.0, t.1, role_else t.0 ne other ∙ t.2, bound_on t.0 row (base_stays t.0 t.1 t.2) t.3)

      -- What is lent then was, or is lent by the exchange.
      lent_back : (row : ℕ) → IsLent words' row → IsLent s.words row ⊎ IsIn row served
      lent_back row l = let t = lent_end z words' role' last' shape' row l in dite (ℕ_discrete t.0 new)
          (λ (e : t.0 ≡ new). new_end row (bound_back new row new_words
          (subst (λ c. IsBoundOf words' c row) e t.3)))
          (λ (ne : t.0 ≢ new). let b = was_base t.0 t.1 t.2 ne in
          inl (end_lent z s.words role last shape row
          (t.0, t.1, b.0, bound_back t.0 row (base_stays t.0 t.1 b.0) t.3)))

      pub served_lent : (row : ℕ) → IsIn row served → IsLent words' row
      served_lent row i = end_lent z words' role' last' shape' row
          (new, place, is_new, bound_on new row new_words (serve row i).1)

      held_in : (row : ℕ) → IsIn row ins → (its : List ℕ)
          × (claim_of d.claims row ≡ some (Holds its))
      held_in row i = ⊎_elim (λ j. (serve row j).0)
          (λ k. ⊎_elim (λ (e : new ≡ row). (x.its, ap (claim_of d.claims) (sym e) ∙ u.held))
          (λ j. (u.come row j).1) (in_more new row x.comes k))
          (in_either served comings row i)

      in_linked : (row : ℕ) → IsIn row ins → IsLinked words' row
      in_linked row i = ⊎_elim
          (λ j. lent_linked (served_lent row j))
          (λ k. ⊎_elim (λ (e : new ≡ row). subst (IsLinked words') e new_linked)
          (λ j. item_now row (u.come row j).0) (in_more new row x.comes k))
          (in_either served comings row i)
        where
          lent_linked : IsLent words' row → IsLinked words' row
          lent_linked y = by_range y.0 row y.1 y.2 y.3

      pub out_linked : (row : ℕ) → IsIn row outs → IsLinked s.words row
      out_linked row i = ⊎_elim (λ (e : x.old.row ≡ row). subst (IsLinked s.words) e old_linked)
          (λ j. let w = u.go row j in old_item row (w.0, w.1))
          (in_more x.old.row row x.goes i)

      apart : (row : ℕ) → IsIn row ins → ¬ IsIn row outs
      apart row i o = let h = held_in row i in (held row h.0 h.1).3 (out_linked row o)

      -- The old base is no object.
      old_no_item : (row : ℕ) → x.old.row ≡ row → form (row_at s.words row) ≢ 1
      old_no_item row e g = let b : form (row_at s.words row) ≡ 2 = ap
          (λ c. form (row_at s.words c)) (sym e) ∙ old_at.is_base in omega arith

      -- What goes is no item of the new base: it isn't held, and stood in one place of the old
      -- base.
      goes_out : (row : ℕ) → IsIn row x.goes → ¬ IsIn row (items x.its)
      goes_out row g i = let w = u.go row g in ⊎_elim
          (λ (c : IsIn row x.comes). let h = (u.come row c).1 in
          (held row h.0 h.1).3 (old_item row (w.0, w.1)))
          (λ (o : (j : ℕ) × (j ≢ w.0)
          × (get_elem? (items x.old.its) j ≡ some row)). o.1
          (named_once z s.words role last shape z.keypos is_last
          x.old.row x.old.row place place is_old is_old o.0 w.0 row (subst
          (λ its. get_elem? (items its) o.0 ≡ some row) (sym old_true.spells) o.2)
          (subst (λ its. get_elem? (items its) w.0 ≡ some row) (sym old_true.spells) w.1)).1)
          (w.2 i)

      -- It was an object of the old base alone.
      was_named : (row : ℕ) → IsIn row x.goes → IsIn row (items (row_at s.words x.old.row))
      was_named row g = let w = u.go row g in
          subst (λ its. IsIn row (items its)) (sym old_true.spells) (w.0, w.1)

      -- The old base is none of its objects.
      pub old_apart : ¬ IsIn x.old.row x.goes
      old_apart g =
          old_no_item x.old.row refl (old_at.are_objects x.old.row (was_named x.old.row g)).2.0

      -- What goes out isn't lent.
      pub out_unlent : (row : ℕ) → IsIn row outs → ¬ IsLent s.words row
      out_unlent row o = unlent z s.words role last shape row (λ (f : form (row_at s.words row) ≡ 4). ⊎_elim
          (λ (e : x.old.row ≡ row).
          let b : form (row_at s.words row) ≡ 2 = ap (λ c. form (row_at s.words c)) (sym e)
          ∙ old_at.is_base in omega arith)
          (λ g. let k = (old_at.are_objects row (was_named row g)).2.0 in omega arith)
          (in_more x.old.row row x.goes o))

      -- What goes out is nothing the new tree has.
      out_unlinked : (row : ℕ) → IsIn row outs → ¬ IsIn row ins → ¬ IsLinked words' row
      out_unlinked row o n l = ⊎_elim
          (λ (t : (p : Place) × (place_of (role' row) ≡ some p)).
          some-ne-none t.0 (sym t.1 ∙ ap place_of out_role))
          (λ y. ⊎_elim
          (λ (t : (base : ℕ) × (p : Place) × (role' base ≡ Base p)
          × IsIn row (items (row_at words' base))). no_object t.0 t.1 t.2 t.3)
          (λ (t : (base : ℕ) × (p : Place) × (role' base ≡ Base p) × IsBoundOf words' base row).
          ⊎_elim (λ lent. out_unlent row o lent) (λ i. n (in_front served comings row i))
          (lent_back row (end_lent z words' role' last' shape' row t)))
          y)
          (reached z words' role' last' shape' row l)
        where
          out_role : role' row ≡ Out
          out_role = ⊎_elim (λ (e : x.old.row ≡ row). ap role' (sym e) ∙ old_gone)
              (λ g. role_else row (λ e. n (in_back served comings row (0, ap some (sym e))))
              (λ e. old_apart (subst (λ c. IsIn c x.goes) e g))
              ∙ item_out z s.words role last shape x.old.row place is_old row (was_named row g))
              (in_more x.old.row row x.goes o)

          no_object : (base : ℕ) (p : Place) → role' base ≡ Base p
              → IsIn row (items (row_at words' base)) → ⊥
          no_object base p e i = dite (ℕ_discrete base new)
              (λ (same : base ≡ new). let j = subst
              (λ its. IsIn row (items its)) (ap (row_at words') same ∙ new_its) i in ⊎_elim
              (λ (f : x.old.row ≡ row). let w = words_of row j in
              old_no_item row f (ap form w.3 ∙ w.4.0))
              (λ g. goes_out row g j) (in_more x.old.row row x.goes o))
              (λ (other : base ≢ new). let b = was_base base p e other in
              let j = subst (λ its. IsIn row (items its)) (base_stays base p b.0) i in ⊎_elim
              (λ (f : x.old.row ≡ row). old_no_item row f
              ((base_at z s.words role last shape base p b.0).are_objects row j).2.0)
              (λ g. let w = was_named row g in
              b.1 (named_once z s.words role last shape z.keypos is_last base x.old.row p place
              b.0 is_old j.0 w.0 row j.1 w.1).0)
              (in_more x.old.row row x.goes o))

      -- What neither comes nor goes is linked as before.
      stays_back : (row : ℕ) → ¬ IsIn row ins → IsLinked words' row → IsLinked s.words row
      stays_back row n l = ⊎_elim
          (λ (t : (p : Place) × (place_of (role' row) ≡ some p)). dite (ℕ_discrete row x.old.row)
          (λ (e : row ≡ x.old.row). subst (IsLinked s.words) (sym e) old_linked)
          (λ (ne : row ≢ x.old.row). placed_linked z s.words role last shape row t.0
          (ap place_of (sym (role_else row
          (λ e. n (in_back served comings row (0, ap some (sym e)))) ne)) ∙ t.1)))
          (λ y. ⊎_elim
          (λ (t : (base : ℕ) × (p : Place) × (role' base ≡ Base p)
          × IsIn row (items (row_at words' base))). dite (ℕ_discrete t.0 new)
          (λ (same : t.0 ≡ new). ⊎_elim (λ j. old_item row j)
          (λ j. absurd (n (in_back served comings row (in_rest row new x.comes j))))
          (was_item row (subst (λ its. IsIn row (items its)) (ap (row_at words') same
          ∙ new_its) t.3)))
          (λ (other : t.0 ≢ new). let b = was_base t.0 t.1 t.2 other in
          item_linked z s.words role last shape t.0 t.1 b.0 row
          (subst (λ its. IsIn row (items its)) (base_stays t.0 t.1 b.0) t.3)))
          (λ (t : (base : ℕ) × (p : Place) × (role' base ≡ Base p) × IsBoundOf words' base row).
          ⊎_elim (λ (lent : IsLent s.words row). by_range lent.0 row lent.1 lent.2 lent.3)
          (λ i. absurd (n (in_front served comings row i)))
          (lent_back row (end_lent z words' role' last' shape' row t)))
          y)
          (reached z words' role' last' shape' row l)

      stays_on : (row : ℕ) → ¬ IsIn row outs → IsLinked s.words row → IsLinked words' row
      stays_on row m l = ⊎_elim
          (λ (t : (p : Place) × (place_of (role row) ≡ some p)).
          let ne : row ≢ new = λ e.
          some-ne-none t.0 (sym t.1 ∙ ap place_of (ap role e ∙ new_out)) in
          placed_linked z words' role' last' shape' row t.0
          (ap place_of (role_else row ne (λ e. m (0, ap some (sym e)))) ∙ t.1))
          (λ y. ⊎_elim
          (λ (t : (base : ℕ) × (p : Place) × (role base ≡ Base p)
          × IsIn row (items (row_at s.words base))). dite (ℕ_discrete t.0 x.old.row)
          (λ (same : t.0 ≡ x.old.row). ⊎_elim (λ j. item_now row j)
          (λ j. absurd (m (in_rest row x.old.row x.goes j)))
          (u.stay row (subst (λ its. IsIn row (items its)) (ap (row_at s.words) same
          ∙ old_true.spells) t.3)))
          (λ (other : t.0 ≢ x.old.row).
          let ne : t.0 ≢ new = λ e.
          (let y : Base t.1 ≡ Out = sym t.2 ∙ (ap role e ∙ new_out) in cc) in
          item_linked z words' role' last' shape' t.0 t.1 (role_else t.0 ne other ∙ t.2) row
          (subst (λ its. IsIn row (items its)) (sym (base_stays t.0 t.1 t.2)) t.3)))
          (λ (t : (base : ℕ) × (p : Place) × (role base ≡ Base p) × IsBoundOf s.words base row).
          let lent = lent_on row (end_lent z s.words role last shape row t) in
          by_range lent.0 row lent.1 lent.2 lent.3)
          y)
          (reached z s.words role last shape row l)

      abbrev pub new_note : Note
      new_note = record { row = new; its = x.its; objects = x.objects; place = x.old.place }

      -- What seats remember.
      abbrev Coming : ℕ → Type 0
      Coming c = c ≡ new

      routes_stay : (c : ℕ) (p : Place) (key : List ℕ) → r.above.role c ≡ Route p key
          → role' c ≡ Route p key
      routes_stay c p key e = role_else c
          (λ n. (let y : Route p key ≡ Out = sym e ∙ (ap role n ∙ new_out) in cc))
          (λ o. (let y : Route p key ≡ Base place = sym e ∙ (ap role o ∙ is_old) in cc)) ∙ e

      routes_back : (c : ℕ) (p : Place) (key : List ℕ) → role' c ≡ Route p key
          → r.above.role c ≡ Route p key
      routes_back c p key e = sym (role_else c
          (λ n. (let y : Base place ≡ Route p key = sym is_new ∙ (ap role' (sym n) ∙ e) in cc))
          (λ o. (let y : Out ≡ Route p key = sym old_gone ∙ (ap role' (sym o) ∙ e) in cc))) ∙ e

      bases_stay : (c : ℕ) (p : Place) → r.above.role c ≡ Base p → (role' c ≡ Base p)
          ⊎ (role' c ≡ Out)
      bases_stay c p e = dite (ℕ_discrete c x.old.row)
          (λ (o : c ≡ x.old.row). inr (ap role' o ∙ old_gone))
          (λ (ne : c ≢ x.old.row). inl (role_else c
          (λ n. (let y : Base p ≡ Out = sym e ∙ (ap role n ∙ new_out) in cc)) ne ∙ e))

      outs_stay : (c : ℕ) → r.above.role c ≡ Out → ¬ (c ≡ new) → role' c ≡ Out
      outs_stay c e ne = role_else c ne
          (λ o. (let y : Base place ≡ Out = sym is_old ∙ (ap role (sym o) ∙ e) in cc)) ∙ e

      -- A base stays that an active range marked.
      marked_stay : (c : ℕ) (p : Place) (pass number : ℕ) → r.above.role c ≡ Base p
          → IsMarkedBy (row_at s.words c) pass number → IsActive s.words pass number
          → role' c ≡ Base p
      marked_stay c p pass number e m now = role_else c
          (λ n. (let y : Base p ≡ Out = sym e ∙ (ap role n ∙ new_out) in cc))
          (λ o. old_over pass number (subst (λ k. IsMarkedBy (row_at s.words k) pass number) o m) now)
          ∙ e

      unnoted : (j : ℕ) (y : View TreeView) → get_elem? s.views j ≡ some y → (c : ℕ) → c ≡ new
          → ¬ IsNoted s.words y.upper c
      unnoted j y here c e n = new_row.4 j y here (subst (IsNoted s.words y.upper) e n)

      pub note_keeps : (j : ℕ) (y : View TreeView) → get_elem? s.views j ≡ some y → (note : Note)
          → IsIn note y.upper.notes → IsTrue z.rows words' role' note
      note_keeps j y here note i =
          note_stays z s.words role last shape x.old.row place (ap place_of is_old) new role' last' shape' Coming (λ _. ⊥)
          (λ c p key e. inl (routes_stay c p key e)) (λ c d x. absurd x) bases_stay outs_stay marked_stay
          y.upper (unnoted j y here) note (by_note note note.row i refl)
          ((knows_upper z s r j y here).notes note i)

      pub shown_keeps : (j : ℕ) (y : View TreeView) → get_elem? s.views j ≡ some y → (note : Note)
          → IsIn note y.upper.ranges.run → IsTrue z.rows words' role' note
      shown_keeps j y here note i =
          note_stays z s.words role last shape x.old.row place (ap place_of is_old) new role' last' shape' Coming (λ _. ⊥)
          (λ c p key e. inl (routes_stay c p key e)) (λ c d x. absurd x) bases_stay outs_stay marked_stay
          y.upper (unnoted j y here) note (by_shown note note.row i refl)
          ((f.ranged.each j y.upper (at_map upper_of s.views j y here)).run note i)

      pub way_keeps : (j : ℕ) (y : View TreeView) → get_elem? s.views j ≡ some y
          → ((at : ℕ) → at ≤ length r.above.history → (at ≤ length next) × (state next at ≡ state r.above.history at)) → (way : Way)
          → IsIn way y.upper.ways → IsTrueWay z words' role' y.upper.since next way
      way_keeps j y here longer way i =
          way_stays z s.words role last shape x.old.row place (ap place_of is_old) new role' last' shape' Coming (λ _. ⊥)
          (λ c p key e. inl (routes_stay c p key e)) (λ c d x. absurd x) bases_stay outs_stay marked_stay
          y.upper (unnoted j y here) r.above.history next longer (λ w a x. absurd x) way i ((knows_upper z s r j y here).ways way i)

      -- What a seat knows of joins is so still, for one note more, too.
      pub joining_keep : (j : ℕ) (y : View TreeView) → get_elem? s.views j ≡ some y
          → IsJoining words' y.upper.notes y.upper.ways y.upper.ranges.joins
      joining_keep j y here = let k = knows_upper z s r j y here in
          joining_keeps z s.words role last shape x.old.row place (ap place_of is_old) new (λ _. old_free) y.upper k.links
          k.notes k.joining

      pub joining_more : IsJoining words' (new_note ∷ d.upper.notes) d.upper.ways d.upper.ranges.joins
      joining_more = joining_noted words' new_note d.upper.notes d.upper.ways d.upper.ranges.joins
          (new_hangs z s.words role last shape x.old.row place (ap place_of is_old) new (λ _. old_free) new_note mark refl refl)
          (joining_keep id d at)

      notes_keep : (j : ℕ) (y : View TreeView) → get_elem? s.views j ≡ some y → (c : ℕ)
          → IsNoted words' y.upper c
          → IsNoted s.words y.upper c ⊎ (IsLinked words' c × (y.pin.pinned ≡ true))
      notes_keep j y here c n = ⊎_elim (λ o. inl o)
          (λ l. inr (l.0, (r.seat j y here).noted_pinned l.1.0 l.1.1))
          (notes_stay z s.words role last shape x.old.row place (ap place_of is_old) new role' last' shape' Coming (λ _. ⊥)
          (λ c p key e. inl (routes_stay c p key e)) (λ c d x. absurd x) bases_stay outs_stay marked_stay
          y.upper (unnoted j y here) (r.above.ranged.ends y.upper.number) f.history
          (f.ranged.each j y.upper (at_map upper_of s.views j y here))
          (knows_upper z s r j y here).ways c n)

      -- What a seat knows of ranges is so still, where no base is marked for its own range that has
      -- none yet.
      pub ranging_keeps : (j : ℕ) (y : View TreeView) → get_elem? s.views j ≡ some y
          → ((i : ℕ) → i ≤ length r.above.history
          → (i ≤ length next) × (state next i ≡ state r.above.history i))
          → ((number : ℕ) → IsActive s.words y.upper.number number
          → ((c : ℕ) → IsBase r.above.role c → ¬ IsMarkedBy (row_at s.words c) y.upper.number number)
          → ¬ IsMarkedBy x.its y.upper.number number)
          → IsRanging z words' role' (r.above.ranged.ends y.upper.number) y.upper.since next
          y.upper.number y.upper.ranges
      ranging_keeps j y here longer unmarked =
          ranges_stay z s.words role last shape x.old.row place (ap place_of is_old) new role' last' shape' Coming (λ _. ⊥)
          (λ c p key e. inl (routes_stay c p key e)) (λ c d x. absurd x) bases_stay outs_stay marked_stay
          y.upper (unnoted j y here) (r.above.ranged.ends y.upper.number) f.history
          (f.ranged.each j y.upper (at_map upper_of s.views j y here)) next longer
          (λ number now none c base m. dite (ℕ_discrete c new)
          (λ (e : c ≡ new). unmarked number now none (subst
          (λ its. IsMarkedBy its y.upper.number number) (ap (row_at words') e ∙ new_its) m))
          (λ (ne : c ≢ new). let b = was_base c base.0 base.1 ne in
          none c (base.0, b.0) (subst (λ its. IsMarkedBy its y.upper.number number)
          (base_stays c base.0 b.0) m)))

      -- What ranges see: the new base takes the place of the old one.
      pub replaced : Replaces (scene_of s.words r.above.role) (scene_of words' role') x.old.row new
      replaced = record {
        alike = record {
          active = active_on z s.words words' role role' same_ranges;
          was_active = active_back z s.words words' role role' same_ranges;
          begun = begun_on z s.words words' role role' same_ranges;
        };
        was = (place, is_old);
        is = (place, is_new);
        is_new = λ base. (let y : Base base.0 ≡ Out = sym base.1 ∙ new_out in cc);
        some_row = new_row.0;
        others = λ row base ne. (base.0, bases_on row base.0 base.1 ne);
        from_where = λ row base. dite (ℕ_discrete row new) (λ e. inl e)
            (λ ne. let b = was_base row base.0 base.1 ne in inr ((base.0, b.0), b.1));
        same_keys = ap span_of is_new ∙ sym (ap span_of is_old);
        keys = λ row base ne. ap span_of (bases_on row base.0 base.1 ne) ∙ sym (ap span_of base.1);
        marks = λ row base. ap mark_of (base_stays row base.0 base.1);
        free = λ pass number now m. old_over pass number m now;
      }
        where
          bases_on : (row : ℕ) (p : Place) → r.above.role row ≡ Base p → row ≢ x.old.row
              → role' row ≡ Base p
          bases_on row p e ne = role_else row
              (λ n. (let y : Base p ≡ Out = sym e ∙ (ap role n ∙ new_out) in cc)) ne ∙ e

      object_keeps : (row : ℕ) → IsIn row (items x.its) → row_at words' row ≡ row_at s.words row
      object_keeps row i = let w = words_of row i in
          relinked_object z s.words role last shape x.old.row place (ap place_of is_old) new row w.1 w.2
          (ap form w.3 ∙ w.4.0)

      -- A range that marked the new base was begun.
      new_begun : (pass number : ℕ) → IsMarkedBy x.its pass number → HasBegun s.words pass number
      new_begun pass number m = ⊎_elim
          (λ (none : IsUnmarked x.its). let one = m.0 in absurd (omega arith))
          (λ some_mark. ⊎_elim
          (λ (k : IsOfRange x.its × (mark_number x.its
          ≤ result_of s.words (mark_owner x.its) / sequence_unit)).
          subst (λ (y : ℕ × ℕ). HasBegun s.words y.0 y.1) (λ i. (m.1 i, m.2 i)) (k.0.1, k.0.2, k.1))
          (λ (k : IsOfJoin place x.its × HasAttempt s.words (mark_owner x.its) (mark_number x.its)).
          let one = m.0 in let two = k.0.0 in absurd (omega arith))
          some_mark)
          mark

      pub new_true : IsTrue z.rows words' role' new_note
      new_true = record {
        some_row = new_row.0;
        in_range = new_row.1;
        spells = new_its;
        named = λ _ row i. let w = words_of row i in
            (w.1, w.2, subst IsObjectRow (sym (object_keeps row i ∙ w.3)) w.4);
        objects_are = λ _. map_same (λ row. row_at words' row)
            (λ row. row_at s.words row) (items x.its) object_keeps ∙ objects_now;
        stands = inl is_new;
        marks = λ pass number k. (
          begun_on z s.words words' role role' same_ranges pass number (new_begun pass number k),
          λ _. is_new,
        );
      }

      -- No other control word changes.
      control : (i : ℕ) → i < row_words → i ≢ root_word → get_or words' i 0 ≡ get_or s.words i 0
      control i l ne = else_word i
          (λ e. ⊎_elim (λ (t : x.old.place.link ≡ root_word). ne (omega arith))
          (λ t. let lo = t.0 in omega arith)
          (link_range z s.words role last shape x.old.place.link old_at.is_link))

      -- the base that comes
      abbrev coming : ℕ × Place
      coming = (new, x.old.place)

      relists : Relists s.words words' r.above.role role' ins outs (coming ∷ []) (x.old.row ∷ [])
      relists = record {
        comes = in_linked;
        came_out = λ row i. let h = held_in row i in (held row h.0 h.1).3;
        goes = out_unlinked;
        back = stays_back;
        on = stays_on;
        ins_once = served_once;
        base_comes = λ row p i. let e = one row p i in
            ap (λ (b : ℕ × Place). role' b.0) (sym e)
            ∙ (is_new ∙ ap (λ (b : ℕ × Place). Base b.1) e);
        base_out = λ row p i. ap (λ (b : ℕ × Place). role b.0) (sym (one row p i)) ∙ new_out;
        base_back = λ row p e. dite (ℕ_discrete row new)
            (λ (same : row ≡ new). inl (
              0,
              ap some (ap (λ c. (c, x.old.place)) (sym same)
                  ∙ ap (λ q. (row, q)) (same_place place p (sym is_new
                  ∙ (ap role' (sym same) ∙ e)))),
            ))
            (λ (ne : row ≢ new). let w = was_base row p e ne in inr (w.0, not_one row x.old.row w.1));
        base_on = λ row p e ne. role_else row
            (λ n. (let y : Base p ≡ Out = sym e ∙ (ap role n ∙ new_out) in cc)) (λ o. ne (0, ap some (sym o))) ∙ e;
        bases_once =
            ((λ (t : (y : ℕ × Place) × IsIn y [] × (y.0 ≡ new)). in_nothing t.0 [] refl t.1), tt);
      }
        where
          one : (row : ℕ) (p : Place) → IsIn {A = ℕ × Place} (row, p) (coming ∷ [])
              → coming ≡ (row, p)
          one row p i = ⊎_elim (λ e. e)
              (λ j. absurd (in_nothing (row, p) [] refl j)) (in_more coming (row, p) [] i)

      listed_now : IsInventory words' role' (exchanged_inventory served new x r.above.inventory)
      listed_now =
          listed_again s.words words' role role' ins outs (coming ∷ []) (x.old.row ∷ []) f.inventory
          relists f.listed

      -- A seat's own new note is on rows that are linked.
      pub own_notes : (v : TreeView) → v.notes ≡ new_note ∷ d.upper.notes → v.ways ≡ d.upper.ways
          → ((border : Border) → IsIn border v.ranges.borders → IsIn border d.upper.ranges.borders
          ⊎ IsLinked words' border.row)
          → ((c : ℕ) → IsOfOwnRun words' v c → IsOfOwnRun words' d.upper c)
          → v.ranges.run ≡ d.upper.ranges.run
          → (row : ℕ) → IsNoted words' v row
          → IsNoted words' d.upper row ⊎ IsLinked words' row
      own_notes v same ways borders run shown _ (by_note n row i e) = ⊎_elim
          (λ (new_one : new_note ≡ n).
          inr (subst (IsLinked words') (ap (λ (y : Note). y.row) new_one ∙ e) new_linked))
          (λ (o : IsIn n d.upper.notes). inl (by_note n row o e))
          (in_more new_note n d.upper.notes (subst (IsIn n) same i))
      own_notes v same ways borders run shown _ (by_item n row i b k) = ⊎_elim
          (λ (new_one : new_note ≡ n).
          inr (item_now row (subst (λ (y : Note). IsIn row (items y.its)) (sym new_one) k)))
          (λ (o : IsIn n d.upper.notes). inl (by_item n row o b k))
          (in_more new_note n d.upper.notes (subst (IsIn n) same i))
      own_notes v same ways borders run shown _ (by_way way row i e) =
          inl (by_way way row (subst (IsIn way) ways i) e)
      own_notes v same ways borders run shown _ (by_link way row i e) =
          inl (by_link way row (subst (IsIn way) ways i) e)
      own_notes v same ways borders run shown _ (by_link_item way base row i e g k) =
          inl (by_link_item way base row (subst (IsIn way) ways i) e g k)
      own_notes v same ways borders run shown _ (by_border border row i e) = ⊎_elim
          (λ o. inl (by_border border row o e))
          (λ l. inr (subst (IsLinked words') e l))
          (borders border i)
      own_notes v same ways borders run shown _ (by_run row o) = inl (by_run row (run row o))
      own_notes v same ways borders run shown _ (by_run_item base row o k) =
          inl (by_run_item base row (run base o) k)
      own_notes v same ways borders run shown _ (by_shown n row i e) =
          inl (by_shown n row (subst (IsIn n) shown i) e)
      own_notes v same ways borders run shown _ (by_shown_item n row i b k) =
          inl (by_shown_item n row (subst (IsIn n) shown i) b k)

      -- the claims of the seat then
      abbrev pub claims' : List Claimed
      claims' = lent_out served (taken_out (x.old.row ∷ x.goes) (given (new ∷ x.comes) d.claims))

      -- What neither comes nor goes has the claim that it had.
      claim_stays : (row : ℕ) → ¬ IsIn row ins → ¬ IsIn row outs
          → claim_of claims' row ≡ claim_of d.claims row
      claim_stays row n m =
          lent_else served (taken_out outs (given comings d.claims)) row
          (λ i. n (in_front served comings row i))
          ∙ (taken_else outs (given comings d.claims) row m
          ∙ given_else comings d.claims row (λ i. n (in_back served comings row i)))

      claims_in : (row : ℕ) (c : Claim) → claim_of claims' row ≡ some c → (0 < row) × (row ≤ z.rows)
      claims_in row c e = ⊎_elim
          (λ i. let h = held_in row i in let w = held row h.0 h.1 in (w.0, w.1))
          (λ n. ⊎_elim
          (λ o. linked_range z s.words role last shape row (out_linked row o))
          (λ m. (r.seat id d at).in_range row c
          (sym (claim_stays row n m) ∙ e)) (has outs row))
          (has ins row)

      -- A row that isn't linked keeps its words.
      unlinked_keeps : (c k : ℕ) → 0 < c → ¬ IsLinked s.words c → k < row_words
          → get_or words' (row_words * c + k) 0 ≡ get_or s.words (row_words * c + k) 0
      unlinked_keeps c k lo n l =
          relinked_keeps z s.words role last shape x.old.row place (ap place_of is_old) new c lo
          (out_no_route role c (unlinked_out z s.words role last shape c n)) k l

      -- The seat knows this then, with one note more, and so do the others.
      module _ (u' : TreeView)
          (own : (row : ℕ) → IsNoted (set s.words x.old.place.link new) u' row
          → IsNoted (set s.words x.old.place.link new) d.upper row
          ⊎ IsLinked (set s.words x.old.place.link new) row)
          (count : ℕ) (same_tree : own_tree u' ≡ (exchanged_inventory served new x d.upper.inventory, d.upper.splits, count))
          (counted : AreCounted s.words r.made served (length x.comes + d.upper.renewal.count) count)
          (keeps_own : KeepsOwn d.upper.ranges.own u'.ranges.own)
          (marks : MarksActive s.words d.upper.number d.upper.ranges.own u'.ranges.own)
          (same_number : u'.number ≡ d.upper.number) (same_ways : u'.ways ≡ d.upper.ways)
          (same_begun : u'.ranges.joins.begun ≡ d.upper.ranges.joins.begun)
          (edits : AreEdits z.keypos next) (by_passes : AreByPasses r.made next)
          (runs : AreRuns (scene_of (set s.words x.old.place.link new) role') r.above.ranged.ends)
          (own_knows : Knows z r.made (set s.words x.old.place.link new) role'
          (set (map upper_of s.views) id u') next id u')
          (own_ranging : IsRanging z (set s.words x.old.place.link new) role'
          (r.above.ranged.ends u'.number) u'.since next u'.number u'.ranges)
          (others_know : (j : ℕ) (v : TreeView) → j ≢ id
          → get_elem? (map upper_of s.views) j ≡ some v
          → Knows z r.made (set s.words x.old.place.link new) role'
          (set (map upper_of s.views) id u') next j v
          × IsRanging z (set s.words x.old.place.link new) role'
          (r.above.ranged.ends v.number) v.since next v.number v.ranges) where
        abbrev d' : View TreeView
        d' = (relinked me claims' u').0

        kind_by : (row : ℕ) → IsIn row served ⊎ ¬ IsIn row served
            → IsIn row comings ⊎ ¬ IsIn row comings → IsIn row outs ⊎ ¬ IsIn row outs → Change
        kind_by row (inl i) c o = Serves
        kind_by row (inr i) (inl c) o = Comes
        kind_by row (inr i) (inr c) (inl o) = Goes
        kind_by row (inr i) (inr c) (inr o) = Stays

        kind : ℕ → Change
        kind row = kind_by row (has served row) (has comings row) (has outs row)

        abbrev IsSo : ℕ → Change → Type 0
        IsSo = IsChange IsLinked IsLent IsNoted IsTree tree_lends z s r id d d' words' kind

        -- What comes has another form than what is lent.
        coming_unlent : (row : ℕ) → IsIn row comings → ¬ IsLent words' row
        coming_unlent row i = ⊎_elim
            (λ (e : new ≡ row). unlent z words' role' last' shape' row (λ (f : form (row_at words' row) ≡ 4).
            let b : form (row_at words' row) ≡ 2 = ap (λ c. form (row_at words' c)) (sym e)
            ∙ (ap form new_its ∙ u.is_base) in omega arith))
            (λ j. unlent z words' role' last' shape' row (λ (f : form (row_at words' row) ≡ 4).
            let o : form (row_at words' row) ≡ 1 = ap form (object_keeps row (u.come row j).0)
            ∙ comes_object row j in omega arith))
            (in_more new row x.comes i)

        none_in : (row : ℕ) → ¬ IsIn row served → ¬ IsIn row comings → ¬ IsIn row ins
        none_in row n m i = ⊎_elim n m (in_either served comings row i)

        changed : (row : ℕ) (a : IsIn row served ⊎ ¬ IsIn row served)
            (b : IsIn row comings ⊎ ¬ IsIn row comings)
            (c : IsIn row outs ⊎ ¬ IsIn row outs) → IsSo row (kind_by row a b c)
        unfolding kind_by
        changed row (inl i) b c = (
          served_lent row i,
          (serve row i).0,
          lent_here served (taken_out outs (given comings d.claims)) row i,
        )
        changed row (inr n) (inl i) c = (
          in_linked row (in_back served comings row i),
          coming_unlent row i,
          held_in row (in_back served comings row i),
          lent_else served (taken_out outs (given comings d.claims)) row n
              ∙ (taken_else outs (given comings d.claims) row
              (apart row (in_back served comings row i))
              ∙ given_here comings d.claims row i),
        )
        changed row (inr n) (inr m) (inl o) = (
          out_linked row o,
          out_unlent row o,
          out_unlinked row o (none_in row n m),
          lent_else served (taken_out outs (given comings d.claims)) row n
              ∙ taken_here outs (given comings d.claims) row o,
          u.is_pinned,
        )
        changed row (inr n) (inr m) (inr o) = (
          stays_back row (none_in row n m),
          stays_on row o,
          (λ l. ⊎_elim (λ b. b) (λ i. absurd (n i)) (lent_back row l)),
          lent_on row,
          claim_stays row (none_in row n m) o,
        )

        changed_now : (c : ℕ) → IsSo c (kind c)
        unfolding kind
        changed_now c = changed c (has served c) (has comings c) (has outs c)

        first : get_elem? (map upper_of s.views) id ≡ some d.upper
        first = at_map upper_of s.views id d at

        tree_now : IsTree z r.made words' (set (map upper_of s.views) id u')
        tree_now = record {
          usable = f.usable;
          history = next;
          edits = edits;
          by_passes = by_passes;
          keypos = control 131 (omega arith) (λ e. omega arith) ∙ f.keypos;
          leaf = control 132 (omega arith) (λ e. omega arith) ∙ f.leaf;
          levels = control 133 (omega arith) (λ e. omega arith) ∙ f.levels;
          role = role';
          shape = shape';
          ranged = record {
            ends = f.ranged.ends;
            runs = runs;
            made_before = λ pass number now. f.ranged.made_before pass number
                (active_back z s.words words' role role' same_ranges pass number now);
            each =
                all_seats (λ j v. IsRanging z words' role' (f.ranged.ends v.number) v.since next
                v.number v.ranges) (map upper_of s.views) id u' own_ranging
                (λ j v ne here. (others_know j v ne here).1);
          };
          joined = record {
            secured = λ route p key attempt e. joined_keeps z s.words role last shape x.old.row place (ap place_of is_old) new (λ _. old_free)
                f.joined route p key attempt (routes_back route p key e);
            states = λ route p key e. states_keep z s.words role last shape x.old.row place (ap place_of is_old) new (λ _. old_free)
                f.joined route p key (routes_back route p key e);
          };
          lone = lone_by_one z r.made s.words words' role role' (map upper_of s.views) f.history f.each_seat id d.upper u' first u.is_pass
              (λ few. subst (λ (p : ℕ). IsLone words' role' p u'.ranges.own u'.ways u'.ranges.joins.begun) (sym same_number)
              (lone_still s.words words' role role' d.upper.number d.upper.ranges.own u'.ranges.own d.upper.ways u'.ways d.upper.ranges.joins.begun
              u'.ranges.joins.begun
              (λ route p key e. inr (p, key, routes_back route p key e, relinked_joins z s.words role last shape x.old.row place (ap place_of is_old) new route))
              (λ route p key e. (routes_stay route p key e, relinked_joins z s.words role last shape x.old.row place (ap place_of is_old) new route))
              (λ way i. inl (subst (IsIn way) same_ways i)) keeps_own
              (marks_active s.words words' d.upper.number d.upper.ranges.own u'.ranges.own
              (active_on z s.words words' role role' same_ranges d.upper.number) marks) same_begun
              (f.lone id d.upper first few u.is_pass)));
          each_seat =
              all_seats (Knows z r.made words' role' (set (map upper_of s.views) id u') next)
              (map upper_of s.views) id u' own_knows (λ j v ne here. (others_know j v ne here).0);
          inventory = exchanged_inventory served new x f.inventory;
          listed = listed_now;
          at_first = λ (e : r.made ≡ 0). let lo = u.is_pass in let hi = knows.made_before in
              absurd (omega arith);
          only_one =
              known_by_one z r.made s.words words' role role' (map upper_of s.views) f.history f.each_seat
              id d.upper u'
              (exchanged_inventory served new x f.inventory) first u.is_pass
              (λ few. let was = f.only_one id d.upper first few u.is_pass in
              subst (OwnsTree words' role' (exchanged_inventory served new x f.inventory)) (sym same_tree) record {
                whole = ap (exchanged_inventory served new x) was.whole;
                shallow = λ row p e. ⊎_elim
                    (λ (i : IsIn (row, p) (coming ∷ [])). let one : coming ≡ (row, p) = in_one {A = ℕ × Place} coming (row, p) i in
                    subst (λ (b : ℕ × Place). b.1.level ≤ d.upper.splits) one (was.shallow x.old.row place is_old))
                    (λ (o : (role row ≡ Base p) × ¬ IsIn row (x.old.row ∷ [])). was.shallow row p o.0)
                    (relists.base_back row p e);
                few = let less = but_shorter row_of_base x.old.row d.upper.inventory.bases (x.old.row, x.old.place)
                    (subst (λ (j : Inventory). IsIn (x.old.row, x.old.place) j.bases) (sym was.whole)
                    (f.listed.based x.old.row x.old.place is_old)) refl in let most = was.few in omega arith;
                rows = let most = was.rows in let long = exchanged_length served new x d.upper.inventory
                    (subst (λ (j : Inventory). IsIn x.old.row j.rows) (sym was.whole)
                    (f.listed.linked x.old.row (out_linked x.old.row (0, refl)))) in ⊎_elim
                    (λ (c : length served + (length x.comes + d.upper.renewal.count) ≤ count). (
                      omega arith,
                      (λ none. let m = most.1 (λ row l. none row (lent_on row l)) in omega arith),
                    ))
                    (λ (c : IsLentFirst s.words r.made served (length x.comes + d.upper.renewal.count) count).
                    let m = most.1 (c.unlent few) in
                    (let l = c.one in omega arith, λ none. absurd (none c.row (served_lent c.row c.is))))
                    counted;
              });
        }

        -- Where the link names the old base, the whole rule holds again.
        pub exchange_step : R z record {
          words =
              words';
          homes = s.homes;
          views = set s.views id d';
        }
        exchange_step =
            relinks IsLinked IsLent IsNoted IsTree tree_lends z s r id d d' words' kind record {
              at = at;
              same_sizes = refl;
              same_made = refl;
              same_stage = refl;
              same_lost = refl;
              same_pin = refl;
              wide = wide' ∙ sym r.wide;
              low = λ i l. control i (omega arith) (λ e. omega arith);
              announcements = relinked_told z s.words role last shape x.old.row x.old.place (ap place_of is_old) new;
              unlinked_rows = λ c k lo hi n l. unlinked_keeps c k lo n l;
              changes = λ c _ _. changed_now c;
              in_range = claims_in;
              notes = λ j y here c n. ⊎_elim
                  (λ (t : (j ≡ id) × (d' ≡ y)). ⊎_elim
                  (λ (o : IsNoted words' d.upper c). ⊎_elim
                  (λ (w : IsNoted s.words d.upper c). inl (d, ap (get_elem? s.views) t.0 ∙ at, w))
                  (λ (l : IsLinked words' c
                  × (d.pin.pinned ≡ true)). inr (
                    l.0,
                    ap (λ (w : View TreeView). w.pin.pinned) (sym t.1) ∙ l.1,
                  ))
                  (notes_keep id d at c o))
                  (λ (l : IsLinked words' c).
                  inr (l, ap (λ (w : View TreeView). w.pin.pinned) (sym t.1) ∙ u.is_pinned))
                  (own c (subst
                  (λ (w : View TreeView). IsNoted words' w.upper c) (sym t.1) n)))
                  (λ (t : (j ≢ id) × (get_elem? s.views j ≡ some y)). ⊎_elim (λ w. inl (y, t.1, w))
                  (λ l. inr l) (notes_keep j y t.1 c n))
                  (at_set s.views id j d' y here);
              above = subst (IsTree z r.made words') (sym (map-set upper_of s.views id d')) tree_now;
            }
