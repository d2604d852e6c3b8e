-- The first base that is marked for a pass's own range, and each next one for any range.
use Rattle.std.proofs.Common.{◌≡◌, ◌≢◌, ◌⊎◌, ℕ, ◌+◌, ◌/◌, ◌<◌, ◌≤◌, Bool, true, false, eqb, List, [], ◌∷◌, get_or, set, sym, refl, ap, ◌∙◌, subst, inl, inr, ⊎_elim, arith, eq-eqb, ne_eqb}
use mathlib.Core.Logic.{dite}
use mathlib.Core.Option.{some, none, some-ne-none}
use native.Mathlib.Decide.{ℕ_discrete}
use lib.ListN.{get_elem?}
use prog.Atomic.{either}
use Rattle.atomic_table.specs.Table.{State, step, keeps, stepped, Allows}
use Rattle.atomic_table.proofs.Lists.{at_map}
use Rattle.ca_model.specs.Edges.{Bound}
use Rattle.ca_model.specs.History.{after}
use Rattle.ca_rows.specs.Calls.{Relinks}
use Rattle.ca_rows.specs.Claims.{claim_of}
use Rattle.ca_rows.specs.Rule.{upper_of}
use Rattle.ca_rows.specs.Told.{relinked}
use Rattle.ca_rows.specs.Words.{result_of}
use Rattle.ca_rows.specs.declared.sizes.Sizes.{Sizes}
use Rattle.ca_rows.specs.declared.view.Claim.TheVariants.{Holds}
use Rattle.ca_rows.specs.declared.view.View.{View}
use Rattle.ca_runs.specs.Runs.{AreNeighbours, BeginsBefore, Span}
use Rattle.ca_runs.specs.Scenes.{IsFirst, IsNext}
use Rattle.ca_node.specs.LoneStays.{KeepsOwn, MarksActive, same_kept, none_kept, none_by_unmarked, none_by_marking}
use Rattle.ca_node.specs.Copies.{Copy, update_of, IsCopy, IsFirstCopy, IsNextCopy, copied, IsCopied, Copies, HasCopied, marking_now}
use Rattle.ca_node.specs.Inventory.{AreOnce, row_itself, IsLentFirst}
use Rattle.ca_node.specs.Layout.{sequence_unit}
use Rattle.ca_node.specs.Links.{IsIn, IsActive, HasBegun, IsBoundOf, IsLinked, IsLent, IsOfOwnRun}
use Rattle.ca_node.specs.Marks.{IsBorder}
use Rattle.ca_node.specs.May.{MaySwap}
use Rattle.ca_node.specs.Ranging.{IsTrueBorder, GoesOn, IsSoFar, IsRanging}
use Rattle.ca_node.specs.RangesStay.{active_on, over_on, border_on, active_undecided}
use Rattle.ca_node.specs.Reached.{base_at, lent_end, end_lent}
use Rattle.ca_node.specs.Row.{row_at, form, mark as mark_kind, mark_owner, mark_number, mark_bound, mark_back, IsBorderRow, IsMarkedBy}
use Rattle.ca_node.specs.Scenes.{IsBase, span_of, scene_of}
use Rattle.ca_node.specs.Shape.{Role, Base, place_of}
use Rattle.ca_node.specs.Told.{MyTree, IsLastThere, one_more_lost, IsMissed, taken_out, given, lent_out}
use Rattle.ca_node.specs.Tree.{IsTrue}
use Rattle.ca_node.specs.TreeView.{Note, Border, Begun, Marking, KnownRanges, TreeView}
use Rattle.ca_node.proofs.Copying.{one_active, ex, over, free, knows, new_words, serve_linked, ranging_still, run_keeps, copy_step, copied_now}
use Rattle.ca_node.proofs.Exchanging.{own_ranging, is_old, new_row, ins_once}
use Rattle.ca_node.proofs.Holding.{held_row}
use Rattle.ca_node.proofs.Looking.{R, loses, hangs_still, in_more}
use Rattle.ca_node.proofs.Neighbours.{begins_there}
use Rattle.ca_node.proofs.Rebased.{with_base, with_base_new}
use Rattle.ca_node.proofs.Relinked.{relinked_ranges, relinked_border}

-- A range that is active was begun.
active_begun : (words : List ℕ) (pass number : ℕ) → IsActive words pass number → HasBegun words pass number
active_begun words pass number now = let here = now.2 in (now.0, now.1, omega arith)

-- A range that marks is one.
same_range : (a b : Begun) (to to' : Border) → Marking a to ≡ Marking b to' → a ≡ b
same_range a b to to' e = cc

module _ (z : Sizes) (s : State (Unit {0}) (View TreeView)) (r : R z s) (id : ℕ) (me : MyTree)
    (at : get_elem? s.views id ≡ some me.0) (new : ℕ) (x : Copy) (c : IsCopy z me new x)
    (hit : get_or s.words x.old.place.link 0 ≡ x.old.row) where
  abbrev role : ℕ → Role
  role = r.above.role

  abbrev words' : List ℕ
  words' = set s.words x.old.place.link new

  abbrev role' : ℕ → Role
  role' = with_base r.above.role x.old.place x.old.row new

  ranging : IsRanging z s.words r.above.role (r.above.ranged.ends me.0.upper.number)
      me.0.upper.since r.above.history me.0.upper.number me.0.upper.ranges
  ranging = own_ranging z s r id me.0 at

  old_is : r.above.role x.old.row ≡ Base x.old.place
  old_is = is_old z s r id me at new (update_of x) (ex z s r id me at new x c hit) hit
      (over z s r id me at new x c hit) (free z s r id me at new x c hit)

  -- The copy's words are in the row that the seat holds.
  spells : row_at s.words new ≡ x.its
  spells = (new_row z s r id me at new (update_of x) (ex z s r id me at new x c hit) hit
      (over z s r id me at new x c hit) (free z s r id me at new x c hit)).2

  once : AreOnce row_itself (new ∷ [])
  once = ins_once z s r id me at new (update_of x) (ex z s r id me at new x c hit) hit
      (over z s r id me at new x c hit) (free z s r id me at new x c hit)

  same_ranges : (pass : ℕ) → 0 < pass → pass ≤ 64 → result_of words' pass ≡ result_of s.words pass
  same_ranges = relinked_ranges z s.words role (after r.above.history []) r.above.shape x.old.row
      x.old.place (ap place_of old_is) new

  -- Where a range has the copy, it is the one that it is marked for.
  bound_is : (border : ℕ) → IsBoundOf s.words new border → IsActive s.words x.pass x.number
      × (mark_bound x.its ≡ border)
  bound_is border b = let k = subst (λ its. (mark_kind its ≡ 1)
      × IsActive s.words (mark_owner its) (mark_number its) × (mark_bound its ≡ border)) spells b in
      (subst (λ (y : ℕ × ℕ). IsActive s.words y.0 y.1) (λ i. (c.marked.1 i, c.marked.2 i)) k.1, k.2)

  bound_by : IsActive s.words x.pass x.number → IsBoundOf s.words new (mark_bound x.its)
  bound_by now = subst (λ its. (mark_kind its ≡ 1)
      × IsActive s.words (mark_owner its) (mark_number its) × (mark_bound its ≡ mark_bound x.its)) (sym spells)
      (c.marked.0, subst (λ (y : ℕ × ℕ). IsActive s.words y.0 y.1) (λ i. (sym c.marked.1 i, sym c.marked.2 i)) now, refl)

  owner_is : mark_owner (row_at s.words new) ≡ x.pass
  owner_is = ap mark_owner spells ∙ c.marked.1

  -- The first base of the seat's own range.
  module _ (begun : Begun) (its : List ℕ) (k : IsFirstCopy me x begun its) where
    so : GoesOn s.words (r.above.ranged.ends me.0.upper.number) me.0.upper.number begun
        × ((row : ℕ) → IsBase r.above.role row → ¬ IsMarkedBy (row_at s.words row) me.0.upper.number begun.number)
    so = subst (IsSoFar z s.words r.above.role (r.above.ranged.ends me.0.upper.number) me.0.upper.since
        r.above.history me.0.upper.number me.0.upper.ranges.borders) k.own (ranging.own c.is_pass)

    now : IsActive s.words x.pass x.number
    now = subst (λ (y : ℕ × ℕ). IsActive s.words y.0 y.1) (λ i. (sym k.pass_is i, sym k.number_is i)) so.0.0

    has_begun : HasBegun s.words x.pass x.number
    has_begun = active_begun s.words x.pass x.number now

    top : (0 < begun.top) × (begun.top ≤ z.rows) × (row_at s.words begun.top ≡ its)
    top = let h = held_row z s r id me.0 at begun.top its k.held in (h.0, h.1, h.2)

    border : IsBorder z.rows s.words x.pass begun.top
    border = record {
      some_row = top.0;
      in_range = top.1;
      is_border = subst IsBorderRow (sym top.2) k.is_border;
      owner = ap (λ y. get_or y 1 0) top.2 ∙ (k.owner ∙ sym k.pass_is);
    }

    bounded : (b : ℕ) → IsBoundOf s.words new b → IsBorder z.rows s.words (mark_owner (row_at s.words new)) b
    bounded b is = subst (λ (y : ℕ × ℕ). IsBorder z.rows s.words y.0 y.1)
        (λ i. (sym owner_is i, (sym k.bound_is ∙ (bound_is b is).1) i)) border

    abbrev served : List ℕ
    served = begun.top ∷ []

    one : (row : ℕ) → IsIn row served → begun.top ≡ row
    one row i = ⊎_elim (λ e. e) (λ j. absurd (some-ne-none row (sym j.1))) (in_more begun.top row [] i)

    serve : (row : ℕ) → IsIn row served
        → ((t : List ℕ) × (claim_of me.0.claims row ≡ some (Holds t))) × IsBoundOf s.words new row
    serve row i = let e = one row i in (
      (its, ap (claim_of me.0.claims) (sym e) ∙ k.held),
      subst (IsBoundOf s.words new) (k.bound_is ∙ e) (bound_by now),
    )

    served_once : AreOnce row_itself (begun.top ∷ new ∷ [])
    served_once = (
      (λ (t : (y : ℕ) × IsIn y (new ∷ []) × (y ≡ begun.top)). let e : new ≡ begun.top = ⊎_elim (λ e. e ∙ t.2)
          (λ j. absurd (some-ne-none t.0 (sym j.1))) (in_more new t.0 [] t.1) in
          let b = c.is_base in let o = k.is_border in
          let same : form x.its ≡ form its = ap form (sym spells ∙ (ap (row_at s.words) e ∙ top.2)) in omega arith),
      once,
    )

    new_end : (b : ℕ) → IsBoundOf s.words new b → IsLent s.words b ⊎ IsIn b served
    new_end b is = inr (0, ap some (sym k.bound_is ∙ (bound_is b is).1))

    fits : IsActive s.words x.pass x.number
        → IsFirst (scene_of s.words r.above.role) (scene_of words' role') r.above.ranged.ends x.pass x.number
        x.old.row new
        ⊎ ((left : ℕ) × IsNext (scene_of s.words r.above.role) (scene_of words' role') x.pass x.number
        x.old.row new left)
    fits _ = inl record {
      none = λ row base m. so.1 row base (m.0, m.1 ∙ k.pass_is, m.2 ∙ k.number_is);
      back = ap (λ y. mark_back y) copy_words ∙ k.back_is;
      before = subst (λ (y : Span × Bound). BeginsBefore y.0.low y.1)
          (λ i. (sym (ap span_of old_is) i, sym (ap (λ p. (r.above.ranged.ends p).edge) k.pass_is ∙ so.0.1) i)) k.before;
      top = ap mark_bound copy_words ∙ (k.bound_is ∙ sym (ap (λ p. (r.above.ranged.ends p).top) k.pass_is ∙ so.0.2));
    }
      where
        copy_words : row_at words' new ≡ x.its
        copy_words = new_words z s r id me at new x c hit has_begun bounded served serve served_once new_end

    -- The copy has the mark of the range.
    new_marked : IsMarkedBy (row_at words' new) me.0.upper.number begun.number
    new_marked = let m = c.marked in subst (λ y. IsMarkedBy y me.0.upper.number begun.number)
        (sym (new_words z s r id me at new x c hit has_begun bounded served serve served_once new_end))
        (m.0, m.1 ∙ k.pass_is, m.2 ∙ k.number_is)

    -- The seat's range goes on, and it remembers its end.
    own_now : IsRanging z words' role' (r.above.ranged.ends me.0.upper.number) me.0.upper.since
        r.above.history me.0.upper.number (marking_now me.0.upper.ranges begun its)
    own_now = record {
      over = λ y i. over_on z s.words words' role role' same_ranges y (ranging.over y i);
      borders = λ b i. ⊎_elim
          (λ (e : record { row = begun.top; its = its } ≡ b). subst (λ (y : Border).
          IsTrueBorder z.rows words' y) e record {
            some_row = top.0;
            in_range = top.1;
            spells = stays begun.top top.0 top.1 (ap form top.2 ∙ k.is_border) ∙ top.2;
            is_border = k.is_border;
          })
          (λ (o : IsIn b me.0.upper.ranges.borders). let was = ranging.borders b o in
          border_on z s.words words' role role' same_ranges b
          (stays b.row was.some_row was.in_range (ap form was.spells ∙ was.is_border)) was)
          (in_more (record { row = begun.top; its = its }) b me.0.upper.ranges.borders i);
      own = λ _. (
        (0, refl),
        refl,
        inl (
          (active_on z s.words words' role role' same_ranges me.0.upper.number begun.number so.0.0, so.0.1, so.0.2),
          (new, (x.old.place, with_base_new r.above.role x.old.place x.old.row new), new_marked),
        ),
      );
      sequence = λ n lo is. let q = ranging.sequence n lo is in (
        q.0,
        ap (λ v. v / sequence_unit) (same_ranges me.0.upper.number lo q.0) ∙ q.1,
      );
      run = run_keeps z s r id me at new x c hit has_begun bounded served serve served_once new_end;
    }
      where
        stays : (row : ℕ) → 0 < row → row ≤ z.rows → form (row_at s.words row) ≡ 4 → row_at words' row ≡ row_at s.words row
        stays row lo hi f = relinked_border z s.words role (after r.above.history []) r.above.shape x.old.row
            x.old.place (ap place_of old_is) new row lo hi f

    -- No other pass has this number.
    unmarked : (j : ℕ) (y : View TreeView) → j ≢ id → get_elem? s.views j ≡ some y
        → (number : ℕ) → IsActive s.words y.upper.number number
        → ((b : ℕ) → IsBase r.above.role b → ¬ IsMarkedBy (row_at s.words b) y.upper.number number)
        → ¬ IsMarkedBy x.its y.upper.number number
    unmarked j y ne here number _ _ m = ne ((knows z s r id me at new x c hit).alone c.is_pass j y.upper
        (at_map upper_of s.views j y here) (sym m.1 ∙ (c.marked.1 ∙ k.pass_is)))

    borders : (b : Border) → IsIn b (marking_now me.0.upper.ranges begun its).borders
        → IsIn b me.0.upper.ranges.borders ⊎ IsLinked (set s.words x.old.place.link new) b.row
    borders b i = ⊎_elim
        (λ (e : record { row = begun.top; its = its } ≡ b). inr (subst (λ (y : Border). IsLinked words' y.row) e
        (serve_linked z s r id me at new x c hit has_begun bounded served serve served_once new_end begun.top (0, refl))))
        (λ o. inl o)
        (in_more (record { row = begun.top; its = its }) b me.0.upper.ranges.borders i)

    run : (row : ℕ) → IsOfOwnRun (set s.words x.old.place.link new)
        (copied served (marking_now me.0.upper.ranges begun its) new x me.0.upper) row
        → IsOfOwnRun (set s.words x.old.place.link new) me.0.upper row
    run row o = absurd (active_undecided words' me.0.upper.number begun.number o.0 o.1
        (active_on z s.words words' role role' same_ranges me.0.upper.number begun.number so.0.0) o.3)

    keeps_own : KeepsOwn me.0.upper.ranges.own (marking_now me.0.upper.ranges begun its).own
    keeps_own = none_kept me.0.upper.ranges.own (marking_now me.0.upper.ranges begun its).own (none_by_unmarked me.0.upper.ranges.own begun k.own)
        (none_by_marking (marking_now me.0.upper.ranges begun its).own begun (record { row = begun.top; its = its }) refl)

    -- The range that marks something is active.
    marks_own : MarksActive s.words me.0.upper.number me.0.upper.ranges.own (marking_now me.0.upper.ranges begun its).own
    marks_own range border is = inr (subst (λ (b : Begun). IsActive s.words me.0.upper.number b.number) (same_range begun range _ border is) so.0.0)

    -- No row is lent to a range where the pass is the only one: its own is the one that is active, and marked nothing yet.
    counted : IsLentFirst s.words r.made served (0 + me.0.upper.renewal.count) me.0.upper.renewal.count
    counted = record {
      row = begun.top;
      is = (0, refl);
      one = omega arith;
      unlent = λ few row l. let t = lent_end z s.words role (after r.above.history []) r.above.shape row l in let active = t.3.1 in
          let here = r.above.ranged.made_before (mark_owner (row_at s.words t.0)) (mark_number (row_at s.words t.0)) active in
          let mine = (knows z s r id me at new x c hit).made_before in let lo = c.is_pass in let own = active.0 in
          let pass_is : mark_owner (row_at s.words t.0) ≡ me.0.upper.number = omega arith in
          let number_is : mark_number (row_at s.words t.0) ≡ begun.number = one_active s.words me.0.upper.number
          (mark_number (row_at s.words t.0)) begun.number
          (subst (λ p. IsActive s.words p (mark_number (row_at s.words t.0))) pass_is active) so.0.0 in
          so.1 t.0 (t.1, t.2) (t.3.0, pass_is, number_is);
    }

    abbrev first_view : View TreeView
    first_view = (relinked me (lent_out served (taken_out (x.old.row ∷ []) (given (new ∷ []) me.0.claims)))
        (copied served (marking_now me.0.upper.ranges begun its) new x me.0.upper)).0

    -- Where the link names the old base, the exchange marks the first base of the range.
    pub first_copied : R z record { words = words'; homes = s.homes; views = set s.views id first_view }
        × IsCopied served (marking_now me.0.upper.ranges begun its) new x me (first_view, me.1)
    first_copied = (
      copy_step z s r id me at new x c hit has_begun bounded served serve served_once new_end
          (marking_now me.0.upper.ranges begun its) fits own_now unmarked borders run refl refl keeps_own marks_own (inr counted),
      copied_now z s r id me at new x c hit has_begun bounded served serve served_once new_end
          (marking_now me.0.upper.ranges begun its) fits own_now unmarked borders run refl refl keeps_own marks_own (inr counted),
    )

  -- The next base behind one that the range marked.
  module _ (left : Note) (k : IsNextCopy me x left) where
    left_true : IsTrue z.rows s.words r.above.role left
    left_true = (knows z s r id me at new x c hit).notes left k.shown

    was_begun : HasBegun s.words x.pass x.number
    was_begun = (left_true.marks x.pass x.number k.marked).0

    -- While the range is active, that base is one.
    left_is : IsActive s.words x.pass x.number → r.above.role left.row ≡ Base left.place
    left_is now = (left_true.marks x.pass x.number k.marked).1 now

    left_marked : IsMarkedBy (row_at s.words left.row) x.pass x.number
    left_marked = subst (λ y. IsMarkedBy y x.pass x.number) (sym left_true.spells) k.marked

    left_bound : (b : ℕ) → IsActive s.words x.pass x.number → mark_bound x.its ≡ b → IsBoundOf s.words left.row b
    left_bound b now e = (
      left_marked.0,
      subst (λ (y : ℕ × ℕ). IsActive s.words y.0 y.1) (λ i. (sym left_marked.1 i, sym left_marked.2 i)) now,
      ap mark_bound left_true.spells ∙ (sym k.bound_is ∙ e),
    )

    bounded_too : (b : ℕ) → IsBoundOf s.words new b → IsBorder z.rows s.words (mark_owner (row_at s.words new)) b
    bounded_too b is = let t = bound_is b is in subst (λ p. IsBorder z.rows s.words p b) (left_marked.1 ∙ sym owner_is)
        ((base_at z s.words role (after r.above.history []) r.above.shape left.row left.place (left_is t.0)).bounded b
        (left_bound b t.0 t.1))

    serves_none : (row : ℕ) → IsIn row []
        → ((t : List ℕ) × (claim_of me.0.claims row ≡ some (Holds t))) × IsBoundOf s.words new row
    serves_none row i = absurd (some-ne-none row (sym i.1))

    new_end_too : (b : ℕ) → IsBoundOf s.words new b → IsLent s.words b ⊎ IsIn b []
    new_end_too b is = let t = bound_is b is in inl (end_lent z s.words role (after r.above.history []) r.above.shape b
        (left.row, left.place, left_is t.0, left_bound b t.0 t.1))

    fits_next : IsActive s.words x.pass x.number
        → IsFirst (scene_of s.words r.above.role) (scene_of words' role') r.above.ranged.ends x.pass x.number
        x.old.row new
        ⊎ ((row : ℕ) × IsNext (scene_of s.words r.above.role) (scene_of words' role') x.pass x.number
        x.old.row new row)
    fits_next now = inr (
      left.row,
      record {
        is_base = (left.place, left_is now);
        marked = left_marked;
        back = ap (λ y. mark_back y) copy_words ∙ k.back_is;
        beside = subst (λ (y : Span × Span). AreNeighbours y.0 y.1)
            (λ i. (sym (ap span_of (left_is now)) i, sym (ap span_of old_is) i)) (
              k.key,
              k.ends,
              begins_there z s.words role (after r.above.history []) r.above.shape left.row x.old.row left.place x.old.place k.key (left_is now) old_is
                  k.ends k.has,
            );
        top = ap mark_bound copy_words ∙ (k.bound_is ∙ sym (ap mark_bound left_true.spells));
      },
    )
      where
        copy_words : row_at words' new ≡ x.its
        copy_words = new_words z s r id me at new x c hit was_begun bounded_too [] serves_none once new_end_too

    -- The range has a base already, if it is active.
    none_before : (j : ℕ) (y : View TreeView) → get_elem? s.views j ≡ some y
        → (number : ℕ) → IsActive s.words y.upper.number number
        → ((b : ℕ) → IsBase r.above.role b → ¬ IsMarkedBy (row_at s.words b) y.upper.number number)
        → ¬ IsMarkedBy x.its y.upper.number number
    none_before j y here number now nothing m =
        let pass_is : x.pass ≡ y.upper.number = sym c.marked.1 ∙ m.1 in
        let number_is : x.number ≡ number = sym c.marked.2 ∙ m.2 in
        let active = subst (λ (q : ℕ × ℕ). IsActive s.words q.0 q.1) (λ i. (sym pass_is i, sym number_is i)) now in
        nothing left.row (left.place, left_is active) (left_marked.0, left_marked.1 ∙ pass_is, left_marked.2 ∙ number_is)

    abbrev next_view : View TreeView
    next_view = (relinked me (taken_out (x.old.row ∷ []) (given (new ∷ []) me.0.claims))
        (copied [] me.0.upper.ranges new x me.0.upper)).0

    own_still : IsRanging z words' role' (r.above.ranged.ends me.0.upper.number) me.0.upper.since
        r.above.history me.0.upper.number me.0.upper.ranges
    own_still = ranging_still z s r id me at new x c hit was_begun bounded_too [] serves_none once new_end_too id me.0 at
        (none_before id me.0 at)

    -- Where the link names the old base, the exchange marks the next base of the range.
    pub next_copied : R z record { words = words'; homes = s.homes; views = set s.views id next_view }
        × IsCopied [] me.0.upper.ranges new x me (next_view, me.1)
    next_copied = (
      copy_step z s r id me at new x c hit was_begun bounded_too [] serves_none once new_end_too
          me.0.upper.ranges fits_next own_still (λ j y _ here. none_before j y here) (λ b i. inl i) (λ row o. o) refl refl (same_kept me.0.upper.ranges.own)
          (λ _ _ same. inl same) (inl (omega arith)),
      copied_now z s r id me at new x c hit was_begun bounded_too [] serves_none once new_end_too
          me.0.upper.ranges fits_next own_still (λ j y _ here. none_before j y here) (λ b i. inl i) (λ row o. o) refl refl (same_kept me.0.upper.ranges.own)
          (λ _ _ same. inl same) (inl (omega arith)),
    )

module _ (z : Sizes) where
  -- The exchange of a link that puts a copy in place, where it does so each time that it is won.
  pub copies : (slots id : ℕ) (me : MyTree) (new : ℕ) (x : Copy) (served : List ℕ) (ranges : KnownRanges) → IsLastThere x.old me.0.upper.notes
      → ((s : State (Unit {0}) (View TreeView)) → R z s → get_elem? s.views id ≡ some me.0
      → get_or s.words x.old.place.link 0 ≡ x.old.row
      → R z record {
        words = set s.words x.old.place.link new;
        homes = s.homes;
        views = set s.views id (relinked me (lent_out served (taken_out (x.old.row ∷ []) (given (new ∷ []) me.0.claims)))
            (copied served ranges new x me.0.upper)).0;
      } × IsCopied served ranges new x me (
        (relinked me (lent_out served (taken_out (x.old.row ∷ []) (given (new ∷ []) me.0.claims)))
            (copied served ranges new x me.0.upper)).0,
        me.1,
      ))
      → Allows (R z) slots id me x.old.place.link
      (λ n. either (eqb n x.old.row) new n)
      (Relinks MaySwap (Copies served ranges x) (step slots x.old.place.link x.old.row new none) me)
  copies slots id me new x served ranges shown wins s r _ at _ = let n : ℕ = get_or s.words x.old.place.link 0 in
      let d = me.0 in dite (ℕ_discrete n x.old.row)
      (λ (hit : n ≡ x.old.row). let d' : View TreeView =
      (relinked me (lent_out served (taken_out (x.old.row ∷ []) (given (new ∷ []) me.0.claims)))
      (copied served ranges new x me.0.upper)).0 in let w = wins s r at hit in
      let won : Copies served ranges x (step slots x.old.place.link x.old.row new none) me n (d', me.1) =
      ((λ _. w.1), λ miss. absurd (miss hit)) in (
        d',
        keeps,
        tt,
        subst (λ (y : ℕ). R z (stepped s x.old.place.link y id me.1 d' keeps))
            (sym (ap (λ b. either b new n) (eq-eqb n x.old.row hit)))
            w.0,
        ((λ _. refl), (λ miss. absurd (miss hit)), inr (inr (inl (x, served, ranges, (shown, refl, refl), won))), won),
      ))
      (λ miss. let lost : View TreeView = record d { upper = one_more_lost d.upper } in
      let missed : Copies served ranges x (step slots x.old.place.link x.old.row new none) me n (lost, me.1) =
      ((λ hit. absurd (miss hit)), λ _. (refl, hangs_still z s r id me x.old at miss)) in (
        lost,
        keeps,
        tt,
        subst (λ (y : ℕ). R z (stepped s x.old.place.link y id me.1 lost keeps))
            (sym (ap (λ b. either b new n) (ne_eqb n x.old.row miss)))
            (loses z s r x.old.place.link id d at),
        ((λ hit. absurd (miss hit)), (λ _. refl), inr (inr (inl (x, served, ranges, (shown, refl, refl), missed))), missed),
      ))

  -- The same, where the old row and the link have other names.
  pub copies_from : (slots id : ℕ) (me : MyTree) (link old new : ℕ) (x : Copy) (served : List ℕ) (ranges : KnownRanges)
      → x.old.row ≡ old → x.old.place.link ≡ link
      → Allows (R z) slots id me x.old.place.link (λ n. either (eqb n x.old.row) new n)
      (Relinks MaySwap (Copies served ranges x) (step slots x.old.place.link x.old.row new none) me)
      → Allows (R z) slots id me link (λ n. either (eqb n old) new n)
      (Relinks MaySwap (Copies served ranges x) (step slots link old new none) me)
  copies_from slots id me link old new x served ranges same here allowed = subst
      (λ (i : ℕ). Allows (R z) slots id me i (λ n. either (eqb n old) new n)
      (Relinks MaySwap (Copies served ranges x) (step slots i old new none) me)) here (subst
      (λ (o : ℕ). Allows (R z) slots id me x.old.place.link (λ n. either (eqb n o) new n)
      (Relinks MaySwap (Copies served ranges x) (step slots x.old.place.link o new none) me)) same allowed)

  -- The exchange that marks the first base of the seat's own range,
  pub marks_first : (slots id : ℕ) (me : MyTree) (link old new : ℕ) (x : Copy) (begun : Begun) (its : List ℕ)
      → IsCopy z me new x → IsFirstCopy me x begun its → x.old.row ≡ old → x.old.place.link ≡ link
      → Allows (R z) slots id me link (λ n. either (eqb n old) new n)
      (Relinks MaySwap (Copies (begun.top ∷ []) (marking_now me.0.upper.ranges begun its) x) (step slots link old new none) me)
  marks_first slots id me link old new x begun its c k same here =
      copies_from slots id me link old new x (begun.top ∷ []) (marking_now me.0.upper.ranges begun its) same here
      (copies slots id me new x (begun.top ∷ []) (marking_now me.0.upper.ranges begun its) c.shown
      (λ s r at hit. first_copied z s r id me at new x c hit begun its k))

  -- and one that marks the next base of any range.
  pub marks_next : (slots id : ℕ) (me : MyTree) (link old new : ℕ) (x : Copy) (left : Note)
      → IsCopy z me new x → IsNextCopy me x left → x.old.row ≡ old → x.old.place.link ≡ link
      → Allows (R z) slots id me link (λ n. either (eqb n old) new n)
      (Relinks MaySwap (Copies [] me.0.upper.ranges x) (step slots link old new none) me)
  marks_next slots id me link old new x left c k same here =
      copies_from slots id me link old new x [] me.0.upper.ranges same here
      (copies slots id me new x [] me.0.upper.ranges c.shown
      (λ s r at hit. next_copied z s r id me at new x c hit left k))

-- The two ways that the exchange goes.
pub has_copied : (n link old new : ℕ) (x : Copy) (served : List ℕ) (ranges : KnownRanges) (m m' : MyTree) (slots : ℕ)
    → Copies served ranges x (step slots link old new none) m n m' → HasCopied (eqb n old) served ranges new x m m'
has_copied n link old new x served ranges m m' slots told = dite (ℕ_discrete n old)
    (λ hit. subst (λ (b : Bool). HasCopied b served ranges new x m m') (sym (eq-eqb n old hit)) (told.0 hit))
    (λ miss. subst (λ (b : Bool). HasCopied b served ranges new x m m') (sym (ne_eqb n old miss)) (told.1 miss).0)

-- Where it was lost, a pass that is alone doesn't list the base.
pub missed_copy : (n link old new : ℕ) (x : Copy) (served : List ℕ) (ranges : KnownRanges) (m m' : MyTree) (slots : ℕ) (won : Bool)
    → Copies served ranges x (step slots link old new none) m n m' → won ≡ eqb n old → won ≡ false → IsMissed x.old m
missed_copy n link old new x served ranges m m' slots won told is lost = dite (ℕ_discrete n old)
    (λ hit. let y : true ≡ false = sym (eq-eqb n old hit) ∙ (sym is ∙ lost) in absurd cc)
    (λ miss. (told.1 miss).1)
