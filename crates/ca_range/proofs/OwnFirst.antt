-- The first base of a pass's own range.
use Rattle.std.proofs.Common.{◌≡◌, ℕ, ◌<◌, ◌≤◌, true, List, [], ◌∷◌, sym, refl, ap, ◌∙◌, subst, arith}
use denote.Ref.{Bor}
use denote.Param.Members.{Shared}
use Rattle.std.specs.Prelude.{Bool, false, slice_index}
use mathlib.Core.Option.{Option, some}
use Rattle.ca_base.specs.Counting.{HasMet, losses}
use Rattle.ca_base.specs.Finding.{IsAtCursor}
use Rattle.ca_base.specs.Putting.{first_note, words_of}
use Rattle.ca_base.specs.Readiness.{IsReady}
use Rattle.ca_model.specs.declared.outcome.Spent.{Spent}
use Rattle.ca_model.specs.Edges.{Bound, bound_of}
use Rattle.ca_node.specs.Copies.{Copy, IsCopy, copied, copy_note, marking_now}
use Rattle.ca_node.specs.declared.cursor.Cursor.{Cursor}
use Rattle.ca_node.specs.Laws.{in_nothing}
use Rattle.ca_node.specs.OwnRanges.{opened}
use Rattle.ca_node.specs.Row.{IsBorderRow, mark_back, mark_bound, mark_number, mark_owner}
use Rattle.ca_node.specs.Told.{MyTree, IsSettled, with_upper}
use Rattle.ca_node.specs.TreeView.{Begun, TreeView}
use Rattle.ca_rows.specs.Calls.{IsNumbered}
use Rattle.ca_node.proofs.Tallies.{tallied_still}
use Rattle.ca_rows.specs.Claims.{claim_of}
use Rattle.ca_rows.specs.Passes.{IsOn, KeepsList, OnlyReads, StillKeepsList}
use Rattle.ca_rows.specs.declared.space.Pass.{Pass}
use Rattle.ca_rows.specs.declared.space.Space.{Space}
use Rattle.ca_rows.specs.declared.view.Pin.{Pin}
use Rattle.ca_rows.specs.Layout.{last_sequence}
use Rattle.ca_rows.specs.declared.sizes.Sizes.{Sizes}
use Rattle.ca_rows.specs.declared.view.Claim.{Claim}
use Rattle.ca_rows.specs.declared.view.Claim.TheVariants.{Holds}
use Rattle.ca_runs.specs.Runs.{BeginsBefore}
use Rattle.ca_range.specs.Gathering.{HasBegun, IsGathering}
use Rattle.ca_range.specs.Looking.{IsFirst, IsNotEnough}
use Rattle.ca_range.specs.Marked.{copy_of}
use Rattle.ca_range.specs.Opening.{HasPutFirst, HasWrittenFirst, IsFirstReady, begun_at}
use Rattle.ca_range.specs.Snapping.{GoesOn, StaysPinned}
use Rattle.ca_range.specs.Snapshots.{OnlyRanges}
use Rattle.ca_base.specs.Spending.{IsSpentOn}
use Rattle.ca_range.specs.declared.copying.Mark.{Mark}
use Rattle.ca_range.specs.declared.gathering.Further.TheVariants as further
use Rattle.ca_range.specs.declared.opening.Rows.{Rows}
use Rattle.ca_range.specs.declared.sought.Sought.{Sought}
use Rattle.ca_range.proofs.Copied.{is_copy, is_note}
use Rattle.ca_range.proofs.OwnEnds.{begun_of}
use Rattle.ca_range.proofs.SnapshotSteps.{ranges_both}
use Rattle.ca_base.proofs.Spends.{on_both, on_still}
use Rattle.ca_range.proofs.Stepping.{known_same, none_more}

module _ (z : Sizes) (m1 m2 m3 : MyTree) (rows : Rows) (first : Cursor) (number : ℕ) (lo hi : Bound) (mark : Mark) (f : IsFirst z lo m1.0.upper first)
    (same : number ≡ m1.0.upper.number) (owner : mark.range.owner ≡ number) (seq : mark.range.number ≡ rows.own.number) (back : mark.back ≡ 0)
    (bound : mark.bound ≡ rows.own.border) (small : rows.own.number ≤ last_sequence)
    (w : HasWrittenFirst number hi mark rows (first_note m1.0.upper.notes) m1 m2)
    (e : m3 ≡ with_upper m2 (opened (begun_at rows.own lo) m2.0.upper)) where
  upper : m2.0.upper ≡ m1.0.upper
  upper = ap (λ (x : MyTree). x.0.upper) w.only

  abbrev begun : Begun
  begun = begun_at rows.own lo

  -- Its copy may be put in place.
  pub first_ready : m1.0.pin.pinned ≡ true → 0 < m1.0.upper.number → IsSettled m1.0.upper (first_note m1.0.upper.notes).its → IsFirstReady z m3 rows first
  first_ready pinned is_pass settled = let k : IsCopy z m2 rows.copy (copy_of m2 rows.copy) =
      is_copy z m1 m2 rows.copy first.base w.copy mark upper w.copy_held w.copy_spells (ap (λ (x : MyTree). x.0.pin) w.only) pinned is_pass
      f.gone.at.shown settled in subst (λ (x : MyTree). IsFirstReady z x rows first) (sym e) record {
        begun = begun_at rows.own lo;
        own = refl;
        number_is = refl;
        small = small;
        top_is = refl;
        copy = record {
          is_pinned = k.is_pinned;
          is_pass = k.is_pass;
          shown = k.shown;
          old_base = k.old_base;
          settled = k.settled;
          held = k.held;
          is_base = k.is_base;
          level_is = k.level_is;
          few = k.few;
          same_items = k.same_items;
          headed = k.headed;
          marked = k.marked;
        };
        first_copy = record {
          own = refl;
          pass_is = ap (λ (c : Option Claim). mark_owner (words_of c)) w.copy_held ∙ (w.copy_spells.marked.1
              ∙ (owner ∙ (same ∙ sym (ap (λ (u : TreeView). u.number) upper))));
          number_is = ap (λ (c : Option Claim). mark_number (words_of c)) w.copy_held ∙ (w.copy_spells.marked.2 ∙ seq);
          bound_is = ap (λ (c : Option Claim). mark_bound (words_of c)) w.copy_held ∙ (w.copy_spells.bound_is ∙ bound);
          back_is = ap (λ (c : Option Claim). mark_back (words_of c)) w.copy_held ∙ (w.copy_spells.back_is ∙ back);
          held = w.border_held ∙ (λ i. some (Holds (words_of (sym w.border_held i))));
          is_border = subst IsBorderRow (sym (ap words_of w.border_held)) w.border_spells.is_border;
          owner = ap (λ (c : Option Claim). slice_index (words_of c) 1) w.border_held ∙ (w.border_spells.owner_is
              ∙ (same ∙ sym (ap (λ (u : TreeView). u.number) upper)));
          before = subst (λ (u : TreeView). BeginsBefore (first_note u.notes).place.span.low lo) (sym upper) f.before;
        };
        at = subst (λ (u : TreeView). IsAtCursor z (first_note u.notes) first) (sym upper) f.gone.at.at;
      }

  abbrev copy : Copy
  copy = record { old = first_note m1.0.upper.notes; its = w.copy; pass = mark_owner w.copy; number = mark_number w.copy }

  -- what is known once it is there
  abbrev there : TreeView
  there = copied (rows.own.border ∷ []) (marking_now (opened begun m1.0.upper).ranges begun w.border) rows.copy copy (opened begun m1.0.upper)

  put_there : (m4 : MyTree) → HasPutFirst true rows m3 m4 → m4.0.upper ≡ there
  put_there m4 d = let same_begun : d.0 ≡ begun = ap begun_of (sym d.1 ∙ ap (λ (x : MyTree). x.0.upper.ranges.own) e) in
      d.2 ∙ ((λ i. copied ((same_begun i).top ∷ [])
      (marking_now (e i).0.upper.ranges (same_begun i) (words_of (claim_of (e i).0.claims (same_begun i).top))) rows.copy (copy_of (e i) rows.copy) (e i).0.upper)
      ∙ (λ i. copied (rows.own.border ∷ []) (marking_now (opened begun (upper i)).ranges begun (words_of (w.border_held i))) rows.copy
      (record { old = first_note (upper i).notes; its = words_of (w.copy_held i); pass = mark_owner (words_of (w.copy_held i)); number = mark_number (words_of (w.copy_held i)) })
      (opened begun (upper i))))

  -- The range marked it.
  pub first_gathered : {F : Type 0} (g : Shared F (Bor (List ℕ) × Unit {0}) Bool) (sought : Sought F) (m4 : MyTree) → HasPutFirst true rows m3 m4
      → lo ≡ bound_of sought.lo → hi ≡ bound_of sought.hi → 0 < rows.copy → rows.copy ≤ z.rows → rows.own.border ≤ z.rows → 0 < number → number ≤ 64
      → IsNotEnough g sought (first_note m1.0.upper.notes)
      → IsGathering g sought z m4.0.upper (record { own = rows.own; left = record first { base = rows.copy }; counted = 0 })
  first_gathered g sought m4 d low high some_row few_rows inside some_number few short = subst (λ (u : TreeView). IsGathering g sought z u
      (record { own = rows.own; left = record first { base = rows.copy }; counted = 0 })) (sym (put_there m4 d)) record {
        between = record {
          marking = record {
            begun = begun;
            border = record { row = rows.own.border; its = w.border };
            is = refl;
            number_is = refl;
            small = small;
            noted = (0, refl);
            row_is = refl;
            inside = inside;
            owner_is = w.border_spells.owner_is ∙ same;
          };
          edge = low;
          top = w.border_spells.top_is ∙ high;
          needed = record {
            first = copy_note rows.copy copy;
            noted = (0, refl);
            marked = ((w.copy_spells.marked.0, w.copy_spells.marked.1 ∙ (owner ∙ same), w.copy_spells.marked.2 ∙ seq), w.copy_spells.back_is ∙ back);
            short = record { holds = short.holds; counted = short.counted; key = short.key; looked = short.looked };
          };
        };
        gone = record {
          at = record {
            shown = record {
              noted = (0, refl);
              here = refl;
              is_base = is_note z m1 m2 rows.copy first.base w.copy mark upper w.copy_held w.copy_spells f.gone.at.shown.is_base some_row few_rows
                  (subst (λ (n : ℕ). 0 < n) (sym owner) some_number) (subst (λ (n : ℕ). n ≤ 64) (sym owner) few);
            };
            at = record { base = refl; link = f.gone.at.at.link; level = f.gone.at.at.level; inside = f.gone.at.at.inside };
            above = f.gone.at.above;
            high = f.gone.at.high;
          };
          few = subst (λ (n : ℕ). n ≤ 120) (sym w.copy_spells.count_is) f.gone.few;
          ordered = f.gone.ordered;
        };
        marked = (w.copy_spells.marked.0, w.copy_spells.marked.1 ∙ (owner ∙ same), w.copy_spells.marked.2 ∙ seq);
        bound = w.copy_spells.bound_is ∙ bound;
        passed = record {
          bases = [];
          chained = w.copy_spells.back_is ∙ back;
          noted = λ note i. absurd (in_nothing note [] refl i);
          counted_so = tt;
        };
        known = known_same z m1.0.upper there refl refl refl f.known;
      }

  -- So it begins.
  pub first_begun : {F : Type 0} (g : Shared F (Bor (List ℕ) × Unit {0}) Bool) (sought : Sought F) (m4 : MyTree) (budget : ℕ) (spent : Spent)
      (d : HasPutFirst true rows m3 m4)
      → lo ≡ bound_of sought.lo → hi ≡ bound_of sought.hi → 0 < rows.copy → rows.copy ≤ z.rows → rows.own.border ≤ z.rows → 0 < number → number ≤ 64
      → IsNotEnough g sought (first_note m1.0.upper.notes) → (m : MyTree) → HasMet 0 0 m m4 → m.0.upper.turns.passed < m4.0.upper.turns.passed
      → HasBegun g sought z budget spent (further.On (record { own = rows.own; left = record first { base = rows.copy }; counted = 0 })) m m4
  first_begun g sought m4 budget spent d low high some_row few_rows inside some_number few short m met passed = (
    first_gathered g sought m4 d low high some_row few_rows inside some_number few short,
    refl,
    ap (λ (u : TreeView). mark_back (first_note u.notes).its) (put_there m4 d) ∙ (w.copy_spells.back_is ∙ back),
    met,
    passed,
  )

-- It was put in place, or the range was given up.
put_steps : (z : Sizes) (won : Bool) (rows : Rows) (m m' : MyTree) → HasPutFirst won rows m m' → OnlyRanges z m.0.upper m'.0.upper
put_steps z true rows m m' d = subst (OnlyRanges z m.0.upper) (sym d.2) record {
  only = refl;
  seen = none_more m.0.upper;
  known = known_same z m.0.upper _ refl refl refl;
  joins = omega arith;
  joined = omega arith;
}
put_steps z false rows m m' d = subst (OnlyRanges z m.0.upper) (sym d) record {
  only = refl;
  seen = none_more m.0.upper;
  known = known_same z m.0.upper _ refl refl refl;
  joins = omega arith;
  joined = omega arith;
}

put_loads : (won : Bool) (rows : Rows) (m m' : MyTree) → HasPutFirst won rows m m' → m'.0.upper.loads ≡ m.0.upper.loads
put_loads true rows m m' d = ap (λ (u : TreeView). u.loads) d.2
put_loads false rows m m' d = ap (λ (u : TreeView). u.loads) d

module _ {R : Type 0} (space : Space R TreeView) (p0 p1 p2 p3 p4 : Pass R TreeView) (won : Bool) (rows : Rows) (begun : Begun) (reads : OnlyReads p0 p1)
    (writes : StillKeepsList p1 p2) (only : p2.seat.me ≡ (record p1.seat.me.0 { claims = p2.seat.me.0.claims }, p1.seat.me.1)) (keeps : KeepsList p2 p3)
    (is : p3.seat.me ≡ with_upper p2.seat.me (opened begun p2.seat.me.0.upper)) (frame : StaysPinned space p3 p4)
    (done : HasPutFirst won rows p3.seat.me p4.seat.me) where
  pub upper_now : p3.seat.me.0.upper ≡ opened begun p0.seat.me.0.upper
  upper_now = ap (λ (x : MyTree). x.0.upper) is ∙ (ap (λ (u : TreeView). opened begun u) writes.same.4
      ∙ ap (λ (x : MyTree). opened begun x.0.upper) reads.still)

  pub lost_now : losses p3.seat.me ≡ losses p0.seat.me
  lost_now = ap losses is ∙ (ap losses only ∙ ap losses reads.still)

  pub met_now : HasMet 0 0 p0.seat.me p3.seat.me
  met_now = let empty = ap (λ (x : MyTree). x.0.empty) is ∙ (ap (λ (x : MyTree). x.0.empty) only ∙ ap (λ (x : MyTree). x.0.empty) reads.still) in
      let worn = ap (λ (x : MyTree). x.0.worn) is ∙ (ap (λ (x : MyTree). x.0.worn) only ∙ ap (λ (x : MyTree). x.0.worn) reads.still) in
      (omega arith, omega arith)

  pub turns_now : p3.seat.me.0.upper.turns ≡ p0.seat.me.0.upper.turns
  turns_now = ap (λ (u : TreeView). u.turns) upper_now

  pub loads_now : p4.seat.me.0.upper.loads ≡ p0.seat.me.0.upper.loads
  loads_now = put_loads won rows p3.seat.me p4.seat.me done ∙ ap (λ (u : TreeView). u.loads) upper_now

  pub first_goes : (a b : Spent) → IsSpentOn a b p3.seat.me p4.seat.me → GoesOn space a b p0 p4
  first_goes a b spent = record {
    frame = record {
      same = (frame.same.0 ∙ (keeps.same.0 ∙ (writes.same.0 ∙ reads.same.0)), frame.same.1 ∙ (keeps.same.1 ∙ (writes.same.1 ∙ reads.same.1)));
      number = frame.number ∙ (keeps.number ∙ (writes.number ∙ reads.number));
      tally = λ t. frame.tally (tallied_still p0.tally p3.tally p0.seat.me.0.upper p3.seat.me.0.upper (keeps.tally ∙ (writes.tally ∙ reads.tally))
          (ap (λ (u : TreeView). u.splits) upper_now) (ap (λ (u : TreeView). u.joins) upper_now) t);
      pin = (
        frame.pin.0 ∙ (ap (λ (x : MyTree). x.0.sizes) is ∙ (writes.same.2 ∙ ap (λ (x : MyTree). x.0.sizes) reads.still)),
        frame.pin.1 ∙ (ap (λ (x : MyTree). x.0.pin) is ∙ (writes.same.3 ∙ ap (λ (x : MyTree). x.0.pin) reads.still)),
      );
      none = frame.none;
    };
    steps = ranges_both p0.seat.me.0.upper p3.seat.me.0.upper p4.seat.me.0.upper (subst (OnlyRanges space.table.shared.key p0.seat.me.0.upper) (sym upper_now)
        record {
          only = refl;
          seen = none_more p0.seat.me.0.upper;
          known = known_same space.table.shared.key p0.seat.me.0.upper _ refl refl refl;
          joins = omega arith;
          joined = omega arith;
        }) (put_steps space.table.shared.key won rows p3.seat.me p4.seat.me done);
    counted = on_both a a b p0.seat.me p3.seat.me p4.seat.me (on_still a p0.seat.me p3.seat.me lost_now turns_now) spent;
  }

  pub first_ready_now : IsOn space p0 → IsNumbered p0.number p0.seat.me.0.pin → p0.seat.me.0.pin.pinned ≡ true → 0 < p0.seat.me.0.upper.number
      → (a b : Spent) → IsSpentOn a b p3.seat.me p4.seat.me → IsReady space p4
  first_ready_now own numbered pinned number a b spent = let goes = first_goes a b spent in record {
    own = (goes.frame.same.0 ∙ own.0, goes.frame.pin.0 ∙ own.1);
    numbered = subst (λ (x : ℕ × Pin). IsNumbered x.0 x.1) (λ i. (sym goes.frame.number i, sym goes.frame.pin.1 i)) numbered;
    pinned = ap (λ (x : Pin). x.pinned) goes.frame.pin.1 ∙ pinned;
    number = subst (λ (n : ℕ). 0 < n) (sym (ap (λ (u : TreeView). u.number) goes.steps.only)) number;
    none = goes.frame.none;
  }
