-- Passes at work in a call that reads a range: from when they rested until they rest again.
use Rattle.std.proofs.Common.{◌≡◌, ◌⊎◌, ◌≤◌, ℕ, ◌<◌, le_refl, [], Bool, List, Option, Result, Ok, Err, sym, refl, ap, ◌∙◌, subst, ⊎_elim}
use Rattle.ca_base.specs.Readiness.{StaysReady}
use Rattle.ca_base.specs.Taking.{HoldsFew, lent_of}
use Rattle.ca_node.specs.Laws.{in_nothing}
use Rattle.ca_node.specs.Links.{IsIn}
use Rattle.ca_node.specs.Told.{IsKnown, MyTree}
use Rattle.ca_node.specs.TreeView.{Quiet, Ranging, TreeView, left_over}
use Rattle.ca_node.proofs.Tallies.{tallied_still}
use Rattle.ca_node.specs.declared.cursor.Cursor.{Cursor}
use Rattle.ca_replace.specs.Between.{MayBegin}
use Rattle.ca_replace.specs.Ranging.{IsAtWork, WorksOrRests}
use Rattle.ca_replace.specs.Resting.{IsAtRest}
use Rattle.ca_replace.proofs.Between.{announced, left, may_first}
use Rattle.ca_replace.proofs.Numbering.{numbered_as}
use Rattle.ca_replace.proofs.Ready.{ready_after}
use Rattle.ca_replace.proofs.Turns.{known_unpinned}
use Rattle.ca_rows.specs.declared.kept.KeptRows.{KeptRows}
use Rattle.ca_rows.specs.declared.space.Pass.{Pass}
use Rattle.ca_rows.specs.declared.space.Space.{Space}
use Rattle.ca_rows.specs.declared.view.Claim.{Claim}
use Rattle.ca_rows.specs.declared.view.Claim.TheVariants.{Keeps}
use Rattle.ca_rows.specs.Claims.{claim_of}
use Rattle.ca_rows.specs.Kept.{AreKept}
use Rattle.ca_rows.specs.Passes.{KeepsList}
use Rattle.ca_rows.specs.Told.{IsOnly}
use Rattle.ca_range.proofs.LoneMarks.{only_one}

-- A pass that may begin an attempt is at work.
work_of : {R : Type 0} {space : Space R TreeView} {pass : Pass R TreeView} {key : List ℕ}
    {again : Option Cursor} {marked : Bool}
    → MayBegin space key again marked pass → IsAtWork space pass
work_of may = record {
  ready = may.ready;
  known = may.known;
  number = may.idle.number;
  quiet = may.idle.quiet;
  tallied = may.tallied;
}

-- A row of a pass that holds none, and has no range, is one that it keeps.
pub only_kept : (row : ℕ) (c : Claim) (own : Ranging) → own ≡ Quiet → ((at : ℕ) × (c ≡ Keeps at))
    ⊎ (IsIn row [] ⊎ IsIn row (lent_of own))
    → (at : ℕ) × (c ≡ Keeps at)
only_kept row c own quiet is = ⊎_elim (λ k. k)
    (λ is'. ⊎_elim (λ (i : IsIn row []). absurd (in_nothing row [] refl i))
    (λ (i : IsIn row (lent_of own)). absurd (in_nothing row (lent_of own) (ap lent_of quiet) i))
    is') is

module _ {R : Type 0} {space : Space R TreeView} {pass new : Pass R TreeView} where
  -- One that rested and pinned is at work.
  pub work_first : (told moment : ℕ) → IsAtRest space pass → KeepsList pass new
      → new.seat.me ≡ announced told moment pass.seat.me → IsAtWork space new
  work_first told moment r f is = work_of (may_first space pass new [] told moment r f.same f.number
      f.kept f.tally is)

  -- It is so still behind what leaves it ready.
  pub work_after : IsAtWork space pass → StaysReady space pass new → IsKnown space.table.shared.key
      new.seat.me.0.upper
      → new.seat.me.0.upper.number ≡ pass.seat.me.0.upper.number → IsAtWork space new
  work_after w s known number = record {
    ready = ready_after w.ready s (subst (λ n. 0 < n) (sym number) w.ready.number);
    known = known;
    number = s.number ∙ (w.number ∙ sym number);
    quiet = s.own_range ∙ w.quiet;
    tallied = s.tally w.tallied;
  }

  -- It rests once it unpinned.
  pub work_left : IsAtWork space pass → KeepsList pass new → new.seat.me ≡ left pass.seat.me
      → (IsOnly pass.seat.me → new.seat.me.0.lost ≡ 0) → IsAtRest space new
  work_left w f is only = let none = w.ready.none in record {
    of = (f.same.0 ∙ w.ready.own.0, ap (λ (m : MyTree). m.0.sizes) is ∙ w.ready.own.1);
    numbered = numbered_as pass.number new.number pass.seat.me.0.pin new.seat.me.0.pin f.number
        (ap (λ (m : MyTree). m.0.pin.number) is) w.ready.numbered;
    same_number = ap (λ (m : MyTree). m.0.upper.number) is ∙ (sym w.number ∙ sym f.number);
    is_unpinned = ap (λ (m : MyTree). m.0.pin.pinned) is;
    only_keeps = λ row c e. only_kept row c pass.seat.me.0.upper.ranges.own w.quiet
        (none.0.only row c (sym (ap (λ (m : MyTree). claim_of m.0.claims row) is) ∙ e));
    are_kept = subst (λ (x : MyTree × KeptRows). AreKept space.table.shared.key.rows x.0.0.claims
        x.1.rows)
        (λ i. (sym is i, sym f.kept i)) none.0.are_kept;
    few = subst (λ (m : MyTree). HoldsFew 0 m.0) (sym is)
        (record { now = none.1.now; ever = none.1.ever });
    known = subst (λ (m : MyTree). IsKnown space.table.shared.key m.0.upper) (sym is)
        (known_unpinned space.table.shared.key pass.seat.me.0.upper w.known);
    left_before = subst (λ (m : MyTree). m.0.pin.left.lost ≤ m.0.lost) (sym is)
        (le_refl pass.seat.me.0.lost);
    unlost = λ one. only (only_one space.table.shared.key pass.seat.me w.ready.own.1 space.few.0
        one);
    quiet = ap (λ (m : MyTree). m.0.upper.ranges.own) is ∙ ap left_over w.quiet;
    tallied = tallied_still pass.tally new.tally pass.seat.me.0.upper new.seat.me.0.upper f.tally
        (ap (λ (m : MyTree). m.0.upper.splits) is) (ap (λ (m : MyTree). m.0.upper.joins) is)
        w.tallied;
  }

-- Of what a call came to behind attempts that left the pass at rest.
pub works_on : {R T E : Type 0} (space : Space R TreeView) (r : Result T E) (pass mid new : Pass R
    TreeView)
    → mid.number ≡ pass.number → WorksOrRests space r mid new → WorksOrRests space r pass new
works_on space (Ok x) pass mid new same h = record { number = h.number ∙ same; at_work = h.at_work }
works_on space (Err why) pass mid new same h = record {
  number = h.number ∙ same;
  resting =
      h.resting;
}
