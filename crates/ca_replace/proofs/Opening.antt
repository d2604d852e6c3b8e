-- Stores that open a run.
use Rattle.std.proofs.Common.{◌≡◌, Bool, List, ℕ, Option, Some, ◌∙◌, refl, subst, sym}
use denote.Ref.{Bor}
use denote.Param.Members.{Shared}
use Rattle.ca_base.specs.Progress.{HasDone}
use Rattle.ca_model.specs.Edges.{bound_of}
use Rattle.ca_model.specs.Event.{Event, Range}
use Rattle.ca_model.specs.Known.{Known, Meets}
use Rattle.ca_model.specs.Runs.{Opens}
use Rattle.ca_node.specs.Told.{IsKnown, MyTree}
use Rattle.ca_node.specs.TreeView.{TreeView}
use Rattle.ca_range.specs.declared.sought.Sought.{Sought}
use Rattle.ca_replace.specs.Attempting.{HasDoneSuch}
use Rattle.ca_replace.specs.Causes.{EndsAtLag}
use Rattle.ca_replace.specs.Ranging.{IsAtWork}
use Rattle.ca_replace.specs.Resting.{IsAtRun, known_of}
use Rattle.ca_replace.specs.Running.{IsOpenRun, left_of}
use Rattle.ca_replace.specs.Within.{HasOpened}
use Rattle.ca_replace.specs.declared.opened.OpenRun.{OpenRun}
use Rattle.ca_replace.proofs.Meeting.{meets}
use Rattle.ca_replace.proofs.Working.{only_kept}
use Rattle.atomic_table.specs.Seated.{TableId}
use Rattle.ca_rows.specs.declared.sizes.Sizes.{Sizes}
use Rattle.ca_rows.specs.declared.space.Pass.{Pass}
use Rattle.ca_rows.specs.declared.space.Space.{Space}

-- A pass at work that opened a run reads it.
pub at_run : {R : Type 0} {space : Space R TreeView} {pass : Pass R TreeView} (k : MyTree)
    (run : OpenRun) → IsAtWork space pass
    → EndsAtLag k pass.seat.me → pass.seat.me.0.pin.lags ≡ k.0.pin.lags
    → IsOpenRun space.table.shared.key pass.seat.me.0.upper run
    → IsAtRun space.table.shared.table_id space.table.shared.key pass.number pass.tally
    pass.kept.rows pass.seat run
at_run {pass = pass} k run w lags seen opened = let none = w.ready.none in record {
  of = w.ready.own;
  numbered = w.ready.numbered;
  same_number = sym w.number;
  is_pinned = w.ready.pinned;
  only_keeps = λ row c e. only_kept row c pass.seat.me.0.upper.ranges.own w.quiet
      (none.0.only row c e);
  are_kept = none.0.are_kept;
  few = record { now = none.1.now; ever = none.1.ever };
  known = w.known;
  unlagged = lags.1 ∙ sym seen;
  quiet = w.quiet;
  tallied = w.tallied;
  opened = opened;
}

-- A call that is done says nothing of the run that is open then.
pub meets_run : (a b : Known) (event : Event) (run : Option (List (List ℕ))) → Meets a b event
    → Meets a (record b { run = run }) event
meets_run a b event run m = let l = m.learns in let s = l.same in record {
  earlier = m.earlier;
  later = m.later;
  answer = m.answer;
  learns = record {
    same = record {
      store = s.store;
      keypos = s.keypos;
      pass = s.pass;
      passes = s.passes;
      alone =
          s.alone;
      sure = s.sure;
    };
    map = l.map;
    seen = l.seen;
    valid = l.valid;
    edits = l.edits;
    passes = l.passes;
  };
  others_earlier = m.others_earlier;
  others_later = m.others_later;
  alone = m.alone;
  counts = m.counts;
}

-- So the call opens the run.
pub opens : {F : Type 0} (g : Shared F (Bor (List ℕ) × Unit {0}) Bool) (sought : Sought F)
    (table : TableId) (z : Sizes) (u v : TreeView)
    (whole : Bool) (run : OpenRun) → IsKnown z u → IsKnown z v
    → HasDoneSuch (HasOpened g sought z whole run v) u v
    → Opens g sought.counts.now (known_of table z u)
    (record (known_of table z v) { run = Some (left_of v run) }) (bound_of sought.lo)
    (bound_of sought.hi) sought.want whole
opens g sought table z u v whole run before behind h = let o = h.1 in
    let event = Range (bound_of sought.lo) (bound_of sought.hi) o.cut (left_of v run) in record {
      cut = o.cut;
      objects = left_of v run;
      met = meets_run (known_of table z u) (known_of table z v) event (Some (left_of v run))
          (meets table z u v before behind event (subst (λ (e : Event). HasDone e u v) o.event_is
          h.2));
      run = refl;
      reaches = o.reaches;
    }
