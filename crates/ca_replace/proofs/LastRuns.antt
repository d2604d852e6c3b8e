-- Runs that have all up to an upper edge: the last object within it that they have is that of a
-- state.
use Rattle.std.proofs.Common.{◌≡◌, ℕ, Bool, true, false, List, sym, refl, ap, ◌∙◌, subst, arith}
use Rattle.std.specs.Prelude.{None, Some, cond}
use denote.Ref.{Bor}
use denote.Param.Members.{Shared}
use Rattle.ca_base.specs.Putting.{first_note}
use Rattle.ca_model.specs.Edges.{Bound, Unbounded, bound_of, last_object, objects_of, up_to, within}
use Rattle.ca_model.specs.History.{state}
use Rattle.ca_model.specs.Runs.{Reaches}
use Rattle.ca_model.specs.StoreMap.{StoreMap}
use Rattle.ca_model.proofs.Walking.{all_pairs}
use Rattle.ca_node.specs.States.{IsReadSince, IsUnanswered}
use Rattle.ca_node.specs.TreeView.{TreeView}
use Rattle.ca_range.specs.Edged.{EndsBefore}
use Rattle.ca_range.specs.Snapshots.{HasRun, bases_of}
use Rattle.ca_range.specs.declared.sought.Run.{Run}
use Rattle.ca_range.specs.declared.sought.Sought.{Sought}
use Rattle.ca_range.proofs.FirstBases.{state_is_map}
use Rattle.ca_replace.specs.Running.{all_of}
use Rattle.ca_replace.specs.Within.{HasAllUpTo, below_event}
use Rattle.ca_replace.proofs.Ends.{last_part}
use Rattle.ca_replace.proofs.Runs.{by_last, within_wider}
use Rattle.ca_rows.specs.declared.sizes.Sizes.{Sizes}
use Rattle.ca_runs.specs.Runs.{BeginsBefore}

-- A run of which all within its edges was wanted is one.
pub run_up_to : {F : Type 0} (g : Shared F (Bor (List ℕ) × Unit {0}) Bool) (sought : Sought F)
    {z : Sizes} {u : TreeView} {run : Run}
    → sought.want ≡ 0 → HasRun g sought z u run → HasAllUpTo (bound_of sought.lo)
    (bound_of sought.hi) z u run
run_up_to g sought {z} {u} {run} none h = record {
  remembered = h.remembered;
  at = h.at;
  later = h.later;
  seen = h.seen;
  low = h.low;
  before = h.before;
  shown = h.shown;
  ends = by run.whole h.reaches;
  known = h.known;
}
  where
    high : Bound
    high = (first_note (bases_of run u)).place.span.high

    by : (whole : Bool) → Reaches g sought.counts.now (bound_of sought.hi) h.cut sought.want
        (objects_of (within (bound_of sought.lo) h.cut (all_of run u))) whole
        → EndsBefore (bound_of sought.hi) high
    by true r = subst (λ (b : Bound). EndsBefore b high) r h.inside
    by false r = let some = r.1 in absurd (omega (arith, some, none))

-- From the first key on, it has all that there is up to the edge.
all_up_to : (low high hi : Bound) (m : StoreMap) → BeginsBefore low Unbounded → EndsBefore hi high
    → up_to hi (within low high m) ≡ up_to hi m
all_up_to low high hi m begins ends = ap (up_to hi) (sym (all_pairs (within low high m)))
    ∙ (within_wider low high Unbounded hi m begins ends ∙ ap (up_to hi) (all_pairs m))

-- Where it has an object within the edge the last one is that of the state, since what it has not
-- is less; and where it has none there is none, if it begins with the first key. So the read of it
-- answers by a state since the pin.
module _ (lo hi : Bound) {z : Sizes} {u : TreeView} {run : Run} (h : HasAllUpTo lo hi z u run) where
  pub last_read : (found : Bool) (object : List ℕ) → (found ≡ false → lo ≡ Unbounded)
      → IsUnanswered u
      → last_object (up_to hi (all_of run u)) ≡ cond found (Some object) None
      → IsReadSince (below_event hi found object) u
  last_read found object first unanswered last = by_last u hi h.at (h.later, h.seen) unanswered
      found object
      (by found first (ap (λ (x : StoreMap). last_object (up_to hi x)) (sym h.shown) ∙ last))
    where
      high : Bound
      high = (first_note (bases_of run u)).place.span.high

      by : (found : Bool) → (found ≡ false → lo ≡ Unbounded)
          → last_object (up_to hi (within h.low high (state u.seen h.at))) ≡ cond found
          (Some object) None
          → last_object (up_to hi (state u.seen h.at)) ≡ cond found (Some object) None
      by true first own = last_part h.low high hi (state u.seen h.at) h.ends z.keypos object
          (state_is_map z.keypos h.at u.seen h.known.edits) own
      by false first own = ap last_object (sym (all_up_to h.low high hi (state u.seen h.at)
          (subst (λ (b : Bound). BeginsBefore h.low b) (first refl) h.before) h.ends)) ∙ own
