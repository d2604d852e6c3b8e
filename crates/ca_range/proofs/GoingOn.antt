-- A pass's own range goes on: what is left of a pass behind each step.
use Rattle.std.proofs.Common.{◌≡◌, ◌<◌, ℕ, Bool, List, inl, sym, refl, ap, ◌∙◌, subst, arith}
use denote.Ref.{Bor}
use denote.Param.Members.{Shared}
use Rattle.ca_base.specs.Counting.{HasMet, HasStoppedBy}
use Rattle.ca_base.specs.Putting.{stopped}
use Rattle.ca_base.specs.Readiness.{IsReady, StaysReady}
use Rattle.ca_base.specs.declared.stop.Exchange.TheVariants as exchange
use Rattle.ca_base.specs.declared.stop.Stop.{Stop}
use Rattle.ca_base.specs.declared.stop.Stop.TheVariants as stop
use Rattle.ca_base.proofs.Counts.{met_both}
use Rattle.ca_model.specs.declared.outcome.Counter.TheVariants as counter
use Rattle.ca_model.specs.declared.outcome.Spent.{Spent}
use Rattle.ca_node.specs.declared.cursor.Cursor.{Cursor}
use Rattle.ca_node.specs.declared.cursor.Spot.{Spot}
use Rattle.ca_node.specs.Told.{MyTree, with_upper}
use Rattle.ca_node.specs.Walking.{IsWalked}
use Rattle.ca_node.specs.TreeView.{TreeView}
use Rattle.ca_node.proofs.Tallies.{tallied_still}
use Rattle.ca_rows.specs.Passes.{KeepsList}
use Rattle.ca_rows.specs.declared.sizes.Sizes.{Sizes}
use Rattle.ca_rows.specs.declared.space.Pass.{Pass}
use Rattle.ca_rows.specs.declared.space.Space.{Space}
use Rattle.ca_range.specs.Filling.{turns_of}
use Rattle.ca_range.specs.Gathering.{EndsUnspent, HasBegun, HasEnded, HasNoRun, IsFurther, IsMarking, refused_by}
use Rattle.ca_range.specs.Snapping.{GoesOn, IsRefused, StaysPinned, snapped_so}
use Rattle.ca_range.specs.Snapshots.{IsInBudget, OnlyRanges}
use Rattle.ca_base.specs.Spending.{IsSpentOn}
use Rattle.ca_range.specs.Staying.{OnlySteps}
use Rattle.ca_range.specs.declared.gathering.Further.{Further}
use Rattle.ca_range.specs.declared.gathering.Further.TheVariants as further
use Rattle.ca_range.specs.declared.helped.Helped.{Helped}
use Rattle.ca_range.specs.declared.helped.Helped.TheVariants as helped
use Rattle.ca_range.specs.declared.own.Own.{Own}
use Rattle.ca_range.specs.declared.sought.Snapped.{Snapped}
use Rattle.ca_range.specs.declared.sought.Snapped.TheVariants as snapped
use Rattle.ca_range.specs.declared.sought.Sought.{Sought}
use Rattle.ca_range.proofs.NextGathered.{marking_on}
use Rattle.ca_range.proofs.OwnSteps.{ended_on}
use Rattle.ca_range.proofs.Readied.{ready_still}
use Rattle.ca_range.proofs.SnapshotSteps.{IsNoLess, crossed_after, crossed_before, ranges_by_steps, ranges_none, snapped_after}
use Rattle.ca_range.proofs.Stepping.{steps_lost_by}

module _ {R : Type 0} (space : Space R TreeView) where
  -- Steps that leave the own range.
  pub goes_steps : (a b : Spent) (p q : Pass R TreeView) → IsReady space p → KeepsList p q → q.seat.me ≡ with_upper p.seat.me q.seat.me.0.upper
      → q.seat.me.0.upper.joins ≡ p.seat.me.0.upper.joins
      → OnlySteps space.table.shared.key 0 p.seat.me.0.upper q.seat.me.0.upper → IsSpentOn a b p.seat.me q.seat.me → GoesOn space a b p q
  goes_steps a b p q ready keeps raised no_join steps spent = record {
    frame = record {
      same = keeps.same;
      number = keeps.number;
      tally = tallied_still p.tally q.tally p.seat.me.0.upper q.seat.me.0.upper keeps.tally (ap (λ (u : TreeView). u.splits) steps.only)
          no_join;
      pin = (ap (λ (x : MyTree). x.0.sizes) raised, ap (λ (x : MyTree). x.0.pin) raised);
      none = (ready_still space p q ready keeps raised steps).none;
    };
    steps = ranges_by_steps p.seat.me.0.upper q.seat.me.0.upper steps;
    counted = spent;
  }

  pub stays_pinned : (p q : Pass R TreeView) → StaysReady space p q → StaysPinned space p q
  stays_pinned p q s = record { same = s.same; number = s.number; tally = s.tally; pin = s.pin; none = s.none }

-- A walk raised what is known of the tree alone.
pub walked_raised : (z : Sizes) (spot : Spot) (m m' : MyTree) (cursor : Cursor) → IsWalked z spot m cursor m' → m' ≡ with_upper m m'.0.upper
walked_raised z spot m m' cursor w = w.now ∙ (λ i. with_upper m (sym w.now i).0.upper)

-- A try came to nothing.
pub stopped_ranges : (z : Sizes) (why : Stop) (u : TreeView) → OnlyRanges z u (stopped why u)
stopped_ranges z (stop.Lost x) u = ranges_by_steps u (stopped (stop.Lost x) u) (steps_lost_by u x)
stopped_ranges z stop.Empty u = ranges_none u
stopped_ranges z stop.Worn u = ranges_none u

pub stopped_marking : (z : Sizes) (why : Stop) (u : TreeView) (own : Own) → IsMarking z u own → IsMarking z (stopped why u) own
stopped_marking z (stop.Lost exchange.Link) u own k = marking_on z u (stopped (stop.Lost exchange.Link) u) own refl refl (λ border i. i) k
stopped_marking z (stop.Lost exchange.Head) u own k = k
stopped_marking z stop.Empty u own k = k
stopped_marking z stop.Worn u own k = k

pub stopped_unfinished : (why : Stop) (u : TreeView) → (stopped why u).ranges.unfinished ≡ u.ranges.unfinished
stopped_unfinished (stop.Lost exchange.Link) u = refl
stopped_unfinished (stop.Lost exchange.Head) u = refl
stopped_unfinished stop.Empty u = refl
stopped_unfinished stop.Worn u = refl

-- So it is where it didn't end with one.
pub no_run_unspent : (f : Further) (a b : Spent) → HasNoRun f → EndsUnspent f a b
no_run_unspent (further.On next) a b none = tt
no_run_unspent (further.Ended (snapped.Run run)) a b none = absurd none
no_run_unspent (further.Ended snapped.Again) a b none = tt
no_run_unspent (further.Ended snapped.Busy) a b none = tt
no_run_unspent (further.Ended snapped.NoRow) a b none = tt
no_run_unspent (further.Ended (snapped.Worn which)) a b none = tt

-- A refusal is no run, nor is what becomes of help, or of a base that couldn't be marked.
pub no_run_refused : (budget : ℕ) (spent : Spent) (s : Snapped) (m n : MyTree) → IsRefused budget spent s m n → HasNoRun (further.Ended s)
no_run_refused budget spent (snapped.Run run) m n r = r
no_run_refused budget spent snapped.Again m n r = tt
no_run_refused budget spent snapped.Busy m n r = tt
no_run_refused budget spent snapped.NoRow m n r = tt
no_run_refused budget spent (snapped.Worn which) m n r = tt

pub no_run_so : (h : Helped) → HasNoRun (further.Ended (snapped_so h))
no_run_so helped.Finished = tt
no_run_so (helped.Lost exchange) = tt
no_run_so (helped.Busy spent) = tt
no_run_so helped.NoRow = tt
no_run_so (helped.Worn which) = tt

pub no_run_stopped : (why : Stop) → HasNoRun (further.Ended (refused_by why))
no_run_stopped (stop.Lost exchange) = tt
no_run_stopped stop.Empty = tt
no_run_stopped stop.Worn = tt

-- Where the budget wasn't spent before such a step, it isn't then.
pub in_budget : (s : Snapped) (budget : ℕ) (a b : Spent) → turns_of a < budget → EndsUnspent (further.Ended s) a b → IsInBudget budget b s
in_budget (snapped.Run run) budget a b room same = subst (λ (x : Spent). turns_of x < budget) (sym same) room
in_budget snapped.Again budget a b room same = tt
in_budget snapped.Busy budget a b room same = tt
in_budget snapped.NoRow budget a b room same = tt
in_budget (snapped.Worn which) budget a b room same = tt

module _ {F : Type 0} (g : Shared F (Bor (List ℕ) × Unit {0}) Bool) (sought : Sought F) where
  -- A range began behind steps that met nothing of the pool.
  pub begun_after : (z : Sizes) (budget : ℕ) (spent : Spent) (f : Further) (k m n : MyTree) → HasMet 0 0 k m → IsNoLess k m
      → HasBegun g sought z budget spent f m n → HasBegun g sought z budget spent f k n
  begun_after z budget spent (further.On first) k m n met less b = let passed = less.passed in let more = b.4 in
      (b.0, b.1, b.2, met_both 0 0 0 0 k m n met b.3, omega arith)
  begun_after z budget spent (further.Ended s) k m n met less b = snapped_after g sought z budget spent s k m n met less b

  pub stopped_ends : (z : Sizes) (budget : ℕ) (spent : Spent) (why : Stop) (k m n l : MyTree) → HasMet 0 0 k m → HasStoppedBy why m n → HasMet 0 0 n l
      → IsNoLess k m → IsNoLess n l → HasEnded g sought z budget spent (refused_by why) k l
  stopped_ends z budget spent (stop.Lost x) k m n l before s behind less less' = (
    met_both 0 0 0 0 k m l before (met_both 0 0 0 0 m n l s.1 behind),
    inl (crossed_after k m l less (crossed_before m n l less' (inl s.0))),
  )
  stopped_ends z budget spent stop.Empty k m n l before s behind less less' = met_both 0 0 1 0 k m l before (met_both 1 0 0 0 m n l s behind)
  stopped_ends z budget spent stop.Worn k m n l before s behind less less' = met_both 0 0 0 1 k m l before (met_both 0 1 0 0 m n l s behind)

  -- So is a refusal of help.
  pub refused_ends : (z : Sizes) (budget : ℕ) (spent : Spent) (s : Snapped) (m n : MyTree) → IsRefused budget spent s m n → HasEnded g sought z budget spent
      s m n
  refused_ends z budget spent (snapped.Run run) m n r = absurd r
  refused_ends z budget spent snapped.Again m n r = (r.0, inl r.1)
  refused_ends z budget spent snapped.Busy m n r = r
  refused_ends z budget spent snapped.NoRow m n r = r
  refused_ends z budget spent (snapped.Worn counter.PoolTag) m n r = r
  refused_ends z budget spent (snapped.Worn counter.Epoch) m n r = absurd r
  refused_ends z budget spent (snapped.Worn counter.Sequence) m n r = absurd r

  -- One step more, behind others that met nothing of the pool.
  pub further_on : (z : Sizes) (far budget : ℕ) (spent : Spent) (s : Further) (k m n : MyTree) → HasMet 0 0 k m → IsNoLess k m
      → IsFurther g sought z far budget spent s m n → IsFurther g sought z far budget spent s k n
  further_on z far budget spent (further.On next) k m n met less f = (f.0, f.1, met_both 0 0 0 0 k m n met f.2)
  further_on z far budget spent (further.Ended s) k m n met less f = ended_on g sought z budget spent s k m n met less f
