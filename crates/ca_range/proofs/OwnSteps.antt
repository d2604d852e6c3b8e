-- Steps on a pass's own range, one after another.
use Rattle.std.proofs.Common.{◌≡◌, ℕ, ◌<◌, Bool, List, [], sym, refl, ap, ◌∙◌, subst, arith}
use denote.Ref.{Bor}
use denote.Param.Members.{Shared}
use Rattle.ca_base.specs.Counting.{HasMet, losses}
use Rattle.ca_base.specs.Readiness.{IsReady, StaysReady}
use Rattle.ca_base.specs.Taking.{AreHeld}
use Rattle.ca_base.proofs.Counts.{met_both}
use Rattle.ca_model.specs.declared.outcome.Counter.TheVariants as counter
use Rattle.ca_model.specs.declared.outcome.Spent.{Spent}
use Rattle.ca_node.specs.OwnRanges.{own_over}
use Rattle.ca_node.specs.Told.{MyTree, with_upper}
use Rattle.ca_node.proofs.Tallies.{tallied_still}
use Rattle.ca_node.specs.TreeView.{Quiet, TreeView}
use Rattle.ca_rows.specs.Calls.{IsNumbered}
use Rattle.ca_rows.specs.Passes.{KeepsList, OnlyReads}
use Rattle.ca_rows.specs.declared.sizes.Sizes.{Sizes}
use Rattle.ca_rows.specs.declared.space.Pass.{Pass}
use Rattle.ca_rows.specs.declared.space.Space.{Space}
use Rattle.ca_rows.specs.declared.view.Pin.{Pin}
use Rattle.ca_range.specs.Clearing.{turns_at}
use Rattle.ca_range.specs.Gathering.{HasEnded, HasSettled, IsBetween}
use Rattle.ca_range.specs.Snapping.{GoesOn, StaysPinned}
use Rattle.ca_range.specs.Snapshots.{HasSnapped, OnlyRanges}
use Rattle.ca_range.specs.Staying.{OnlySteps}
use Rattle.ca_range.specs.declared.own.Own.{Own}
use Rattle.ca_range.specs.declared.sought.Run.{Run}
use Rattle.ca_range.specs.declared.sought.Snapped.{Snapped}
use Rattle.ca_range.specs.declared.sought.Snapped.TheVariants as snapped
use Rattle.ca_range.specs.declared.sought.Sought.{Sought}
use Rattle.ca_range.proofs.SnapshotSteps.{IsNoLess, ranges_both, ranges_by_steps, ranges_none, thwarted_after}
use Rattle.ca_range.proofs.Filled.{raised_met}
use Rattle.ca_range.proofs.OwnEnds.{steps_over}
use Rattle.ca_range.proofs.Readied.{ready_reads, ready_still}
use Rattle.ca_base.proofs.Spends.{on_both, on_still}

module _ {R : Type 0} (space : Space R TreeView) where
  pub goes_none : (a : Spent) (pass : Pass R TreeView) → AreHeld space.table.shared.key.rows pass.kept.rows pass.seat.me.0 [] → GoesOn space a a pass pass
  goes_none a pass none = record {
    frame = record { same = (refl, refl); number = refl; tally = λ t. t; pin = (refl, refl); none = none };
    steps = ranges_none pass.seat.me.0.upper;
    counted = on_still a pass.seat.me pass.seat.me refl refl;
  }

  pub pinned_both : (p q r : Pass R TreeView) → StaysPinned space p q → StaysPinned space q r → StaysPinned space p r
  pinned_both p q r x y = record {
    same = (y.same.0 ∙ x.same.0, y.same.1 ∙ x.same.1);
    number = y.number ∙ x.number;
    tally = λ t. y.tally (x.tally t);
    pin = (y.pin.0 ∙ x.pin.0, y.pin.1 ∙ x.pin.1);
    none = y.none;
  }

  pub goes_both : (a b c : Spent) (p q r : Pass R TreeView) → GoesOn space a b p q → GoesOn space b c q r → GoesOn space a c p r
  goes_both a b c p q r x y = record {
    frame = pinned_both p q r x.frame y.frame;
    steps = ranges_both p.seat.me.0.upper q.seat.me.0.upper r.seat.me.0.upper x.steps y.steps;
    counted = on_both a b c p.seat.me q.seat.me r.seat.me x.counted y.counted;
  }

  -- The pass is ready still.
  pub ready_on : (p q : Pass R TreeView) → IsReady space p → StaysPinned space p q → OnlyRanges space.table.shared.key p.seat.me.0.upper q.seat.me.0.upper
      → IsReady space q
  ready_on p q r f s = record {
    own = (f.same.0 ∙ r.own.0, f.pin.0 ∙ r.own.1);
    numbered = subst (λ (x : ℕ × Pin). IsNumbered x.0 x.1) (λ i. (sym f.number i, sym f.pin.1 i)) r.numbered;
    pinned = ap (λ (x : Pin). x.pinned) f.pin.1 ∙ r.pinned;
    number = subst (λ (n : ℕ). 0 < n) (sym (ap (λ (u : TreeView). u.number) s.only)) r.number;
    none = f.none;
  }

  pub number_on : (p q : Pass R TreeView) → p.number ≡ p.seat.me.0.upper.number → StaysPinned space p q
      → OnlyRanges space.table.shared.key p.seat.me.0.upper q.seat.me.0.upper → q.number ≡ q.seat.me.0.upper.number
  number_on p q same f s = f.number ∙ (same ∙ sym (ap (λ (u : TreeView). u.number) s.only))

  -- A range was given up.
  pub goes_over : (a : Spent) (p q : Pass R TreeView) → StaysPinned space p q → OnlyRanges space.table.shared.key p.seat.me.0.upper q.seat.me.0.upper
      → losses q.seat.me ≡ losses p.seat.me → q.seat.me.0.upper.turns ≡ p.seat.me.0.upper.turns → GoesOn space a a p q
  goes_over a p q f s lost turns = record { frame = f; steps = s; counted = on_still a p.seat.me q.seat.me lost turns }

  -- Where the own range rests before and behind, the pass stays ready.
  pub ready_stays : (p q : Pass R TreeView) → StaysPinned space p q → p.seat.me.0.upper.ranges.own ≡ Quiet → q.seat.me.0.upper.ranges.own ≡ Quiet
      → StaysReady space p q
  ready_stays p q f before now = record {
    same = f.same;
    number = f.number;
    tally = f.tally;
    pin = f.pin;
    own_range = now ∙ sym before;
    none = f.none;
  }

module _ {F : Type 0} (g : Shared F (Bor (List ℕ) × Unit {0}) Bool) (sought : Sought F) where
  -- Steps ended behind others that met nothing of the pool.
  pub ended_on : (z : Sizes) (budget : ℕ) (spent : Spent) (s : Snapped) (k m n : MyTree) → HasMet 0 0 k m → IsNoLess k m
      → HasEnded g sought z budget spent s m n → HasEnded g sought z budget spent s k n
  ended_on z budget spent (snapped.Run run) k m n met less r = (met_both 0 0 0 0 k m n met r.0, r.1)
  ended_on z budget spent snapped.Again k m n met less r = (met_both 0 0 0 0 k m n met r.0, thwarted_after k m n less r.1)
  ended_on z budget spent snapped.Busy k m n met less r = (met_both 0 0 0 0 k m n met r.0, r.1)
  ended_on z budget spent snapped.NoRow k m n met less r = met_both 0 0 1 0 k m n met r
  ended_on z budget spent (snapped.Worn counter.PoolTag) k m n met less r = met_both 0 0 0 1 k m n met r
  ended_on z budget spent (snapped.Worn counter.Epoch) k m n met less r = r
  ended_on z budget spent (snapped.Worn counter.Sequence) k m n met less r = r

  -- A snapshot came to it, where a turn was spent before.
  pub snapped_by : (z : Sizes) (budget : ℕ) (spent : Spent) (s : Snapped) (k m n : MyTree) → HasMet 0 0 k m → IsNoLess k m → turns_at k < turns_at m
      → IsNoLess m n → HasEnded g sought z budget spent s m n → HasSnapped g sought z budget spent s k n
  snapped_by z budget spent (snapped.Run run) k m n met less more on r = (met_both 0 0 0 0 k m n met r.0, r.1)
  snapped_by z budget spent snapped.Again k m n met less more on r = let lost = on.lost in let helped = on.helped in let passed = on.passed in
      (met_both 0 0 0 0 k m n met r.0, omega arith, thwarted_after k m n less r.1)
  snapped_by z budget spent snapped.Busy k m n met less more on r = (met_both 0 0 0 0 k m n met r.0, r.1)
  snapped_by z budget spent snapped.NoRow k m n met less more on r = met_both 0 0 1 0 k m n met r
  snapped_by z budget spent (snapped.Worn counter.PoolTag) k m n met less more on r = met_both 0 0 0 1 k m n met r
  snapped_by z budget spent (snapped.Worn counter.Epoch) k m n met less more on r = r
  snapped_by z budget spent (snapped.Worn counter.Sequence) k m n met less more on r = absurd r

-- Another pass had decided the range, which the pass learnt.
module _ {R : Type 0} (space : Space R TreeView) (pass new : Pass R TreeView) (number : ℕ) (ready : IsReady space pass) (keeps : KeepsList pass new)
    (is : new.seat.me ≡ with_upper pass.seat.me (own_over number pass.seat.me.0.upper)) where
  over_steps : OnlySteps space.table.shared.key 0 pass.seat.me.0.upper new.seat.me.0.upper
  over_steps = subst (λ (x : MyTree). OnlySteps space.table.shared.key 0 pass.seat.me.0.upper x.0.upper) (sym is)
      (steps_over pass.seat.me.0.upper number)

  over_raised : new.seat.me ≡ with_upper pass.seat.me new.seat.me.0.upper
  over_raised = is ∙ (λ i. with_upper pass.seat.me (sym is i).0.upper)

  pub over_ready : IsReady space new
  over_ready = ready_still space pass new ready keeps over_raised over_steps

  pub over_goes : (a : Spent) → GoesOn space a a pass new
  over_goes a = goes_over space a pass new (record {
    same = keeps.same;
    number = keeps.number;
    tally = tallied_still pass.tally new.tally pass.seat.me.0.upper new.seat.me.0.upper keeps.tally (ap (λ (x : MyTree). x.0.upper.splits) is)
        (ap (λ (x : MyTree). x.0.upper.joins) is);
    pin = (ap (λ (x : MyTree). x.0.sizes) is, ap (λ (x : MyTree). x.0.pin) is);
    none = over_ready.none;
  }) (ranges_by_steps pass.seat.me.0.upper new.seat.me.0.upper over_steps) (ap losses is) (ap (λ (x : MyTree). x.0.upper.turns) is)

  pub over_met : HasMet 0 0 pass.seat.me new.seat.me
  over_met = raised_met pass.seat.me new.seat.me new.seat.me.0.upper over_raised

  pub over_between : {F : Type 0} (g : Shared F (Bor (List ℕ) × Unit {0}) Bool) (sought : Sought F) (z : Sizes) (own : Own)
      → IsBetween g sought z pass.seat.me.0.upper own → IsBetween g sought z new.seat.me.0.upper own
  over_between g sought z own b = subst (λ (x : MyTree). IsBetween g sought z x.0.upper own) (sym is) record {
    marking = record {
      begun = b.marking.begun;
      border = b.marking.border;
      is = b.marking.is;
      number_is = b.marking.number_is;
      small = b.marking.small;
      noted = b.marking.noted;
      row_is = b.marking.row_is;
      inside = b.marking.inside;
      owner_is = b.marking.owner_is;
    };
    edge = b.edge;
    top = b.top;
    needed = record { first = b.needed.first; noted = b.needed.noted; marked = b.needed.marked; short = b.needed.short };
  }

module _ {F : Type 0} (g : Shared F (Bor (List ℕ) × Unit {0}) Bool) (sought : Sought F) where
  pub settled_on : (z : Sizes) (run : Run) (k m n : MyTree) → HasMet 0 0 k m → HasSettled g sought z run m n → HasSettled g sought z run k n
  settled_on z run k m n met r = (met_both 0 0 0 0 k m n met r.0, r.1)

-- Loads of words that were shown.
module _ {R : Type 0} (space : Space R TreeView) where
  pub goes_reads : (a : Spent) (pass new : Pass R TreeView) → IsReady space pass → OnlyReads pass new → GoesOn space a a pass new
  goes_reads a pass new ready k = goes_over space a pass new (record {
    same = k.same;
    number = k.number;
    tally = tallied_still pass.tally new.tally pass.seat.me.0.upper new.seat.me.0.upper k.tally (ap (λ (x : MyTree). x.0.upper.splits) k.still)
        (ap (λ (x : MyTree). x.0.upper.joins) k.still);
    pin = (ap (λ (x : MyTree). x.0.sizes) k.still, ap (λ (x : MyTree). x.0.pin) k.still);
    none = (ready_reads space pass new ready k).none;
  }) (subst (λ (x : MyTree). OnlyRanges space.table.shared.key pass.seat.me.0.upper x.0.upper) (sym k.still) (ranges_none pass.seat.me.0.upper))
      (ap losses k.still) (ap (λ (x : MyTree). x.0.upper.turns) k.still)

  pub met_reads : (pass new : Pass R TreeView) → OnlyReads pass new → HasMet 0 0 pass.seat.me new.seat.me
  met_reads pass new k = subst (HasMet 0 0 pass.seat.me) (sym k.still) (omega arith, omega arith)

  -- A range was given up, or decided, behind them.
  module _ (a : Spent) (p q r : Pass R TreeView) (ready : IsReady space p) (reads : OnlyReads p q) (frame : StaysPinned space q r)
      (steps : OnlyRanges space.table.shared.key q.seat.me.0.upper r.seat.me.0.upper)
      (still : (losses r.seat.me ≡ losses q.seat.me) × (r.seat.me.0.upper.turns ≡ q.seat.me.0.upper.turns)) where
    pub goes_then : GoesOn space a a p r
    goes_then = goes_both space a a a p q r (goes_reads a p q ready reads) (goes_over space a q r frame steps still.0 still.1)
