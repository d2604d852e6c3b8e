-- The number of a pass's next range was loaded, and rows were taken.
use Rattle.std.proofs.Common.{◌≡◌, ℕ, sym, refl, ap, ◌∙◌, subst, arith}
use Rattle.ca_base.specs.Counting.{HasMet, IsSpent, losses}
use Rattle.ca_model.specs.declared.outcome.Spent.{Spent}
use Rattle.ca_model.specs.Edges.{Bound}
use Rattle.ca_node.specs.declared.cursor.Cursor.{Cursor}
use Rattle.ca_node.specs.Told.{MyTree, with_upper}
use Rattle.ca_node.specs.TreeView.{TreeView}
use Rattle.ca_node.proofs.Tallies.{tallied_still}
use Rattle.ca_rows.specs.Passes.{IsStillPass, KeepsList}
use Rattle.ca_rows.specs.declared.sizes.Sizes.{Sizes}
use Rattle.ca_rows.specs.declared.space.Pass.{Pass}
use Rattle.ca_rows.specs.declared.space.Space.{Space}
use Rattle.ca_range.specs.Looking.{IsFirst}
use Rattle.ca_range.specs.Opening.{with_sequence}
use Rattle.ca_range.specs.Snapping.{GoesOn}
use Rattle.ca_range.specs.Snapshots.{OnlyRanges}
use Rattle.ca_base.specs.Spending.{IsSpentOn}
use Rattle.ca_range.proofs.FirstBases.{first_still}
use Rattle.ca_range.proofs.SnapshotSteps.{ranges_both}
use Rattle.ca_base.proofs.Spends.{on_both, on_lost, on_still}
use Rattle.ca_range.proofs.Stepping.{known_same, none_more}

-- The first base is it still.
pub numbered_first : (z : Sizes) (lo : Bound) (last : ℕ) (u : TreeView) (cursor : Cursor) → IsFirst z lo u cursor → IsFirst z lo (with_sequence last u) cursor
numbered_first z lo last u cursor f = first_still z lo u (with_sequence last u) cursor (record { notes = refl; ways = refl })
    (known_same z u (with_sequence last u) refl refl refl) f

module _ {R : Type 0} (space : Space R TreeView) (p0 p1 p2 : Pass R TreeView) (last : ℕ) (keeps : KeepsList p0 p1)
    (is : p1.seat.me ≡ with_upper p0.seat.me (with_sequence last p0.seat.me.0.upper)) (taken : IsStillPass p1 p2) where
  pub upper_taken : p2.seat.me.0.upper ≡ with_sequence last p0.seat.me.0.upper
  upper_taken = taken.same.4 ∙ ap (λ (x : MyTree). x.0.upper) is

  pub taken_spent : (a b : Spent) → IsSpent a b p1.seat.me p2.seat.me → IsSpentOn a b p0.seat.me p2.seat.me
  taken_spent a b spent = on_both a a b p0.seat.me p1.seat.me p2.seat.me (on_still a p0.seat.me p1.seat.me (ap losses is)
      (ap (λ (x : MyTree). x.0.upper.turns) is)) (on_lost a b p1.seat.me p2.seat.me (ap (λ (u : TreeView). u.turns) taken.same.4) spent)

  pub taken_met : HasMet 0 0 p1.seat.me p2.seat.me → HasMet 0 0 p0.seat.me p2.seat.me
  taken_met met = let empty = ap (λ (x : MyTree). x.0.empty) is in let worn = ap (λ (x : MyTree). x.0.worn) is in let e = met.0 in let w = met.1 in
      (omega arith, omega arith)

  pub taken_goes : (p3 : Pass R TreeView) (a b c : Spent) → IsSpent a b p1.seat.me p2.seat.me → GoesOn space b c p2 p3 → GoesOn space a c p0 p3
  taken_goes p3 a b c spent goes = record {
    frame = record {
      same = (goes.frame.same.0 ∙ (taken.same.0 ∙ keeps.same.0), goes.frame.same.1 ∙ (taken.same.1 ∙ keeps.same.1));
      number = goes.frame.number ∙ (taken.number ∙ keeps.number);
      tally = λ t. goes.frame.tally (tallied_still p0.tally p2.tally p0.seat.me.0.upper p2.seat.me.0.upper (taken.tally ∙ keeps.tally)
          (ap (λ (u : TreeView). u.splits) upper_taken) (ap (λ (u : TreeView). u.joins) upper_taken) t);
      pin = (
        goes.frame.pin.0 ∙ (taken.same.2 ∙ ap (λ (x : MyTree). x.0.sizes) is),
        goes.frame.pin.1 ∙ (taken.same.3 ∙ ap (λ (x : MyTree). x.0.pin) is),
      );
      none = goes.frame.none;
    };
    steps = ranges_both p0.seat.me.0.upper p2.seat.me.0.upper p3.seat.me.0.upper (subst (OnlyRanges space.table.shared.key p0.seat.me.0.upper) (sym upper_taken)
        record {
          only = refl;
          seen = none_more p0.seat.me.0.upper;
          known = known_same space.table.shared.key p0.seat.me.0.upper _ refl refl refl;
          joins = omega arith;
          joined = omega arith;
        }) goes.steps;
    counted = on_both a b c p0.seat.me p2.seat.me p3.seat.me (taken_spent a b spent) goes.counted;
  }
