-- What calls count that help ranges and joins, one after another.
use Rattle.std.proofs.Common.{◌≡◌, ℕ, refl, ap, arith}
use Rattle.ca_model.specs.declared.outcome.Spent.{Spent}
use Rattle.ca_node.specs.Told.{MyTree}
use Rattle.ca_node.specs.TreeView.{Turns}
use Rattle.ca_base.specs.Counting.{losses, IsSpent}
use Rattle.ca_base.specs.Spending.{IsSpentOn, RisesBy}

-- A count rises by both of two steps.
pub rises_both : (a b c x y z : ℕ) → RisesBy a b x y → RisesBy b c y z → RisesBy a c x z
rises_both a b c x y z one two = let m = one.more in let n = two.more in record {
  more = omega arith;
  now_is = λ fits. let first = one.now_is fits in let second = two.now_is (omega arith) in omega arith;
}

-- It stands still.
pub rises_not : (a b x y : ℕ) → b ≡ a → y ≡ x → RisesBy a b x y
rises_not a b x y same still = record { more = omega arith; now_is = λ fits. omega arith }

-- Two steps, one after the other.
pub on_both : (a b c : Spent) (k m n : MyTree) → IsSpentOn a b k m → IsSpentOn b c m n → IsSpentOn a c k n
on_both a b c k m n x y = record {
  lost = rises_both a.lost b.lost c.lost (losses k) (losses m) (losses n) x.lost y.lost;
  helped = rises_both a.helped b.helped c.helped k.0.upper.turns.helped m.0.upper.turns.helped n.0.upper.turns.helped x.helped y.helped;
  passed = rises_both a.passed b.passed c.passed k.0.upper.turns.passed m.0.upper.turns.passed n.0.upper.turns.passed x.passed y.passed;
}

-- Exchanges were lost, and nothing else was counted.
pub on_lost : (a b : Spent) (k m : MyTree) → m.0.upper.turns ≡ k.0.upper.turns → IsSpent a b k m → IsSpentOn a b k m
on_lost a b k m same s = record {
  lost = record { more = s.more; now_is = s.lost };
  helped = rises_not a.helped b.helped k.0.upper.turns.helped m.0.upper.turns.helped s.helped (ap (λ (t : Turns). t.helped) same);
  passed = rises_not a.passed b.passed k.0.upper.turns.passed m.0.upper.turns.passed s.passed (ap (λ (t : Turns). t.passed) same);
}

-- Nothing was counted.
pub on_still : (a : Spent) (k m : MyTree) → losses m ≡ losses k → m.0.upper.turns ≡ k.0.upper.turns → IsSpentOn a a k m
on_still a k m lost same = record {
  lost = rises_not a.lost a.lost (losses k) (losses m) refl lost;
  helped = rises_not a.helped a.helped k.0.upper.turns.helped m.0.upper.turns.helped refl (ap (λ (t : Turns). t.helped) same);
  passed = rises_not a.passed a.passed k.0.upper.turns.passed m.0.upper.turns.passed refl (ap (λ (t : Turns). t.passed) same);
}
