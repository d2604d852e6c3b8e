-- What a call counts that helps ranges and joins: each count rises by as much as the view's does, up to the last number that 32 bits hold.
use Rattle.std.specs.Prelude.{◌≡◌, ℕ, ◌+◌, ◌-◌, ◌≤◌, min}
use Rattle.ca_model.specs.declared.outcome.Spent.{Spent}
use Rattle.ca_base.specs.Counting.{losses}
use Rattle.ca_node.specs.Told.{MyTree}

-- The one count went from `before` to `now` as the other one went from `from` to `to`.
pub record RisesBy (before now from to : ℕ) : Type 0 where
  pub more : from ≤ to
  pub now_is : before ≤ 4294967295 → now ≡ min 4294967295 (before + (to - from))

-- The exchanges that were lost, the operations that were helped and the places that were passed were added to what was spent.
pub record IsSpentOn (before now : Spent) (m m' : MyTree) : Type 0 where
  pub lost : RisesBy before.lost now.lost (losses m) (losses m')
  pub helped : RisesBy before.helped now.helped m.0.upper.turns.helped m'.0.upper.turns.helped
  pub passed : RisesBy before.passed now.passed m.0.upper.turns.passed m'.0.upper.turns.passed
