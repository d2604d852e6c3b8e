-- Passes at work that leave: they rest then.
use Rattle.std.specs.Prelude.{◌≡◌, ◌+◌, ◌≤◌, Vec}
use Rattle.std.specs.Global.{Global}
use Rattle.ca_node.specs.Told.{MyTree}
use Rattle.ca_node.specs.TreeView.{unpinned}
use Rattle.ca_replace.specs.Bounded.{PinsNever}
use Rattle.ca_replace.specs.Causes.{KeepsFew}
use Rattle.ca_rows.specs.declared.kept.Kept.{Kept}

-- The pass unpinned, and keeps few rows, or there is a cause. A pass was found to lag once at most.
pub record HasLeft (m m' : MyTree) (kept' : Vec Kept Global) : Type 0 where
  pub upper : m'.0.upper ≡ unpinned m.0.upper
  -- so many exchanges of the pool had been lost as it unpinned
  pub left : m'.0.pin.left.lost ≡ m.0.lost
  pub few : KeepsFew m m' kept'
  pub lags : m'.0.pin.lags ≤ m.0.pin.lags + 1
  pub entered : m'.0.pin.entered ≡ m.0.pin.entered
  pub bounded : PinsNever m m'
