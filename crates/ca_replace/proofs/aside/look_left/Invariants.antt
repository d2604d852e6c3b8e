use Rattle.std.proofs.Common.{◌≡◌, ◌+◌, ◌-◌, ◌<◌}
use Rattle.ca_node.specs.States.{IsAlone}
use Rattle.ca_replace.specs.Aside.{HasLookedLeft, MayGoLeft}
use Rattle.ca_replace.specs.Attempting.{total}
use Rattle.ca_replace.specs.Loading.{LoadsFew}
use Rattle.ca_replace.proofs.LoneLooks.{LooksOnce}
use Rattle.ca_rows.specs.Calls.{IsSame}
use Rattle.ca_replace.proofs.aside.look_left.Given as goal

abbrev pub invariant-loop-cursor : goal.invariant-loop-cursor
invariant-loop-cursor l = record {
  same : IsSame l.fn.pass.seat l.pass.seat;
  number : l.pass.number ≡ l.fn.pass.number;
  tally : l.pass.tally ≡ l.fn.pass.tally;
  kept : l.pass.kept ≡ l.fn.pass.kept;
  looked : HasLookedLeft l.space.table.shared.key l.fn.spent l.spent l.fn.pass.seat.me l.pass.seat.me;
  may : MayGoLeft l.space.table.shared.key l.from l.route l.fn.pass.seat.me l.pass.seat.me;
  looks : IsAlone l.space.table.shared.key l.fn.pass.seat.me.0.upper → LooksOnce l.fn.pass.seat.me l.pass.seat.me;
  unspent : total l.spent < l.budget;
  loads : LoadsFew (l.space.table.shared.key.levels + 1) 0 l.pass.seat.me.0.upper.loads l.fn.pass.seat.me l.pass.seat.me;
}

abbrev pub decreases-loop-cursor : goal.decreases-loop-cursor
decreases-loop-cursor l = l.budget - total l.spent
