use Rattle.std.proofs.Common.{◌≡◌, false, map}
use Rattle.std.specs.List.{All}
use Rattle.ca_rows.specs.Closed.{IsClosable, joined_from}
use Rattle.ca_rows.proofs.close.gather.Given as goal

abbrev pub invariant-loop-pass : goal.invariant-loop-pass
invariant-loop-pass g l =
    (l.seat.table_id ≡ l.fn.seat.table_id) × (l.seat.id ≡ l.fn.seat.id)
    × (l.seat.me.0.pin.pinned ≡ false)
    × All (λ pass. IsClosable l.table.shared.table_id pass.seat) l.passes.items
    × (joined_from g.R.RowRule.both l.seat.me.0 (map (λ pass. pass.seat.me.0) l.passes.items)
    ≡ joined_from g.R.RowRule.both l.fn.seat.me.0
    (map (λ pass. pass.seat.me.0) l.fn.passes.items))

abbrev pub decreases-loop-pass : goal.decreases-loop-pass
decreases-loop-pass g l = goal.left-loop-pass g l
