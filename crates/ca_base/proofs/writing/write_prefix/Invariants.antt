use Rattle.std.proofs.Common.{◌≡◌}
use Rattle.ca_node.specs.Layout.{prefix_word}
use Rattle.ca_base.specs.Writing.{HasEight}
use Rattle.ca_base.proofs.Filling.{IsFilling}
use Rattle.ca_base.proofs.writing.write_prefix.Given as goal

abbrev pub invariant-loop-place : goal.invariant-loop-place
invariant-loop-place l =
    IsFilling l.space.table.shared.table_id l.space.table.shared.key l.row prefix_word
    (HasEight l.prefix) l.fn.pass.seat l.pass.seat l.place × (l.pass.number ≡ l.fn.pass.number)
    × (l.pass.kept ≡ l.fn.pass.kept) × (l.pass.tally ≡ l.fn.pass.tally)
