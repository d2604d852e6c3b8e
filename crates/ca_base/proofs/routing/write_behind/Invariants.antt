use Rattle.std.proofs.Common.{◌≡◌, ◌+◌, get_or}
use Rattle.ca_node.specs.Layout.{items_word}
use Rattle.ca_base.specs.Prefixes.{worded}
use Rattle.ca_base.specs.Putting.{first_note, last_items}
use Rattle.ca_base.proofs.Filling.{IsFilling}
use Rattle.ca_base.proofs.routing.write_behind.Given as goal

abbrev pub invariant-loop-place : goal.invariant-loop-place
invariant-loop-place l =
    IsFilling l.space.table.shared.table_id l.space.table.shared.key l.row items_word
    (λ k word. word ≡ get_or (worded l.skip (last_items l.fn.pass.seat.me.0.upper)
    (first_note l.fn.pass.seat.me.0.upper.notes).objects) (l.run.from + k) 0)
    l.fn.pass.seat l.pass.seat l.place
    × (l.pass.number ≡ l.fn.pass.number) × (l.pass.kept ≡ l.fn.pass.kept)
    × (l.pass.tally ≡ l.fn.pass.tally)
