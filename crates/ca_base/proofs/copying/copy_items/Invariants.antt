use Rattle.std.proofs.Common.{◌≡◌, ◌+◌, get_or}
use Rattle.ca_node.specs.Layout.{items_word}
use Rattle.ca_node.specs.Row.{item_words}
use Rattle.ca_node.specs.TreeView.{Note}
use Rattle.ca_base.specs.Joined.{HasRun}
use Rattle.ca_base.specs.Trimming.{shifted_words}
use Rattle.ca_base.proofs.Filling.{IsFilling}
use Rattle.ca_base.proofs.copying.copy_items.Given as goal

abbrev pub invariant-loop-place : goal.invariant-loop-place
invariant-loop-place l = record {
  number : l.pass.number ≡ l.fn.pass.number;
  kept : l.pass.kept ≡ l.fn.pass.kept;
  tally : l.pass.tally ≡ l.fn.pass.tally;
  filled : (note : Note) → HasRun l.space.table.shared.key l.fn.pass.seat.me.0.upper l.run note
      → IsFilling l.space.table.shared.table_id l.space.table.shared.key l.row (items_word + l.to)
      (λ k word. word ≡ get_or (shifted_words l.shift (item_words note.its)) (l.run.from + k) 0) l.fn.pass.seat l.pass.seat l.place;
}
