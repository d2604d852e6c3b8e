use Rattle.std.proofs.Common.{◌≡◌, ◌+◌, get_or}
use Rattle.ca_base.proofs.Filling.{IsFilling}
use Rattle.ca_base.specs.Finding.{IsBaseShown}
use Rattle.ca_node.specs.TreeView.{Note}
use Rattle.ca_base.proofs.copies.copy_words.Given as goal

abbrev pub invariant-loop-place : goal.invariant-loop-place
invariant-loop-place l = record {
  number : l.pass.number ≡ l.fn.pass.number;
  kept : l.pass.kept ≡ l.fn.pass.kept;
  tally : l.pass.tally ≡ l.fn.pass.tally;
  filled : (note : Note) → IsBaseShown l.space.table.shared.key l.fn.pass.seat.me.0.upper l.base note
      → IsFilling l.space.table.shared.table_id l.space.table.shared.key l.row 7 (λ k word. word ≡ get_or note.its (7 + k) 0)
      l.fn.pass.seat l.pass.seat l.place;
}
