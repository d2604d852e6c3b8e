use Rattle.std.proofs.Common.{◌≡◌, ◌≤◌, ◌+◌, ℕ, max}
use Rattle.ca_base.specs.Finding.{IsReadable}
use Rattle.ca_node.specs.TreeView.{Note}
use Rattle.ca_range.specs.Counted.{IsCountOf}
use Rattle.ca_range.proofs.Counts.{part_of}
use Rattle.ca_rows.specs.Passes.{OnlyReads}
use Rattle.ca_range.proofs.counting.count_in.Given as goal

abbrev pub invariant-loop-place : goal.invariant-loop-place
invariant-loop-place g l = record {
  frame : OnlyReads l.fn.pass l.pass;
  most : l.counted ≤ max l.fn.counted l.sought.want;
  none : l.part.end ≤ l.part.from → l.place ≤ l.part.from;
  counts : (note : Note) → IsReadable l.space.table.shared.key l.fn.pass.seat.me.0.upper l.part.base note
      → (n : ℕ) × (l.counted ≡ l.fn.counted + n) × IsCountOf g.F.Fn l.sought.counts.now n (part_of note.objects l.part.from l.place);
}
