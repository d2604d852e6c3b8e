use Rattle.std.specs.Prelude.{◌≡◌, ◌≤◌, length}
use Rattle.std.proofs.Common.{vec_len}
use Rattle.ca_term.specs.Tree.{list_of}
use Rattle.ca_term.proofs.build.list.Given as goal

abbrev pub invariant-loop-head : goal.invariant-loop-head
invariant-loop-head l = record {
  same : list_of l.heads.items l.list ≡ list_of l.fn.items.items l.fn.tail;
  fewer : length l.heads.items ≤ length l.fn.items.items;
}

abbrev pub decreases-loop-head : goal.decreases-loop-head
decreases-loop-head l = vec_len l.heads
