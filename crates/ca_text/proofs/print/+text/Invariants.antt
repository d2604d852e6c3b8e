use Rattle.std.proofs.Common.{◌≡◌, ◌≤◌, ◌+◌, ◌*◌, ◌++◌, drop}
use Rattle.ca_term.specs.Tree.{nodes, row_nodes, row_of}
use Rattle.ca_text.specs.Text.{tail_text, more_text}
use Rattle.ca_text.specs.Written.{BeginsWith}
use Rattle.ca_text.proofs.print.+text.Given as goal

abbrev pub decreases-put_term : goal.decreases-put_term
decreases-put_term l = 2 * nodes l.term.now

abbrev pub decreases-put_items : goal.decreases-put_items
decreases-put_items l = 2 * row_nodes (row_of l.items.now) + 1

abbrev pub decreases-put_tail : goal.decreases-put_tail
decreases-put_tail l = 2 * nodes l.tail.now + 1

abbrev pub invariant-put_items-loop-item : goal.invariant-put_items-loop-item
invariant-put_items-loop-item l = record {
  text : l.into.items ++ more_text (row_of (drop l.item-index l.others)) ≡ l.initial.into.items ++ more_text (row_of l.others);
  front : BeginsWith l.into.items l.initial.into.items;
}

abbrev pub invariant-put_tail-loop-head : goal.invariant-put_tail-loop-head
invariant-put_tail-loop-head l = record {
  text : l.into.items ++ tail_text l.rest ≡ l.initial.into.items ++ tail_text l.tail;
  front : BeginsWith l.into.items l.initial.into.items;
  fewer : nodes l.rest ≤ nodes l.tail;
}

abbrev pub decreases-put_tail-loop-head : goal.decreases-put_tail-loop-head
decreases-put_tail-loop-head l = nodes l.rest
