use Rattle.std.proofs.Common.{◌+◌, ◌*◌}
use Rattle.ca_order.specs.CodesView.{terms_of}
use Rattle.ca_term.specs.Tree.{row_nodes, row_of}
use Rattle.ca_text.specs.Written.{BeginsWith}
use Rattle.ca_cmd.proofs.Coding.{AreElements, IsAlong}
use Rattle.ca_cmd.proofs.coded.+coded.Given as goal

abbrev pub decreases-put_first : goal.decreases-put_first
decreases-put_first l = 2 * row_nodes (row_of (terms_of l.codes))

abbrev pub decreases-put_elements : goal.decreases-put_elements
decreases-put_elements l = 2 * row_nodes (row_of (terms_of l.codes)) + 1

abbrev pub decreases-put_tail : goal.decreases-put_tail
decreases-put_tail l = 2 * row_nodes (row_of (terms_of l.codes)) + 1

abbrev pub invariant-put_elements-loop-at : goal.invariant-put_elements-loop-at
invariant-put_elements-loop-at l = record {
  elements : AreElements (terms_of l.fn.codes) (terms_of l.left) l._at l.fn.into.items l.into.items;
  front : BeginsWith l.into.items l.fn.into.items;
}

abbrev pub invariant-put_tail-loop-inside : goal.invariant-put_tail-loop-inside
invariant-put_tail-loop-inside l = record {
  along : IsAlong (terms_of l.codes) (terms_of l.tail) l.initial.into.items l.into.items;
  front : BeginsWith l.into.items l.initial.into.items;
}

abbrev pub decreases-put_tail-loop-inside : goal.decreases-put_tail-loop-inside
decreases-put_tail-loop-inside l = row_nodes (row_of (terms_of l.tail))
