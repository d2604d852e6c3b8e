use Rattle.std.proofs.Common.{◌≡◌, ◌++◌, length}
use Rattle.ca_order.specs.CodesView.{terms_of}
use Rattle.ca_term.specs.Tree.{Nil, list_of}
use Rattle.ca_text.specs.Text.{tail_text, text_of}
use Rattle.ca_text.specs.Written.{BeginsWith}
use Rattle.ca_cmd.proofs.answer.put_codes.Given as goal

abbrev pub invariant-loop-left : goal.invariant-loop-left
invariant-loop-left l = record {
  text : l.into.items ++ tail_text (list_of (terms_of l.left) Nil) ≡ l.fn.into.items ++ text_of (list_of (terms_of l.fn.codes) Nil);
  front : BeginsWith l.into.items l.fn.into.items;
}

abbrev pub decreases-loop-left : goal.decreases-loop-left
decreases-loop-left l = length (terms_of l.left)
