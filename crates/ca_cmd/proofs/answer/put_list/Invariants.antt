use Rattle.std.proofs.Common.{◌≡◌, ◌++◌, drop}
use Rattle.ca_term.specs.Tree.{Nil, list_of}
use Rattle.ca_text.specs.Text.{tail_text}
use Rattle.ca_text.specs.Written.{BeginsWith}
use Rattle.ca_cmd.proofs.answer.put_list.Given as goal

abbrev pub invariant-loop-term : goal.invariant-loop-term
invariant-loop-term l = record {
  text : l.into.items ++ tail_text (list_of (drop l.term-index l.others) Nil) ≡ l.initial.into.items ++ tail_text (list_of l.others Nil);
  front : BeginsWith l.into.items l.initial.into.items;
}
