use Rattle.std.proofs.Common.{drop, ap, ◌∙◌, arith}
use Rattle.ca_node.specs.Row.{front_of, key}
use Rattle.ca_base.proofs.SplitKeys.{front_taken}
use Rattle.ca_base.proofs.routing.word_behind.Goals as goal

pub returns-clause-word : goal.returns-clause-word
returns-clause-word c its shown = let w = c.word_of_item.result in
    let row = c.word_of_item.ensures.row in
    let head = c.word_of_item.ensures.head
    ∙ (ap (front_of 5) (c.deref.ensures.0 ∙ c.copy_part.ensures.part its shown)
    ∙ front_taken 5 (drop c.args.skip (key its))) in
    omega arith
