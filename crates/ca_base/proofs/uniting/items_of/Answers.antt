use Rattle.std.proofs.Common.{◌%◌, ℕ, get_or, ap}
use Rattle.ca_base.proofs.ShownWords.{base_word, some_word}
use Rattle.ca_node.specs.Layout.{count_limit}
use Rattle.ca_base.proofs.uniting.items_of.Goals as goal

pub load_word-requires-clause-shown : goal.load_word-requires-clause-shown
load_word-requires-clause-shown c = some_word c.args.space.now.table.shared.key c.args.pass.now.seat.me.0.upper c.args.base 0 c.requires.shown

pub returns-clause-count : goal.returns-clause-count
returns-clause-count c note s = ap (λ (n : ℕ). n % count_limit)
    (c.load_word.ensures.word (get_or note.its 0 0) (base_word c.args.space.now.table.shared.key c.args.pass.now.seat.me.0.upper c.args.base 0 note s))
