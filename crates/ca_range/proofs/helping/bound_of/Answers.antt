use Rattle.std.proofs.Common.{get_or, arith}
use Rattle.ca_range.proofs.Basing.{base_word, some_word}
use Rattle.ca_range.proofs.helping.bound_of.Goals as goal

pub load_word-requires-clause-shown : goal.load_word-requires-clause-shown
load_word-requires-clause-shown c = let s = c.requires.shown in
    some_word c.args.space.now.table.shared.key c.args.pass.now.seat.me.0.upper c.args.base 6 (s.0, s.1)

pub overflow_cast-result : goal.overflow_cast-result
overflow_cast-result c = let s = c.requires.shown in let few = c.args.space.now.few.1 in let inside = s.2 in
    let word = c.load_word.ensures.word (get_or s.0.its 6 0)
    (base_word c.args.space.now.table.shared.key c.args.pass.now.seat.me.0.upper c.args.base 6 s.0 s.1) in
    omega arith

pub returns-clause-bound : goal.returns-clause-bound
returns-clause-bound c note s = c.load_word.ensures.word (get_or note.its 6 0)
    (base_word c.args.space.now.table.shared.key c.args.pass.now.seat.me.0.upper c.args.base 6 note s)
