use Rattle.std.proofs.Common.{◌<◌, ◌≤◌, ◌∙◌, get_or, sym, subst, arith, ℕ}
use Rattle.ca_node.specs.Told.{MyTree, IsShownWord}
use Rattle.ca_range.proofs.Basing.{base_word, some_word, of_range}
use Rattle.ca_range.proofs.marks.range_of.Goals as goal

pub load_word-requires-clause-shown : goal.load_word-requires-clause-shown
load_word-requires-clause-shown c = some_word c.args.space.now.table.shared.key c.args.pass.now.seat.me.0.upper c.args.base 2 c.requires.shown

pub load_word-owner-requires-clause-shown : goal.load_word-owner-requires-clause-shown
load_word-owner-requires-clause-shown c = subst (λ (m : MyTree). (word : ℕ) × IsShownWord m.0.upper c.args.base 3 word) (sym c.load_word.ensures.frame.still)
    (some_word c.args.space.now.table.shared.key c.args.pass.now.seat.me.0.upper c.args.base 3 c.requires.shown)

pub load_word-number-requires-clause-shown : goal.load_word-number-requires-clause-shown
load_word-number-requires-clause-shown c = subst (λ (m : MyTree). (word : ℕ) × IsShownWord m.0.upper c.args.base 4 word)
    (sym (c.load_word-owner.ensures.frame.still ∙ c.load_word.ensures.frame.still))
    (some_word c.args.space.now.table.shared.key c.args.pass.now.seat.me.0.upper c.args.base 4 c.requires.shown)

pub returns-then-load_word-ne-MARKED_BY_RANGE-clause-range : goal.returns-then-load_word-ne-MARKED_BY_RANGE-clause-range
returns-then-load_word-ne-MARKED_BY_RANGE-clause-range c note s one = c.if-load_word-ne-MARKED_BY_RANGE.true (c.load_word.ensures.word (get_or note.its 2 0)
    (base_word c.args.space.now.table.shared.key c.args.pass.now.seat.me.0.upper c.args.base 2 note s) ∙ one)

pub overflow_cast-owner : goal.overflow_cast-owner
overflow_cast-owner c = let s = c.requires.shown in let z = c.args.space.now.table.shared.key in
    let one = c.load_word.ensures.word (get_or s.0.its 2 0) (base_word z c.args.pass.now.seat.me.0.upper c.args.base 2 s.0 s.1) in
    let owner = c.load_word-owner.ensures.word (get_or s.0.its 3 0) (subst (λ (m : MyTree). IsShownWord m.0.upper c.args.base 3 (get_or s.0.its 3 0))
    (sym c.load_word.ensures.frame.still) (base_word z c.args.pass.now.seat.me.0.upper c.args.base 3 s.0 s.1)) in
    let few = of_range s.0.place s.0.its s.1.is_base.marked (sym one ∙ c.if-load_word-ne-MARKED_BY_RANGE.false) in let hi = few.1 in omega arith

pub returns-clause-range : goal.returns-clause-range
returns-clause-range c note s = let z = c.args.space.now.table.shared.key in let u = c.args.pass.now.seat.me.0.upper in
    let one = c.load_word.ensures.word (get_or note.its 2 0) (base_word z u c.args.base 2 note s) in
    let owner = c.load_word-owner.ensures.word (get_or note.its 3 0) (subst (λ (m : MyTree). IsShownWord m.0.upper c.args.base 3 (get_or note.its 3 0))
    (sym c.load_word.ensures.frame.still) (base_word z u c.args.base 3 note s)) in
    let number = c.load_word-number.ensures.word (get_or note.its 4 0) (subst (λ (m : MyTree). IsShownWord m.0.upper c.args.base 4 (get_or note.its 4 0))
    (sym (c.load_word-owner.ensures.frame.still ∙ c.load_word.ensures.frame.still)) (base_word z u c.args.base 4 note s)) in
    let marked = sym one ∙ c.if-load_word-ne-MARKED_BY_RANGE.false in let few = of_range note.place note.its s.is_base.marked marked in
    ((marked, sym owner, sym number), subst (λ (k : ℕ). 0 < k) (sym owner) few.0, subst (λ (k : ℕ). k ≤ 64) (sym owner) few.1)
