use Rattle.std.proofs.Common.{◌≡◌, ℕ, true, false, get_or, refl, sym, ◌∙◌, subst, arith}
use Rattle.ca_node.specs.Told.{MyTree, IsShownWord}
use Rattle.ca_range.proofs.Basing.{base_word, some_word}
use Rattle.ca_range.proofs.going.is_behind.Goals as goal

pub load_word-back-requires-clause-shown : goal.load_word-back-requires-clause-shown
load_word-back-requires-clause-shown c = subst (λ (m : MyTree). (word : ℕ) × IsShownWord m.0.upper c.args.base 5 word) (sym c.is_of.ensures.frame.still)
    (some_word c.args.space.now.table.shared.key c.args.pass.now.seat.me.0.upper c.args.base 5 c.requires.shown)

pub load_word-bound-requires-clause-shown : goal.load_word-bound-requires-clause-shown
load_word-bound-requires-clause-shown c = subst (λ (m : MyTree). (word : ℕ) × IsShownWord m.0.upper c.args.base 6 word)
    (sym (c.load_word-back.ensures.frame.still ∙ c.is_of.ensures.frame.still))
    (some_word c.args.space.now.table.shared.key c.args.pass.now.seat.me.0.upper c.args.base 6 c.requires.shown)

pub returns-then-back-from-clause-behind : goal.returns-then-back-from-clause-behind
returns-then-back-from-clause-behind c = λ note s. let z = c.args.space.now.table.shared.key in let u = c.args.pass.now.seat.me.0.upper in
    let back = c.load_word-back.ensures.word (get_or note.its 5 0)
    (subst (λ (m : MyTree). IsShownWord m.0.upper c.args.base 5 (get_or note.its 5 0)) (sym c.is_of.ensures.frame.still) (base_word z u c.args.base 5 note s)) in
    let apart = c.if-back-from.true in let from = c.from.ensures in
    ((λ yes. let no : false ≡ true = yes in cc), λ is. let here : get_or note.its 5 0 ≡ c.args.last.now.left.base = is.1 in absurd (omega arith))

pub returns-then-bound-from-clause-behind : goal.returns-then-bound-from-clause-behind
returns-then-bound-from-clause-behind c = λ note s. let z = c.args.space.now.table.shared.key in let u = c.args.pass.now.seat.me.0.upper in
    let bound = c.load_word-bound.ensures.word (get_or note.its 6 0)
    (subst (λ (m : MyTree). IsShownWord m.0.upper c.args.base 6 (get_or note.its 6 0)) (sym (c.load_word-back.ensures.frame.still ∙ c.is_of.ensures.frame.still))
    (base_word z u c.args.base 6 note s)) in
    let apart = c.if-bound-from.true in let from = c.from-2.ensures in
    ((λ yes. let no : false ≡ true = yes in cc), λ is. let here : get_or note.its 6 0 ≡ c.args.last.now.own.border = is.2 in absurd (omega arith))

pub returns-clause-behind : goal.returns-clause-behind
returns-clause-behind c = λ note s. let z = c.args.space.now.table.shared.key in let u = c.args.pass.now.seat.me.0.upper in
    let still = c.is_of.ensures.frame.still in
    let back = c.load_word-back.ensures.word (get_or note.its 5 0)
    (subst (λ (m : MyTree). IsShownWord m.0.upper c.args.base 5 (get_or note.its 5 0)) (sym still) (base_word z u c.args.base 5 note s)) in
    let bound = c.load_word-bound.ensures.word (get_or note.its 6 0)
    (subst (λ (m : MyTree). IsShownWord m.0.upper c.args.base 6 (get_or note.its 6 0)) (sym (c.load_word-back.ensures.frame.still ∙ still))
    (base_word z u c.args.base 6 note s)) in
    let same = c.if-back-from.false in let from = c.from.ensures in let same' = c.if-bound-from.false in let from' = c.from-2.ensures in (
      λ yes. (
        (c.is_of.ensures.marked note s).0 c.if-not-is_of.false,
        (let left : get_or note.its 5 0 ≡ c.args.last.now.left.base = omega arith in left),
        (let row : get_or note.its 6 0 ≡ c.args.last.now.own.border = omega arith in row),
      ),
      λ is. refl,
    )
