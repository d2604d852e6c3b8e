use Rattle.std.proofs.Common.{ℕ, ◌∙◌, get_or, sym, subst, inl, arith}
use Rattle.ca_base.proofs.ShownWords.{base_word, some_word}
use Rattle.ca_node.specs.Told.{MyTree, IsShownWord}
use Rattle.ca_adapt.specs.Trying.{IsFoundInUse}
use Rattle.ca_adapt.proofs.Ranged.{found_by, owner_in}
use Rattle.ca_adapt.proofs.looking.is_in_range.Goals as goal

pub load_word-requires-clause-shown : goal.load_word-requires-clause-shown
load_word-requires-clause-shown c = some_word c.args.space.now.table.shared.key
    c.args.pass.now.seat.me.0.upper c.args.base 2 c.requires.shown

pub returns-then-load_word-ne-MARKED_BY_RANGE-clause-found : goal.returns-then-load_word-ne-MARKED_BY_RANGE-clause-found
returns-then-load_word-ne-MARKED_BY_RANGE-clause-found c note s = inl (
  (λ one. c.if-load_word-ne-MARKED_BY_RANGE.true (c.load_word.ensures.word (get_or note.its 2 0)
      (base_word c.args.space.now.table.shared.key c.args.pass.now.seat.me.0.upper c.args.base 2
      note s) ∙ one)),
  c.load_word.ensures.frame.still,
)

pub load_word-owner-requires-clause-shown : goal.load_word-owner-requires-clause-shown
load_word-owner-requires-clause-shown c = subst
    (λ (m : MyTree). (word : ℕ) × IsShownWord m.0.upper c.args.base 3 word)
    (sym c.load_word.ensures.frame.still)
    (some_word c.args.space.now.table.shared.key c.args.pass.now.seat.me.0.upper c.args.base 3
    c.requires.shown)

pub load_word-number-requires-clause-shown : goal.load_word-number-requires-clause-shown
load_word-number-requires-clause-shown c = subst
    (λ (m : MyTree). (word : ℕ) × IsShownWord m.0.upper c.args.base 4 word)
    (sym (c.load_word-owner.ensures.frame.still ∙ c.load_word.ensures.frame.still))
    (some_word c.args.space.now.table.shared.key c.args.pass.now.seat.me.0.upper c.args.base 4
    c.requires.shown)

pub overflow_cast-owner : goal.overflow_cast-owner
overflow_cast-owner c = let s = c.requires.shown in let z = c.args.space.now.table.shared.key in
    let u = c.args.pass.now.seat.me.0.upper in
    let one = sym (c.load_word.ensures.word (get_or s.0.its 2 0)
    (base_word z u c.args.base 2 s.0 s.1)) ∙ c.if-load_word-ne-MARKED_BY_RANGE.false in
    let owner = c.load_word-owner.ensures.word (get_or s.0.its 3 0)
    (subst (λ (m : MyTree). IsShownWord m.0.upper c.args.base 3 (get_or s.0.its 3 0))
    (sym c.load_word.ensures.frame.still) (base_word z u c.args.base 3 s.0 s.1)) in
    let few = (owner_in s.0.place s.0.its s.1.is_base.marked one).1 in
    omega arith

pub load_status-requires-clause-owner : goal.load_status-requires-clause-owner
load_status-requires-clause-owner c = let s = c.requires.shown in let z =
    c.args.space.now.table.shared.key in let u = c.args.pass.now.seat.me.0.upper in
    let one = sym (c.load_word.ensures.word (get_or s.0.its 2 0)
    (base_word z u c.args.base 2 s.0 s.1)) ∙ c.if-load_word-ne-MARKED_BY_RANGE.false in
    let owner = c.load_word-owner.ensures.word (get_or s.0.its 3 0)
    (subst (λ (m : MyTree). IsShownWord m.0.upper c.args.base 3 (get_or s.0.its 3 0))
    (sym c.load_word.ensures.frame.still) (base_word z u c.args.base 3 s.0 s.1)) in
    let few = owner_in s.0.place s.0.its s.1.is_base.marked one in let lo = few.0 in
    let hi = few.1 in
    (omega arith, omega arith)

pub returns-clause-found : goal.returns-clause-found
returns-clause-found c note s = let z = c.args.space.now.table.shared.key in let u =
    c.args.pass.now.seat.me.0.upper in
    let one = sym (c.load_word.ensures.word (get_or note.its 2 0)
    (base_word z u c.args.base 2 note s)) ∙ c.if-load_word-ne-MARKED_BY_RANGE.false in
    let owner = c.load_word-owner.ensures.word (get_or note.its 3 0)
    (subst (λ (m : MyTree). IsShownWord m.0.upper c.args.base 3 (get_or note.its 3 0))
    (sym c.load_word.ensures.frame.still) (base_word z u c.args.base 3 note s)) in
    let still = c.load_word-owner.ensures.frame.still ∙ c.load_word.ensures.frame.still in
    let number = c.load_word-number.ensures.word (get_or note.its 4 0)
    (subst (λ (m : MyTree). IsShownWord m.0.upper c.args.base 4 (get_or note.its 4 0))
    (sym still) (base_word z u c.args.base 4 note s)) in
    let w = c.load_status.ensures.watched in
    subst (λ (m : MyTree). IsFoundInUse c.is_active.result note m c.load_status.new.pass.seat.me)
    (c.load_word-number.ensures.frame.still ∙ still)
    (found_by c.is_active.result note c.load_word-number.new.pass.seat.me
    c.load_status.new.pass.seat.me c.load_word-owner.result c.load_word-number.result w.0
    w.2 one owner number (c.is_active.ensures.words w.0 w.1))
