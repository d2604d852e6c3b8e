use Rattle.std.proofs.Common.{◌≤◌, ◌∙◌, get_or, sym, refl, subst, arith, ℕ}
use Rattle.ca_node.specs.Row.{mark_owner, mark_number}
use Rattle.ca_node.specs.Told.{MyTree, IsShownWord}
use Rattle.ca_rows.specs.declared.sizes.Sizes.{Sizes}
use Rattle.ca_node.specs.Joining.{IsRemembered}
use Rattle.ca_node.specs.Place.{IsLinkOf}
use Rattle.ca_range.proofs.Basing.{base_word, some_word}
use Rattle.ca_range.proofs.joins.attempt_on.Goals as goal

pub load_word-requires-clause-shown : goal.load_word-requires-clause-shown
load_word-requires-clause-shown c = some_word c.args.space.now.table.shared.key c.args.pass.now.seat.me.0.upper c.args.base 2 c.requires.shown

pub load_word-route-requires-clause-shown : goal.load_word-route-requires-clause-shown
load_word-route-requires-clause-shown c = subst (λ (m : MyTree). (word : ℕ) × IsShownWord m.0.upper c.args.base 3 word) (sym c.load_word.ensures.frame.still)
    (some_word c.args.space.now.table.shared.key c.args.pass.now.seat.me.0.upper c.args.base 3 c.requires.shown)

pub load_word-number-requires-clause-shown : goal.load_word-number-requires-clause-shown
load_word-number-requires-clause-shown c = subst (λ (m : MyTree). (word : ℕ) × IsShownWord m.0.upper c.args.base 4 word)
    (sym (c.load_word-route.ensures.frame.still ∙ c.load_word.ensures.frame.still))
    (some_word c.args.space.now.table.shared.key c.args.pass.now.seat.me.0.upper c.args.base 4 c.requires.shown)

pub returns-then-load_word-ne-MARKED_BY_JOIN-clause-attempt : goal.returns-then-load_word-ne-MARKED_BY_JOIN-clause-attempt
returns-then-load_word-ne-MARKED_BY_JOIN-clause-attempt c note s two = c.if-load_word-ne-MARKED_BY_JOIN.true (c.load_word.ensures.word (get_or note.its 2 0)
    (base_word c.args.space.now.table.shared.key c.args.pass.now.seat.me.0.upper c.args.base 2 note s) ∙ two)

pub overflow_cast-route : goal.overflow_cast-route
overflow_cast-route c = let s = c.requires.shown in let z = c.args.space.now.table.shared.key in let few = c.args.space.now.few.1 in
    let two = c.load_word.ensures.word (get_or s.0.its 2 0) (base_word z c.args.pass.now.seat.me.0.upper c.args.base 2 s.0 s.1) in
    let owner = c.load_word-route.ensures.word (get_or s.0.its 3 0) (subst (λ (m : MyTree). IsShownWord m.0.upper c.args.base 3 (get_or s.0.its 3 0))
    (sym c.load_word.ensures.frame.still) (base_word z c.args.pass.now.seat.me.0.upper c.args.base 3 s.0 s.1)) in
    let h = c.load_word.ensures.hung s.0 s.1.noted (mark_owner s.0.its) (mark_number s.0.its) (sym two ∙ c.if-load_word-ne-MARKED_BY_JOIN.false, refl, refl) in
    let inside = subst (λ (y : Sizes). mark_owner s.0.its ≤ y.rows) c.requires.reading.own.1 h.1 in
    omega arith

pub returns-clause-attempt : goal.returns-clause-attempt
returns-clause-attempt c note s = let z = c.args.space.now.table.shared.key in let u = c.args.pass.now.seat.me.0.upper in
    let two = c.load_word.ensures.word (get_or note.its 2 0) (base_word z u c.args.base 2 note s) in
    let owner = c.load_word-route.ensures.word (get_or note.its 3 0) (subst (λ (m : MyTree). IsShownWord m.0.upper c.args.base 3 (get_or note.its 3 0))
    (sym c.load_word.ensures.frame.still) (base_word z u c.args.base 3 note s)) in
    let number = c.load_word-number.ensures.word (get_or note.its 4 0) (subst (λ (m : MyTree). IsShownWord m.0.upper c.args.base 4 (get_or note.its 4 0))
    (sym (c.load_word-route.ensures.frame.still ∙ c.load_word.ensures.frame.still)) (base_word z u c.args.base 4 note s)) in
    let marked = sym two ∙ c.if-load_word-ne-MARKED_BY_JOIN.false in
    let h = c.load_word.ensures.hung note s.noted (mark_owner note.its) (mark_number note.its) (marked, refl, refl) in (
      (marked, sym owner, sym number),
      (
        subst (λ (k : ℕ). IsRemembered u.ways k) (sym owner) h.0,
        subst (λ (k : ℕ). k ≤ z.rows) (sym owner) (subst (λ (y : Sizes). mark_owner note.its ≤ y.rows) c.requires.reading.own.1 h.1),
      ),
      subst (λ (k : ℕ). IsLinkOf k note.place.link) (sym owner) h.2,
    )
