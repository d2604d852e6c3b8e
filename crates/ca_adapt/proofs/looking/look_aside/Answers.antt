use Rattle.std.proofs.Common.{false, Some, sym, ap, ◌∙◌, subst, arith}
use Rattle.ca_base.specs.Finding.{IsBaseShown}
use Rattle.ca_node.specs.Told.{MyTree, IsLedToBase, link_word}
use Rattle.ca_node.specs.declared.link.Link.{Link}
use Rattle.ca_adapt.specs.Trying.{IsJoinSteps, OnlyLooks}
use Rattle.ca_adapt.proofs.Forked.{other_known}
use Rattle.ca_adapt.proofs.Looks.{looks_both, looks_found, looks_seen}
use Rattle.ca_adapt.proofs.Ranged.{finds, looked_steps, taken}
use Rattle.ca_adapt.proofs.Seen.{led_shown, led_steps, led_still}
use Rattle.ca_adapt.proofs.TrySteps.{steps_both}
use Rattle.ca_adapt.proofs.looking.look_aside.Goals as goal

pub load_base-requires-clause-known : goal.load_base-requires-clause-known
load_base-requires-clause-known c =
    (other_known c.args.space.now.table.shared.key c.args.pass.now.seat.me.0.upper c.args.fork
    c.args.cursor.link
    c.requires.fork.0
    c.requires.fork.1 c.requires.fork.3 c.requires.fork.2).0

pub load_base-requires-clause-inside : goal.load_base-requires-clause-inside
load_base-requires-clause-inside c =
    (other_known c.args.space.now.table.shared.key c.args.pass.now.seat.me.0.upper c.args.fork
    c.args.cursor.link
    c.requires.fork.0
    c.requires.fork.1 c.requires.fork.3 c.requires.fork.2).1

pub items_of-many-requires-clause-shown : goal.items_of-many-requires-clause-shown
items_of-many-requires-clause-shown c = let s = c.requires.shown in (
  s.0,
  led_still c.args.space.now.table.shared.key c.in-Some.sibling c.args.pass.now.seat.me
      c.load_base.new.pass.seat.me c.in-Some.ensures.seen c.args.cursor.base
      s.0 s.1,
)

pub items_of-requires-clause-shown : goal.items_of-requires-clause-shown
items_of-requires-clause-shown c = let s = c.requires.shown in let lo = s.1.is_base.some_row in
    let hi = s.1.is_base.in_range in
    let z = c.args.space.now.table.shared.key in let b = c.in-Some.ensures.seen in (
      b.note,
      subst (λ (x : MyTree). IsBaseShown z x.0.upper c.in-Some.sibling b.note)
          (sym c.items_of-many.ensures.frame.still)
          (led_shown z c.in-Some.sibling c.args.pass.now.seat.me c.load_base.new.pass.seat.me b
          c.requires.reading.own.1 (omega arith)),
    )

pub is_in_range-requires-clause-shown : goal.is_in_range-requires-clause-shown
is_in_range-requires-clause-shown c = let s = c.requires.shown in let lo = s.1.is_base.some_row in
    let hi = s.1.is_base.in_range in
    let z = c.args.space.now.table.shared.key in let b = c.in-Some.ensures.seen in (
      b.note,
      subst (λ (x : MyTree). IsBaseShown z x.0.upper c.in-Some.sibling b.note)
          (sym (c.items_of.ensures.frame.still ∙ c.items_of-many.ensures.frame.still))
          (led_shown z c.in-Some.sibling c.args.pass.now.seat.me c.load_base.new.pass.seat.me b
          c.requires.reading.own.1 (omega arith)),
    )

pub returns-then-many-items_of-clause-steps : goal.returns-then-many-items_of-clause-steps
returns-then-many-items_of-clause-steps c = let s = c.requires.shown in let lo =
    s.1.is_base.some_row in let hi = s.1.is_base.in_range in
    let z = c.args.space.now.table.shared.key in let m = c.args.pass.now.seat.me in
    subst (λ (x : MyTree). IsJoinSteps z m.0.upper x.0.upper)
    (sym (c.items_of.ensures.frame.still ∙ c.items_of-many.ensures.frame.still))
    (led_steps z c.in-Some.sibling m c.load_base.new.pass.seat.me c.in-Some.ensures.seen
    c.requires.reading.own.1 (omega arith))

pub returns-then-many-items_of-clause-looked : goal.returns-then-many-items_of-clause-looked
returns-then-many-items_of-clause-looked c note s = let lo = s.is_base.some_row in let hi =
    s.is_base.in_range in
    let z = c.args.space.now.table.shared.key in let m = c.args.pass.now.seat.me in let row =
    c.in-Some.sibling in
    let still = c.items_of.ensures.frame.still ∙ c.items_of-many.ensures.frame.still in
    let b = subst (λ (x : Link × MyTree). IsLedToBase false (link_word x.0) m row x.1)
    (λ i. (c.requires.fork.1 i, sym still i)) c.in-Some.ensures.seen in
    let shown = led_shown z row m c.items_of.new.pass.seat.me b c.requires.reading.own.1
    (omega arith) in
    let more = c.items_of.ensures.count b.note
    (subst (λ (x : MyTree). IsBaseShown z x.0.upper row b.note)
    c.items_of.ensures.frame.still shown) in
    let many = c.items_of-many.ensures.count note
    (led_still z row m c.load_base.new.pass.seat.me c.in-Some.ensures.seen
    c.args.cursor.base note s) in
    let leaf = c.requires.leaf.0 in let over = c.if-many-items_of.true in (
      (c.requires.fork.0, (row, b, omega arith)),
      ap (λ (x : MyTree). x.0.upper.turns.passed) b.now,
    )

pub returns-then-is_in_range-clause-steps : goal.returns-then-is_in_range-clause-steps
returns-then-is_in_range-clause-steps c = let s = c.requires.shown in let lo =
    s.1.is_base.some_row in let hi = s.1.is_base.in_range in
    let z = c.args.space.now.table.shared.key in let m = c.args.pass.now.seat.me in let row =
    c.in-Some.sibling in let b = c.in-Some.ensures.seen in
    let still = c.items_of.ensures.frame.still ∙ c.items_of-many.ensures.frame.still in
    let shown = subst (λ (x : MyTree). IsBaseShown z x.0.upper row b.note) (sym still)
    (led_shown z row m c.load_base.new.pass.seat.me b c.requires.reading.own.1 (omega arith)) in
    steps_both z m.0.upper c.items_of.new.pass.seat.me.0.upper
    c.is_in_range.new.pass.seat.me.0.upper
    (subst (λ (x : MyTree). IsJoinSteps z m.0.upper x.0.upper) (sym still)
    (led_steps z row m c.load_base.new.pass.seat.me b c.requires.reading.own.1 (omega arith)))
    (looked_steps z c.is_in_range.result b.note c.items_of.new.pass.seat.me
    c.is_in_range.new.pass.seat.me (c.is_in_range.ensures.found b.note shown))

pub returns-clause-steps : goal.returns-clause-steps
returns-clause-steps c = let s = c.requires.shown in let lo = s.1.is_base.some_row in let hi =
    s.1.is_base.in_range in
    let z = c.args.space.now.table.shared.key in let m = c.args.pass.now.seat.me in let row =
    c.in-Some.sibling in let b = c.in-Some.ensures.seen in
    let still = c.items_of.ensures.frame.still ∙ c.items_of-many.ensures.frame.still in
    let shown = subst (λ (x : MyTree). IsBaseShown z x.0.upper row b.note) (sym still)
    (led_shown z row m c.load_base.new.pass.seat.me b c.requires.reading.own.1 (omega arith)) in
    steps_both z m.0.upper c.items_of.new.pass.seat.me.0.upper
    c.is_in_range.new.pass.seat.me.0.upper
    (subst (λ (x : MyTree). IsJoinSteps z m.0.upper x.0.upper) (sym still)
    (led_steps z row m c.load_base.new.pass.seat.me b c.requires.reading.own.1 (omega arith)))
    (looked_steps z c.is_in_range.result b.note c.items_of.new.pass.seat.me
    c.is_in_range.new.pass.seat.me (c.is_in_range.ensures.found b.note shown))

pub returns-then-is_in_range-clause-looked : goal.returns-then-is_in_range-clause-looked
returns-then-is_in_range-clause-looked c note s = let lo = s.is_base.some_row in let hi =
    s.is_base.in_range in
    let z = c.args.space.now.table.shared.key in let m = c.args.pass.now.seat.me in let row =
    c.in-Some.sibling in
    let still = c.items_of.ensures.frame.still ∙ c.items_of-many.ensures.frame.still in
    let b = subst (λ (x : Link × MyTree). IsLedToBase false (link_word x.0) m row x.1)
    (λ i. (c.requires.fork.1 i, sym still i)) c.in-Some.ensures.seen in
    let shown = led_shown z row m c.items_of.new.pass.seat.me b c.requires.reading.own.1
    (omega arith) in
    let more = c.items_of.ensures.count b.note
    (subst (λ (x : MyTree). IsBaseShown z x.0.upper row b.note)
    c.items_of.ensures.frame.still shown) in
    let many = c.items_of-many.ensures.count note
    (led_still z row m c.load_base.new.pass.seat.me c.in-Some.ensures.seen
    c.args.cursor.base note s) in
    let leaf = c.requires.leaf.0 in let over = c.if-many-items_of.false in
    taken z c.args.cursor.link note row m c.items_of.new.pass.seat.me c.is_in_range.new.pass.seat.me
    b (omega arith) shown.is_base c.requires.fork.0
    (c.if-is_in_range.ensures.found b.note shown)

pub returns-clause-looked : goal.returns-clause-looked
returns-clause-looked c note s = let lo = s.is_base.some_row in let hi = s.is_base.in_range in
    let z = c.args.space.now.table.shared.key in let m = c.args.pass.now.seat.me in let row =
    c.in-Some.sibling in
    let still = c.items_of.ensures.frame.still ∙ c.items_of-many.ensures.frame.still in
    let b = subst (λ (x : Link × MyTree). IsLedToBase false (link_word x.0) m row x.1)
    (λ i. (c.requires.fork.1 i, sym still i)) c.in-Some.ensures.seen in
    let shown = led_shown z row m c.items_of.new.pass.seat.me b c.requires.reading.own.1
    (omega arith) in
    let more = c.items_of.ensures.count b.note
    (subst (λ (x : MyTree). IsBaseShown z x.0.upper row b.note)
    c.items_of.ensures.frame.still shown) in
    let many = c.items_of-many.ensures.count note
    (led_still z row m c.load_base.new.pass.seat.me c.in-Some.ensures.seen
    c.args.cursor.base note s) in
    let leaf = c.requires.leaf.0 in let over = c.if-many-items_of.false in
    finds z c.args.cursor.link note row m c.items_of.new.pass.seat.me c.is_in_range.new.pass.seat.me
    b (omega arith) shown.is_base
    (c.if-is_in_range.ensures.found b.note shown)

pub returns-then-many-items_of-clause-looks : goal.returns-then-many-items_of-clause-looks
returns-then-many-items_of-clause-looks c = subst
    (λ (x : MyTree). OnlyLooks c.args.pass.now.seat.me x)
    (sym (c.items_of.ensures.frame.still ∙ c.items_of-many.ensures.frame.still))
    (looks_seen (link_word c.args.fork.other) (Some c.in-Some.sibling) c.args.pass.now.seat.me
    c.load_base.new.pass.seat.me c.in-Some.ensures.seen)

pub returns-then-is_in_range-clause-looks : goal.returns-then-is_in_range-clause-looks
returns-then-is_in_range-clause-looks c = let s = c.requires.shown in let lo =
    s.1.is_base.some_row in let hi = s.1.is_base.in_range in
    let z = c.args.space.now.table.shared.key in let m = c.args.pass.now.seat.me in let row =
    c.in-Some.sibling in let b = c.in-Some.ensures.seen in
    let still = c.items_of.ensures.frame.still ∙ c.items_of-many.ensures.frame.still in
    let shown = subst (λ (x : MyTree). IsBaseShown z x.0.upper row b.note) (sym still)
    (led_shown z row m c.load_base.new.pass.seat.me b c.requires.reading.own.1 (omega arith)) in
    looks_both m c.items_of.new.pass.seat.me c.is_in_range.new.pass.seat.me
    (subst (λ (x : MyTree). OnlyLooks m x) (sym still)
    (looks_seen (link_word c.args.fork.other) (Some row) m c.load_base.new.pass.seat.me b))
    (looks_found c.is_in_range.result b.note c.items_of.new.pass.seat.me
    c.is_in_range.new.pass.seat.me (c.is_in_range.ensures.found b.note shown))

pub returns-clause-looks : goal.returns-clause-looks
returns-clause-looks c = let s = c.requires.shown in let lo = s.1.is_base.some_row in let hi =
    s.1.is_base.in_range in
    let z = c.args.space.now.table.shared.key in let m = c.args.pass.now.seat.me in let row =
    c.in-Some.sibling in let b = c.in-Some.ensures.seen in
    let still = c.items_of.ensures.frame.still ∙ c.items_of-many.ensures.frame.still in
    let shown = subst (λ (x : MyTree). IsBaseShown z x.0.upper row b.note) (sym still)
    (led_shown z row m c.load_base.new.pass.seat.me b c.requires.reading.own.1 (omega arith)) in
    looks_both m c.items_of.new.pass.seat.me c.is_in_range.new.pass.seat.me
    (subst (λ (x : MyTree). OnlyLooks m x) (sym still)
    (looks_seen (link_word c.args.fork.other) (Some row) m c.load_base.new.pass.seat.me b))
    (looks_found c.is_in_range.result b.note c.items_of.new.pass.seat.me
    c.is_in_range.new.pass.seat.me (c.is_in_range.ensures.found b.note shown))
