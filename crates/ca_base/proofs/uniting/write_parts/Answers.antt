use Rattle.std.proofs.Common.{◌≡◌, ◌+◌, ℕ, List, length, get_or, ◌∙◌, subst, arith}
use Rattle.ca_node.specs.Layout.{items_word}
use Rattle.ca_base.specs.Joined.{words_in}
use Rattle.ca_base.specs.Writing.{HasFilled, IsHeadWord}
use Rattle.ca_base.proofs.HeldStill.{filled_holds}
use Rattle.ca_base.proofs.Parts.{part_long, part_run, parts_written}
use Rattle.ca_base.proofs.uniting.write_parts.Goals as goal

pub copy_items-requires-clause-row : goal.copy_items-requires-clause-row
copy_items-requires-clause-row c = filled_holds c.args.space.now c.args.pass.now c.write_head.new.pass c.args.row _ _ _ c.write_head.ensures.frame.same
    c.write_head.ensures.filled c.requires.row

pub copy_items-requires-clause-shown : goal.copy_items-requires-clause-shown
copy_items-requires-clause-shown c = let s = c.requires.shown in (
  s.0,
  part_run c.args.space.now.table.shared.key c.args.pass.now.seat.me.0.upper c.write_head.new.pass.seat.me.0.upper c.args.first s.0
      c.write_head.ensures.frame.same.4 s.2,
)

pub copy_items-requires-2-clause-row : goal.copy_items-requires-2-clause-row
copy_items-requires-2-clause-row c = let s = c.requires.shown in
    filled_holds c.args.space.now c.write_head.new.pass c.copy_items.new.pass c.args.row _ _ _ c.copy_items.ensures.frame.same
    (c.copy_items.ensures.filled s.0 (part_run c.args.space.now.table.shared.key c.args.pass.now.seat.me.0.upper c.write_head.new.pass.seat.me.0.upper
    c.args.first s.0 c.write_head.ensures.frame.same.4 s.2))
    (filled_holds c.args.space.now c.args.pass.now c.write_head.new.pass c.args.row _ _ _ c.write_head.ensures.frame.same c.write_head.ensures.filled
    c.requires.row)

pub copy_items-requires-2-clause-shown : goal.copy_items-requires-2-clause-shown
copy_items-requires-2-clause-shown c = let s = c.requires.shown in (
  s.1,
  part_run c.args.space.now.table.shared.key c.args.pass.now.seat.me.0.upper c.copy_items.new.pass.seat.me.0.upper c.args.second s.1
      (c.copy_items.ensures.frame.same.4 ∙ c.write_head.ensures.frame.same.4) s.3,
)

pub returns-clause-written : goal.returns-clause-written
returns-clause-written c a b x y = let z = c.args.space.now.table.shared.key in let u = c.args.pass.now.seat.me.0.upper in
    let m = c.args.pass.now.seat.me in let m1 = c.write_head.new.pass.seat.me in let m2 = c.copy_items.new.pass.seat.me in
    let m3 = c.copy_items-2.new.pass.seat.me in
    let xs : List ℕ = words_in c.args.first a in let ys : List ℕ = words_in c.args.second b in
    let many : c.args.first.many ≡ length xs = part_long z u c.args.first a x in
    let more : c.args.second.many ≡ length ys = part_long z u c.args.second b y in
    let few = c.requires.few in
    parts_written xs ys c.args.front.now.prefix.now c.args.row c.args.front.now.level c.args.front.now.statistic m m1 m2 m3 c.requires.row.held.1
    (omega arith) c.requires.short (omega arith)
    (subst (λ (n : ℕ). HasFilled c.args.row 0 11 (IsHeadWord c.args.front.now.prefix.now c.args.front.now.level n c.args.front.now.statistic) m m1)
    (λ i. many i + more i) c.write_head.ensures.filled)
    (subst (λ (n : ℕ). HasFilled c.args.row (items_word + 0) n (λ k word. word ≡ get_or xs (0 + k) 0) m1 m2) many
    (c.copy_items.ensures.filled a (part_run z u m1.0.upper c.args.first a c.write_head.ensures.frame.same.4 x)))
    (subst (λ (n : ℕ × ℕ). HasFilled c.args.row (items_word + n.0) n.1 (λ k word. word ≡ get_or ys (0 + k) 0) m2 m3) (λ i. (many i, more i))
    (c.copy_items-2.ensures.filled b (part_run z u m2.0.upper c.args.second b
    (c.copy_items.ensures.frame.same.4 ∙ c.write_head.ensures.frame.same.4) y)))
