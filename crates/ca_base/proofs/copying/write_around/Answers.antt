use Rattle.std.proofs.Common.{◌≡◌, ℕ, ◌+◌, ◌-◌, List, length, get_or, sym, ap, subst, ◌∙◌, arith}
use Rattle.std.proofs.lemmas.List.{length-map}
use Rattle.ca_base.specs.Prefixes.{reheaded}
use Rattle.ca_base.specs.declared.copying.Run.{Run}
use Rattle.ca_base.specs.Putting.{first_note, last_words}
use Rattle.ca_base.specs.Writing.{HasFilled}
use Rattle.ca_base.proofs.HeldStill.{filled_holds}
use Rattle.ca_base.proofs.LastItems.{around_written, run_then}
use Rattle.ca_base.proofs.copying.write_around.Goals as goal
use Rattle.ca_node.specs.Layout.{items_word}

pub copy_items-requires-clause-shown : goal.copy_items-requires-clause-shown
copy_items-requires-clause-shown c = let u = c.args.pass.now.seat.me.0.upper in let m = c.requires.shown.1.0 in (
  first_note u.notes,
  run_then c.args.space.now.table.shared.key u c.write_head.new.pass.seat.me.0.upper
      (record { base = c.args.target.now.cursor.base; from = 0; count = c.args.around.now.before }) c.requires.shown.0 (omega arith)
      c.write_head.ensures.frame.same.4,
)

pub write_items-requires-clause-row : goal.write_items-requires-clause-row
write_items-requires-clause-row c = let u = c.args.pass.now.seat.me.0.upper in let m = c.requires.shown.1.0 in let z = c.args.space.now.table.shared.key in
    let run : Run = record { base = c.args.target.now.cursor.base; from = 0; count = c.args.around.now.before } in
    let before = filled_holds c.args.space.now c.args.pass.now c.write_head.new.pass c.args.row _ _ _ c.write_head.ensures.frame.same
    c.write_head.ensures.filled c.requires.row in
    let then = filled_holds c.args.space.now c.write_head.new.pass c.copy_items.new.pass c.args.row _ _ _ c.copy_items.ensures.frame.same
    (c.copy_items.ensures.filled (first_note u.notes)
    (run_then z u c.write_head.new.pass.seat.me.0.upper run c.requires.shown.0 (omega arith) c.write_head.ensures.frame.same.4)) before in
    record { own = then.reading.own; held = then.held }

pub copy_items-requires-2-clause-row : goal.copy_items-requires-2-clause-row
copy_items-requires-2-clause-row c = let u = c.args.pass.now.seat.me.0.upper in let m = c.requires.shown.1.0 in let z = c.args.space.now.table.shared.key in
    let run : Run = record { base = c.args.target.now.cursor.base; from = 0; count = c.args.around.now.before } in
    let before = filled_holds c.args.space.now c.args.pass.now c.write_head.new.pass c.args.row _ _ _ c.write_head.ensures.frame.same
    c.write_head.ensures.filled c.requires.row in
    let then = filled_holds c.args.space.now c.write_head.new.pass c.copy_items.new.pass c.args.row _ _ _ c.copy_items.ensures.frame.same
    (c.copy_items.ensures.filled (first_note u.notes)
    (run_then z u c.write_head.new.pass.seat.me.0.upper run c.requires.shown.0 (omega arith) c.write_head.ensures.frame.same.4)) before in
    filled_holds c.args.space.now c.copy_items.new.pass c.write_items.new.pass c.args.row _ _ _ c.write_items.ensures.frame.same
    c.write_items.ensures.filled then

pub copy_items-requires-2-clause-shown : goal.copy_items-requires-2-clause-shown
copy_items-requires-2-clause-shown c = let u = c.args.pass.now.seat.me.0.upper in let m = c.requires.shown.1.0 in (
  first_note u.notes,
  run_then c.args.space.now.table.shared.key u c.write_items.new.pass.seat.me.0.upper (record {
    base = c.args.target.now.cursor.base;
    from = c.args.around.now.behind;
    count = c.args.target.now.many - c.args.around.now.behind;
  }) c.requires.shown.0 (omega arith)
      (c.write_items.ensures.frame.same.4 ∙ (c.copy_items.ensures.frame.same.4 ∙ c.write_head.ensures.frame.same.4)),
)

pub returns-clause-written : goal.returns-clause-written
returns-clause-written c words is = let u = c.args.pass.now.seat.me.0.upper in
    let m = c.requires.shown.1.0 in let shift = c.args.around.now.trimmed.shift in
    let one = c.write_head.ensures.frame.same in let two = c.copy_items.ensures.frame.same in
    let three = c.write_items.ensures.frame.same in let z = c.args.space.now.table.shared.key in
    let base = c.args.target.now.cursor.base in
    let first : Run = record { base = base; from = 0; count = c.args.around.now.before } in
    let last : Run = record { base = base; from = c.args.around.now.behind; count = c.args.target.now.many - c.args.around.now.behind } in
    let long : length words ≡ length (last_words u) = ap (λ (xs : List ℕ). length xs) is
    ∙ length-map (last_words u) (reheaded shift.lead shift.bytes) in
    let rest : c.args.target.now.many - c.args.around.now.behind
    ≡ length words - c.args.around.now.behind = omega arith in
    around_written words c.args.around.now.these.now c.args.around.now.before
    c.args.around.now.behind (omega arith) (omega arith) c.args.row
    c.args.target.now.cursor.level _ c.args.target.now.statistic c.args.around.now.trimmed.prefix.now
    c.args.pass.now.seat.me c.write_head.new.pass.seat.me c.copy_items.new.pass.seat.me
    c.write_items.new.pass.seat.me c.copy_items-2.new.pass.seat.me
    c.requires.row.held.1 (omega arith) c.requires.prefix.0 (omega arith) (omega arith)
    c.write_head.ensures.filled
    (subst (λ (xs : List ℕ). HasFilled c.args.row (items_word + 0) c.args.around.now.before
    (λ k word. word ≡ get_or xs (0 + k) 0) c.write_head.new.pass.seat.me
    c.copy_items.new.pass.seat.me)
    (sym is)
    (c.copy_items.ensures.filled (first_note u.notes) (run_then z u c.write_head.new.pass.seat.me.0.upper first c.requires.shown.0 (omega arith) one.4)))
    c.write_items.ensures.filled
    (subst (λ n.
    HasFilled c.args.row (items_word + (c.args.around.now.before + length c.args.around.now.these.now))
    n (λ k word. word ≡ get_or words (c.args.around.now.behind + k) 0)
    c.write_items.new.pass.seat.me c.copy_items-2.new.pass.seat.me) rest
    (subst (λ (xs : List ℕ).
    HasFilled c.args.row (items_word + (c.args.around.now.before + length c.args.around.now.these.now))
    (c.args.target.now.many - c.args.around.now.behind)
    (λ k word. word ≡ get_or xs (c.args.around.now.behind + k) 0)
    c.write_items.new.pass.seat.me c.copy_items-2.new.pass.seat.me)
    (sym is)
    (c.copy_items-2.ensures.filled (first_note u.notes) (run_then z u c.write_items.new.pass.seat.me.0.upper last c.requires.shown.0 (omega arith)
    (three.4 ∙ (two.4 ∙ one.4))))))
