use Rattle.std.proofs.Common.{◌≡◌, true, false, sym, ap, ◌∙◌}
use Rattle.ca_node.specs.Told.{MyTree}
use Rattle.ca_range.proofs.JoinsEnded.{none_still}
use Rattle.ca_range.proofs.JoinsFinished.{finished_read}
use Rattle.ca_range.proofs.Used.{found_free, found_over, found_own, found_used}
use Rattle.ca_range.proofs.using.use_of.Goals as goal

pub returns-in-Unmarked-clause-used : goal.returns-in-Unmarked-clause-used
returns-in-Unmarked-clause-used c = found_free c.args.space.now c.args.pass.now c.range_of.new.pass c.end_join.new.pass c.range_of.ensures.frame
    c.args.cursor.base false c.in-Unmarked.ensures.ended c.in_default.ensures.range

pub returns-in-Before-clause-used : goal.returns-in-Before-clause-used
returns-in-Before-clause-used c = found_free c.args.space.now c.args.pass.now c.range_of.new.pass c.end_join.new.pass c.range_of.ensures.frame
    c.args.cursor.base false c.in-Before.ensures.ended c.in_default.ensures.range

pub returns-in-Now-clause-used : goal.returns-in-Now-clause-used
returns-in-Now-clause-used c = found_free c.args.space.now c.args.pass.now c.range_of.new.pass c.end_join.new.pass c.range_of.ensures.frame
    c.args.cursor.base true c.in-Now.ensures.ended c.in_default.ensures.range

pub returns-in-Gone-clause-used : goal.returns-in-Gone-clause-used
returns-in-Gone-clause-used c = finished_read c.args.space.now c.in-Gone.helped c.args.pass.now c.range_of.new.pass c.end_join.new.pass
    c.range_of.ensures.frame c.in-Gone.ensures.ended

pub returns-then-not-is_active-clause-used : goal.returns-then-not-is_active-clause-used
returns-then-not-is_active-clause-used c = let w = c.watch-state.ensures.watched in
    found_over c.args.space.now c.args.pass.now c.range_of.new.pass c.watch-state.new.pass c.range_of.ensures.frame c.in-Some.range w.0
    c.watch-state.ensures.frame w.2 c.args.cursor.base (λ note s. (c.in-Some.ensures.range note s).0)
    (λ on. let no : false ≡ true = sym c.if-not-is_active.true ∙ (c.is_active.ensures.active w.0 w.1).1 on in cc)

pub returns-then-range-number-clause-used : goal.returns-then-range-number-clause-used
returns-then-range-number-clause-used c = let w = c.watch-state.ensures.watched in
    let on = (c.is_active.ensures.active w.0 w.1).0 c.if-not-is_active.false in
    let is = sym c.requires.number ∙ sym (c.number.ensures ∙ (c.watch-state.ensures.frame.number ∙ c.range_of.ensures.frame.number)) in
    found_own c.args.space.now c.args.pass.now c.range_of.new.pass c.watch-state.new.pass c.range_of.ensures.frame c.in-Some.range w.0
    c.watch-state.ensures.frame w.2 c.args.cursor.base (λ note s. (c.in-Some.ensures.range note s).0) on
    (c.if-range-number.true ∙ sym (ap (λ (x : MyTree). x.0.upper.number) c.range_of.ensures.frame.still ∙ is))

pub returns-else-range-number-clause-used : goal.returns-else-range-number-clause-used
returns-else-range-number-clause-used c = let w = c.watch-state.ensures.watched in let on = (c.is_active.ensures.active w.0 w.1).0 c.if-not-is_active.false in
    let is = sym c.requires.number ∙ sym (c.number.ensures ∙ (c.watch-state.ensures.frame.number ∙ c.range_of.ensures.frame.number)) in
    found_used c.args.space.now c.args.pass.now c.range_of.new.pass c.watch-state.new.pass c.range_of.ensures.frame c.in-Some.range w.0
    c.watch-state.ensures.frame w.2 c.args.cursor.base c.in-Some.ensures.range on
    (λ own. c.if-range-number.false (own ∙ (ap (λ (x : MyTree). x.0.upper.number) c.range_of.ensures.frame.still ∙ is)))

pub end_join-requires-clause-other : goal.end_join-requires-clause-other
end_join-requires-clause-other c = none_still c.args.pass.now.seat.me.0.upper.ranges.own c.range_of.new.pass.seat.me.0.upper.ranges.own
    (ap (λ (x : MyTree). x.0.upper.ranges.own) c.range_of.ensures.frame.still) c.requires.other
