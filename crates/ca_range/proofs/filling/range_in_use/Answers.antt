use Rattle.std.proofs.Common.{◌≡◌, true, false, sym, ap, ◌∙◌}
use Rattle.ca_node.specs.LoneStays.{none_by_quiet}
use Rattle.ca_node.specs.Told.{MyTree}
use Rattle.ca_range.proofs.JoinsFinished.{finished_read}
use Rattle.ca_range.proofs.Used.{found_free, found_over, found_used}
use Rattle.ca_range.proofs.Watched.{is_active}
use Rattle.ca_range.proofs.filling.range_in_use.Goals as goal

pub returns-in-Unmarked-clause-in_use : goal.returns-in-Unmarked-clause-in_use
returns-in-Unmarked-clause-in_use c = found_free c.args.space.now c.args.pass.now c.range_of.new.pass c.end_join.new.pass c.range_of.ensures.frame
    c.args.cursor.base false c.in-Unmarked.ensures.ended c.in_default.ensures.range

pub returns-in-Before-clause-in_use : goal.returns-in-Before-clause-in_use
returns-in-Before-clause-in_use c = found_free c.args.space.now c.args.pass.now c.range_of.new.pass c.end_join.new.pass c.range_of.ensures.frame
    c.args.cursor.base false c.in-Before.ensures.ended c.in_default.ensures.range

pub returns-in-Now-clause-in_use : goal.returns-in-Now-clause-in_use
returns-in-Now-clause-in_use c = found_free c.args.space.now c.args.pass.now c.range_of.new.pass c.end_join.new.pass c.range_of.ensures.frame
    c.args.cursor.base true c.in-Now.ensures.ended c.in_default.ensures.range

pub returns-in-Gone-clause-in_use : goal.returns-in-Gone-clause-in_use
returns-in-Gone-clause-in_use c = finished_read c.args.space.now c.in-Gone.helped c.args.pass.now c.range_of.new.pass c.end_join.new.pass
    c.range_of.ensures.frame c.in-Gone.ensures.ended

pub returns-then-not-is_active-clause-in_use : goal.returns-then-not-is_active-clause-in_use
returns-then-not-is_active-clause-in_use c = let w = c.watch-state.ensures.watched in
    found_over c.args.space.now c.args.pass.now c.range_of.new.pass c.watch-state.new.pass c.range_of.ensures.frame c.in-Some.range w.0
    c.watch-state.ensures.frame w.2 c.args.cursor.base (λ note s. (c.in-Some.ensures.range note s).0)
    (λ on. let no : false ≡ true = sym c.if-not-is_active.true ∙ (c.is_active.ensures.active w.0 w.1).1 on in cc)

pub returns-clause-in_use : goal.returns-clause-in_use
returns-clause-in_use c = let w = c.watch-state.ensures.watched in let on = (c.is_active.ensures.active w.0 w.1).0 c.if-not-is_active.false in
    let quiet = ap (λ (x : MyTree). x.0.upper.ranges.own) c.range_of.ensures.frame.still ∙ c.requires.quiet in
    found_used c.args.space.now c.args.pass.now c.range_of.new.pass c.watch-state.new.pass c.range_of.ensures.frame c.in-Some.range w.0
    c.watch-state.ensures.frame w.2 c.args.cursor.base c.in-Some.ensures.range on
    (λ own. w.2.own (is_active w.0 c.in-Some.range.number on).0 own quiet)

pub end_join-requires-clause-other : goal.end_join-requires-clause-other
end_join-requires-clause-other c = none_by_quiet c.range_of.new.pass.seat.me.0.upper.ranges.own
    (ap (λ (x : MyTree). x.0.upper.ranges.own) c.range_of.ensures.frame.still ∙ c.requires.quiet)
