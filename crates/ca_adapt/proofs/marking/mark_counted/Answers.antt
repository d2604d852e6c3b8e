use Rattle.std.proofs.Common.{Ok, Err, arith}
use Rattle.ca_node.specs.Told.{link_word}
use Rattle.ca_adapt.specs.Joins.{last_on}
use Rattle.ca_adapt.proofs.MarkedPairs.{marked_one, tried_lost, tried_passed}
use Rattle.ca_adapt.proofs.LoneTries.{lone_marked, lone_unmarked}
use Rattle.ca_adapt.proofs.marking.mark_counted.Goals as goal

pub returns-in-Ok-clause-marked : goal.returns-in-Ok-clause-marked
returns-in-Ok-clause-marked c = marked_one c.args.space.now.table.shared.key
    (last_on (link_word c.args.cursor.link) c.args.pass.now.seat.me.0.upper.notes)
    c.args.attempt (Ok c.in-Ok.row) c.args.pass.now.seat.me.0.upper
    c.mark_for.new.pass.seat.me.0.upper c.in-Ok.ensures.marked

pub returns-in-Err-clause-marked : goal.returns-in-Err-clause-marked
returns-in-Err-clause-marked c = marked_one c.args.space.now.table.shared.key
    (last_on (link_word c.args.cursor.link) c.args.pass.now.seat.me.0.upper.notes)
    c.args.attempt (Err c.in-Err.why) c.args.pass.now.seat.me.0.upper
    c.mark_for.new.pass.seat.me.0.upper c.in-Err.ensures.marked

pub returns-in-Ok-clause-counted : goal.returns-in-Ok-clause-counted
returns-in-Ok-clause-counted c = let one = marked_one c.args.space.now.table.shared.key
    (last_on (link_word c.args.cursor.link) c.args.pass.now.seat.me.0.upper.notes)
    c.args.attempt (Ok c.in-Ok.row) c.args.pass.now.seat.me.0.upper
    c.mark_for.new.pass.seat.me.0.upper c.in-Ok.ensures.marked in
    tried_passed c.args.spent.now c.mark_for.new.spent c.saturating_add-spent.result
    c.args.pass.now.seat.me c.mark_for.new.pass.seat.me
    c.mark_for.ensures.counted
    one.0.passed (omega (arith, c.saturating_add-spent.ensures))

pub returns-in-Err-clause-counted : goal.returns-in-Err-clause-counted
returns-in-Err-clause-counted c = let none = marked_one c.args.space.now.table.shared.key
    (last_on (link_word c.args.cursor.link) c.args.pass.now.seat.me.0.upper.notes)
    c.args.attempt (Err c.in-Err.why) c.args.pass.now.seat.me.0.upper
    c.mark_for.new.pass.seat.me.0.upper c.in-Err.ensures.marked in
    let same = none.passed in
    tried_lost c.args.spent.now c.mark_for.new.spent c.args.pass.now.seat.me
    c.mark_for.new.pass.seat.me c.mark_for.ensures.counted (omega arith)

pub returns-in-Ok-clause-alone : goal.returns-in-Ok-clause-alone
returns-in-Ok-clause-alone c alone there = lone_marked c.args.space.now.table.shared.key
    (last_on (link_word c.args.cursor.link) c.args.pass.now.seat.me.0.upper.notes) c.args.attempt
    c.in-Ok.row c.args.pass.now.seat.me.0.upper
    c.mark_for.new.pass.seat.me.0.upper there c.in-Ok.ensures.marked

pub returns-in-Err-clause-alone : goal.returns-in-Err-clause-alone
returns-in-Err-clause-alone c alone there = lone_unmarked
    (last_on (link_word c.args.cursor.link) c.args.pass.now.seat.me.0.upper.notes) c.in-Err.why
    c.args.pass.now.seat.me.0.upper c.mark_for.new.pass.seat.me.0.upper
    (c.in-Err.ensures.won alone there) c.in-Err.ensures.marked
