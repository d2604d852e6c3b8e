use Rattle.std.proofs.Common.{true, Bool, ◌+◌, ◌*◌, sym, subst}
use Rattle.ca_node.specs.Row.{route_key}
use Rattle.ca_node.specs.Told.{MyTree, IsAnyLink, IsLed}
use Rattle.ca_node.specs.Walking.{IsSide}
use Rattle.ca_node.proofs.Walks.{route_shown, left_any, right_any, goes_left_on, goes_right_on}
use Rattle.ca_node.proofs.cursor.go_down.Goals as goal
use Rattle.ca_rows.specs.Layout.{row_words}

pub descend-requires-clause-known : goal.descend-requires-clause-known
descend-requires-clause-known c = subst
    (λ (m : MyTree). IsAnyLink m.0.upper (row_words * c.args.cursor.base + 1))
    (sym c.goes_left.ensures.frame.still)
    (left_any c.args.space.now.table.shared.key c.args.spot c.requires.at.0 c.args.cursor
    c.args.pass.now.seat.me c.requires.at.1)

pub descend-requires-else-goes_left-clause-known : goal.descend-requires-else-goes_left-clause-known
descend-requires-else-goes_left-clause-known c =
    subst (λ (m : MyTree). IsAnyLink m.0.upper (row_words * c.args.cursor.base + 2))
    (sym c.goes_left.ensures.frame.still)
    (right_any c.args.space.now.table.shared.key c.args.spot c.requires.at.0 c.args.cursor
    c.args.pass.now.seat.me c.requires.at.1)

pub returns-then-goes_left-clause-walking : goal.returns-then-goes_left-clause-walking
returns-then-goes_left-clause-walking c m at =
    goes_left_on c.args.space.now.table.shared.key c.args.spot m c.args.cursor
    c.args.pass.now.seat.me at c.descend.new.pass.seat.me c.descend.result
    c.args.space.now.few.0 c.requires.reading.own.1
    (subst (λ (b : Bool). IsSide b c.args.spot (route_key at.way.its)) c.if-goes_left.true
    (c.goes_left.ensures.side at.way.its
    (route_shown c.args.space.now.table.shared.key c.args.spot m c.args.cursor
    c.args.pass.now.seat.me at)))
    (subst (λ (x : MyTree).
    IsLed true (row_words * c.args.cursor.base + 1) x c.descend.result c.descend.new.pass.seat.me)
    c.goes_left.ensures.frame.still
    c.descend.ensures.led)

pub returns-else-goes_left-clause-walking : goal.returns-else-goes_left-clause-walking
returns-else-goes_left-clause-walking c m at =
    goes_right_on c.args.space.now.table.shared.key c.args.spot m c.args.cursor
    c.args.pass.now.seat.me at c.descend-else-goes_left.new.pass.seat.me
    c.descend-else-goes_left.result c.args.space.now.few.0 c.requires.reading.own.1
    (subst (λ (b : Bool). IsSide b c.args.spot (route_key at.way.its)) c.if-goes_left.false
    (c.goes_left.ensures.side at.way.its
    (route_shown c.args.space.now.table.shared.key c.args.spot m c.args.cursor
    c.args.pass.now.seat.me at)))
    (subst (λ (x : MyTree).
    IsLed true (row_words * c.args.cursor.base + 2) x c.descend-else-goes_left.result
    c.descend-else-goes_left.new.pass.seat.me)
    c.goes_left.ensures.frame.still c.descend-else-goes_left.ensures.led)
