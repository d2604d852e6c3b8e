use Rattle.std.proofs.Common.{[], refl}
use Rattle.ca_adapt.proofs.Securing.{inside_by, remembered_by}
use Rattle.ca_node.specs.JoinSteps.{attempt_of}
use Rattle.ca_replace.proofs.Between.{may_first}
use Rattle.ca_replace.proofs.DueJoins.{hung_under}
use Rattle.ca_join_tests.proofs.Found.{hung_then, none_secured, ready_then, secured_then}
use Rattle.ca_join_tests.proofs.meeting.finish.Goals as goal

pub load_join-requires-clause-inside : goal.load_join-requires-clause-inside
load_join-requires-clause-inside c = let z = c.args.space.now.table.shared.key in let u = c.walk-cursor.new.pass.seat.me.0.upper in
    let cursor = c.walk-cursor.result in
    inside_by z u c.in-Some.fork.route c.in-Some.fork.above
    (c.in-Some.ensures z u (hung_under z u cursor.link cursor.above c.walk-cursor.ensures.walked.cursor_is.above)).3

pub load_join-requires-clause-remembered : goal.load_join-requires-clause-remembered
load_join-requires-clause-remembered c = let z = c.args.space.now.table.shared.key in let u = c.walk-cursor.new.pass.seat.me.0.upper in
    let cursor = c.walk-cursor.result in
    remembered_by z u c.in-Some.fork.route c.in-Some.fork.above
    (c.in-Some.ensures z u (hung_under z u cursor.link cursor.above c.walk-cursor.ensures.walked.cursor_is.above)).3

pub finish_join-finish-requires-clause-ready : goal.finish_join-finish-requires-clause-ready
finish_join-finish-requires-clause-ready c = let space = c.args.space.now in let z = space.table.shared.key in let p = c.pin.new.pass in
    let f = c.pin.ensures.frame in let by = c.pin.ensures.pinned in let n = c.walk-cursor.new.pass in let u = n.seat.me.0.upper in
    let cursor = c.walk-cursor.result in let w = c.walk-cursor.ensures.walked in let l = c.load_join.ensures.loaded in let fork = c.in-Some.fork in
    ready_then space p n c.load_join.new.pass _ cursor
    (may_first space c.args.pass.now p [] by.0 by.1 c.requires.rests f.same f.number f.kept f.tally by.3) c.walk-cursor.ensures.frame w fork.route fork.above
    (c.in-Some.ensures z u (hung_under z u cursor.link cursor.above w.cursor_is.above)).3 c.load_join.ensures.frame l.0 l.2

pub finish_join-finish-requires-clause-secured : goal.finish_join-finish-requires-clause-secured
finish_join-finish-requires-clause-secured c = let space = c.args.space.now in let z = space.table.shared.key in let p = c.pin.new.pass in
    let f = c.pin.ensures.frame in let by = c.pin.ensures.pinned in let n = c.walk-cursor.new.pass in let u = n.seat.me.0.upper in
    let cursor = c.walk-cursor.result in let w = c.walk-cursor.ensures.walked in let l = c.load_join.ensures.loaded in let fork = c.in-Some.fork in
    secured_then space p n c.load_join.new.pass _ cursor
    (may_first space c.args.pass.now p [] by.0 by.1 c.requires.rests f.same f.number f.kept f.tally by.3) c.walk-cursor.ensures.frame w fork.route fork.above
    (c.in-Some.ensures z u (hung_under z u cursor.link cursor.above w.cursor_is.above)).3 c.load_join.ensures.frame l.0 l.2 c.in-Some-secured_in.number
    (c.in-Some-secured_in.ensures l.0 l.1 c.in-Some-secured_in.number refl)

pub finish_join-finish-requires-clause-above : goal.finish_join-finish-requires-clause-above
finish_join-finish-requires-clause-above c = let space = c.args.space.now in let z = space.table.shared.key in let p = c.pin.new.pass in
    let f = c.pin.ensures.frame in let by = c.pin.ensures.pinned in let n = c.walk-cursor.new.pass in let u = n.seat.me.0.upper in
    let cursor = c.walk-cursor.result in let w = c.walk-cursor.ensures.walked in let l = c.load_join.ensures.loaded in let fork = c.in-Some.fork in
    hung_then space p n c.load_join.new.pass _ cursor
    (may_first space c.args.pass.now p [] by.0 by.1 c.requires.rests f.same f.number f.kept f.tally by.3) c.walk-cursor.ensures.frame w fork.route fork.above
    (c.in-Some.ensures z u (hung_under z u cursor.link cursor.above w.cursor_is.above)).3 c.load_join.ensures.frame l.0 l.2

pub finish_join-finish-requires-clause-other : goal.finish_join-finish-requires-clause-other
finish_join-finish-requires-clause-other c = let space = c.args.space.now in let z = space.table.shared.key in let p = c.pin.new.pass in
    let f = c.pin.ensures.frame in let by = c.pin.ensures.pinned in let n = c.walk-cursor.new.pass in let u = n.seat.me.0.upper in
    let cursor = c.walk-cursor.result in let w = c.walk-cursor.ensures.walked in let l = c.load_join.ensures.loaded in let fork = c.in-Some.fork in
    none_secured space p n c.load_join.new.pass _ cursor
    (may_first space c.args.pass.now p [] by.0 by.1 c.requires.rests f.same f.number f.kept f.tally by.3) c.walk-cursor.ensures.frame w fork.route fork.above
    (c.in-Some.ensures z u (hung_under z u cursor.link cursor.above w.cursor_is.above)).3 c.load_join.ensures.frame l.0 l.2
    (attempt_of fork.route c.in-Some-secured_in.number)
