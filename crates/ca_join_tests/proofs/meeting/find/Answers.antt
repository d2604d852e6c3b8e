use Rattle.std.proofs.Common.{◌≡◌, [], refl, subst}
use Rattle.ca_adapt.specs.declared.joining.Attempt.{Attempt}
use Rattle.ca_adapt.proofs.Securing.{inside_by, remembered_by}
use Rattle.ca_replace.proofs.Between.{may_first}
use Rattle.ca_replace.proofs.DueJoins.{hung_under}
use Rattle.ca_join_tests.specs.Stopping.{HasFound}
use Rattle.ca_join_tests.proofs.Found.{found_then}
use Rattle.ca_join_tests.proofs.meeting.find.Goals as goal

pub load_join-requires-clause-inside : goal.load_join-requires-clause-inside
load_join-requires-clause-inside c = let z = c.args.space.now.table.shared.key in let u = c.walk-cursor.new.pass.seat.me.0.upper in
    let cursor = c.walk-cursor.result in
    inside_by z u c.in-Some.fork.route c.in-Some.fork.above
    (c.in-Some.ensures z u (hung_under z u cursor.link cursor.above c.walk-cursor.ensures.walked.cursor_is.above)).3

pub load_join-requires-clause-remembered : goal.load_join-requires-clause-remembered
load_join-requires-clause-remembered c = let z = c.args.space.now.table.shared.key in let u = c.walk-cursor.new.pass.seat.me.0.upper in
    let cursor = c.walk-cursor.result in
    remembered_by z u c.in-Some.fork.route c.in-Some.fork.above
    (c.in-Some.ensures z u (hung_under z u cursor.link cursor.above c.walk-cursor.ensures.walked.cursor_is.above)).3

pub returns : goal.returns
returns c = record {
  found = λ x e. let space = c.args.space.now in let z = space.table.shared.key in let p = c.pin.new.pass in let f = c.pin.ensures.frame in
      let by = c.pin.ensures.pinned in let n = c.walk-cursor.new.pass in let u = n.seat.me.0.upper in let cursor = c.walk-cursor.result in
      let w = c.walk-cursor.ensures.walked in let l = c.load_join.ensures.loaded in let fork = c.in-Some.fork in
      let same : (record { route = fork.route; number = c.in-Some-prepared_in.number }) ≡ x = cc in
      subst (λ (y : Attempt). HasFound space c.load_join.new.pass y) same
      (found_then space p n c.load_join.new.pass _ cursor
      (may_first space c.args.pass.now p [] by.0 by.1 c.requires.rests f.same f.number f.kept f.tally by.3) c.walk-cursor.ensures.frame w fork.route fork.above
      (c.in-Some.ensures z u (hung_under z u cursor.link cursor.above w.cursor_is.above)).3 c.load_join.ensures.frame l.0 l.2 c.in-Some-prepared_in.number
      (c.in-Some-prepared_in.ensures l.0 l.1 c.in-Some-prepared_in.number refl) l.3);
}
