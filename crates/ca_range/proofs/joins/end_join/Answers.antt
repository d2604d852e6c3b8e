use Rattle.std.proofs.Common.{◌<◌, false, subst, sym, ap, ◌∙◌}
use Rattle.ca_base.specs.Finding.{IsBaseShown}
use Rattle.ca_base.specs.Putting.{first_note}
use Rattle.ca_node.specs.Told.{MyTree}
use Rattle.ca_range.proofs.JoinsEnded.{joined_own, none_still, unjoined_by}
use Rattle.ca_range.proofs.JoinsFinished.{ended_behind, ended_given, finished_join, finished_read, told_given}
use Rattle.ca_range.specs.declared.joins.JoinEnd.TheVariants as end
use Rattle.ca_range.proofs.joins.end_join.Goals as goal

pub returns-in-Finished-clause-ended : goal.returns-in-Finished-clause-ended
returns-in-Finished-clause-ended c = let f = c.in-Finished.ensures.found in let z = c.args.space.now.table.shared.key in
    ended_behind c.args.space.now c.args.cursor.base end.Before c.args.pass.now c.attempt_on.new.pass c.look_at.new.pass c.attempt_on.ensures.frame record {
      frame = c.look_at.ensures.frame;
      learnt = f.0;
      unjoined = λ note s. unjoined_by c.look_at.new.pass.seat.me.0.upper note.its c.in-Some.attempt
          (c.in-Some.ensures.attempt note (subst (λ (x : MyTree). IsBaseShown z x.0.upper c.args.cursor.base note) c.attempt_on.ensures.frame.still s)).0 f.1;
      several = λ e. cc;
    }

pub returns-in-Prepared-clause-ended : goal.returns-in-Prepared-clause-ended
returns-in-Prepared-clause-ended c = let f = c.in-Prepared.ensures.found in let z = c.args.space.now.table.shared.key in
    ended_behind c.args.space.now c.args.cursor.base c.give_up_join.result c.args.pass.now c.attempt_on.new.pass c.give_up_join.new.pass
    c.attempt_on.ensures.frame (ended_given c.args.space.now c.attempt_on.new.pass c.look_at.new.pass c.give_up_join.new.pass c.args.cursor.base
    c.in-Some.attempt c.give_up_join.result c.look_at.ensures.frame f.0
    (λ note s. (c.in-Some.ensures.attempt note (subst (λ (x : MyTree). IsBaseShown z x.0.upper c.args.cursor.base note) c.attempt_on.ensures.frame.still s)).0)
    f.2 c.give_up_join.ensures.given_up)

pub returns-in-Secured-clause-ended : goal.returns-in-Secured-clause-ended
returns-in-Secured-clause-ended c = let f = c.in-Secured.ensures.found in
    finished_read c.args.space.now c.carry_out.result c.args.pass.now c.attempt_on.new.pass c.carry_out.new.pass c.attempt_on.ensures.frame
    (finished_join c.args.space.now false c.carry_out.result c.attempt_on.new.pass c.look_at.new.pass c.carry_out.new.pass c.look_at.ensures.frame
    f.0 c.carry_out.ensures.carried f.2)

pub look_at-requires-clause-number : goal.look_at-requires-clause-number
look_at-requires-clause-number c = subst (λ (x : MyTree). 0 < x.0.upper.number) (sym c.attempt_on.ensures.frame.still) c.requires.ready.number

pub look_at-requires-clause-other : goal.look_at-requires-clause-other
look_at-requires-clause-other c = none_still c.args.pass.now.seat.me.0.upper.ranges.own c.attempt_on.new.pass.seat.me.0.upper.ranges.own
    (ap (λ (x : MyTree). x.0.upper.ranges.own) c.attempt_on.ensures.frame.still) c.requires.other

pub give_up_join-requires-clause-other : goal.give_up_join-requires-clause-other
give_up_join-requires-clause-other c = let m = c.attempt_on.new.pass.seat.me in let n = c.look_at.new.pass.seat.me in
    none_still c.args.pass.now.seat.me.0.upper.ranges.own n.0.upper.ranges.own (joined_own false m n c.in-Prepared.ensures.found.0
    ∙ ap (λ (x : MyTree). x.0.upper.ranges.own) c.attempt_on.ensures.frame.still) c.requires.other

pub carry_out-requires-clause-other : goal.carry_out-requires-clause-other
carry_out-requires-clause-other c = let m = c.attempt_on.new.pass.seat.me in let n = c.look_at.new.pass.seat.me in
    none_still c.args.pass.now.seat.me.0.upper.ranges.own n.0.upper.ranges.own (joined_own false m n c.in-Secured.ensures.found.0
    ∙ ap (λ (x : MyTree). x.0.upper.ranges.own) c.attempt_on.ensures.frame.still) c.requires.other

pub returns-in_default-clause-marked : goal.returns-in_default-clause-marked
returns-in_default-clause-marked c = c.in_default.ensures.attempt (first_note c.args.pass.now.seat.me.0.upper.notes) c.requires.at.shown

pub returns-in-Finished-clause-marked : goal.returns-in-Finished-clause-marked
returns-in-Finished-clause-marked c = (c.in-Some.ensures.attempt (first_note c.args.pass.now.seat.me.0.upper.notes) c.requires.at.shown).0.0

pub returns-in-Prepared-clause-marked : goal.returns-in-Prepared-clause-marked
returns-in-Prepared-clause-marked c = let its = (first_note c.args.pass.now.seat.me.0.upper.notes).its in
    told_given c.args.space.now c.in-Some.attempt c.give_up_join.result c.look_at.new.pass c.give_up_join.new.pass its c.give_up_join.ensures.given_up
    (c.in-Some.ensures.attempt (first_note c.args.pass.now.seat.me.0.upper.notes) c.requires.at.shown).0.0

pub returns-in-Secured-clause-marked : goal.returns-in-Secured-clause-marked
returns-in-Secured-clause-marked c = (c.in-Some.ensures.attempt (first_note c.args.pass.now.seat.me.0.upper.notes) c.requires.at.shown).0.0
