use Rattle.std.proofs.Common.{[], ◌+◌, drop, ◌∙◌, arith}
use Rattle.ca_base.specs.Taking.{AreHeld}
use Rattle.ca_base.proofs.Counts.{spent_both, met_both, back_both}
use Rattle.ca_base.proofs.Crowds.{crowd_both}
use Rattle.ca_base.proofs.Rest.{from_place}
use Rattle.ca_base.proofs.swapping.give_back_all.Goals as goal

pub give_back-requires-clause-held : goal.give_back-requires-clause-held
give_back-requires-clause-held c =
    let h = from_place (AreHeld c.args.space.now.table.shared.key.rows c.loop-at.pass.kept.rows
    c.loop-at.pass.seat.me.0) c.args.rows.now
    c.loop-at.at (omega arith) c.requires.apart c.loop-at.invariant.held in
    (drop (c.loop-at.at + 1) c.args.rows.now, h.0, h.1)

pub loop-at-preserved : goal.loop-at-preserved
loop-at-preserved c = let i = c.loop-at.invariant in let s = c.give_back.ensures.frame.same in
    let h = from_place (AreHeld c.args.space.now.table.shared.key.rows c.loop-at.pass.kept.rows
    c.loop-at.pass.seat.me.0) c.args.rows.now
    c.loop-at.at (omega arith) c.requires.apart i.held in record {
      own = (s.0 ∙ i.own.0, s.2 ∙ i.own.1);
      still = (s.0 ∙ i.still.0, s.1 ∙ i.still.1, s.2 ∙ i.still.2, s.3 ∙ i.still.3, s.4 ∙ i.still.4);
      number = c.give_back.ensures.frame.number ∙ i.number;
      tally = c.give_back.ensures.frame.tally ∙ i.tally;
      held = c.give_back.ensures.given (drop (c.loop-at.at + 1) c.args.rows.now) h.0 h.1;
      counted = spent_both c.args.spent.now c.loop-at.spent c.give_back.new.spent
          c.args.pass.now.seat.me c.loop-at.pass.seat.me c.give_back.new.pass.seat.me
          i.counted c.give_back.ensures.counted;
      met = met_both 0 0 0 0 c.args.pass.now.seat.me c.loop-at.pass.seat.me
          c.give_back.new.pass.seat.me i.met c.give_back.ensures.met;
      crowded = crowd_both c.args.pass.now.seat.me c.loop-at.pass.seat.me c.give_back.new.pass.seat.me
          i.crowded c.give_back.ensures.crowded;
      back = back_both [] 0 c.args.pass.now.seat.me c.loop-at.pass.seat.me
          c.give_back.new.pass.seat.me c.args.pass.now.kept c.loop-at.pass.kept
          c.give_back.new.pass.kept (let more = i.counted.more in
          omega arith) (let more = c.give_back.ensures.counted.more in
          omega arith) i.back c.give_back.ensures.back;
    }
