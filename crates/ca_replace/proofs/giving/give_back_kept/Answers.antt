use Rattle.std.proofs.Common.{rules, arith}
use Rattle.ca_replace.proofs.Reclaiming.{rests_still}
use Rattle.ca_replace.proofs.giving.give_back_kept.Goals as goal
use Rattle.ca_range.proofs.LoneMarks.{only_one}

pub returns-clause-frame : goal.returns-clause-frame
returns-clause-frame c = record {
  number = search rules;
  resting = let space = c.args.tree.now.space.table.shared in
      rests_still space.table_id space.key c.args.pass.now.number c.reclaim.new.pass.number
      c.args.pass.now.tally c.reclaim.new.pass.tally
      c.args.pass.now.kept.rows c.reclaim.new.pass.kept.rows
      c.args.pass.now.seat c.reclaim.new.pass.seat c.requires.resting c.reclaim.ensures.frame.number
      c.reclaim.ensures.frame.tally c.reclaim.ensures.frame.same.0
      c.reclaim.ensures.reclaims c.reclaim.ensures.list
      (λ one. let lone = only_one space.key c.args.pass.now.seat.me c.requires.resting.of.1 c.args.tree.now.space.few.0 one in
      let none_lost = (c.reclaim.ensures.only lone).1 in let lost = c.reclaim.ensures.losses in omega arith);
}
