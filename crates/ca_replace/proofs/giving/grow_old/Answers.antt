use Rattle.std.proofs.Common.{rules, arith}
use Rattle.ca_replace.proofs.Reclaiming.{rests_still}
use Rattle.ca_replace.proofs.giving.grow_old.Goals as goal
use Rattle.ca_range.proofs.LoneMarks.{only_one}

pub returns-clause-frame : goal.returns-clause-frame
returns-clause-frame c = record {
  number = search rules;
  resting = let space = c.args.tree.now.space.table.shared in
      rests_still space.table_id space.key c.args.pass.now.number c.advance.new.pass.number
      c.args.pass.now.tally c.advance.new.pass.tally
      c.args.pass.now.kept.rows c.advance.new.pass.kept.rows
      c.args.pass.now.seat c.advance.new.pass.seat c.requires.resting c.advance.ensures.frame.number
      c.advance.ensures.frame.tally c.advance.ensures.frame.same.0
      c.advance.ensures.reclaims c.advance.ensures.list
      (λ one. let lone = only_one space.key c.args.pass.now.seat.me c.requires.resting.of.1 c.args.tree.now.space.few.0 one in
      let none_lost = (c.advance.ensures.only lone).0 in let lost = c.advance.ensures.losses in omega arith);
}
