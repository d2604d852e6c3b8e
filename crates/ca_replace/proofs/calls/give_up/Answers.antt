use Rattle.std.proofs.Common.{rules}
use Rattle.ca_model.specs.Known.{one_more}
use Rattle.ca_replace.proofs.Turns.{rests_as, rests_refused, is_refused}
use Rattle.ca_replace.proofs.calls.give_up.Goals as goal

pub returns-clause-frame : goal.returns-clause-frame
returns-clause-frame c = record {
  number = search rules;
  resting = let space = c.args.tree.now.space.table.shared in
      rests_as space.table_id space.key c.args.pass.now.number c.refuse.new.pass.number
      c.args.pass.now.kept c.refuse.new.pass.kept c.refuse.new.pass.seat
      c.refuse.ensures.frame.number c.refuse.ensures.frame.tally c.refuse.ensures.frame.kept
      (rests_refused space.table_id space.key c.args.pass.now.number c.args.pass.now.kept.rows
      c.args.pass.now.seat c.refuse.new.pass.seat _ c.requires.resting
      c.refuse.ensures.frame.same.0 c.refuse.ensures.counted);
}

pub returns-clause-refused : goal.returns-clause-refused
returns-clause-refused c =
    is_refused (one_more c.args.why) c.args.pass.now.seat.me c.refuse.new.pass.seat.me
    c.refuse.ensures.counted
