use Rattle.ca_tree_tests.proofs.Taking.{taken_ready}
use Rattle.ca_tree_tests.proofs.rows.take.Goals as goal

pub returns-clause-rests : goal.returns-clause-rests
returns-clause-rests c =
    taken_ready c.args.space.now.table.shared.table_id c.args.space.now.table.shared.key c.args.pass.now.number c.take_row.new.pass.number
    c.args.pass.now.kept c.take_row.new.pass.kept c.args.pass.now.seat c.take_row.new.pass.seat c.take_row.result c.requires c.take_row.ensures.frame.same
    c.take_row.ensures.frame.number c.take_row.ensures.frame.kept c.take_row.ensures.row
