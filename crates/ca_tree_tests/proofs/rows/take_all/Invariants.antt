use Rattle.std.proofs.Common.{false}
use Rattle.ca_tree_tests.specs.Ready.{IsAt}
use Rattle.ca_tree_tests.proofs.rows.take_all.Given as goal

abbrev pub invariant-loop : goal.invariant-loop
invariant-loop l = IsAt false l.space.table.shared.table_id l.space.table.shared.key l.pass.number l.pass.kept l.pass.seat
