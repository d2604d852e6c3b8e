use Rattle.ca_rows.specs.Calls.{IsOf}
use Rattle.ca_tree_tests.proofs.rows.work.Given as goal

abbrev pub invariant-loop-time : goal.invariant-loop-time
invariant-loop-time l = IsOf l.space.table.shared.table_id l.space.table.shared.key l.pass.seat
