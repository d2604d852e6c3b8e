use Rattle.std.proofs.Common.{false}
use Rattle.ca_tree_tests.specs.Ready.{IsAt}
use Rattle.ca_tree_tests.proofs.rows.wrong_step.Given as goal

abbrev pub invariant-loop-place : goal.invariant-loop-place
invariant-loop-place l = IsAt false l.space.table.shared.table_id l.space.table.shared.key l.pass.number l.pass.kept l.pass.seat
