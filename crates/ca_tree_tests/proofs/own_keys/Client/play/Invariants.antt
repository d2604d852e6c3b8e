use Rattle.std.proofs.Common.{◌≡◌}
use Rattle.ca_tree_tests.proofs.own_keys.Client.play.Given as goal

abbrev pub invariant-loop : goal.invariant-loop
invariant-loop g l = l.self.store.store.table ≡ l.fn.self.store.store.table
