use Rattle.ca_rows.specs.Passes.{OnlyReads}
use Rattle.ca_join_tests.proofs.halts.keys_at.Given as goal

abbrev pub invariant-loop-key : goal.invariant-loop-key
invariant-loop-key l = OnlyReads l.fn.pass l.pass
