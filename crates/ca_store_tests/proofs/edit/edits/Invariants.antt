use Rattle.ca_test_store.specs.Script.{AreProper}
use Rattle.ca_store_tests.proofs.edit.edits.Given as goal

abbrev pub invariant-loop-line : goal.invariant-loop-line
invariant-loop-line l = AreProper l.keypos l.edits.items
