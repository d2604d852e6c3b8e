use Rattle.ca_join_tests.proofs.ranges.goes_on.Goals as goal

pub begin-requires-clause-function : goal.begin-requires-clause-function
begin-requires-clause-function g c = c.requires.function _

pub go_on-run-requires-clause-function : goal.go_on-run-requires-clause-function
go_on-run-requires-clause-function g c = c.requires.function _
