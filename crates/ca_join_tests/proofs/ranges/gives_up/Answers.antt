use Rattle.ca_join_tests.proofs.ranges.gives_up.Goals as goal

pub begin-requires-clause-function : goal.begin-requires-clause-function
begin-requires-clause-function g c = c.requires.function _
