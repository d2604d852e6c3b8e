use Rattle.ca_join_tests.proofs.halts.stop.Goals as goal

pub give_up-requires-clause-ready : goal.give_up-requires-clause-ready
give_up-requires-clause-ready g c = c.requires.halted.ready

pub give_up-requires-clause-number : goal.give_up-requires-clause-number
give_up-requires-clause-number g c = c.requires.halted.number

pub give_up-requires-clause-marking : goal.give_up-requires-clause-marking
give_up-requires-clause-marking g c = c.requires.halted.gathering.between.marking
