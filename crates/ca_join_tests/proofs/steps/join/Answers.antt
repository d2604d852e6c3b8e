use Rattle.ca_join_tests.proofs.steps.join.Goals as goal

pub try_join-requires-clause-ready : goal.try_join-requires-clause-ready
try_join-requires-clause-ready c = c.requires.looked.ready

pub try_join-requires-clause-shown : goal.try_join-requires-clause-shown
try_join-requires-clause-shown c = c.requires.looked.shown

pub try_join-requires-clause-at : goal.try_join-requires-clause-at
try_join-requires-clause-at c = c.requires.looked.at

pub try_join-requires-clause-settled : goal.try_join-requires-clause-settled
try_join-requires-clause-settled c = c.requires.looked.settled

pub try_join-requires-clause-hung : goal.try_join-requires-clause-hung
try_join-requires-clause-hung c = c.requires.looked.hung

pub try_join-requires-clause-quiet : goal.try_join-requires-clause-quiet
try_join-requires-clause-quiet c = c.requires.looked.quiet
