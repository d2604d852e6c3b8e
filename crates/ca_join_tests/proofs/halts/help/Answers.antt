use Rattle.ca_join_tests.proofs.halts.help.Goals as goal

pub help_ranges-helped-requires-clause-ready : goal.help_ranges-helped-requires-clause-ready
help_ranges-helped-requires-clause-ready c = c.requires.found.ready

pub help_ranges-helped-requires-clause-number : goal.help_ranges-helped-requires-clause-number
help_ranges-helped-requires-clause-number c = c.requires.found.number

pub help_ranges-helped-requires-clause-quiet : goal.help_ranges-helped-requires-clause-quiet
help_ranges-helped-requires-clause-quiet c = c.requires.found.quiet

pub help_ranges-helped-requires-clause-other : goal.help_ranges-helped-requires-clause-other
help_ranges-helped-requires-clause-other c = c.requires.found.used.other

pub help_ranges-helped-requires-clause-met : goal.help_ranges-helped-requires-clause-met
help_ranges-helped-requires-clause-met c = c.requires.found.met

pub help_ranges-helped-requires-clause-at : goal.help_ranges-helped-requires-clause-at
help_ranges-helped-requires-clause-at c = record { at = c.requires.found.at; marked = c.requires.found.used.marked }
