use Rattle.ca_base.specs.Putting.{first_note}
use Rattle.ca_join_tests.proofs.below.has_at.Goals as goal

pub has_in-requires-clause-readable : goal.has_in-requires-clause-readable
has_in-requires-clause-readable c = (first_note c.args.pass.now.seat.me.0.upper.notes, c.requires.below.looking.readable)
