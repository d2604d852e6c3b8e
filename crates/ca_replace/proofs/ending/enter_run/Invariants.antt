use Rattle.ca_model.specs.Edges.{bound_of}
use Rattle.ca_replace.specs.Within.{range_event}
use Rattle.ca_replace.proofs.ending.enter_run.Given as goal

abbrev pub ghosts-enter_run_as : goal.ghosts-enter_run_as
ghosts-enter_run_as a = record { event = range_event a.run a.pass.now.seat.me.0.upper (bound_of a._lo) (bound_of a._hi) }
