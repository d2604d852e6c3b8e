use Rattle.ca_replace.specs.Reads.{event_of}
use Rattle.ca_replace.proofs.ending.enter.Given as goal

abbrev pub ghosts-enter_as : goal.ghosts-enter_as
ghosts-enter_as a = record { event = event_of a._read }
