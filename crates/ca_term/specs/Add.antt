-- An operation on a counter, as plain data.
use Rattle.ca_term.specs.Updates.{Addition}
use Rattle.ca_term.specs.declared.add.Add.{Add}

abbrev pub addition_of : Add → Addition
addition_of a = record { position = a.pos; increment = a.incr; cap = a.cap }
