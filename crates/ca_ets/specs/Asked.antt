-- What the argument of an update asks for, as plain data.
use Rattle.std.specs.Prelude.{map}
use Rattle.ca_term.specs.Add.{addition_of}
use Rattle.ca_ets.specs.declared.update.Operations.{Operations}
use Rattle.ca_ets.specs.declared.update.Operations.TheVariants as asked
use Rattle.ca_ets.specs.Update as plain

abbrev pub operations_in : Operations → plain.Operations
operations_in (asked.One add) = plain.One (addition_of add)
operations_in (asked.Several adds) = plain.Several (map addition_of adds.items)
