use Rattle.std.proofs.Common.{refl}
use Rattle.ca_node.specs.Told.{IsRise}
use Rattle.ca_model.specs.declared.outcome.Cause.{Cause}
use Rattle.ca_model.specs.Known.{one_more}
use Rattle.ca_replace.proofs.refusing.refuse.Given as goal

abbrev pub is_risen : (r : Cause) → IsRise (one_more r)
is_risen why = (why, refl)

abbrev pub ghosts-refuse_as : goal.ghosts-refuse_as
ghosts-refuse_as a = record { rise = one_more a._why; is_rise = is_risen a._why }
