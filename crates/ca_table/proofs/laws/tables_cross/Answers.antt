use denote.Param.Send.{sendable}
use Rattle.std.proofs.Crossing.{crosses}
use Rattle.ca_table.proofs.Crossing.{spec_send}
use Rattle.ca_table.proofs.laws.tables_cross.Goals as goal

pub may_cross-requires-send-T : goal.may_cross-requires-send-T
may_cross-requires-send-T g c κs within = search (sendable, crosses, spec_send) depth 40
