use denote.Param.Send.{sendable}
use Rattle.std.proofs.Crossing.{crosses}
use Rattle.ca_client.proofs.Crossing.{term_sync}
use Rattle.ca_client.proofs.laws.lines_are_shared.Goals as goal

pub may_be_shared-requires-sync-T : goal.may_be_shared-requires-sync-T
may_be_shared-requires-sync-T c κs = search (sendable, crosses, term_sync) depth 40
