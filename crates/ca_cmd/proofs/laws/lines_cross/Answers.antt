use denote.Param.Send.{sendable}
use Rattle.std.proofs.Crossing.{crosses}
use Rattle.ca_ets.proofs.Crossing.{codes_send, term_send, terms_send}
use Rattle.ca_cmd.proofs.laws.lines_cross.Goals as goal

pub may_cross-requires-send-T : goal.may_cross-requires-send-T
may_cross-requires-send-T c κs = search (sendable, crosses) depth 40

pub may_cross-requires-2-send-T : goal.may_cross-requires-2-send-T
may_cross-requires-2-send-T c κs = search (sendable, term_send, terms_send, codes_send) depth 40

pub may_cross-requires-3-send-T : goal.may_cross-requires-3-send-T
may_cross-requires-3-send-T c κs = search (sendable, crosses, term_send, terms_send) depth 40
