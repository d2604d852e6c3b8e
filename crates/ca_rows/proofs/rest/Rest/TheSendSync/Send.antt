use denote.RattleType.{RattleType}
use denote.Param.Send.{IsSend}
use Rattle.ca_rows.specs.contracts.rest.Rest.{the_row}
use Rattle.ca_rows.proofs.Resting.{rest_send}

pub send : (S V : RattleType) → IsSend S → IsSend (the_row S V)
send S V s = rest_send S V s
