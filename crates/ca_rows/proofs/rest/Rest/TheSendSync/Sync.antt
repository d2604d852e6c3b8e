use denote.RattleType.{RattleType}
use denote.Param.Send.{IsSend, IsSync, part_keyless}
use Rattle.ca_rows.specs.contracts.rest.Rest.{the_row}
use Rattle.ca_rows.proofs.Resting.{rest_send}

pub sync : (S V : RattleType) → IsSend S → IsSync (the_row S V)
sync S V s = record { shared = λ d b o ν q. part_keyless (the_row S V) (rest_send S V s) q d b o }
