use Rattle.std.proofs.Common.{refl}
use Rattle.ca_explain.proofs.Worked.{worked_logs}
use Rattle.ca_explain.proofs.laws.worked_merge.Goals as goal

pub returns : goal.returns
returns c = record { logs = worked_logs; merge = refl }
