use Rattle.std.proofs.Common.{ℕ, Option, None, refl}
use lib.ListN.{replicate}
use Rattle.ca_range.proofs.Noting.{none_noted}
use Rattle.ca_range.proofs.account.Account.new.Goals as goal

pub returns-clause-met : goal.returns-clause-met
returns-clause-met c = none_noted (replicate {A = Option ℕ} 65 None) refl
