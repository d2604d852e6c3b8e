-- How calls are refused.
use Rattle.ca_model.specs.declared.outcome.Cause.{Cause}
use Rattle.ca_model.specs.declared.outcome.Cause.TheVariants as cause
use Rattle.ca_model.specs.declared.outcome.Outcome.{Outcome}
use Rattle.ca_model.specs.declared.outcome.Outcome.TheVariants as outcome

-- what a call comes to that is refused by this cause
abbrev pub outcome_by : {T : Type 0} → Cause → Outcome T
outcome_by (cause.Busy spent) = outcome.Busy spent
outcome_by (cause.Full why) = outcome.Full why
outcome_by (cause.Deep level) = outcome.Deep level
outcome_by (cause.Worn counter) = outcome.Worn counter
