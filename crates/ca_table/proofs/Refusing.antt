-- A refusal behind reads, as what `take` comes to.
use Rattle.std.proofs.Common.{ℕ, inl}
use Rattle.ca_term.specs.Tree.{Tree}
use Rattle.ca_ets.specs.declared.command.Cmd.TheVariants.{Take}
use Rattle.ca_ets.specs.declared.command.Reply.{Reply}
use Rattle.ca_model.specs.declared.outcome.Outcome.{Outcome}
use Rattle.ca_model.specs.declared.outcome.Outcome.TheVariants as outcome
use Rattle.ca_model.specs.declared.outcome.Cause.TheVariants as cause
use Rattle.ca_model.specs.Answer.{IsNeverDeep}
use Rattle.ca_model.specs.Known.{Known, one_more}
use Rattle.ca_explain.specs.Steps.{Refrains}
use Rattle.ca_explain.proofs.Calls.{then_refusal}
use Rattle.ca_table.specs.ComesTo.{HasOutcome}
use Rattle.ca_table.specs.Refusals.{IsRefusal}

-- Where the store refuses a call behind reads, no edit was made, and the refusal is counted.
pub refused_behind_reads : (a m b : Known) (budget : ℕ) (k : Tree) (r : Outcome Reply) → Refrains a m a.counts → IsRefusal m b budget r → IsNeverDeep r
    → HasOutcome a b budget (Take k) r
refused_behind_reads a m b budget k (outcome.Done reply) x h n = absurd h
refused_behind_reads a m b budget k (outcome.Busy spent) x h n = inl (tt, then_refusal a m b (one_more (cause.Busy spent)) x h.0, h.1)
refused_behind_reads a m b budget k (outcome.Full why) x h n = (tt, then_refusal a m b (one_more (cause.Full why)) x h)
refused_behind_reads a m b budget k (outcome.Deep level) x h n = absurd n
refused_behind_reads a m b budget k (outcome.Worn counter) x h n = (tt, then_refusal a m b (one_more (cause.Worn counter)) x h)
