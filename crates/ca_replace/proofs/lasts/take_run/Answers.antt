use Rattle.std.proofs.Common.{refl}
use Rattle.ca_model.specs.Edges.{bound_of}
use Rattle.ca_replace.specs.Within.{NeedsBelow}
use Rattle.ca_replace.proofs.Misses.{missed_needs}
use Rattle.ca_replace.proofs.Needing.{needs_below}
use Rattle.ca_replace.proofs.LastRuns.{run_up_to}
use Rattle.ca_replace.proofs.lasts.take_run.Goals as goal

pub returns-in-Ok-clause-run : goal.returns-in-Ok-clause-run
returns-in-Ok-clause-run c = run_up_to _ _ refl c.in-Ok.ensures.run

pub returns-in-Err-clause-missed : goal.returns-in-Err-clause-missed
returns-in-Err-clause-missed c = missed_needs _ (NeedsBelow (bound_of c.args.edges.1)) (λ note n. needs_below _ _ note n) c.args.budget c.snap.new.spent
    c.in-Err.why c.args.pass.now.seat.me c.snap.new.pass.seat.me c.in-Err.ensures.missed
