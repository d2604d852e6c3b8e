use Rattle.std.proofs.Common.{refl, inr}
use Rattle.ca_cli.proofs.Explained.{headline_whole}
use Rattle.ca_cli.proofs.top.run.Goals as goal

pub returns-in-Ok-clause-headline : goal.returns-in-Ok-clause-headline
returns-in-Ok-clause-headline g c = λ done.
    let taken = rw c.as_slice.ensures.value at c.in-Ok.ensures.ok in
    headline_whole _ _ c.outcome-end.result.ran c.outcome-end.result.status c.outcome-end.result.bytes.items c.outcome-end.ensures.outcome taken done

pub returns-clause-run : goal.returns-clause-run
returns-clause-run g c =
    let failed = rw c.as_slice.ensures.value at c.in-Err.ensures.failed in
    let cut = inr (record { same = refl; count = failed.0; part = failed.1; taken = failed.2; risen = failed.3 }) in
    (c.outcome-end.result.status, c.outcome-end.result.bytes.items, record { outcome = c.outcome-end.ensures.outcome; written = cut })
