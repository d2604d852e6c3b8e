use Rattle.ca_replace.proofs.LoneReads.{snapped_passes, snapped_short}
use Rattle.ca_replace.proofs.within.snap.Goals as goal

pub returns-in-Run-clause-alone : goal.returns-in-Run-clause-alone
returns-in-Run-clause-alone g c alone = (snapped_passes _ _ _ _ _ _ (c.snapshot-snapped.ensures.alone alone c.requires.work.known c.requires.none_met), tt)

pub returns-in-Again-clause-alone : goal.returns-in-Again-clause-alone
returns-in-Again-clause-alone g c alone = let did = c.snapshot-snapped.ensures.alone alone c.requires.work.known c.requires.none_met in
    (snapped_passes _ _ _ _ _ _ did, did.told c.in-Again.is)

pub returns-in-Busy-clause-alone : goal.returns-in-Busy-clause-alone
returns-in-Busy-clause-alone g c alone = (snapped_passes _ _ _ _ _ _ (c.snapshot-snapped.ensures.alone alone c.requires.work.known c.requires.none_met), tt)

pub returns-in-NoRow-clause-alone : goal.returns-in-NoRow-clause-alone
returns-in-NoRow-clause-alone g c alone = let did = c.snapshot-snapped.ensures.alone alone c.requires.work.known c.requires.none_met in
    (snapped_passes _ _ _ _ _ _ did, snapped_short _ _ _ _ _ _ did c.in-NoRow.is)

pub returns-in-Worn-clause-alone : goal.returns-in-Worn-clause-alone
returns-in-Worn-clause-alone g c alone = (snapped_passes _ _ _ _ _ _ (c.snapshot-snapped.ensures.alone alone c.requires.work.known c.requires.none_met), tt)
