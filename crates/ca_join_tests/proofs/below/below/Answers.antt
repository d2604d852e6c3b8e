use Rattle.ca_join_tests.proofs.Stale.{still_below}
use Rattle.ca_join_tests.proofs.below.below.Goals as goal

pub has_at-new-requires : goal.has_at-new-requires
has_at-new-requires c = let at = c.come.ensures.below c.in_ok-cursor.cursor c.in_ok-cursor.was in
    record { below = still_below at c.has_at-old.ensures.reads }

pub put_from-requires-clause-below : goal.put_from-requires-clause-below
put_from-requires-clause-below c = let at = c.come.ensures.below c.in_ok-cursor.cursor c.in_ok-cursor.was in
    still_below (still_below at c.has_at-old.ensures.reads) c.has_at-new.ensures.reads

pub put_from-requires-2-clause-below : goal.put_from-requires-2-clause-below
put_from-requires-2-clause-below c = still_below (c.go.ensures.below c.in_ok-cursor-2.cursor c.in_ok-cursor-2.was) c.has_at-now.ensures.reads
