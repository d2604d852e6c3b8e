use Rattle.ca_replace.specs.Resting.{knows}
use Rattle.ca_tree_tests.proofs.Opened.{still_open}
use Rattle.ca_tree_tests.proofs.ranges.next.Goals as goal

pub returns-clause-open : goal.returns-clause-open
returns-clause-open c =
    still_open (knows c.args.store.now) (knows c.found.new.self) c.found.result c.found.new.into.items c.found.ensures.handed_out
