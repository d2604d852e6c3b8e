use Rattle.ca_replace.proofs.Ends.{walked_remembered}
use Rattle.ca_replace.proofs.lasts.look_near.Goals as goal

pub last_within-found-requires-clause-remembered : goal.last_within-found-requires-clause-remembered
last_within-found-requires-clause-remembered c = walked_remembered c.args.space.now.table.shared.key _ c.args.pass.now.seat.me
    c.walk-cursor.new.pass.seat.me c.walk-cursor.result c.walk-cursor.ensures.walked c.requires.leaf
