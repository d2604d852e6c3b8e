use Rattle.ca_node.specs.Place.{all_keys}
use Rattle.ca_node.proofs.Walks.{begins_first, sought_first}
use Rattle.ca_node.proofs.cursor.walk.Goals as goal

pub walk_from-requires-clause-begins : goal.walk_from-requires-clause-begins
walk_from-requires-clause-begins c = (
  all_keys,
  begins_first c.args.space.now.table.shared.key c.args.pass.now.seat.me.0.upper,
  sought_first c.args.spot,
)
