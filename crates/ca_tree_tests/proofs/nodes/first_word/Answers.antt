use Rattle.ca_node.proofs.Walks.{walked_shows}
use Rattle.ca_tree_tests.proofs.nodes.first_word.Goals as goal

pub load_word-word-requires-clause-shown : goal.load_word-word-requires-clause-shown
load_word-word-requires-clause-shown c = walked_shows _ _ c.pin.new.pass.seat.me c.walk-cursor.result c.walk-cursor.new.pass.seat.me c.walk-cursor.ensures.walked
