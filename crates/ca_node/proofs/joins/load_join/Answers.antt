use Rattle.ca_node.proofs.JoinLoads.{loads_join, loaded_route}
use Rattle.ca_node.proofs.joins.load_join.Goals as goal

pub load-requires-clause-rule : goal.load-requires-clause-rule
load-requires-clause-rule c = loads_join c.args.space.now.table.shared.key _ _ _ c.args.route c.join_word-word.result
    c.requires.reading.own.1 c.requires.remembered c.join_word-word.ensures.word

pub returns-clause-loaded : goal.returns-clause-loaded
returns-clause-loaded c = (
  c.load.result,
  c.state_of.ensures,
  loaded_route c.args.pass.now.seat.me c.args.route c.join_word-word.result c.load.result
      c.args.space.now.table.shared.table_id.slots c.load.new.pass.seat.me c.join_word-word.ensures.word c.load.ensures.told,
  c.load.type_inv,
)
