use Rattle.ca_node.proofs.Watching.{watches, watched_owner}
use Rattle.ca_node.proofs.ranges.load_status.Goals as goal

pub load-requires-clause-rule : goal.load-requires-clause-rule
load-requires-clause-rule c =
    watches c.args.space.now.table.shared.key _ _ _ c.args.owner c.status_word_of-word.result
    c.requires.reading.own.1 c.requires.reading.pinned c.requires.owner.0 c.requires.owner.1
    c.status_word_of-word.ensures.word

pub returns-clause-watched : goal.returns-clause-watched
returns-clause-watched c = (
  c.load.result,
  c.state_of.ensures,
  watched_owner c.args.space.now.table.shared.key c.args.pass.now.seat.me c.args.owner
      c.status_word_of-word.result c.load.result c.args.space.now.table.shared.table_id.slots
      c.load.new.pass.seat.me c.requires.reading.own.1 c.requires.owner.0
      c.status_word_of-word.ensures.word c.load.ensures.told,
  c.load.type_inv,
)
