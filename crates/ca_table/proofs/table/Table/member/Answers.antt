use Rattle.ca_table.proofs.Keyed.{key_begins, member_done}
use Rattle.ca_table.proofs.table.Table.member.Goals as goal

pub get-found-requires-clause-key : goal.get-found-requires-clause-key
get-found-requires-clause-key g c = key_begins c.args.key.now _ c.in_default.ensures.1

pub returns-clause-comes : goal.returns-clause-comes
returns-clause-comes g c = member_done c.args.key.now _ c.in_default.ensures.1 (g.S.OrderedStore.knows c.args.self.now) _ _ _ c.get-found.ensures.got
