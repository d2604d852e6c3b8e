use Rattle.ca_table.proofs.Keyed.{key_begins, lookup_none, lookup_one, got_some, read_code}
use Rattle.ca_table.proofs.table.Table.lookup.Goals as goal

pub get-requires-clause-key : goal.get-requires-clause-key
get-requires-clause-key g c = key_begins c.args.key.now _ c.in_default.ensures.1

pub returns-then-not-get-clause-comes : goal.returns-then-not-get-clause-comes
returns-then-not-get-clause-comes g c =
    lookup_none c.args.key.now _ c.in_default.ensures.1 (g.S.OrderedStore.knows c.args.self.now) _ _ _ _ c.if-not-get.true c.get.ensures.got c.new.ensures.items

pub only-requires : goal.only-requires
only-requires g c = read_code c.args.key.now _ c.in_default.ensures.1 (g.S.OrderedStore.knows c.args.self.now) _ _ _ c.if-not-get.false c.get.ensures.got

pub returns-in_default-only-clause-comes : goal.returns-in_default-only-clause-comes
returns-in_default-only-clause-comes g c =
    (_, got_some c.args.key.now _ c.in_default.ensures.1 (g.S.OrderedStore.knows c.args.self.now) _ _ _ c.if-not-get.false c.get.ensures.got)

pub returns-clause-comes : goal.returns-clause-comes
returns-clause-comes g c =
    lookup_one c.args.key.now _ c.in_default.ensures.1 (g.S.OrderedStore.knows c.args.self.now) _ _ _ _ c.if-not-get.false c.get.ensures.got c.in-Ok.ensures
