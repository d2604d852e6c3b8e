use Rattle.std.proofs.Common.{inr, None, sym, subst}
use Rattle.ca_ets.specs.Command.{Response}
use Rattle.ca_ets.specs.declared.command.Cmd.TheVariants.{Select}
use Rattle.ca_table.specs.ComesTo.{StepsOnce}
use Rattle.ca_table.proofs.Keyed.{key_begins, read_code, only_read}
use Rattle.ca_table.proofs.Selecting.{select_unfit, select_absent, select_present}
use Rattle.ca_table.proofs.table.Table.select_key.Goals as goal

pub returns-in_default-clause-comes : goal.returns-in_default-clause-comes
returns-in_default-clause-comes g c =
    let old = g.S.OrderedStore.knows c.args.self.now in
    select_unfit old old c.args.spec.now c.args.key.now c.requires.specification c.requires.covers c.in_default.field-0
    c.requires.positive c.in_default.ensures _ c.new.ensures.items

pub get-requires-clause-key : goal.get-requires-clause-key
get-requires-clause-key g c = key_begins c.args.key.now _ c.in-Ok.ensures.1

pub returns-then-not-get-clause-comes : goal.returns-then-not-get-clause-comes
returns-then-not-get-clause-comes g c =
    let old = g.S.OrderedStore.knows c.args.self.now in
    let next = g.S.OrderedStore.knows c.get.new.self in
    select_absent old next c.args.spec.now c.args.key.now c.requires.specification c.requires.covers _ c.in-Ok.ensures.1 _ _
    c.if-not-get.true c.get.ensures.got _ c.new-then-not-get.ensures.items

pub add-requires : goal.add-requires
add-requires g c = read_code c.args.key.now _ c.in-Ok.ensures.1 (g.S.OrderedStore.knows c.args.self.now) _ _ _ c.if-not-get.false c.get.ensures.got

pub returns-in_default-add-clause-comes : goal.returns-in_default-add-clause-comes
returns-in_default-add-clause-comes g c =
    inr (only_read c.args.key.now _ c.in-Ok.ensures.1 (g.S.OrderedStore.knows c.args.self.now) _ _ _ c.if-not-get.false c.get.ensures.got)

pub returns-clause-comes : goal.returns-clause-comes
returns-clause-comes g c =
    let old = g.S.OrderedStore.knows c.args.self.now in
    let next = g.S.OrderedStore.knows c.get.new.self in
    λ l.
    subst (λ (x : Response). StepsOnce old next l (Select c.args.spec.now) x l) (sym c.into_reply.ensures)
    (select_present old next c.args.spec.now c.args.key.now c.requires.specification c.requires.covers _ c.in-Ok.ensures.1 _ _
    c.if-not-get.false c.get.ensures.got _ c.new-found.result.last c.new-found.ensures.results _ c.add.new.self.last None c.in-Ok-add.ensures l)
