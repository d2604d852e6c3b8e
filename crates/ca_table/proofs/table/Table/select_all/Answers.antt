use Rattle.std.proofs.Common.{sym, subst}
use Rattle.ca_ets.specs.Command.{Response}
use Rattle.ca_ets.specs.declared.command.Cmd.TheVariants.{Select}
use Rattle.ca_table.specs.ComesTo.{StepsOnce}
use Rattle.ca_table.proofs.Selecting.{select_done}
use Rattle.ca_table.proofs.table.Table.select_all.Goals as goal

pub returns-in-Ok-clause-comes : goal.returns-in-Ok-clause-comes
returns-in-Ok-clause-comes g c =
    let old = g.S.OrderedStore.knows c.args.self.now in
    let next = g.S.OrderedStore.knows c.within.new.self in
    λ l.
    subst (λ (x : Response). StepsOnce old next l (Select c.args.spec.now) x l) (sym c.into_reply.ensures)
    (select_done old next c.in-Ok.ensures.positive c.args.spec.now c.requires.specification _ _ l c.in-Ok.ensures.within)
