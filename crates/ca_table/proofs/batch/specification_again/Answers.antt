use Rattle.ca_table.proofs.Recent.{recent_again}
use Rattle.ca_table.proofs.batch.specification_again.Goals as goal

pub returns-in-Some : goal.returns-in-Some
returns-in-Some c =
    recent_again c.in-Some.own c.source.result.now c.args.spec.now c.term_order.result c.is_eq.result
    c.source.ensures.term c.term_order.ensures c.is_eq.ensures c.if-is_eq.true c.source.ensures.specification
