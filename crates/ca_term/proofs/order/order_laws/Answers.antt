use Rattle.ca_term.proofs.TotalOrder.{term_cmp_total}
use Rattle.ca_term.proofs.order.order_laws.Goals as goal

pub returns : goal.returns
returns c = term_cmp_total
