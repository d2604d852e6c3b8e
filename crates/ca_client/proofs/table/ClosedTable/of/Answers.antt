use Rattle.ca_client.proofs.Codes.{the_table}
use Rattle.ca_client.proofs.table.ClosedTable.of.Goals as goal

pub invariant_of-result : goal.invariant_of-result
invariant_of-result c = (the_table c.args.objects c.requires.0 c.requires.1, tt)
