use Rattle.ca_table.proofs.Sure.{all_done_from}
use Rattle.ca_table.proofs.laws.sure_and_alone_is_done_from.Goals as goal

pub returns : goal.returns
returns c = all_done_from
