use Rattle.ca_term.proofs.Updates.{counters_keep, elements_keep}
use Rattle.ca_term.proofs.update.update_laws.Goals as goal

pub returns-clause-counters : goal.returns-clause-counters
returns-clause-counters c = counters_keep

pub returns-clause-elements : goal.returns-clause-elements
returns-clause-elements c = elements_keep
