use Rattle.ca_text.proofs.Printed.{printed_is}
use Rattle.ca_text.proofs.ReadFront.{printed_read, one_read}
use Rattle.ca_text.proofs.Refusals.{fault_sure}
use Rattle.ca_text.proofs.read.read_laws.Goals as goal

pub returns-clause-printed : goal.returns-clause-printed
returns-clause-printed c = λ t is shallow. printed_is t is.narrow shallow

pub returns-clause-again : goal.returns-clause-again
returns-clause-again c = printed_read

pub returns-clause-one_text : goal.returns-clause-one_text
returns-clause-one_text c = one_read

pub returns-clause-one_fault : goal.returns-clause-one_fault
returns-clause-one_fault c = fault_sure
