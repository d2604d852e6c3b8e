use Rattle.std.proofs.Common.{◌∙◌}
use Rattle.ca_text.proofs.Places.{within}
use Rattle.ca_text.proofs.ReadFront.{read_is, longest, none_read, same_read}
use Rattle.ca_text.proofs.Refusals.{not_read, fault_known}
use Rattle.ca_text.proofs.read.read_term.Goals as goal

pub overflow_sub-result : goal.overflow_sub-result
overflow_sub-result c = (read_is c.args.bytes.now c.in-Ok.term c.in-Ok.rest.now c.in-Ok.ensures).0

pub returns-in-Ok-clause-ok : goal.returns-in-Ok-clause-ok
returns-in-Ok-clause-ok c = (read_is c.args.bytes.now c.in-Ok.term c.in-Ok.rest.now c.in-Ok.ensures).1

pub returns-in-Ok-clause-longest : goal.returns-in-Ok-clause-longest
returns-in-Ok-clause-longest c = λ m t. longest c.args.bytes.now c.in-Ok.term t _ m (read_is c.args.bytes.now c.in-Ok.term c.in-Ok.rest.now c.in-Ok.ensures).1

pub returns-in-Ok-clause-only : goal.returns-in-Ok-clause-only
returns-in-Ok-clause-only c = λ t n. same_read c.args.bytes.now c.in-Ok.term c.in-Ok.rest.now t n c.in-Ok.ensures

pub returns-in-Err-clause-only : goal.returns-in-Err-clause-only
returns-in-Err-clause-only c = λ t n r. c.fault_of.ensures ∙ none_read c.args.bytes.now c.in-Err.stop t n c.in-Err.ensures r

pub returns-in-Err-clause-refused : goal.returns-in-Err-clause-refused
returns-in-Err-clause-refused c = rw c.fault_of.ensures (not_read c.args.bytes.now c.in-Err.stop c.in-Err.ensures)

pub returns-in-Ok-clause-sure : goal.returns-in-Ok-clause-sure
returns-in-Ok-clause-sure c = λ e p. p.unread c.in-Ok.term _ (read_is c.args.bytes.now c.in-Ok.term c.in-Ok.rest.now c.in-Ok.ensures).1

pub returns-in-Err-clause-sure : goal.returns-in-Err-clause-sure
returns-in-Err-clause-sure c = λ e p. rw c.fault_of.ensures (fault_known c.args.bytes.now c.in-Err.stop e c.in-Err.ensures p)

pub fault_of-requires : goal.fault_of-requires
fault_of-requires c = within c.args.bytes.now c.in-Err.stop c.in-Err.ensures
