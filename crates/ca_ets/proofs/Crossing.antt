-- Terms, lists of terms, and lists of their codes, may be handed to another thread.
use denote.Param.Send.{IsSend, sendable}
use Rattle.std.proofs.Crossing.{crosses as of_std}
use Rattle.std.proofs.string.String.TheSendSync as string
use Rattle.ca_term.proofs.term.Term.TheLaws.TheKnot.{crosses as of_terms}
use Rattle.ca_term.specs.contracts.term.Term as term
use Rattle.ca_term.specs.contracts.terms.Terms as terms
use Rattle.ca_order.specs.contracts.list.CodeList as codes

pub term_send : IsSend term.the_row
term_send = search (sendable, of_terms, of_std, string.the_send) depth 30

pub terms_send : IsSend terms.the_row
terms_send = search (sendable, of_std, term_send) depth 30

pub codes_send : IsSend codes.the_row
codes_send = search (sendable, of_std) depth 30
