-- What threads are handed of clients, and what they read together.
use denote.RattleType.{RattleType}
use denote.Ref.{NamedLft}
use denote.Param.Send.{IsSend, IsSync, sendable}
use Rattle.std.proofs.Crossing.{crosses as of_std}
use Rattle.std.proofs.string.String.TheSendSync as string
use Rattle.ca_term.proofs.term.Term.TheLaws.TheKnot.{crosses as of_terms}
use Rattle.ca_term.specs.contracts.term.Term as term
use Rattle.ca_model.specs.declared.store.OrderedStore.{Ghosts}
use Rattle.ca_table.specs.declared.follower.Follower.{Ghosts as Follower}
use Rattle.ca_table.proofs.Crossing.{spec_send}
use Rattle.ca_cmd.specs.contracts.answers.Answers as answers
use Rattle.ca_cmd.specs.contracts.line.Lines as lines
use Rattle.ca_client.specs.contracts.clients.Client as client

pub term_sync : IsSync term.the_row
term_sync = search (sendable, of_terms, of_std, string.the_sync) depth 30

pub lines_sync : IsSync lines.the_row
lines_sync = search (sendable, of_std, term_sync) depth 40

pub answers_send : IsSend answers.the_row
answers_send = search (sendable, of_std) depth 40

pub client_send : (a : NamedLft) (T W : RattleType) (g : Ghosts T.Denot) (h : Follower W.Denot T.Denot) → IsSend T → IsSend W
    → IsSend (client.the_row a T W g h)
client_send a T W g h s w = search (sendable, of_std, spec_send, answers_send, lines_sync) depth 60
