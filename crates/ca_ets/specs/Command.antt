-- Commands, replies, answers and continuations as plain data: they know nothing of memory and of room kept in it.
use Rattle.std.specs.Prelude.{◌≡◌, ◌≤◌, ℕ, Bool, true, List, Result}
use Rattle.ca_term.specs.Tree.{Tree}
use Rattle.ca_term.specs.Object.{fits}
use Rattle.ca_match.specs.Specification.{IsSpecification}
use Rattle.ca_ets.specs.declared.command.Cmd.{Cmd}
use Rattle.ca_ets.specs.declared.command.Reply.{Reply}
use Rattle.ca_ets.specs.declared.command.Reply.TheVariants as reply
use Rattle.ca_ets.specs.declared.command.Cont.{Cont}
use Rattle.ca_ets.specs.declared.command.Cont.TheVariants as cont
use Rattle.ca_ets.specs.declared.command.Fault.{Fault}

-- a call of one client: the terms of a `Cmd` are trees here
abbrev pub Command : Type 0
Command = Cmd

-- the reply to a command: it is the same whether its terms are kept as terms or by their codes
pub data Response : Type 0 where
  Truth : Bool → Response
  Value : Tree → Response
  Items : List Tree → Response
  Results : List Tree → Bool → Response
  End : Response
  Error : Fault → Response

-- where a client's batches stand
pub data Continuation : Type 0 where
  Never : Continuation
  At : Tree → ℕ → Tree → Continuation
  AtEnd : Continuation

-- A batch is of a specification, has at least one result, and goes on behind a key that fits.
abbrev pub IsContinuation : Continuation → Type 0
IsContinuation Never = Unit {0}
IsContinuation (At spec limit key) = IsSpecification spec × (1 ≤ limit) × (fits key ≡ true)
IsContinuation AtEnd = Unit {0}

-- why a command has no reply: the table has no room, no depth or no numbers left
pub data Refusal : Type 0 where
  Full : Refusal
  Deep : Refusal
  Worn : Refusal

-- the answer to a command: its reply, or a refusal
abbrev pub Answer : Type 0
Answer = Result Response Refusal

abbrev pub response_of : Reply → Response
response_of (reply.Truth b) = Truth b
response_of (reply.Value t) = Value t
response_of (reply.List ts) = Items ts.items
response_of (reply.Batch ts more) = Results ts.items more
response_of (reply.Coded ts) = Items ts
response_of (reply.CodedBatch ts more) = Results ts more
response_of reply.End = End
response_of (reply.Error fault) = Error fault

abbrev pub continuation_of : Cont → Continuation
continuation_of cont.Never = Never
continuation_of (cont.At spec limit key) = At spec limit key
continuation_of cont.AtEnd = AtEnd
