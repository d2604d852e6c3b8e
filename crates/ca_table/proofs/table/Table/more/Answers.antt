use Rattle.std.proofs.Common.{◌≡◌, List, ℕ, arith, length, sym, ap, subst}
use Rattle.ca_ets.specs.declared.command.Cmd.TheVariants.{More}
use Rattle.ca_ets.specs.Command.{At, Continuation, IsContinuation, continuation_of, response_of}
use Rattle.ca_table.specs.ComesTo.{StepsOnce}
use Rattle.ca_model.specs.Edges.{Excluded}
use Rattle.ca_model.specs.Known.{Known}
use Rattle.ca_table.specs.Codes.{HasKeyCode}
use Rattle.ca_table.specs.Collected.{IsBatch, going_on}
use Rattle.ca_table.proofs.Keyed.{key_begins}
use Rattle.ca_table.proofs.Selecting.{behind_place, more_done}
use Rattle.ca_table.proofs.table.Table.more.Goals as goal

pub next_batch-requires-clause-edge : goal.next_batch-requires-clause-edge
next_batch-requires-clause-edge g c =
    let b = behind_place (continuation_of c.args.cont.now) c.in-Ok-Behind.spec c.in-Ok-Behind.limit c.place_of.new.code.items c.requires.continuation
    (rw c.in-Ok-Behind.field-0-is at c.in-Ok-Behind.ensures) in
    (omega (arith, key_begins b.key _ b.code_is, ap length c.as_slice.ensures.value), c.as_slice.ensures.fits)

pub returns-in-Ok-clause-comes : goal.returns-in-Ok-clause-comes
returns-in-Ok-clause-comes g c =
    let old = g.S.OrderedStore.knows c.args.self.now in
    let next = g.S.OrderedStore.knows c.next_batch.new.self in
    let b = behind_place (continuation_of c.args.cont.now) c.in-Ok-Behind.spec c.in-Ok-Behind.limit c.place_of.new.code.items c.requires.continuation
    (rw c.in-Ok-Behind.field-0-is at c.in-Ok-Behind.ensures) in
    let code = subst (λ (x : List ℕ). HasKeyCode b.key x) (sym c.as_slice.ensures.value) b.code_is in
    let goes = going_on c.in-Ok-Behind.spec c.in-Ok-Behind.limit c.in-Ok.next in
    let moved : continuation_of c.go_on.new.cont ≡ goes = c.go_on.ensures c.in-Ok-Behind.spec c.in-Ok-Behind.limit b.key b.is in
    subst (λ (k : Continuation). StepsOnce old next k More (response_of c.in-Ok.reply) (continuation_of c.go_on.new.cont)) (sym b.is)
    (subst (λ (l : Continuation). StepsOnce old next (At c.in-Ok-Behind.spec c.in-Ok-Behind.limit b.key) More (response_of c.in-Ok.reply) l) (sym moved)
    (more_done old next c.in-Ok-Behind.spec b.accepted c.in-Ok-Behind.limit (response_of c.in-Ok.reply) goes b.key c.as_slice.result.now code
    (subst (λ (before : Known). IsBatch before next (Excluded c.as_slice.result.now) c.in-Ok-Behind.spec c.in-Ok-Behind.limit
    (response_of c.in-Ok.reply) goes) (ap g.S.OrderedStore.knows c.take_recent-recent.ensures) c.in-Ok.ensures.batch)))

pub returns-in-Ok-clause-continuation : goal.returns-in-Ok-clause-continuation
returns-in-Ok-clause-continuation g c =
    let b = behind_place (continuation_of c.args.cont.now) c.in-Ok-Behind.spec c.in-Ok-Behind.limit c.place_of.new.code.items c.requires.continuation
    (rw c.in-Ok-Behind.field-0-is at c.in-Ok-Behind.ensures) in
    subst IsContinuation (sym (c.go_on.ensures c.in-Ok-Behind.spec c.in-Ok-Behind.limit b.key b.is)) c.in-Ok.ensures.next
