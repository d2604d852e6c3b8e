use Rattle.std.proofs.Common.{◌≡◌, ◌∙◌, sym, ap, subst}
use Rattle.ca_term.specs.Tree.{Tree}
use Rattle.ca_model.specs.Edges.{Unbounded}
use Rattle.ca_ets.specs.Command.{Continuation, IsContinuation, continuation_of, response_of}
use Rattle.ca_table.specs.Collected.{IsBatch, going_on}
use Rattle.ca_table.proofs.Selecting.{batch_done}
use Rattle.ca_table.proofs.table.Table.batch.Goals as goal

pub returns-in-Ok-next_batch-clause-comes : goal.returns-in-Ok-next_batch-clause-comes
returns-in-Ok-next_batch-clause-comes g c =
    let old = g.S.OrderedStore.knows c.args.self.now in
    let next = g.S.OrderedStore.knows c.next_batch.new.self in
    let h = rw c.in-Some-compiled.is at c.in-Ok.ensures in
    let own = c.in-Some-compiled.spec in
    let limit = c.in-Some.limit in
    let response = response_of c.in-Ok-next_batch.reply in
    let moved : continuation_of c.begun.result ≡ going_on own limit c.in-Ok-next_batch.next =
    c.begun.ensures ∙ ap (λ (t : Tree). going_on t limit c.in-Ok-next_batch.next) (c.in-Ok-try_copy.ensures.ok ∙ c.source.ensures.term) in
    batch_done old next c.args.spec.now h.1 limit response (continuation_of c.begun.result) c.args.limit.now (continuation_of c.args.cont.now)
    (sym c.in-Some.ensures)
    (subst (λ (s : Tree). IsBatch old next Unbounded s limit response (continuation_of c.begun.result)) h.0
    (subst (λ (k : Continuation). IsBatch old next Unbounded own limit response k) (sym moved) c.in-Ok-next_batch.ensures.batch))

pub returns-in-Ok-next_batch-clause-continuation : goal.returns-in-Ok-next_batch-clause-continuation
returns-in-Ok-next_batch-clause-continuation g c =
    let moved : continuation_of c.begun.result ≡ going_on c.in-Some-compiled.spec c.in-Some.limit c.in-Ok-next_batch.next =
    c.begun.ensures ∙ ap (λ (t : Tree). going_on t c.in-Some.limit c.in-Ok-next_batch.next) (c.in-Ok-try_copy.ensures.ok ∙ c.source.ensures.term) in
    subst IsContinuation (sym moved) c.in-Ok-next_batch.ensures.next
