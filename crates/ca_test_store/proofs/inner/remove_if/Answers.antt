use Rattle.ca_model.specs.Answer.{RemovedIf}
use Rattle.ca_test_store.proofs.Answering.{removed_if, done_value}
use Rattle.ca_test_store.proofs.inner.remove_if.Goals as goal

pub returns : goal.returns
returns g c =
    removed_if c.args.objects.now c.remove_if.new.self c.requires.inner c.remove_if.ensures.promised c.remove_if.ensures.closed
    c.args.key.now g.F.Fn c.args.f.now c.value.result
    c.remove_if.new.old.items
    (done_value c.remove_if.result c.value.result
    (λ changed. RemovedIf g.F.Fn c.args.f.now c.args.objects.now c.remove_if.new.self c.args.key.now changed c.remove_if.new.old.items)
    c.value.ensures c.remove_if.ensures.removed)
