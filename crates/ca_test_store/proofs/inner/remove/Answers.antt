use Rattle.ca_model.specs.Answer.{Removed}
use Rattle.ca_test_store.proofs.Answering.{removed, done_value}
use Rattle.ca_test_store.proofs.inner.remove.Goals as goal

pub returns : goal.returns
returns c =
    removed c.args.objects.now c.remove.new.self c.requires.inner c.remove.ensures.promised c.remove.ensures.closed
    c.args.key.now c.value.result c.remove.new.old.items
    (done_value c.remove.result c.value.result (λ was. Removed c.args.objects.now c.remove.new.self c.args.key.now was c.remove.new.old.items)
    c.value.ensures c.remove.ensures.removed)
