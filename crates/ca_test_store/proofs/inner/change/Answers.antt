use Rattle.ca_model.specs.Answer.{Altered}
use Rattle.ca_test_store.proofs.Answering.{altered, done_value}
use Rattle.ca_test_store.proofs.inner.change.Goals as goal

pub returns : goal.returns
returns g c =
    altered c.args.objects.now c.change.new.self c.requires.inner c.change.ensures.promised c.change.ensures.closed
    c.args.key.now g.F.Fn c.args.f.now c.value.result
    c.change.new.old.items
    (done_value c.change.result c.value.result
    (λ changed. Altered g.F.Fn c.args.f.now c.args.objects.now c.change.new.self c.args.key.now changed c.change.new.old.items)
    c.value.ensures c.change.ensures.changed)
