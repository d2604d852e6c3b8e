use Rattle.std.specs.List.{slice_range}
use Rattle.ca_model.specs.Event.{Write}
use Rattle.ca_model.specs.Known.{Meets}
use Rattle.ca_test_store.proofs.Answering.{answered, done_value}
use Rattle.ca_test_store.proofs.inner.put.Goals as goal

pub returns : goal.returns
returns c =
    let event = Write (slice_range c.args.object.now c.args.key_at c.args.key_end) c.args.object.now in
    answered c.args.objects.now c.put.new.self 1 event c.requires.inner c.put.ensures.promised c.put.ensures.closed
    (done_value c.put.result c.value.result (λ x. Meets c.args.objects.now c.put.new.self event) c.value.ensures c.put.ensures.put)
