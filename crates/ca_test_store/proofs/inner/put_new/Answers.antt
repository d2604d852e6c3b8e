use Rattle.std.specs.Prelude.{Bool}
use Rattle.std.specs.List.{slice_range}
use Rattle.ca_model.specs.Event.{Event, WriteNew}
use Rattle.ca_model.specs.Known.{Meets}
use Rattle.ca_test_store.proofs.Answering.{answered, done_value}
use Rattle.ca_test_store.proofs.inner.put_new.Goals as goal

pub returns : goal.returns
returns c =
    let event : Bool → Event = λ new. WriteNew (slice_range c.args.object.now c.args.key_at c.args.key_end) c.args.object.now new in
    answered c.args.objects.now c.put_new.new.self 1 (event c.value.result) c.requires.inner c.put_new.ensures.promised c.put_new.ensures.closed
    (done_value c.put_new.result c.value.result (λ new. Meets c.args.objects.now c.put_new.new.self (event new)) c.value.ensures c.put_new.ensures.put)
