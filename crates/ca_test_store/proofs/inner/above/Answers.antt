use Rattle.ca_model.specs.Edges.{bound_of}
use Rattle.ca_model.specs.Answer.{FoundAbove}
use Rattle.ca_test_store.proofs.Answering.{above, done_value}
use Rattle.ca_test_store.proofs.inner.above.Goals as goal

pub returns : goal.returns
returns c =
    above c.args.objects.now c.above.new.self c.requires.inner c.above.ensures.promised c.above.ensures.closed (bound_of c.args.lo) c.value.result
    c.above.new.into.items
    (done_value c.above.result c.value.result (λ found. FoundAbove c.args.objects.now c.above.new.self (bound_of c.args.lo) found c.above.new.into.items)
    c.value.ensures c.above.ensures.found)
