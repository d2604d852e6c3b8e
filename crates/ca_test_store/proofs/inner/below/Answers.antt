use Rattle.ca_model.specs.Edges.{bound_of}
use Rattle.ca_model.specs.Answer.{FoundBelow}
use Rattle.ca_test_store.proofs.Answering.{below, done_value}
use Rattle.ca_test_store.proofs.inner.below.Goals as goal

pub returns : goal.returns
returns c =
    below c.args.objects.now c.below.new.self c.requires.inner c.below.ensures.promised c.below.ensures.closed (bound_of c.args.hi) c.value.result
    c.below.new.into.items
    (done_value c.below.result c.value.result (λ found. FoundBelow c.args.objects.now c.below.new.self (bound_of c.args.hi) found c.below.new.into.items)
    c.value.ensures c.below.ensures.found)
