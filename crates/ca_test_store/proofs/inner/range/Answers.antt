use Rattle.std.proofs.Common.{◌≡◌, true}
use Rattle.ca_model.specs.Edges.{bound_of}
use Rattle.ca_model.specs.Runs.{Opens}
use Rattle.ca_test_store.proofs.Answering.{opened, done_value}
use Rattle.ca_test_store.proofs.inner.range.Goals as goal

pub returns : goal.returns
returns g c =
    opened g.F.Fn c.args.counts.now c.args.objects.now c.range.new.self (bound_of c.args.lo) (bound_of c.args.hi) c.args.want c.value.result
    c.requires.inner c.range.ensures.promised.0 (done_value c.range.result c.value.result (λ whole. whole ≡ true) c.value.ensures c.range.ensures.promised.1)
    (done_value c.range.result c.value.result
    (λ whole. Opens g.F.Fn c.args.counts.now c.args.objects.now c.range.new.self (bound_of c.args.lo) (bound_of c.args.hi) c.args.want whole)
    c.value.ensures c.range.ensures.opens)
