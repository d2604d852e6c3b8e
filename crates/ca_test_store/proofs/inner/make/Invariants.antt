use Rattle.std.proofs.Common.{length}
use Rattle.ca_model.specs.Known.{Known}
use Rattle.ca_test_store.specs.Inner.{IsReady, HasMade}
use Rattle.ca_test_store.proofs.inner.make.Given as goal

abbrev pub invariant-loop-edit : goal.invariant-loop-edit
invariant-loop-edit l = record {
  ready : IsReady l.objects l.rest;
  leads : (z : Known) → HasMade l.objects z l.rest → HasMade l.fn.objects z l.fn.edits;
}

abbrev pub decreases-loop-edit : goal.decreases-loop-edit
decreases-loop-edit l = length l.rest
