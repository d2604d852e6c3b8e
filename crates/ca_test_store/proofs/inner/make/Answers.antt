use Rattle.std.proofs.Common.{List, sym, subst}
use Rattle.ca_model.specs.History.{Edit}
use Rattle.ca_test_store.specs.Inner.{IsReady, HasMade}
use Rattle.ca_test_store.proofs.Making.{first_ready, rest_ready, more_made}
use Rattle.ca_test_store.proofs.inner.make.Goals as goal

pub make_one-requires : goal.make_one-requires
make_one-requires c =
    first_ready c.loop-edit.objects c.in-Some.edit.now c.in-Some.behind.now
    (subst (λ (es : List Edit). IsReady c.loop-edit.objects es) c.in-Some.ensures.cases.0 c.loop-edit.invariant.ready)

pub loop-edit-preserved : goal.loop-edit-preserved
loop-edit-preserved c =
    let all = subst (λ (es : List Edit). IsReady c.loop-edit.objects es) c.in-Some.ensures.cases.0 c.loop-edit.invariant.ready in
    record {
      ready = rest_ready c.loop-edit.objects c.make_one.new.objects c.in-Some.edit.now c.in-Some.behind.now all c.make_one.ensures;
      leads = λ z made. c.loop-edit.invariant.leads z (subst (λ (es : List Edit). HasMade c.loop-edit.objects z es) (sym c.in-Some.ensures.cases.0)
          (more_made c.loop-edit.objects c.make_one.new.objects z c.in-Some.edit.now c.in-Some.behind.now c.make_one.ensures made));
    }
