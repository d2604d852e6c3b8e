-- The results so far with one more object, which has a result or has none.
use Rattle.std.proofs.Common.{◌≡◌, ◌<◌, ap, sym, subst, ◌∙◌, length, false, true}
use Rattle.std.specs.Prelude.{IfSome, nat_lt}
use Rattle.ca_ets.specs.Selected.{HasFound}
use Rattle.ca_ets.specs.Step.{last_found, results_in}
use Rattle.ca_ets.proofs.Selected.{fewer_still, found_more, last_more, none_longer, none_more, one_longer, some_longer}
use Rattle.ca_ets.proofs.selection.first_results.Goals as goal

pub loop-object-preserved-then-not-branch : goal.loop-object-preserved-then-not-branch
loop-object-preserved-then-not-branch c =
    let none : HasFound c.args.spec.now c.object-item.result false = rw c.if-not-branch.true at c.in_ok-push_result.ensures.found in
    let same =
    none_longer c.args.spec.now c.object-item.result c.loop-object.terms.items c.push_result.new.terms.items none c.in_ok-push_result.ensures.results in
    let stays =
    none_more c.args.keypos c.args.spec.now c.args.objects.now c.loop-object.object-index c.object-item.result c.loop-object-test.true c.object-item.is none in
    record {
      results = same ∙ c.loop-object.invariant.results ∙ ap results_in (sym stays);
      fewer = subst (λ x. length x < c.args.limit) (sym same) c.loop-object.invariant.fewer;
      last = subst (λ x. IfSome c.loop-object.last (λ k. k.now ≡ last_found x)) (sym stays) c.loop-object.invariant.last;
      some = c.loop-object.invariant.some ∙ ap (λ x. nat_lt 0 (length x)) (sym same);
    }

pub loop-object-preserved : goal.loop-object-preserved
loop-object-preserved c =
    let found : HasFound c.args.spec.now c.object-item.result true = rw c.if-not-branch.false at c.in_ok-push_result.ensures.found in
    let longer =
    one_longer c.args.spec.now c.object-item.result c.loop-object.terms.items c.push_result.new.terms.items found c.in_ok-push_result.ensures.results in
    record {
      results = found_more c.args.keypos c.args.spec.now c.args.objects.now c.loop-object.object-index c.object-item.result c.loop-object-test.true
          c.object-item.is c.loop-object.terms.items c.push_result.new.terms.items c.loop-object.invariant.results c.in_ok-push_result.ensures.results;
      fewer = fewer_still (length c.loop-object.terms.items) (length c.push_result.new.terms.items) c.args.limit c.len.result longer
          c.loop-object.invariant.fewer c.len.ensures c.if-len-limit.false;
      last = c.own_key.ensures
          ∙ last_more c.args.keypos c.args.spec.now c.args.objects.now c.loop-object.object-index c.object-item.result c.loop-object-test.true c.object-item.is
          found;
      some = some_longer (length c.loop-object.terms.items) (length c.push_result.new.terms.items) longer;
    }
