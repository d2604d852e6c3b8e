use Rattle.std.proofs.Common.{List, sym, subst}
use Rattle.ca_model.specs.History.{Edit}
use Rattle.ca_test_store.specs.Script.{AreProper}
use Rattle.ca_store_tests.proofs.Objects.{proper_added}
use Rattle.ca_store_tests.proofs.edit.edits.Goals as goal

pub loop-line-preserved : goal.loop-line-preserved
loop-line-preserved c =
    subst (λ (es : List Edit). AreProper c.args.keypos es) (sym c.in-Ok.ensures.items)
    (proper_added c.args.keypos c.loop-line.edits.items c.in-Some.edit c.loop-line.invariant c.in-Some.ensures)
