use Rattle.std.proofs.Common.{◌≡◌, subst}
use Rattle.ca_join_tests.specs.declared.steps.Stopped.{Stopped}
use Rattle.ca_join_tests.specs.Stopping.{IsPrepared}
use Rattle.ca_join_tests.proofs.Secured.{is_prepared}
use Rattle.ca_join_tests.proofs.steps.mark.Goals as goal

pub returns-in-Ok : goal.returns-in-Ok
returns-in-Ok c = record {
  prepared = λ x e. let b = c.args.begun in let same : (record { pair = b.pair; above = b.above; copies = c.in-Ok.copies }) ≡ x = cc in
      subst (λ (y : Stopped). IsPrepared c.args.space.now c.prepare.new.pass y.pair y.above y.copies) same
      (is_prepared c.args.space.now c.args.pass.now c.prepare.new.pass b.pair b.above c.in-Ok.copies c.requires.begun c.prepare.ensures.frame
      c.in-Ok.ensures.prepared c.in-Ok.ensures.held);
}
