use Rattle.std.proofs.Common.{◌≡◌, subst}
use Rattle.ca_adapt.specs.declared.carrying.Uniting.{Uniting}
use Rattle.ca_adapt.proofs.Securing.{remembered_by, securing_both}
use Rattle.ca_join_tests.specs.Stopping.{IsSecured}
use Rattle.ca_join_tests.proofs.Secured.{is_secured}
use Rattle.ca_join_tests.proofs.steps.secure.Goals as goal

pub secure_join-requires-clause-securing : goal.secure_join-requires-clause-securing
secure_join-requires-clause-securing c = let h = c.requires.prepared in let z = c.args.space.now.table.shared.key in let s = c.args.stopped in
    securing_both z c.args.pass.now.seat.me s.pair s.copies.marked h.one h.other h.securable h.reading.pinned
    (remembered_by z c.args.pass.now.seat.me.0.upper s.pair.attempt.route s.above h.hung)

pub returns : goal.returns
returns c = record {
  secured = λ x e. let same : (record {
    attempt = c.args.stopped.pair.attempt;
    above = c.args.stopped.above;
    left = c.in_order-left.result.0;
    right = c.in_order-left.result.1;
    new = c.args.stopped.copies.new;
  }) ≡ x = cc in
      subst (λ (y : Uniting). IsSecured c.args.space.now c.secure_join.new.pass y) same
      (is_secured c.args.space.now c.args.pass.now c.secure_join.new.pass c.args.stopped.pair c.args.stopped.above c.args.stopped.copies
      c.requires.prepared c.in_order-left.result c.secure_join.ensures.frame c.if-not-secure_join.ensures.done c.in_order-left.ensures);
}
