use Rattle.std.proofs.Common.{◌<◌, ℕ, ◌∷◌, [], ap, sym, refl, ◌∙◌, subst, arith}
use Rattle.ca_base.specs.Counting.{losses}
use Rattle.ca_base.specs.Taking.{lent_of}
use Rattle.ca_node.specs.JoinSteps.{attempt_of, joins_secured, joins_too_late, own_too_late, securing}
use Rattle.ca_node.specs.Laws.{in_nothing}
use Rattle.ca_node.specs.Told.{MyTree}
use Rattle.ca_node.specs.TreeView.{Quiet, Secured, TreeView, one_overtaken}
use Rattle.ca_adapt.specs.Trying.{IsJoinSteps}
use Rattle.ca_adapt.proofs.Concluded.{concluded_late, concluded_lost, concluded_won, own_steps}
use Rattle.ca_adapt.proofs.JoinHeld.{raised_held, relinked_held}
use Rattle.ca_adapt.proofs.MarkedPairs.{tried_both, tried_lost, tried_none}
use Rattle.ca_adapt.proofs.Readied.{pinned_both, pinned_keeps, pinned_still, reading_then}
use Rattle.ca_adapt.proofs.Securing.{inside_by, remembered_by, securing_both, uniting_both}
use Rattle.ca_adapt.proofs.TrySteps.{steps_both}
use Rattle.ca_adapt.proofs.LoneTries.{lone_both, lone_none}
use Rattle.ca_node.specs.States.{IsAlone}
use Rattle.ca_adapt.proofs.carrying.conclude.Goals as goal

pub secure_join-requires-clause-inside : goal.secure_join-requires-clause-inside
secure_join-requires-clause-inside c = inside_by c.args.space.now.table.shared.key
    c.args.pass.now.seat.me.0.upper c.args.pair.attempt.route c.args.above
    c.requires.hung

pub secure_join-requires-clause-securing : goal.secure_join-requires-clause-securing
secure_join-requires-clause-securing c = securing_both c.args.space.now.table.shared.key
    c.args.pass.now.seat.me c.args.pair c.args.copies.marked
    c.requires.securable.0 c.requires.securable.1 c.requires.securable.2 c.requires.reading.pinned
    (remembered_by c.args.space.now.table.shared.key c.args.pass.now.seat.me.0.upper
    c.args.pair.attempt.route c.args.above c.requires.hung)

pub give_back-requires-clause-held : goal.give_back-requires-clause-held
give_back-requires-clause-held c = let m = c.args.pass.now in let n = c.secure_join.new.pass in
    let x = attempt_of c.args.pair.attempt.route c.args.pair.attempt.number in (
      [],
      in_nothing c.args.copies.new [] refl,
      raised_held c.args.space.now.table.shared.key.rows m.kept n.kept m.seat.me n.seat.me
          (c.args.copies.new ∷ []) (own_too_late x m.seat.me.0.upper)
          c.secure_join.ensures.frame.kept (ap lent_of (sym c.requires.securable.2.own))
          (omega arith) c.requires.held c.if-not-secure_join.ensures.done,
    )

pub returns-then-not-secure_join-clause-frame : goal.returns-then-not-secure_join-clause-frame
returns-then-not-secure_join-clause-frame c = let e = c.if-not-secure_join.ensures.done in
    pinned_both c.args.pass.now c.secure_join.new.pass c.give_back.new.pass
    (pinned_keeps c.args.pass.now c.secure_join.new.pass c.secure_join.ensures.frame
    (ap (λ (y : MyTree). y.0.sizes) e) (ap (λ (y : MyTree). y.0.pin) e)
    (ap (λ (y : MyTree). y.0.upper.splits) e) (ap (λ (y : MyTree). y.0.upper.joins) e))
    (pinned_still c.secure_join.new.pass c.give_back.new.pass c.give_back.ensures.frame)

pub returns-then-not-secure_join-clause-none : goal.returns-then-not-secure_join-clause-none
returns-then-not-secure_join-clause-none c = let m = c.args.pass.now in let n =
    c.secure_join.new.pass in
    let x = attempt_of c.args.pair.attempt.route c.args.pair.attempt.number in
    c.give_back.ensures.given [] (in_nothing c.args.copies.new [] refl)
    (raised_held c.args.space.now.table.shared.key.rows m.kept n.kept m.seat.me n.seat.me
    (c.args.copies.new ∷ []) (own_too_late x m.seat.me.0.upper)
    c.secure_join.ensures.frame.kept (ap lent_of (sym c.requires.securable.2.own)) (omega arith)
    c.requires.held c.if-not-secure_join.ensures.done)

pub returns-then-not-secure_join-clause-own : goal.returns-then-not-secure_join-clause-own
returns-then-not-secure_join-clause-own c = ap (λ (u : TreeView). u.ranges.own)
    c.give_back.ensures.frame.same.4
    ∙ ap (λ (y : MyTree). y.0.upper.ranges.own) c.if-not-secure_join.ensures.done

pub returns-then-not-secure_join-clause-steps : goal.returns-then-not-secure_join-clause-steps
returns-then-not-secure_join-clause-steps c = let u = c.args.pass.now.seat.me.0.upper in let z =
    c.args.space.now.table.shared.key in
    let x = attempt_of c.args.pair.attempt.route c.args.pair.attempt.number in
    subst (λ (v : TreeView). IsJoinSteps z u v)
    (sym (c.give_back.ensures.frame.same.4 ∙ ap (λ (y : MyTree). y.0.upper)
    c.if-not-secure_join.ensures.done))
    (own_steps z u Quiet (joins_too_late x u.ranges.joins) (one_overtaken u.tries))

pub returns-then-not-secure_join-clause-done : goal.returns-then-not-secure_join-clause-done
returns-then-not-secure_join-clause-done c = concluded_late c.args.pair.attempt
    c.args.pass.now.seat.me
    c.secure_join.new.pass.seat.me c.give_back.new.pass.seat.me c.if-not-secure_join.ensures.done
    c.give_back.ensures.frame.same.4 c.give_back.ensures.met

pub returns-then-not-secure_join-clause-counted : goal.returns-then-not-secure_join-clause-counted
returns-then-not-secure_join-clause-counted c = let e = c.if-not-secure_join.ensures.done in
    tried_both c.args.spent.now c.args.spent.now c.give_back.new.spent c.args.pass.now.seat.me
    c.secure_join.new.pass.seat.me c.give_back.new.pass.seat.me
    (tried_none c.args.spent.now c.args.pass.now.seat.me c.secure_join.new.pass.seat.me
    (ap losses e) (ap (λ (y : MyTree). y.0.upper.turns.passed) e))
    (tried_lost c.args.spent.now c.give_back.new.spent c.secure_join.new.pass.seat.me
    c.give_back.new.pass.seat.me c.give_back.ensures.counted
    (ap (λ (u : TreeView). u.turns.passed) c.give_back.ensures.frame.same.4))

pub unite-requires-clause-reading : goal.unite-requires-clause-reading
unite-requires-clause-reading c = let e = c.if-not-secure_join.ensures.done in
    reading_then c.args.space.now c.args.pass.now c.secure_join.new.pass c.requires.reading
    (pinned_keeps c.args.pass.now c.secure_join.new.pass c.secure_join.ensures.frame
    (ap (λ (y : MyTree). y.0.sizes) e) (ap (λ (y : MyTree). y.0.pin) e)
    (ap (λ (y : MyTree). y.0.upper.splits) e) (ap (λ (y : MyTree). y.0.upper.joins) e))

pub unite-requires-clause-number : goal.unite-requires-clause-number
unite-requires-clause-number c = subst (λ (n : ℕ). 0 < n)
    (sym (ap (λ (y : MyTree). y.0.upper.number) c.if-not-secure_join.ensures.done))
    c.requires.securable.2.is_pass

pub unite-requires-clause-uniting : goal.unite-requires-clause-uniting
unite-requires-clause-uniting c = uniting_both c.args.space.now.table.shared.key
    c.args.pass.now.seat.me c.args.pair c.args.copies.marked
    c.requires.securable.0 c.requires.securable.1 c.requires.securable.2 c.args.above
    c.in_order-left.result c.args.copies.new
    c.secure_join.new.pass.seat.me.0.upper
    (ap (λ (y : MyTree). y.0.upper) c.if-not-secure_join.ensures.done) c.requires.hung
    c.in_order-left.ensures

pub unite-requires-clause-held : goal.unite-requires-clause-held
unite-requires-clause-held c = let m = c.args.pass.now in let n = c.secure_join.new.pass in
    let x = attempt_of c.args.pair.attempt.route c.args.pair.attempt.number in
    relinked_held c.args.space.now.table.shared.key.rows m.kept n.kept m.seat.me n.seat.me
    (c.args.copies.new ∷ []) (securing x m.seat.me.0.upper)
    c.secure_join.ensures.frame.kept (ap lent_of (sym c.requires.securable.2.own)) (omega arith)
    c.requires.held c.if-not-secure_join.ensures.done

pub unite-requires-clause-own : goal.unite-requires-clause-own
unite-requires-clause-own c = ap (λ (y : MyTree). y.0.upper.ranges.own)
    c.if-not-secure_join.ensures.done

pub returns-then-unite-clause-frame : goal.returns-then-unite-clause-frame
returns-then-unite-clause-frame c = let e = c.if-not-secure_join.ensures.done in
    pinned_both c.args.pass.now c.secure_join.new.pass c.unite.new.pass
    (pinned_keeps c.args.pass.now c.secure_join.new.pass c.secure_join.ensures.frame
    (ap (λ (y : MyTree). y.0.sizes) e) (ap (λ (y : MyTree). y.0.pin) e)
    (ap (λ (y : MyTree). y.0.upper.splits) e) (ap (λ (y : MyTree). y.0.upper.joins) e))
    c.unite.ensures.frame

pub returns-then-unite-clause-steps : goal.returns-then-unite-clause-steps
returns-then-unite-clause-steps c = let u = c.args.pass.now.seat.me.0.upper in let z =
    c.args.space.now.table.shared.key in
    let x = attempt_of c.args.pair.attempt.route c.args.pair.attempt.number in
    steps_both z u c.secure_join.new.pass.seat.me.0.upper c.unite.new.pass.seat.me.0.upper
    (subst (λ (v : TreeView). IsJoinSteps z u v)
    (sym (ap (λ (y : MyTree). y.0.upper) c.if-not-secure_join.ensures.done))
    (own_steps z u (Secured x) (joins_secured x u.ranges.joins) u.tries)) c.unite.ensures.steps

pub returns-then-unite-clause-done : goal.returns-then-unite-clause-done
returns-then-unite-clause-done c = concluded_won c.args.pair.attempt c.args.pass.now.seat.me
    c.secure_join.new.pass.seat.me
    c.unite.new.pass.seat.me c.if-not-secure_join.ensures.done c.if-unite.ensures.united

pub returns-then-unite-clause-counted : goal.returns-then-unite-clause-counted
returns-then-unite-clause-counted c = let e = c.if-not-secure_join.ensures.done in
    tried_both c.args.spent.now c.args.spent.now c.unite.new.spent c.args.pass.now.seat.me
    c.secure_join.new.pass.seat.me c.unite.new.pass.seat.me
    (tried_none c.args.spent.now c.args.pass.now.seat.me c.secure_join.new.pass.seat.me
    (ap losses e) (ap (λ (y : MyTree). y.0.upper.turns.passed) e))
    c.unite.ensures.counted

pub returns-else-unite-clause-frame : goal.returns-else-unite-clause-frame
returns-else-unite-clause-frame c = let e = c.if-not-secure_join.ensures.done in
    pinned_both c.args.pass.now c.secure_join.new.pass c.unite.new.pass
    (pinned_keeps c.args.pass.now c.secure_join.new.pass c.secure_join.ensures.frame
    (ap (λ (y : MyTree). y.0.sizes) e) (ap (λ (y : MyTree). y.0.pin) e)
    (ap (λ (y : MyTree). y.0.upper.splits) e) (ap (λ (y : MyTree). y.0.upper.joins) e))
    c.unite.ensures.frame

pub returns-else-unite-clause-steps : goal.returns-else-unite-clause-steps
returns-else-unite-clause-steps c = let u = c.args.pass.now.seat.me.0.upper in let z =
    c.args.space.now.table.shared.key in
    let x = attempt_of c.args.pair.attempt.route c.args.pair.attempt.number in
    steps_both z u c.secure_join.new.pass.seat.me.0.upper c.unite.new.pass.seat.me.0.upper
    (subst (λ (v : TreeView). IsJoinSteps z u v)
    (sym (ap (λ (y : MyTree). y.0.upper) c.if-not-secure_join.ensures.done))
    (own_steps z u (Secured x) (joins_secured x u.ranges.joins) u.tries)) c.unite.ensures.steps

pub returns-else-unite-clause-done : goal.returns-else-unite-clause-done
returns-else-unite-clause-done c = concluded_lost c.args.pair.attempt c.args.pass.now.seat.me
    c.secure_join.new.pass.seat.me
    c.unite.new.pass.seat.me c.if-not-secure_join.ensures.done c.if-unite.ensures.united

pub returns-else-unite-clause-counted : goal.returns-else-unite-clause-counted
returns-else-unite-clause-counted c = let e = c.if-not-secure_join.ensures.done in
    tried_both c.args.spent.now c.args.spent.now c.unite.new.spent c.args.pass.now.seat.me
    c.secure_join.new.pass.seat.me c.unite.new.pass.seat.me
    (tried_none c.args.spent.now c.args.pass.now.seat.me c.secure_join.new.pass.seat.me
    (ap losses e) (ap (λ (y : MyTree). y.0.upper.turns.passed) e))
    c.unite.ensures.counted

pub returns-then-not-secure_join-clause-alone : goal.returns-then-not-secure_join-clause-alone
returns-then-not-secure_join-clause-alone c alone =
    absurd (c.if-not-secure_join.ensures.several refl alone)

pub returns-then-unite-clause-alone : goal.returns-then-unite-clause-alone
returns-then-unite-clause-alone c alone = let now =
    ap (λ (y : MyTree). y.0.upper) c.if-not-secure_join.ensures.done in
    let u = c.args.pass.now.seat.me.0.upper in let v = c.secure_join.new.pass.seat.me.0.upper in (
      refl,
      lone_both 0 1 u v c.unite.new.pass.seat.me.0.upper
          (lone_none 0 u v (ap (λ (x : TreeView). x.lost) now)
          (ap (λ (x : TreeView). x.inventory) now))
          (c.unite.ensures.alone
          (subst (λ (x : TreeView). IsAlone c.args.space.now.table.shared.key x)
          (sym now) alone)),
    )

pub returns-else-unite-clause-alone : goal.returns-else-unite-clause-alone
returns-else-unite-clause-alone c alone = let now =
    ap (λ (y : MyTree). y.0.upper) c.if-not-secure_join.ensures.done in
    let won = (c.unite.ensures.alone
    (subst (λ (x : TreeView). IsAlone c.args.space.now.table.shared.key x) (sym now)
    alone)).won in
    let lost = c.if-unite.ensures.united.0.lost in absurd (omega (arith, won, lost))
