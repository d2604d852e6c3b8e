use Rattle.std.proofs.Common.{[], Result, Ok, Err, ap, sym, ◌∙◌, subst, arith}
use Rattle.std.proofs.lemmas.Result.{err_from_is_err_and}
use Rattle.ca_base.proofs.Counts.{ended_after}
use Rattle.ca_node.specs.Told.{link_word}
use Rattle.ca_node.specs.TreeView.{TreeView}
use Rattle.ca_adapt.specs.Joins.{last_on}
use Rattle.ca_adapt.specs.Pairs.{AreMarkedBoth, Marks}
use Rattle.ca_adapt.proofs.MarkedPairs.{tried_both, tried_lost}
use Rattle.ca_adapt.proofs.Readied.{pinned_both, pinned_of, pinned_still}
use Rattle.ca_base.specs.declared.stop.Stop.{Stop}
use Rattle.ca_adapt.specs.Carrying.{HasPrepared, Holds, held_by}
use Rattle.ca_adapt.specs.declared.carrying.Copies.{Copies}
use Rattle.ca_adapt.specs.Trying.{IsLoneBy}
use Rattle.ca_adapt.proofs.carrying.prepare.Goals as goal

pub returns-in_err-marked-clause-frame : goal.returns-in_err-marked-clause-frame
returns-in_err-marked-clause-frame c = pinned_of c.args.space.now c.args.pass.now
    c.mark_both.new.pass c.mark_both.ensures.frame

pub returns-in_err-marked-clause-held : goal.returns-in_err-marked-clause-held
returns-in_err-marked-clause-held c = let p =
    err_from_is_err_and c.from_residual.result c.from_residual.ensures.1 in
    subst (λ (r : Result Copies Stop). Holds c.args.space.now c.mark_both.new.pass (held_by r))
    (sym (p.1 ∙ ap Err p.2)) c.mark_both.ensures.frame.none

pub returns-in_err-marked-clause-prepared : goal.returns-in_err-marked-clause-prepared
returns-in_err-marked-clause-prepared c = let p =
    err_from_is_err_and c.from_residual.result c.from_residual.ensures.1 in
    let m = c.in_err-marked.ensures.marked in let few = m.1 in
    subst (λ (r : Result Copies Stop). HasPrepared c.args.space.now.table.shared.key c.args.pair
    (last_on (link_word c.args.pair.one.link)
    c.args.pass.now.seat.me.0.upper.notes)
    (last_on (link_word c.args.pair.other.link) c.args.pass.now.seat.me.0.upper.notes) r
    c.args.pass.now.seat.me.0.upper
    c.mark_both.new.pass.seat.me.0.upper) (sym (p.1 ∙ ap Err p.2)) (m.0, omega arith, m.2)

pub returns-in_err-new-clause-frame : goal.returns-in_err-new-clause-frame
returns-in_err-new-clause-frame c = pinned_both c.args.pass.now c.mark_both.new.pass c.take.new.pass
    (pinned_of c.args.space.now c.args.pass.now c.mark_both.new.pass c.mark_both.ensures.frame)
    (pinned_still c.mark_both.new.pass c.take.new.pass c.take.ensures.frame)

pub returns-in_err-new-clause-held : goal.returns-in_err-new-clause-held
returns-in_err-new-clause-held c = let p = err_from_is_err_and c.from_residual-in_err-new.result
    c.from_residual-in_err-new.ensures.1 in
    subst (λ (r : Result Copies Stop). Holds c.args.space.now c.take.new.pass (held_by r))
    (sym (p.1 ∙ ap Err p.2)) (c.in_err-new.ensures.taken []
    (omega arith) c.mark_both.ensures.frame.none)

pub returns-in_err-new-clause-own : goal.returns-in_err-new-clause-own
returns-in_err-new-clause-own c = ap (λ (u : TreeView). u.ranges.own) c.take.ensures.frame.same.4
    ∙ c.mark_both.ensures.frame.own_range

pub returns-in_err-new-clause-prepared : goal.returns-in_err-new-clause-prepared
returns-in_err-new-clause-prepared c = let p =
    err_from_is_err_and c.from_residual-in_err-new.result c.from_residual-in_err-new.ensures.1 in
    subst (λ (r : Result Copies Stop). HasPrepared c.args.space.now.table.shared.key c.args.pair
    (last_on (link_word c.args.pair.one.link)
    c.args.pass.now.seat.me.0.upper.notes)
    (last_on (link_word c.args.pair.other.link) c.args.pass.now.seat.me.0.upper.notes) r
    c.args.pass.now.seat.me.0.upper
    c.take.new.pass.seat.me.0.upper) (sym (p.1 ∙ ap Err p.2)) (
      2,
      omega arith,
      subst (λ (w : TreeView). Marks 2 c.args.pass.now.seat.me.0.upper w)
          (sym c.take.ensures.frame.same.4)
          c.in_ok-marked.ensures.marked.0,
    )

pub returns-in_err-new-clause-counted : goal.returns-in_err-new-clause-counted
returns-in_err-new-clause-counted c = tried_both c.args.spent.now c.mark_both.new.spent
    c.take.new.spent c.args.pass.now.seat.me c.mark_both.new.pass.seat.me
    c.take.new.pass.seat.me c.mark_both.ensures.counted
    (tried_lost c.mark_both.new.spent c.take.new.spent c.mark_both.new.pass.seat.me
    c.take.new.pass.seat.me
    c.take.ensures.counted (ap (λ (u : TreeView). u.turns.passed) c.take.ensures.frame.same.4))

pub returns-in_err-new-clause-found : goal.returns-in_err-new-clause-found
returns-in_err-new-clause-found c = let p = err_from_is_err_and c.from_residual-in_err-new.result
    c.from_residual-in_err-new.ensures.1 in
    let found = c.in_ok-marked.ensures.found in
    rw (p.1, p.2) (ended_after (Err c.in_err-new.field-0.0) c.args.pass.now.seat.me
    c.mark_both.new.pass.seat.me c.take.new.pass.seat.me
    found.0 found.1 c.in_err-new.ensures.found)

pub returns-clause-frame : goal.returns-clause-frame
returns-clause-frame c = pinned_both c.args.pass.now c.mark_both.new.pass c.take.new.pass
    (pinned_of c.args.space.now c.args.pass.now c.mark_both.new.pass c.mark_both.ensures.frame)
    (pinned_still c.mark_both.new.pass c.take.new.pass c.take.ensures.frame)

pub returns-clause-held : goal.returns-clause-held
returns-clause-held c =
    (c.in_ok-new.ensures.taken [] (omega arith) c.mark_both.ensures.frame.none).1

pub returns-clause-own : goal.returns-clause-own
returns-clause-own c = ap (λ (u : TreeView). u.ranges.own) c.take.ensures.frame.same.4
    ∙ c.mark_both.ensures.frame.own_range

pub returns-clause-prepared : goal.returns-clause-prepared
returns-clause-prepared c = let z = c.args.space.now.table.shared.key in let u =
    c.args.pass.now.seat.me.0.upper in
    subst (λ (w : TreeView). AreMarkedBoth z c.args.pair
    (last_on (link_word c.args.pair.one.link) u.notes)
    (last_on (link_word c.args.pair.other.link) u.notes)
    (Ok c.in_ok-marked.marked) u w) (sym c.take.ensures.frame.same.4) c.in_ok-marked.ensures.marked

pub returns-clause-counted : goal.returns-clause-counted
returns-clause-counted c = tried_both c.args.spent.now c.mark_both.new.spent c.take.new.spent
    c.args.pass.now.seat.me c.mark_both.new.pass.seat.me
    c.take.new.pass.seat.me c.mark_both.ensures.counted
    (tried_lost c.mark_both.new.spent c.take.new.spent c.mark_both.new.pass.seat.me
    c.take.new.pass.seat.me
    c.take.ensures.counted (ap (λ (u : TreeView). u.turns.passed) c.take.ensures.frame.same.4))

pub returns-clause-found : goal.returns-clause-found
returns-clause-found c = let found = c.in_ok-marked.ensures.found in
    ended_after (Ok tt) c.args.pass.now.seat.me c.mark_both.new.pass.seat.me c.take.new.pass.seat.me
    found.0 found.1 c.in_ok-new.ensures.found

pub returns-in_err-new-clause-alone : goal.returns-in_err-new-clause-alone
returns-in_err-new-clause-alone c alone listed there =
    subst (λ (w : TreeView). IsLoneBy 0 c.args.pass.now.seat.me.0.upper w)
    (sym c.take.ensures.frame.same.4)
    (c.mark_both.ensures.alone alone listed there)

pub returns-clause-alone : goal.returns-clause-alone
returns-clause-alone c alone listed there = subst
    (λ (w : TreeView). IsLoneBy 0 c.args.pass.now.seat.me.0.upper w)
    (sym c.take.ensures.frame.same.4)
    (c.mark_both.ensures.alone alone listed there)
