use Rattle.std.proofs.Common.{◌∙◌, set, List, Option, ℕ, sym, ap, subst, arith}
use Rattle.ca_range.specs.Meeting.{AreMet}
use Rattle.ca_range.proofs.Noting.{watched_met}
use Rattle.ca_range.proofs.watching.watch.Goals as goal

pub returns-then-owner-number-clause-met : goal.returns-then-owner-number-clause-met
returns-then-owner-number-clause-met c = let w = c.load_status-state.ensures.watched in let u = c.load_status-state.new.pass.seat.me.0.upper in
    let numbers = c.args.account.now.met.numbers in let hi = c.requires.owner.1 in
    subst (λ (xs : List (Option ℕ)). AreMet xs u.ranges.unfinished)
    (sym (c.note.ensures.numbers ∙ ap (set numbers c.args.owner) (c.active.ensures w.0 w.1)))
    (watched_met numbers c.args.pass.now.seat.me c.load_status-state.new.pass.seat.me c.args.owner w.0 (omega arith)
    (λ e. c.if-owner-number.true (e ∙ sym (c.number.ensures ∙ (c.load_status-state.ensures.frame.number ∙ c.requires.number)))) w.2 c.requires.met)
