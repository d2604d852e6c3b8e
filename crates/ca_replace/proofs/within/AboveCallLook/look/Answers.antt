use Rattle.std.proofs.Common.{rules, ◌+◌, ◌*◌, refl, ap, arith}
use Rattle.ca_model.specs.Edges.{bound_of}
use Rattle.ca_replace.specs.LoneReads.{bases_at}
use Rattle.ca_replace.specs.Within.{NeedsAbove, above_event}
use Rattle.ca_replace.proofs.LoneReads.{passes_both, passes_entered, passes_within}
use Rattle.ca_replace.proofs.Misses.{missed_needs}
use Rattle.ca_replace.proofs.Needing.{needs_above}
use Rattle.ca_replace.proofs.Runs.{finds_above, first_read, learnt_done, learnt_unanswered, run_ordered}
use Rattle.ca_node.specs.Told.{MyTree}
use Rattle.ca_replace.proofs.within.AboveCallLook.look.Goals as goal

pub read_first-requires-clause-ordered : goal.read_first-requires-clause-ordered
read_first-requires-clause-ordered c = run_ordered _ _ c.in-Ok.ensures.run

pub read_first-requires-clause-answers : goal.read_first-requires-clause-answers
read_first-requires-clause-answers c = first_read _ _ c.in-Ok.ensures.run refl refl
    (learnt_unanswered c.args.tree.now.space.table.shared.key c.args.pass.now.seat.me.0.upper
    c.snap.new.pass.seat.me.0.upper
    c.requires.fresh.at_pin c.requires.work.known c.in-Ok.ensures.learnt)

pub returns-in-Ok-clause-tried : goal.returns-in-Ok-clause-tried
returns-in-Ok-clause-tried c = let lo = bound_of c.args.self.now.lo in
    let event = above_event lo c.read_first.result c.read_first.new.into.items in
    let done = learnt_done c.args.tree.now.space.table.shared.key c.args.pass.now.seat.me.0.upper
    c.snap.new.pass.seat.me
    c.read_first.new.pass.seat.me event c.requires.fresh.at_pin c.in-Ok.ensures.learnt
    c.read_first.ensures.entered in (
      (
        event,
        finds_above lo c.read_first.result c.read_first.new.into.items
            c.read_first.ensures.emptied,
        done.0,
      ),
      done.1,
      done.2,
    )

pub returns-in-Err-clause-missed : goal.returns-in-Err-clause-missed
returns-in-Err-clause-missed c = missed_needs _ (NeedsAbove (bound_of c.args.self.now.lo))
    (λ note n. needs_above _ _ note n refl refl (λ o says. search rules)) c.args.budget
    c.snap.new.spent c.in-Err.why c.args.pass.now.seat.me c.snap.new.pass.seat.me
    c.in-Err.ensures.missed

pub returns-in-Ok-clause-loads : goal.returns-in-Ok-clause-loads
returns-in-Ok-clause-loads c = let few = c.snap.ensures.loads in
    let same = ap (λ (x : MyTree). x.0.upper.loads) c.read_first.ensures.entered.now in omega arith

pub returns-in-Err-clause-loads : goal.returns-in-Err-clause-loads
returns-in-Err-clause-loads c = let few = c.snap.ensures.loads in omega arith

pub returns-in-Ok-clause-alone : goal.returns-in-Ok-clause-alone
returns-in-Ok-clause-alone c alone = let m = c.args.pass.now.seat.me in
    let n = c.snap.new.pass.seat.me in let p = c.read_first.new.pass.seat.me in (
      passes_within (bases_at m + 0) (2 * bases_at m) m p (omega arith)
          (passes_both (bases_at m) 0 m n p (c.snap.ensures.alone alone).0
          (passes_entered _ n p c.read_first.ensures.entered)),
      tt,
    )

pub returns-in-Err-clause-alone : goal.returns-in-Err-clause-alone
returns-in-Err-clause-alone c alone = let m = c.args.pass.now.seat.me in
    let did = c.in-Err.ensures.alone alone in (
      passes_within (bases_at m) (2 * bases_at m) m c.snap.new.pass.seat.me (omega arith) did.0,
      did.1,
    )

pub snap-requires-clause-none_met : goal.snap-requires-clause-none_met
snap-requires-clause-none_met c = c.requires.fresh.none_met
