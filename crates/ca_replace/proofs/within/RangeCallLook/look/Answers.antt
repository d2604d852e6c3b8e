use Rattle.std.proofs.Common.{◌≡◌, ◌+◌, ◌*◌, ◌∙◌, List, ℕ, ap, subst, sym, arith}
use Rattle.ca_model.specs.Edges.{Bound, bound_of, objects_of, within}
use Rattle.ca_model.specs.Event.{Range}
use Rattle.ca_model.specs.StoreMap.{IsStoreMap}
use Rattle.ca_node.specs.Told.{IsKnown, MyTree}
use Rattle.ca_range.specs.Snapshots.{IsRemembered}
use Rattle.ca_replace.specs.Acts.{acts_of}
use Rattle.ca_replace.specs.Attempting.{HasDoneSuch}
use Rattle.ca_replace.specs.LoneReads.{PassesAlone, bases_at}
use Rattle.ca_replace.specs.Running.{IsOpenRun, all_of, left_of}
use Rattle.ca_replace.specs.Within.{HasOpened, cut_of, range_event}
use Rattle.ca_replace.proofs.LoneReads.{passes_both, passes_entered, passes_within}
use Rattle.ca_replace.proofs.Runs.{last_inside, learnt_done, learnt_unanswered, remembered_entered, run_end, run_ordered, run_reaches, run_read}
use Rattle.ca_replace.proofs.within.RangeCallLook.look.Goals as goal

pub enter_run-requires-clause-inside : goal.enter_run-requires-clause-inside
enter_run-requires-clause-inside g c = last_inside c.args.tree.now.space.table.shared.key
    c.snap.new.pass.seat.me.0.upper
    c.in-Ok.run' c.in-Ok.ensures.run.remembered

pub enter_run-requires-clause-answer : goal.enter_run-requires-clause-answer
enter_run-requires-clause-answer g c = run_read _ _ c.in-Ok.ensures.run
    (learnt_unanswered c.args.tree.now.space.table.shared.key c.args.pass.now.seat.me.0.upper
    c.snap.new.pass.seat.me.0.upper
    c.requires.fresh.at_pin c.requires.work.known c.in-Ok.ensures.learnt)

pub open_run-requires-clause-remembered : goal.open_run-requires-clause-remembered
open_run-requires-clause-remembered g c = let z = c.args.tree.now.space.table.shared.key in
    let u = c.snap.new.pass.seat.me.0.upper in let run = c.in-Ok.run' in
    let sought = c.args.self.now.sought in
    let e = c.enter_run.ensures.entered in
    subst (λ (m : MyTree). IsRemembered z m.0.upper run) (sym e.now)
    (remembered_entered z u run (range_event run u (bound_of sought.lo) (bound_of sought.hi)) e.at
    c.in-Ok.ensures.run.remembered)

pub open_run-requires-clause-ordered : goal.open_run-requires-clause-ordered
open_run-requires-clause-ordered g c = subst
    (λ (m : MyTree). IsStoreMap c.args.tree.now.space.table.shared.key.keypos
    (all_of c.in-Ok.run' m.0.upper))
    (sym c.enter_run.ensures.entered.now) (run_ordered _ _ c.in-Ok.ensures.run)

pub warm-requires-clause-opened : goal.warm-requires-clause-opened
warm-requires-clause-opened g c =
    subst (λ (m : MyTree). IsOpenRun c.args.tree.now.space.table.shared.key m.0.upper
    c.open_run.new.run)
    (sym c.open_run.ensures.frame.still) c.open_run.ensures.opened

pub returns-in-Ok-clause-tried : goal.returns-in-Ok-clause-tried
returns-in-Ok-clause-tried g c = let z = c.args.tree.now.space.table.shared.key in
    let sought = c.args.self.now.sought in let lo = bound_of sought.lo in
    let hi = bound_of sought.hi in
    let before = c.args.pass.now.seat.me.0.upper in let m = c.snap.new.pass.seat.me in
    let u = m.0.upper in
    let n = c.enter_run.new.pass.seat.me in let v = n.0.upper in let run = c.in-Ok.run' in
    let opened = c.open_run.new.run in let h = c.in-Ok.ensures.run in
    let e = c.enter_run.ensures.entered in
    let event = range_event run u lo hi in
    let done = learnt_done z before m n event c.requires.fresh.at_pin c.in-Ok.ensures.learnt e in
    let are : left_of v opened ≡ objects_of (within lo (cut_of run u hi) (all_of run u)) = subst
    (λ (x : MyTree). left_of v opened ≡ objects_of (within lo (bound_of c.end_of-end.result)
    (all_of run x.0.upper))) e.now
    c.open_run.ensures.left
    ∙ (ap (λ (b : Bound). objects_of (within lo b (all_of run u))) c.end_of-end.ensures
    ∙ ap objects_of (run_end _ _ h)) in
    subst (λ (x : MyTree). HasDoneSuch (HasOpened g.F.Fn sought z run.whole opened x.0.upper) before
    x.0.upper × IsKnown z x.0.upper
    × (acts_of x.0.upper ≡ acts_of before))
    (sym (c.warm.ensures.frame.still ∙ c.open_run.ensures.frame.still)) (
      (
        event,
        record {
          opened = c.open_run.ensures.opened;
          cut = cut_of run u hi;
          event_is = ap (λ (x : List (List ℕ)). Range lo hi (cut_of run u hi) x) (sym are);
          reaches = run_reaches _ _ h (left_of v opened) are;
        },
        done.0,
      ),
      done.1,
      done.2,
    )

pub returns-in-Ok-clause-loads : goal.returns-in-Ok-clause-loads
returns-in-Ok-clause-loads g c = let few = c.snap.ensures.loads in
    let same = ap (λ (x : MyTree). x.0.upper.loads) c.enter_run.ensures.entered.now in
    let read = ap (λ (x : MyTree). x.0.upper.loads) (c.warm.ensures.frame.still
    ∙ c.open_run.ensures.frame.still) in omega arith

pub returns-in-Err-clause-loads : goal.returns-in-Err-clause-loads
returns-in-Err-clause-loads g c = let few = c.snap.ensures.loads in omega arith

pub returns-in-Ok-clause-alone : goal.returns-in-Ok-clause-alone
returns-in-Ok-clause-alone g c alone = let m = c.args.pass.now.seat.me in
    let n = c.snap.new.pass.seat.me in let p = c.enter_run.new.pass.seat.me in
    subst (λ (x : MyTree). PassesAlone (2 * bases_at m) m x × Unit {0})
    (sym (c.warm.ensures.frame.still ∙ c.open_run.ensures.frame.still)) (
      passes_within (bases_at m + 0) (2 * bases_at m) m p (omega arith)
          (passes_both (bases_at m) 0 m n p (c.snap.ensures.alone alone).0
          (passes_entered _ n p c.enter_run.ensures.entered)),
      tt,
    )

pub returns-in-Err-clause-alone : goal.returns-in-Err-clause-alone
returns-in-Err-clause-alone g c alone = let m = c.args.pass.now.seat.me in
    let did = c.in-Err.ensures.alone alone in (
      passes_within (bases_at m) (2 * bases_at m) m c.snap.new.pass.seat.me (omega arith) did.0,
      did.1,
    )

pub snap-requires-clause-none_met : goal.snap-requires-clause-none_met
snap-requires-clause-none_met g c = c.requires.fresh.none_met
