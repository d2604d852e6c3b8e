use Rattle.std.proofs.Common.{◌≡◌, ap, sym, subst}
use Rattle.ca_node.specs.Told.{MyTree}
use Rattle.ca_range.specs.Meeting.{AreMet}
use Rattle.ca_range.proofs.OwnSteps.{number_on, ready_on}
use Rattle.ca_replace.proofs.Working.{work_first}
use Rattle.ca_join_tests.specs.Halting.{IsHalted}
use Rattle.ca_join_tests.specs.declared.halted.Halted.{Halted}
use Rattle.ca_join_tests.proofs.halts.begin.Goals as goal

pub begin_snapshot-requires-clause-ready : goal.begin_snapshot-requires-clause-ready
begin_snapshot-requires-clause-ready g c = let by = c.pin.ensures.pinned in (work_first {space = c.args.space.now} by.0 by.1 c.requires.rests c.pin.ensures.frame by.3).ready

pub begin_snapshot-requires-clause-number : goal.begin_snapshot-requires-clause-number
begin_snapshot-requires-clause-number g c = let by = c.pin.ensures.pinned in (work_first {space = c.args.space.now} by.0 by.1 c.requires.rests c.pin.ensures.frame by.3).number

pub begin_snapshot-requires-clause-quiet : goal.begin_snapshot-requires-clause-quiet
begin_snapshot-requires-clause-quiet g c = let by = c.pin.ensures.pinned in (work_first {space = c.args.space.now} by.0 by.1 c.requires.rests c.pin.ensures.frame by.3).quiet

pub begin_snapshot-requires-clause-met : goal.begin_snapshot-requires-clause-met
begin_snapshot-requires-clause-met g c = subst (AreMet c.new-account.result.met.numbers)
    (sym (ap (λ (x : MyTree). x.0.upper.ranges.unfinished) c.pin.ensures.pinned.3)) c.new-account.ensures.met

pub returns-in-On : goal.returns-in-On
returns-in-On g c = record {
  halted = λ x is. let space = c.args.space.now in let by = c.pin.ensures.pinned in let p = c.pin.new.pass in
      let q = c.begin_snapshot.new.pass in let e = c.begin_snapshot.ensures in
      let work = work_first {space = space} by.0 by.1 c.requires.rests c.pin.ensures.frame by.3 in
      let same : (record { gathered = c.in-On.gathered; account = c.begin_snapshot.new.account }) ≡ x = cc in
      subst (λ (y : Halted). IsHalted g.F.Fn c.args.search.now.sought.now space q y) same record {
        ready = ready_on space p q work.ready e.frame e.steps;
        number = number_on space p q work.number e.frame e.steps;
        met = e.met;
        gathering = c.in-On.ensures.begun.0;
      };
}
