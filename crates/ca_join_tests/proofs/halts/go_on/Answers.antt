use Rattle.ca_range.proofs.OwnSteps.{ready_on}
use Rattle.ca_join_tests.proofs.halts.go_on.Goals as goal

pub gather-snapped-requires-clause-ready : goal.gather-snapped-requires-clause-ready
gather-snapped-requires-clause-ready g c = c.requires.halted.ready

pub gather-snapped-requires-clause-number : goal.gather-snapped-requires-clause-number
gather-snapped-requires-clause-number g c = c.requires.halted.number

pub gather-snapped-requires-clause-met : goal.gather-snapped-requires-clause-met
gather-snapped-requires-clause-met g c = c.requires.halted.met

pub gather-snapped-requires-clause-gathering : goal.gather-snapped-requires-clause-gathering
gather-snapped-requires-clause-gathering g c = c.requires.halted.gathering

pub keys_of-keys-requires : goal.keys_of-keys-requires
keys_of-keys-requires g c = let space = c.args.space.now in let p = c.args.pass.now in let q = c.gather-snapped.new.pass in
    let e = c.gather-snapped.ensures in let ready = ready_on space p q c.requires.halted.ready e.goes.frame e.goes.steps in
    record {
      may = record {
        reading = record { own = ready.own; pinned = ready.pinned };
        remembered = c.in-Run.ensures.ended.1.remembered;
      };
    }
