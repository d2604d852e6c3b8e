use Rattle.std.proofs.Common.{[]}
use Rattle.ca_replace.proofs.Between.{may_first}
use Rattle.ca_join_tests.proofs.below.come.Goals as goal

pub go-requires-clause-ready : goal.go-requires-clause-ready
go-requires-clause-ready c = let p = c.pin.new.pass in let f = c.pin.ensures.frame in let e = c.pin.ensures.pinned in
    (may_first c.args.space.now c.args.pass.now p [] e.0 e.1 c.requires.rests f.same f.number f.kept f.tally e.3).ready

pub go-requires-clause-quiet : goal.go-requires-clause-quiet
go-requires-clause-quiet c = let p = c.pin.new.pass in let f = c.pin.ensures.frame in let e = c.pin.ensures.pinned in
    (may_first c.args.space.now c.args.pass.now p [] e.0 e.1 c.requires.rests f.same f.number f.kept f.tally e.3).idle.quiet
