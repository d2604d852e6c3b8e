use Rattle.std.proofs.Common.{rules, ◌≡◌, [], ◌∷◌, ◌++◌, map}
use Rattle.ca_term.specs.Add.{addition_of}
use Rattle.ca_term.specs.Object.{elements_of}
use Rattle.ca_ets.proofs.Counting.{counting_more, counting_stops, counting_refused}
use Rattle.ca_ets.proofs.change.counters.Goals as goal

pub returns-in-Err : goal.returns-in-Err
returns-in-Err c =
    counting_refused c.args.keypos c.args.object.now (map addition_of c.args.adds.now) c.in-Err.stop
    (counting_stops c.args.keypos (elements_of c.args.object.now) c.loop-add.items.items (map addition_of c.args.adds.now) c.args.adds.now
    c.loop-add.values.items c.loop-add.add-index _ c.loop-add-test.true c.loop-add.invariant _ c.in-Err.stop c.in-Err.ensures)

pub loop-add-preserved : goal.loop-add-preserved
loop-add-preserved c =
    let pushed : c.push.new.self.items ≡ c.loop-add.values.items ++ c.in-Ok.value ∷ [] = search rules in
    rw pushed
    (counting_more c.args.keypos (elements_of c.args.object.now) c.loop-add.items.items (map addition_of c.args.adds.now) c.args.adds.now
    c.loop-add.values.items c.loop-add.add-index _ c.loop-add-test.true c.loop-add.invariant c.count.new.items.items c.in-Ok.value c.in-Ok.ensures)
