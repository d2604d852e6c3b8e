use Rattle.std.proofs.Common.{◌≡◌, drop, map}
use Rattle.ca_term.specs.Add.{addition_of}
use Rattle.ca_term.specs.Object.{elements_of}
use Rattle.ca_term.specs.Updates.{counts}
use Rattle.ca_ets.proofs.Counting.{behind}
use Rattle.ca_ets.proofs.change.counters.Given as goal

abbrev pub invariant-loop-add : goal.invariant-loop-add
invariant-loop-add l =
    counts l.keypos (elements_of l.object) (map addition_of l.adds)
    ≡ behind l.values.items (counts l.keypos l.items.items (map addition_of (drop l.add-index l.adds)))
