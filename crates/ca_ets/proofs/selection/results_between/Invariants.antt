use Rattle.std.proofs.Common.{◌≡◌, take}
use Rattle.ca_match.specs.Match.{chosen}
use Rattle.ca_ets.specs.OrderedMap.{between}
use Rattle.ca_ets.proofs.selection.results_between.Given as goal

abbrev pub invariant-loop-object : goal.invariant-loop-object
invariant-loop-object l = l.terms.items ≡ chosen l.spec (between l.keypos (take l.object-index l.objects) l.lo l.hi)
