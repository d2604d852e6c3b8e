use Rattle.ca_table.proofs.Listed.{AreListed}
use Rattle.ca_table.proofs.listing.objects.Given as goal

abbrev pub invariant-loop-at : goal.invariant-loop-at
invariant-loop-at l = AreListed l.store.keypos l.store.map l.at l.objects.items
