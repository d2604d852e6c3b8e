use Rattle.std.proofs.Common.{◌≡◌, take}
use Rattle.ca_ets.proofs.change.copies.Given as goal

abbrev pub invariant-loop-original : goal.invariant-loop-original
invariant-loop-original l = l.items.items ≡ take l.original-index l.originals
