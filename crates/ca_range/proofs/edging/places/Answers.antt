use Rattle.std.proofs.Common.{ℕ, Result, map, subst}
use Rattle.ca_model.specs.Places.{IsPlace}
use Rattle.ca_model.proofs.Spots.{edges_at, edges_before}
use Rattle.ca_node.specs.Row.{pair}
use Rattle.ca_range.proofs.edging.places.Goals as goal

pub returns-in-Ok-clause-places : goal.returns-in-Ok-clause-places
returns-in-Ok-clause-places c note r = let objects = map pair note.objects in
    edges_at c.args.space.now.table.shared.key.keypos objects c.args.key.now c.in-Ok.at r.ordered
    (subst (λ (x : Result ℕ ℕ). IsPlace objects c.args.key.now x) c.in-Ok.is (c.search.ensures.place note r))

pub returns-in-Err-clause-places : goal.returns-in-Err-clause-places
returns-in-Err-clause-places c note r = let objects = map pair note.objects in
    edges_before c.args.space.now.table.shared.key.keypos objects c.args.key.now c.in-Err.at r.ordered
    (subst (λ (x : Result ℕ ℕ). IsPlace objects c.args.key.now x) c.in-Err.is (c.search.ensures.place note r))
