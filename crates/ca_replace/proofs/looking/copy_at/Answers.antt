use Rattle.std.proofs.Common.{List, ℕ, [], get_or, sym, subst}
use Rattle.ca_node.specs.Told.{MyTree}
use Rattle.ca_base.specs.Finding.{IsObjectShown}
use Rattle.ca_replace.proofs.looking.copy_at.Goals as goal

pub returns-clause-object : goal.returns-clause-object
returns-clause-object c note r l = let its : List ℕ = get_or note.objects c.args.place [] in
    c.copy_object.ensures.object its
    (subst (λ (m : MyTree). IsObjectShown m.0.upper c.item-row.result its)
    (sym c.item-row.ensures.frame.still) (c.item-row.ensures.item note r l).1)
