-- Exchanges of a base by a pass that is alone: none is lost of a base that its list has.
use Rattle.std.proofs.Common.{◌≡◌, ◌≢◌, ◌<◌, Result, Err, sym, subst}
use Rattle.ca_node.specs.Inventory.{IsListed}
use Rattle.ca_node.specs.Told.{MyTree, IsMissed}
use Rattle.ca_node.specs.States.{IsAlone}
use Rattle.ca_node.specs.TreeView.{Note, TreeView}
use Rattle.ca_base.specs.declared.stop.Exchange.TheVariants.{Link}
use Rattle.ca_base.specs.declared.stop.Stop.{Stop}
use Rattle.ca_base.specs.declared.stop.Stop.TheVariants.{Lost}
use Rattle.ca_base.specs.Putting.{first_note}
use Rattle.ca_rows.specs.declared.sizes.Sizes.{Sizes}

-- What can't be missed isn't, where the pass is alone and lists the base.
pub not_missed : (z : Sizes) (m : MyTree) (note : Note) → m.0.sizes ≡ z → 0 < z.rows
    → IsMissed note m → IsAlone z m.0.upper
    → ¬ IsListed m.0.upper.inventory note
not_missed z m note own some_rows missed alone listed =
    let here = subst (λ (y : Sizes). (0 < y.rows)
    × IsAlone y m.0.upper) (sym own) (some_rows, alone) in missed here.0 here.1 listed.base

-- No exchange of a link is lost, nor was one where the pass knew as much before.
pub won_then : (z : Sizes) (u v : TreeView) (r : Result (Unit {0}) Stop) → v ≡ u
    → (IsAlone z v → IsListed v.inventory (first_note v.notes) → r ≢ Err (Lost Link))
    → IsAlone z u → IsListed u.inventory (first_note u.notes) → r ≢ Err (Lost Link)
won_then z u v r same so alone listed = let here = subst (λ (y : TreeView). IsAlone z y
    × IsListed y.inventory (first_note y.notes)) (sym same) (alone, listed) in
    so here.0 here.1
