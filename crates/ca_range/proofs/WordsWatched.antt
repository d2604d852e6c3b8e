-- What a pass knows still once it loaded the word of a range.
use Rattle.std.proofs.Common.{ℕ, sym, subst}
use Rattle.ca_node.specs.Links.{IsIn}
use Rattle.ca_node.specs.Told.{MyTree, HasWatched}
use Rattle.ca_node.specs.TreeView.{Border}
use Rattle.ca_node.proofs.Listing.{in_back}

-- The rows that say up to where ranges go are known still.
pub borders_by_word : (pass word : ℕ) (m m' : MyTree) → HasWatched pass m word m' → (border : Border) → IsIn border m.0.upper.ranges.borders
    → IsIn border m'.0.upper.ranges.borders
borders_by_word pass word m m' h border i = subst (λ (x : MyTree). IsIn border x.0.upper.ranges.borders) (sym h.now)
    (in_back h.borders m.0.upper.ranges.borders border i)
