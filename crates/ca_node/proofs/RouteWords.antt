-- Words of a route that a pass was shown.
use Rattle.std.proofs.Common.{ℕ, ◌+◌, ◌<◌, List, get_or, refl, inl, inr, arith}
use Rattle.ca_node.specs.Told.{IsShownWord}
use Rattle.ca_node.specs.Tree.{IsFixed}
use Rattle.ca_node.specs.TreeView.{TreeView}
use Rattle.ca_node.specs.Walking.{IsRouteShown}
use Rattle.ca_node.specs.Layout.{key_word}

-- The word at a fixed place of the route was shown.
pub fixed_word : (u : TreeView) (row : ℕ) (its : List ℕ) (index : ℕ) → IsRouteShown u row its
    → IsFixed index → IsShownWord u row index (get_or its index 0)
fixed_word u row its index shown fixed = (its, inr (inl (shown.shown, fixed)), refl)

-- The first word of a row is at such a place.
pub first_fixed : IsFixed 0
first_fixed = (omega arith, λ e. omega arith, λ e. omega arith, λ e. omega arith)

-- So is each word that has bytes of the key.
pub key_fixed : (i : ℕ) → i < 125 → IsFixed (key_word + i)
key_fixed i l = (omega arith, λ e. omega arith, λ e. omega arith, λ e. omega arith)
