-- A row that said up to where a seat's own range went is lent to no range, once that one is over.
use Rattle.std.proofs.Common.{◌≡◌, ℕ, ◌<◌, List, [], get_or, sym, ap, ◌∙◌, subst}
use mathlib.Core.Option.{some}
use lib.ListN.{get_elem?}
use Rattle.ca_model.specs.History.{History, after}
use Rattle.ca_rows.specs.declared.sizes.Sizes.{Sizes}
use Rattle.ca_runs.specs.Runs.{Ends}
use Rattle.ca_node.specs.Links.{IsIn, IsActive, IsLent}
use Rattle.ca_node.specs.Ranging.{IsSoFar}
use Rattle.ca_node.specs.Reached.{base_at, lent_end}
use Rattle.ca_node.specs.Row.{row_at, mark_owner, mark_number}
use Rattle.ca_node.specs.Shape.{Role}
use Rattle.ca_node.specs.Tree.{IsTree}
use Rattle.ca_node.specs.TreeView.{Border, Ranging, Quiet, TreeView}

-- No range of a seat is active whose own one is over.
none_active : (z : Sizes) (words : List ℕ) (role : ℕ → Role) (ends : Ends) (since history : History) (pass : ℕ) (borders : List Border) (own : Ranging)
    → own ≡ Quiet → IsSoFar z words role ends since history pass borders own → (number : ℕ) → ¬ IsActive words pass number
none_active z words role ends since history pass borders own quiet so_far =
    subst (IsSoFar z words role ends since history pass borders) quiet so_far

-- The row names the pass whose range goes up to it, and a range that is active and goes up to it is one of that pass.
pub lent_over : (z : Sizes) (made : ℕ) (words : List ℕ) (uppers : List TreeView) (id : ℕ) (u : TreeView) (border : Border)
    → IsTree z made words uppers → get_elem? uppers id ≡ some u → 0 < u.number → u.ranges.own ≡ Quiet
    → IsIn border u.ranges.borders → get_or border.its 1 0 ≡ u.number → ¬ IsLent words border.row
lent_over z made words uppers id u border f at is_pass quiet known owner lent =
    let end = lent_end z words f.role (after f.history []) f.shape border.row lent in
    let base = base_at z words f.role (after f.history []) f.shape end.0 end.1 end.2 in
    let ranging = f.ranged.each id u at in
    let mine : mark_owner (row_at words end.0) ≡ u.number = sym (base.bounded border.row end.3).owner
    ∙ (ap (λ (its : List ℕ). get_or its 1 0) (ranging.borders border known).spells ∙ owner) in
    none_active z words f.role (f.ranged.ends u.number) u.since f.history u.number u.ranges.borders u.ranges.own quiet (ranging.own is_pass)
    (mark_number (row_at words end.0))
    (subst (λ (pass : ℕ). IsActive words pass (mark_number (row_at words end.0))) mine end.3.1)
