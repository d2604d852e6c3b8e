-- Elements of tuples.
use Rattle.std.proofs.Common.{◌≡◌, ℕ, ◌≤◌, ◌<◌, ◌+◌, Bool, true, false, List, length, drop, get_or, add-one, drop-cons, refl, ap, sym, ◌∙◌}
use Rattle.std.proofs.lemmas.List.{drop_all}
use Rattle.std.specs.Prelude.{◌&&◌}
use Rattle.ca_term.specs.Tree.{Tree, row_of}
use Rattle.ca_term.proofs.Rows.{nodes_item}
use Rattle.ca_plan.specs.Plan.{is_fixed, is_fixed_row}

abbrev pub fixed_from : List Tree → ℕ → Bool
fixed_from items k = is_fixed_row (row_of (drop k items))

fixed_at : (items : List Tree) (k : ℕ) (d : Tree) → k < length items → fixed_from items k ≡ (is_fixed (get_or items k d) && fixed_from items (k + 1))
fixed_at items k d h = rw (add-one, drop-cons items k d) refl

-- An element without variables leaves it to those behind it.
pub fixed_item : (items : List Tree) (k : ℕ) (d : Tree) (all : Bool) → k < length items → all ≡ fixed_from items k
    → true ≡ is_fixed (get_or items k d) → all ≡ fixed_from items (k + 1)
fixed_item items k d all h a e =
    a ∙ fixed_at items k d h ∙ ap (λ (x : Bool). x && fixed_from items (k + 1)) (sym e)

-- One with a variable decides.
pub loose_item : (items : List Tree) (k : ℕ) (d : Tree) (all : Bool) → k < length items → all ≡ fixed_from items k
    → false ≡ is_fixed (get_or items k d) → false ≡ all
loose_item items k d all h a e =
    sym (a ∙ fixed_at items k d h ∙ ap (λ (x : Bool). x && fixed_from items (k + 1)) (sym e))

-- Behind all elements none is left.
pub no_item : (items : List Tree) (k : ℕ) (all : Bool) → length items ≤ k → all ≡ fixed_from items k → true ≡ all
no_item items k all h a = sym (a ∙ (rw (drop_all k items h) refl))

pub ruleset fixed_rows = (fixed_item, loose_item, no_item, nodes_item)
