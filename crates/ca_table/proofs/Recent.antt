-- A specification that was compiled before.
use Rattle.std.proofs.Common.{◌≡◌, Bool, true, refl, sym, ◌∙◌, subst}
use Rattle.std.specs.Ordering.{is_eq}
use Rattle.std.specs.declared.cmp.Ordering.{Ordering}
use Rattle.std.specs.declared.cmp.Ordering.TheVariants.{Less, Equal, Greater}
use Rattle.ca_term.specs.Tree.{Tree}
use Rattle.ca_term.specs.Order.{term_cmp}
use Rattle.ca_term.proofs.TotalOrder.{tree_same}
use Rattle.ca_match.specs.Specification.{IsSpecification}

equal_of : (o : Ordering) → is_eq o ≡ true → o ≡ Equal
equal_of Less e = cc
equal_of Equal e = refl
equal_of Greater e = cc

-- One whose term is equal is this one.
pub recent_again : (own source spec : Tree) (o : Ordering) (same : Bool) → source ≡ own → o ≡ term_cmp source spec → same ≡ is_eq o → same ≡ true
    → IsSpecification own → (own ≡ spec) × IsSpecification spec
recent_again own source spec o same s e f g accepted =
    let equal : own ≡ spec = sym s ∙ tree_same source spec (sym e ∙ equal_of o (sym f ∙ g)) in
    (equal, subst IsSpecification equal accepted)
