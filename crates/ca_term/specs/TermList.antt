-- What contracts see of a list of terms that grows.
use Rattle.std.specs.Prelude.{ℕ, List, refl}
use Rattle.std.specs.Coded.{Coded, code_by, coded×, coded_ℕ, coded_list}
use Rattle.ca_term.specs.Tree.{Tree}
use Rattle.ca_term.specs.Stored.{tree_stored}

pub record TermList : Type 0 where
  pub items : List Tree
  -- how many more terms find room without memory
  pub spare : ℕ

abbrev pub list_stored : Coded TermList
list_stored = code_by (List Tree × ℕ) (coded× (coded_list tree_stored) coded_ℕ) (λ l. (l.items, l.spare)) (λ p. record { items = p.0; spare = p.1 }) (λ _. refl)
