-- What contracts see of a table.
use Rattle.std.specs.Prelude.{ℕ, List, refl}
use Rattle.std.specs.Coded.{Coded, code_by, coded×, coded_ℕ, coded_list}
use Rattle.ca_term.specs.Tree.{Tree}
use Rattle.ca_term.specs.Stored.{tree_stored}

pub record Table : Type 0 where
  -- which element of an object is its key, counted from 1
  pub keypos : ℕ
  -- the objects, in key order
  pub objects : List Tree

-- how the logic stores a table
abbrev pub table_stored : Coded Table
table_stored =
    code_by (ℕ × List Tree) (coded× coded_ℕ (coded_list tree_stored)) (λ t. (t.keypos, t.objects)) (λ p. record { keypos = p.0; objects = p.1 }) (λ _. refl)
