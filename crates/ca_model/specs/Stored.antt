-- How the logic stores pairs, and lists of them.
use Rattle.std.specs.Prelude.{ℕ, List, refl}
use Rattle.std.specs.Coded.{Coded, code_by, coded×, coded_ℕ, coded_list}
use Rattle.ca_model.specs.StoreMap.{Pair}
use Rattle.ca_model.specs.Slab.{PairList}

abbrev pub pair_stored : Coded Pair
pair_stored = coded× (coded_list coded_ℕ) (coded_list coded_ℕ)

abbrev pub list_stored : Coded PairList
list_stored = code_by (List Pair × ℕ) (coded× (coded_list pair_stored) coded_ℕ) (λ l. (l.pairs, l.spare)) (λ p. record { pairs = p.0; spare = p.1 }) (λ _. refl)
