-- A list of terms and the vector that holds it.
use Rattle.std.specs.Prelude.{◌-◌, vec_len, vec_capacity}
use Rattle.ca_term.specs.Tree.{AreTerms}
use Rattle.ca_term.specs.TermList.{TermList}
use Rattle.ca_term.specs.declared.terms.Terms.TheInside.{Inside}

abbrev pub terms_of : Inside → TermList
terms_of terms = record { items = terms.items.items; spare = vec_capacity terms.items - vec_len terms.items }

abbrev pub AreKept : Inside → Type 0
AreKept terms = AreTerms terms.items.items
