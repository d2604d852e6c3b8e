-- The terms of codes, as the code hands them out.
use Rattle.std.specs.Prelude.{List}
use Rattle.ca_term.specs.Tree.{Tree}
use Rattle.ca_order.specs.declared.codes.Part.{Part}
use Rattle.ca_order.specs.declared.codes.Codes.{Codes}

-- the term whose code a part is
abbrev pub tree_of : Part → Tree
tree_of part = part.code.0

-- the terms whose codes stand there, one after the other
abbrev pub terms_of : Codes → List Tree
terms_of codes = codes.terms.0
