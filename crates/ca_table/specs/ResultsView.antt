-- The terms of results that are kept by their codes or as terms.
use Rattle.std.specs.Prelude.{List}
use Rattle.ca_term.specs.Tree.{Tree}
use Rattle.ca_table.specs.declared.results.Results.{Results}
use Rattle.ca_table.specs.declared.results.Results.TheVariants as results

abbrev pub results_of : Results → List Tree
results_of (results.Coded codes) = codes
results_of (results.Made terms) = terms.items
