use Rattle.ca_term.proofs.Codes.{are_prefix_free, compare_as_terms}
use Rattle.ca_term.proofs.Grammar.{are_codes_of_terms}
use Rattle.ca_term.proofs.code.code_laws.Goals as goal

pub returns : goal.returns
returns c = record { prefix_free = are_prefix_free; compare = compare_as_terms; grammar = are_codes_of_terms }
