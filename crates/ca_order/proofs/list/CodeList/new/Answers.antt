use Rattle.ca_order.proofs.CodeLists.{no_codes, no_terms, none_counted}
use Rattle.ca_order.proofs.list.CodeList.new.Goals as goal

pub invariant_of-result : goal.invariant_of-result
invariant_of-result c = (no_codes c.new.result.items c.new.ensures.items, tt)

pub invariant_of-result-2 : goal.invariant_of-result-2
invariant_of-result-2 c = none_counted c.new.result.items c.new.ensures.items c.result-1.given.0

pub returns : goal.returns
returns c = no_terms c.new.result.items c.new.ensures.items c.result-1.given.0
