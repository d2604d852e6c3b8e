-- The parts of a tuple up to the last one that isn't '_'; none of a list.
use Rattle.std.proofs.Common.{List, ap, sym, ◌∙◌, subst}
use Rattle.ca_term.specs.Tree.{Tree}
use Rattle.ca_spec.specs.PartBound.{IsAsked}
use Rattle.ca_spec.specs.PatternView.{IsShape, tree_of_shape}
use Rattle.ca_spec.proofs.CodeBinding.{asked_list, asked_many}
use Rattle.ca_spec.proofs.fitting.asked_parts.Goals as goal

pub returns-in-Tuple : goal.returns-in-Tuple
returns-in-Tuple c =
    asked_many c.args.head.now c.in-Tuple.parts.items c.asked.result.now (sym (ap tree_of_shape c.in-Tuple.is) ∙ c.head.view_is)
    (subst (λ (x : List Tree). IsAsked x c.asked.result.now) c.as_slice.ensures.value c.asked.ensures)

pub returns-in-List : goal.returns-in-List
returns-in-List c =
    asked_list c.args.head.now c.in-List.field-0.items c.in-List.field-1.value (subst IsShape c.in-List.is c.head.invariant)
    (sym (ap tree_of_shape c.in-List.is) ∙ c.head.view_is)
