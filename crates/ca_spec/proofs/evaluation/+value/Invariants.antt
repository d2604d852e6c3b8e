-- The parts so far have these values.
use Rattle.std.proofs.Common.{◌≡◌, ◌+◌, ◌-◌, ◌*◌}
use Rattle.ca_term.specs.Tree.{list_of, nodes, row_nodes, row_of}
use Rattle.ca_match.specs.Match.{all_values, values}
use Rattle.ca_spec.specs.FittedView.{scene_at}
use Rattle.ca_spec.proofs.Values.{behind, values_from}
use Rattle.ca_spec.proofs.evaluation.+value.Given as goal

abbrev pub decreases-value : goal.decreases-value
decreases-value l = 5 * nodes l.expression.now

abbrev pub decreases-tuple_value : goal.decreases-tuple_value
decreases-tuple_value l = 5 * row_nodes (row_of l.parts.now) + 4

abbrev pub decreases-list_value : goal.decreases-list_value
decreases-list_value l = 5 * nodes (list_of l.heads.now l.tail.now) - 1

abbrev pub decreases-terms : goal.decreases-terms
decreases-terms l = 5 * row_nodes (row_of l.parts.now) + 3

abbrev pub decreases-value_of_one : goal.decreases-value_of_one
decreases-value_of_one l = 5 * nodes l.a.now + 1

abbrev pub decreases-value_of_two : goal.decreases-value_of_two
decreases-value_of_two l = 5 * (nodes l.a.now + nodes l.b.now) + 1

abbrev pub decreases-short_value : goal.decreases-short_value
decreases-short_value l = 5 * (nodes l.a.now + nodes l.b.now) + 1

abbrev pub invariant-terms-loop-part : goal.invariant-terms-loop-part
invariant-terms-loop-part l =
    all_values (values (scene_at l.fitted) (row_of l.parts)) ≡ behind l.terms.items (values_from (scene_at l.fitted) l.parts l.part-index)
