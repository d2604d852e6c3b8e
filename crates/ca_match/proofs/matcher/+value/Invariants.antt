use Rattle.std.proofs.Common.{◌≡◌, ◌+◌, ◌*◌, ◌≤◌}
use Rattle.ca_term.specs.Tree.{Cons, nodes, row_nodes, row_of}
use Rattle.ca_match.specs.Match.{all_values, value, values}
use Rattle.ca_match.proofs.Gathered.{behind, values_from}
use Rattle.ca_match.specs.MatcherView.{cells_of, scene_of}
use Rattle.ca_match.proofs.matcher.+value.Given as goal

abbrev pub decreases-value : goal.decreases-value
decreases-value l = 8 * nodes l.expression.now

abbrev pub decreases-list_value : goal.decreases-list_value
decreases-list_value l = 8 * (nodes l.first.now + nodes l.behind.now) + 7

abbrev pub decreases-form_value : goal.decreases-form_value
decreases-form_value l = 8 * row_nodes (row_of l.items.now) + 7

abbrev pub decreases-tuple_value : goal.decreases-tuple_value
decreases-tuple_value l = 8 * nodes l.only.now + 6

abbrev pub decreases-terms : goal.decreases-terms
decreases-terms l = 8 * row_nodes (row_of l.items.now) + 7

abbrev pub invariant-terms-loop-item : goal.invariant-terms-loop-item
invariant-terms-loop-item l =
    all_values (values (scene_of l.object l.table) (row_of l.items)) ≡ behind l.terms.items (values_from (scene_of l.object l.table) l.items l.item-index)

abbrev pub decreases-call_value : goal.decreases-call_value
decreases-call_value l = 8 * row_nodes (row_of l.arguments.now) + 6

abbrev pub decreases-operator_value : goal.decreases-operator_value
decreases-operator_value l = 8 * row_nodes (row_of l.arguments.now) + 5

abbrev pub decreases-value_of_two : goal.decreases-value_of_two
decreases-value_of_two l = 8 * (nodes l.a.now + nodes l.b.now) + 1

abbrev pub decreases-short_value : goal.decreases-short_value
decreases-short_value l = 8 * (nodes l.a.now + nodes l.b.now) + 2

abbrev pub decreases-truth_at : goal.decreases-truth_at
decreases-truth_at l = 8 * nodes l.expression.now + 1

abbrev pub decreases-term_value : goal.decreases-term_value
decreases-term_value l = 8 * nodes l.expression.now + 1

abbrev pub invariant-list_value-loop-head : goal.invariant-list_value-loop-head
invariant-list_value-loop-head l = record {
  value_so : value (scene_of l.object l.table) (Cons l.first l.behind) ≡ cells_of l.heads.items (value (scene_of l.object l.table) l.rest);
  fewer : nodes l.rest ≤ nodes l.behind;
}

abbrev pub decreases-list_value-loop-head : goal.decreases-list_value-loop-head
decreases-list_value-loop-head l = nodes l.rest
