use Rattle.std.proofs.Common.{◌+◌, ◌*◌, length}
use Rattle.ca_order.specs.Reads.{BeginsWithRow}
use Rattle.ca_order.proofs.Lists.{IsHeads}
use Rattle.ca_order.proofs.reading.+read.Given as goal

abbrev pub decreases-read_term : goal.decreases-read_term
decreases-read_term l = 5 * l.levels + 4

abbrev pub decreases-read_list : goal.decreases-read_list
decreases-read_list l = 5 * l.levels + 3

abbrev pub decreases-read_last : goal.decreases-read_last
decreases-read_last l = 5 * l.levels + 2

abbrev pub decreases-read_tuple : goal.decreases-read_tuple
decreases-read_tuple l = 5 * l.levels + 6

abbrev pub decreases-read_items : goal.decreases-read_items
decreases-read_items l = 5 * l.levels + 5

abbrev pub invariant-read_list-loop-inside : goal.invariant-read_list-loop-inside
invariant-read_list-loop-inside l = IsHeads l.levels l.bytes l.heads.items l.rest

abbrev pub decreases-read_list-loop-inside : goal.decreases-read_list-loop-inside
decreases-read_list-loop-inside l = length l.rest

abbrev pub invariant-read_items-loop : goal.invariant-read_items-loop
invariant-read_items-loop l = BeginsWithRow l.levels l.counter l.bytes l.items.items l.rest
