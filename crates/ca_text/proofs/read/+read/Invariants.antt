use Rattle.std.proofs.Common.{◌+◌, ◌*◌, length}
use Rattle.ca_text.specs.Grammar.{standard}
use Rattle.ca_text.specs.Inner.Reading.{term_at, other_at, series_at, element_step, cells_at}
use Rattle.ca_term.specs.declared.bounds.TheConstants.{MOST_ELEMENTS}
use Rattle.ca_text.proofs.Loops.{CellsSoFar, SeriesSoFar}
use Rattle.ca_text.proofs.read.+read.Given as goal

abbrev pub decreases-term : goal.decreases-term
decreases-term l = 12 * l.levels + 0

abbrev pub decreases-bracketed : goal.decreases-bracketed
decreases-bracketed l = 12 * l.levels + 11

abbrev pub decreases-list : goal.decreases-list
decreases-list l = 12 * l.levels + 10

abbrev pub decreases-cells : goal.decreases-cells
decreases-cells l = 12 * l.levels + 9

abbrev pub decreases-cell_step : goal.decreases-cell_step
decreases-cell_step l = 12 * l.levels + 8

abbrev pub decreases-following : goal.decreases-following
decreases-following l = 12 * l.levels + 7

abbrev pub decreases-tail : goal.decreases-tail
decreases-tail l = 12 * l.levels + 6

abbrev pub decreases-last_tail : goal.decreases-last_tail
decreases-last_tail l = 12 * l.levels + 5

abbrev pub decreases-other : goal.decreases-other
decreases-other l = 12 * l.levels + 4

abbrev pub decreases-tuple_term : goal.decreases-tuple_term
decreases-tuple_term l = 12 * l.levels + 3

abbrev pub decreases-elements : goal.decreases-elements
decreases-elements l = 12 * l.levels + 2

abbrev pub decreases-element_step : goal.decreases-element_step
decreases-element_step l = 12 * l.levels + 1

abbrev pub invariant-elements-loop-i : goal.invariant-elements-loop-i
invariant-elements-loop-i l =
    let step = element_step (term_at standard l.levels) in SeriesSoFar step MOST_ELEMENTS l.i l.items.items l.rest (series_at step MOST_ELEMENTS l.bytes)

abbrev pub invariant-cells-loop : goal.invariant-cells-loop
invariant-cells-loop l =
    let element = term_at standard l.levels in
    let other = other_at standard element l.levels in
    CellsSoFar element other (length l.bytes) l.counter l.owed l.heads.items l.rest (cells_at element other (length l.bytes) l.bytes)
