-- List cells.
use Rattle.std.proofs.Common.{◌<◌, ◌≤◌, length, ap, sym, ◌∙◌, arith}
use Rattle.ca_term.specs.Tree.{Tree, list_of, nodes}
use Rattle.ca_match.specs.Match.{bind}
use Rattle.ca_spec.specs.Bound.{table_of}
use Rattle.ca_spec.specs.Parts.{tail_le-list}
use Rattle.ca_spec.specs.Places.{places}
use Rattle.ca_spec.proofs.Binding.{cell_stop, head_nodes, head_places, tail_places}
use Rattle.ca_spec.proofs.matching.+bind.Goals as goal

pub bind_cells-returns-then-not-bind : goal.bind_cells-returns-then-not-bind
bind_cells-returns-then-not-bind t c =
    cell_stop c.args.heads.now c.args.tail.now c.loop-head.rest.now c.in-Some.first.now c.in-Some.behind.now c.loop-head.head-index c.head-item.result
    (bind _ _ _) (table_of c.loop-head.table) (table_of c.bind.new.table) c.bind.result (omega arith) c.in-Some.ensures c.loop-head.invariant
    (ap (λ (x : Tree). bind x c.in-Some.first.now (table_of c.loop-head.table)) (sym c.head-item.is) ∙ c.bind.ensures) c.if-not-bind.true

pub bind_cells-bind-requires : goal.bind_cells-bind-requires
bind_cells-bind-requires t c =
    let n : nodes c.head-item.result < nodes (list_of c.args.heads.now c.args.tail.now) =
    omega (arith, ap nodes c.head-item.is, head_nodes c.args.heads.now c.args.tail.now c.loop-head.head-index c.head-item.result (omega arith)) in
    let p : places c.head-item.result ≤ length c.args.table.now =
    omega (
      arith,
      ap places c.head-item.is,
      head_places c.args.heads.now c.args.tail.now c.loop-head.head-index (length c.args.table.now) c.head-item.result
          (omega arith) c.requires.room,
    ) in
    (omega (arith, c.decreases), omega arith)

pub bind_cells-bind-requires-2 : goal.bind_cells-bind-requires-2
bind_cells-bind-requires-2 t c =
    let n = tail_le-list c.args.heads.now c.args.tail.now in
    let p = tail_places c.args.heads.now c.args.tail.now (length c.args.table.now) c.requires.room in
    (omega (arith, c.decreases), omega arith)
