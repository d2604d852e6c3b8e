use Rattle.std.proofs.Common.{rules, List, get_or, refl, arith}
use Rattle.ca_model.specs.Edges.{bound_of}
use Rattle.ca_node.specs.TreeView.{Note, no_note}
use Rattle.ca_range.specs.Snapshots.{bases_of}
use Rattle.ca_replace.proofs.OpenRuns.{gathered_first, left_is, opened}
use Rattle.ca_replace.proofs.RunLines.{all_walked, last_here, readable_at}
use Rattle.ca_replace.proofs.running.open_run.Goals as goal

pub loop-row-init : goal.loop-row-init
loop-row-init c = let z = c.args.space.now.table.shared.key in
    let u = c.args.pass.now.seat.me.0.upper in let bases = c.args.bases in
    let notes : List Note = bases_of bases u in
    let here = last_here z u bases c.requires.remembered in
    let r = readable_at z u bases c.requires.remembered 0 bases.last here in record {
      own = search rules;
      same = search rules;
      number = search rules;
      tally = search rules;
      kept = search rules;
      still = search rules;
      bases = refl;
      here = here.1;
      gathered = gathered_first notes (bound_of c.args.lo) (bound_of c.args.cut) _ here.0 here.1
          refl
          (c.count-run.ensures.count (get_or notes 0 no_note) r) refl refl
          (λ at l. absurd (omega arith));
    }

pub returns-clause-opened : goal.returns-clause-opened
returns-clause-opened c = let z = c.args.space.now.table.shared.key in
    let u = c.args.pass.now.seat.me.0.upper in let bases = c.args.bases in
    let inv = c.loop-row.invariant in let run = c.loop-row.run in
    opened z u bases (bound_of c.args.lo) (bound_of c.args.cut) run inv.bases c.requires.remembered
    c.requires.ordered inv.gathered
    (all_walked z u bases c.requires.remembered run.window.walked c.loop-row.row inv.here
    c.loop-row-test.false)

pub returns-clause-left : goal.returns-clause-left
returns-clause-left c = let z = c.args.space.now.table.shared.key in
    let u = c.args.pass.now.seat.me.0.upper in let bases = c.args.bases in
    let inv = c.loop-row.invariant in let run = c.loop-row.run in
    left_is z u bases (bound_of c.args.lo) (bound_of c.args.cut) run inv.bases c.requires.remembered
    c.requires.ordered inv.gathered
    (all_walked z u bases c.requires.remembered run.window.walked c.loop-row.row inv.here
    c.loop-row-test.false)
