use Rattle.std.proofs.Common.{◌-◌, refl, arith}
use Rattle.ca_range.specs.Snapshots.{bases_of}
use Rattle.ca_replace.specs.Running.{row_in}
use Rattle.ca_replace.proofs.OpenRuns.{gone_right, some_right}
use Rattle.ca_replace.proofs.running.go_right.Goals as goal

pub returns-clause-opened : goal.returns-clause-opened
returns-clause-opened c = let z = c.args.space.now.table.shared.key in let u = c.args.pass.now.seat.me.0.upper in let run = c.args.run.now in
    let o = c.requires.opened in let right = some_right z u run c.args.many o c.requires.some c.requires.many c.requires.behind in
    let w = c.reach.ensures in
    (gone_right z u run c.args.many o c.requires.some c.requires.many c.requires.behind record {
      bases = run.bases;
      base = c.row_at-run.result;
      at = run.at - 1;
      next = run.next - c.args.many;
      left = run.left;
      window = c.reach.new.window;
    } refl (omega arith) (c.row_at-run.ensures.row (row_in (bases_of run.bases u)) w.rows) refl refl w.walked w.inside w.rows).0

pub returns-clause-same : goal.returns-clause-same
returns-clause-same c = let z = c.args.space.now.table.shared.key in let u = c.args.pass.now.seat.me.0.upper in let run = c.args.run.now in
    let o = c.requires.opened in let right = some_right z u run c.args.many o c.requires.some c.requires.many c.requires.behind in
    let w = c.reach.ensures in
    (gone_right z u run c.args.many o c.requires.some c.requires.many c.requires.behind record {
      bases = run.bases;
      base = c.row_at-run.result;
      at = run.at - 1;
      next = run.next - c.args.many;
      left = run.left;
      window = c.reach.new.window;
    } refl (omega arith) (c.row_at-run.ensures.row (row_in (bases_of run.bases u)) w.rows) refl refl w.walked w.inside w.rows).1
