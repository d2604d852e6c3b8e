use Rattle.std.proofs.Common.{rules, ap, arith}
use Rattle.ca_rows.specs.Told.{Mine}
use Rattle.ca_rows.proofs.Calling.{is_pass}
use Rattle.ca_rows.proofs.Scanning.{scans}
use Rattle.ca_rows.proofs.space.Space.lagging.Goals as goal

pub load-announced-requires : goal.load-announced-requires
load-announced-requires g c = let sized = c.args.self.now.sized in let place = c.own_word-word.ensures in
    let some_rows = c.args.self.now.few.0 in let few = c.args.self.now.passes.1 in
    let more = c.loop-seen-test.true in
    let upto = ap
    (λ (m : Mine g.row.R-Upper.Denot). m.0.pin.upto) c.loop-seen.invariant.looked in (
      search rules,
      omega arith,
      scans g.R.RowRule.linked g.R.RowRule.lent g.R.RowRule.noted g.R.RowRule.fact
          g.met.R.RowRule.frames
          c.args.self.now.table.shared.key _ _ _ c.own_word-word.result (omega arith) (omega arith)
          (is_pass c.loop-seen.pass.number c.loop-seen.pass.seat.me.0.pin c.loop-seen.pass.numbered),
    )
