use Rattle.std.proofs.Common.{rules, arith}
use Rattle.ca_rows.proofs.PinSteps.{unpins}
use Rattle.ca_rows.proofs.space.Space.unpin.Goals as goal

pub store-requires : goal.store-requires
store-requires g c =
    let sized = c.args.self.now.sized in let place = c.own_word-word.ensures in
    let some_rows = c.args.self.now.few.0 in
    let number = c.args.pass.now.numbered.0 in
    let low = c.args.pass.now.numbered.1 in
    let high = c.args.pass.now.numbered.2 in (
      search rules,
      omega arith,
      unpins g.R.RowRule.linked g.R.RowRule.lent g.R.RowRule.noted g.R.RowRule.fact
          g.met.R.RowRule.frames c.args.self.now.table.shared.key g.R.RowRule.enters
          g.R.RowRule.leaves g.met.R.RowRule.pinning
          _ _ _ c.own_word-word.result (omega arith) (omega arith),
    )
