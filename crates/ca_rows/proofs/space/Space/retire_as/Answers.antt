use Rattle.std.proofs.Common.{rules, arith}
use Rattle.ca_rows.proofs.Retiring.{retires}
use Rattle.ca_rows.proofs.space.Space.retire_as.Goals as goal

pub load-requires : goal.load-requires
load-requires g c = let sized = c.args.self.now.sized in (
  search rules,
  omega arith,
  retires g.R.RowRule.linked g.R.RowRule.lent g.R.RowRule.noted g.R.RowRule.fact
      g.met.R.RowRule.frames
      c.args.self.now.table.shared.key _ _ _ g.K.Named.about c.requires.mine,
)
