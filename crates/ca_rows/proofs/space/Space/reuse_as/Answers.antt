use Rattle.std.proofs.Common.{rules, arith}
use Rattle.ca_rows.proofs.Regaining.{reuses}
use Rattle.ca_rows.proofs.space.Space.reuse_as.Goals as goal

pub load-requires : goal.load-requires
load-requires g c = let sized = c.args.self.now.sized in (
  search rules,
  omega arith,
  reuses g.R.RowRule.linked g.R.RowRule.lent g.R.RowRule.noted g.R.RowRule.fact
      g.met.R.RowRule.frames
      c.args.self.now.table.shared.key _ _ _ 1 g.K.Named.about c.requires.old.0 c.requires.old.1
      c.requires.old.2,
)
