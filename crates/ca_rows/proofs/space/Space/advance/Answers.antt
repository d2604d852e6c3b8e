use Rattle.std.proofs.Common.{rules, arith}
use Rattle.ca_rows.proofs.Scanning.{begins}
use Rattle.ca_rows.proofs.space.Space.advance.Goals as goal

pub load-epoch-requires : goal.load-epoch-requires
load-epoch-requires g c = let sized = c.args.self.now.sized in (
  search rules,
  omega arith,
  begins g.R.RowRule.linked g.R.RowRule.lent g.R.RowRule.noted g.R.RowRule.fact
      g.met.R.RowRule.frames
      c.args.self.now.table.shared.key _ _ _,
)
