use Rattle.std.proofs.Common.{rules, arith, refl}
use Rattle.ca_rows.proofs.Steps.{recalls}
use Rattle.ca_rows.proofs.space.Space.read_word.Goals as goal

pub load-requires : goal.load-requires
load-requires g c = let sized = c.args.self.now.sized in (
  search rules,
  omega arith,
  recalls g.R.RowRule.linked g.R.RowRule.lent g.R.RowRule.noted g.R.RowRule.fact
      g.met.R.RowRule.frames
      c.args.self.now.table.shared.key _ _ _ _,
)

pub returns-clause-word : goal.returns-clause-word
returns-clause-word g c =
    λ its held. c.load.ensures.2.1 c.args.row c.args.index its refl c.requires.inside.1 held
