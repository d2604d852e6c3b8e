use Rattle.std.proofs.Common.{rules, arith}
use Rattle.ca_rows.proofs.Calling.{is_pass}
use Rattle.ca_rows.proofs.Scanning.{moves}
use Rattle.ca_rows.proofs.space.Space.move_epoch.Goals as goal

pub compare_exchange-requires : goal.compare_exchange-requires
compare_exchange-requires g c = let sized = c.args.self.now.sized in let seen = c.requires.seen.1 in (
  search rules,
  omega arith,
  moves g.R.RowRule.linked g.R.RowRule.lent g.R.RowRule.noted g.R.RowRule.fact
      g.met.R.RowRule.frames
      c.args.self.now.table.shared.key _ _ _ c.args.epoch c.requires.seen.0 (omega arith)
      c.requires.room (is_pass c.args.pass.now.number c.args.pass.now.seat.me.0.pin c.args.pass.now.numbered)
      c.requires.begun,
)
