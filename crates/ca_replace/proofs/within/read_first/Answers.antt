use Rattle.ca_replace.proofs.Runs.{last_inside}
use Rattle.ca_replace.proofs.within.read_first.Goals as goal

pub enter-requires-clause-inside : goal.enter-requires-clause-inside
enter-requires-clause-inside c =
    last_inside c.args.space.now.table.shared.key c.args.pass.now.seat.me.0.upper c.args.run c.requires.remembered

pub enter-requires-2-clause-inside : goal.enter-requires-2-clause-inside
enter-requires-2-clause-inside c =
    last_inside c.args.space.now.table.shared.key c.args.pass.now.seat.me.0.upper c.args.run c.requires.remembered
