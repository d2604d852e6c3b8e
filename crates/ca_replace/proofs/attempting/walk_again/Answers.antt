use Rattle.std.proofs.Common.{Option, subst}
use Rattle.ca_node.specs.declared.cursor.Cursor.{Cursor}
use Rattle.ca_replace.specs.Attempting.{BeginsAt}
use Rattle.ca_replace.proofs.attempting.walk_again.Goals as goal

pub walk_from-requires-clause-begins : goal.walk_from-requires-clause-begins
walk_from-requires-clause-begins c = subst
    (λ (again : Option Cursor). BeginsAt c.args.space.now.table.shared.key c.args.key.now
    c.args.pass.now.seat.me.0.upper again) c.in-Some.is c.requires.begins
