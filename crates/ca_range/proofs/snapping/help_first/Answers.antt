use Rattle.std.proofs.Common.{sym, subst}
use Rattle.ca_range.specs.Snapping.{IsRefused}
use Rattle.ca_range.specs.declared.sought.Snapped.{Snapped}
use Rattle.ca_range.proofs.SnapshotSteps.{refused_by_help}
use Rattle.ca_range.proofs.snapping.help_first.Goals as goal

pub returns-clause-refused : goal.returns-clause-refused
returns-clause-refused c = let spent = c.help_ranges.new.account.spent in let m = c.args.pass.now.seat.me in let n = c.help_ranges.new.pass.seat.me in
    subst (λ (s : Snapped). IsRefused c.args.budget spent s m n) (sym c.after_help.ensures)
    (refused_by_help c.args.space.now.table.shared.key c.args.from.range c.args.budget c.args.account.now.spent spent c.help_ranges.result m n
    c.requires.used.unfinished c.help_ranges.ensures.counted c.help_ranges.ensures.helped)
