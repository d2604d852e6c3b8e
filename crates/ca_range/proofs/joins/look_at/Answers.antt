use Rattle.std.proofs.Common.{sym, subst}
use Rattle.ca_node.specs.Links.{IsIn}
use Rattle.ca_node.specs.Told.{MyTree}
use Rattle.ca_range.proofs.JoinsEnded.{found_join}
use Rattle.ca_range.proofs.joins.look_at.Goals as goal

pub returns-clause-found : goal.returns-clause-found
returns-clause-found c = let w = c.load_join.ensures.loaded in found_join c.progress_of.result c.args.space.now.table.shared.key c.args.attempt
    c.args.pass.now.seat.me c.load_join.new.pass.seat.me w.0 c.requires.reading.own.1 c.requires.marked w.2 w.3 (c.progress_of.ensures w.0 w.1)
    c.requires.number c.requires.other

pub returns-clause-decided : goal.returns-clause-decided
returns-clause-decided c x i = subst (λ (m : MyTree). IsIn x m.0.upper.ranges.joins.decided) (sym c.load_join.ensures.loaded.2.now) i
