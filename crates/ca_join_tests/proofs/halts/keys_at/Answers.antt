use Rattle.std.proofs.Common.{sym, subst}
use Rattle.ca_base.specs.Finding.{IsReadable}
use Rattle.ca_node.specs.Told.{MyTree}
use Rattle.ca_join_tests.proofs.halts.keys_at.Goals as goal

pub has_in-requires-clause-readable : goal.has_in-requires-clause-readable
has_in-requires-clause-readable c = let r = c.requires.readable in (
  r.0,
  subst (λ (m : MyTree). IsReadable c.args.space.now.table.shared.key m.0.upper c.args.base r.0) (sym c.loop-key.invariant.still) r.1,
)
