use Rattle.std.proofs.Common.{ℕ, eqb, sym, subst}
use mathlib.Core.Option.{none}
use prog.Atomic.{either}
use Rattle.atomic_table.specs.Table.{step, Allows}
use Rattle.ca_rows.specs.Calls.{Relinks}
use Rattle.ca_node.specs.May.{MaySwap}
use Rattle.ca_node.proofs.Looking.{R}
use Rattle.ca_node.proofs.steps.join_link.Goals as goal

pub swap_join-requires-clause-rule : goal.swap_join-requires-clause-rule
swap_join-requires-clause-rule g c = let id = c.args.space.now.table.shared in
    let p = c.args.pass.now.seat in
    subst (λ (i : ℕ). Allows (R id.key) id.table_id.slots p.id p.me i
    (λ n. either (eqb n c.args.old) c.args.new n)
    (Relinks MaySwap g.M.Play.then (step id.table_id.slots i c.args.old c.args.new none) p.me))
    (sym c.word_of.ensures) c.requires.rule
