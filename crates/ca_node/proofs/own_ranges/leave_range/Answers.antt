use Rattle.std.proofs.Common.{ℕ, ◌*◌, eqb, sym, ap, ◌∙◌, subst}
use mathlib.Core.Option.{none}
use prog.Atomic.{either}
use Rattle.atomic_table.specs.Table.{step, Allows}
use Rattle.ca_rows.specs.Calls.{Relinks}
use Rattle.ca_node.specs.Endings.{active_word}
use Rattle.ca_node.specs.Layout.{sequence_unit}
use Rattle.ca_node.specs.May.{MaySwap}
use Rattle.ca_node.specs.OwnRanges.{Leaves}
use Rattle.ca_node.specs.Told.{status_word}
use Rattle.ca_node.proofs.Looking.{R}
use Rattle.ca_node.proofs.OwnOpening.{leaves}
use Rattle.ca_node.proofs.own_ranges.leave_range.Goals as goal

pub swap-requires-clause-rule : goal.swap-requires-clause-rule
swap-requires-clause-rule g c = let z = c.args.space.now.table.shared.key in
    let slots = c.args.space.now.table.shared.table_id.slots in
    let me = c.args.pass.now.seat.me in let id = c.args.pass.now.seat.id in
    let word = c.status_word_of-word.result in
    subst (λ (k : ℕ). Allows (R z) slots id me word
    (λ n. either (eqb n (active_word k)) (sequence_unit * k) n)
    (Relinks MaySwap (Leaves g.K.Owning.begun) (step slots word (active_word k) (sequence_unit * k) none) me))
    c.requires.number.0
    (leaves z slots id me g.K.Owning.begun word
    (c.status_word_of-word.ensures.word ∙ ap (λ (p : ℕ). status_word z p) (c.number.ensures ∙ sym c.requires.owner.same_number))
    c.requires.leaving)

pub returns-clause-left : goal.returns-clause-left
returns-clause-left g c = c.swap.ensures.told.1.2
