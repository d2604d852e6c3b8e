use Rattle.std.proofs.Common.{ℕ, sym, ap, ◌∙◌, subst}
use mathlib.Core.Option.{none}
use Rattle.atomic_table.specs.Table.{step, Allows}
use Rattle.ca_rows.specs.Calls.{Raises}
use Rattle.ca_node.specs.Endings.{active_word}
use Rattle.ca_node.specs.May.{MayStore}
use Rattle.ca_node.specs.OwnRanges.{Opens}
use Rattle.ca_node.specs.Told.{status_word}
use Rattle.ca_node.proofs.Looking.{R}
use Rattle.ca_node.proofs.OwnOpening.{opens}
use Rattle.ca_node.proofs.own_ranges.open_range.Goals as goal

pub store-requires-clause-rule : goal.store-requires-clause-rule
store-requires-clause-rule g c = let z = c.args.space.now.table.shared.key in
    let slots = c.args.space.now.table.shared.table_id.slots in
    let me = c.args.pass.now.seat.me in let id = c.args.pass.now.seat.id in
    let word = c.status_word_of-word.result in
    subst (λ (k : ℕ). Allows (R z) slots id me word (λ _. active_word k)
    (λ _. Raises MayStore (Opens g.K.Owning.begun) (step slots word (active_word k) 0 none) me (active_word k)))
    c.requires.number.0
    (opens z slots id me g.K.Owning.begun word
    (c.status_word_of-word.ensures.word ∙ ap (λ (p : ℕ). status_word z p) (c.number.ensures ∙ sym c.requires.owner.same_number))
    c.requires.opening)

pub returns-clause-opened : goal.returns-clause-opened
returns-clause-opened g c = c.store.ensures.told.1
