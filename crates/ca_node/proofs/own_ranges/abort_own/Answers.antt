use Rattle.std.proofs.Common.{ℕ, ◌<◌, ◌*◌, Bool, eqb, sym, ap, ◌∙◌, subst}
use mathlib.Core.Option.{none}
use prog.Atomic.{either}
use Rattle.atomic_table.specs.Table.{step, Allows}
use Rattle.ca_rows.specs.Calls.{Relinks}
use Rattle.ca_node.specs.Endings.{active_word}
use Rattle.ca_node.specs.Layout.{sequence_unit}
use Rattle.ca_node.specs.May.{MaySwap}
use Rattle.ca_node.specs.OwnRanges.{Aborts, HasAborted}
use Rattle.ca_node.specs.States.{IsAlone}
use Rattle.ca_node.specs.Told.{status_word}
use Rattle.ca_rows.specs.declared.sizes.Sizes.{Sizes}
use Rattle.ca_node.proofs.Looking.{R}
use Rattle.ca_node.proofs.OwnDeciding.{lost_aborting, aborts, has_aborted}
use Rattle.ca_node.proofs.own_ranges.abort_own.Goals as goal

pub swap-requires-clause-rule : goal.swap-requires-clause-rule
swap-requires-clause-rule g c = let z = c.args.space.now.table.shared.key in
    let slots = c.args.space.now.table.shared.table_id.slots in
    let me = c.args.pass.now.seat.me in let id = c.args.pass.now.seat.id in
    let word = c.status_word_of-word.result in
    subst (λ (k : ℕ). Allows (R z) slots id me word
    (λ n. either (eqb n (active_word k)) (sequence_unit * k) n)
    (Relinks MaySwap (Aborts g.K.Owning.begun g.K.Owning.border) (step slots word (active_word k) (sequence_unit * k) none) me))
    c.requires.number.0
    (aborts z slots id me g.K.Owning.begun g.K.Owning.border word
    (c.status_word_of-word.ensures.word ∙ ap (λ (p : ℕ). status_word z p) (c.number.ensures ∙ sym c.requires.owner.same_number))
    c.requires.giving)

pub returns-clause-done : goal.returns-clause-done
returns-clause-done g c = let told = c.swap.ensures.told in
    let same = ap (λ (n : ℕ). active_word n) c.requires.number.0 in
    subst (λ (b : Bool). HasAborted b g.K.Owning.begun g.K.Owning.border c.args.pass.now.seat.me c.swap.new.pass.seat.me)
    (ap (λ (w : ℕ). eqb told.0 w) same ∙ sym told.2)
    (has_aborted told.0 c.args.space.now.table.shared.table_id.slots c.status_word_of-word.result
    (sequence_unit * c.args.number) g.K.Owning.begun g.K.Owning.border c.args.pass.now.seat.me c.swap.new.pass.seat.me
    (subst (λ (w : ℕ). Aborts g.K.Owning.begun g.K.Owning.border
    (step c.args.space.now.table.shared.table_id.slots c.status_word_of-word.result w (sequence_unit * c.args.number) none)
    c.args.pass.now.seat.me told.0 c.swap.new.pass.seat.me) (sym same) told.1))

pub returns-clause-several : goal.returns-clause-several
returns-clause-several g c lost = let told = c.swap.ensures.told in let m = c.args.pass.now.seat.me in
    let same = ap (λ (n : ℕ). active_word n) c.requires.number.0 in let own = c.requires.owner.reading.own.1 in
    subst (λ (y : Sizes). ¬ IsAlone y m.0.upper) own
    (lost_aborting told.0 c.args.space.now.table.shared.table_id.slots c.status_word_of-word.result
    (sequence_unit * c.args.number) g.K.Owning.begun g.K.Owning.border m c.swap.new.pass.seat.me
    (subst (λ (w : ℕ). Aborts g.K.Owning.begun g.K.Owning.border
    (step c.args.space.now.table.shared.table_id.slots c.status_word_of-word.result w (sequence_unit * c.args.number) none)
    m told.0 c.swap.new.pass.seat.me) (sym same) told.1)
    (ap (λ (w : ℕ). eqb told.0 w) same ∙ (sym told.2 ∙ lost))
    (subst (λ (y : Sizes). 0 < y.rows) (sym own) c.args.space.now.few.0))
