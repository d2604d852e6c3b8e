use Rattle.std.proofs.Common.{◌≡◌, ℕ, ◌<◌, ◌+◌, Bool, eqb, sym, ap, ◌∙◌, subst, arith}
use mathlib.Core.Option.{none}
use prog.Atomic.{either}
use Rattle.atomic_table.specs.Table.{step, Allows}
use Rattle.ca_rows.specs.Calls.{Relinks}
use Rattle.ca_node.specs.Endings.{active_word, decided_word}
use Rattle.ca_node.specs.May.{MaySwap}
use Rattle.ca_node.specs.OwnRanges.{DecidesOwn, HasDecidedOwn}
use Rattle.ca_node.specs.States.{IsAlone}
use Rattle.ca_node.specs.Told.{status_word}
use Rattle.ca_rows.specs.declared.sizes.Sizes.{Sizes}
use Rattle.ca_node.proofs.Looking.{R}
use Rattle.ca_node.proofs.OwnDeciding.{lost_deciding, decides_own, has_decided}
use Rattle.ca_node.proofs.own_ranges.decide_own.Goals as goal

pub swap-requires-clause-rule : goal.swap-requires-clause-rule
swap-requires-clause-rule g c = let z = c.args.space.now.table.shared.key in
    let slots = c.args.space.now.table.shared.table_id.slots in
    let me = c.args.pass.now.seat.me in let id = c.args.pass.now.seat.id in
    let word = c.status_word_of-word.result in
    subst (λ (y : ℕ × ℕ). Allows (R z) slots id me word
    (λ n. either (eqb n y.0) y.1 n)
    (Relinks MaySwap (DecidesOwn g.K.Owning.begun g.K.Owning.border g.K.Owning.last) (step slots word y.0 y.1 none) me))
    (λ i. (
      ap (λ (n : ℕ). active_word n) c.requires.number.0 i,
      (ap (λ (n : ℕ). decided_word n g.K.Owning.last.row) c.requires.number.0
          ∙ (ap (λ (l : ℕ). decided_word c.args.number l) c.requires.last.0 ∙ sums c.args.number c.args.last)) i,
    ))
    (decides_own z slots id me g.K.Owning.begun g.K.Owning.border g.K.Owning.last word
    (c.status_word_of-word.ensures.word ∙ ap (λ (p : ℕ). status_word z p) (c.number.ensures ∙ sym c.requires.owner.same_number))
    c.requires.ending)
  where
    sums : (number last : ℕ) → decided_word number last ≡ active_word number + 16777216 + last
    sums number last = omega arith

pub returns-clause-done : goal.returns-clause-done
returns-clause-done g c = let told = c.swap.ensures.told in
    let same = ap (λ (n : ℕ). active_word n) c.requires.number.0 in
    subst (λ (b : Bool). HasDecidedOwn b g.K.Owning.begun g.K.Owning.border g.K.Owning.last c.args.pass.now.seat.me c.swap.new.pass.seat.me)
    (ap (λ (w : ℕ). eqb told.0 w) same ∙ sym told.2)
    (has_decided told.0 c.args.space.now.table.shared.table_id.slots c.status_word_of-word.result
    (active_word c.args.number + 16777216 + c.args.last) g.K.Owning.begun g.K.Owning.border g.K.Owning.last c.args.pass.now.seat.me
    c.swap.new.pass.seat.me
    (subst (λ (w : ℕ). DecidesOwn g.K.Owning.begun g.K.Owning.border g.K.Owning.last
    (step c.args.space.now.table.shared.table_id.slots c.status_word_of-word.result w
    (active_word c.args.number + 16777216 + c.args.last) none)
    c.args.pass.now.seat.me told.0 c.swap.new.pass.seat.me) (sym same) told.1))

pub returns-clause-several : goal.returns-clause-several
returns-clause-several g c lost = let told = c.swap.ensures.told in let m = c.args.pass.now.seat.me in
    let same = ap (λ (n : ℕ). active_word n) c.requires.number.0 in let own = c.requires.owner.reading.own.1 in
    subst (λ (y : Sizes). ¬ IsAlone y m.0.upper) own
    (lost_deciding told.0 c.args.space.now.table.shared.table_id.slots c.status_word_of-word.result
    (active_word c.args.number + 16777216 + c.args.last) g.K.Owning.begun g.K.Owning.border g.K.Owning.last m c.swap.new.pass.seat.me
    (subst (λ (w : ℕ). DecidesOwn g.K.Owning.begun g.K.Owning.border g.K.Owning.last
    (step c.args.space.now.table.shared.table_id.slots c.status_word_of-word.result w (active_word c.args.number + 16777216 + c.args.last) none)
    m told.0 c.swap.new.pass.seat.me) (sym same) told.1)
    (ap (λ (w : ℕ). eqb told.0 w) same ∙ (sym told.2 ∙ lost))
    (subst (λ (y : Sizes). 0 < y.rows) (sym own) c.args.space.now.few.0))
