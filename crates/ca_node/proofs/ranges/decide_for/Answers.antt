use Rattle.std.proofs.Common.{◌≡◌, ℕ, ◌+◌, ◌<◌, Bool, eqb, sym, ap, ◌∙◌, subst, arith}
use mathlib.Core.Option.{none}
use prog.Atomic.{either}
use Rattle.atomic_table.specs.Table.{step, Allows}
use Rattle.ca_rows.specs.Calls.{Relinks}
use Rattle.ca_node.specs.Endings.{active_word, decided_word, Helps, HasHelped}
use Rattle.ca_node.specs.May.{MaySwap}
use Rattle.ca_node.specs.Row.{mark_bound}
use Rattle.ca_node.specs.Told.{status_word}
use Rattle.ca_node.proofs.Helping.{helps, has_helped}
use Rattle.ca_node.proofs.Looking.{R}
use Rattle.ca_node.proofs.ranges.decide_for.Goals as goal

pub swap-requires-clause-rule : goal.swap-requires-clause-rule
swap-requires-clause-rule g c = let z = c.args.space.now.table.shared.key in
    let slots = c.args.space.now.table.shared.table_id.slots in
    let me = c.args.pass.now.seat.me in let id = c.args.pass.now.seat.id in
    let word = c.status_word_of-word.result in
    let border : ℕ = mark_bound g.K.Finishing.last.its in
    subst (λ (y : ℕ × ℕ). Allows (R z) slots id me word
    (λ n. either (eqb n y.0) y.1 n)
    (Relinks MaySwap (Helps g.K.Finishing.pass g.K.Finishing.number border) (step slots word y.0 y.1 none) me))
    (λ i. (
      ap (λ (n : ℕ). active_word n) c.requires.number.0 i,
      (ap (λ (n : ℕ). decided_word n g.K.Finishing.last.row) c.requires.number.0
          ∙ (ap (λ (l : ℕ). decided_word c.args.number l) c.requires.last.0 ∙ sums c.args.number c.args.last)) i,
    ))
    (helps z slots id me g.K.Finishing.pass g.K.Finishing.number g.K.Finishing.last g.K.Finishing.border word
    (subst (λ p. 0 < p) (sym c.requires.owner.0) c.requires.owner.1)
    (c.status_word_of-word.ensures.word ∙ ap (λ (p : ℕ). status_word z p) (sym c.requires.owner.0))
    c.requires.own.1 c.requires.helping)
  where
    sums : (number last : ℕ) → decided_word number last ≡ active_word number + 16777216 + last
    sums number last = omega arith

pub returns-clause-done : goal.returns-clause-done
returns-clause-done g c = let told = c.swap.ensures.told in
    let border : ℕ = mark_bound g.K.Finishing.last.its in
    let same = ap (λ (n : ℕ). active_word n) c.requires.number.0 in
    subst (λ (b : Bool). HasHelped b g.K.Finishing.pass g.K.Finishing.number border
    c.args.pass.now.seat.me c.swap.new.pass.seat.me)
    (ap (λ (w : ℕ). eqb told.0 w) same ∙ sym told.2)
    (has_helped told.0 c.args.space.now.table.shared.table_id.slots c.status_word_of-word.result
    g.K.Finishing.pass g.K.Finishing.number border
    (active_word c.args.number + 16777216 + c.args.last) c.args.pass.now.seat.me c.swap.new.pass.seat.me
    (subst (λ (w : ℕ). Helps g.K.Finishing.pass g.K.Finishing.number border
    (step c.args.space.now.table.shared.table_id.slots c.status_word_of-word.result w
    (active_word c.args.number + 16777216 + c.args.last) none)
    c.args.pass.now.seat.me told.0 c.swap.new.pass.seat.me) (sym same) told.1))
