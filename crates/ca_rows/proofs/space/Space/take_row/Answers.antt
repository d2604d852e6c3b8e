use Rattle.std.proofs.Common.{rules, ℕ, ◌*◌, ◌+◌, ◌/◌, ◌%◌, ◌∙◌, sym, refl, arith, ap}
use mathlib.Core.Logic.{dite}
use native.Mathlib.Decide.{ℕ_discrete}
use Rattle.ca_rows.specs.declared.sizes.Sizes.{Sizes}
use Rattle.ca_rows.specs.Told.{Mine}
use Rattle.ca_rows.proofs.Calling.{row_taken, row_missed, still}
use Rattle.ca_rows.proofs.Calling.{is_pass, numbered_still}
use Rattle.ca_rows.proofs.Heads.{is_only}
use Rattle.ca_rows.proofs.Steps.{looks, peeks, takes}
use Rattle.ca_rows.proofs.space.Space.take_row.Goals as goal
use Rattle.ca_rows.specs.Layout.{row_limit}
use Rattle.ca_rows.specs.Words.{next_below}

pub load-head-requires : goal.load-head-requires
load-head-requires g c = let sized = c.args.self.now.sized in (
  search rules,
  omega arith,
  looks g.R.RowRule.linked g.R.RowRule.lent g.R.RowRule.noted g.R.RowRule.fact
      g.met.R.RowRule.frames
      c.args.self.now.table.shared.key g.R.RowRule.listed g.met.R.RowRule.listing _ _ _ (is_pass c.args.pass.now.number c.args.pass.now.seat.me.0.pin c.args.pass.now.numbered),
)

pub load-first-requires : goal.load-first-requires
load-first-requires g c = let sized = c.args.self.now.sized in let few = c.args.self.now.few.1 in
    let some_free = c.if-row-eq0.false in
    let saw = c.load-head.ensures.2.3 (omega arith) c.if-tag-eq-LAST_TAG.false in (
      search rules,
      (let same = ap (λ (z : Sizes). z.rows) c.requires.own.1 in
          let some_rows = c.args.self.now.few.0 in
          let lim = c.load-head.ensures.2.0 (omega arith) in
          omega arith),
      peeks g.R.RowRule.linked g.R.RowRule.lent g.R.RowRule.noted g.R.RowRule.fact
          g.met.R.RowRule.frames c.args.self.now.table.shared.key _ _ _
          (c.load-head.result / row_limit) (c.load-head.result % row_limit)
          (ap (λ (m : Mine g.row.R-Upper.Denot). m.0.stage) saw) (omega arith),
    )

pub compare_exchange-found-requires : goal.compare_exchange-found-requires
compare_exchange-found-requires g c = let sized = c.args.self.now.sized in
    let some_free = c.if-row-eq0.false in
    let saw = c.load-head.ensures.2.3 (omega arith) c.if-tag-eq-LAST_TAG.false in
    let next = c.load-first.ensures.2 (c.load-head.result / row_limit) (c.load-head.result % row_limit) (ap
    (λ (m : Mine g.row.R-Upper.Denot). m.0.stage) saw) in (
      search rules,
      omega arith,
      takes g.R.RowRule.linked g.R.RowRule.lent g.R.RowRule.noted g.R.RowRule.fact
          g.met.R.RowRule.frames c.args.self.now.table.shared.key _ _ _
          (c.load-head.result / row_limit) (c.load-head.result % row_limit) c.load-first.result c.next_row-next.result
          (ap (λ (m : Mine g.row.R-Upper.Denot). m.0.stage) next)
          (ap (λ (n : ℕ). next_below n (c.load-head.result % row_limit) c.load-first.result)
          (ap (λ (z : Sizes). z.rows) (sym c.args.self.now.same)) ∙ sym c.next_row-next.ensures)
          (omega arith) (omega arith),
    )

pub returns-then-found-old-clause-row : goal.returns-then-found-old-clause-row
returns-then-found-old-clause-row g c =
    let some_free = c.if-row-eq0.false in
    let saw = c.load-head.ensures.2.3 (omega arith) c.if-tag-eq-LAST_TAG.false in
    let t' : ℕ = c.load-head.result / row_limit in
    let q : ℕ = c.load-head.result % row_limit in
    let next = c.load-first.ensures.2 t' q (ap (λ (m : Mine g.row.R-Upper.Denot). m.0.stage) saw) in
    let took =
    (c.compare_exchange-found.ensures.2.1 t' q c.load-first.result (ap
    (λ (m : Mine g.row.R-Upper.Denot). m.0.stage) next)).0 c.if-found-old.true in
    let same =
    row_taken c.args.pass.now.seat.me c.load-head.new.seat.me c.load-first.new.seat.me
    c.compare_exchange-found.new.seat.me _ _ saw q took.1.0 next
    took.0 took.1.2 in
    let rows = ap (λ (z : Sizes). z.rows) c.requires.own.1 in
    let some_rows = c.args.self.now.few.0 in
    let bound = c.load-head.ensures.2.0 (omega arith) in
    (omega arith, bound, same.0, (took.1.0, took.1.1, same.1))

pub returns-else-found-old-clause-row : goal.returns-else-found-old-clause-row
returns-else-found-old-clause-row g c =
    let some_free = c.if-row-eq0.false in
    let saw = c.load-head.ensures.2.3 (omega arith) c.if-tag-eq-LAST_TAG.false in
    let t' : ℕ = c.load-head.result / row_limit in
    let q : ℕ = c.load-head.result % row_limit in
    let next = c.load-first.ensures.2 t' q (ap (λ (m : Mine g.row.R-Upper.Denot). m.0.stage) saw) in
    let took =
    (c.compare_exchange-found.ensures.2.1 t' q c.load-first.result (ap
    (λ (m : Mine g.row.R-Upper.Denot). m.0.stage) next)).1 c.if-found-old.false in
    row_missed c.args.pass.now.seat.me c.load-head.new.seat.me c.load-first.new.seat.me
    c.compare_exchange-found.new.seat.me _ _ saw next took

pub returns-then-found-old-clause-frame : goal.returns-then-found-old-clause-frame
returns-then-found-old-clause-frame g c = record {
  same = let row = returns-then-found-old-clause-row g c in
      let rest =
      still c.args.pass.now.seat.me c.compare_exchange-found.new.seat.me _ _ _ _ _ _ row.3.2 in (
        c.compare_exchange-found.ensures.0 ∙ (c.load-first.ensures.0 ∙ c.load-head.ensures.0),
        c.compare_exchange-found.ensures.1
            ∙ (c.load-first.ensures.1 ∙ c.load-head.ensures.1),
        rest.0,
        rest.1,
        rest.2,
      );
  number = search rules;
  tally = search rules;
  kept = search rules;
}

pub returns-else-found-old-clause-frame : goal.returns-else-found-old-clause-frame
returns-else-found-old-clause-frame g c = record {
  same = let rest = still c.args.pass.now.seat.me c.compare_exchange-found.new.seat.me _ _ _ _ _ _
      (returns-else-found-old-clause-row g c) in (
        c.compare_exchange-found.ensures.0 ∙ (c.load-first.ensures.0 ∙ c.load-head.ensures.0),
        c.compare_exchange-found.ensures.1
            ∙ (c.load-first.ensures.1 ∙ c.load-head.ensures.1),
        rest.0,
        rest.1,
        rest.2,
      );
  number = search rules;
  tally = search rules;
  kept = search rules;
}

pub invariant_of-pass-2 : goal.invariant_of-pass-2
invariant_of-pass-2 g c =
    let some_free = c.if-row-eq0.false in
    let saw = c.load-head.ensures.2.3 (omega arith) c.if-tag-eq-LAST_TAG.false in
    let t' : ℕ = c.load-head.result / row_limit in
    let q : ℕ = c.load-head.result % row_limit in
    let next = c.load-first.ensures.2 t' q (ap (λ (m : Mine g.row.R-Upper.Denot). m.0.stage) saw) in
    let took = c.compare_exchange-found.ensures.2.1 t' q c.load-first.result (ap
    (λ (m : Mine g.row.R-Upper.Denot). m.0.stage) next) in
    let before = ap (λ (m : Mine g.row.R-Upper.Denot). m.1) next
    ∙ (ap (λ (m : Mine g.row.R-Upper.Denot). m.1) saw ∙ c.args.pass.now.hands) in record {
      hands = dite (ℕ_discrete c.compare_exchange-found.result (t' * row_limit + q))
          (λ hit. ap (λ (m : Mine g.row.R-Upper.Denot). m.1) (took.0 hit).1.2 ∙ before)
          (λ miss. ap (λ (m : Mine g.row.R-Upper.Denot). m.1) (took.1 miss) ∙ before);
      numbered = let pin = ap (λ (m : Mine g.row.R-Upper.Denot). m.0.pin) next
          ∙ ap (λ (m : Mine g.row.R-Upper.Denot). m.0.pin) saw in
          numbered_still c.args.pass.now.number c.args.pass.now.number c.args.pass.now.seat.me.0.pin
          c.compare_exchange-found.new.seat.me.0.pin refl
          (dite (ℕ_discrete c.compare_exchange-found.result (t' * row_limit + q))
          (λ hit. ap (λ (m : Mine g.row.R-Upper.Denot). m.0.pin) (took.0 hit).1.2 ∙ pin)
          (λ miss. ap (λ (m : Mine g.row.R-Upper.Denot). m.0.pin) (took.1 miss) ∙ pin))
          c.args.pass.now.numbered;
    }

pub returns-then-found-old-clause-only : goal.returns-then-found-old-clause-only
returns-then-found-old-clause-only g c = λ _ e. cc

pub returns-else-found-old-clause-only : goal.returns-else-found-old-clause-only
returns-else-found-old-clause-only g c = λ only _. let p = c.args.pass.now.seat.me in
    let some_free = c.if-row-eq0.false in
    let saw = c.load-head.ensures.2.3 (omega arith) c.if-tag-eq-LAST_TAG.false in
    let next = c.load-first.ensures.2 (c.load-head.result / row_limit) (c.load-head.result % row_limit)
    (ap (λ (m : Mine g.row.R-Upper.Denot). m.0.stage) saw) in
    c.if-found-old.false (c.compare_exchange-found.ensures.2.2 (is_only p c.load-first.new.seat.me
    (ap (λ (m : Mine g.row.R-Upper.Denot). m.0.sizes) next
    ∙ ap (λ (m : Mine g.row.R-Upper.Denot). m.0.sizes) saw) only))
