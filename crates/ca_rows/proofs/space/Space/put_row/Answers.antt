use Rattle.std.proofs.Common.{rules, ◌≡◌, ℕ, ◌+◌, ◌/◌, ◌%◌, List, set, arith, ap, ◌∙◌, eq-eqb, get_or-set_same, length-set}
use mathlib.Core.Option.{some}
use Rattle.ca_rows.specs.declared.view.Claim.TheVariants.{Holds}
use Rattle.ca_rows.specs.Claims.{claim_of}
use Rattle.ca_rows.specs.Told.{Mine}
use Rattle.ca_rows.proofs.Calling.{row_put}
use Rattle.ca_rows.proofs.Claiming.{claimed_here}
use Rattle.ca_rows.proofs.Calling.{is_pass}
use Rattle.ca_rows.proofs.Heads.{is_only}
use Rattle.ca_rows.proofs.Steps.{glances, gives}
use Rattle.ca_rows.proofs.space.Space.put_row.Goals as goal
use Rattle.ca_rows.specs.Layout.{row_limit}

pub load-head-requires : goal.load-head-requires
load-head-requires g c = let sized = c.args.self.now.sized in (
  search rules,
  omega arith,
  glances g.R.RowRule.linked g.R.RowRule.lent g.R.RowRule.noted g.R.RowRule.fact
      g.met.R.RowRule.frames
      c.args.self.now.table.shared.key _ _ _ (is_pass c.args.pass.now.number c.args.pass.now.seat.me.0.pin c.args.pass.now.numbered),
)

pub compare_exchange-requires : goal.compare_exchange-requires
compare_exchange-requires g c =
    let sized = c.args.self.now.sized in
    let few = c.args.self.now.few.1 in
    let inside = c.requires.inside in
    let saw = c.load-head.ensures.2.1 in
    let its : List ℕ = c.requires.held.0 in
    let long = c.requires.held.1 in
    let h : ℕ = c.load-head.result % row_limit in
    let had : claim_of c.load-head.new.seat.me.0.claims c.args.row ≡ some (Holds its) = ap
    (λ (m : Mine g.row.R-Upper.Denot). claim_of m.0.claims c.args.row) saw ∙ c.requires.held.2 in
    let wrote = c.write_word.ensures.written its had in
    let has : claim_of c.write_word.new.pass.seat.me.0.claims c.args.row
    ≡ some (Holds (set its 0 (h + 1))) =
    ap (λ (m : Mine g.row.R-Upper.Denot). claim_of m.0.claims c.args.row) wrote
    ∙ claimed_here c.load-head.new.seat.me.0.claims c.args.row (Holds (set its 0 (h + 1))) in (
      search rules,
      omega arith,
      gives g.R.RowRule.linked g.R.RowRule.lent g.R.RowRule.noted g.R.RowRule.fact
          g.met.R.RowRule.frames c.args.self.now.table.shared.key _ _ _
          (c.load-head.result / row_limit) h c.args.row (set its 0 (h + 1))
          (ap (λ (m : Mine g.row.R-Upper.Denot). m.0.stage) wrote
          ∙ ap (λ (m : Mine g.row.R-Upper.Denot). m.0.stage) saw)
          (omega arith) (omega arith) has (get_or-set_same its 0 (h + 1) 0 (omega arith)),
    )

pub returns-clause-given : goal.returns-clause-given
returns-clause-given g c =
    let few = c.args.self.now.few.1 in
    let inside = c.requires.inside in
    let saw = c.load-head.ensures.2.1 in
    let its : List ℕ = c.requires.held.0 in
    let h : ℕ = c.load-head.result % row_limit in
    let had : claim_of c.load-head.new.seat.me.0.claims c.args.row ≡ some (Holds its) = ap
    (λ (m : Mine g.row.R-Upper.Denot). claim_of m.0.claims c.args.row) saw ∙ c.requires.held.2 in
    let wrote = c.write_word.ensures.written its had in
    row_put c.args.pass.now.seat.me c.load-head.new.seat.me c.write_word.new.pass.seat.me
    c.compare_exchange.new.seat.me _ c.args.row _
    c.compare_exchange.result _ (set its 0 (h + 1))
    (length-set its 0 (h + 1) ∙ c.requires.held.1) saw wrote (omega arith) c.compare_exchange.ensures.2.1
    c.compare_exchange.ensures.2.2

pub returns-clause-only : goal.returns-clause-only
returns-clause-only g c = λ only. let p = c.args.pass.now.seat.me in
    let saw = c.load-head.ensures.2.1 in
    let its : List ℕ = c.requires.held.0 in
    let had : claim_of c.load-head.new.seat.me.0.claims c.args.row ≡ some (Holds its) = ap
    (λ (m : Mine g.row.R-Upper.Denot). claim_of m.0.claims c.args.row) saw ∙ c.requires.held.2 in
    let wrote = c.write_word.ensures.written its had in
    eq-eqb _ _ (c.compare_exchange.ensures.2.3 (is_only p c.write_word.new.pass.seat.me
    (ap (λ (m : Mine g.row.R-Upper.Denot). m.0.sizes) wrote
    ∙ ap (λ (m : Mine g.row.R-Upper.Denot). m.0.sizes) saw) only))
