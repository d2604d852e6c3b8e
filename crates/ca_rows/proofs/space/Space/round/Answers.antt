use Rattle.std.proofs.Common.{rules, ◌≡◌, ◌⊎◌, ◌+◌, true, false, length, inl, inr, sym, ap, ◌∙◌, subst, arith}
use Rattle.std.specs.declared.option.Option.TheVariants.{None, Some}
use Rattle.ca_rows.specs.declared.kept.KeptRows.{KeptRows}
use Rattle.ca_rows.specs.declared.view.Pin.{Pin}
use Rattle.ca_rows.specs.Reclaiming.{Rounds}
use Rattle.ca_rows.specs.Told.{Mine}
use Rattle.ca_rows.proofs.Rounding.{round_ends, round_lags, round_moves, round_misses}
use Rattle.ca_rows.proofs.Scanning.{begins}
use Rattle.ca_rows.proofs.space.Space.round.Goals as goal
use Rattle.ca_rows.proofs.space.Space.round.Goals.{then-len-eq0-via-then-len-eq0, then-len-eq0-via-else-len-eq0+then-epoch-eq-LAST_EPOCH}
use Rattle.ca_rows.specs.Layout.{last_epoch}

pub load-epoch-requires : goal.load-epoch-requires
load-epoch-requires g c = let sized = c.args.self.now.sized in (
  search rules,
  omega arith,
  begins g.R.RowRule.linked g.R.RowRule.lent g.R.RowRule.noted g.R.RowRule.fact
      g.met.R.RowRule.frames
      c.args.self.now.table.shared.key _ _ _,
)

pub returns-then-len-eq0-clause-rounds : goal.returns-then-len-eq0-clause-rounds
returns-then-len-eq0-clause-rounds g c = let began = c.load-epoch.ensures.2 in
    let gave = c.give_old-freed.ensures.gives in
    let ks = c.args.pass.now.kept.rows in let ks' = c.give_old-freed.new.pass.kept.rows in
    let long = ks.ok.0 in let long' = ks'.ok.0 in
    let count = gave.freed_are in let few = gave.few in let n = c.len.ensures in
    let why : (length ks'.items ≡ 0)
    ⊎ (c.load-epoch.result ≡ last_epoch) = elim c.then-len-eq0.branch [
      | then-len-eq0-via-then-len-eq0 w ↦ (let none_left = w.if-len-eq0.true in inl (omega arith))
      | then-len-eq0-via-else-len-eq0+then-epoch-eq-LAST_EPOCH w ↦ inr w.if-epoch-eq-LAST_EPOCH.true
    ] in
    round_ends c.args.self.now.table.shared.key.passes c.args.pass.now.number
    c.args.pass.now.seat.me c.load-epoch.new.seat.me c.give_old-freed.new.pass.seat.me
    c.load-epoch.result began.1 began.2 began.3 gave.reclaims gave.same_pin c.give_old-freed.result.0
    c.give_old-freed.result.1 ks.items ks'.items
    (omega arith) gave.lost (omega arith) gave.young why

pub returns-in-Some-clause-rounds : goal.returns-in-Some-clause-rounds
returns-in-Some-clause-rounds g c = let began = c.load-epoch.ensures.2 in
    let gave = c.give_old-freed.ensures.gives in
    let ks = c.args.pass.now.kept.rows in let ks' = c.give_old-freed.new.pass.kept.rows in
    let long = ks.ok.0 in let long' = ks'.ok.0 in
    let some_kept = c.if-len-eq0.false in let n = c.len.ensures in
    let count = gave.freed_are in let few = gave.few in let number = ap (λ (p : Pin). p.number) gave.same_pin
    ∙ (ap (λ (x : Mine g.row.R-Upper.Denot). x.0.pin.number) began.3 ∙ c.args.pass.now.numbered.0) in
    let same = c.in-Some.ensures.frame.kept in
    subst (λ (k : KeptRows).
    Rounds c.args.self.now.table.shared.key.passes c.args.pass.now.number
    (record {
      freed =
          c.give_old-freed.result.0;
      lag =
          Some c.in-Some.number;
      losses =
          c.give_old-freed.result.1;
      epoch = c.load-epoch.result;
      more = false;
    })
    c.args.pass.now.seat.me c.lagging.new.pass.seat.me ks.items k.rows.items)
    (sym same) (round_lags c.args.self.now.table.shared.key.passes c.args.pass.now.number
    c.args.pass.now.seat.me c.load-epoch.new.seat.me
    c.give_old-freed.new.pass.seat.me
    c.load-epoch.result began.1 began.2 began.3 gave.reclaims gave.same_pin c.give_old-freed.result.0
    c.give_old-freed.result.1 ks.items ks'.items
    (omega arith) gave.lost (omega arith) gave.young (omega arith)
    c.in-Some.number c.lagging.new.pass.seat.me number c.in-Some.ensures.look)

pub returns-then-move_epoch-clause-rounds : goal.returns-then-move_epoch-clause-rounds
returns-then-move_epoch-clause-rounds g c = let began = c.load-epoch.ensures.2 in
    let gave = c.give_old-freed.ensures.gives in
    let ks = c.args.pass.now.kept.rows in let ks' = c.give_old-freed.new.pass.kept.rows in
    let long = ks.ok.0 in let long' = ks'.ok.0 in
    let some_kept = c.if-len-eq0.false in let n = c.len.ensures in
    let count = gave.freed_are in let few = gave.few in let moved = c.if-move_epoch.ensures in
    let same = moved.frame.kept ∙ c.in_default.ensures.frame.kept in
    subst (λ (k : KeptRows).
    Rounds c.args.self.now.table.shared.key.passes c.args.pass.now.number
    (record {
      freed =
          c.give_old-freed.result.0;
      lag =
          None;
      losses = c.give_old-freed.result.1;
      epoch = c.load-epoch.result + 1;
      more = true;
    })
    c.args.pass.now.seat.me c.move_epoch.new.pass.seat.me ks.items k.rows.items)
    (sym same) (round_moves c.args.self.now.table.shared.key.passes c.args.pass.now.number
    c.args.pass.now.seat.me c.load-epoch.new.seat.me
    c.give_old-freed.new.pass.seat.me
    c.load-epoch.result began.1 began.2 began.3 gave.reclaims gave.same_pin c.give_old-freed.result.0
    c.give_old-freed.result.1 ks.items ks'.items
    (omega arith) gave.lost (omega arith) gave.young (omega arith)
    c.lagging.new.pass.seat.me c.move_epoch.new.pass.seat.me c.in_default.ensures.look moved.moves)

pub returns-else-move_epoch-clause-rounds : goal.returns-else-move_epoch-clause-rounds
returns-else-move_epoch-clause-rounds g c = let began = c.load-epoch.ensures.2 in
    let gave = c.give_old-freed.ensures.gives in
    let ks = c.args.pass.now.kept.rows in let ks' = c.give_old-freed.new.pass.kept.rows in
    let long = ks.ok.0 in let long' = ks'.ok.0 in
    let some_kept = c.if-len-eq0.false in let n = c.len.ensures in
    let count = gave.freed_are in let few = gave.few in let moved = c.if-move_epoch.ensures in
    let same = moved.frame.kept ∙ c.in_default.ensures.frame.kept in
    subst (λ (k : KeptRows).
    Rounds c.args.self.now.table.shared.key.passes c.args.pass.now.number
    (record {
      freed =
          c.give_old-freed.result.0;
      lag =
          None;
      losses = c.give_old-freed.result.1 + 1;
      epoch = c.load-epoch.result;
      more = true;
    })
    c.args.pass.now.seat.me c.move_epoch.new.pass.seat.me ks.items k.rows.items)
    (sym same) (round_misses c.args.self.now.table.shared.key.passes c.args.pass.now.number
    c.args.pass.now.seat.me c.load-epoch.new.seat.me
    c.give_old-freed.new.pass.seat.me
    c.load-epoch.result began.1 began.2 began.3 gave.reclaims gave.same_pin c.give_old-freed.result.0
    c.give_old-freed.result.1 ks.items ks'.items
    (omega arith) gave.lost (omega arith) gave.young (omega arith)
    c.lagging.new.pass.seat.me c.move_epoch.new.pass.seat.me c.in_default.ensures.look moved.moves)
