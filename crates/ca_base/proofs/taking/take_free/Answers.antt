use Rattle.std.proofs.Common.{◌<◌, ℕ, refl, ap, sym, subst, arith}
use Rattle.ca_base.specs.declared.stop.Exchange.TheVariants as exchange
use Rattle.ca_base.specs.declared.stop.Stop.TheVariants as stop
use Rattle.ca_rows.specs.Kept.{nobody}
use Rattle.ca_rows.proofs.Listing.{young_claims}
use Rattle.ca_node.specs.Told.{MyTree}
use Rattle.ca_base.specs.Counting.{losses}
use Rattle.ca_base.proofs.Counts.{none_put, none_spent}
use Rattle.ca_base.proofs.Crowds.{none_free}
use Rattle.ca_base.specs.Taking.{AreHeld}
use Rattle.ca_base.proofs.Held.{took_row}
use Rattle.ca_rows.specs.declared.sizes.Sizes.{Sizes}
use Rattle.ca_rows.proofs.NoneOld.{none_is_old}
use Rattle.ca_base.proofs.taking.take_free.Goals as goal

pub returns-in-Row-clause-taken : goal.returns-in-Row-clause-taken
returns-in-Row-clause-taken c held few h =
    took_row c.args.space.now.table.shared.key.rows c.args.pass.now.kept c.take_row.new.pass.kept
    c.args.pass.now.seat.me
    c.take_row.new.pass.seat.me c.in-Row.row (ap
    (λ (z : Sizes). z.rows) c.requires.own.1) c.in-Row.ensures.row c.take_row.ensures.frame.kept
    held few h

pub returns-in-Row-clause-counted : goal.returns-in-Row-clause-counted
returns-in-Row-clause-counted c =
    none_spent c.args.spent.now c.args.pass.now.seat.me c.take_row.new.pass.seat.me
    (ap losses c.in-Row.ensures.row.3.2)

pub returns-in-Empty-clause-counted : goal.returns-in-Empty-clause-counted
returns-in-Empty-clause-counted c =
    none_spent c.args.spent.now c.args.pass.now.seat.me c.take_row.new.pass.seat.me
    (ap losses c.in-Empty.ensures.row.1)

pub returns-in-Worn-clause-counted : goal.returns-in-Worn-clause-counted
returns-in-Worn-clause-counted c =
    none_spent c.args.spent.now c.args.pass.now.seat.me c.take_row.new.pass.seat.me
    (ap losses c.in-Worn.ensures.row.2)

pub returns-in-Empty-clause-back : goal.returns-in-Empty-clause-back
returns-in-Empty-clause-back c =
    none_put stop.Empty c.args.pass.now.seat.me c.take_row.new.pass.seat.me c.args.pass.now.kept
    c.take_row.new.pass.kept c.requires.young
    (let same = ap losses c.in-Empty.ensures.row.1 in omega arith) c.take_row.ensures.frame.kept

pub returns-in-Lost-clause-back : goal.returns-in-Lost-clause-back
returns-in-Lost-clause-back c =
    none_put (stop.Lost exchange.Head) c.args.pass.now.seat.me c.take_row.new.pass.seat.me c.args.pass.now.kept
    c.take_row.new.pass.kept c.requires.young
    (let same = ap losses c.in-Lost.ensures.row in omega arith) c.take_row.ensures.frame.kept

pub returns-in-Worn-clause-back : goal.returns-in-Worn-clause-back
returns-in-Worn-clause-back c =
    none_put stop.Worn c.args.pass.now.seat.me c.take_row.new.pass.seat.me c.args.pass.now.kept
    c.take_row.new.pass.kept c.requires.young
    (let same = ap losses c.in-Worn.ensures.row.2 in omega arith) c.take_row.ensures.frame.kept

pub returns-in-Empty-clause-found : goal.returns-in-Empty-clause-found
returns-in-Empty-clause-found c = let told = c.in-Empty.ensures.row.1 in
    let epoch : ℕ = c.args.pass.now.seat.me.0.pin.told in
    let one = none_is_old c.args.pass.now.seat.me.0.claims epoch
    (young_claims c.args.space.now.table.shared.key.rows c.args.pass.now.seat.me.0.claims c.args.pass.now.kept.rows.items
    epoch nobody c.requires.list.are c.requires.young) in
    let empty = ap (λ (m : MyTree). m.0.empty) told in
    let worn = ap (λ (m : MyTree). m.0.worn) told in (omega arith, omega arith)

pub returns-in-Row-clause-only : goal.returns-in-Row-clause-only
returns-in-Row-clause-only c = λ _. ap losses c.in-Row.ensures.row.3.2

pub returns-in-Empty-clause-only : goal.returns-in-Empty-clause-only
returns-in-Empty-clause-only c = λ _. ap losses c.in-Empty.ensures.row.1

pub returns-in-Lost-clause-only : goal.returns-in-Lost-clause-only
returns-in-Lost-clause-only c = λ only. absurd (c.in-Lost.ensures.only only refl)

pub returns-in-Worn-clause-only : goal.returns-in-Worn-clause-only
returns-in-Worn-clause-only c = λ _. ap losses c.in-Worn.ensures.row.2

pub returns-in-Empty-clause-crowded : goal.returns-in-Empty-clause-crowded
returns-in-Empty-clause-crowded c held few h only is_pass = let told = c.in-Empty.ensures.row.1 in
    let rows = c.args.space.now.table.shared.key.rows in
    none_free rows c.args.pass.now.kept.rows c.take_row.new.pass.seat.me held few
    (subst (λ (x : MyTree). AreHeld rows c.args.pass.now.kept.rows x.0 held) (sym told)
    (h.0, record { now = h.1.now; ever = h.1.ever }))
    (c.in-Empty.ensures.taken refl only) (subst (λ (x : MyTree). 0 < x.0.upper.number) (sym told) is_pass)
