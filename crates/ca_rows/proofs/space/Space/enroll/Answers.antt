use Rattle.std.proofs.Common.{rules, ◌+◌, ◌<◌, sym, subst, arith, ap, ℕ}
use Rattle.atomic_table.specs.declared.shared.Seat.{Seat}
use Rattle.atomic_table.specs.Table.{Splits}
use Rattle.ca_rows.specs.declared.sizes.Sizes.{Sizes}
use Rattle.ca_rows.specs.declared.view.View.{View}
use Rattle.ca_rows.specs.Owned.{IsOwnSeat}
use Rattle.ca_rows.specs.Rule.{Ruled, fresh}
use Rattle.ca_rows.proofs.Making.{splits}
use Rattle.ca_rows.proofs.space.Space.enroll.Goals as goal

pub split_seat-new-requires : goal.split_seat-new-requires
split_seat-new-requires g c =
    let space = c.args.self.now in
    let seat = c.take_up-seat.result in
    let own : IsOwnSeat space.table.shared.table_id space.sizes space.made c.in-Some.rest.seat =
    search rules in
    let mine : IsOwnSeat space.table.shared.table_id space.sizes space.made seat =
    subst (λ (p : Seat (Unit {0}) (View g.row.R-Upper.Denot)). IsOwnSeat space.table.shared.table_id
    space.sizes space.made p)
    (sym c.take_up-seat.ensures) own in
    let left = c.if-self.false in
    let bounds = space.passes in
    let sized = space.sized in
    let few : seat.me.0.made < 64 = let is = mine.4 in omega arith in
    let same = ap (λ (z : Sizes). z.passes) space.same in
    let free : seat.me.0.made < space.table.shared.key.passes = let is = mine.4 in omega arith in (
      mine.0,
      omega arith,
      subst (λ (id : ℕ).
          Splits (Ruled g.R.RowRule.linked g.R.RowRule.lent g.R.RowRule.noted g.R.RowRule.fact
          space.table.shared.key) id seat.me.0
          (record seat.me.0 { made = seat.me.0.made + 1 })
          (fresh seat.me.0.sizes (seat.me.0.made + 1)
          (g.R.RowRule.begins (seat.me.0.made + 1)))) (sym mine.1)
          (splits g.R.RowRule.linked g.R.RowRule.lent g.R.RowRule.noted g.R.RowRule.fact
          g.R.RowRule.begins g.met.R.RowRule.making space.table.shared.key
          seat.me.0 few free),
    )
