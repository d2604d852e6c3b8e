use Rattle.std.proofs.Common.{rules, ◌≡◌, ◌∙◌, ◌+◌, ap, arith}
use Rattle.ca_rows.specs.declared.view.Pin.{Pin}
use Rattle.ca_rows.specs.Told.{Mine}
use Rattle.ca_rows.proofs.PinSteps.{asks, announces}
use Rattle.ca_rows.proofs.space.Space.pin.Goals as goal

pub load-epoch-requires : goal.load-epoch-requires
load-epoch-requires g c = let sized = c.args.self.now.sized in (
  search rules,
  omega arith,
  asks g.R.RowRule.linked g.R.RowRule.lent g.R.RowRule.noted g.R.RowRule.fact g.met.R.RowRule.frames
      c.args.self.now.table.shared.key _ _ _ c.requires.unpinned,
)

pub store-requires : goal.store-requires
store-requires g c =
    let sized = c.args.self.now.sized in let place = c.own_word-word.ensures in
    let some_rows = c.args.self.now.few.0 in
    let asked = c.load-epoch.ensures.2.1 in
    let same = ap (λ (m : Mine g.row.R-Upper.Denot). m.0.pin) asked in
    let number : c.load-epoch.new.seat.me.0.pin.number ≡ c.args.pass.now.number = ap
    (λ (e : Pin). e.number) same ∙ c.args.pass.now.numbered.0 in
    let told : c.load-epoch.new.seat.me.0.pin.told ≡ c.load-epoch.result = ap
    (λ (e : Pin). e.told) same in
    let low = c.args.pass.now.numbered.1 in
    let high = c.args.pass.now.numbered.2 in (
      search rules,
      omega arith,
      announces g.R.RowRule.linked g.R.RowRule.lent g.R.RowRule.noted g.R.RowRule.fact
          g.met.R.RowRule.frames c.args.self.now.table.shared.key
          g.R.RowRule.enters g.R.RowRule.leaves g.met.R.RowRule.pinning
          _ _ _ c.own_word-word.result (c.load-epoch.result + 1) (omega arith) (omega arith)
          (omega arith)
          (ap (λ (e : Pin). e.pinned) same ∙ c.requires.unpinned),
    )
