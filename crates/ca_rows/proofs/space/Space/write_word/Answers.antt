use Rattle.std.proofs.Common.{rules, arith, refl, ap, ◌∙◌}
use Rattle.ca_rows.specs.Told.{Mine}
use Rattle.ca_rows.proofs.Calling.{numbered_still, still}
use Rattle.ca_rows.proofs.Steps.{writes}
use Rattle.ca_rows.proofs.space.Space.write_word.Goals as goal

pub store-requires : goal.store-requires
store-requires g c = let sized = c.args.self.now.sized in (
  search rules,
  omega arith,
  writes g.R.RowRule.linked g.R.RowRule.lent g.R.RowRule.noted g.R.RowRule.fact
      g.met.R.RowRule.frames c.args.self.now.table.shared.key _ _ _ _ c.args.row
      c.args.index c.args.value c.requires.held.0 (omega arith) c.requires.held.1
      c.requires.inside.1,
)

pub returns-clause-frame : goal.returns-clause-frame
returns-clause-frame g c = record {
  same = let wrote = c.store.ensures.2 c.args.row c.args.index c.requires.held.0 refl
      c.requires.inside.1 c.requires.held.1 in
      let rest = still c.args.pass.now.seat.me c.store.new.seat.me _ _ _ _ _ _ wrote in
      (c.store.ensures.0, c.store.ensures.1, rest.0, rest.1, rest.2);
  number = search rules;
  tally = search rules;
  kept = search rules;
}

pub invariant_of-pass : goal.invariant_of-pass
invariant_of-pass g c =
    let wrote =
    c.store.ensures.2 c.args.row c.args.index c.requires.held.0 refl c.requires.inside.1
    c.requires.held.1 in
    record {
      hands = ap (λ (m : Mine g.row.R-Upper.Denot). m.1) wrote ∙ c.args.pass.now.hands;
      numbered = numbered_still c.args.pass.now.number c.args.pass.now.number c.args.pass.now.seat.me.0.pin
          c.store.new.seat.me.0.pin refl (ap (λ (m : Mine g.row.R-Upper.Denot). m.0.pin) wrote)
          c.args.pass.now.numbered;
    }
