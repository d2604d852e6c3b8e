use Rattle.std.proofs.Common.{rules, ◌≡◌, ◌∙◌, sym, ap, subst, map, Some}
use mathlib.Core.Option.{some}
use lib.ListN.{get_elem?}
use Rattle.atomic_table.specs.declared.shared.Seat.{Seat}
use Rattle.ca_rows.specs.declared.rest.Rest.{Rest}
use Rattle.ca_rows.specs.declared.view.View.{View}
use Rattle.ca_rows.specs.Closed.{joined_from}
use Rattle.ca_rows.specs.Owned.{IsOwnSeat}
use Rattle.ca_rows.specs.Rule.{Ruled}
use Rattle.ca_rows.proofs.space.Space.close.Goals as goal

pub of-requires-2 : goal.of-requires-2
of-requires-2 g c = (
  c.close_with.ensures.values.0,
  c.close_with.ensures.counts.1
      ∙ (ap (λ t. t.shared.table_id.slots) c.into_parts-table.ensures.0 ∙ c.args.self.no_slots),
)

same_rest : {S U : Type 0} (a b : Rest S U) → Some a ≡ Some b → a ≡ b
same_rest a b e = cc

pub returns-clause-words : goal.returns-clause-words
returns-clause-words g c rest is =
    let space = c.args.self in
    let here : space.own ≡ Some c.in-Some.rest = sym c.into_parts-table.ensures.1 ∙ c.in-Some.is in
    let same : c.in-Some.rest ≡ rest = same_rest c.in-Some.rest rest (sym here ∙ is) in
    let own : IsOwnSeat space.table.shared.table_id space.sizes space.made c.in-Some.rest.seat =
    search rules in
    let seat : c.take_up-seat.result ≡ c.in-Some.rest.seat = c.take_up-seat.ensures in
    let last = c.close_with.ensures.values.2 in
    let id : c.gather.new.seat.id ≡ 0 = c.gather.ensures.same.1
    ∙ (ap (λ (p : Seat (Unit {0}) (View g.row.R-Upper.Denot)). p.id) seat ∙ own.1) in
    let view : c.gather.new.seat.me.0
    ≡ joined_from g.R.RowRule.both rest.seat.me.0 (map
    (λ pass. pass.seat.me.0) c.args.passes.items) =
    c.gather.ensures.joined
    ∙ (ap (λ (p : Seat (Unit {0}) (View g.row.R-Upper.Denot)). joined_from g.R.RowRule.both p.me.0
    (map (λ pass. pass.seat.me.0) c.args.passes.items)) seat
    ∙ ap (λ (q : Rest (Unit {0}) (View g.row.R-Upper.Denot)). joined_from g.R.RowRule.both
    q.seat.me.0 (map (λ pass. pass.seat.me.0) c.args.passes.items))
    same) in (
      last.0,
      subst (λ t.
          Ruled g.R.RowRule.linked g.R.RowRule.lent g.R.RowRule.noted g.R.RowRule.fact t.shared.key
          last.0) c.into_parts-table.ensures.0 last.1.0,
      ap (get_elem? last.0.views) (sym id) ∙ (last.1.1 ∙ ap some view),
      last.2 ∙ sym (ap (λ k. k.words.items) c.of-2.ensures),
    )
