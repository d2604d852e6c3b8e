use Rattle.std.proofs.Common.{rules, ◌≡◌, ◌∙◌, ℕ, List, [], ◌∷◌, ◌++◌, map, sym, ap, subst}
use Rattle.std.specs.List.{All}
use Rattle.atomic_table.specs.Table.{Joins}
use Rattle.atomic_table.specs.declared.shared.Seat.{Seat}
use Rattle.ca_rows.specs.declared.space.Pass.{Pass}
use Rattle.ca_rows.specs.declared.view.View.{View}
use Rattle.ca_rows.specs.Closed.{IsClosable, joined, joined_from}
use Rattle.ca_rows.specs.Rule.{Ruled, fresh, no_sizes}
use Rattle.ca_rows.proofs.Closing.{joins, joined_behind, all_front, all_last}
use Rattle.ca_rows.proofs.close.gather.Goals as goal

pub join_seat-requires : goal.join_seat-requires
join_seat-requires g c =
    let table = c.args.table.now.shared in
    let inv = c.loop-pass.invariant in
    let own = c.loop-pass.seat in
    let list : c.loop-pass.passes.items ≡ c.pop.new.self.items ++ c.in-Some.pass ∷ [] =
    search rules in
    let ok : IsClosable table.table_id c.in-Some.pass.seat = all_last
    (λ (pass : Pass g.row.R.Denot g.row.R-Upper.Denot). IsClosable table.table_id pass.seat)
    c.pop.new.self.items c.in-Some.pass
    (subst (λ (xs : List (Pass g.row.R.Denot g.row.R-Upper.Denot)). All
    (λ pass. IsClosable table.table_id pass.seat) xs) list inv.3) in
    let it : IsClosable table.table_id c.into_seat.result = subst
    (λ (p : Seat (Unit {0}) (View g.row.R-Upper.Denot)). IsClosable table.table_id p)
    (sym c.into_seat.ensures) ok in (
      inv.0 ∙ c.requires.seat.0,
      it.0,
      ap (λ (p : Seat (Unit {0}) (View g.row.R-Upper.Denot)). p.me.1) c.into_seat.ensures
          ∙ c.in-Some.pass.hands,
      c.requires.words,
      subst (λ (id : ℕ).
          Joins (Ruled g.R.RowRule.linked g.R.RowRule.lent g.R.RowRule.noted g.R.RowRule.fact
          table.key) id own.me.0 c.into_seat.result.id
          c.into_seat.result.me.0
          (joined g.R.RowRule.both own.me.0 c.into_seat.result.me.0)
          (fresh no_sizes 0 g.R.RowRule.spent)) (sym (inv.1 ∙ c.requires.seat.1))
          (joins g.R.RowRule.linked g.R.RowRule.lent g.R.RowRule.noted g.R.RowRule.fact
          g.R.RowRule.both g.R.RowRule.spent g.met.R.RowRule.closing table.key 0
          own.me.0 c.into_seat.result.me.0 c.into_seat.result.id inv.2 it.1
          (λ apart same. absurd (apart same))),
    )

pub loop-pass-preserved : goal.loop-pass-preserved
loop-pass-preserved g c =
    let inv = c.loop-pass.invariant in
    let list : c.loop-pass.passes.items ≡ c.pop.new.self.items ++ c.in-Some.pass ∷ [] =
    search rules in
    let joint = c.join_seat.ensures.2 in
    let view : c.join_seat.new.seat.me.0
    ≡ joined g.R.RowRule.both c.loop-pass.seat.me.0 c.in-Some.pass.seat.me.0 =
    ap (λ x. x.0) joint ∙ ap
    (λ (p : Seat (Unit {0}) (View g.row.R-Upper.Denot)). joined g.R.RowRule.both
    c.loop-pass.seat.me.0 p.me.0) c.into_seat.ensures in
    let others : All
    (λ pass. IsClosable c.args.table.now.shared.table_id pass.seat) c.pop.new.self.items =
    all_front (λ (pass : Pass g.row.R.Denot g.row.R-Upper.Denot). IsClosable
    c.args.table.now.shared.table_id pass.seat) c.pop.new.self.items c.in-Some.pass
    (subst (λ (xs : List (Pass g.row.R.Denot g.row.R-Upper.Denot)). All
    (λ pass. IsClosable c.args.table.now.shared.table_id pass.seat) xs) list inv.3) in (
      c.join_seat.ensures.0 ∙ inv.0,
      c.join_seat.ensures.1 ∙ inv.1,
      ap (λ (d : View g.row.R-Upper.Denot). d.pin.pinned) view ∙ inv.2,
      others,
      (ap (λ (d : View g.row.R-Upper.Denot). joined_from g.R.RowRule.both d (map
          (λ pass. pass.seat.me.0) c.pop.new.self.items)) view
          ∙ (sym (joined_behind g.R.RowRule.both c.loop-pass.seat.me.0
          (λ (pass : Pass g.row.R.Denot g.row.R-Upper.Denot). pass.seat.me.0) c.pop.new.self.items
          c.in-Some.pass)
          ∙ ap (λ xs. joined_from g.R.RowRule.both c.loop-pass.seat.me.0 (map
          (λ pass. pass.seat.me.0) xs)) (sym list)))
          ∙ inv.4,
    )
