use Rattle.std.proofs.Common.{[], ◌∷◌, true, false, not, Bool, ap, sym, refl, ◌≡◌, ◌∙◌, arith, rules}
use Rattle.ca_base.specs.Counting.{losses}
use Rattle.ca_base.proofs.Counts.{met_both, one_spent, spent_both}
use Rattle.ca_base.proofs.Unlinking.{none_left}
use Rattle.ca_node.specs.Laws.{in_nothing}
use Rattle.ca_node.specs.Told.{MyTree}
use Rattle.ca_node.specs.TreeView.{TreeView}
use Rattle.ca_node.specs.Unlinks.{turns_after}
use Rattle.ca_adapt.proofs.JoinedRows.{held_lost, joined_apart, joined_rows, none_met, on_joined, tallied_joined}
use Rattle.ca_base.proofs.Spends.{on_lost, on_still}
use Rattle.ca_adapt.proofs.KeptJoins.{kept_lost, kept_won}
use Rattle.ca_adapt.proofs.finishing.put_joined.Goals as goal

pub give_back-requires-clause-held : goal.give_back-requires-clause-held
give_back-requires-clause-held g c = (
  [],
  in_nothing c.args.rows.new [] refl,
  held_lost g.K.Unlinks.unlinking c.args.space.now.table.shared.key.rows c.args.pass.now.kept
      c.unlink_route.new.pass.kept c.args.pass.now.seat.me
      c.unlink_route.new.pass.seat.me (c.args.rows.new ∷ []) c.if-not-unlink_route.ensures.done
      c.unlink_route.ensures.frame.kept c.requires.held,
)

pub returns-then-not-unlink_route-clause-frame : goal.returns-then-not-unlink_route-clause-frame
returns-then-not-unlink_route-clause-frame g c = let back = c.give_back.ensures.frame in let done =
    c.if-not-unlink_route.ensures.done in record {
      same = search rules;
      number = search rules;
      tally = tallied_joined false c.args.rows.new g.K.Unlinks.unlinking c.args.pass.now.seat.me
          c.unlink_route.new.pass.seat.me
          c.give_back.new.pass.seat.me.0.upper c.args.pass.now.tally c.unlink_route.new.pass.tally
          c.give_back.new.pass.tally done
          c.if-not-unlink_route.ensures.frame.tally back.same.4 back.tally;
      pin = search rules;
    }

pub returns-then-not-unlink_route-clause-none : goal.returns-then-not-unlink_route-clause-none
returns-then-not-unlink_route-clause-none g c = let done = c.if-not-unlink_route.ensures.done in
    c.give_back.ensures.given [] (in_nothing c.args.rows.new [] refl)
    (held_lost g.K.Unlinks.unlinking c.args.space.now.table.shared.key.rows
    c.args.pass.now.kept
    c.unlink_route.new.pass.kept c.args.pass.now.seat.me c.unlink_route.new.pass.seat.me
    (c.args.rows.new ∷ []) done
    c.unlink_route.ensures.frame.kept c.requires.held)

pub returns-then-not-unlink_route-clause-done : goal.returns-then-not-unlink_route-clause-done
returns-then-not-unlink_route-clause-done g c = let done = c.if-not-unlink_route.ensures.done in
    let lost = ap losses done in
    let more = c.give_back.ensures.counted.more in
    (c.give_back.ensures.frame.same.4 ∙ ap (λ (m : MyTree). m.0.upper) done, omega arith)

pub returns-then-not-unlink_route-clause-counted : goal.returns-then-not-unlink_route-clause-counted
returns-then-not-unlink_route-clause-counted g c = let m = c.args.pass.now.seat.me in let n =
    c.unlink_route.new.pass.seat.me in
    let done = c.if-not-unlink_route.ensures.done in let lost = ap losses done in
    on_lost c.args.spent.now c.give_back.new.spent m c.give_back.new.pass.seat.me
    (ap (λ (u : TreeView). u.turns) (c.give_back.ensures.frame.same.4
    ∙ ap (λ (x : MyTree). x.0.upper) done))
    (spent_both c.args.spent.now c.lose.new.spent c.give_back.new.spent m n
    c.give_back.new.pass.seat.me
    (one_spent c.args.spent.now c.lose.new.spent m n c.lose.ensures.lost c.lose.ensures.others
    (omega arith)) c.give_back.ensures.counted)

pub returns-then-not-unlink_route-clause-met : goal.returns-then-not-unlink_route-clause-met
returns-then-not-unlink_route-clause-met g c = let done = c.if-not-unlink_route.ensures.done in
    met_both 0 0 0 0 c.args.pass.now.seat.me c.unlink_route.new.pass.seat.me
    c.give_back.new.pass.seat.me
    (none_met c.args.pass.now.seat.me c.unlink_route.new.pass.seat.me
    (ap (λ (m : MyTree). m.0.empty) done) (ap (λ (m : MyTree). m.0.worn) done))
    c.give_back.ensures.met

pub retire_unlinked-requires-clause-unlinked : goal.retire_unlinked-requires-clause-unlinked
retire_unlinked-requires-clause-unlinked g c = let done = c.if-not-unlink_route.ensures.done in (
  c.args.rows.left ∷ c.args.rows.right ∷ [],
  (joined_apart c.args.rows.new c.args.pass.now.seat.me c.unlink_route.new.pass.seat.me
      g.K.Unlinks.unlinking c.args.rows c.requires.rows done).0,
  joined_rows c.args.space.now.table.shared.key.rows c.args.pass.now.kept
      c.unlink_route.new.pass.kept c.args.pass.now.seat.me
      c.unlink_route.new.pass.seat.me c.args.rows.new g.K.Unlinks.unlinking c.args.rows
      c.requires.rows done c.unlink_route.ensures.frame.kept
      c.requires.held,
)

pub retire_unlinked-requires-2-clause-unlinked : goal.retire_unlinked-requires-2-clause-unlinked
retire_unlinked-requires-2-clause-unlinked g c = let done = c.if-not-unlink_route.ensures.done in
    let apart = joined_apart c.args.rows.new c.args.pass.now.seat.me c.unlink_route.new.pass.seat.me
    g.K.Unlinks.unlinking c.args.rows c.requires.rows done in (
      c.args.rows.right ∷ [],
      apart.1,
      c.retire_unlinked.ensures.retired (c.args.rows.left ∷ c.args.rows.right ∷ []) apart.0
          (joined_rows c.args.space.now.table.shared.key.rows
          c.args.pass.now.kept c.unlink_route.new.pass.kept c.args.pass.now.seat.me
          c.unlink_route.new.pass.seat.me c.args.rows.new g.K.Unlinks.unlinking
          c.args.rows c.requires.rows done c.unlink_route.ensures.frame.kept c.requires.held),
    )

pub retire_unlinked-requires-3-clause-unlinked : goal.retire_unlinked-requires-3-clause-unlinked
retire_unlinked-requires-3-clause-unlinked g c = let done = c.if-not-unlink_route.ensures.done in
    let apart = joined_apart c.args.rows.new c.args.pass.now.seat.me c.unlink_route.new.pass.seat.me
    g.K.Unlinks.unlinking c.args.rows c.requires.rows done in (
      [],
      in_nothing c.args.rows.right [] refl,
      c.retire_unlinked-2.ensures.retired (c.args.rows.right ∷ []) apart.1
          (c.retire_unlinked.ensures.retired (c.args.rows.left ∷ c.args.rows.right ∷ [])
          apart.0 (joined_rows c.args.space.now.table.shared.key.rows c.args.pass.now.kept
          c.unlink_route.new.pass.kept c.args.pass.now.seat.me
          c.unlink_route.new.pass.seat.me c.args.rows.new g.K.Unlinks.unlinking c.args.rows
          c.requires.rows done c.unlink_route.ensures.frame.kept
          c.requires.held)),
    )

pub returns-then-not-counted-clause-frame : goal.returns-then-not-counted-clause-frame
returns-then-not-counted-clause-frame g c = let one = c.retire_unlinked.ensures.frame in let two =
    c.retire_unlinked-2.ensures.frame in
    let three = c.retire_unlinked-3.ensures.frame in let done =
    c.if-not-unlink_route.ensures.done in
    let apart = joined_apart c.args.rows.new c.args.pass.now.seat.me c.unlink_route.new.pass.seat.me
    g.K.Unlinks.unlinking c.args.rows c.requires.rows done in
    record {
      same = search rules;
      number = search rules;
      tally = tallied_joined true c.args.rows.new g.K.Unlinks.unlinking c.args.pass.now.seat.me
          c.unlink_route.new.pass.seat.me
          c.retire_unlinked-3.new.pass.seat.me.0.upper c.args.pass.now.tally
          c.unlink_route.new.pass.tally c.retire_unlinked-3.new.pass.tally done
          c.if-not-unlink_route.ensures.frame.tally (three.same.4 ∙ (two.same.4 ∙ one.same.4))
          (three.tally ∙ (two.tally ∙ one.tally));
      pin = search rules;
    }

pub returns-then-not-counted-clause-none : goal.returns-then-not-counted-clause-none
returns-then-not-counted-clause-none g c = let done = c.if-not-unlink_route.ensures.done in
    let apart = joined_apart c.args.rows.new c.args.pass.now.seat.me c.unlink_route.new.pass.seat.me
    g.K.Unlinks.unlinking c.args.rows c.requires.rows done in
    none_left c.args.space.now.table.shared.key.rows c.retire_unlinked-3.new.pass.kept.rows
    c.retire_unlinked-3.new.pass.seat.me.0
    (c.retire_unlinked-3.ensures.retired [] (in_nothing c.args.rows.right [] refl)
    (c.retire_unlinked-2.ensures.retired (c.args.rows.right ∷ []) apart.1
    (c.retire_unlinked.ensures.retired (c.args.rows.left ∷ c.args.rows.right ∷ [])
    apart.0 (joined_rows c.args.space.now.table.shared.key.rows c.args.pass.now.kept
    c.unlink_route.new.pass.kept c.args.pass.now.seat.me
    c.unlink_route.new.pass.seat.me c.args.rows.new g.K.Unlinks.unlinking c.args.rows
    c.requires.rows done c.unlink_route.ensures.frame.kept
    c.requires.held))))

pub returns-then-not-counted-clause-done : goal.returns-then-not-counted-clause-done
returns-then-not-counted-clause-done g c = let done = c.if-not-unlink_route.ensures.done in (
  c.retire_unlinked-3.ensures.frame.same.4
      ∙ (c.retire_unlinked-2.ensures.frame.same.4 ∙
      (c.retire_unlinked.ensures.frame.same.4 ∙ ap (λ (m : MyTree). m.0.upper) done.now)),
  c.retire_unlinked-3.ensures.met.0
      ∙ (c.retire_unlinked-2.ensures.met.0
      ∙ (c.retire_unlinked.ensures.met.0 ∙ ap losses done.now)),
)

pub returns-then-not-counted-clause-met : goal.returns-then-not-counted-clause-met
returns-then-not-counted-clause-met g c = let done = c.if-not-unlink_route.ensures.done in let m =
    c.args.pass.now.seat.me in
    let n = c.retire_unlinked.new.pass.seat.me in let k = c.retire_unlinked-2.new.pass.seat.me in
    met_both 0 0 0 0 m k c.retire_unlinked-3.new.pass.seat.me
    (met_both 0 0 0 0 m n k (met_both 0 0 0 0 m c.unlink_route.new.pass.seat.me n
    (none_met m c.unlink_route.new.pass.seat.me (ap (λ (x : MyTree). x.0.empty) done.now)
    (ap (λ (x : MyTree). x.0.worn) done.now))
    c.retire_unlinked.ensures.met.1) c.retire_unlinked-2.ensures.met.1)
    c.retire_unlinked-3.ensures.met.1

pub returns-clause-frame : goal.returns-clause-frame
returns-clause-frame g c = let one = c.retire_unlinked.ensures.frame in let two =
    c.retire_unlinked-2.ensures.frame in
    let three = c.retire_unlinked-3.ensures.frame in let done =
    c.if-not-unlink_route.ensures.done in
    let apart = joined_apart c.args.rows.new c.args.pass.now.seat.me c.unlink_route.new.pass.seat.me
    g.K.Unlinks.unlinking c.args.rows c.requires.rows done in
    record {
      same = search rules;
      number = search rules;
      tally = tallied_joined true c.args.rows.new g.K.Unlinks.unlinking c.args.pass.now.seat.me
          c.unlink_route.new.pass.seat.me
          c.retire_unlinked-3.new.pass.seat.me.0.upper c.args.pass.now.tally
          c.unlink_route.new.pass.tally c.retire_unlinked-3.new.pass.tally done
          c.if-not-unlink_route.ensures.frame.tally (three.same.4 ∙ (two.same.4 ∙ one.same.4))
          (three.tally ∙ (two.tally ∙ one.tally));
      pin = search rules;
    }

pub returns-clause-none : goal.returns-clause-none
returns-clause-none g c = let done = c.if-not-unlink_route.ensures.done in
    let apart = joined_apart c.args.rows.new c.args.pass.now.seat.me c.unlink_route.new.pass.seat.me
    g.K.Unlinks.unlinking c.args.rows c.requires.rows done in
    none_left c.args.space.now.table.shared.key.rows c.retire_unlinked-3.new.pass.kept.rows
    c.retire_unlinked-3.new.pass.seat.me.0
    (c.retire_unlinked-3.ensures.retired [] (in_nothing c.args.rows.right [] refl)
    (c.retire_unlinked-2.ensures.retired (c.args.rows.right ∷ []) apart.1
    (c.retire_unlinked.ensures.retired (c.args.rows.left ∷ c.args.rows.right ∷ [])
    apart.0 (joined_rows c.args.space.now.table.shared.key.rows c.args.pass.now.kept
    c.unlink_route.new.pass.kept c.args.pass.now.seat.me
    c.unlink_route.new.pass.seat.me c.args.rows.new g.K.Unlinks.unlinking c.args.rows
    c.requires.rows done c.unlink_route.ensures.frame.kept
    c.requires.held))))

pub returns-clause-done : goal.returns-clause-done
returns-clause-done g c = let done = c.if-not-unlink_route.ensures.done in (
  c.retire_unlinked-3.ensures.frame.same.4
      ∙ (c.retire_unlinked-2.ensures.frame.same.4 ∙
      (c.retire_unlinked.ensures.frame.same.4 ∙ ap (λ (m : MyTree). m.0.upper) done.now)),
  c.retire_unlinked-3.ensures.met.0
      ∙ (c.retire_unlinked-2.ensures.met.0
      ∙ (c.retire_unlinked.ensures.met.0 ∙ ap losses done.now)),
)

pub returns-clause-met : goal.returns-clause-met
returns-clause-met g c = let done = c.if-not-unlink_route.ensures.done in let m =
    c.args.pass.now.seat.me in
    let n = c.retire_unlinked.new.pass.seat.me in let k = c.retire_unlinked-2.new.pass.seat.me in
    met_both 0 0 0 0 m k c.retire_unlinked-3.new.pass.seat.me
    (met_both 0 0 0 0 m n k (met_both 0 0 0 0 m c.unlink_route.new.pass.seat.me n
    (none_met m c.unlink_route.new.pass.seat.me (ap (λ (x : MyTree). x.0.empty) done.now)
    (ap (λ (x : MyTree). x.0.worn) done.now))
    c.retire_unlinked.ensures.met.1) c.retire_unlinked-2.ensures.met.1)
    c.retire_unlinked-3.ensures.met.1

pub returns-then-not-counted-clause-counted : goal.returns-then-not-counted-clause-counted
returns-then-not-counted-clause-counted g c = let done = c.if-not-unlink_route.ensures.done in
    let now = c.retire_unlinked-3.ensures.frame.same.4
    ∙ (c.retire_unlinked-2.ensures.frame.same.4 ∙ (c.retire_unlinked.ensures.frame.same.4
    ∙ ap (λ (m : MyTree). m.0.upper) done.now)) in
    let same = c.retire_unlinked-3.ensures.met.0 ∙
    (c.retire_unlinked-2.ensures.met.0
    ∙ (c.retire_unlinked.ensures.met.0 ∙ ap losses done.now)) in
    on_joined c.args.rows.new g.K.Unlinks.unlinking c.args.spent.now _ c.args.pass.now.seat.me
    c.retire_unlinked-3.new.pass.seat.me
    (c.requires.counts ∙ ap not c.if-not-counted.true) now same refl
    c.saturating_add-spent.ensures refl

pub returns-clause-counted : goal.returns-clause-counted
returns-clause-counted g c = let done = c.if-not-unlink_route.ensures.done in
    let now = c.retire_unlinked-3.ensures.frame.same.4
    ∙ (c.retire_unlinked-2.ensures.frame.same.4 ∙ (c.retire_unlinked.ensures.frame.same.4
    ∙ ap (λ (m : MyTree). m.0.upper) done.now)) in
    let same = c.retire_unlinked-3.ensures.met.0 ∙
    (c.retire_unlinked-2.ensures.met.0
    ∙ (c.retire_unlinked.ensures.met.0 ∙ ap losses done.now)) in
    on_still c.args.spent.now c.args.pass.now.seat.me c.retire_unlinked-3.new.pass.seat.me same
    (ap (λ (u : TreeView). u.turns) now
    ∙ ap (λ (b : Bool). turns_after b c.args.pass.now.seat.me.0.upper.turns)
    (c.requires.counts ∙ ap not c.if-not-counted.false))

pub returns-then-not-unlink_route-clause-back : goal.returns-then-not-unlink_route-clause-back
returns-then-not-unlink_route-clause-back g c = let lost =
    ap losses c.if-not-unlink_route.ensures.done in
    kept_lost c.args.rows c.args.pass.now.seat.me c.unlink_route.new.pass.seat.me
    c.give_back.new.pass.seat.me c.args.pass.now.kept
    c.unlink_route.new.pass.kept c.give_back.new.pass.kept (omega arith)
    c.give_back.ensures.counted.more c.unlink_route.ensures.frame.kept
    c.give_back.ensures.back

pub returns-then-not-counted-clause-back : goal.returns-then-not-counted-clause-back
returns-then-not-counted-clause-back g c = let done = c.if-not-unlink_route.ensures.done in
    kept_won c.args.rows c.args.pass.now.seat.me c.retire_unlinked-3.new.pass.seat.me
    c.args.pass.now.kept c.unlink_route.new.pass.kept
    c.retire_unlinked.new.pass.kept c.retire_unlinked-2.new.pass.kept
    c.retire_unlinked-3.new.pass.kept
    (c.retire_unlinked-3.ensures.met.0
    ∙ (c.retire_unlinked-2.ensures.met.0
    ∙ (c.retire_unlinked.ensures.met.0 ∙ ap losses done.now)))
    c.unlink_route.ensures.frame.kept c.retire_unlinked.ensures.kept
    c.retire_unlinked-2.ensures.kept c.retire_unlinked-3.ensures.kept

pub returns-clause-back : goal.returns-clause-back
returns-clause-back g c = let done = c.if-not-unlink_route.ensures.done in
    kept_won c.args.rows c.args.pass.now.seat.me c.retire_unlinked-3.new.pass.seat.me
    c.args.pass.now.kept c.unlink_route.new.pass.kept
    c.retire_unlinked.new.pass.kept c.retire_unlinked-2.new.pass.kept
    c.retire_unlinked-3.new.pass.kept
    (c.retire_unlinked-3.ensures.met.0
    ∙ (c.retire_unlinked-2.ensures.met.0
    ∙ (c.retire_unlinked.ensures.met.0 ∙ ap losses done.now)))
    c.unlink_route.ensures.frame.kept c.retire_unlinked.ensures.kept
    c.retire_unlinked-2.ensures.kept c.retire_unlinked-3.ensures.kept

pub returns-then-not-unlink_route-clause-helped : goal.returns-then-not-unlink_route-clause-helped
returns-then-not-unlink_route-clause-helped g c so =
    c.give_back.ensures.counted.helped ∙ c.lose.ensures.others.0

pub returns-then-not-counted-clause-helped : goal.returns-then-not-counted-clause-helped
returns-then-not-counted-clause-helped g c so = let no : false ≡ true =
    sym c.if-not-counted.true ∙ so in cc

pub returns-clause-helped : goal.returns-clause-helped
returns-clause-helped g c so = refl

pub returns-then-not-unlink_route-clause-own : goal.returns-then-not-unlink_route-clause-own
returns-then-not-unlink_route-clause-own g c = ap (λ (u : TreeView). u.ranges.own)
    (c.give_back.ensures.frame.same.4 ∙ ap (λ (m : MyTree). m.0.upper)
    c.if-not-unlink_route.ensures.done)

pub returns-then-not-counted-clause-own : goal.returns-then-not-counted-clause-own
returns-then-not-counted-clause-own g c = ap (λ (u : TreeView). u.ranges.own)
    (c.retire_unlinked-3.ensures.frame.same.4
    ∙ (c.retire_unlinked-2.ensures.frame.same.4 ∙ (c.retire_unlinked.ensures.frame.same.4 ∙ ap (λ
    (m : MyTree). m.0.upper) c.if-not-unlink_route.ensures.done.now)))

pub returns-clause-own : goal.returns-clause-own
returns-clause-own g c = ap (λ (u : TreeView). u.ranges.own)
    (c.retire_unlinked-3.ensures.frame.same.4
    ∙ (c.retire_unlinked-2.ensures.frame.same.4 ∙ (c.retire_unlinked.ensures.frame.same.4 ∙ ap (λ
    (m : MyTree). m.0.upper) c.if-not-unlink_route.ensures.done.now)))

pub returns-then-not-unlink_route-clause-won : goal.returns-then-not-unlink_route-clause-won
returns-then-not-unlink_route-clause-won g c _ = c.if-not-unlink_route.ensures.several refl
