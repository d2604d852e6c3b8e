use Rattle.std.proofs.Common.{ℕ, ◌+◌, ◌-◌, ◌/◌, List, [], ◌∷◌, get_or, sym, refl, ap, ◌∙◌, subst, arith}
use Rattle.ca_node.specs.Told.{MyTree}
use Rattle.ca_node.specs.TreeView.{TreeView}
use Rattle.ca_base.specs.Finding.{IsObjectShown, IsReadable}
use Rattle.ca_base.specs.Putting.{first_note}
use Rattle.ca_base.specs.Splitting.{SpellsRoute, split_forms}
use Rattle.ca_base.specs.Taking.{AreHeld}
use Rattle.ca_base.specs.Prefixes.{SpellsHalf}
use Rattle.ca_base.specs.Writing.{IsRewritten}
use Rattle.ca_base.specs.Counting.{losses, HasMet}
use Rattle.ca_base.proofs.Alone.{won_then}
use Rattle.std.proofs.lemmas.Result.{err_from_is_err_and}
use Rattle.ca_base.proofs.Counts.{cleared_after, cleared_none, counted_after, ended_after, met_both, written_met}
use Rattle.ca_base.proofs.Crowds.{crowded_from}
use Rattle.ca_base.proofs.Divisions.{three_apart, last_readable, divides_of}
use Rattle.ca_base.proofs.SplitKeys.{short_key}
use Rattle.ca_base.proofs.Unlinking.{written_row}
use Rattle.ca_rows.specs.declared.kept.KeptRows.{KeptRows}
use Rattle.ca_rows.specs.Claims.{claim_of}
use Rattle.ca_base.proofs.Tallies.{tallied_as}
use Rattle.ca_rows.specs.declared.view.Pin.{Pin}
use Rattle.ca_base.proofs.splitting.split_at.Goals as goal

pub write_half-requires-clause-row : goal.write_half-requires-clause-row
write_half-requires-clause-row c =
    let each = c.in_ok-route.ensures.taken.1.0.each c.in_ok-route.left (1, refl) in record {
      reading = record {
        own = (
          c.take_three.ensures.frame.same.0 ∙ c.requires.ready.own.0,
          c.take_three.ensures.frame.same.2 ∙ c.requires.ready.own.1,
        );
        pinned = ap (λ (p : Pin). p.pinned) c.take_three.ensures.frame.same.3
            ∙ c.requires.ready.pinned;
      };
      held = (each.1, each.2);
    }

pub write_half-requires-2-clause-row : goal.write_half-requires-2-clause-row
write_half-requires-2-clause-row c = let t = c.in_ok-route.ensures.taken in
    let each = t.1.0.each c.in_ok-route.right (2, refl) in let own = each.2 in
    let apart = three_apart c.in_ok-route.route c.in_ok-route.left c.in_ok-route.right t.0 in record {
      reading = record {
        own = (
          c.write_half.ensures.frame.same.0
              ∙ (c.take_three.ensures.frame.same.0 ∙ c.requires.ready.own.0),
          c.write_half.ensures.frame.same.2
              ∙ (c.take_three.ensures.frame.same.2 ∙ c.requires.ready.own.1),
        );
        pinned = ap (λ (p : Pin). p.pinned) (c.write_half.ensures.frame.same.3
            ∙ c.take_three.ensures.frame.same.3)
            ∙ c.requires.ready.pinned;
      };
      held = (
        each.1,
        (
          own.0,
          own.1,
          c.write_half.ensures.written.2.others c.in_ok-route.right (λ e. apart.2 (sym e))
              ∙ own.2,
        ),
      );
    }

pub copy_key-requires : goal.copy_key-requires
copy_key-requires c = let r = c.requires in let u = c.args.pass.now.seat.me.0.upper in
    let upper = c.write_half-2.ensures.frame.same.4
    ∙ (c.write_half.ensures.frame.same.4 ∙ c.take_three.ensures.frame.same.4) in
    let many = r.target.many_are in let some = r.two in
    let read = subst
    (λ (v : TreeView).
    IsReadable c.args.space.now.table.shared.key v c.args.cursor.base (first_note u.notes))
    (sym upper)
    (last_readable c.args.space.now.table.shared.key u c.args.cursor.base r.target.shown
    r.target.leaf r.ordered) in record {
      object = record {
        reading = record {
          own = (
            c.item-first.ensures.frame.same.0
                ∙ (c.write_half-2.ensures.frame.same.0
                ∙ (c.write_half.ensures.frame.same.0
                ∙ (c.take_three.ensures.frame.same.0 ∙ c.requires.ready.own.0))),
            ap (λ (m : MyTree). m.0.sizes) c.item-first.ensures.frame.still
                ∙ (c.write_half-2.ensures.frame.same.2
                ∙ (c.write_half.ensures.frame.same.2 ∙ (c.take_three.ensures.frame.same.2
                ∙ c.requires.ready.own.1))),
          );
          pinned = ap (λ (p : Pin). p.pinned)
              (ap (λ (m : MyTree). m.0.pin) c.item-first.ensures.frame.still
              ∙ (c.write_half-2.ensures.frame.same.3 ∙
              (c.write_half.ensures.frame.same.3 ∙ c.take_three.ensures.frame.same.3)))
              ∙ c.requires.ready.pinned;
        };
        inside = c.item-first.ensures.inside.1;
        shown = (
          get_or (first_note u.notes).objects (c.args.many / 2) [],
          subst (λ (m : MyTree).
              IsObjectShown m.0.upper c.item-first.result
              (get_or (first_note u.notes).objects (c.args.many / 2) []))
              (sym c.item-first.ensures.frame.still)
              (c.item-first.ensures.item (first_note u.notes) read (omega arith)).1,
        );
      };
    }

pub write_route-requires-clause-row : goal.write_route-requires-clause-row
write_route-requires-clause-row c = let t = c.in_ok-route.ensures.taken in
    let each = t.1.0.each c.in_ok-route.route (0, refl) in let own = each.2 in
    let apart = three_apart c.in_ok-route.route c.in_ok-route.left c.in_ok-route.right t.0 in
    let still = c.copy_key.ensures.frame.still ∙ c.item-first.ensures.frame.still in record {
      own = (
        c.copy_key.ensures.frame.same.0
            ∙ (c.item-first.ensures.frame.same.0
            ∙ (c.write_half-2.ensures.frame.same.0
            ∙ (c.write_half.ensures.frame.same.0 ∙ (c.take_three.ensures.frame.same.0
            ∙ c.requires.ready.own.0)))),
        ap (λ (m : MyTree). m.0.sizes) c.copy_key.ensures.frame.still
            ∙ (ap (λ (m : MyTree). m.0.sizes) c.item-first.ensures.frame.still
            ∙ (c.write_half-2.ensures.frame.same.2 ∙
            (c.write_half.ensures.frame.same.2
            ∙ (c.take_three.ensures.frame.same.2 ∙ c.requires.ready.own.1)))),
      );
      held = (
        each.1,
        (
          own.0,
          own.1,
          ap (λ (m : MyTree). claim_of m.0.claims c.in_ok-route.route) still
              ∙ (c.write_half-2.ensures.written.2.others c.in_ok-route.route apart.1
              ∙ (c.write_half.ensures.written.2.others c.in_ok-route.route apart.0 ∙ own.2)),
        ),
      );
    }

pub divide_in-requires-clause-division : goal.divide_in-requires-clause-division
divide_in-requires-clause-division c = let r = c.requires in
    let u = c.args.pass.now.seat.me.0.upper in
    let its : List ℕ = get_or (first_note u.notes).objects (c.args.many / 2) [] in
    let t = c.in_ok-route.ensures.taken in let one = c.take_three.ensures.frame.same in
    let two = c.write_half.ensures.frame.same in
    let three = c.write_half-2.ensures.frame.same in
    let four = c.write_route.ensures.frame.same in
    let still = c.copy_key.ensures.frame.still ∙ c.item-first.ensures.frame.still in
    let first = c.write_half.ensures.written in let last = c.write_half-2.ensures.written in
    let over = c.write_route.ensures.written in
    let many = r.target.many_are in let some = r.two in let base = c.args.cursor.base in
    let z = c.args.space.now.table.shared.key in
    let upper = three.4 ∙ (two.4 ∙ one.4) in
    let read = subst
    (λ (v : TreeView). IsReadable z v base (first_note u.notes)) (sym upper)
    (last_readable z u base r.target.shown r.target.leaf r.ordered) in
    let told = (c.item-first.ensures.item (first_note u.notes) read (omega arith)).1 in
    let shown = subst
    (λ (m : MyTree). IsObjectShown m.0.upper c.item-first.result its)
    (sym c.item-first.ensures.frame.still) told in
    divides_of z c.args.pass.now.seat.me c.take_three.new.pass.seat.me c.write_half.new.pass.seat.me
    c.write_half-2.new.pass.seat.me
    c.write_route.new.pass.seat.me c.in_ok-route.route c.in_ok-route.left c.in_ok-route.right c.args.many
    c.args.attempt c.args.cursor first.0 last.0 over.0
    record {
      shown = r.target.shown;
      at = r.target.at;
      many_are = many;
      some_left = some;
      above = r.above;
      apart = t.0;
      wrote_left = first.2;
      wrote_right = last.2;
      wrote_route = subst
          (λ (m : MyTree). IsRewritten c.in_ok-route.route over.0 m c.write_route.new.pass.seat.me) still
          over.2;
      is_left = subst
          (λ (v : TreeView).
          SpellsHalf (first_note v.notes) 0 (c.args.many / 2) (c.args.cursor.level + 1) first.0) one.4
          first.1;
      is_right = subst
          (λ (v : TreeView).
          SpellsHalf (first_note v.notes) (c.args.many / 2) (c.args.many - c.args.many / 2)
          (c.args.cursor.level + 1) last.0) (two.4 ∙ one.4) last.1;
      few_rows = c.args.space.now.few.1;
      is_route = subst
          (λ (k : List ℕ).
          SpellsRoute c.args.cursor.level k c.in_ok-route.left c.in_ok-route.right c.args.attempt over.0)
          (c.deref.ensures.0 ∙ c.copy_key.ensures.key its shown) over.1;
      short = short_key its told.long;
      is_pinned = r.ready.pinned;
      is_pass = r.ready.number;
      upper = four.4 ∙ (ap (λ (m : MyTree). m.0.upper) still ∙ upper);
      pin = four.3 ∙ (ap (λ (m : MyTree). m.0.pin) still ∙ (three.3 ∙ (two.3 ∙ one.3)));
    }

pub divide_in-requires-clause-held : goal.divide_in-requires-clause-held
divide_in-requires-clause-held c = let t = c.in_ok-route.ensures.taken in
    let rows : List ℕ = c.in_ok-route.route ∷ c.in_ok-route.left ∷ c.in_ok-route.right ∷ [] in
    let all = c.args.space.now.table.shared.key.rows in let first = c.write_half.ensures.written in
    let last = c.write_half-2.ensures.written in
    let over = c.write_route.ensures.written in
    let still = c.copy_key.ensures.frame.still ∙ c.item-first.ensures.frame.still in
    let kept = c.copy_key.ensures.frame.kept ∙ c.item-first.ensures.frame.kept in
    let one = written_row all c.take_three.new.pass.kept c.write_half.new.pass.kept
    c.take_three.new.pass.seat.me c.write_half.new.pass.seat.me rows
    c.in_ok-route.left first.0 (1, refl) first.1.spells.long first.2 c.write_half.ensures.frame.kept t.1 in
    let two = written_row all c.write_half.new.pass.kept c.write_half-2.new.pass.kept
    c.write_half.new.pass.seat.me c.write_half-2.new.pass.seat.me rows
    c.in_ok-route.right last.0 (2, refl) last.1.spells.long last.2 c.write_half-2.ensures.frame.kept one in
    written_row all c.copy_key.new.pass.kept c.write_route.new.pass.kept c.copy_key.new.pass.seat.me
    c.write_route.new.pass.seat.me rows
    c.in_ok-route.route over.0 (0, refl) over.1.long over.2 c.write_route.ensures.frame.kept
    (subst (λ (x : MyTree × KeptRows). AreHeld all x.1.rows x.0.0 rows)
    (λ i. (sym still i, sym kept i)) two)

pub returns-clause-frame : goal.returns-clause-frame
returns-clause-frame c = record {
  same = (
    c.divide_in.ensures.frame.same.0
        ∙ (c.write_route.ensures.frame.same.0
        ∙ (c.copy_key.ensures.frame.same.0
        ∙ (c.item-first.ensures.frame.same.0 ∙ (c.write_half-2.ensures.frame.same.0 ∙
        (c.write_half.ensures.frame.same.0 ∙ c.take_three.ensures.frame.same.0))))),
    c.divide_in.ensures.frame.same.1
        ∙ (c.write_route.ensures.frame.same.1
        ∙ (c.copy_key.ensures.frame.same.1
        ∙ (c.item-first.ensures.frame.same.1 ∙ (c.write_half-2.ensures.frame.same.1 ∙
        (c.write_half.ensures.frame.same.1 ∙ c.take_three.ensures.frame.same.1))))),
  );
  number = c.divide_in.ensures.frame.number
      ∙ (c.write_route.ensures.frame.number
      ∙ (c.copy_key.ensures.frame.number ∙ (c.item-first.ensures.frame.number ∙
      (c.write_half-2.ensures.frame.number
      ∙ (c.write_half.ensures.frame.number ∙ c.take_three.ensures.frame.number)))));
  tally = λ h. let still = c.copy_key.ensures.frame.still ∙ c.item-first.ensures.frame.still in
      c.divide_in.ensures.frame.tally
      (tallied_as c.args.pass.now.tally c.write_route.new.pass.tally
      c.args.pass.now.seat.me.0.upper
      c.write_route.new.pass.seat.me.0.upper
      (c.write_route.ensures.frame.tally
      ∙ (c.copy_key.ensures.frame.tally ∙ (c.item-first.ensures.frame.tally
      ∙ (c.write_half-2.ensures.frame.tally
      ∙ (c.write_half.ensures.frame.tally ∙ c.take_three.ensures.frame.tally)))))
      (c.write_route.ensures.frame.same.4 ∙ (ap (λ (m : MyTree). m.0.upper) still
      ∙ (c.write_half-2.ensures.frame.same.4
      ∙ (c.write_half.ensures.frame.same.4 ∙ c.take_three.ensures.frame.same.4)))) h);
  pin = (
    c.divide_in.ensures.frame.pin.0
        ∙ (c.write_route.ensures.frame.same.2
        ∙ (ap (λ (m : MyTree). m.0.sizes) c.copy_key.ensures.frame.still ∙ (ap (λ
        (m : MyTree). m.0.sizes) c.item-first.ensures.frame.still
        ∙ (c.write_half-2.ensures.frame.same.2
        ∙ (c.write_half.ensures.frame.same.2 ∙ c.take_three.ensures.frame.same.2))))),
    c.divide_in.ensures.frame.pin.1
        ∙ (c.write_route.ensures.frame.same.3
        ∙ (ap (λ (m : MyTree). m.0.pin) c.copy_key.ensures.frame.still ∙ (ap (λ
        (m : MyTree). m.0.pin) c.item-first.ensures.frame.still
        ∙ (c.write_half-2.ensures.frame.same.3
        ∙ (c.write_half.ensures.frame.same.3 ∙ c.take_three.ensures.frame.same.3))))),
  );
  own_range = c.divide_in.ensures.frame.own_range ∙ ap (λ (u : TreeView). u.ranges.own) (c.write_route.ensures.frame.same.4
      ∙ (ap (λ (m : MyTree). m.0.upper) (c.copy_key.ensures.frame.still ∙ c.item-first.ensures.frame.still)
      ∙ (c.write_half-2.ensures.frame.same.4 ∙ (c.write_half.ensures.frame.same.4 ∙ c.take_three.ensures.frame.same.4))));
  none = c.divide_in.ensures.frame.none;
}

pub returns-clause-won : goal.returns-clause-won
returns-clause-won c alone listed = let still = c.copy_key.ensures.frame.still
    ∙ c.item-first.ensures.frame.still in
    won_then c.args.space.now.table.shared.key c.args.pass.now.seat.me.0.upper
    c.write_route.new.pass.seat.me.0.upper c.divide_in.result
    (c.write_route.ensures.frame.same.4 ∙ (ap (λ (m : MyTree). m.0.upper) still
    ∙ (c.write_half-2.ensures.frame.same.4
    ∙ (c.write_half.ensures.frame.same.4 ∙ c.take_three.ensures.frame.same.4))))
    c.divide_in.ensures.won alone listed

pub item-first-requires-clause-reading : goal.item-first-requires-clause-reading
item-first-requires-clause-reading c = record {
  own = (
    c.write_half-2.ensures.frame.same.0
        ∙ (c.write_half.ensures.frame.same.0
        ∙ (c.take_three.ensures.frame.same.0 ∙ c.requires.ready.own.0)),
    c.write_half-2.ensures.frame.same.2
        ∙ (c.write_half.ensures.frame.same.2
        ∙ (c.take_three.ensures.frame.same.2 ∙ c.requires.ready.own.1)),
  );
  pinned = ap (λ (p : Pin). p.pinned) (c.write_half-2.ensures.frame.same.3
      ∙ (c.write_half.ensures.frame.same.3 ∙ c.take_three.ensures.frame.same.3))
      ∙ c.requires.ready.pinned;
}

pub divide_in-requires-clause-own : goal.divide_in-requires-clause-own
divide_in-requires-clause-own c = (
  c.write_route.ensures.frame.same.0
      ∙ (c.copy_key.ensures.frame.same.0
      ∙ (c.item-first.ensures.frame.same.0
      ∙ (c.write_half-2.ensures.frame.same.0 ∙ (c.write_half.ensures.frame.same.0 ∙
      (c.take_three.ensures.frame.same.0 ∙ c.requires.ready.own.0))))),
  c.write_route.ensures.frame.same.2
      ∙ (ap (λ (m : MyTree). m.0.sizes) c.copy_key.ensures.frame.still
      ∙ (ap (λ (m : MyTree). m.0.sizes) c.item-first.ensures.frame.still ∙
      (c.write_half-2.ensures.frame.same.2
      ∙ (c.write_half.ensures.frame.same.2
      ∙ (c.take_three.ensures.frame.same.2 ∙ c.requires.ready.own.1))))),
)

pub returns-clause-back : goal.returns-clause-back
returns-clause-back c =
    let still = c.copy_key.ensures.frame.still ∙ c.item-first.ensures.frame.still in
    cleared_after c.divide_in.result split_forms c.args.cursor.base [] c.args.pass.now.seat.me
    c.write_route.new.pass.seat.me c.divide_in.new.pass.seat.me c.args.pass.now.kept
    c.take_three.new.pass.kept c.write_route.new.pass.kept c.divide_in.new.pass.kept
    (ap losses c.write_route.ensures.written.2.only ∙ (ap losses still
    ∙ (ap losses c.write_half-2.ensures.written.2.only
    ∙ (ap losses c.write_half.ensures.written.2.only ∙ c.in_ok-route.ensures.found.1))))
    c.in_ok-route.ensures.back
    (c.write_route.ensures.frame.kept ∙ (c.copy_key.ensures.frame.kept
    ∙ (c.item-first.ensures.frame.kept
    ∙ (c.write_half-2.ensures.frame.kept ∙ c.write_half.ensures.frame.kept))))
    c.divide_in.ensures.back

pub returns-clause-counted : goal.returns-clause-counted
returns-clause-counted c = let still = c.copy_key.ensures.frame.still ∙ c.item-first.ensures.frame.still in
    counted_after c.args.spent.now c.take_three.new.spent c.divide_in.new.spent
    c.args.pass.now.seat.me c.take_three.new.pass.seat.me c.write_route.new.pass.seat.me
    c.divide_in.new.pass.seat.me c.in_ok-route.ensures.counted
    (ap losses c.write_route.ensures.written.2.only ∙ (ap losses still
    ∙ (ap losses c.write_half-2.ensures.written.2.only
    ∙ ap losses c.write_half.ensures.written.2.only)))
    c.divide_in.ensures.counted

pub returns-clause-found : goal.returns-clause-found
returns-clause-found c = let still = c.copy_key.ensures.frame.still ∙ c.item-first.ensures.frame.still in
    let one = c.write_half.ensures.written in let two = c.write_half-2.ensures.written in
    let three = c.write_route.ensures.written in
    let k = c.args.pass.now.seat.me in let m = c.take_three.new.pass.seat.me in
    let n = c.write_half.new.pass.seat.me in let l = c.write_half-2.new.pass.seat.me in
    let o = c.write_route.new.pass.seat.me in
    ended_after c.divide_in.result k o c.divide_in.new.pass.seat.me
    (met_both 0 0 0 0 k l o
    (met_both 0 0 0 0 k n l
    (met_both 0 0 0 0 k m n c.in_ok-route.ensures.found.0 (written_met c.in_ok-route.left one.0 m n one.2))
    (written_met c.in_ok-route.right two.0 n l two.2))
    (subst (λ (y : MyTree). HasMet 0 0 y o) still
    (written_met c.in_ok-route.route three.0 c.copy_key.new.pass.seat.me o three.2)))
    (ap losses three.2.only ∙ (ap losses still
    ∙ (ap losses two.2.only ∙ (ap losses one.2.only ∙ c.in_ok-route.ensures.found.1))))
    c.divide_in.ensures.found

pub returns-in_err-route-clause-back : goal.returns-in_err-route-clause-back
returns-in_err-route-clause-back c =
    let p = err_from_is_err_and c.from_residual.result c.from_residual.ensures.1 in
    rw (p.1, p.2) (cleared_none c.in_err-route.field-0.0 split_forms c.args.pass.now.seat.me
    c.take_three.new.pass.seat.me c.args.pass.now.kept c.take_three.new.pass.kept c.in_err-route.ensures.back)

pub item-first-requires-clause-readable : goal.item-first-requires-clause-readable
item-first-requires-clause-readable c = let r = c.requires in
    let u = c.args.pass.now.seat.me.0.upper in
    let upper = c.write_half-2.ensures.frame.same.4
    ∙ (c.write_half.ensures.frame.same.4 ∙ c.take_three.ensures.frame.same.4) in
    let many = r.target.many_are in let some = r.two in (
      first_note u.notes,
      subst (λ (v : TreeView).
          IsReadable c.args.space.now.table.shared.key v c.args.cursor.base (first_note u.notes))
          (sym upper)
          (last_readable c.args.space.now.table.shared.key u c.args.cursor.base r.target.shown
          r.target.leaf r.ordered),
      omega arith,
    )

pub returns-in_err-route-clause-crowded : goal.returns-in_err-route-clause-crowded
returns-in_err-route-clause-crowded c =
    let p = err_from_is_err_and c.from_residual.result c.from_residual.ensures.1 in
    rw (p.1, p.2) c.in_err-route.ensures.crowded

pub returns-clause-crowded : goal.returns-clause-crowded
returns-clause-crowded c = let still = c.copy_key.ensures.frame.still ∙ c.item-first.ensures.frame.still in
    let one = c.take_three.ensures.frame.same in let two = c.write_half.ensures.frame.same in
    let three = c.write_half-2.ensures.frame.same in let four = c.write_route.ensures.frame.same in
    crowded_from c.divide_in.result c.args.pass.now.seat.me c.write_route.new.pass.seat.me c.divide_in.new.pass.seat.me
    (four.2 ∙ (ap (λ (m : MyTree). m.0.sizes) still ∙ (three.2 ∙ (two.2 ∙ one.2))))
    (four.4 ∙ (ap (λ (m : MyTree). m.0.upper) still ∙ (three.4 ∙ (two.4 ∙ one.4)))) c.divide_in.ensures.crowded
