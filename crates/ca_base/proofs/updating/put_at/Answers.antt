use Rattle.std.proofs.Common.{◌≡◌, ℕ, ◌≤◌, List, [], ◌∷◌, length, arith, sym, refl, ap, ◌∙◌, subst}
use Rattle.ca_node.specs.Links.{AreApart}
use Rattle.ca_node.proofs.Members.{in_first, in_rest}
use Rattle.ca_node.specs.Notes.{IsBaseNote}
use Rattle.ca_node.specs.TreeView.{TreeView}
use Rattle.std.specs.Prelude.{slice_range}
use Rattle.ca_base.specs.Finding.{IsAtCursor}
use Rattle.ca_base.specs.Prefixes.{SpellsPut}
use Rattle.ca_base.specs.Putting.{gone, IsRoom, IsShownLast, first_note, last_items, last_words}
use Rattle.ca_rows.specs.Told.{met_of}
use Rattle.ca_node.specs.Layout.{base_form, object_form}
use Rattle.ca_base.specs.Counting.{HasCleared, losses}
use Rattle.ca_base.proofs.Alone.{won_then}
use Rattle.std.proofs.lemmas.Result.{err_from_is_err_and}
use Rattle.ca_base.proofs.Counts.{cleared_after, cleared_none, counted_after, ended_after, for_base, met_both, written_met}
use Rattle.ca_base.proofs.Crowds.{crowded_from}
use Rattle.ca_base.proofs.Readying.{finds_place, place_in, many_are, few_are, spells_there, ready, tried, renewed_so}
use Rattle.ca_base.proofs.Rest.{two_apart, gone_apart, gone_few}
use Rattle.ca_base.proofs.Unlinking.{written_row}
use Rattle.ca_rows.specs.declared.view.Pin.{Pin}
use Rattle.ca_base.proofs.Tallies.{tallied_as}
use Rattle.ca_base.proofs.updating.put_at.Goals as goal

pub write_object-requires-clause-row : goal.write_object-requires-clause-row
write_object-requires-clause-row c = let t = c.in_ok-new.ensures.taken in
    let each = t.1.0.each c.in_ok-new.row
    (in_rest c.in_ok-new.row c.in_ok-new.new (c.in_ok-new.row ∷ [])
    (in_first c.in_ok-new.row [])) in record {
      own = (
        c.take_two.ensures.frame.same.0 ∙ c.requires.ready.own.0,
        c.take_two.ensures.frame.same.2 ∙ c.requires.ready.own.1,
      );
      held = (each.1, each.2);
    }

pub write_base_with-old-requires-clause-row : goal.write_base_with-old-requires-clause-row
write_base_with-old-requires-clause-row c = let t = c.in_ok-new.ensures.taken in
    let w = c.write_object.ensures.written in
    let each = t.1.0.each c.in_ok-new.new (in_first c.in_ok-new.new (c.in_ok-new.row ∷ [])) in
    let own = each.2 in record {
      reading = record {
        own = (
          c.write_object.ensures.frame.same.0
              ∙ (c.take_two.ensures.frame.same.0 ∙ c.requires.ready.own.0),
          c.write_object.ensures.frame.same.2
              ∙ (c.take_two.ensures.frame.same.2 ∙ c.requires.ready.own.1),
        );
        pinned = ap (λ (e : Pin). e.pinned) (c.write_object.ensures.frame.same.3
            ∙ c.take_two.ensures.frame.same.3) ∙ c.requires.ready.pinned;
      };
      held = (each.1, (own.0, own.1, w.2.others c.in_ok-new.new t.0 ∙ own.2));
    }

pub write_base_with-old-requires-clause-shown : goal.write_base_with-old-requires-clause-shown
write_base_with-old-requires-clause-shown c = let u = c.args.pass.now.seat.me.0.upper in (
  subst
      (λ (u : TreeView).
      IsShownLast c.args.space.now.table.shared.key u c.args.target.now.cursor.base)
      (sym (c.write_object.ensures.frame.same.4 ∙ c.take_two.ensures.frame.same.4))
      c.requires.target.shown,
  (
    subst (λ (v : TreeView). c.args.target.now.many
        ≡ length (last_words v)) (sym (c.write_object.ensures.frame.same.4
        ∙ c.take_two.ensures.frame.same.4))
        (many_are _ u c.args.target.now.cursor.base c.args.target.now.many c.requires.target.shown
        c.requires.target.many_are),
    few_are _ u c.args.target.now.cursor.base c.args.target.now.many c.requires.target.shown
        c.requires.target.many_are c.requires.target.leaf,
  ),
)

pub write_base_with-old-requires-clause-place : goal.write_base_with-old-requires-clause-place
write_base_with-old-requires-clause-place c =
    finds_place c.args.insertion.now.place c.args.target.now.many
    c.args.space.now.table.shared.key.leaf
    (place_in c.args.space.now.table.shared.key c.args.pass.now.seat.me.0.upper
    c.args.target.now.cursor.base c.args.target.now.many c.args.insertion.now.place _
    c.requires.target.shown c.requires.target.many_are
    c.requires.place)
    c.requires.room c.requires.target.leaf

pub swap_in-requires-clause-held : goal.swap_in-requires-clause-held
swap_in-requires-clause-held c = let t = c.in_ok-new.ensures.taken in
    let w = c.write_object.ensures.written in
    let v = c.write_base_with-old.ensures.written in
    let rows : List ℕ = c.in_ok-new.new ∷ c.in_ok-new.row ∷ [] in
    written_row c.args.space.now.table.shared.key.rows c.write_object.new.pass.kept
    c.write_base_with-old.new.pass.kept c.write_object.new.pass.seat.me
    c.write_base_with-old.new.pass.seat.me rows c.in_ok-new.new v.0
    (in_first c.in_ok-new.new (c.in_ok-new.row ∷ [])) v.1.spells.long v.2
    c.write_base_with-old.ensures.frame.kept
    (written_row c.args.space.now.table.shared.key.rows c.take_two.new.pass.kept
    c.write_object.new.pass.kept c.take_two.new.pass.seat.me
    c.write_object.new.pass.seat.me rows c.in_ok-new.row w.0
    (in_rest c.in_ok-new.row c.in_ok-new.new (c.in_ok-new.row ∷ []) (in_first c.in_ok-new.row []))
    w.1.long w.2 c.write_object.ensures.frame.kept t.1)

pub swap_in-requires-clause-old_base : goal.swap_in-requires-clause-old_base
swap_in-requires-clause-old_base c = let same = c.write_base_with-old.ensures.frame.same.4
    ∙ (c.write_object.ensures.frame.same.4 ∙ c.take_two.ensures.frame.same.4) in
    subst (λ (u : TreeView).
    IsBaseNote c.args.space.now.table.shared.key (first_note u.notes)) (sym same)
    c.requires.target.shown.is_base

pub swap_in-requires-clause-cursor : goal.swap_in-requires-clause-cursor
swap_in-requires-clause-cursor c = let same = c.write_base_with-old.ensures.frame.same.4
    ∙ (c.write_object.ensures.frame.same.4 ∙ c.take_two.ensures.frame.same.4) in
    subst (λ (u : TreeView).
    IsAtCursor c.args.space.now.table.shared.key (first_note u.notes) c.args.target.now.cursor)
    (sym same) c.requires.target.at

pub swap_in-requires-clause-rows : goal.swap_in-requires-clause-rows
swap_in-requires-clause-rows c = let one = c.take_two.ensures.frame.same in
    let two = c.write_object.ensures.frame.same in
    let three = c.write_base_with-old.ensures.frame.same in (
      refl,
      ap (λ (u : TreeView). gone c.args.insertion.now.place (last_items u)) three.4
          ∙ sym (c.gone.ensures _ c.write_base_with-old.ensures.gone),
    )

pub swap_in-requires-clause-update : goal.swap_in-requires-clause-update
swap_in-requires-clause-update c = let t = c.in_ok-new.ensures.taken in
    let w = c.write_object.ensures.written in
    let v = c.write_base_with-old.ensures.written in let r = c.requires in
    let one = c.take_two.ensures.frame.same in let two = c.write_object.ensures.frame.same in
    let three = c.write_base_with-old.ensures.frame.same in
    ready c.args.space.now.table.shared.key c.args.pass.now.seat.me c.take_two.new.pass.seat.me
    c.write_object.new.pass.seat.me
    c.write_base_with-old.new.pass.seat.me c.in_ok-new.row c.in_ok-new.new
    c.args.target.now.cursor.base c.args.insertion.now.place c.args.insertion.now.why
    c.args.insertion.now.keyed.object.now
    c.args.insertion.now.keyed.key_at c.args.insertion.now.keyed.key_end c.args.target.now.statistic
    w.0 v.0 r.target.shown (three.4 ∙ (two.4 ∙ one.4)) (λ e. t.0 (sym e)) w.1 w.2
    (spells_there c.args.pass.now.seat.me.0.upper c.write_object.new.pass.seat.me.0.upper
    (λ note level its. SpellsPut note c.args.insertion.now.place
    (slice_range c.args.insertion.now.keyed.object.now c.args.insertion.now.keyed.key_at
    c.args.insertion.now.keyed.key_end) c.in_ok-new.row level c.args.target.now.statistic its)
    _ c.args.target.now.cursor.level v.0 (two.4 ∙ one.4) r.target.at.level v.1) v.2
    r.ready.pinned r.ready.number
    (subst (λ (n : ℕ). IsRoom c.args.insertion.now.place n c.args.space.now.table.shared.key.leaf)
    (many_are _ _ c.args.target.now.cursor.base c.args.target.now.many r.target.shown
    r.target.many_are) r.room)
    r.keyed.pair_is r.place r.call (three.3 ∙ (two.3 ∙ one.3)) r.about

pub swap_in-requires-clause-apart : goal.swap_in-requires-clause-apart
swap_in-requires-clause-apart c = (
  two_apart c.in_ok-new.new c.in_ok-new.row c.in_ok-new.ensures.taken.0,
  subst AreApart (sym (c.gone.ensures _ c.write_base_with-old.ensures.gone))
      (gone_apart c.args.insertion.now.place _),
)

pub swap_in-requires-clause-few : goal.swap_in-requires-clause-few
swap_in-requires-clause-few c = (
  omega arith,
  subst (λ (xs : List ℕ). length xs ≤ 1) (sym (c.gone.ensures _ c.write_base_with-old.ensures.gone))
      (gone_few c.args.insertion.now.place _),
)

pub returns-clause-put : goal.returns-clause-put
returns-clause-put c = let t = c.in_ok-new.ensures.taken in let w = c.write_object.ensures.written in
    let v = c.write_base_with-old.ensures.written in let r = c.requires in
    let one = c.take_two.ensures.frame.same in let two = c.write_object.ensures.frame.same in
    let three = c.write_base_with-old.ensures.frame.same in
    tried c.args.space.now.table.shared.key c.args.pass.now.seat.me c.take_two.new.pass.seat.me
    c.write_object.new.pass.seat.me
    c.write_base_with-old.new.pass.seat.me c.in_ok-new.row c.in_ok-new.new
    c.args.target.now.cursor.base c.args.insertion.now.place c.args.insertion.now.why
    c.args.insertion.now.keyed.object.now
    c.args.insertion.now.keyed.key_at c.args.insertion.now.keyed.key_end c.args.target.now.statistic
    w.0 v.0 r.target.shown (three.4 ∙ (two.4 ∙ one.4)) (λ e. t.0 (sym e)) w.1 w.2
    (spells_there c.args.pass.now.seat.me.0.upper c.write_object.new.pass.seat.me.0.upper
    (λ note level its. SpellsPut note c.args.insertion.now.place
    (slice_range c.args.insertion.now.keyed.object.now c.args.insertion.now.keyed.key_at
    c.args.insertion.now.keyed.key_end) c.in_ok-new.row level c.args.target.now.statistic its)
    _ c.args.target.now.cursor.level v.0 (two.4 ∙ one.4) r.target.at.level v.1) v.2
    c.swap_in.result c.swap_in.new.pass.seat.me.0.upper c.swap_in.ensures.done

pub returns-clause-renewed : goal.returns-clause-renewed
returns-clause-renewed c = let t = c.in_ok-new.ensures.taken in
    let w = c.write_object.ensures.written in
    let v = c.write_base_with-old.ensures.written in let r = c.requires in
    let one = c.take_two.ensures.frame.same in let two = c.write_object.ensures.frame.same in
    let three = c.write_base_with-old.ensures.frame.same in
    renewed_so c.args.space.now.table.shared.key c.args.pass.now.seat.me c.take_two.new.pass.seat.me
    c.write_object.new.pass.seat.me
    c.write_base_with-old.new.pass.seat.me c.in_ok-new.row c.in_ok-new.new
    c.args.target.now.cursor.base c.args.insertion.now.place c.args.insertion.now.why
    c.args.insertion.now.keyed.object.now
    c.args.insertion.now.keyed.key_at c.args.insertion.now.keyed.key_end c.args.target.now.statistic
    w.0 v.0 r.target.shown (three.4 ∙ (two.4 ∙ one.4)) (λ e. t.0 (sym e)) w.1 w.2
    (spells_there c.args.pass.now.seat.me.0.upper c.write_object.new.pass.seat.me.0.upper
    (λ note level its. SpellsPut note c.args.insertion.now.place
    (slice_range c.args.insertion.now.keyed.object.now c.args.insertion.now.keyed.key_at
    c.args.insertion.now.keyed.key_end) c.in_ok-new.row level c.args.target.now.statistic its)
    _ c.args.target.now.cursor.level v.0 (two.4 ∙ one.4) r.target.at.level v.1) v.2
    (met_of c.swap_in.new.pass.seat.me) c.swap_in.result c.swap_in.new.pass.seat.me.0.upper
    c.swap_in.ensures.renewed

pub returns-clause-frame : goal.returns-clause-frame
returns-clause-frame c = record {
  same = (
    c.swap_in.ensures.frame.same.0
        ∙ (c.write_base_with-old.ensures.frame.same.0
        ∙ (c.write_object.ensures.frame.same.0 ∙ c.take_two.ensures.frame.same.0)),
    c.swap_in.ensures.frame.same.1
        ∙ (c.write_base_with-old.ensures.frame.same.1
        ∙ (c.write_object.ensures.frame.same.1 ∙ c.take_two.ensures.frame.same.1)),
  );
  number = c.swap_in.ensures.frame.number
      ∙ (c.write_base_with-old.ensures.frame.number
      ∙ (c.write_object.ensures.frame.number ∙ c.take_two.ensures.frame.number));
  tally = λ h.
      c.swap_in.ensures.frame.tally
      (tallied_as c.args.pass.now.tally c.write_base_with-old.new.pass.tally
      c.args.pass.now.seat.me.0.upper
      c.write_base_with-old.new.pass.seat.me.0.upper
      (c.write_base_with-old.ensures.frame.tally
      ∙ (c.write_object.ensures.frame.tally ∙ c.take_two.ensures.frame.tally))
      (c.write_base_with-old.ensures.frame.same.4
      ∙ (c.write_object.ensures.frame.same.4 ∙ c.take_two.ensures.frame.same.4)) h);
  pin = (
    c.swap_in.ensures.frame.pin.0
        ∙ (c.write_base_with-old.ensures.frame.same.2
        ∙ (c.write_object.ensures.frame.same.2 ∙ c.take_two.ensures.frame.same.2)),
    c.swap_in.ensures.frame.pin.1
        ∙ (c.write_base_with-old.ensures.frame.same.3
        ∙ (c.write_object.ensures.frame.same.3 ∙ c.take_two.ensures.frame.same.3)),
  );
  own_range = c.swap_in.ensures.frame.own_range ∙ ap (λ (u : TreeView). u.ranges.own) (c.write_base_with-old.ensures.frame.same.4
      ∙ (c.write_object.ensures.frame.same.4 ∙ c.take_two.ensures.frame.same.4));
  none = c.swap_in.ensures.frame.none;
}

pub returns-clause-won : goal.returns-clause-won
returns-clause-won c alone listed =
    won_then c.args.space.now.table.shared.key c.args.pass.now.seat.me.0.upper
    c.write_base_with-old.new.pass.seat.me.0.upper c.swap_in.result
    (c.write_base_with-old.ensures.frame.same.4
    ∙ (c.write_object.ensures.frame.same.4 ∙ c.take_two.ensures.frame.same.4))
    c.swap_in.ensures.won alone listed

pub swap_in-requires-clause-own : goal.swap_in-requires-clause-own
swap_in-requires-clause-own c = (
  c.write_base_with-old.ensures.frame.same.0
      ∙ (c.write_object.ensures.frame.same.0
      ∙ (c.take_two.ensures.frame.same.0 ∙ c.requires.ready.own.0)),
  c.write_base_with-old.ensures.frame.same.2
      ∙ (c.write_object.ensures.frame.same.2
      ∙ (c.take_two.ensures.frame.same.2 ∙ c.requires.ready.own.1)),
)

pub write_base_with-old-requires-clause-inside : goal.write_base_with-old-requires-clause-inside
write_base_with-old-requires-clause-inside c = let few = c.args.space.now.few.1 in
    let each = c.in_ok-new.ensures.taken.1.0.each c.in_ok-new.row
    (in_rest c.in_ok-new.row c.in_ok-new.new (c.in_ok-new.row ∷ []) (in_first c.in_ok-new.row [])) in
    let inside = each.1 in omega arith

pub returns-clause-again : goal.returns-clause-again
returns-clause-again c = let two = c.in_ok-new.ensures.oldest in
    for_base c.swap_in.result c.in_ok-new.new c.args.pass.now.seat.me.0.pin.told
    c.args.pass.now.kept.rows.items two.0 two.1

pub returns-clause-back : goal.returns-clause-back
returns-clause-back c =
    let goes = c.gone.ensures _ c.write_base_with-old.ensures.gone
    ∙ ap (λ (u : TreeView). gone c.args.insertion.now.place (last_items u))
    (c.write_object.ensures.frame.same.4 ∙ c.take_two.ensures.frame.same.4) in
    cleared_after c.swap_in.result (base_form ∷ object_form ∷ []) c.args.target.now.cursor.base
    (gone c.args.insertion.now.place (last_items c.args.pass.now.seat.me.0.upper)) c.args.pass.now.seat.me
    c.write_base_with-old.new.pass.seat.me c.swap_in.new.pass.seat.me c.args.pass.now.kept
    c.take_two.new.pass.kept c.write_base_with-old.new.pass.kept c.swap_in.new.pass.kept
    (ap losses c.write_base_with-old.ensures.written.2.only
    ∙ (ap losses c.write_object.ensures.written.2.only ∙ c.in_ok-new.ensures.found.1))
    c.in_ok-new.ensures.back
    (c.write_base_with-old.ensures.frame.kept ∙ c.write_object.ensures.frame.kept)
    (subst (λ (rows : List ℕ). HasCleared [] c.args.target.now.cursor.base rows c.swap_in.result
    c.write_base_with-old.new.pass.seat.me c.swap_in.new.pass.seat.me c.write_base_with-old.new.pass.kept c.swap_in.new.pass.kept)
    goes c.swap_in.ensures.back)

pub returns-clause-counted : goal.returns-clause-counted
returns-clause-counted c = counted_after c.args.spent.now c.take_two.new.spent c.swap_in.new.spent
    c.args.pass.now.seat.me c.take_two.new.pass.seat.me c.write_base_with-old.new.pass.seat.me
    c.swap_in.new.pass.seat.me c.in_ok-new.ensures.counted
    (ap losses c.write_base_with-old.ensures.written.2.only
    ∙ ap losses c.write_object.ensures.written.2.only)
    c.swap_in.ensures.counted

pub returns-clause-found : goal.returns-clause-found
returns-clause-found c = let w = c.write_object.ensures.written in
    let v = c.write_base_with-old.ensures.written in
    let k = c.args.pass.now.seat.me in let m = c.take_two.new.pass.seat.me in
    let n = c.write_object.new.pass.seat.me in let l = c.write_base_with-old.new.pass.seat.me in
    ended_after c.swap_in.result k l c.swap_in.new.pass.seat.me
    (met_both 0 0 0 0 k n l
    (met_both 0 0 0 0 k m n c.in_ok-new.ensures.found.0 (written_met c.in_ok-new.row w.0 m n w.2))
    (written_met c.in_ok-new.new v.0 n l v.2))
    (ap losses v.2.only ∙ (ap losses w.2.only ∙ c.in_ok-new.ensures.found.1))
    c.swap_in.ensures.found

pub returns-in_err-new-clause-back : goal.returns-in_err-new-clause-back
returns-in_err-new-clause-back c =
    let p = err_from_is_err_and c.from_residual.result c.from_residual.ensures.1 in
    rw (p.1, p.2) (cleared_none c.in_err-new.field-0.0 (base_form ∷ object_form ∷ []) c.args.pass.now.seat.me
    c.take_two.new.pass.seat.me c.args.pass.now.kept c.take_two.new.pass.kept c.in_err-new.ensures.back)

pub returns-in_err-new-clause-crowded : goal.returns-in_err-new-clause-crowded
returns-in_err-new-clause-crowded c =
    let p = err_from_is_err_and c.from_residual.result c.from_residual.ensures.1 in
    rw (p.1, p.2) c.in_err-new.ensures.crowded

pub returns-clause-crowded : goal.returns-clause-crowded
returns-clause-crowded c = let one = c.take_two.ensures.frame.same in
    let two = c.write_object.ensures.frame.same in let three = c.write_base_with-old.ensures.frame.same in
    crowded_from c.swap_in.result c.args.pass.now.seat.me c.write_base_with-old.new.pass.seat.me
    c.swap_in.new.pass.seat.me (three.2 ∙ (two.2 ∙ one.2)) (three.4 ∙ (two.4 ∙ one.4)) c.swap_in.ensures.crowded
