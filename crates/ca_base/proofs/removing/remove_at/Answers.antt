use Rattle.std.proofs.Common.{◌≡◌, ℕ, List, [], ◌∷◌, length, Ok, sym, refl, ap, ◌∙◌, subst, arith, rules}
use Rattle.ca_node.proofs.Members.{in_first}
use Rattle.ca_node.specs.Notes.{IsBaseNote}
use Rattle.ca_node.specs.TreeView.{TreeView}
use Rattle.ca_base.specs.Finding.{IsAtCursor}
use Rattle.ca_base.specs.Prefixes.{SpellsLeft}
use Rattle.ca_base.specs.Putting.{gone, IsShownLast, first_note, last_items, last_words}
use Rattle.ca_rows.specs.Told.{met_of}
use Rattle.ca_node.specs.Layout.{base_form}
use Rattle.ca_base.specs.Counting.{HasCleared, losses}
use Rattle.ca_base.proofs.Alone.{won_then}
use Rattle.std.proofs.lemmas.Result.{err_from_is_err_and}
use Rattle.ca_base.proofs.Counts.{cleared_after, cleared_none, counted_after, ended_after, for_base, met_both, written_met}
use Rattle.ca_base.proofs.Crowds.{crowded_from}
use Rattle.ca_base.proofs.Readying.{place_in, many_are, few_are, spells_there}
use Rattle.ca_base.proofs.TakingOut.{ready_without, removed, renewed_without}
use Rattle.ca_base.proofs.Unlinking.{written_row}
use Rattle.ca_rows.specs.declared.view.Pin.{Pin}
use Rattle.ca_base.proofs.Tallies.{tallied_as}
use Rattle.ca_base.proofs.removing.remove_at.Goals as goal

pub returns-in_err-new-clause-frame : goal.returns-in_err-new-clause-frame
returns-in_err-new-clause-frame c = record {
  same = search rules;
  number = search rules;
  tally = search rules;
  pin = search rules;
  own_range = ap (λ (u : TreeView). u.ranges.own) c.take.ensures.frame.same.4;
  none = c.in_err-new.ensures.taken [] (omega arith) c.requires.ready.none;
}

pub write_base_without-old-requires-clause-row : goal.write_base_without-old-requires-clause-row
write_base_without-old-requires-clause-row c =
    let taken = c.in_ok-new.ensures.taken [] (omega arith) c.requires.ready.none in
    let each = taken.1.0.each c.in_ok-new.new (in_first c.in_ok-new.new []) in record {
      reading = record {
        own = (
          c.take.ensures.frame.same.0 ∙ c.requires.ready.own.0,
          c.take.ensures.frame.same.2 ∙ c.requires.ready.own.1,
        );
        pinned = ap (λ (e : Pin). e.pinned) c.take.ensures.frame.same.3 ∙ c.requires.ready.pinned;
      };
      held = (each.1, each.2);
    }

pub write_base_without-old-requires-clause-shown : goal.write_base_without-old-requires-clause-shown
write_base_without-old-requires-clause-shown c = let u = c.args.pass.now.seat.me.0.upper in (
  subst
      (λ (u : TreeView).
      IsShownLast c.args.space.now.table.shared.key u c.args.target.now.cursor.base)
      (sym c.take.ensures.frame.same.4) c.requires.target.shown,
  (
    subst (λ (v : TreeView). c.args.target.now.many
        ≡ length (last_words v)) (sym c.take.ensures.frame.same.4)
        (many_are _ u c.args.target.now.cursor.base c.args.target.now.many c.requires.target.shown
        c.requires.target.many_are),
    few_are _ u c.args.target.now.cursor.base c.args.target.now.many c.requires.target.shown
        c.requires.target.many_are c.requires.target.leaf,
  ),
)

pub write_base_without-old-requires-clause-place : goal.write_base_without-old-requires-clause-place
write_base_without-old-requires-clause-place c =
    place_in c.args.space.now.table.shared.key c.args.pass.now.seat.me.0.upper
    c.args.target.now.cursor.base c.args.target.now.many
    (Ok c.args.removal.now.at) _ c.requires.target.shown c.requires.target.many_are c.requires.place

pub swap_in-requires-clause-held : goal.swap_in-requires-clause-held
swap_in-requires-clause-held c = let v = c.write_base_without-old.ensures.written in
    written_row c.args.space.now.table.shared.key.rows c.take.new.pass.kept
    c.write_base_without-old.new.pass.kept c.take.new.pass.seat.me
    c.write_base_without-old.new.pass.seat.me (c.in_ok-new.new ∷ []) c.in_ok-new.new v.0
    (in_first c.in_ok-new.new []) v.1.spells.long v.2
    c.write_base_without-old.ensures.frame.kept
    (c.in_ok-new.ensures.taken [] (omega arith) c.requires.ready.none).1

pub swap_in-requires-clause-old_base : goal.swap_in-requires-clause-old_base
swap_in-requires-clause-old_base c = subst
    (λ (u : TreeView). IsBaseNote c.args.space.now.table.shared.key (first_note u.notes))
    (sym (c.write_base_without-old.ensures.frame.same.4 ∙ c.take.ensures.frame.same.4))
    c.requires.target.shown.is_base

pub swap_in-requires-clause-cursor : goal.swap_in-requires-clause-cursor
swap_in-requires-clause-cursor c = subst
    (λ (u : TreeView).
    IsAtCursor c.args.space.now.table.shared.key (first_note u.notes) c.args.target.now.cursor)
    (sym (c.write_base_without-old.ensures.frame.same.4 ∙ c.take.ensures.frame.same.4))
    c.requires.target.at

pub swap_in-requires-clause-rows : goal.swap_in-requires-clause-rows
swap_in-requires-clause-rows c = let one = c.take.ensures.frame.same in
    let two = c.write_base_without-old.ensures.frame.same in (
      refl,
      ap (λ (u : TreeView). gone (Ok c.args.removal.now.at) (last_items u)) two.4
          ∙ (ap (λ x. x ∷ []) (sym c.write_base_without-old.ensures.gone)
          ∙ sym c.from_ref.ensures.value),
    )

pub swap_in-requires-clause-update : goal.swap_in-requires-clause-update
swap_in-requires-clause-update c = let v = c.write_base_without-old.ensures.written in
    let r = c.requires in
    let one = c.take.ensures.frame.same in let two = c.write_base_without-old.ensures.frame.same in
    ready_without c.args.space.now.table.shared.key c.args.pass.now.seat.me c.take.new.pass.seat.me
    c.write_base_without-old.new.pass.seat.me c.in_ok-new.new
    c.args.target.now.cursor.base c.args.removal.now.at c.args.target.now.statistic
    c.args.removal.now.key.now v.0 r.target.shown (two.4 ∙ one.4) r.place
    (spells_there c.args.pass.now.seat.me.0.upper c.take.new.pass.seat.me.0.upper
    (λ note level its. SpellsLeft note c.args.removal.now.at level c.args.target.now.statistic its)
    _ c.args.target.now.cursor.level v.0 one.4
    r.target.at.level v.1) v.2 r.ready.pinned r.ready.number (two.3 ∙ one.3) r.ordered r.about

pub returns-clause-removed : goal.returns-clause-removed
returns-clause-removed c = let v = c.write_base_without-old.ensures.written in let r = c.requires in
    let one = c.take.ensures.frame.same in let two = c.write_base_without-old.ensures.frame.same in
    removed c.args.space.now.table.shared.key c.args.pass.now.seat.me c.take.new.pass.seat.me
    c.write_base_without-old.new.pass.seat.me c.in_ok-new.new
    c.args.target.now.cursor.base c.args.removal.now.at c.args.target.now.statistic
    c.args.removal.now.key.now v.0 r.target.shown (two.4 ∙ one.4) r.place
    (spells_there c.args.pass.now.seat.me.0.upper c.take.new.pass.seat.me.0.upper
    (λ note level its. SpellsLeft note c.args.removal.now.at level c.args.target.now.statistic its)
    _ c.args.target.now.cursor.level v.0 one.4
    r.target.at.level v.1) v.2
    c.swap_in.result c.swap_in.new.pass.seat.me.0.upper c.swap_in.ensures.done

pub returns-clause-renewed : goal.returns-clause-renewed
returns-clause-renewed c = let v = c.write_base_without-old.ensures.written in let r = c.requires in
    let one = c.take.ensures.frame.same in let two = c.write_base_without-old.ensures.frame.same in
    renewed_without c.args.space.now.table.shared.key c.args.pass.now.seat.me
    c.take.new.pass.seat.me c.write_base_without-old.new.pass.seat.me c.in_ok-new.new
    c.args.target.now.cursor.base c.args.removal.now.at c.args.target.now.statistic
    c.args.removal.now.key.now v.0 r.target.shown (two.4 ∙ one.4) r.place
    (spells_there c.args.pass.now.seat.me.0.upper c.take.new.pass.seat.me.0.upper
    (λ note level its. SpellsLeft note c.args.removal.now.at level c.args.target.now.statistic its)
    _ c.args.target.now.cursor.level v.0 one.4
    r.target.at.level v.1) v.2
    (met_of c.swap_in.new.pass.seat.me) c.swap_in.result c.swap_in.new.pass.seat.me.0.upper
    c.swap_in.ensures.renewed

pub returns-clause-frame : goal.returns-clause-frame
returns-clause-frame c = record {
  same = (
    c.swap_in.ensures.frame.same.0
        ∙ (c.write_base_without-old.ensures.frame.same.0 ∙ c.take.ensures.frame.same.0),
    c.swap_in.ensures.frame.same.1
        ∙ (c.write_base_without-old.ensures.frame.same.1 ∙ c.take.ensures.frame.same.1),
  );
  number = c.swap_in.ensures.frame.number
      ∙ (c.write_base_without-old.ensures.frame.number ∙ c.take.ensures.frame.number);
  tally = λ h.
      c.swap_in.ensures.frame.tally
      (tallied_as c.args.pass.now.tally c.write_base_without-old.new.pass.tally
      c.args.pass.now.seat.me.0.upper c.write_base_without-old.new.pass.seat.me.0.upper
      (c.write_base_without-old.ensures.frame.tally
      ∙ c.take.ensures.frame.tally) (c.write_base_without-old.ensures.frame.same.4
      ∙ c.take.ensures.frame.same.4) h);
  pin = (
    c.swap_in.ensures.frame.pin.0
        ∙ (c.write_base_without-old.ensures.frame.same.2 ∙ c.take.ensures.frame.same.2),
    c.swap_in.ensures.frame.pin.1
        ∙ (c.write_base_without-old.ensures.frame.same.3 ∙ c.take.ensures.frame.same.3),
  );
  own_range = c.swap_in.ensures.frame.own_range
      ∙ ap (λ (u : TreeView). u.ranges.own) (c.write_base_without-old.ensures.frame.same.4 ∙ c.take.ensures.frame.same.4);
  none = c.swap_in.ensures.frame.none;
}

pub returns-clause-won : goal.returns-clause-won
returns-clause-won c alone listed =
    won_then c.args.space.now.table.shared.key c.args.pass.now.seat.me.0.upper
    c.write_base_without-old.new.pass.seat.me.0.upper c.swap_in.result
    (c.write_base_without-old.ensures.frame.same.4
    ∙ c.take.ensures.frame.same.4) c.swap_in.ensures.won alone listed

pub swap_in-requires-clause-own : goal.swap_in-requires-clause-own
swap_in-requires-clause-own c = (
  c.write_base_without-old.ensures.frame.same.0
      ∙ (c.take.ensures.frame.same.0 ∙ c.requires.ready.own.0),
  c.write_base_without-old.ensures.frame.same.2
      ∙ (c.take.ensures.frame.same.2 ∙ c.requires.ready.own.1),
)

pub returns-clause-again : goal.returns-clause-again
returns-clause-again c = for_base c.swap_in.result c.in_ok-new.new c.args.pass.now.seat.me.0.pin.told
    c.args.pass.now.kept.rows.items c.take.new.pass.kept.rows.items c.in_ok-new.ensures.oldest

pub returns-clause-back : goal.returns-clause-back
returns-clause-back c =
    let goes = c.from_ref.ensures.value ∙ (ap (λ x. x ∷ []) c.write_base_without-old.ensures.gone
    ∙ ap (λ (u : TreeView). gone (Ok c.args.removal.now.at) (last_items u)) c.take.ensures.frame.same.4) in
    cleared_after c.swap_in.result (base_form ∷ []) c.args.target.now.cursor.base
    (gone (Ok c.args.removal.now.at) (last_items c.args.pass.now.seat.me.0.upper)) c.args.pass.now.seat.me
    c.write_base_without-old.new.pass.seat.me c.swap_in.new.pass.seat.me c.args.pass.now.kept
    c.take.new.pass.kept c.write_base_without-old.new.pass.kept c.swap_in.new.pass.kept
    (ap losses c.write_base_without-old.ensures.written.2.only ∙ c.in_ok-new.ensures.found.1)
    c.in_ok-new.ensures.back c.write_base_without-old.ensures.frame.kept
    (subst (λ (rows : List ℕ). HasCleared [] c.args.target.now.cursor.base rows c.swap_in.result
    c.write_base_without-old.new.pass.seat.me c.swap_in.new.pass.seat.me c.write_base_without-old.new.pass.kept c.swap_in.new.pass.kept)
    goes c.swap_in.ensures.back)

pub returns-clause-counted : goal.returns-clause-counted
returns-clause-counted c = counted_after c.args.spent.now c.take.new.spent c.swap_in.new.spent
    c.args.pass.now.seat.me c.take.new.pass.seat.me c.write_base_without-old.new.pass.seat.me
    c.swap_in.new.pass.seat.me c.in_ok-new.ensures.counted
    (ap losses c.write_base_without-old.ensures.written.2.only) c.swap_in.ensures.counted

pub returns-in_err-new-clause-back : goal.returns-in_err-new-clause-back
returns-in_err-new-clause-back c =
    let p = err_from_is_err_and c.from_residual.result c.from_residual.ensures.1 in
    rw (p.1, p.2) (cleared_none c.in_err-new.field-0.0 (base_form ∷ []) c.args.pass.now.seat.me
    c.take.new.pass.seat.me c.args.pass.now.kept c.take.new.pass.kept c.in_err-new.ensures.back)

pub returns-clause-found : goal.returns-clause-found
returns-clause-found c = let v = c.write_base_without-old.ensures.written in
    let k = c.args.pass.now.seat.me in let m = c.take.new.pass.seat.me in
    let l = c.write_base_without-old.new.pass.seat.me in
    ended_after c.swap_in.result k l c.swap_in.new.pass.seat.me
    (met_both 0 0 0 0 k m l c.in_ok-new.ensures.found.0 (written_met c.in_ok-new.new v.0 m l v.2))
    (ap losses v.2.only ∙ c.in_ok-new.ensures.found.1)
    c.swap_in.ensures.found

pub returns-in_err-new-clause-crowded : goal.returns-in_err-new-clause-crowded
returns-in_err-new-clause-crowded c =
    let p = err_from_is_err_and c.from_residual.result c.from_residual.ensures.1 in
    rw (p.1, p.2) (c.in_err-new.ensures.crowded [] (omega arith) c.requires.ready.none)

pub returns-clause-crowded : goal.returns-clause-crowded
returns-clause-crowded c = let one = c.take.ensures.frame.same in
    let two = c.write_base_without-old.ensures.frame.same in
    crowded_from c.swap_in.result c.args.pass.now.seat.me c.write_base_without-old.new.pass.seat.me
    c.swap_in.new.pass.seat.me (two.2 ∙ one.2) (two.4 ∙ one.4) c.swap_in.ensures.crowded
