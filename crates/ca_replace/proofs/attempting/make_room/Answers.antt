use Rattle.ca_replace.specs.declared.attempting.Halt.{Halt}
use Rattle.ca_replace.proofs.Tuning.{tuned_on}
use Rattle.ca_replace.proofs.Turns.{no_further}
use Rattle.ca_replace.proofs.FullBases.{room_found, room_paid, room_waits}
use Rattle.ca_replace.proofs.GoingOn.{split_further}
use Rattle.std.proofs.Common.{◌≡◌, true, false, Err, Option, Some, refl, sym, ap, ◌∙◌, subst, arith, le_refl, rules}
use Rattle.ca_node.specs.declared.cursor.Cursor.{Cursor}
use Rattle.ca_replace.specs.Attempting.{BeginsAt}
use Rattle.ca_replace.proofs.Again.{again_after, deep_stays, split_stays}
use Rattle.ca_replace.proofs.Growing.{made_room}
use Rattle.ca_replace.proofs.Showing.{shown_last}
use Rattle.ca_base.specs.Splitting.{split_forms}
use Rattle.ca_replace.specs.Crowding.{Crowds}
use Rattle.ca_replace.proofs.Crowding.{room_crowds}
use Rattle.ca_replace.proofs.Cutting.{made_cut}
use Rattle.ca_replace.proofs.Winning.{room_won}
use Rattle.ca_replace.specs.declared.adapting.Course.{Course}
use Rattle.ca_replace.specs.Turning.{IsTurn}
use Rattle.ca_rows.specs.Told.{met_of}
use Rattle.ca_replace.proofs.Loads.{room_loads}
use Rattle.ca_replace.proofs.attempting.make_room.Goals as goal

pub split_at-split-requires-clause-target : goal.split_at-split-requires-clause-target
split_at-split-requires-clause-target c = let l = c.requires.may.1.looking in record {
  leaf = let most = (tuned_on c.args.tree.now).allowed.most_leaf in
      let leaf = (tuned_on c.args.tree.now).leaf in omega arith;
  shown = shown_last c.args.tree.now.space.table.shared.key c.args.pass.now.seat.me.0.upper _
      c.args.cursor l c.requires.may.1.settled;
  at = l.at;
  many_are = c.requires.many.0;
}

pub returns-clause-edited : goal.returns-clause-edited
returns-clause-edited c key looking full = record {
  frame = c.split_at-split.ensures.frame;
  tried = split_further c.args.tree.now.space.table.shared.key c.args.many _ c.split_at-split.result
      c.args.pass.now.seat.me.0.upper
      c.split_at-split.new.pass.seat.me.0.upper c.split_at-split.ensures.split
      c.requires.may.1.looking.known;
  stays = let z = c.args.tree.now.space.table.shared.key in
      let u = c.args.pass.now.seat.me.0.upper in let v = c.split_at-split.new.pass.seat.me.0.upper
      in
      let r = c.split_at-split.result in
      let course = record c.args.course.now {
        spent = c.split_at-split.new.spent;
        again = Some c.args.cursor;
      } in
      let h = split_stays z key c.args.cursor c.args.many _ r u v looking
      c.split_at-split.ensures.split in
      subst (λ (again : Option Cursor). (v.since ≡ u.since) × BeginsAt z key v again × (false ≡
      false → v.ranges.unfinished ≡ u.ranges.unfinished))
      (sym (ap (λ (x : Course). x.again) c.note_split.ensures ∙ again_after r course))
      (h.0, h.1, λ _. h.2);
  crowds = subst (λ (x : Halt). Crowds {T = Unit {0}} c.args.tree.now.space (Err x) c.args.pass.now
      c.split_at-split.new.pass)
      (sym c.halt_of.ensures) (room_crowds c.args.tree.now.space split_forms c.args.cursor.base
      c.args.many _ c.split_at-split.result c.args.pass.now
      c.split_at-split.new.pass c.requires.may.1.ready.own.1 c.split_at-split.ensures.frame
      c.split_at-split.ensures.split c.split_at-split.ensures.found
      c.split_at-split.ensures.back c.split_at-split.ensures.crowded);
  turn = let z = c.args.tree.now.space.table.shared.key in
      let m = c.args.pass.now.seat.me in let m' = c.split_at-split.new.pass.seat.me in
      let r = c.split_at-split.result in let split = c.split_at-split.ensures.split in
      let course = record c.args.course.now {
        spent = c.split_at-split.new.spent;
        again = Some c.args.cursor;
      } in
      let least = (tuned_on c.args.tree.now).allowed.least_leaf in
      let leaf = (tuned_on c.args.tree.now).leaf in let over = c.requires.many.1 in
      subst (λ (x : Halt × Course). IsTurn {T = Unit {0}} (λ _. true) (Some key) z
      c.args.tree.now.tuning 0 c.args.course.now x.1 (met_of m') (Err x.0) m m')
      (λ i. (sym c.halt_of.ensures i, sym c.note_split.ensures i)) record {
        met_as = tt;
        gone_on = room_waits c.args.many _ r c.args.course.now.adapting course m.0.upper m'.0.upper
            refl split;
        counted = room_paid c.args.many _ r c.args.course.now.spent course m m' split
            c.split_at-split.ensures.counted;
        found = room_found c.args.many _ r m m' c.split_at-split.ensures.found split;
        loads = room_loads z c.args.many _ r m m' split;
        grown = λ alone. made_room z m.0.upper m'.0.upper key c.args.cursor c.args.many _ r looking
            alone c.requires.many.0 (omega arith) (omega arith) split;
        won = λ alone. room_won {T = Unit {0}} (λ _. true) c.args.many _ r m.0.upper m'.0.upper
            (c.split_at-split.ensures.won alone (looking.listed alone)) split;
        cut = made_cut (λ (_ : Unit {0}). true) z (Some key) c.args.many _ r m.0.upper m'.0.upper
            full c.requires.many.0 c.first_attempt.ensures.value split;
      };
}

pub returns-then-cursor-tree-clause-edited : goal.returns-then-cursor-tree-clause-edited
returns-then-cursor-tree-clause-edited c key looking full = record {
  frame = record {
    same = search rules;
    number = refl;
    tally = λ h. h;
    pin = (refl, refl);
    own_range = refl;
    none = c.requires.may.1.ready.none;
  };
  tried = (no_further c.args.pass.now.seat.me.0.upper, looking.known);
  stays = let h = deep_stays c.args.tree.now.space.table.shared.key
      key c.args.cursor c.args.pass.now.seat.me.0.upper looking in
      (h.0, h.1, λ _. h.2);
  crowds = λ alone. (le_refl _, tt);
  turn = search rules;
}
