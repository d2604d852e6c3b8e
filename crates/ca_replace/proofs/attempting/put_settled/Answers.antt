use Rattle.ca_node.specs.declared.cursor.Cursor.{Cursor}
use Rattle.ca_replace.proofs.Again.{settled_stays}
use Rattle.std.proofs.Common.{[], ◌∷◌, ◌≡◌, Option, ◌≤◌, ℕ, ℤ, Result, OnOk, Ok, Err, Some, get_or, to_z, of_z, w32, Bool, true, false, length, sym, ap, ◌∙◌, subst, arith, map, ◌<◌}
use Rattle.std.proofs.lemmas.Int.{ints, to_z-of_z}
use Rattle.ca_replace.specs.declared.attempting.Halt.{Halt}
use Rattle.ca_replace.specs.declared.attempting.Halt.TheVariants as halt
use Rattle.ca_base.specs.Targets.{key_in, edit_of, event_of}
use Rattle.ca_model.specs.History.{Put}
use Rattle.ca_base.specs.Finding.{IsReadable, IsAtCursor}
use Rattle.ca_node.specs.Layout.{base_form, object_form}
use Rattle.ca_node.specs.Place.{HasKey}
use Rattle.ca_node.specs.States.{IsAlone}
use Rattle.ca_node.specs.Told.{MyTree, IsKnown, IsSettled}
use Rattle.ca_node.specs.TreeView.{Quiet, TreeView}
use Rattle.ca_base.specs.Putting.{IsRoom, IsShownLast, first_note, gone, last_items, object_at, put_event}
use Rattle.ca_replace.specs.Adapting.{IsMoved, IsCauseMet}
use Rattle.ca_replace.proofs.Tuning.{tuned_on}
use Rattle.ca_replace.proofs.Settling.{IsSettling}
use Rattle.ca_replace.proofs.GoingOn.{is_new, known_then, settled_found, settled_on, settled_paid, settled_tried, tried_turns}
use Rattle.ca_replace.proofs.Showing.{shown_last, full_there}
use Rattle.ca_rows.specs.Told.{met_of}
use Rattle.ca_replace.proofs.DueCauses.{settled_met}
use Rattle.ca_replace.proofs.Growing.{come_unsplit, settled_grown, tried_number}
use Rattle.ca_replace.specs.Cutting.{IsFullFor}
use Rattle.ca_replace.specs.Turning.{IsTurn}
use Rattle.ca_replace.proofs.Crowding.{crowds_read, settled_crowds}
use Rattle.ca_replace.proofs.Cutting.{full_for, settled_cut}
use Rattle.ca_replace.proofs.Winning.{settled_won}
use Rattle.ca_node.specs.Row.{pair}
use Rattle.ca_base.specs.Progress.{IsFurther}
use Rattle.ca_model.specs.Places.{IsPlace}
use Rattle.ca_replace.specs.Attempting.{IsLooking, StaysAt}
use Rattle.ca_replace.proofs.Ready.{ready_after, ready_read, reads_both, stays_both, stays_read}
use Rattle.ca_replace.proofs.Loads.{settled_loads}
use Rattle.ca_replace.proofs.attempting.put_settled.Goals as goal

no_room : (b : Bool) → b ≡ false → b ≡ true → ⊥
no_room true e t = cc
no_room false e t = cc

-- Where there is no room, there are as many as a base may have, and the key is a new one.
no_less : (r : Result ℕ ℕ) (many leaf : ℕ) → ¬ IsRoom r many leaf → leaf ≤ many
no_less (Ok at) many leaf n = absurd (n tt)
no_less (Err at) many leaf n = omega (arith, n)

no_place : (P : Type 0) (r : Result ℕ ℕ) (many leaf : ℕ) → ¬ IsRoom r many leaf → OnOk r P
no_place P (Ok at) many leaf n = absurd (n tt)
no_place P (Err at) many leaf n = tt

-- why an attempt came to nothing
abbrev why_of : Result (Unit {0}) Halt → Halt
why_of (Ok x) = halt.Deep
why_of (Err why) = why

pub count-many-requires-clause-readable : goal.count-many-requires-clause-readable
count-many-requires-clause-readable c =
    (first_note c.args.pass.now.seat.me.0.upper.notes, c.requires.may.looking.readable)

pub next_statistic-statistic-requires-clause-readable : goal.next_statistic-statistic-requires-clause-readable
next_statistic-statistic-requires-clause-readable c = (
  first_note c.args.pass.now.seat.me.0.upper.notes,
  subst (λ (m : MyTree).
      IsReadable c.args.tree.now.space.table.shared.key m.0.upper c.args.cursor.base
      (first_note c.args.pass.now.seat.me.0.upper.notes))
      (sym c.count-many.ensures.frame.still) c.requires.may.looking.readable,
)

pub settle-requires-clause-placed : goal.settle-requires-clause-placed
settle-requires-clause-placed c won = is_new _ c.args.tree.now.space.table.shared.key
    (Put (key_in c.args.insertion.now.keyed) c.args.insertion.now.keyed.object.now) c.word_of.result
    c.put_at-tried.new.placed
    c.put_at-tried.result c.next_statistic-statistic.new.pass.seat.me.0.upper
    c.put_at-tried.new.pass.seat.me.0.upper
    (subst (λ (m : MyTree).
    HasKey (first_note m.0.upper.notes).place.span (key_in c.args.insertion.now.keyed))
    (sym (c.next_statistic-statistic.ensures.frame.still ∙ c.count-many.ensures.frame.still))
    c.requires.may.looking.about) c.put_at-tried.ensures.renewed
    c.put_at-tried.ensures.placed won

-- The exchange and what followed it.
abbrev settling : (c : goal.After-settle)
    → IsSettling c.args.tree.now.space.table.shared.key c.args.tree.now.tuning c.put_at-tried.result
    c.settle.result
    c.args.course.now.adapting c.settle.new.course.adapting c.args.pass.now.seat.me
    c.next_statistic-statistic.new.pass.seat.me
    c.put_at-tried.new.pass.seat.me c.settle.new.pass.seat.me
settling c = record {
  event = event_of c.args.insertion.now
      (first_note c.next_statistic-statistic.new.pass.seat.me.0.upper.notes).objects;
  edit = edit_of c.args.insertion.now;
  statistic = to_z w32 (of_z w32 c.next_statistic-statistic.result);
  word = c.word_of.result;
  met = met_of c.put_at-tried.new.pass.seat.me;
  same = c.next_statistic-statistic.ensures.frame.still ∙ c.count-many.ensures.frame.still;
  is = c.settle.ensures.come;
  entered = c.put_at-tried.ensures.put;
  renewed = c.put_at-tried.ensures.renewed;
  settled = c.settle.ensures.settled;
}

on_ok : (r : Result ℕ ℕ) {P : Type 0} → P → OnOk r P
on_ok (Ok at) p = p
on_ok (Err at) p = tt

pub next_statistic-statistic-requires-clause-reading : goal.next_statistic-statistic-requires-clause-reading
next_statistic-statistic-requires-clause-reading c = record {
  own = (
    c.count-many.ensures.frame.same.0 ∙ c.requires.may.ready.own.0,
    ap (λ (m : MyTree). m.0.sizes) c.count-many.ensures.frame.still
        ∙ c.requires.may.ready.own.1,
  );
  pinned = ap (λ (m : MyTree). m.0.pin.pinned) c.count-many.ensures.frame.still
      ∙ c.requires.may.ready.pinned;
}

pub put_at-tried-requires-clause-ready : goal.put_at-tried-requires-clause-ready
put_at-tried-requires-clause-ready c = ready_read (reads_both c.count-many.ensures.frame
    c.next_statistic-statistic.ensures.frame) c.requires.may.ready

pub put_at-tried-requires-clause-place : goal.put_at-tried-requires-clause-place
put_at-tried-requires-clause-place c = subst
    (λ (m : MyTree). IsPlace (map pair (first_note m.0.upper.notes).objects)
    (key_in c.args.insertion.now.keyed) c.args.insertion.now.place)
    (sym (c.next_statistic-statistic.ensures.frame.still ∙ c.count-many.ensures.frame.still))
    c.requires.place

pub put_at-tried-requires-clause-about : goal.put_at-tried-requires-clause-about
put_at-tried-requires-clause-about c = subst
    (λ (m : MyTree).
    HasKey (first_note m.0.upper.notes).place.span (key_in c.args.insertion.now.keyed))
    (sym (c.next_statistic-statistic.ensures.frame.still ∙ c.count-many.ensures.frame.still))
    c.requires.may.looking.about

pub put_at-tried-requires-clause-room : goal.put_at-tried-requires-clause-room
put_at-tried-requires-clause-room c = subst
    (λ n. IsRoom c.args.insertion.now.place c.count-many.result n)
    (sym (tuned_on c.args.tree.now).leaf)
    (c.has_room.ensures.0 c.if-not-has_room.false)

pub make_room-requires-clause-many : goal.make_room-requires-clause-many
make_room-requires-clause-many c = (
  subst (λ (m : MyTree). c.count-many.result
      ≡ length (first_note m.0.upper.notes).objects) (sym c.count-many.ensures.frame.still)
      (c.count-many.ensures.count (first_note c.args.pass.now.seat.me.0.upper.notes)
      c.requires.may.looking.readable),
  no_less c.args.insertion.now.place c.count-many.result c.args.tree.now.tuning.leaf
      (λ room. no_room c.has_room.result c.if-not-has_room.true (c.has_room.ensures.1 room)),
)

pub put_at-tried-requires-clause-target : goal.put_at-tried-requires-clause-target
put_at-tried-requires-clause-target c = let z = c.args.tree.now.space.table.shared.key in
    let u = c.args.pass.now.seat.me.0.upper in
    let same = sym (c.next_statistic-statistic.ensures.frame.still
    ∙ c.count-many.ensures.frame.still) in record {
      leaf = let most = (tuned_on c.args.tree.now).allowed.most_leaf in
          let leaf = (tuned_on c.args.tree.now).leaf in omega arith;
      shown = subst
          (λ (m : MyTree). IsShownLast z m.0.upper c.args.cursor.base) same
          (shown_last z u _ c.args.cursor c.requires.may.looking c.requires.may.settled);
      at = subst
          (λ (m : MyTree). IsAtCursor z (first_note m.0.upper.notes) c.args.cursor) same
          c.requires.may.looking.at;
      many_are = subst (λ (m : MyTree). c.count-many.result
          ≡ length (first_note m.0.upper.notes).objects) same
          (c.count-many.ensures.count (first_note u.notes) c.requires.may.looking.readable);
    }

pub returns-clause-edited : goal.returns-clause-edited
returns-clause-edited c = record {
  frame = stays_read (reads_both c.count-many.ensures.frame
      c.next_statistic-statistic.ensures.frame)
      (stays_both c.put_at-tried.ensures.frame c.settle.ensures.frame);
  tried = settled_tried c.args.tree.now.space.table.shared.key
      (λ (u : TreeView).
      put_event c.args.insertion.now.why (key_in c.args.insertion.now.keyed)
      (object_at c.args.insertion.now.place (first_note u.notes).objects)
      c.args.insertion.now.keyed.object.now)
      c.put_at-tried.result c.settle.result c.args.pass.now.seat.me.0.upper
      c.next_statistic-statistic.new.pass.seat.me.0.upper
      c.put_at-tried.new.pass.seat.me.0.upper c.settle.new.pass.seat.me.0.upper
      (ap (λ (m : MyTree). m.0.upper) (c.next_statistic-statistic.ensures.frame.still
      ∙ c.count-many.ensures.frame.still)) c.settle.ensures.come
      c.requires.may.looking.known c.put_at-tried.ensures.put c.settle.ensures.further;
  stays = subst
      (λ (again : Option Cursor). StaysAt c.args.tree.now.space.table.shared.key
      (key_in c.args.insertion.now.keyed) c.settle.result c.args.pass.now.seat.me.0.upper
      c.settle.new.pass.seat.me.0.upper again false) (sym c.settle.ensures.again)
      (settled_stays c.put_at-tried.result (key_in c.args.insertion.now.keyed) c.args.cursor (settling c)
      c.requires.may.looking);
  crowds = settled_crowds c.args.tree.now.space (base_form ∷ object_form ∷ [])
      (gone c.args.insertion.now.place (last_items c.next_statistic-statistic.new.pass.seat.me.0.upper)) c.args.cursor.base (event_of c.args.insertion.now
      (first_note c.next_statistic-statistic.new.pass.seat.me.0.upper.notes).objects) c.put_at-tried.result c.settle.result
      c.args.pass.now c.next_statistic-statistic.new.pass c.put_at-tried.new.pass c.settle.new.pass c.settle.ensures.come
      (reads_both c.count-many.ensures.frame c.next_statistic-statistic.ensures.frame)
      c.requires.may.ready.own.1 c.put_at-tried.ensures.frame
      c.put_at-tried.ensures.put c.put_at-tried.ensures.back c.put_at-tried.ensures.crowded c.settle.ensures.still;
  turn = record {
    met_as = settled_met (IsCauseMet c.settle.new.course.adapting.last.adapted
        (met_of c.settle.new.pass.seat.me) c.settle.new.pass.seat.me.0.upper)
        c.put_at-tried.result c.settle.result c.settle.ensures.come c.settle.ensures.met;
    gone_on = let note = first_note c.args.pass.now.seat.me.0.upper.notes in
        let k : ℤ = c.next_statistic-statistic.result in
        settled_on (settling c)
        (subst (λ (x : ℤ).
        IsMoved c.args.tree.now.tuning (get_or note.its 1 0) c.args.course.now.adapting.lost x)
        (sym (to_z-of_z w32 k (let small = c.next_statistic-statistic.type_inv in
        omega (arith, ints)))) (c.next_statistic-statistic.ensures.moved note
        (subst (λ (m : MyTree).
        IsReadable c.args.tree.now.space.table.shared.key m.0.upper c.args.cursor.base note)
        (sym c.count-many.ensures.frame.still)
        c.requires.may.looking.readable)))
        c.word_of.ensures;
    counted = settled_paid c.args.course.now.spent c.put_at-tried.new.spent c.settle.new.course.spent
        c.args.pass.now.seat.me
        c.next_statistic-statistic.new.pass.seat.me c.put_at-tried.new.pass.seat.me
        c.settle.new.pass.seat.me
        (c.next_statistic-statistic.ensures.frame.still ∙ c.count-many.ensures.frame.still)
        (tried_turns _ c.args.tree.now.space.table.shared.key _ _ c.word_of.result
        c.put_at-tried.result
        c.next_statistic-statistic.new.pass.seat.me.0.upper c.put_at-tried.new.pass.seat.me.0.upper
        c.put_at-tried.ensures.put c.put_at-tried.ensures.renewed)
        c.put_at-tried.ensures.counted c.put_at-tried.result c.settle.result c.settle.ensures.come c.settle.ensures.counted;
    found = settled_found c.args.tree.now.space.table.shared.key c.args.tree.now.tuning
        (to_z w32 (of_z w32 c.next_statistic-statistic.result))
        c.put_at-tried.result
        c.settle.result c.args.course.now.adapting c.settle.new.course.adapting
        c.args.pass.now.seat.me c.next_statistic-statistic.new.pass.seat.me
        c.put_at-tried.new.pass.seat.me c.settle.new.pass.seat.me
        (c.next_statistic-statistic.ensures.frame.still ∙ c.count-many.ensures.frame.still)
        c.settle.ensures.come c.put_at-tried.ensures.found c.settle.ensures.settled;
    loads = settled_loads c.put_at-tried.result (settling c);
    grown = settled_grown (settling c) (Some (key_in c.args.insertion.now.keyed))
        c.requires.may.looking.listed c.settle.ensures.grows;
    won = settled_won (settling c) c.requires.may.looking.listed c.put_at-tried.ensures.won
        c.settle.ensures.won c.requires.may.unmet;
    cut = settled_cut (settling c) (Some (key_in c.args.insertion.now.keyed)) c.settle.ensures.cut;
  };
}

pub returns-then-not-has_room-clause-edited : goal.returns-then-not-has_room-clause-edited
returns-then-not-has_room-clause-edited c = let z = c.args.tree.now.space.table.shared.key in
    let key = key_in c.args.insertion.now.keyed in let u = c.args.pass.now.seat.me.0.upper in
    let last = c.make_room.new.pass.seat.me in let still = c.count-many.ensures.frame.still in
    let full = full_for z u c.args.cursor key c.args.insertion.now.place c.count-many.result
    c.requires.may.looking c.requires.place
    (λ room. no_room c.has_room.result c.if-not-has_room.true
    (c.has_room.ensures.1 (subst (λ n. IsRoom c.args.insertion.now.place c.count-many.result n)
    (tuned_on c.args.tree.now).leaf room)))
    (c.count-many.ensures.count (first_note u.notes) c.requires.may.looking.readable) in
    let did = c.make_room.ensures.edited key
    (subst (λ (m : MyTree). IsLooking z m.0.upper key c.args.cursor) (sym still)
    c.requires.may.looking)
    (subst (λ (m : MyTree). IsFullFor z (Some key) (first_note m.0.upper.notes)) (sym still) full)
    in record {
      frame = stays_read c.count-many.ensures.frame did.frame;
      tried = subst (λ (m : MyTree). IsFurther m.0.upper last.0.upper × IsKnown z last.0.upper)
          still did.tried;
      stays = subst (λ (m : MyTree). StaysAt {T = Unit {0}} z key (Err c.make_room.result) m.0.upper
          last.0.upper c.make_room.new.course.again false) still did.stays;
      crowds = crowds_read c.args.tree.now.space {T = Unit {0}} (Err c.make_room.result)
          c.args.pass.now
          c.count-many.new.pass c.make_room.new.pass c.count-many.ensures.frame did.crowds;
      turn = subst (λ (m : MyTree). IsTurn {T = Unit {0}} (λ _. true) (Some key) z
          c.args.tree.now.tuning 0
          c.args.course.now c.make_room.new.course (met_of last) (Err c.make_room.result) m last)
          still did.turn;
    }

pub settle-requires-clause-may : goal.settle-requires-clause-may
settle-requires-clause-may c = record {
  ready = ready_after
      (ready_read (reads_both c.count-many.ensures.frame
      c.next_statistic-statistic.ensures.frame) c.requires.may.ready)
      c.put_at-tried.ensures.frame (subst (λ (n : ℕ). 0 < n)
      (sym (tried_number c.args.tree.now.space.table.shared.key (event_of c.args.insertion.now
      (first_note c.next_statistic-statistic.new.pass.seat.me.0.upper.notes).objects)
      c.put_at-tried.result
      c.next_statistic-statistic.new.pass.seat.me.0.upper c.put_at-tried.new.pass.seat.me.0.upper
      c.put_at-tried.ensures.put
      ∙ ap (λ (m : MyTree). m.0.upper.number) (c.next_statistic-statistic.ensures.frame.still
      ∙ c.count-many.ensures.frame.still)))
      c.requires.may.ready.number);
  known = known_then c.args.tree.now.space.table.shared.key
      (λ (u : TreeView).
      put_event c.args.insertion.now.why (key_in c.args.insertion.now.keyed)
      (object_at c.args.insertion.now.place (first_note u.notes).objects)
      c.args.insertion.now.keyed.object.now)
      c.put_at-tried.result c.args.pass.now.seat.me.0.upper
      c.next_statistic-statistic.new.pass.seat.me.0.upper c.put_at-tried.new.pass.seat.me.0.upper
      (ap (λ (m : MyTree). m.0.upper) (c.next_statistic-statistic.ensures.frame.still
      ∙ c.count-many.ensures.frame.still)) c.requires.may.looking.known
      c.put_at-tried.ensures.put;
  quiet = c.put_at-tried.ensures.frame.own_range
      ∙ (ap (λ (m : MyTree). m.0.upper.ranges.own) (c.next_statistic-statistic.ensures.frame.still
      ∙ c.count-many.ensures.frame.still) ∙ c.requires.may.quiet);
}

pub make_room-requires-clause-may : goal.make_room-requires-clause-may
make_room-requires-clause-may c = let still = sym c.count-many.ensures.frame.still in (
  key_in c.args.insertion.now.keyed,
  record {
    ready = ready_read c.count-many.ensures.frame c.requires.may.ready;
    looking = subst (λ (m : MyTree).
        IsLooking c.args.tree.now.space.table.shared.key m.0.upper (key_in
        c.args.insertion.now.keyed)
        c.args.cursor)
        (sym c.count-many.ensures.frame.still) c.requires.may.looking;
    settled = subst
        (λ (m : MyTree). IsSettled m.0.upper (first_note m.0.upper.notes).its)
        (sym c.count-many.ensures.frame.still) c.requires.may.settled;
    quiet = subst (λ (m : MyTree). m.0.upper.ranges.own ≡ Quiet) still c.requires.may.quiet;
    unmet = subst
        (λ (m : MyTree). IsAlone c.args.tree.now.space.table.shared.key m.0.upper →
        m.0.upper.ranges.unfinished ≡ []) still
        c.requires.may.unmet;
  },
)

pub returns-clause-no_room : goal.returns-clause-no_room
returns-clause-no_room c = record {
  deep = on_ok c.args.insertion.now.place c.settle.ensures.deep;
  no_split = on_ok c.args.insertion.now.place
      (come_unsplit c.put_at-tried.result c.settle.result c.settle.ensures.come);
  full = λ e. absurd (c.settle.ensures.deep e);
}

pub returns-then-not-has_room-clause-no_room : goal.returns-then-not-has_room-clause-no_room
returns-then-not-has_room-clause-no_room c = record {
  deep = no_place _ c.args.insertion.now.place c.count-many.result c.args.tree.now.tuning.leaf
      (λ room. no_room c.has_room.result
      c.if-not-has_room.true (c.has_room.ensures.1 room));
  no_split = no_place _ c.args.insertion.now.place c.count-many.result c.args.tree.now.tuning.leaf
      (λ room. no_room c.has_room.result c.if-not-has_room.true (c.has_room.ensures.1 room));
  full = λ deep. full_there c.args.tree.now.space.table.shared.key c.args.pass.now.seat.me.0.upper
      c.make_room.new.pass.seat.me.0.upper c.args.cursor (key_in c.args.insertion.now.keyed)
      c.args.insertion.now.place c.count-many.result
      c.requires.may.looking
      (c.make_room.ensures.still (ap why_of deep)
      ∙ ap (λ (m : MyTree). m.0.upper) c.count-many.ensures.frame.still)
      (subst (λ (m : MyTree).
      c.args.tree.now.space.table.shared.key.levels ≤ (first_note m.0.upper.notes).place.level)
      c.count-many.ensures.frame.still
      (c.make_room.ensures.deep (ap why_of deep))) c.requires.place
      (λ room. no_room c.has_room.result c.if-not-has_room.true
      (c.has_room.ensures.1 (subst (λ n. IsRoom c.args.insertion.now.place c.count-many.result n)
      (tuned_on c.args.tree.now).leaf room)))
      (c.count-many.ensures.count (first_note c.args.pass.now.seat.me.0.upper.notes)
      c.requires.may.looking.readable);
}
