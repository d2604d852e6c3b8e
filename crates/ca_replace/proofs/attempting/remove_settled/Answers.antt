use Rattle.ca_node.specs.declared.cursor.Cursor.{Cursor}
use Rattle.ca_replace.proofs.Again.{settled_stays}
use Rattle.std.proofs.Common.{[], ◌∷◌, ◌≡◌, ◌<◌, false, ℕ, Option, ℤ, get_or, to_z, of_z, w32, length, Ok, None, Some, sym, ap, ◌∙◌, subst, arith, map}
use Rattle.std.proofs.lemmas.Int.{ints, to_z-of_z}
use Rattle.ca_model.specs.Event.{Remove}
use Rattle.ca_model.specs.History.{Del}
use Rattle.ca_base.specs.Finding.{IsReadable, IsAtCursor}
use Rattle.ca_node.specs.Layout.{base_form}
use Rattle.ca_node.specs.Place.{HasKey}
use Rattle.ca_node.specs.Told.{MyTree}
use Rattle.ca_node.specs.TreeView.{TreeView}
use Rattle.ca_base.specs.Putting.{IsShownLast, first_note, gone, last_items, object_at}
use Rattle.ca_replace.specs.Adapting.{IsMoved, IsCauseMet}
use Rattle.ca_replace.specs.Attempting.{StaysAt}
use Rattle.ca_replace.proofs.Tuning.{tuned_on}
use Rattle.ca_replace.proofs.Settling.{IsSettling}
use Rattle.ca_replace.proofs.GoingOn.{is_new, known_then, settled_found, settled_on, settled_paid, settled_tried, tried_turns}
use Rattle.ca_replace.proofs.Showing.{shown_last}
use Rattle.ca_rows.specs.Told.{met_of}
use Rattle.ca_replace.proofs.DueCauses.{settled_met}
use Rattle.ca_replace.proofs.Growing.{settled_grown, tried_number}
use Rattle.ca_replace.proofs.Crowding.{settled_crowds}
use Rattle.ca_replace.proofs.Cutting.{settled_cut}
use Rattle.ca_replace.proofs.Winning.{settled_won}
use Rattle.ca_node.specs.Row.{pair}
use Rattle.ca_model.specs.Places.{IsPlace}
use Rattle.ca_replace.proofs.Ready.{ready_after, ready_read, reads_both, stays_both, stays_read}
use Rattle.ca_replace.proofs.Loads.{settled_loads}
use Rattle.ca_replace.proofs.attempting.remove_settled.Goals as goal

pub count-many-requires-clause-readable : goal.count-many-requires-clause-readable
count-many-requires-clause-readable c =
    (first_note c.args.pass.now.seat.me.0.upper.notes, c.requires.may.looking.readable)

pub next_statistic-statistic-requires-clause-readable : goal.next_statistic-statistic-requires-clause-readable
next_statistic-statistic-requires-clause-readable c = (
  first_note c.args.pass.now.seat.me.0.upper.notes,
  subst (λ (m : MyTree).
      IsReadable c.args.tree.now.space.table.shared.key m.0.upper c.args.cursor.base
      (first_note c.args.pass.now.seat.me.0.upper.notes))
      (sym c.count-many.ensures.frame.still) c.requires.may.looking.readable,
)

pub settle-requires-clause-placed : goal.settle-requires-clause-placed
settle-requires-clause-placed c won = is_new _ c.args.tree.now.space.table.shared.key
    (Del c.args.removal.now.key.now) c.word_of.result c.remove_at-tried.new.placed
    c.remove_at-tried.result c.next_statistic-statistic.new.pass.seat.me.0.upper
    c.remove_at-tried.new.pass.seat.me.0.upper
    (subst (λ (m : MyTree).
    HasKey (first_note m.0.upper.notes).place.span c.args.removal.now.key.now)
    (sym (c.next_statistic-statistic.ensures.frame.still ∙ c.count-many.ensures.frame.still))
    c.requires.may.looking.about) c.remove_at-tried.ensures.renewed
    c.remove_at-tried.ensures.placed won

-- The exchange and what followed it.
abbrev settling : (c : goal.After-settle)
    → IsSettling c.args.tree.now.space.table.shared.key c.args.tree.now.tuning
    c.remove_at-tried.result c.settle.result
    c.args.course.now.adapting c.settle.new.course.adapting c.args.pass.now.seat.me
    c.next_statistic-statistic.new.pass.seat.me
    c.remove_at-tried.new.pass.seat.me c.settle.new.pass.seat.me
settling c = record {
  event = Remove c.args.removal.now.key.now
      (Some (object_at (Ok c.args.removal.now.at)
      (first_note c.next_statistic-statistic.new.pass.seat.me.0.upper.notes).objects));
  edit = Del c.args.removal.now.key.now;
  statistic = to_z w32 (of_z w32 c.next_statistic-statistic.result);
  word = c.word_of.result;
  met = met_of c.remove_at-tried.new.pass.seat.me;
  same = c.next_statistic-statistic.ensures.frame.still ∙ c.count-many.ensures.frame.still;
  is = c.settle.ensures.come;
  entered = c.remove_at-tried.ensures.removed;
  renewed = c.remove_at-tried.ensures.renewed;
  settled = c.settle.ensures.settled;
}

pub next_statistic-statistic-requires-clause-reading : goal.next_statistic-statistic-requires-clause-reading
next_statistic-statistic-requires-clause-reading c = record {
  own = (
    c.count-many.ensures.frame.same.0 ∙ c.requires.may.ready.own.0,
    ap (λ (m : MyTree). m.0.sizes) c.count-many.ensures.frame.still
        ∙ c.requires.may.ready.own.1,
  );
  pinned = ap (λ (m : MyTree). m.0.pin.pinned) c.count-many.ensures.frame.still
      ∙ c.requires.may.ready.pinned;
}

pub remove_at-tried-requires-clause-ready : goal.remove_at-tried-requires-clause-ready
remove_at-tried-requires-clause-ready c = ready_read (reads_both c.count-many.ensures.frame
    c.next_statistic-statistic.ensures.frame) c.requires.may.ready

pub remove_at-tried-requires-clause-place : goal.remove_at-tried-requires-clause-place
remove_at-tried-requires-clause-place c = subst
    (λ (m : MyTree).
    IsPlace (map pair (first_note m.0.upper.notes).objects) c.args.removal.now.key.now
    (Ok c.args.removal.now.at))
    (sym (c.next_statistic-statistic.ensures.frame.still ∙ c.count-many.ensures.frame.still))
    c.requires.place

pub remove_at-tried-requires-clause-about : goal.remove_at-tried-requires-clause-about
remove_at-tried-requires-clause-about c = subst
    (λ (m : MyTree). HasKey (first_note m.0.upper.notes).place.span c.args.removal.now.key.now)
    (sym (c.next_statistic-statistic.ensures.frame.still ∙ c.count-many.ensures.frame.still))
    c.requires.may.looking.about

pub remove_at-tried-requires-clause-target : goal.remove_at-tried-requires-clause-target
remove_at-tried-requires-clause-target c = let z = c.args.tree.now.space.table.shared.key in
    let u = c.args.pass.now.seat.me.0.upper in
    let same = sym (c.next_statistic-statistic.ensures.frame.still
    ∙ c.count-many.ensures.frame.still) in record {
      leaf = let most = (tuned_on c.args.tree.now).allowed.most_leaf in
          let leaf = (tuned_on c.args.tree.now).leaf in omega arith;
      shown = subst
          (λ (m : MyTree). IsShownLast z m.0.upper c.args.cursor.base) same
          (shown_last z u _ c.args.cursor c.requires.may.looking c.requires.may.settled);
      at = subst
          (λ (m : MyTree). IsAtCursor z (first_note m.0.upper.notes) c.args.cursor) same
          c.requires.may.looking.at;
      many_are = subst (λ (m : MyTree). c.count-many.result
          ≡ length (first_note m.0.upper.notes).objects) same
          (c.count-many.ensures.count (first_note u.notes) c.requires.may.looking.readable);
    }

pub returns-clause-edited : goal.returns-clause-edited
returns-clause-edited c = record {
  frame = stays_read (reads_both c.count-many.ensures.frame
      c.next_statistic-statistic.ensures.frame)
      (stays_both c.remove_at-tried.ensures.frame c.settle.ensures.frame);
  tried = settled_tried c.args.tree.now.space.table.shared.key
      (λ (u : TreeView).
      Remove c.args.removal.now.key.now
      (Some (object_at (Ok c.args.removal.now.at) (first_note u.notes).objects)))
      c.remove_at-tried.result c.settle.result c.args.pass.now.seat.me.0.upper
      c.next_statistic-statistic.new.pass.seat.me.0.upper
      c.remove_at-tried.new.pass.seat.me.0.upper c.settle.new.pass.seat.me.0.upper
      (ap (λ (m : MyTree). m.0.upper) (c.next_statistic-statistic.ensures.frame.still
      ∙ c.count-many.ensures.frame.still)) c.settle.ensures.come
      c.requires.may.looking.known c.remove_at-tried.ensures.removed c.settle.ensures.further;
  stays = subst
      (λ (again : Option Cursor). StaysAt c.args.tree.now.space.table.shared.key
      c.args.removal.now.key.now c.settle.result c.args.pass.now.seat.me.0.upper
      c.settle.new.pass.seat.me.0.upper again false) (sym c.settle.ensures.again)
      (settled_stays c.remove_at-tried.result c.args.removal.now.key.now c.args.cursor (settling c)
      c.requires.may.looking);
  crowds = settled_crowds c.args.tree.now.space (base_form ∷ [])
      (gone (Ok c.args.removal.now.at) (last_items c.next_statistic-statistic.new.pass.seat.me.0.upper)) c.args.cursor.base
      (Remove c.args.removal.now.key.now
      (Some (object_at (Ok c.args.removal.now.at) (first_note c.next_statistic-statistic.new.pass.seat.me.0.upper.notes).objects)))
      c.remove_at-tried.result c.settle.result
      c.args.pass.now c.next_statistic-statistic.new.pass c.remove_at-tried.new.pass c.settle.new.pass c.settle.ensures.come
      (reads_both c.count-many.ensures.frame c.next_statistic-statistic.ensures.frame)
      c.requires.may.ready.own.1 c.remove_at-tried.ensures.frame
      c.remove_at-tried.ensures.removed c.remove_at-tried.ensures.back c.remove_at-tried.ensures.crowded c.settle.ensures.still;
  turn = record {
    met_as = settled_met (IsCauseMet c.settle.new.course.adapting.last.adapted
        (met_of c.settle.new.pass.seat.me) c.settle.new.pass.seat.me.0.upper)
        c.remove_at-tried.result c.settle.result c.settle.ensures.come c.settle.ensures.met;
    gone_on = let note = first_note c.args.pass.now.seat.me.0.upper.notes in
        let k : ℤ = c.next_statistic-statistic.result in
        settled_on (settling c)
        (subst (λ (x : ℤ).
        IsMoved c.args.tree.now.tuning (get_or note.its 1 0) c.args.course.now.adapting.lost x)
        (sym (to_z-of_z w32 k (let small = c.next_statistic-statistic.type_inv in
        omega (arith, ints)))) (c.next_statistic-statistic.ensures.moved note
        (subst (λ (m : MyTree).
        IsReadable c.args.tree.now.space.table.shared.key m.0.upper c.args.cursor.base note)
        (sym c.count-many.ensures.frame.still)
        c.requires.may.looking.readable)))
        c.word_of.ensures;
    counted = settled_paid c.args.course.now.spent c.remove_at-tried.new.spent
        c.settle.new.course.spent c.args.pass.now.seat.me
        c.next_statistic-statistic.new.pass.seat.me c.remove_at-tried.new.pass.seat.me
        c.settle.new.pass.seat.me
        (c.next_statistic-statistic.ensures.frame.still ∙ c.count-many.ensures.frame.still)
        (tried_turns _ c.args.tree.now.space.table.shared.key _ _ c.word_of.result
        c.remove_at-tried.result
        c.next_statistic-statistic.new.pass.seat.me.0.upper c.remove_at-tried.new.pass.seat.me.0.upper
        c.remove_at-tried.ensures.removed c.remove_at-tried.ensures.renewed)
        c.remove_at-tried.ensures.counted c.remove_at-tried.result c.settle.result c.settle.ensures.come c.settle.ensures.counted;
    found = settled_found c.args.tree.now.space.table.shared.key c.args.tree.now.tuning
        (to_z w32 (of_z w32 c.next_statistic-statistic.result))
        c.remove_at-tried.result
        c.settle.result c.args.course.now.adapting c.settle.new.course.adapting
        c.args.pass.now.seat.me c.next_statistic-statistic.new.pass.seat.me
        c.remove_at-tried.new.pass.seat.me c.settle.new.pass.seat.me
        (c.next_statistic-statistic.ensures.frame.still ∙ c.count-many.ensures.frame.still)
        c.settle.ensures.come c.remove_at-tried.ensures.found c.settle.ensures.settled;
    loads = settled_loads c.remove_at-tried.result (settling c);
    grown = settled_grown (settling c) None c.requires.may.looking.listed c.settle.ensures.grows;
    won = settled_won (settling c) c.requires.may.looking.listed c.remove_at-tried.ensures.won
        c.settle.ensures.won c.requires.may.unmet;
    cut = settled_cut (settling c) None c.settle.ensures.cut;
  };
}

pub settle-requires-clause-may : goal.settle-requires-clause-may
settle-requires-clause-may c = record {
  ready = ready_after
      (ready_read (reads_both c.count-many.ensures.frame
      c.next_statistic-statistic.ensures.frame) c.requires.may.ready)
      c.remove_at-tried.ensures.frame (subst (λ (n : ℕ). 0 < n)
      (sym (tried_number c.args.tree.now.space.table.shared.key
      (Remove c.args.removal.now.key.now
      (Some (object_at (Ok c.args.removal.now.at) (first_note c.next_statistic-statistic.new.pass.seat.me.0.upper.notes).objects)))
      c.remove_at-tried.result
      c.next_statistic-statistic.new.pass.seat.me.0.upper c.remove_at-tried.new.pass.seat.me.0.upper
      c.remove_at-tried.ensures.removed
      ∙ ap (λ (m : MyTree). m.0.upper.number) (c.next_statistic-statistic.ensures.frame.still
      ∙ c.count-many.ensures.frame.still)))
      c.requires.may.ready.number);
  known = known_then c.args.tree.now.space.table.shared.key
      (λ (u : TreeView).
      Remove c.args.removal.now.key.now
      (Some (object_at (Ok c.args.removal.now.at) (first_note u.notes).objects)))
      c.remove_at-tried.result c.args.pass.now.seat.me.0.upper
      c.next_statistic-statistic.new.pass.seat.me.0.upper
      c.remove_at-tried.new.pass.seat.me.0.upper
      (ap (λ (m : MyTree). m.0.upper) (c.next_statistic-statistic.ensures.frame.still
      ∙ c.count-many.ensures.frame.still)) c.requires.may.looking.known
      c.remove_at-tried.ensures.removed;
  quiet = c.remove_at-tried.ensures.frame.own_range
      ∙ (ap (λ (m : MyTree). m.0.upper.ranges.own) (c.next_statistic-statistic.ensures.frame.still
      ∙ c.count-many.ensures.frame.still) ∙ c.requires.may.quiet);
}
