use Rattle.std.proofs.Common.{◌≡◌, Some, Err, true, false, ap, sym, refl, subst, ◌∙◌, arith}
use Rattle.ca_base.proofs.Fronted.{first_noted}
use Rattle.ca_base.specs.Putting.{first_note}
use Rattle.ca_base.specs.Targets.{event_of, key_in}
use Rattle.ca_model.specs.Event.{Event}
use Rattle.ca_node.specs.TreeView.{Note}
use Rattle.ca_replace.specs.Attempting.{HasTriedTo}
use Rattle.ca_replace.specs.Turning.{HasEdited}
use Rattle.ca_replace.specs.declared.adapting.Course.{Course}
use Rattle.ca_replace.specs.declared.attempting.Halt.{Halt}
use Rattle.ca_replace.proofs.Again.{stays_behind}
use Rattle.ca_replace.proofs.Behind.{crowds_tried, frame_behind, ready_behind, turn_marked, turn_tried}
use Rattle.ca_replace.proofs.Growing.{alone_on}
use Rattle.ca_replace.proofs.Helping.{edited_by_help, halt_of, help_not_deep, help_not_split, on_ok_too}
use Rattle.ca_replace.proofs.Marking.{marked_look, same_note, still_unmet}
use Rattle.ca_replace.proofs.Showing.{tried_on}
use Rattle.ca_replace.proofs.Tuning.{tuned_on}
use Rattle.ca_node.specs.Told.{MyTree}
use Rattle.ca_replace.proofs.attempting.put_there.Goals as goal

pub clear-requires-clause-number : goal.clear-requires-clause-number
clear-requires-clause-number c = c.requires.may.idle.number

pub clear-requires-clause-quiet : goal.clear-requires-clause-quiet
clear-requires-clause-quiet c = c.requires.may.idle.quiet

pub clear-requires-clause-none_met : goal.clear-requires-clause-none_met
clear-requires-clause-none_met c = c.requires.may.idle.none_met refl

pub clear-requires-clause-tuned : goal.clear-requires-clause-tuned
clear-requires-clause-tuned c = tuned_on c.args.tree.now

pub clear-requires-clause-at : goal.clear-requires-clause-at
clear-requires-clause-at c = let l = c.requires.may.looking in record {
  shown = record { noted = first_noted _ _ _ l.readable; here = l.readable.here; is_base = l.readable.is_base };
  at = l.at;
  above = l.begins.placed.above;
  high = l.begins.placed.high;
}

pub put_settled-done-requires-clause-may : goal.put_settled-done-requires-clause-may
put_settled-done-requires-clause-may c = let look = marked_look c.in-Free.ensures.cleared.0
    c.in-Free.ensures.cleared.2 c.args.tree.now.space
    (key_in c.args.insertion.now.keyed) c.args.cursor c.args.insertion.now.place
    c.requires.may.looking c.requires.place c.requires.may.unanswered in record {
      ready = ready_behind look c.requires.may.ready c.requires.may.looking.known;
      looking = look.looking;
      settled = c.in-Free.ensures.cleared.1;
      quiet = look.own_range ∙ c.requires.may.idle.quiet;
      unmet = λ alone. c.in-Free.ensures.alone
          (alone_on c.args.tree.now.space.table.shared.key c.clear.new.pass.seat.me.0.upper
          c.args.pass.now.seat.me.0.upper
          (sym look.further.number) alone) c.requires.may.looking.known;
    }

pub put_settled-done-requires-clause-place : goal.put_settled-done-requires-clause-place
put_settled-done-requires-clause-place c =
    (marked_look c.in-Free.ensures.cleared.0 c.in-Free.ensures.cleared.2 c.args.tree.now.space (key_in c.args.insertion.now.keyed) c.args.cursor
    c.args.insertion.now.place c.requires.may.looking c.requires.place
    c.requires.may.unanswered).place

pub returns-in-Free-clause-edited : goal.returns-in-Free-clause-edited
returns-in-Free-clause-edited c = let l = c.in-Free.ensures.cleared in let marked = c.in-Free.marked in
    let look = (marked_look c.in-Free.ensures.cleared.0 c.in-Free.ensures.cleared.2 c.args.tree.now.space (key_in c.args.insertion.now.keyed) c.args.cursor
    c.args.insertion.now.place c.requires.may.looking c.requires.place c.requires.may.unanswered) in
    let ready = c.requires.may.ready in let known = c.requires.may.looking.known in
    let z = c.args.tree.now.space.table.shared.key in let u = c.args.pass.now.seat.me.0.upper in
    let w = c.clear.new.pass.seat.me.0.upper in let new = c.put_settled-done.new.pass in let r = c.put_settled-done.result in
    let b : Course = record c.put_settled-done.new.course { marked = marked } in let did = c.put_settled-done.ensures.edited in
    let tells = λ (note : Note) (_ : Unit {0}) (e : Event). e ≡ event_of c.args.insertion.now note.objects in record {
      frame = frame_behind look ready known new did.frame;
      tried = tried_on (tells (first_note u.notes)) z r u w new.seat.me.0.upper look.further
          (subst (λ (n : Note). HasTriedTo (tells n) z r w new.seat.me.0.upper) (same_note l.0 l.2) did.tried);
      stays = stays_behind z (key_in c.args.insertion.now.keyed) r u w new.seat.me.0.upper c.put_settled-done.new.course.again false marked look.since
          (λ _. refl) (λ e. still_unmet l.0 l.2 (c.requires.may.idle.none_met refl) e) did.stays;
      crowds = crowds_tried look ready known r new did.crowds;
      turn = turn_tried look ready known new (λ (_ : Unit {0}). true) (Some (key_in c.args.insertion.now.keyed)) (Some (key_in c.args.insertion.now.keyed)) c.args.tree.now.tuning
          c.args.course.now b _ r (turn_marked (λ (_ : Unit {0}). true) (Some (key_in c.args.insertion.now.keyed)) z c.args.tree.now.tuning c.args.course.now
          c.put_settled-done.new.course _ r c.clear.new.pass.seat.me new.seat.me marked did.turn)
          0 (let same = ap (λ (x : MyTree). x.0.upper.loads) l.2.3 in omega arith);
    }

pub returns-in-Helped-clause-edited : goal.returns-in-Helped-clause-edited
returns-in-Helped-clause-edited c = let z = c.args.tree.now.space.table.shared.key in
    let tells = λ (note : Note) (_ : Unit {0}) (e : Event). e ≡ event_of c.args.insertion.now note.objects in
    subst (λ (x : Halt × Course). HasEdited c.args.tree.now.space c.args.tree.now.tuning (tells (first_note c.args.pass.now.seat.me.0.upper.notes) tt)
    (key_in c.args.insertion.now.keyed) (Some (key_in c.args.insertion.now.keyed)) x.1.marked c.args.course.now x.1 (Err x.0) c.args.pass.now c.clear.new.pass)
    (λ i. (sym c.after_help.ensures.halt i, sym c.after_help.ensures.course i))
    (edited_by_help c.args.tree.now.space c.args.tree.now.tuning (tells (first_note c.args.pass.now.seat.me.0.upper.notes) tt) (key_in c.args.insertion.now.keyed) (Some (key_in c.args.insertion.now.keyed))
    c.args.course.now c.in-Helped.helped c.in-Helped.spent c.args.pass.now c.clear.new.pass
    c.in-Helped.ensures.cleared c.requires.may.looking.known)

pub returns-in-Helped-clause-no_room : goal.returns-in-Helped-clause-no_room
returns-in-Helped-clause-no_room c = record {
  deep = on_ok_too c.args.insertion.now.place
      (λ e. help_not_deep c.in-Helped.helped (sym c.after_help.ensures.halt ∙ ap halt_of e));
  no_split = on_ok_too c.args.insertion.now.place
      (λ e. help_not_split c.in-Helped.helped (sym c.after_help.ensures.halt ∙ ap halt_of e));
  full = λ e. absurd (help_not_deep c.in-Helped.helped (sym c.after_help.ensures.halt ∙ ap halt_of
      e));
}
