use Rattle.ca_replace.proofs.Again.{further_since, since_before}
use Rattle.ca_replace.specs.Attempting.{at_pin}
use Rattle.std.proofs.Common.{Err, ◌∙◌}
use Rattle.std.proofs.Common.{ℕ, Bool, List, map, Ok, Some, None, false, true, refl, subst}
use Rattle.std.specs.Prelude.{Result}
use Rattle.ca_model.specs.Event.{Event, Remove}
use Rattle.ca_model.specs.Places.{IsPlace}
use Rattle.ca_node.specs.Row.{pair}
use Rattle.ca_base.specs.Putting.{first_note, object_at}
use Rattle.ca_replace.specs.Attempting.{HasFetched}
use Rattle.ca_replace.specs.Tells.{Removes}
use Rattle.ca_replace.proofs.Showing.{did, read_done}
use Rattle.ca_replace.proofs.Meeting.{further_on}
use Rattle.ca_replace.proofs.Entries.{read_by}
use Rattle.ca_replace.proofs.Behind.{crowds_behind, few_behind, frame_behind, frame_entered, ready_behind, turn_edited, turn_entered, turn_halted, idle_behind}
use Rattle.ca_replace.proofs.removing.RemoveCallAttempt.attempt.Goals as goal

pub enter-requires-clause-answer : goal.enter-requires-clause-answer
enter-requires-clause-answer c = let key : List ℕ = c.args.self.now.key.now in
    let w = c.fetch-place.new.pass.seat.me.0.upper in
    let none = subst
    (λ (p : Result ℕ ℕ).
    HasFetched c.args.tree.now.space.table.shared.key w key p c.fetch-place.new.old.items)
    c.in_default.is c.fetch-place.ensures.fetched in
    read_by w (Remove key None) c.fetch-place.ensures.found.looked.unanswered refl none.0

pub returns-in_default-clause-tried : goal.returns-in_default-clause-tried
returns-in_default-clause-tried c = let key : List ℕ = c.args.self.now.key.now in
    let z = c.args.tree.now.space.table.shared.key in
    let w = c.fetch-place.new.pass.seat.me.0.upper in
    let old : List ℕ = c.fetch-place.new.old.items in
    let none = subst
    (λ (p : Result ℕ ℕ). HasFetched z w key p old) c.in_default.is
    c.fetch-place.ensures.fetched in
    read_done (λ (x : Bool) (e : Event). Removes key x old e) z
    (at_pin c.args.pass.now.seat.me.0.upper)
    c.fetch-place.new.pass.seat.me c.enter.new.pass.seat.me false (Remove key None) (
      refl,
      none.1,
    ) (further_since c.args.pass.now.seat.me.0.upper
    c.fetch-place.new.pass.seat.me.0.upper c.requires.begins.asking
    c.fetch-place.ensures.found.looked.further)
    c.fetch-place.ensures.found.looked.looking.known
    (since_before c.args.pass.now.seat.me.0.upper c.fetch-place.new.pass.seat.me.0.upper
    c.fetch-place.ensures.found.looked.since) c.enter.ensures.entered

pub remove_there-requires-clause-place : goal.remove_there-requires-clause-place
remove_there-requires-clause-place c =
    let m = map pair (first_note c.fetch-place.new.pass.seat.me.0.upper.notes).objects in
    subst (λ (p : Result ℕ ℕ).
    IsPlace m c.args.self.now.key.now p) c.in-Ok.is c.fetch-place.ensures.found.looked.place

pub returns-in-Ok-remove_there-clause-tried : goal.returns-in-Ok-remove_there-clause-tried
returns-in-Ok-remove_there-clause-tried c = let key : List ℕ = c.args.self.now.key.now in
    let z = c.args.tree.now.space.table.shared.key in
    let w = c.fetch-place.new.pass.seat.me.0.upper in
    let old : List ℕ = c.fetch-place.new.old.items in
    let found = subst
    (λ (p : Result ℕ ℕ). HasFetched z w key p old) c.in-Ok.is c.fetch-place.ensures.fetched in
    did (λ (x : Bool) (e : Event). Removes key x old e) z
    (Remove key (Some (object_at (Ok c.in-Ok.at) (first_note w.notes).objects))) true
    (at_pin c.args.pass.now.seat.me.0.upper) w c.remove_there.new.pass.seat.me.0.upper
    (λ i. Remove key (Some (found.2 i))) (further_since c.args.pass.now.seat.me.0.upper
    c.fetch-place.new.pass.seat.me.0.upper c.requires.begins.asking
    c.fetch-place.ensures.found.looked.further)
    c.in-Ok-remove_there.ensures.edited.tried

pub returns-in_default-clause-frame : goal.returns-in_default-clause-frame
returns-in_default-clause-frame c =
    frame_entered c.fetch-place.ensures.found.looked c.requires.begins.ready c.requires.begins.known
    c.enter.new.pass _
    c.enter.ensures.frame c.enter.ensures.entered

pub returns-in-Ok-remove_there-clause-frame : goal.returns-in-Ok-remove_there-clause-frame
returns-in-Ok-remove_there-clause-frame c =
    frame_behind c.fetch-place.ensures.found.looked c.requires.begins.ready c.requires.begins.known
    c.remove_there.new.pass c.remove_there.ensures.edited.frame

pub returns-in-Err-clause-frame : goal.returns-in-Err-clause-frame
returns-in-Err-clause-frame c =
    frame_behind c.fetch-place.ensures.found.looked c.requires.begins.ready c.requires.begins.known
    c.remove_there.new.pass c.remove_there.ensures.edited.frame

pub returns-in-Err-clause-tried : goal.returns-in-Err-clause-tried
returns-in-Err-clause-tried c = (
  further_on c.args.pass.now.seat.me.0.upper c.fetch-place.new.pass.seat.me.0.upper
      c.remove_there.new.pass.seat.me.0.upper c.fetch-place.ensures.found.looked.further
      c.in-Err.ensures.edited.tried.0,
  c.in-Err.ensures.edited.tried.1,
)

pub returns-in_default-clause-turn : goal.returns-in_default-clause-turn
returns-in_default-clause-turn c =
    turn_entered c.fetch-place.ensures.found.looked c.requires.begins.ready c.requires.begins.known
    c.enter.new.pass _
    c.enter.ensures.frame c.enter.ensures.entered
    (λ (was : Bool). was) None c.args.tree.now.tuning c.args.course.now _ false refl _
    c.fetch-place.ensures.found.loads

pub returns-in-Ok-remove_there-clause-turn : goal.returns-in-Ok-remove_there-clause-turn
returns-in-Ok-remove_there-clause-turn c =
    turn_edited c.fetch-place.ensures.found.looked c.requires.begins.ready c.requires.begins.known
    c.remove_there.new.pass (λ (was : Bool). was) None None
    c.args.tree.now.tuning c.args.course.now c.remove_there.new.course _ true refl
    c.in-Ok-remove_there.ensures.edited.turn _ c.fetch-place.ensures.found.loads

pub returns-in-Err-clause-few_rows : goal.returns-in-Err-clause-few_rows
returns-in-Err-clause-few_rows c = few_behind c.fetch-place.ensures.found.looked
    c.requires.begins.ready
    c.requires.begins.known {T = Unit {0}} (Err c.in-Err.stop)

pub returns-in-Err-clause-crowds : goal.returns-in-Err-clause-crowds
returns-in-Err-clause-crowds c = crowds_behind c.fetch-place.ensures.found.looked
    c.requires.begins.ready
    c.requires.begins.known c.in-Err.stop c.remove_there.new.pass c.in-Err.ensures.edited.crowds

pub returns-in-Err-clause-turn : goal.returns-in-Err-clause-turn
returns-in-Err-clause-turn c =
    turn_halted c.fetch-place.ensures.found.looked c.requires.begins.ready c.requires.begins.known
    c.remove_there.new.pass (λ (was : Bool). was) None None
    c.args.tree.now.tuning c.args.course.now c.remove_there.new.course _ c.in-Err.stop (λ _. refl)
    c.in-Err.ensures.edited.turn _ c.fetch-place.ensures.found.loads

pub returns-in-Err-clause-stays : goal.returns-in-Err-clause-stays
returns-in-Err-clause-stays c = (
  c.in-Err.ensures.edited.stays.0 ∙ c.fetch-place.ensures.found.looked.since,
  c.in-Err.ensures.edited.stays.1,
  λ e. c.in-Err.ensures.edited.stays.2 e ∙ c.fetch-place.ensures.found.unfinished,
)

pub remove_there-requires-clause-may : goal.remove_there-requires-clause-may
remove_there-requires-clause-may c = record {
  ready = ready_behind c.fetch-place.ensures.found.looked c.requires.begins.ready
      c.requires.begins.known;
  looking = c.fetch-place.ensures.found.looked.looking;
  unanswered = c.fetch-place.ensures.found.looked.unanswered;
  idle = idle_behind c.fetch-place.ensures.found.looked c.requires.begins.ready
      c.requires.begins.known c.fetch-place.ensures.found.unfinished
      c.requires.begins.idle;
}
