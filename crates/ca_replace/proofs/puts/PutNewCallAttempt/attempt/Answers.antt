use Rattle.ca_replace.proofs.Again.{further_since, since_before}
use Rattle.ca_replace.specs.Attempting.{at_pin}
use Rattle.std.proofs.Common.{◌≡◌, ◌∙◌, Bool, true, false, refl, sym, ap}
use Rattle.std.specs.Prelude.{slice_range, Result}
use Rattle.ca_replace.specs.declared.attempting.Halt.{Halt}
use Rattle.ca_replace.specs.declared.attempting.Halt.TheVariants as halt
use Rattle.ca_model.specs.Event.{Event, WriteNew}
use Rattle.ca_replace.proofs.Showing.{did, not_new, read_done}
use Rattle.ca_replace.proofs.Meeting.{further_on}
use Rattle.std.proofs.Common.{Ok, Err, Some}
use Rattle.ca_replace.proofs.Behind.{crowds_behind, few_behind, frame_behind, frame_entered, ready_behind, turn_edited, turn_entered, turn_halted, idle_behind}
use Rattle.ca_replace.proofs.puts.PutNewCallAttempt.attempt.Goals as goal

pub enter-requires-clause-answer : goal.enter-requires-clause-answer
enter-requires-clause-answer c = let o = c.args.self.now.keyed in
    not_new c.args.tree.now.space.table.shared.key c.find-place.new.pass.seat.me.0.upper
    c.find-place.result.0
    (slice_range o.object.now o.key_at o.key_end) o.object.now
    c.find-place.result.1 (sym c.is_ok.ensures.value
    ∙ c.if-is_ok.true) c.find-place.ensures.found.looked.looking
    c.find-place.ensures.found.looked.unanswered c.find-place.ensures.found.looked.place

pub returns-then-is_ok-clause-tried : goal.returns-then-is_ok-clause-tried
returns-then-is_ok-clause-tried c = let o = c.args.self.now.keyed in
    let k = slice_range o.object.now o.key_at o.key_end in
    let z = c.args.tree.now.space.table.shared.key in
    let event = WriteNew k o.object.now false in
    read_done (λ (new : Bool)
    (e : Event). e ≡ WriteNew k o.object.now new) z (at_pin c.args.pass.now.seat.me.0.upper)
    c.find-place.new.pass.seat.me c.enter.new.pass.seat.me false event refl
    (further_since c.args.pass.now.seat.me.0.upper
    c.find-place.new.pass.seat.me.0.upper c.requires.begins.asking
    c.find-place.ensures.found.looked.further)
    c.find-place.ensures.found.looked.looking.known
    (since_before c.args.pass.now.seat.me.0.upper c.find-place.new.pass.seat.me.0.upper
    c.find-place.ensures.found.looked.since) c.enter.ensures.entered

pub returns-in-Ok-clause-tried : goal.returns-in-Ok-clause-tried
returns-in-Ok-clause-tried c = let o = c.args.self.now.keyed in
    let k = slice_range o.object.now o.key_at o.key_end in
    let z = c.args.tree.now.space.table.shared.key in
    did (λ (new : Bool) (e : Event). e
    ≡ WriteNew k o.object.now new) z (WriteNew k o.object.now true) true
    (at_pin c.args.pass.now.seat.me.0.upper)
    c.find-place.new.pass.seat.me.0.upper c.put_there.new.pass.seat.me.0.upper refl
    (further_since c.args.pass.now.seat.me.0.upper
    c.find-place.new.pass.seat.me.0.upper c.requires.begins.asking
    c.find-place.ensures.found.looked.further)
    c.in-Ok.ensures.edited.tried

-- what an attempt came to
abbrev why_of : Result Bool Halt → Halt
why_of (Ok x) = halt.Deep
why_of (Err why) = why

abbrev stopped_so : Halt → Result (Unit {0}) Halt
stopped_so why = Err why

pub returns-in-Err-clause-deep : goal.returns-in-Err-clause-deep
returns-in-Err-clause-deep c deep = c.in-Err.ensures.no_room.full (ap stopped_so (ap why_of deep))

pub returns-then-is_ok-clause-frame : goal.returns-then-is_ok-clause-frame
returns-then-is_ok-clause-frame c =
    frame_entered c.find-place.ensures.found.looked c.requires.begins.ready c.requires.begins.known
    c.enter.new.pass _
    c.enter.ensures.frame c.enter.ensures.entered

pub returns-in-Ok-clause-frame : goal.returns-in-Ok-clause-frame
returns-in-Ok-clause-frame c =
    frame_behind c.find-place.ensures.found.looked c.requires.begins.ready c.requires.begins.known
    c.put_there.new.pass
    c.put_there.ensures.edited.frame

pub returns-in-Err-clause-frame : goal.returns-in-Err-clause-frame
returns-in-Err-clause-frame c =
    frame_behind c.find-place.ensures.found.looked c.requires.begins.ready c.requires.begins.known
    c.put_there.new.pass
    c.put_there.ensures.edited.frame

pub returns-in-Err-clause-tried : goal.returns-in-Err-clause-tried
returns-in-Err-clause-tried c = (
  further_on c.args.pass.now.seat.me.0.upper c.find-place.new.pass.seat.me.0.upper
      c.put_there.new.pass.seat.me.0.upper c.find-place.ensures.found.looked.further
      c.in-Err.ensures.edited.tried.0,
  c.in-Err.ensures.edited.tried.1,
)

pub returns-then-is_ok-clause-turn : goal.returns-then-is_ok-clause-turn
returns-then-is_ok-clause-turn c =
    turn_entered c.find-place.ensures.found.looked c.requires.begins.ready c.requires.begins.known
    c.enter.new.pass _
    c.enter.ensures.frame c.enter.ensures.entered
    (λ (new : Bool). new) (Some (slice_range c.args.self.now.keyed.object.now
    c.args.self.now.keyed.key_at c.args.self.now.keyed.key_end)) c.args.tree.now.tuning
    c.args.course.now _ false refl _ c.find-place.ensures.found.loads

pub returns-in-Ok-clause-turn : goal.returns-in-Ok-clause-turn
returns-in-Ok-clause-turn c =
    turn_edited c.find-place.ensures.found.looked c.requires.begins.ready c.requires.begins.known
    c.put_there.new.pass
    (λ (new : Bool). new) (Some (slice_range c.args.self.now.keyed.object.now
    c.args.self.now.keyed.key_at c.args.self.now.keyed.key_end))
    (Some (slice_range c.args.self.now.keyed.object.now c.args.self.now.keyed.key_at
    c.args.self.now.keyed.key_end))
    c.args.tree.now.tuning c.args.course.now c.put_there.new.course _ true refl
    c.in-Ok.ensures.edited.turn _ c.find-place.ensures.found.loads

pub returns-in-Err-clause-few_rows : goal.returns-in-Err-clause-few_rows
returns-in-Err-clause-few_rows c = few_behind c.find-place.ensures.found.looked
    c.requires.begins.ready
    c.requires.begins.known {T = Unit {0}} (Err c.in-Err.stop)

pub returns-in-Err-clause-crowds : goal.returns-in-Err-clause-crowds
returns-in-Err-clause-crowds c = crowds_behind c.find-place.ensures.found.looked
    c.requires.begins.ready
    c.requires.begins.known c.in-Err.stop c.put_there.new.pass c.in-Err.ensures.edited.crowds

pub returns-in-Err-clause-turn : goal.returns-in-Err-clause-turn
returns-in-Err-clause-turn c =
    turn_halted c.find-place.ensures.found.looked c.requires.begins.ready c.requires.begins.known
    c.put_there.new.pass
    (λ (new : Bool). new) (Some (slice_range c.args.self.now.keyed.object.now
    c.args.self.now.keyed.key_at c.args.self.now.keyed.key_end))
    (Some (slice_range c.args.self.now.keyed.object.now c.args.self.now.keyed.key_at
    c.args.self.now.keyed.key_end))
    c.args.tree.now.tuning c.args.course.now c.put_there.new.course _ c.in-Err.stop (λ _. refl)
    c.in-Err.ensures.edited.turn _ c.find-place.ensures.found.loads

pub returns-in-Err-clause-stays : goal.returns-in-Err-clause-stays
returns-in-Err-clause-stays c = (
  c.in-Err.ensures.edited.stays.0 ∙ c.find-place.ensures.found.looked.since,
  c.in-Err.ensures.edited.stays.1,
  λ e. c.in-Err.ensures.edited.stays.2 e ∙ c.find-place.ensures.found.unfinished,
)

pub put_there-requires-clause-may : goal.put_there-requires-clause-may
put_there-requires-clause-may c = record {
  ready = ready_behind c.find-place.ensures.found.looked c.requires.begins.ready
      c.requires.begins.known;
  looking = c.find-place.ensures.found.looked.looking;
  unanswered = c.find-place.ensures.found.looked.unanswered;
  idle = idle_behind c.find-place.ensures.found.looked c.requires.begins.ready
      c.requires.begins.known c.find-place.ensures.found.unfinished
      c.requires.begins.idle;
}
