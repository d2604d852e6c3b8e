use Rattle.ca_replace.proofs.Again.{since_tried, stays_behind}
use Rattle.std.specs.Prelude.{slice_range}
use Rattle.ca_model.specs.Event.{Event, Write}
use Rattle.std.proofs.Common.{◌≡◌, true}
use Rattle.ca_replace.proofs.Showing.{tried_on}
use Rattle.std.proofs.Common.{Some}
use Rattle.ca_base.specs.Targets.{key_in}
use Rattle.ca_replace.proofs.Behind.{crowds_tried, few_behind, frame_behind, ready_behind, turn_tried, idle_behind}
use Rattle.ca_replace.proofs.puts.PutCallAttempt.attempt.Goals as goal

pub returns-clause-tried : goal.returns-clause-tried
returns-clause-tried c = let o = c.args.self.now.keyed in
    let tells = λ (_ : Unit {0}) (e : Event). e
    ≡ Write (slice_range o.object.now o.key_at o.key_end) o.object.now in
    since_tried tells c.args.tree.now.space.table.shared.key c.put_there.result
    c.args.pass.now.seat.me.0.upper c.put_there.new.pass.seat.me.0.upper c.requires.begins.asking
    (tried_on tells c.args.tree.now.space.table.shared.key c.put_there.result
    c.args.pass.now.seat.me.0.upper c.find-place.new.pass.seat.me.0.upper
    c.put_there.new.pass.seat.me.0.upper c.find-place.ensures.found.looked.further
    c.put_there.ensures.edited.tried)

pub returns-clause-frame : goal.returns-clause-frame
returns-clause-frame c =
    frame_behind c.find-place.ensures.found.looked c.requires.begins.ready c.requires.begins.known
    c.put_there.new.pass
    c.put_there.ensures.edited.frame

pub returns-clause-deep : goal.returns-clause-deep
returns-clause-deep c = c.put_there.ensures.no_room.full

pub returns-clause-few_rows : goal.returns-clause-few_rows
returns-clause-few_rows c = few_behind c.find-place.ensures.found.looked c.requires.begins.ready
    c.requires.begins.known
    c.put_there.result

pub returns-clause-crowds : goal.returns-clause-crowds
returns-clause-crowds c = crowds_tried c.find-place.ensures.found.looked c.requires.begins.ready
    c.requires.begins.known
    c.put_there.result c.put_there.new.pass c.put_there.ensures.edited.crowds

pub returns-clause-turn : goal.returns-clause-turn
returns-clause-turn c =
    turn_tried c.find-place.ensures.found.looked c.requires.begins.ready c.requires.begins.known
    c.put_there.new.pass
    (λ (_ : Unit {0}). true)
    (Some (slice_range c.args.self.now.keyed.object.now c.args.self.now.keyed.key_at
    c.args.self.now.keyed.key_end))
    (Some (slice_range c.args.self.now.keyed.object.now c.args.self.now.keyed.key_at
    c.args.self.now.keyed.key_end))
    c.args.tree.now.tuning c.args.course.now c.put_there.new.course _ c.put_there.result
    c.put_there.ensures.edited.turn _ c.find-place.ensures.found.loads

pub returns-clause-stays : goal.returns-clause-stays
returns-clause-stays c = stays_behind c.args.tree.now.space.table.shared.key
    (key_in c.args.self.now.keyed) c.put_there.result c.args.pass.now.seat.me.0.upper
    c.find-place.new.pass.seat.me.0.upper c.put_there.new.pass.seat.me.0.upper
    c.put_there.new.course.again c.put_there.new.course.marked c.put_there.new.course.marked
    c.find-place.ensures.found.looked.since (λ e. e) (λ _. c.find-place.ensures.found.unfinished)
    c.put_there.ensures.edited.stays

pub put_there-requires-clause-may : goal.put_there-requires-clause-may
put_there-requires-clause-may c = record {
  ready = ready_behind c.find-place.ensures.found.looked c.requires.begins.ready
      c.requires.begins.known;
  looking = c.find-place.ensures.found.looked.looking;
  unanswered = c.find-place.ensures.found.looked.unanswered;
  idle = idle_behind c.find-place.ensures.found.looked c.requires.begins.ready
      c.requires.begins.known c.find-place.ensures.found.unfinished
      c.requires.begins.idle;
}
