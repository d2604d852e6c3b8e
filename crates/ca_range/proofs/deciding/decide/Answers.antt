use Rattle.ca_base.specs.Putting.{first_note}
use Rattle.ca_node.specs.Row.{mark_bound}
use Rattle.ca_range.specs.Reaching.{border_for}
use Rattle.ca_range.proofs.Bounding.{border_found, reaches_told}
use Rattle.ca_range.proofs.Stepping.{loads_by_help, notes_by_help, one_by_help, over_by_help, steps_by_help}
use Rattle.ca_range.proofs.deciding.decide.Goals as goal

pub finish-requires-clause-helping : goal.finish-requires-clause-helping
finish-requires-clause-helping c = let w = c.requires.whole in let u = c.args.pass.now.seat.me.0.upper in
    let row = mark_bound (first_note u.notes).its in let high = (first_note u.notes).place.span.high in
    let f = border_found row high u.ranges.borders w.border w.border_shown w.border_is w.reaches in record {
      ending = record {
        is_pinned = c.requires.ready.pinned;
        is_pass = c.requires.ready.number;
        shown = c.requires.at.at.shown.noted;
        marked = c.requires.at.marked;
      };
      other = c.requires.other.2;
      met = w.met;
      border_shown = f.0;
      border_is = f.1;
      reaches = reaches_told (border_for row high u.ranges.borders).its high f.2;
    }

pub returns-clause-steps : goal.returns-clause-steps
returns-clause-steps c = let d = c.finish.ensures.done in
    steps_by_help d.0 c.args.range.owner c.args.range.number _ c.args.pass.now.seat.me c.finish.new.pass.seat.me d.1

pub returns-clause-over : goal.returns-clause-over
returns-clause-over c = let d = c.finish.ensures.done in over_by_help d.0 c.args.range _ c.args.pass.now.seat.me c.finish.new.pass.seat.me d.1

pub returns-clause-helped : goal.returns-clause-helped
returns-clause-helped c = let d = c.finish.ensures.done in
    one_by_help d.0 c.args.range.owner c.args.range.number _ c.args.pass.now.seat.me c.finish.new.pass.seat.me d.1

pub returns-clause-notes : goal.returns-clause-notes
returns-clause-notes c = let d = c.finish.ensures.done in
    notes_by_help d.0 c.args.range.owner c.args.range.number _ c.args.pass.now.seat.me c.finish.new.pass.seat.me d.1

pub returns-clause-loads : goal.returns-clause-loads
returns-clause-loads c = let d = c.finish.ensures.done in
    loads_by_help d.0 c.args.range.owner c.args.range.number _ c.args.pass.now.seat.me c.finish.new.pass.seat.me d.1
