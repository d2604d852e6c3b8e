use Rattle.ca_adapt.proofs.MayBegin.{may_begin}
use Rattle.ca_adapt.proofs.joining.try_begin.Goals as goal

pub begin_join-requires-clause-beginning : goal.begin_join-requires-clause-beginning
begin_join-requires-clause-beginning c = may_begin c.args.route c.in-Idle.last
    c.args.pass.now.seat.me c.load_join.new.pass.seat.me c.in-Idle.ensures.loaded
    c.requires.ready.pinned c.requires.ready.number c.requires.quiet c.requires.remembered
