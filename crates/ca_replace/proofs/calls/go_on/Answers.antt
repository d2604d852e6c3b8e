use Rattle.std.proofs.Common.{refl, ◌∙◌}
use Rattle.ca_replace.proofs.Between.{anew, goes_anew, goes_still, may_anew}
use Rattle.ca_replace.proofs.calls.go_on.Goals as goal

pub returns-then-anew-clause-may : goal.returns-then-anew-clause-may
returns-then-anew-clause-may g c = let out = c.unpin.ensures.frame in
    let in_ = c.pin.ensures.frame in
    may_anew c.args.tree.now.space c.args.pass.now c.pin.new.pass (g.A.Attempt.about c.args.order.now.what.now) c.pin.ensures.pinned.0
    c.pin.ensures.pinned.1 c.requires.may
    (in_.same.0 ∙ out.same.0, in_.same.1 ∙ out.same.1) (in_.number ∙ out.number)
    (in_.kept ∙ out.kept) (in_.tally ∙ out.tally)
    (anew c.args.pass.now.seat.me c.unpin.new.pass.seat.me c.pin.new.pass.seat.me
    c.pin.ensures.pinned.0 c.pin.ensures.pinned.1 c.unpin.ensures.unpinned
    c.pin.ensures.pinned.3)

pub returns-then-anew-clause-still : goal.returns-then-anew-clause-still
returns-then-anew-clause-still g c = let out = c.unpin.ensures.frame in
    let in_ = c.pin.ensures.frame in
    goes_anew c.args.tree.now.space c.args.pass.now c.pin.new.pass (g.A.Attempt.about c.args.order.now.what.now) c.pin.ensures.pinned.0
    c.pin.ensures.pinned.1 c.requires.may
    (in_.same.0 ∙ out.same.0, in_.same.1 ∙ out.same.1) (in_.number ∙ out.number) (in_.kept ∙ out.kept)
    (anew c.args.pass.now.seat.me c.unpin.new.pass.seat.me c.pin.new.pass.seat.me
    c.pin.ensures.pinned.0 c.pin.ensures.pinned.1 c.unpin.ensures.unpinned
    c.pin.ensures.pinned.3)

pub returns-else-anew-clause-still : goal.returns-else-anew-clause-still
returns-else-anew-clause-still g c = goes_still c.args.pass.now (refl, refl)
