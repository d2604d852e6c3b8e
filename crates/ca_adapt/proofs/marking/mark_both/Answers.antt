use Rattle.std.proofs.Common.{List, ◌∷◌, Result, Err, ap, sym, ◌∙◌, subst, arith}
use Rattle.std.proofs.lemmas.Result.{err_from_is_err_and}
use Rattle.ca_base.proofs.Counts.{ended_after}
use Rattle.ca_node.specs.Told.{link_word}
use Rattle.ca_node.specs.TreeView.{Note}
use Rattle.ca_adapt.specs.Joins.{last_on}
use Rattle.ca_adapt.specs.Pairs.{AreMarkedBoth, IsMarkable, IsMarkedNote}
use Rattle.ca_adapt.specs.declared.marking.Marked.{Marked}
use Rattle.ca_base.specs.declared.stop.Stop.{Stop}
use Rattle.ca_adapt.proofs.MarkedPairs.{last_still, markable_still, marks_both, tried_both}
use Rattle.ca_adapt.proofs.Readied.{ready_marked, stays_both}
use Rattle.ca_adapt.proofs.LoneTries.{lone_both, sibling_there}
use Rattle.ca_node.specs.States.{IsAlone}
use Rattle.ca_adapt.specs.Pairs.{IsThere}
use Rattle.ca_node.specs.TreeView.{TreeView}
use Rattle.ca_adapt.proofs.marking.mark_both.Goals as goal

pub mark_counted-requires-2-clause-ready : goal.mark_counted-requires-2-clause-ready
mark_counted-requires-2-clause-ready c = ready_marked c.args.space.now 1 c.args.pass.now
    c.mark_counted.new.pass c.requires.ready c.mark_counted.ensures.frame
    c.in_ok-one.ensures.marked.0

pub mark_counted-requires-2-clause-markable : goal.mark_counted-requires-2-clause-markable
mark_counted-requires-2-clause-markable c = let z = c.args.space.now.table.shared.key in let u =
    c.args.pass.now.seat.me.0.upper in
    let v = c.mark_counted.new.pass.seat.me.0.upper in let one = c.in_ok-one.ensures.marked in
    let note = last_on (link_word c.args.pair.one.link) u.notes in let sibling =
    last_on (link_word c.args.pair.other.link) u.notes in
    subst (λ (n : Note). IsMarkable z v c.args.pair.other c.args.pair.attempt n)
    (sym (last_still z u v c.args.pair note sibling one.2.0 c.requires.pair one.2.2.place_is
    one.0 one.2.1))
    (markable_still z u v c.args.pair note sibling one.2.0 c.requires.pair one.2.2.place_is
    one.0 one.2.1)

pub returns-in_err-other-clause-frame : goal.returns-in_err-other-clause-frame
returns-in_err-other-clause-frame c = stays_both c.args.space.now c.args.pass.now
    c.mark_counted.new.pass c.mark_counted-2.new.pass c.mark_counted.ensures.frame
    c.mark_counted-2.ensures.frame

pub returns-in_err-other-clause-marked : goal.returns-in_err-other-clause-marked
returns-in_err-other-clause-marked c = let p =
    err_from_is_err_and c.from_residual-in_err-other.result
    c.from_residual-in_err-other.ensures.1 in
    let marks = marks_both 1 0 c.args.pass.now.seat.me.0.upper
    c.mark_counted.new.pass.seat.me.0.upper c.mark_counted-2.new.pass.seat.me.0.upper
    c.in_ok-one.ensures.marked.0 c.in_err-other.ensures.marked in
    let u = c.args.pass.now.seat.me.0.upper in
    subst (λ (r : Result Marked Stop). AreMarkedBoth c.args.space.now.table.shared.key c.args.pair
    (last_on (link_word c.args.pair.one.link) u.notes)
    (last_on (link_word c.args.pair.other.link) u.notes) r u
    c.mark_counted-2.new.pass.seat.me.0.upper) (sym (p.1 ∙ ap Err p.2)) (1, omega arith, marks)

pub returns-in_err-other-clause-counted : goal.returns-in_err-other-clause-counted
returns-in_err-other-clause-counted c = tried_both c.args.spent.now c.mark_counted.new.spent
    c.mark_counted-2.new.spent c.args.pass.now.seat.me
    c.mark_counted.new.pass.seat.me c.mark_counted-2.new.pass.seat.me c.mark_counted.ensures.counted
    c.mark_counted-2.ensures.counted

pub returns-in_err-other-clause-found : goal.returns-in_err-other-clause-found
returns-in_err-other-clause-found c = let p =
    err_from_is_err_and c.from_residual-in_err-other.result
    c.from_residual-in_err-other.ensures.1 in
    let found = c.in_ok-one.ensures.found in
    rw (p.1, p.2) (ended_after (Err c.in_err-other.field-0.0) c.args.pass.now.seat.me
    c.mark_counted.new.pass.seat.me c.mark_counted-2.new.pass.seat.me
    found.0 found.1 c.in_err-other.ensures.found)

pub returns-clause-frame : goal.returns-clause-frame
returns-clause-frame c = stays_both c.args.space.now c.args.pass.now c.mark_counted.new.pass
    c.mark_counted-2.new.pass c.mark_counted.ensures.frame
    c.mark_counted-2.ensures.frame

pub returns-clause-marked : goal.returns-clause-marked
returns-clause-marked c = let z = c.args.space.now.table.shared.key in let u =
    c.args.pass.now.seat.me.0.upper in
    let v = c.mark_counted.new.pass.seat.me.0.upper in let w =
    c.mark_counted-2.new.pass.seat.me.0.upper in
    let one = c.in_ok-one.ensures.marked in let two = c.in_ok-other.ensures.marked in
    let note = last_on (link_word c.args.pair.one.link) u.notes in let sibling =
    last_on (link_word c.args.pair.other.link) u.notes in (
      marks_both 1 1 u v w one.0 two.0,
      two.1 ∙ one.1,
      (
        one.2.0,
        two.2.0,
        two.2.1 ∙ ap (λ (ns : List Note). two.2.0 ∷ ns) one.2.1,
        one.2.2,
        subst (λ (n : Note). IsMarkedNote z c.args.pair.attempt n c.in_ok-other.other two.2.0)
            (last_still z u v c.args.pair note sibling one.2.0 c.requires.pair one.2.2.place_is
            one.0 one.2.1) two.2.2,
      ),
    )

pub returns-clause-counted : goal.returns-clause-counted
returns-clause-counted c = tried_both c.args.spent.now c.mark_counted.new.spent
    c.mark_counted-2.new.spent c.args.pass.now.seat.me
    c.mark_counted.new.pass.seat.me c.mark_counted-2.new.pass.seat.me c.mark_counted.ensures.counted
    c.mark_counted-2.ensures.counted

pub returns-in_err-one-clause-alone : goal.returns-in_err-one-clause-alone
returns-in_err-one-clause-alone c alone listed there =
    (c.mark_counted.ensures.alone alone (listed.row, listed.base)).by

pub returns-in_err-other-clause-alone : goal.returns-in_err-other-clause-alone
returns-in_err-other-clause-alone c alone listed there = let z =
    c.args.space.now.table.shared.key in let u = c.args.pass.now.seat.me.0.upper in
    let v = c.mark_counted.new.pass.seat.me.0.upper in let w =
    c.mark_counted-2.new.pass.seat.me.0.upper in
    let one = c.in_ok-one.ensures.marked in
    let note = last_on (link_word c.args.pair.one.link) u.notes in let sibling =
    last_on (link_word c.args.pair.other.link) u.notes in
    let mark = c.mark_counted.ensures.alone alone (listed.row, listed.base) in
    let still = last_still z u v c.args.pair note sibling one.2.0 c.requires.pair one.2.2.place_is
    one.0 one.2.1 in
    lone_both 0 0 u v w mark.by
    (c.mark_counted-2.ensures.alone
    (subst (λ (x : TreeView). IsAlone z x) (sym one.0.only) alone)
    (subst (λ (n : Note). IsThere v.inventory n) (sym still)
    (sibling_there z u v c.args.pair note sibling c.requires.pair listed there mark))).by

pub returns-clause-alone : goal.returns-clause-alone
returns-clause-alone c alone listed there = let z = c.args.space.now.table.shared.key in let u =
    c.args.pass.now.seat.me.0.upper in
    let v = c.mark_counted.new.pass.seat.me.0.upper in let w =
    c.mark_counted-2.new.pass.seat.me.0.upper in
    let one = c.in_ok-one.ensures.marked in
    let note = last_on (link_word c.args.pair.one.link) u.notes in let sibling =
    last_on (link_word c.args.pair.other.link) u.notes in
    let mark = c.mark_counted.ensures.alone alone (listed.row, listed.base) in
    let still = last_still z u v c.args.pair note sibling one.2.0 c.requires.pair one.2.2.place_is
    one.0 one.2.1 in
    lone_both 0 0 u v w mark.by
    (c.mark_counted-2.ensures.alone
    (subst (λ (x : TreeView). IsAlone z x) (sym one.0.only) alone)
    (subst (λ (n : Note). IsThere v.inventory n) (sym still)
    (sibling_there z u v c.args.pair note sibling c.requires.pair listed there mark))).by
