use Rattle.std.proofs.Common.{[], ◌∙◌, ap, arith, length, refl, subst, sym, vec_len}
use Rattle.ca_base.specs.Counting.{losses}
use Rattle.ca_node.specs.Told.{MyTree}
use Rattle.ca_rows.specs.declared.kept.KeptRows.{KeptRows}
use Rattle.ca_rows.specs.declared.view.Pin.{Pin}
use Rattle.ca_replace.specs.Attempting.{at_pin, splits, total}
use Rattle.ca_replace.specs.Causes.{IsFullSince}
use Rattle.ca_replace.specs.Crowding.{HasFewAlone}
use Rattle.ca_replace.proofs.Again.{known_since, may_follow, next_since, tried_since}
use Rattle.ca_replace.proofs.Between.{announced, first_since, may_first, paced_once}
use Rattle.ca_replace.proofs.Counted.{met_then, met_turn, one_turn_less, paid_before, paid_turn}
use Rattle.ca_replace.proofs.Crowding.{few_as, few_before, next_keeps, stopped_few, turns_crowd}
use Rattle.ca_replace.proofs.Growing.{alone_on}
use Rattle.ca_replace.proofs.Meeting.{further_on}
use Rattle.ca_replace.proofs.Loads.{loads_last}
use Rattle.ca_replace.proofs.Pacing.{paced_next, paced_on, paid_more, paid_to_more, turn_more}
use Rattle.ca_replace.proofs.Pinning.{pinned_as, pinned_once, pinned_still}
use Rattle.ca_replace.proofs.Turns.{rests_again, rests_as, tried_unpinned, turn_further}
use Rattle.ca_replace.proofs.Waiting.{moved_further, moved_quiet, turn_unpinned, turns_left, waits_more, waits_none, waits_quiet}
use Rattle.ca_replace.proofs.calls.turns.Goals as goal
use Rattle.ca_range.proofs.LoneMarks.{only_one}

pub loop-course-init : goal.loop-course-init
loop-course-init g c = let z = c.args.tree.now.space.table.shared.key in
    let k = c.args.pass.now.seat.me in let m = c.pin.new.pass.seat.me in
    let is = c.pin.ensures.pinned.3 in
    let pin = (announced c.pin.ensures.pinned.0 c.pin.ensures.pinned.1 k).0.pin in
    let ranges = (announced c.pin.ensures.pinned.0 c.pin.ensures.pinned.1 k).0.upper.ranges in
    let u = k.0.upper in record {
      same = c.pin.ensures.frame.same;
      number = c.pin.ensures.frame.number;
      sizes = ap (λ (x : MyTree). x.0.sizes) is;
      pin_number = ap (λ (x : MyTree). x.0.pin.number) is;
      may = may_first c.args.tree.now.space c.args.pass.now c.pin.new.pass
          (g.A.Attempt.about c.args.order.now.what.now) c.pin.ensures.pinned.0
          c.pin.ensures.pinned.1 c.requires.resting c.pin.ensures.frame.same
          c.pin.ensures.frame.number c.pin.ensures.frame.kept c.pin.ensures.frame.tally is;
      since = first_since k m pin [] [] ranges is;
      pinned = pinned_once k m (ap (λ (x : MyTree). x.0.pin.lags) is)
          (ap (λ (x : MyTree). x.0.pin.looks) is)
          (ap (λ (x : MyTree). x.0.pin.entered.lags) is)
          (ap (λ (x : MyTree). x.0.pin.begun_at) is) (ap (λ (x : MyTree). x.0.pin.begun) is);
      paced = paced_once c.pin.ensures.pinned.0 c.pin.ensures.pinned.1 k m is;
      keeps = λ alone. let kept = ap (λ (x : KeptRows). vec_len x.rows) c.pin.ensures.frame.kept in
          let lost = ap losses is in let cut = ap splits is in omega arith;
      few_rows = λ few alone. few_as u m.0.upper (ap splits is)
          (ap (λ (x : MyTree). x.0.upper.inventory) is)
          (ap (λ (x : MyTree). x.0.upper.renewal) is)
          (few (alone_on z u m.0.upper (ap (λ (x : MyTree). x.0.upper.number) is) alone));
      unspent = c.requires.unspent;
      waiting = waits_none z (g.A.Attempt.adds c.args.order.now.what.now) _ _ k m (refl, refl)
          (moved_quiet k m pin u.seen [] [] ranges is)
          (ap (λ (x : MyTree). x.0.upper.seen) is)
          (ap (λ (x : MyTree). x.0.upper.loads) is)
          (moved_further k m pin u.seen [] [] ranges is);
    }

pub attempt-tried-requires-clause-begins : goal.attempt-tried-requires-clause-begins
attempt-tried-requires-clause-begins g c = c.loop-course.invariant.may

-- Another attempt may begin behind this one.
pub go_on-requires-clause-marked : goal.go_on-requires-clause-marked
go_on-requires-clause-marked g c = c.begins_anew-anew.ensures

pub go_on-requires-clause-may : goal.go_on-requires-clause-may
go_on-requires-clause-may g c = let z = c.args.tree.now.space.table.shared.key in
    let tells = λ (x : _).
    g.A.Attempt.tells c.args.order.now.what.now x c.attempt-tried.new.left in
    let next = c.if-not-has_next.ensures.0 refl in
    may_follow tells (g.A.Attempt.about c.args.order.now.what.now) c.attempt-tried.result
    c.loop-course.course.again c.attempt-tried.new.course.again c.attempt-tried.new.course.marked
    c.loop-course.invariant.may
    c.attempt-tried.ensures.frame next c.attempt-tried.ensures.tried
    (turn_further tells z c.attempt-tried.result c.loop-course.pass.seat.me.0.upper
    c.attempt-tried.new.pass.seat.me.0.upper next c.attempt-tried.ensures.tried)
    c.attempt-tried.ensures.stays

pub loop-course-preserved : goal.loop-course-preserved
loop-course-preserved g c = let z = c.args.tree.now.space.table.shared.key in
    let adds = g.A.Attempt.adds c.args.order.now.what.now in
    let edits = λ (x : _). g.A.Attempt.edits c.args.order.now.what.now x in
    let tells = λ (x : _).
    g.A.Attempt.tells c.args.order.now.what.now x c.attempt-tried.new.left in
    let next = c.if-not-has_next.ensures.0 refl in let before = c.loop-course.invariant in
    let k = c.args.pass.now.seat.me in let m = c.loop-course.pass.seat.me in
    let n = c.attempt-tried.new.pass.seat.me in let p = c.go_on.new.pass.seat.me in
    let did = c.attempt-tried.ensures in let on = c.go_on.ensures.still in
    let more = waits_more tells edits z adds c.args.tree.now.tuning c.args.course.now
    c.loop-course.course c.attempt-tried.new.course _ c.attempt-tried.result k m n
    c.requires.resting.known before.may.known before.waiting did.tried did.turn next in record {
      same = (
        on.same.0 ∙ (did.frame.same.0 ∙ before.same.0),
        on.same.1 ∙ (did.frame.same.1 ∙ before.same.1),
      );
      number = on.number ∙ (did.frame.number ∙ before.number);
      sizes = on.sizes ∙ (did.frame.pin.0 ∙ before.sizes);
      pin_number = on.pin_number ∙ (ap (λ (e : Pin). e.number) did.frame.pin.1
          ∙ before.pin_number);
      may = c.go_on.ensures.may;
      since = further_on k.0.upper (at_pin n.0.upper) (at_pin p.0.upper)
          (next_since z (g.A.Attempt.about c.args.order.now.what.now) tells
          c.attempt-tried.result k.0.upper m.0.upper n.0.upper c.attempt-tried.new.course.again
          c.attempt-tried.new.course.marked
          next before.since did.tried did.stays) on.since;
      pinned = on.pinned k (pinned_as k m n before.pinned did.frame.pin.1);
      paced = paced_next k m n p before.paced did.frame.pin.1
          (turn_more c.loop-course.course.spent c.attempt-tried.new.course.spent m n
          (paid_turn c.attempt-tried.result c.loop-course.course.spent
          c.attempt-tried.new.course.spent m n next did.turn.counted)
          (met_turn c.attempt-tried.result m n next did.turn.found).1)
          (let none = more.met.0 in omega arith) (let none = on.quiet.met.0 in omega arith)
          on.quiet.lost on.quiet.same_turns on.paced;
      keeps = λ alone. let kept = ap (λ (x : KeptRows). vec_len x.rows) on.kept in
          let lost = on.quiet.lost in let cut = on.quiet.splits_are in
          let so_far = before.keeps alone in
          let more = next_keeps c.attempt-tried.result z.rows _ _ m n next
          (did.crowds (alone_on z k.0.upper m.0.upper before.waiting.further.number alone)) in
          omega arith;
      few_rows = λ _. before.few_rows (stopped_few c.attempt-tried.result (HasFewAlone z m.0.upper)
          next did.few_rows);
      unspent = let room = c.if-spent_in_all-budget.false in let all = c.spent_in_all.ensures in
          let most = c.budget-budget.type_inv in let is = c.budget-budget.ensures in
          let same = ap total c.go_on.ensures.course.1 in omega arith;
      waiting = waits_quiet z adds c.args.course.now c.attempt-tried.new.course c.go_on.new.course
          k n p c.go_on.ensures.course more on.quiet on.seen on.loads on.further;
    }

pub loop-course-smaller : goal.loop-course-smaller
loop-course-smaller g c = let most = c.budget-budget.type_inv in
    let room = c.loop-course.invariant.unspent in let is = c.budget-budget.ensures in
    let same = ap total c.go_on.ensures.course.1 in
    let less = one_turn_less c.loop-course.course.spent c.attempt-tried.new.course.spent
    c.budget-budget.result c.loop-course.pass.seat.me c.attempt-tried.new.pass.seat.me
    (omega arith) (omega arith)
    (paid_turn c.attempt-tried.result c.loop-course.course.spent c.attempt-tried.new.course.spent
    c.loop-course.pass.seat.me
    c.attempt-tried.new.pass.seat.me (c.if-not-has_next.ensures.0 refl)
    c.attempt-tried.ensures.turn.counted)
    (met_turn c.attempt-tried.result c.loop-course.pass.seat.me
    c.attempt-tried.new.pass.seat.me (c.if-not-has_next.ensures.0 refl)
    c.attempt-tried.ensures.turn.found).1 in omega arith

pub returns-then-not-has_next-clause-frame : goal.returns-then-not-has_next-clause-frame
returns-then-not-has_next-clause-frame g c = let space = c.args.tree.now.space.table.shared in
    let two = c.attempt-tried.ensures in let before = c.loop-course.invariant in
    let tells = λ (x : _).
    g.A.Attempt.tells c.args.order.now.what.now x c.attempt-tried.new.left in record {
      number = c.unpin.ensures.frame.number ∙ (two.frame.number ∙ before.number);
      resting = rests_as space.table_id space.key c.args.pass.now.number c.unpin.new.pass.number
          c.attempt-tried.new.pass.kept c.unpin.new.pass.kept c.unpin.new.pass.seat
          (c.unpin.ensures.frame.number ∙ (two.frame.number ∙ before.number))
          c.unpin.ensures.frame.tally c.unpin.ensures.frame.kept
          (rests_again space.table_id space.key c.args.pass.now.number c.args.pass.now.kept.rows
          c.attempt-tried.new.pass.kept.rows c.args.pass.now.seat c.loop-course.pass.seat
          c.attempt-tried.new.pass.seat c.unpin.new.pass.seat c.requires.resting
          (before.sizes, before.pin_number, before.waiting.further.number)
          (two.frame.same.0 ∙ before.same.0) two.frame.pin two.frame.none
          (known_since tells space.key c.attempt-tried.result c.loop-course.pass.seat.me.0.upper
          c.attempt-tried.new.pass.seat.me.0.upper two.tried) c.unpin.ensures.frame.same.0
          c.unpin.ensures.unpinned (λ _. two.frame.tally before.may.tallied)
          (two.frame.own_range ∙ before.may.idle.quiet)
          (λ one. c.unpin.ensures.only (only_one space.key c.attempt-tried.new.pass.seat.me
          (two.frame.pin.0 ∙ (before.sizes ∙ c.requires.resting.of.1)) c.args.tree.now.space.few.0
          one)));
    }

pub returns-then-not-has_next-clause-tried : goal.returns-then-not-has_next-clause-tried
returns-then-not-has_next-clause-tried g c = let z = c.args.tree.now.space.table.shared.key in
    let tells = λ (x : _).
    g.A.Attempt.tells c.args.order.now.what.now x c.attempt-tried.new.left in
    tried_unpinned tells z c.attempt-tried.result c.args.pass.now.seat.me.0.upper
    c.attempt-tried.new.pass.seat.me.0.upper c.unpin.new.pass.seat.me.0.upper
    (ap (λ (m : MyTree). m.0.upper) c.unpin.ensures.unpinned)
    (tried_since tells z c.attempt-tried.result c.args.pass.now.seat.me.0.upper
    c.loop-course.pass.seat.me.0.upper c.attempt-tried.new.pass.seat.me.0.upper
    c.loop-course.invariant.since c.loop-course.invariant.waiting.further
    c.attempt-tried.ensures.tried)

pub returns-then-not-has_next-clause-deep : goal.returns-then-not-has_next-clause-deep
returns-then-not-has_next-clause-deep g c deep = subst
    (λ (m : MyTree). IsFullSince c.args.tree.now.space.table.shared.key
    (g.A.Attempt.adds c.args.order.now.what.now) m.0.upper) (sym c.unpin.ensures.unpinned)
    (c.attempt-tried.ensures.deep deep)

pub returns-then-not-has_next-clause-counted : goal.returns-then-not-has_next-clause-counted
returns-then-not-has_next-clause-counted g c = let i = turn_unpinned
    (λ (x : _). g.A.Attempt.edits c.args.order.now.what.now x)
    c.args.tree.now.space.table.shared.key (g.A.Attempt.adds c.args.order.now.what.now)
    c.args.tree.now.tuning c.loop-course.course c.attempt-tried.new.course c.attempt-tried.result
    c.loop-course.pass.seat.me c.attempt-tried.new.pass.seat.me c.unpin.new.pass.seat.me
    c.attempt-tried.ensures.turn c.unpin.ensures.unpinned in
    paid_before c.attempt-tried.result c.args.course.now.spent c.loop-course.course.spent
    c.attempt-tried.new.course.spent c.args.pass.now.seat.me c.loop-course.pass.seat.me
    c.unpin.new.pass.seat.me c.loop-course.invariant.waiting.counted i.counted

pub returns-then-not-has_next-clause-found : goal.returns-then-not-has_next-clause-found
returns-then-not-has_next-clause-found g c = let i = turn_unpinned
    (λ (x : _). g.A.Attempt.edits c.args.order.now.what.now x)
    c.args.tree.now.space.table.shared.key (g.A.Attempt.adds c.args.order.now.what.now)
    c.args.tree.now.tuning c.loop-course.course c.attempt-tried.new.course c.attempt-tried.result
    c.loop-course.pass.seat.me c.attempt-tried.new.pass.seat.me c.unpin.new.pass.seat.me
    c.attempt-tried.ensures.turn c.unpin.ensures.unpinned in
    met_then c.attempt-tried.result c.args.pass.now.seat.me
    c.loop-course.pass.seat.me c.unpin.new.pass.seat.me c.loop-course.invariant.waiting.met
    c.loop-course.invariant.waiting.counted.more
    c.loop-course.invariant.waiting.counted.more_passed
    c.loop-course.invariant.waiting.counted.more_helped i.found

pub returns-then-not-has_next-clause-pinned : goal.returns-then-not-has_next-clause-pinned
returns-then-not-has_next-clause-pinned g c = let is = c.unpin.ensures.unpinned in
    let n = c.attempt-tried.new.pass.seat.me in
    pinned_still c.args.pass.now.seat.me n c.unpin.new.pass.seat.me
    (pinned_as c.args.pass.now.seat.me c.loop-course.pass.seat.me n
    c.loop-course.invariant.pinned c.attempt-tried.ensures.frame.pin.1)
    (ap (λ (x : MyTree). x.0.pin.lags) is) (ap (λ (x : MyTree). x.0.pin.looks) is)
    (ap (λ (x : MyTree). x.0.pin.entered.lags) is) (ap (λ (x : MyTree). x.0.pin.begun_at) is)
    (ap (λ (x : MyTree). x.0.pin.begun) is)

pub returns-then-not-has_next-clause-paced : goal.returns-then-not-has_next-clause-paced
returns-then-not-has_next-clause-paced g c = let i = turn_unpinned
    (λ (x : _). g.A.Attempt.edits c.args.order.now.what.now x)
    c.args.tree.now.space.table.shared.key (g.A.Attempt.adds c.args.order.now.what.now)
    c.args.tree.now.tuning c.loop-course.course c.attempt-tried.new.course c.attempt-tried.result
    c.loop-course.pass.seat.me c.attempt-tried.new.pass.seat.me c.unpin.new.pass.seat.me
    c.attempt-tried.ensures.turn c.unpin.ensures.unpinned in
    let out = c.unpin.ensures.unpinned in let pin = c.attempt-tried.ensures.frame.pin.1 in
    paced_on c.args.pass.now.seat.me c.loop-course.pass.seat.me c.unpin.new.pass.seat.me
    c.loop-course.invariant.paced
    (ap (λ (x : MyTree). x.0.pin.pins) out ∙ ap (λ (e : Pin). e.pins) pin)
    (ap (λ (x : MyTree). x.0.pin.entered) out ∙ ap (λ (e : Pin). e.entered) pin)
    (paid_to_more c.attempt-tried.result c.loop-course.course.spent c.attempt-tried.new.course.spent
    c.loop-course.pass.seat.me
    c.unpin.new.pass.seat.me i.counted)

pub returns-then-not-has_next-clause-crowds : goal.returns-then-not-has_next-clause-crowds
returns-then-not-has_next-clause-crowds g c alone = let before = c.loop-course.invariant in
    let out = c.unpin.ensures.unpinned in
    let k = c.args.pass.now.seat.me in let m = c.loop-course.pass.seat.me in
    turns_crowd c.attempt-tried.result _ _ _ _ _ k m c.attempt-tried.new.pass.seat.me
    c.unpin.new.pass.seat.me (before.keeps alone)
    (c.attempt-tried.ensures.crowds (alone_on c.args.tree.now.space.table.shared.key k.0.upper
    m.0.upper before.waiting.further.number alone))
    (ap (λ (x : KeptRows). vec_len x.rows) c.unpin.ensures.frame.kept) (ap losses out)
    (ap splits out)
    (ap (λ (x : MyTree). length x.0.upper.inventory.rows) out)

pub returns-then-not-has_next-clause-few_rows : goal.returns-then-not-has_next-clause-few_rows
returns-then-not-has_next-clause-few_rows g c = let z = c.args.tree.now.space.table.shared.key in
    few_before c.attempt-tried.result (HasFewAlone z c.loop-course.pass.seat.me.0.upper)
    (HasFewAlone z c.args.pass.now.seat.me.0.upper)
    c.loop-course.invariant.few_rows c.attempt-tried.ensures.few_rows

pub returns-then-not-has_next-clause-turns : goal.returns-then-not-has_next-clause-turns
returns-then-not-has_next-clause-turns g c = let z = c.args.tree.now.space.table.shared.key in
    let tells = λ (x : _).
    g.A.Attempt.tells c.args.order.now.what.now x c.attempt-tried.new.left in
    turns_left tells (λ (x : _). g.A.Attempt.edits c.args.order.now.what.now x) z
    (g.A.Attempt.adds c.args.order.now.what.now) c.args.tree.now.tuning c.args.course.now
    c.loop-course.course c.attempt-tried.new.course c.attempt-tried.result c.args.pass.now.seat.me
    c.loop-course.pass.seat.me c.attempt-tried.new.pass.seat.me c.unpin.new.pass.seat.me
    c.requires.resting.known c.loop-course.invariant.may.known c.loop-course.invariant.waiting
    c.attempt-tried.ensures.tried c.attempt-tried.ensures.turn c.unpin.ensures.unpinned

pub returns-then-not-has_next-clause-loads : goal.returns-then-not-has_next-clause-loads
returns-then-not-has_next-clause-loads g c = let z = c.args.tree.now.space.table.shared.key in
    let k = c.args.pass.now.seat.me in
    let m = c.loop-course.pass.seat.me in let p = c.unpin.new.pass.seat.me in
    let x = c.loop-course.invariant.waiting in
    let i = turn_unpinned (λ (y : _). g.A.Attempt.edits c.args.order.now.what.now y) z
    (g.A.Attempt.adds c.args.order.now.what.now)
    c.args.tree.now.tuning c.loop-course.course c.attempt-tried.new.course c.attempt-tried.result m
    c.attempt-tried.new.pass.seat.me p
    c.attempt-tried.ensures.turn c.unpin.ensures.unpinned in
    loads_last (λ (y : _). g.A.Attempt.edits c.args.order.now.what.now y) z c.attempt-tried.result k
    m p
    (paid_more c.args.course.now.spent c.loop-course.course.spent k m x.counted)
    (paid_to_more c.attempt-tried.result c.loop-course.course.spent c.attempt-tried.new.course.spent
    m p i.counted) x.loads i.loads
