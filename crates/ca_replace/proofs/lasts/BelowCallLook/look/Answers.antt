use Rattle.std.proofs.Common.{◌≡◌, ◌∙◌, ◌∷◌, Bool, Err, List, None, Option, Some, ap, arith, false, inr, refl, subst, sym, true, ℕ}
use Rattle.std.specs.Prelude.{◌+◌, ◌*◌, cond, map, vec_len}
use Rattle.ca_base.specs.Putting.{first_note}
use Rattle.ca_model.specs.Edges.{Bound, Included, Unbounded, bound_of, last_object, up_to}
use Rattle.ca_node.specs.Row.{pair}
use Rattle.ca_node.specs.States.{IsReadSince}
use Rattle.ca_node.specs.Told.{IsKnown, MyTree}
use Rattle.ca_node.specs.TreeView.{Note, TreeView}
use Rattle.ca_node.specs.Walking.{IsLowRoute}
use Rattle.ca_base.specs.Progress.{IsFurther}
use Rattle.ca_range.proofs.Filled.{raised_met}
use Rattle.ca_replace.specs.Acts.{acts_of}
use Rattle.ca_replace.specs.Attempting.{IsPaid}
use Rattle.ca_replace.specs.Within.{HasAllUpTo, HasLearnt, HasVanished, NeedsBelow, below_event, spot_at}
use Rattle.ca_replace.specs.Aside.{IsEndOfLooks, HasLookedLeft}
use Rattle.ca_replace.specs.Running.{all_of}
use Rattle.ca_replace.proofs.Counted.{paid_both, paid_entered}
use Rattle.ca_replace.proofs.Ends.{learnt_both, walked_last, walked_learnt}
use Rattle.ca_replace.proofs.LastRuns.{last_read}
use Rattle.ca_replace.proofs.LooksLeft.{keeps_both, left_behind, left_end, left_learnt, left_stays}
use Rattle.ca_replace.proofs.Misses.{again_then, missed_behind}
use Rattle.ca_replace.proofs.Ready.{stays_both, stays_then_read}
use Rattle.ca_replace.proofs.Runs.{finds_below, last_inside, learnt_done, learnt_unanswered, ready_entered}
use Rattle.ca_replace.proofs.lasts.BelowCallLook.look.Goals.{else-bounded-via-then-bounded+else-not-found, else-bounded-via-else-bounded}
use Rattle.ca_range.specs.Clearing.{turns_at}
use Rattle.ca_replace.specs.Loading.{LoadsInLook}
use Rattle.ca_replace.specs.LoneReads.{HasMissedAlone, PassesAlone, bases_at}
use Rattle.ca_replace.proofs.LoneLooks.{left_alone}
use Rattle.ca_replace.proofs.LoneReads.{left_of_walk, missed_alone, passes_both, passes_entered, passes_walked, passes_within}
use Rattle.ca_replace.proofs.Vanishing.{never_vanishes}
use Rattle.ca_rows.specs.declared.kept.KeptRows.{KeptRows}
use Rattle.ca_replace.proofs.Pacing.{paid_more}
use Rattle.ca_replace.proofs.ReadLoads.{look_still, looks_behind, looks_taken}
use Rattle.ca_replace.proofs.Working.{work_after}
use Rattle.ca_replace.proofs.lasts.BelowCallLook.look.Goals as goal

pub enter_last-requires-clause-answer : goal.enter_last-requires-clause-answer
enter_last-requires-clause-answer c = let z = c.args.tree.now.space.table.shared.key in let
    m = c.args.pass.now.seat.me in
    let n = c.look_near-near.new.pass.seat.me in let hi = c.args.self.now.hi in let
    object = c.look_near-near.new.into.items in
    let walk = c.look_near-near.ensures.walked in let cursor = c.look_near-near.result.0 in
    walked_last z hi m n cursor true object walk
    (learnt_unanswered z m.0.upper n.0.upper c.requires.fresh.at_pin c.requires.work.known
    (walked_learnt z (spot_at hi) m n cursor walk))
    (subst (λ (b : Bool). last_object
    (up_to (bound_of hi) (map pair (first_note n.0.upper.notes).objects)) ≡ cond b (Some object)
    None)
    c.if-near.true c.look_near-near.ensures.last) (λ e. cc)

pub returns-then-near-clause-tried : goal.returns-then-near-clause-tried
returns-then-near-clause-tried c = let z = c.args.tree.now.space.table.shared.key in let
    m = c.args.pass.now.seat.me in
    let n = c.look_near-near.new.pass.seat.me in let hi = c.args.self.now.hi in let
    object = c.look_near-near.new.into.items in
    let event = below_event (bound_of hi) true object in
    let done = learnt_done z m.0.upper n c.enter_last.new.pass.seat.me event c.requires.fresh.at_pin
    (walked_learnt z (spot_at hi) m n c.look_near-near.result.0 c.look_near-near.ensures.walked)
    c.enter_last.ensures.entered in
    ((event, refl, done.0), done.1, done.2)

pub enter_last-requires-in_default-clause-answer : goal.enter_last-requires-in_default-clause-answer
enter_last-requires-in_default-clause-answer c = let z = c.args.tree.now.space.table.shared.key in
    let m = c.args.pass.now.seat.me in
    let n = c.look_near-near.new.pass.seat.me in let hi = c.args.self.now.hi in let
    object = c.look_near-near.new.into.items in
    let walk = c.look_near-near.ensures.walked in let cursor = c.look_near-near.result.0 in
    walked_last z hi m n cursor false object walk
    (learnt_unanswered z m.0.upper n.0.upper c.requires.fresh.at_pin c.requires.work.known
    (walked_learnt z (spot_at hi) m n cursor walk))
    (subst (λ (b : Bool). last_object
    (up_to (bound_of hi) (map pair (first_note n.0.upper.notes).objects)) ≡ cond b (Some object)
    None)
    c.if-near.false c.look_near-near.ensures.last) (λ _. c.in_default.is)

pub returns-in_default-clause-tried : goal.returns-in_default-clause-tried
returns-in_default-clause-tried c = let z = c.args.tree.now.space.table.shared.key in let
    m = c.args.pass.now.seat.me in
    let n = c.look_near-near.new.pass.seat.me in let hi = c.args.self.now.hi in let
    object = c.look_near-near.new.into.items in
    let event = below_event (bound_of hi) false object in
    let done = learnt_done z m.0.upper n c.enter_last-in_default.new.pass.seat.me event
    c.requires.fresh.at_pin
    (walked_learnt z (spot_at hi) m n c.look_near-near.result.0 c.look_near-near.ensures.walked)
    c.enter_last-in_default.ensures.entered in
    ((event, (refl, c.look_near-near.ensures.emptied c.if-near.false), done.0), done.1, done.2)

pub look_left-requires-clause-from : goal.look_left-requires-clause-from
look_left-requires-clause-from c = let z = c.args.tree.now.space.table.shared.key in let
    u = c.look_near-near.new.pass.seat.me.0.upper in
    let walk = c.look_near-near.ensures.walked in
    left_end z u c.in-Some.route walk.note
    (ap (λ (x : MyTree). x.0.upper.notes) walk.now ∙ ap (λ (ns : List Note). walk.note ∷ ns)
    c.requires.fresh.none_shown)
    (subst (λ (r : Option ℕ). IsLowRoute z u.ways r walk.note.place.span.low) c.in-Some.is
    walk.cursor_is.low)

-- What the looks to the left came to, from before the walk on.
left_none : (c : goal.In_default-look_left) → HasLookedLeft
    c.args.tree.now.space.table.shared.key c.args.spent.now c.look_left.new.spent
    c.args.pass.now.seat.me c.look_left.new.pass.seat.me
left_none c = left_behind c.args.tree.now.space.table.shared.key c.args.spent.now
    c.look_left.new.spent (spot_at c.args.self.now.hi) c.args.pass.now.seat.me
    c.look_near-near.new.pass.seat.me c.look_left.new.pass.seat.me c.look_near-near.result.0
    c.look_near-near.ensures.walked c.look_left.ensures.looked

pub returns-in_default-look_left-clause-tried : goal.returns-in_default-look_left-clause-tried
returns-in_default-look_left-clause-tried c = let z = c.args.tree.now.space.table.shared.key in let
    m = c.args.pass.now.seat.me in
    let k = c.look_left.new.pass.seat.me in let a = c.args.spent.now in let
    b = c.look_left.new.spent in
    let learnt = left_learnt z a b m k
    (left_none c) c.requires.work.known in
    (learnt.further, learnt.known, learnt.acts)

left_then : (c : goal.Then-not-found) → HasLookedLeft
    c.args.tree.now.space.table.shared.key c.args.spent.now c.look_left.new.spent
    c.args.pass.now.seat.me c.look_left.new.pass.seat.me
left_then c = left_behind c.args.tree.now.space.table.shared.key c.args.spent.now
    c.look_left.new.spent (spot_at c.args.self.now.hi) c.args.pass.now.seat.me
    c.look_near-near.new.pass.seat.me c.look_left.new.pass.seat.me c.look_near-near.result.0
    c.look_near-near.ensures.walked c.look_left.ensures.looked

pub returns-then-not-found-clause-frame : goal.returns-then-not-found-clause-frame
returns-then-not-found-clause-frame c = let looked = left_then c in
    stays_both (left_stays c.requires.work.ready
    (keeps_both c.look_near-near.ensures.frame c.look_left.ensures.frame) looked)
    (stays_then_read c.take_run.ensures.frame c.last_within-found.ensures.frame)

pub returns-then-not-found-clause-tried : goal.returns-then-not-found-clause-tried
returns-then-not-found-clause-tried c = let z = c.args.tree.now.space.table.shared.key in let
    m = c.args.pass.now.seat.me in
    let k = c.look_left.new.pass.seat.me in let a = c.args.spent.now in let
    b = c.look_left.new.spent in let v = c.take_run.new.pass.seat.me in
    let looked = left_then c in
    let learnt = learnt_both z m.0.upper k.0.upper v.0.upper
    (left_learnt z a b m k looked c.requires.work.known) c.take_run.ensures.learnt in
    subst (λ (x : MyTree). IsFurther m.0.upper x.0.upper × IsKnown z x.0.upper
    × (acts_of x.0.upper ≡ acts_of m.0.upper))
    (sym c.last_within-found.ensures.frame.still) (learnt.further, learnt.known, learnt.acts)

pub returns-then-not-found-clause-counted : goal.returns-then-not-found-clause-counted
returns-then-not-found-clause-counted c = let m = c.args.pass.now.seat.me in
    let k = c.look_left.new.pass.seat.me in let a = c.args.spent.now in let
    b = c.look_left.new.spent in let v = c.take_run.new.pass.seat.me in
    let looked = left_then c in
    subst (λ (x : MyTree). IsPaid a c.take_run.new.spent m x)
    (sym c.last_within-found.ensures.frame.still)
    (paid_both a b c.take_run.new.spent m k v looked.paid c.take_run.ensures.counted)

pub enter_last-requires-in-Ok-clause-inside : goal.enter_last-requires-in-Ok-clause-inside
enter_last-requires-in-Ok-clause-inside c = last_inside c.args.tree.now.space.table.shared.key
    c.take_run.new.pass.seat.me.0.upper
    c.in-Ok.run' c.in-Ok.ensures.run.remembered

pub enter_last-requires-in-Ok-clause-answer : goal.enter_last-requires-in-Ok-clause-answer
enter_last-requires-in-Ok-clause-answer c = let z = c.args.tree.now.space.table.shared.key in let
    m = c.args.pass.now.seat.me in
    let k = c.look_left.new.pass.seat.me in let a = c.args.spent.now in let
    b = c.look_left.new.spent in let v = c.take_run.new.pass.seat.me in
    let hi = c.args.self.now.hi in let found = c.last_within-found.result in let
    object = c.last_within-found.new.into.items in
    let looked = left_behind c.args.tree.now.space.table.shared.key c.args.spent.now
    c.look_left.new.spent (spot_at c.args.self.now.hi) c.args.pass.now.seat.me
    c.look_near-near.new.pass.seat.me c.look_left.new.pass.seat.me c.look_near-near.result.0
    c.look_near-near.ensures.walked c.look_left.ensures.looked in
    let learnt = learnt_both z m.0.upper k.0.upper v.0.upper
    (left_learnt z a b m k looked c.requires.work.known) c.take_run.ensures.learnt in
    let first : found ≡ false → bound_of c.edge_at-lo.result ≡ Unbounded = elim
    c.else-bounded.branch [
      | else-bounded-via-then-bounded+else-not-found w ↦ λ none. let some = w.if-not-found.false in
          cc
      | else-bounded-via-else-bounded w ↦ λ none. c.edge_at-lo.ensures
          ∙ ap (λ (x : Bool). cond x (Included c.deref.result.now) Unbounded) w.if-bounded.false
    ] in
    subst (λ (x : MyTree). IsReadSince (below_event (bound_of hi) found object) x.0.upper)
    (sym c.last_within-found.ensures.frame.still)
    (last_read _ _ c.in-Ok.ensures.run found object first
    (learnt_unanswered z m.0.upper v.0.upper c.requires.fresh.at_pin c.requires.work.known learnt)
    c.last_within-found.ensures.last)

left_else : (c : goal.After-enter_last-in-Ok) → HasLookedLeft
    c.args.tree.now.space.table.shared.key c.args.spent.now c.look_left.new.spent
    c.args.pass.now.seat.me c.look_left.new.pass.seat.me
left_else c = left_behind c.args.tree.now.space.table.shared.key c.args.spent.now
    c.look_left.new.spent (spot_at c.args.self.now.hi) c.args.pass.now.seat.me
    c.look_near-near.new.pass.seat.me c.look_left.new.pass.seat.me c.look_near-near.result.0
    c.look_near-near.ensures.walked c.look_left.ensures.looked

pub returns-else-bounded-clause-frame : goal.returns-else-bounded-clause-frame
returns-else-bounded-clause-frame c = let looked = left_else c in
    ready_entered _
    (stays_both (left_stays c.requires.work.ready
    (keeps_both c.look_near-near.ensures.frame c.look_left.ensures.frame) looked)
    (stays_then_read c.take_run.ensures.frame c.last_within-found.ensures.frame))
    c.enter_last-in-Ok.ensures.frame c.enter_last-in-Ok.ensures.entered

pub returns-else-bounded-clause-tried : goal.returns-else-bounded-clause-tried
returns-else-bounded-clause-tried c = let z = c.args.tree.now.space.table.shared.key in let
    m = c.args.pass.now.seat.me in
    let k = c.look_left.new.pass.seat.me in let a = c.args.spent.now in let
    b = c.look_left.new.spent in let v = c.take_run.new.pass.seat.me in
    let hi = c.args.self.now.hi in let found = c.last_within-found.result in let
    object = c.last_within-found.new.into.items in
    let event = below_event (bound_of hi) found object in let u = m.0.upper in
    let looked = left_else c in
    let learnt = learnt_both z u k.0.upper v.0.upper
    (left_learnt z a b m k looked c.requires.work.known) c.take_run.ensures.learnt in
    let behind = subst (λ (x : MyTree). HasLearnt z u x.0.upper)
    (sym c.last_within-found.ensures.frame.still) learnt in
    let done = learnt_done z u c.last_within-found.new.pass.seat.me
    c.enter_last-in-Ok.new.pass.seat.me event c.requires.fresh.at_pin behind
    c.enter_last-in-Ok.ensures.entered in (
      (event, finds_below (bound_of hi) found object c.last_within-found.ensures.emptied, done.0),
      done.1,
      done.2,
    )

pub returns-else-bounded-clause-counted : goal.returns-else-bounded-clause-counted
returns-else-bounded-clause-counted c = let m = c.args.pass.now.seat.me in
    let k = c.look_left.new.pass.seat.me in let a = c.args.spent.now in let
    b = c.look_left.new.spent in let v = c.take_run.new.pass.seat.me in
    let s = c.take_run.new.spent in let n = c.enter_last-in-Ok.new.pass.seat.me in
    let looked = left_else c in
    let read = subst (λ (x : MyTree). IsPaid a s m x) (sym c.last_within-found.ensures.frame.still)
    (paid_both a b s m k v looked.paid c.take_run.ensures.counted) in
    paid_both a s s m c.last_within-found.new.pass.seat.me n read
    (paid_entered s c.last_within-found.new.pass.seat.me n _ c.enter_last-in-Ok.ensures.entered)

left_err : (c : goal.In-Err) → HasLookedLeft
    c.args.tree.now.space.table.shared.key c.args.spent.now c.look_left.new.spent
    c.args.pass.now.seat.me c.look_left.new.pass.seat.me
left_err c = left_behind c.args.tree.now.space.table.shared.key c.args.spent.now
    c.look_left.new.spent (spot_at c.args.self.now.hi) c.args.pass.now.seat.me
    c.look_near-near.new.pass.seat.me c.look_left.new.pass.seat.me c.look_near-near.result.0
    c.look_near-near.ensures.walked c.look_left.ensures.looked

pub returns-in-Err-clause-frame : goal.returns-in-Err-clause-frame
returns-in-Err-clause-frame c = let looked = left_err c in
    stays_both (left_stays c.requires.work.ready
    (keeps_both c.look_near-near.ensures.frame c.look_left.ensures.frame) looked)
    c.take_run.ensures.frame

pub returns-in-Err-clause-tried : goal.returns-in-Err-clause-tried
returns-in-Err-clause-tried c = let z = c.args.tree.now.space.table.shared.key in let
    m = c.args.pass.now.seat.me in
    let k = c.look_left.new.pass.seat.me in let a = c.args.spent.now in let
    b = c.look_left.new.spent in
    let looked = left_err c in
    let learnt = learnt_both z m.0.upper k.0.upper c.take_run.new.pass.seat.me.0.upper
    (left_learnt z a b m k looked c.requires.work.known)
    c.take_run.ensures.learnt in
    (learnt.further, learnt.known, learnt.acts)

pub returns-in-Err-clause-counted : goal.returns-in-Err-clause-counted
returns-in-Err-clause-counted c = let m = c.args.pass.now.seat.me in
    let k = c.look_left.new.pass.seat.me in let a = c.args.spent.now in let
    b = c.look_left.new.spent in
    let looked = left_err c in
    paid_both a b c.take_run.new.spent m k c.take_run.new.pass.seat.me looked.paid
    c.take_run.ensures.counted

pub returns-then-not-found-clause-again : goal.returns-then-not-found-clause-again
returns-then-not-found-clause-again c = let z = c.args.tree.now.space.table.shared.key in let
    k = c.look_left.new.pass.seat.me in
    let hi = c.args.self.now.hi in let v = c.take_run.new.pass.seat.me in let run = c.in-Ok.run' in
    let low = c.look_left.new.low.items in
    let still = sym c.last_within-found.ensures.frame.still in
    let begins : bound_of c.edge_at-lo.result ≡ Included low = c.edge_at-lo.ensures
    ∙ (ap (λ (x : Bool). cond x (Included c.deref.result.now) Unbounded) c.if-bounded.true ∙ ap
    (λ (x : List ℕ). Included x) c.deref.ensures.0) in
    let ends = subst
    (λ (r : Option Bool). IsEndOfLooks c.args.budget c.look_left.new.spent r low k.0.upper)
    (c.in-Some-look_left.is ∙ ap (λ (x : Bool). Some x) c.if-bounded.true) c.look_left.ensures.ends
    in
    inr record {
      near = c.look_near-near.new.pass.seat.me;
      cursor = c.look_near-near.result.0;
      walked = c.look_near-near.ensures.walked;
      route = c.in-Some.route;
      route_is = c.in-Some.is;
      mid = k;
      gone = c.look_left.ensures.gone;
      low = low;
      begins = ends.0;
      some = ends.1;
      run = run;
      bases = subst (λ (x : Bound × MyTree). HasAllUpTo x.0 (bound_of hi) z x.1.0.upper run)
          (λ i. (begins i, still i)) c.in-Ok.ensures.run;
      none = subst (λ (x : MyTree). last_object (up_to (bound_of hi) (all_of run x.0.upper)) ≡ None)
          still
          (c.last_within-found.ensures.last ∙ ap
          (λ (x : Bool). cond x (Some c.last_within-found.new.into.items) None)
          c.if-not-found.true);
    }

pub returns-in-Err-clause-missed : goal.returns-in-Err-clause-missed
returns-in-Err-clause-missed c = let m = c.args.pass.now.seat.me in
    let k = c.look_left.new.pass.seat.me in let a = c.args.spent.now in let
    b = c.look_left.new.spent in
    let looked = left_err c in
    missed_behind {T = Unit {0}} (NeedsBelow (bound_of c.args.self.now.hi)) c.args.budget a
    c.take_run.new.spent (Err c.in-Err.why) b m k
    c.take_run.new.pass.seat.me (raised_met m k k.0.upper looked.raised) looked.paid
    c.in-Err.ensures.missed

pub returns-in-Err-clause-again : goal.returns-in-Err-clause-again
returns-in-Err-clause-again c = let z = c.args.tree.now.space.table.shared.key in let
    m = c.args.pass.now.seat.me in
    let k = c.look_left.new.pass.seat.me in let a = c.args.spent.now in let
    b = c.look_left.new.spent in
    let looked = left_err c in
    again_then (HasVanished c.args.self.now.hi z) a b c.in-Err.why m k c.take_run.new.pass.seat.me
    looked.paid c.in-Err.ensures.again

pub returns-then-near-clause-loads : goal.returns-then-near-clause-loads
returns-then-near-clause-loads c = let walk = c.look_near-near.ensures.walked in let few = walk.few
    in
    let now = ap (λ (x : MyTree). x.0.upper.loads) walk.now in let same = ap
    (λ (x : MyTree). x.0.upper.loads) c.enter_last.ensures.entered.now in omega arith

pub returns-in_default-clause-loads : goal.returns-in_default-clause-loads
returns-in_default-clause-loads c = let walk = c.look_near-near.ensures.walked in let few = walk.few
    in
    let now = ap (λ (x : MyTree). x.0.upper.loads) walk.now in
    let same = ap (λ (x : MyTree). x.0.upper.loads) c.enter_last-in_default.ensures.entered.now in
    omega arith

pub returns-in_default-look_left-clause-loads : goal.returns-in_default-look_left-clause-loads
returns-in_default-look_left-clause-loads c = let z = c.args.tree.now.space.table.shared.key in let
    m = c.args.pass.now.seat.me in
    let k = c.look_left.new.pass.seat.me in let a = c.args.spent.now in let
    b = c.look_left.new.spent in let near = c.look_near-near.new.pass.seat.me in
    let place = spot_at c.args.self.now.hi in let cursor = c.look_near-near.result.0 in let
    walk = c.look_near-near.ensures.walked in
    let looks = looks_behind z place a b m near k cursor walk c.look_left.ensures.looked
    c.look_left.ensures.loads in
    let paid = paid_more a b m k
    (left_none c).paid in
    omega arith

pub returns-then-not-found-clause-loads : goal.returns-then-not-found-clause-loads
returns-then-not-found-clause-loads c = let z = c.args.tree.now.space.table.shared.key in let
    m = c.args.pass.now.seat.me in
    let k = c.look_left.new.pass.seat.me in let a = c.args.spent.now in let
    b = c.look_left.new.spent in let v = c.take_run.new.pass.seat.me in
    let all = looks_taken z (spot_at c.args.self.now.hi) a b c.take_run.new.spent m
    c.look_near-near.new.pass.seat.me k v c.look_near-near.result.0 c.look_near-near.ensures.walked
    c.look_left.ensures.looked c.look_left.ensures.loads c.take_run.ensures.counted
    c.take_run.ensures.loads in
    subst (λ (x : MyTree). LoadsInLook z m x) (sym c.last_within-found.ensures.frame.still) all

pub returns-else-bounded-clause-loads : goal.returns-else-bounded-clause-loads
returns-else-bounded-clause-loads c = let z = c.args.tree.now.space.table.shared.key in let
    m = c.args.pass.now.seat.me in
    let k = c.look_left.new.pass.seat.me in let a = c.args.spent.now in let
    b = c.look_left.new.spent in let v = c.take_run.new.pass.seat.me in
    let all = looks_taken z (spot_at c.args.self.now.hi) a b c.take_run.new.spent m
    c.look_near-near.new.pass.seat.me k v c.look_near-near.result.0 c.look_near-near.ensures.walked
    c.look_left.ensures.looked c.look_left.ensures.loads c.take_run.ensures.counted
    c.take_run.ensures.loads in
    let read = c.last_within-found.new.pass.seat.me in let
    now = c.enter_last-in-Ok.ensures.entered.now in
    look_still z m read c.enter_last-in-Ok.new.pass.seat.me
    (ap (λ (x : MyTree). x.0.upper.loads) now) (ap turns_at now)
    (subst (λ (x : MyTree). LoadsInLook z m x) (sym c.last_within-found.ensures.frame.still) all)

pub returns-in-Err-clause-loads : goal.returns-in-Err-clause-loads
returns-in-Err-clause-loads c = let z = c.args.tree.now.space.table.shared.key in let
    m = c.args.pass.now.seat.me in
    let k = c.look_left.new.pass.seat.me in let a = c.args.spent.now in let
    b = c.look_left.new.spent in let v = c.take_run.new.pass.seat.me in
    let all = looks_taken z (spot_at c.args.self.now.hi) a b c.take_run.new.spent m
    c.look_near-near.new.pass.seat.me k v c.look_near-near.result.0 c.look_near-near.ensures.walked
    c.look_left.ensures.looked c.look_left.ensures.loads c.take_run.ensures.counted
    c.take_run.ensures.loads in
    all

pub take_run-requires-clause-work : goal.take_run-requires-clause-work
take_run-requires-clause-work c = let z = c.args.tree.now.space.table.shared.key in let
    m = c.args.pass.now.seat.me in
    let k = c.look_left.new.pass.seat.me in let a = c.args.spent.now in let
    b = c.look_left.new.spent in let work = c.requires.work in
    let looked = left_behind c.args.tree.now.space.table.shared.key c.args.spent.now
    c.look_left.new.spent (spot_at c.args.self.now.hi) c.args.pass.now.seat.me
    c.look_near-near.new.pass.seat.me c.look_left.new.pass.seat.me c.look_near-near.result.0
    c.look_near-near.ensures.walked c.look_left.ensures.looked in
    work_after work
    (left_stays work.ready (keeps_both c.look_near-near.ensures.frame c.look_left.ensures.frame)
    looked)
    (left_learnt z a b m k looked work.known).known
    (ap (λ (u : TreeView). u.number) looked.steps.only)

pub returns-then-near-clause-alone : goal.returns-then-near-clause-alone
returns-then-near-clause-alone c alone = let z = c.args.tree.now.space.table.shared.key in
    let m = c.args.pass.now.seat.me in
    let n = c.look_near-near.new.pass.seat.me in let p = c.enter_last.new.pass.seat.me in (
      passes_within 0 (2 * bases_at m) m p (omega arith)
          (passes_both 0 0 m n p
          (passes_walked z (spot_at c.args.self.now.hi) m n c.look_near-near.result.0
          c.look_near-near.ensures.walked alone c.requires.work.known)
          (passes_entered _ n p c.enter_last.ensures.entered)),
      tt,
    )

pub returns-in_default-clause-alone : goal.returns-in_default-clause-alone
returns-in_default-clause-alone c alone = let z = c.args.tree.now.space.table.shared.key in
    let m = c.args.pass.now.seat.me in
    let n = c.look_near-near.new.pass.seat.me in let p = c.enter_last-in_default.new.pass.seat.me in (
      passes_within 0 (2 * bases_at m) m p (omega arith)
          (passes_both 0 0 m n p
          (passes_walked z (spot_at c.args.self.now.hi) m n c.look_near-near.result.0
          c.look_near-near.ensures.walked alone c.requires.work.known)
          (passes_entered _ n p c.enter_last-in_default.ensures.entered)),
      tt,
    )

pub returns-in_default-look_left-clause-counted : goal.returns-in_default-look_left-clause-counted
returns-in_default-look_left-clause-counted c = (left_none c).paid

pub returns-in_default-look_left-clause-alone : goal.returns-in_default-look_left-clause-alone
returns-in_default-look_left-clause-alone c alone = let z =
    c.args.tree.now.space.table.shared.key in let m = c.args.pass.now.seat.me in
    let n = c.look_near-near.new.pass.seat.me in let k = c.look_left.new.pass.seat.me in
    let left = left_of_walk z c.args.self.now.hi m n k c.look_near-near.result.0
    c.look_near-near.ensures.walked alone c.requires.work.known
    c.look_left.ensures.alone in
    (passes_within (bases_at m) (2 * bases_at m) m k (omega arith) left.2, tt)

pub returns-then-not-found-clause-alone : goal.returns-then-not-found-clause-alone
returns-then-not-found-clause-alone c alone = let z = c.args.tree.now.space.table.shared.key in
    let m = c.args.pass.now.seat.me in
    let n = c.look_near-near.new.pass.seat.me in let k = c.look_left.new.pass.seat.me in
    let v = c.take_run.new.pass.seat.me in
    let hi = c.args.self.now.hi in let a = c.args.spent.now in let b = c.look_left.new.spent in
    let low = c.look_left.new.low.items in
    let cursor = c.look_near-near.result.0 in let walk = c.look_near-near.ensures.walked in
    let left = left_of_walk z hi m n k cursor walk alone c.requires.work.known
    c.look_left.ensures.alone in
    let begins : bound_of c.edge_at-lo.result ≡ Included low = c.edge_at-lo.ensures
    ∙ (ap (λ (x : Bool). cond x (Included c.deref.result.now) Unbounded) c.if-bounded.true
    ∙ ap (λ (x : List ℕ). Included x) c.deref.ensures.0) in
    let ends = subst (λ (r : Option Bool). IsEndOfLooks c.args.budget c.look_left.new.spent r low
    k.0.upper)
    (c.in-Some-look_left.is ∙ ap (λ (x : Bool). Some x) c.if-bounded.true)
    c.look_left.ensures.ends in
    let looked = left_then c in
    let learnt = learnt_both z m.0.upper k.0.upper v.0.upper
    (left_learnt z a b m k looked c.requires.work.known) c.take_run.ensures.learnt in
    absurd (never_vanishes z hi m n k cursor walk c.in-Some.route c.in-Some.is alone left.0 low
    v.0.upper c.in-Ok.run'
    (left_alone z m k a b looked alone) c.requires.fresh.at_pin c.requires.work.known learnt ends.0
    ends.1
    (subst (λ (x : Bound). HasAllUpTo x (bound_of hi) z v.0.upper c.in-Ok.run') begins
    c.in-Ok.ensures.run)
    (c.last_within-found.ensures.last
    ∙ ap (λ (x : Bool). cond x (Some c.last_within-found.new.into.items) None)
    c.if-not-found.true))

pub returns-else-bounded-clause-alone : goal.returns-else-bounded-clause-alone
returns-else-bounded-clause-alone c alone = let z = c.args.tree.now.space.table.shared.key in
    let m = c.args.pass.now.seat.me in
    let n = c.look_near-near.new.pass.seat.me in let k = c.look_left.new.pass.seat.me in
    let v = c.take_run.new.pass.seat.me in
    let read = c.last_within-found.new.pass.seat.me in
    let p = c.enter_last-in-Ok.new.pass.seat.me in
    let left = left_of_walk z c.args.self.now.hi m n k c.look_near-near.result.0
    c.look_near-near.ensures.walked alone c.requires.work.known
    c.look_left.ensures.alone in let bases = left.2.bases in
    let run = c.take_run.ensures.alone left.1 in (
      passes_within ((bases_at m + bases_at k) + 0) (2 * bases_at m) m p (omega arith)
          (passes_both (bases_at m + bases_at k) 0 m read p
          (subst (λ (x : MyTree). PassesAlone (bases_at m + bases_at k) m x)
          (sym c.last_within-found.ensures.frame.still)
          (passes_both (bases_at m) (bases_at k) m k v left.2 run.0))
          (passes_entered _ read p c.enter_last-in-Ok.ensures.entered)),
      tt,
    )

pub returns-in-Err-clause-alone : goal.returns-in-Err-clause-alone
returns-in-Err-clause-alone c alone = let z = c.args.tree.now.space.table.shared.key in
    let m = c.args.pass.now.seat.me in
    let n = c.look_near-near.new.pass.seat.me in let k = c.look_left.new.pass.seat.me in
    let v = c.take_run.new.pass.seat.me in
    let walk = c.look_near-near.ensures.walked in
    let left = left_of_walk z c.args.self.now.hi m n k c.look_near-near.result.0 walk alone
    c.requires.work.known
    c.look_left.ensures.alone in let bases = left.2.bases in
    let run = c.in-Err.ensures.alone left.1 in
    let kept = ap (λ (x : KeptRows). vec_len x.rows) (c.look_left.ensures.frame.kept
    ∙ c.look_near-near.ensures.frame.kept) in (
      passes_within (bases_at m + bases_at k) (2 * bases_at m) m v (omega arith)
          (passes_both (bases_at m) (bases_at k) m k v left.2 run.0),
      missed_alone {T = Bool} z (vec_len c.args.pass.now.kept.rows) (Err c.in-Err.why) m.0.upper
          k.0.upper
          (left.0.same ∙ ap (λ (x : MyTree). x.0.upper.inventory) walk.now) (walk.few_rows alone)
          (subst (λ (count : ℕ). HasMissedAlone {T = Bool} z count (Err c.in-Err.why) k.0.upper)
          kept run.1),
    )
