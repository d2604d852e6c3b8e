use Rattle.std.proofs.Common.{◌≡◌, ℕ, ◌<◌, refl, ap, ◌∙◌, sym, subst, inl, inr, vec_len, Result, IfErr, false, true, arith, ◌+◌}
use Rattle.ca_base.specs.declared.stop.Stop.TheVariants as stop
use Rattle.ca_replace.specs.declared.attempting.Halt.{Halt}
use Rattle.ca_replace.specs.declared.attempting.Halt.TheVariants as halt
use Rattle.ca_node.specs.TreeView.{TreeView}
use Rattle.ca_base.specs.Progress.{IsFurther}
use Rattle.ca_replace.specs.Adapting.{IsCauseMet, IsCauseMetInAttempts, Waits}
use Rattle.ca_replace.specs.Causes.{IsFullSince, IsRefill}
use Rattle.ca_replace.specs.Attempting.{HasStopped, total}
use Rattle.ca_replace.specs.Growing.{HasWaited}
use Rattle.ca_replace.specs.Crowding.{HasCrowded, HasFewAlone}
use Rattle.ca_replace.proofs.Alone.{alone_at, first_number, lone_losses, refill_crowded, refused_uncrowded}
use Rattle.ca_replace.proofs.Causing.{caused_as, few_from, nearer, refill_caused}
use Rattle.ca_replace.proofs.Pacing.{bounded_by, bounded_yet, kept_more, none_yet, paid_more}
use Rattle.ca_replace.proofs.Pinning.{begun_with, empty_before}
use Rattle.ca_replace.proofs.Counted.{none_paid, paid_both, paid_given, spends_more, paid_stopped}
use Rattle.ca_replace.proofs.GoingOn.{gone_on, idle_waits, refused_gone, stopped_waits, waits_on}
use Rattle.ca_replace.proofs.Meeting.{further_on}
use Rattle.ca_replace.proofs.Showing.{tried_on}
use Rattle.ca_replace.proofs.Turns.{attempted_as, no_further, stopped_further}
use Rattle.ca_replace.proofs.DueCauses.{refused_met}
use Rattle.ca_rows.specs.declared.view.Met.{Met}
use Rattle.ca_replace.proofs.Growing.{alone_on, attempts_so_far, grown_refused, has_waited}
use Rattle.ca_replace.specs.Cutting.{HasCutFull}
use Rattle.ca_replace.proofs.Cutting.{cut_refused, cuts_so_far, none_full, stopped_cut}
use Rattle.ca_replace.specs.Winning.{LosesNone}
use Rattle.ca_replace.proofs.Winning.{loses_both, no_turns, stop_won, won_behind, won_refused}
use Rattle.ca_rows.specs.declared.sizes.Sizes.{Sizes}
use Rattle.ca_model.specs.declared.outcome.Cause.{Cause}
use Rattle.ca_range.specs.Loading.{help_loads}
use Rattle.ca_replace.specs.Loading.{LoadsFew, LoadsInAttempts, loads_until, most_loads, unpaid}
use Rattle.ca_replace.proofs.Loads.{loads_come, loads_refused, none_loaded}
use Rattle.ca_replace.proofs.calls.attempts.Goals as goal

-- what an attempt comes to that found no row
abbrev empty_halt : Halt
empty_halt = halt.Stopped stop.Empty

pub turns-come-requires-clause-unspent : goal.turns-come-requires-clause-unspent
turns-come-requires-clause-unspent g c = c.loop-come.invariant.unspent

pub loop-come-init : goal.loop-come-init
loop-come-init g c = record {
  number = refl;
  resting = c.requires.resting;
  further = no_further c.args.pass.now.seat.me.0.upper;
  counted = none_paid c.args.course.now.spent c.args.pass.now.seat.me c.args.pass.now.seat.me refl
      refl;
  looks = omega arith;
  lags = refl;
  unspent = let none = c.requires.none in let some = c.requires.budget in
      omega (arith, none.0, none.1, none.2);
  waits = idle_waits c.args.course.now.adapting c.args.pass.now.seat.me.0.upper
      c.args.pass.now.seat.me.0.upper (refl, refl, refl);
  won = λ _. no_turns c.args.pass.now.seat.me.0.upper;
  waited = λ _. inl (refl, refl);
  few_rows = λ few. few;
  full = none_full c.args.tree.now.space.table.shared.key
      (g.A.Attempt.adds c.args.order.now.what.now) c.args.pass.now.seat.me.0.upper.cuts
      c.args.pass.now.seat.me.0.upper.cuts refl;
  worn = refl;
  first = inl (refl, refl);
  loads = none_loaded c.args.tree.now.space.table.shared.key c.args.pass.now.seat.me;
  yet = none_yet _ _ c.args.pass.now.seat.me;
}

pub turns-come-requires-clause-resting : goal.turns-come-requires-clause-resting
turns-come-requires-clause-resting g c = c.loop-come.invariant.resting

pub loop-come-smaller : goal.loop-come-smaller
loop-come-smaller g c = let again = c.in_default.ensures.again refl in
    let i = c.loop-come.invariant in let turns = paid_stopped c.turns-come.result empty_halt
    c.loop-come.course.spent c.turns-come.new.course.spent
    c.loop-come.pass.seat.me c.turns-come.new.pass.seat.me (c.if-is_empty.ensures.0 refl)
    c.turns-come.ensures.counted in
    let so_far =
    paid_both c.args.course.now.spent c.loop-come.course.spent c.turns-come.new.course.spent
    c.args.pass.now.seat.me c.loop-come.pass.seat.me
    c.turns-come.new.pass.seat.me i.counted turns in
    nearer c.args.order.now.budget (total c.loop-come.course.spent)
    (total c.turns-come.new.course.spent) (total c.refill.new.spent)
    (vec_len c.loop-come.pass.kept.rows)
    (vec_len c.refill.new.pass.kept.rows)
    (spends_more c.args.course.now.spent c.loop-come.course.spent c.turns-come.new.course.spent
    c.args.pass.now.seat.me c.loop-come.pass.seat.me c.turns-come.new.pass.seat.me
    c.requires.none i.counted turns)
    (spends_more c.args.course.now.spent c.turns-come.new.course.spent c.refill.new.spent
    c.args.pass.now.seat.me c.turns-come.new.pass.seat.me c.refill.new.pass.seat.me
    c.requires.none so_far c.refill.ensures.counted)
    (subst (λ n. 0 < n) c.kept-kept.ensures again.some, again.unspent, again.nearer)

-- An attempt that found no free row, and rows that were given back, behind the attempts so far.
pub loop-come-preserved : goal.loop-come-preserved
loop-come-preserved g c = let i = c.loop-come.invariant in
    let tells = λ (x : _). g.A.Attempt.tells c.args.order.now.what.now x c.turns-come.new.left in
    let start = c.args.pass.now.seat.me in let before = c.loop-come.pass.seat.me in
    let behind = c.turns-come.new.pass.seat.me in
    let last = c.refill.new.pass.seat.me in let empty = c.if-is_empty.ensures.0 refl in
    let met = subst
    (λ (x : Result _ Halt). HasStopped x before behind) empty c.turns-come.ensures.found in
    let given = c.refill.ensures.gave.met in
    let emptied = empty_before (vec_len c.loop-come.pass.kept.rows) c.kept-kept.result
    (vec_len c.refill.new.pass.kept.rows) start before behind last
    c.args.pass.now.kept.rows c.kept-kept.ensures (c.in_default.ensures.again refl).some
    (let one = i.counted.more in
    let two = (paid_stopped c.turns-come.result empty_halt c.loop-come.course.spent
    c.turns-come.new.course.spent
    c.loop-come.pass.seat.me c.turns-come.new.pass.seat.me (c.if-is_empty.ensures.0 refl)
    c.turns-come.ensures.counted).more in
    omega arith)
    (c.in_default.ensures.again refl).begins i.first met given
    c.turns-come.ensures.pinned c.refill.ensures.gave.lags c.refill.ensures.looked in record {
      number = c.refill.ensures.frame.number ∙ (c.turns-come.ensures.frame.number ∙ i.number);
      resting = c.refill.ensures.frame.resting;
      further = subst (IsFurther start.0.upper) (sym c.refill.ensures.gave.upper)
          (further_on start.0.upper before.0.upper behind.0.upper i.further
          (stopped_further tells c.args.tree.now.space.table.shared.key c.turns-come.result
          empty_halt before.0.upper behind.0.upper empty
          c.turns-come.ensures.tried));
      counted = paid_both c.args.course.now.spent c.turns-come.new.course.spent c.refill.new.spent
          start behind last
          (paid_both c.args.course.now.spent c.loop-come.course.spent c.turns-come.new.course.spent
          start before behind i.counted (paid_stopped c.turns-come.result empty_halt
          c.loop-come.course.spent c.turns-come.new.course.spent
          c.loop-come.pass.seat.me c.turns-come.new.pass.seat.me (c.if-is_empty.ensures.0 refl)
          c.turns-come.ensures.counted))
          c.refill.ensures.counted;
      looks = let before = i.looks in let same = c.turns-come.ensures.pinned.looks in
          let more = c.refill.ensures.looked in omega arith;
      waits = subst (Waits c.args.course.now.adapting c.turns-come.new.course.adapting
          start.0.upper) (sym c.refill.ensures.gave.upper)
          (waits_on c.args.course.now.adapting c.loop-come.course.adapting
          c.turns-come.new.course.adapting start.0.upper before.0.upper behind.0.upper i.waits
          (stopped_waits
          (λ (x : _). g.A.Attempt.edits c.args.order.now.what.now x)
          c.args.tree.now.space.table.shared.key c.args.tree.now.tuning
          c.loop-come.course.adapting c.turns-come.new.course.adapting c.turns-come.result
          empty_halt before.0.upper behind.0.upper empty c.turns-come.ensures.turns.gone_on));
      won = λ alone. subst (LosesNone start.0.upper) (sym c.refill.ensures.gave.upper)
          (loses_both start.0.upper before.0.upper behind.0.upper (i.won alone)
          (stop_won (λ (x : _). g.A.Attempt.edits c.args.order.now.what.now x)
          c.turns-come.result empty_halt before.0.upper behind.0.upper empty
          (c.turns-come.ensures.turns.won (alone_on
          c.args.tree.now.space.table.shared.key start.0.upper before.0.upper i.further.number
          alone))));
      waited = λ alone.
          subst (HasWaited c.args.tree.now.space.table.shared.key
          (g.A.Attempt.adds c.args.order.now.what.now) start.0.upper)
          (sym c.refill.ensures.gave.upper)
          (has_waited c.args.tree.now.space.table.shared.key
          (g.A.Attempt.adds c.args.order.now.what.now) c.turns-come.result empty_halt
          start.0.upper behind.0.upper
          empty
          (attempts_so_far tells c.args.tree.now.space.table.shared.key
          (g.A.Attempt.adds c.args.order.now.what.now) c.turns-come.result start.0.upper
          before.0.upper
          behind.0.upper c.requires.resting.known i.resting.known i.further i.waited
          c.turns-come.ensures.tried c.turns-come.ensures.turns.grown alone));
      few_rows = λ _. i.few_rows
          (subst (λ (x : Result _ Halt). IfErr x
          (λ _. HasFewAlone c.args.tree.now.space.table.shared.key before.0.upper))
          empty c.turns-come.ensures.few_rows);
      full = let edits = λ (x : _). g.A.Attempt.edits c.args.order.now.what.now x in
          let z = c.args.tree.now.space.table.shared.key in
          let adds = g.A.Attempt.adds c.args.order.now.what.now in
          subst (HasCutFull z adds start.0.upper) (sym c.refill.ensures.gave.upper)
          (stopped_cut edits z adds c.turns-come.result empty_halt start.0.upper behind.0.upper
          empty
          (cuts_so_far edits z adds c.turns-come.result start.0.upper before.0.upper behind.0.upper
          i.full c.turns-come.ensures.turns.cut));
      worn = omega (arith, i.worn, met.1, given.1);
      unspent = (c.in_default.ensures.again refl).unspent;
      lags = (c.in_default.ensures.again refl).unlagged
          ∙ (c.turns-come.ensures.pinned.lags ∙ i.lags);
      first = inr emptied;
      loads = let z = c.args.tree.now.space.table.shared.key in let m = c.loop-come.pass.seat.me in
          let n = c.turns-come.new.pass.seat.me in
          let p = c.refill.new.pass.seat.me in let edits = λ (x : _). g.A.Attempt.edits
          c.args.order.now.what.now x in
          loads_refused z c.args.pass.now.seat.me m n p c.loop-come.invariant.loads
          c.turns-come.ensures.paced.pins c.turns-come.ensures.paced.more
          c.refill.ensures.gave.upper c.refill.ensures.gave.bounded.0
          (paid_more c.turns-come.new.course.spent c.refill.new.spent n p c.refill.ensures.counted)
          (help_loads z) n.0.upper.loads (omega arith) refl
          (subst (λ (x : Result _ Halt). LoadsFew (most_loads z) ((z.levels + 1) + unpaid z x)
          (loads_until edits x n.0.upper) m n)
          (c.if-is_empty.ensures.0 refl) c.turns-come.ensures.loads);
      yet = bounded_yet (vec_len c.loop-come.pass.kept.rows) (vec_len c.args.pass.now.kept.rows)
          start before behind last i.yet
          c.turns-come.ensures.paced c.turns-come.ensures.pinned.looks
          c.refill.ensures.gave.bounded.0 c.refill.ensures.gave.bounded.1
          c.refill.ensures.gave.lags.1
          (paid_more c.turns-come.new.course.spent c.refill.new.spent behind last
          c.refill.ensures.counted)
          (vec_len c.refill.new.pass.kept.rows)
          (subst (λ n. 0 < n) c.kept-kept.ensures (c.in_default.ensures.again refl).some)
          (c.in_default.ensures.again refl).begins c.refill.ensures.gave.upper
          (let found = emptied.0 in omega arith) emptied.1
          (let looked = c.refill.ensures.looked in omega arith);
    }

pub returns-in-Err-clause-frame : goal.returns-in-Err-clause-frame
returns-in-Err-clause-frame g c = record {
  number = c.refill.ensures.frame.number ∙ (c.turns-come.ensures.frame.number
      ∙ c.loop-come.invariant.number);
  resting = c.refill.ensures.frame.resting;
}

pub returns-in-Err-clause-bounded : goal.returns-in-Err-clause-bounded
returns-in-Err-clause-bounded g c = bounded_by (vec_len c.loop-come.pass.kept.rows)
    (vec_len c.args.pass.now.kept.rows) c.args.pass.now.seat.me
    c.loop-come.pass.seat.me c.turns-come.new.pass.seat.me c.refill.new.pass.seat.me
    c.loop-come.invariant.yet c.turns-come.ensures.paced
    c.turns-come.ensures.pinned.looks c.refill.ensures.gave.bounded.0
    c.refill.ensures.gave.bounded.1 c.refill.ensures.gave.lags.1
    (paid_more c.turns-come.new.course.spent c.refill.new.spent c.turns-come.new.pass.seat.me
    c.refill.new.pass.seat.me c.refill.ensures.counted)

pub returns-else-is_empty-clause-bounded : goal.returns-else-is_empty-clause-bounded
returns-else-is_empty-clause-bounded g c = bounded_by (vec_len c.loop-come.pass.kept.rows)
    (vec_len c.args.pass.now.kept.rows)
    c.args.pass.now.seat.me c.loop-come.pass.seat.me c.turns-come.new.pass.seat.me
    c.keep_few.new.pass.seat.me c.loop-come.invariant.yet
    c.turns-come.ensures.paced c.turns-come.ensures.pinned.looks c.keep_few.ensures.gave.bounded.0
    c.keep_few.ensures.gave.bounded.1
    c.keep_few.ensures.gave.lags.1
    (kept_more c.keep_few.result c.turns-come.new.pass.seat.me c.keep_few.new.pass.seat.me
    c.keep_few.ensures.gave c.keep_few.ensures.lost)

pub returns-in-Err-clause-few : goal.returns-in-Err-clause-few
returns-in-Err-clause-few g c =
    few_from c.args.pass.now.seat.me c.turns-come.new.pass.seat.me c.refill.new.pass.seat.me
    c.refill.new.pass.kept.rows
    (let before = c.loop-come.invariant.looks in
    let same = c.turns-come.ensures.pinned.looks in
    omega arith) (c.in-Err.ensures.few refl)

pub returns-else-is_empty-clause-few : goal.returns-else-is_empty-clause-few
returns-else-is_empty-clause-few g c =
    few_from c.args.pass.now.seat.me c.turns-come.new.pass.seat.me c.keep_few.new.pass.seat.me
    c.keep_few.new.pass.kept.rows
    (let before = c.loop-come.invariant.looks in
    let same = c.turns-come.ensures.pinned.looks in
    omega arith) c.keep_few.ensures.few

pub returns-in-Err-clause-come : goal.returns-in-Err-clause-come
returns-in-Err-clause-come g c = let i = c.loop-come.invariant in
    let tells = λ (x : _). g.A.Attempt.tells c.args.order.now.what.now x c.turns-come.new.left in
    let u = c.args.pass.now.seat.me.0.upper in let before = c.loop-come.pass.seat.me.0.upper in
    let behind = c.turns-come.new.pass.seat.me.0.upper in
    subst (IsFurther u) (sym c.refill.ensures.gave.upper)
    (further_on u before behind i.further
    (stopped_further tells c.args.tree.now.space.table.shared.key c.turns-come.result empty_halt
    before behind (c.if-is_empty.ensures.0 refl) c.turns-come.ensures.tried))

pub returns-else-is_empty-clause-come : goal.returns-else-is_empty-clause-come
returns-else-is_empty-clause-come g c =
    let tells = λ (x : _). g.A.Attempt.tells c.args.order.now.what.now x c.turns-come.new.left in
    let z = c.args.tree.now.space.table.shared.key in let u = c.args.pass.now.seat.me.0.upper in
    attempted_as tells z c.turns-come.result c.or_refusal.result _ _ u
    c.turns-come.new.pass.seat.me.0.upper c.keep_few.new.pass.seat.me.0.upper
    c.keep_few.ensures.gave.upper c.or_refusal.ensures
    (tried_on tells z c.turns-come.result u c.loop-come.pass.seat.me.0.upper
    c.turns-come.new.pass.seat.me.0.upper c.loop-come.invariant.further c.turns-come.ensures.tried)

pub returns-in-Err-clause-caused : goal.returns-in-Err-clause-caused
returns-in-Err-clause-caused g c = let i = c.loop-come.invariant in
    let start = c.args.pass.now.seat.me in let before = c.loop-come.pass.seat.me in
    let behind = c.turns-come.new.pass.seat.me in let last = c.refill.new.pass.seat.me in
    let z = c.args.tree.now.space.table.shared.key in
    let met = subst
    (λ (x : Result _ Halt). HasStopped x before behind) (c.if-is_empty.ensures.0 refl)
    c.turns-come.ensures.found in
    refill_caused z c.args.pass.now.number c.args.order.now.budget c.kept-kept.result
    (g.A.Attempt.adds c.args.order.now.what.now) c.in-Err.why
    c.refill.new.spent start behind last c.args.pass.now.kept.rows c.refill.new.pass.kept.rows
    record {
      spent = c.args.course.now.spent;
      none = c.requires.none;
      counted = paid_both c.args.course.now.spent c.turns-come.new.course.spent c.refill.new.spent
          start behind last
          (paid_both c.args.course.now.spent c.loop-come.course.spent c.turns-come.new.course.spent
          start before behind i.counted
          (paid_stopped c.turns-come.result empty_halt c.loop-come.course.spent
          c.turns-come.new.course.spent
          c.loop-come.pass.seat.me c.turns-come.new.pass.seat.me (c.if-is_empty.ensures.0 refl)
          c.turns-come.ensures.counted)) c.refill.ensures.counted;
    }
    (begun_with z.rows c.kept-kept.result start before behind last
    c.args.pass.now.kept.rows c.loop-come.pass.kept.rows c.kept-kept.ensures i.resting.are_kept
    i.first
    (let two = (paid_stopped c.turns-come.result empty_halt c.loop-come.course.spent
    c.turns-come.new.course.spent
    c.loop-come.pass.seat.me c.turns-come.new.pass.seat.me (c.if-is_empty.ensures.0 refl)
    c.turns-come.ensures.counted).more in let three = c.refill.ensures.counted.more in
    omega arith) met c.refill.ensures.gave.met c.turns-come.ensures.pinned
    c.refill.ensures.gave.lags)
    (let more = i.looks in let same = c.turns-come.ensures.pinned.looks in omega arith)
    (subst (λ (k : ℕ).
    IsRefill z.passes k c.args.order.now.budget c.kept-kept.result c.refill.new.spent
    c.in-Err.why behind last c.refill.new.pass.kept.rows)
    (c.turns-come.ensures.frame.number ∙ i.number) c.in-Err.ensures.refused)

pub returns-else-is_empty-clause-caused : goal.returns-else-is_empty-clause-caused
returns-else-is_empty-clause-caused g c = let i = c.loop-come.invariant in
    let start = c.args.pass.now.seat.me in let before = c.loop-come.pass.seat.me in
    let behind = c.turns-come.new.pass.seat.me in let last = c.keep_few.new.pass.seat.me in
    let tree = c.args.tree.now in
    let z = tree.space.table.shared.key in let adds = g.A.Attempt.adds c.args.order.now.what.now in
    let upper = c.keep_few.ensures.gave.upper in
    let found = c.turns-come.ensures.found in let given = c.keep_few.ensures.gave.met in
    caused_as z c.args.pass.now.number c.args.order.now.budget adds c.turns-come.result
    c.or_refusal.result _ start last
    c.args.pass.now.kept.rows c.keep_few.new.pass.kept.rows (
      _,
      c.or_refusal.ensures,
      (let levels = tree.tuned.levels in
          let same = ap (λ (y : Sizes). y.levels) tree.space.same in omega arith),
    )
    record {
      full = λ e. let wrong : false ≡ true = c.if-is_empty.ensures.1 e in cc;
      deep = λ e. subst
          (λ (u : TreeView). IsFullSince z adds u) (sym upper)
          (c.turns-come.ensures.deep e);
      lost = λ e. let most = c.turns-come.ensures.lost e in let more = c.add-course.ensures.more in
          omega arith;
      paid = λ why e. record {
        spent = c.args.course.now.spent;
        none = c.requires.none;
        counted = paid_both c.args.course.now.spent c.turns-come.new.course.spent _ start behind
            last
            (paid_both c.args.course.now.spent c.loop-come.course.spent
            c.turns-come.new.course.spent start before behind i.counted
            (paid_stopped c.turns-come.result why c.loop-come.course.spent
            c.turns-come.new.course.spent before behind e
            c.turns-come.ensures.counted))
            (paid_given c.turns-come.new.course.spent c.keep_few.result c.add-course.result behind
            last c.add-course.ensures.sum
            c.keep_few.ensures.lost upper);
      };
      worn = λ e. let met = subst (λ (x : Result _ Halt). HasStopped x before behind) e found in
          omega (arith, i.worn, met.1, given.1);
    }

pub returns-in-Err-clause-crowded : goal.returns-in-Err-clause-crowded
returns-in-Err-clause-crowded g c one = let i = c.loop-come.invariant in
    let space = c.args.tree.now.space.table.shared in let z = space.key in
    let start = c.args.pass.now in let before = c.loop-come.pass in
    let behind = c.turns-come.new.pass in
    let adds = g.A.Attempt.adds c.args.order.now.what.now in
    let edits = λ (x : _). g.A.Attempt.edits c.args.order.now.what.now x in
    let tells = λ (x : _). g.A.Attempt.tells c.args.order.now.what.now x c.turns-come.new.left in
    let empty = c.if-is_empty.ensures.0 refl in let resting = c.turns-come.ensures.frame.resting in
    let turns = c.turns-come.ensures.turns in
    let here = alone_at space.table_id z before.number before.tally before.kept.rows before.seat
    i.resting one in
    let first = alone_at space.table_id z start.number start.tally start.kept.rows start.seat
    c.requires.resting one in
    refill_crowded z behind.number c.args.order.now.budget c.kept-kept.result _ _ adds
    c.refill.new.spent c.in-Err.why start.seat.me.0.upper
    before.seat.me behind.seat.me c.refill.new.pass.seat.me c.refill.new.pass.kept.rows one
    (first_number space.table_id z behind.number behind.tally behind.kept.rows behind.seat resting
    one) c.kept-kept.ensures c.in-Err.ensures.refused
    (subst (λ (x : Result _ Halt). HasCrowded x z.rows (vec_len before.kept.rows)
    (vec_len behind.kept.rows) before.seat.me behind.seat.me) empty
    (c.turns-come.ensures.crowds here))
    (lone_losses before.seat.me behind.seat.me (i.resting.unlost one) (resting.unlost one)
    (stop_won edits c.turns-come.result empty_halt before.seat.me.0.upper behind.seat.me.0.upper
    empty (turns.won here)).0)
    (has_waited z adds c.turns-come.result empty_halt before.seat.me.0.upper behind.seat.me.0.upper
    empty (turns.grown here))
    (has_waited z adds c.turns-come.result empty_halt start.seat.me.0.upper behind.seat.me.0.upper
    empty
    (attempts_so_far tells z adds c.turns-come.result start.seat.me.0.upper before.seat.me.0.upper
    behind.seat.me.0.upper
    c.requires.resting.known i.resting.known i.further i.waited c.turns-come.ensures.tried
    turns.grown first))
    (i.few_rows (subst (λ (x : Result _ Halt). IfErr x (λ _. HasFewAlone z before.seat.me.0.upper))
    empty c.turns-come.ensures.few_rows) first)

pub returns-else-is_empty-clause-crowded : goal.returns-else-is_empty-clause-crowded
returns-else-is_empty-clause-crowded g c one = refused_uncrowded
    c.args.tree.now.space.table.shared.key 11 c.args.pass.now.seat.me.0.upper
    c.turns-come.result c.or_refusal.result _ _ c.or_refusal.ensures

pub returns-in-Err-clause-lags : goal.returns-in-Err-clause-lags
returns-in-Err-clause-lags g c = let i = c.loop-come.invariant in
    let same = c.turns-come.ensures.pinned.lags in let once = c.refill.ensures.gave.lags in (
      (let before = i.lags in let one = once.0 in omega arith),
      ap (λ (x : Met). x.lags) once.1 ∙ (c.turns-come.ensures.pinned.entered ∙ i.lags),
    )

pub returns-else-is_empty-clause-lags : goal.returns-else-is_empty-clause-lags
returns-else-is_empty-clause-lags g c = let i = c.loop-come.invariant in
    let same = c.turns-come.ensures.pinned.lags in let once = c.keep_few.ensures.gave.lags in (
      (let before = i.lags in let one = once.0 in omega arith),
      ap (λ (x : Met). x.lags) once.1 ∙ (c.turns-come.ensures.pinned.entered ∙ i.lags),
    )

pub returns-in-Err-clause-turns : goal.returns-in-Err-clause-turns
returns-in-Err-clause-turns g c = record {
  met_as = tt;
  gone_on = subst (Waits c.args.course.now.adapting c.turns-come.new.course.adapting
      c.args.pass.now.seat.me.0.upper) (sym c.refill.ensures.gave.upper)
      (waits_on c.args.course.now.adapting c.loop-come.course.adapting
      c.turns-come.new.course.adapting c.args.pass.now.seat.me.0.upper
      c.loop-come.pass.seat.me.0.upper
      c.turns-come.new.pass.seat.me.0.upper c.loop-come.invariant.waits
      (stopped_waits
      (λ (x : _). g.A.Attempt.edits c.args.order.now.what.now x)
      c.args.tree.now.space.table.shared.key c.args.tree.now.tuning
      c.loop-come.course.adapting c.turns-come.new.course.adapting c.turns-come.result empty_halt
      c.loop-come.pass.seat.me.0.upper c.turns-come.new.pass.seat.me.0.upper
      (c.if-is_empty.ensures.0 refl) c.turns-come.ensures.turns.gone_on));
  grown = λ alone. let tells = λ (x : _).
      g.A.Attempt.tells c.args.order.now.what.now x c.turns-come.new.left in
      let z = c.args.tree.now.space.table.shared.key in
      let adds = g.A.Attempt.adds c.args.order.now.what.now in
      let u = c.args.pass.now.seat.me.0.upper in
      let i = c.loop-come.invariant in
      subst (HasWaited z adds u) (sym c.refill.ensures.gave.upper)
      (has_waited z adds c.turns-come.result empty_halt u c.turns-come.new.pass.seat.me.0.upper
      (c.if-is_empty.ensures.0 refl)
      (attempts_so_far tells z adds c.turns-come.result u c.loop-come.pass.seat.me.0.upper
      c.turns-come.new.pass.seat.me.0.upper
      c.requires.resting.known i.resting.known i.further i.waited c.turns-come.ensures.tried
      c.turns-come.ensures.turns.grown alone));
  won = λ alone. let i = c.loop-come.invariant in let u = c.args.pass.now.seat.me.0.upper in
      subst (LosesNone u) (sym c.refill.ensures.gave.upper)
      (loses_both u c.loop-come.pass.seat.me.0.upper c.turns-come.new.pass.seat.me.0.upper
      (i.won alone)
      (stop_won
      (λ (x : _). g.A.Attempt.edits c.args.order.now.what.now x) c.turns-come.result empty_halt
      c.loop-come.pass.seat.me.0.upper c.turns-come.new.pass.seat.me.0.upper
      (c.if-is_empty.ensures.0 refl) (c.turns-come.ensures.turns.won (alone_on
      c.args.tree.now.space.table.shared.key u
      c.loop-come.pass.seat.me.0.upper i.further.number alone))));
  cut = let edits = λ (x : _). g.A.Attempt.edits c.args.order.now.what.now x in
      let z = c.args.tree.now.space.table.shared.key in
      let adds = g.A.Attempt.adds c.args.order.now.what.now in
      let u = c.args.pass.now.seat.me.0.upper in
      subst (HasCutFull z adds u) (sym c.refill.ensures.gave.upper)
      (stopped_cut edits z adds c.turns-come.result empty_halt u
      c.turns-come.new.pass.seat.me.0.upper (c.if-is_empty.ensures.0 refl)
      (cuts_so_far edits z adds c.turns-come.result u c.loop-come.pass.seat.me.0.upper
      c.turns-come.new.pass.seat.me.0.upper c.loop-come.invariant.full
      c.turns-come.ensures.turns.cut));
}

pub returns-else-is_empty-clause-turns : goal.returns-else-is_empty-clause-turns
returns-else-is_empty-clause-turns g c = record {
  met_as = let edits = λ (x : _). g.A.Attempt.edits c.args.order.now.what.now x in
      let last = c.turns-come.new.course.adapting.last in
      refused_met (IsCauseMet last.adapted c.keep_few.new.pass.seat.me.0.pin.left
      c.keep_few.new.pass.seat.me.0.upper) edits c.turns-come.result
      c.or_refusal.result _ _ c.or_refusal.ensures (subst
      (λ (x : Met × TreeView). IsCauseMetInAttempts edits last c.turns-come.result x.0 x.1)
      (λ i. (sym c.keep_few.ensures.left i, sym c.keep_few.ensures.gave.upper i))
      c.turns-come.ensures.turns.met_as);
  gone_on = let edits = λ (x : _). g.A.Attempt.edits c.args.order.now.what.now x in
      let z = c.args.tree.now.space.table.shared.key in
      let t = c.args.tree.now.tuning in let a = c.args.course.now.adapting in
      let b = c.turns-come.new.course.adapting in let u = c.args.pass.now.seat.me.0.upper in
      refused_gone edits z t a b c.turns-come.result c.or_refusal.result u
      c.turns-come.new.pass.seat.me.0.upper c.keep_few.new.pass.seat.me.0.upper
      c.keep_few.ensures.gave.upper (_, _, c.or_refusal.ensures)
      (gone_on edits z t a c.loop-come.course.adapting b c.turns-come.result u
      c.loop-come.pass.seat.me.0.upper c.turns-come.new.pass.seat.me.0.upper
      c.loop-come.invariant.waits c.turns-come.ensures.turns.gone_on);
  grown = λ alone. let tells = λ (x : _).
      g.A.Attempt.tells c.args.order.now.what.now x c.turns-come.new.left in
      let z = c.args.tree.now.space.table.shared.key in
      let adds = g.A.Attempt.adds c.args.order.now.what.now in
      let u = c.args.pass.now.seat.me.0.upper in
      let i = c.loop-come.invariant in
      grown_refused z adds c.turns-come.result c.or_refusal.result _ _ u
      c.turns-come.new.pass.seat.me.0.upper c.keep_few.new.pass.seat.me.0.upper
      c.keep_few.ensures.gave.upper c.or_refusal.ensures
      (attempts_so_far tells z adds c.turns-come.result u c.loop-come.pass.seat.me.0.upper
      c.turns-come.new.pass.seat.me.0.upper c.requires.resting.known i.resting.known i.further
      i.waited c.turns-come.ensures.tried
      c.turns-come.ensures.turns.grown alone);
  won = λ alone. let edits = λ (x : _). g.A.Attempt.edits c.args.order.now.what.now x in
      let u = c.args.pass.now.seat.me.0.upper in
      let i = c.loop-come.invariant in
      won_refused edits c.turns-come.result c.or_refusal.result _ _ u
      c.turns-come.new.pass.seat.me.0.upper c.keep_few.new.pass.seat.me.0.upper
      c.keep_few.ensures.gave.upper c.or_refusal.ensures
      (won_behind edits c.turns-come.result u c.loop-come.pass.seat.me.0.upper
      c.turns-come.new.pass.seat.me.0.upper (i.won alone)
      (c.turns-come.ensures.turns.won (alone_on c.args.tree.now.space.table.shared.key u
      c.loop-come.pass.seat.me.0.upper i.further.number alone)));
  cut = let edits = λ (x : _). g.A.Attempt.edits c.args.order.now.what.now x in
      let z = c.args.tree.now.space.table.shared.key in
      let adds = g.A.Attempt.adds c.args.order.now.what.now in
      let u = c.args.pass.now.seat.me.0.upper in
      cut_refused edits z adds c.turns-come.result c.or_refusal.result _ _ u
      c.turns-come.new.pass.seat.me.0.upper c.keep_few.new.pass.seat.me.0.upper
      c.keep_few.ensures.gave.upper c.or_refusal.ensures
      (cuts_so_far edits z adds c.turns-come.result u c.loop-come.pass.seat.me.0.upper
      c.turns-come.new.pass.seat.me.0.upper c.loop-come.invariant.full
      c.turns-come.ensures.turns.cut);
}

pub returns-in-Err-clause-loads : goal.returns-in-Err-clause-loads
returns-in-Err-clause-loads g c = (let z = c.args.tree.now.space.table.shared.key in
    let m = c.loop-come.pass.seat.me in let n = c.turns-come.new.pass.seat.me in
    let p = c.refill.new.pass.seat.me in let edits = λ (x : _). g.A.Attempt.edits
    c.args.order.now.what.now x in
    loads_refused z c.args.pass.now.seat.me m n p c.loop-come.invariant.loads
    c.turns-come.ensures.paced.pins c.turns-come.ensures.paced.more
    c.refill.ensures.gave.upper c.refill.ensures.gave.bounded.0
    (paid_more c.turns-come.new.course.spent c.refill.new.spent n p c.refill.ensures.counted)
    (help_loads z) n.0.upper.loads (omega arith) refl
    (subst (λ (x : Result _ Halt). LoadsFew (most_loads z) ((z.levels + 1) + unpaid z x)
    (loads_until edits x n.0.upper) m n)
    (c.if-is_empty.ensures.0 refl) c.turns-come.ensures.loads)).few

pub returns-else-is_empty-clause-loads : goal.returns-else-is_empty-clause-loads
returns-else-is_empty-clause-loads g c = let z = c.args.tree.now.space.table.shared.key in
    let k = c.args.pass.now.seat.me in
    let m = c.loop-come.pass.seat.me in let n = c.turns-come.new.pass.seat.me in
    let p = c.keep_few.new.pass.seat.me in
    let edits = λ (x : _). g.A.Attempt.edits c.args.order.now.what.now x in
    subst (λ (x : Result _ Cause). LoadsInAttempts edits z x k p) (sym c.or_refusal.ensures)
    (loads_come z k m n p c.loop-come.invariant.loads c.turns-come.ensures.paced.pins
    c.turns-come.ensures.paced.more c.keep_few.ensures.gave.upper
    c.keep_few.ensures.gave.bounded.0 (kept_more c.keep_few.result n p c.keep_few.ensures.gave
    c.keep_few.ensures.lost) edits c.turns-come.result _ _
    c.turns-come.ensures.loads)
