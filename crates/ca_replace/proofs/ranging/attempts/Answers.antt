use Rattle.std.proofs.Common.{◌≡◌, ◌<◌, ◌+◌, ◌*◌, ◌∙◌, ℕ, Err, Ok, ap, arith, false, inl, inr, refl, subst, sym, true, vec_len}
use Rattle.ca_base.specs.Progress.{IsFurther}
use Rattle.ca_model.specs.declared.outcome.Cause.{Cause}
use Rattle.ca_node.specs.TreeView.{TreeView}
use Rattle.ca_replace.specs.Acts.{acts_of}
use Rattle.ca_replace.specs.Attempting.{total}
use Rattle.ca_replace.specs.Causes.{IsRefill}
use Rattle.ca_replace.specs.LoneReads.{LooksAlone, bases_at}
use Rattle.ca_replace.specs.Ranging.{HasMissed, IsRangeCaused}
use Rattle.ca_replace.specs.declared.missing.Miss.{Miss}
use Rattle.ca_replace.proofs.Alone.{first_number}
use Rattle.ca_replace.proofs.Causing.{few_from, nearer, unspent}
use Rattle.ca_replace.proofs.Counted.{none_paid, paid_both, paid_given, spends_more}
use Rattle.ca_replace.proofs.Growing.{alone_on}
use Rattle.ca_replace.proofs.LoneReads.{begins_next, begun_passes, passes_given, passes_then, refill_short, refused_other}
use Rattle.ca_replace.proofs.Meeting.{further_on}
use Rattle.ca_replace.proofs.Misses.{range_caused, ranged_on, refill_range_caused}
use Rattle.ca_replace.proofs.Pacing.{bounded_by, bounded_yet, kept_more, looked_by, none_yet, paid_more}
use Rattle.ca_replace.proofs.Pinning.{begun_with, empty_before}
use Rattle.ca_replace.proofs.Turns.{no_further}
use Rattle.ca_rows.specs.declared.view.Met.{Met}
use Rattle.ca_replace.proofs.ReadLoads.{none_read, read_both, read_still}
use Rattle.ca_replace.proofs.ranging.attempts.Goals as goal

pub loop-answer-init : goal.loop-answer-init
loop-answer-init g c = let m = c.args.pass.now.seat.me in record {
  number = refl;
  resting = c.requires.resting;
  further = no_further m.0.upper;
  acts = refl;
  counted = none_paid c.args.spent.now m m refl refl;
  looks = omega arith;
  worn = refl;
  first = inl (refl, refl);
  alone = λ _. inl refl;
  unspent = let none = c.requires.none in let some = c.requires.budget in omega
      (arith, none.0, none.1, none.2);
  lags = refl;
  yet = none_yet _ _ m;
  read = none_read c.args.tree.now.space.table.shared.key m;
}

pub tries-requires-clause-resting : goal.tries-requires-clause-resting
tries-requires-clause-resting g c = c.loop-answer.invariant.resting

pub tries-requires-clause-unspent : goal.tries-requires-clause-unspent
tries-requires-clause-unspent g c = c.loop-answer.invariant.unspent

pub returns-in-Ok-clause-frame : goal.returns-in-Ok-clause-frame
returns-in-Ok-clause-frame g c = record {
  number = c.in-Ok.ensures.frame.number ∙ c.loop-answer.invariant.number;
  at_work = c.in-Ok.ensures.frame.at_work;
}

pub returns-in-Ok-clause-come : goal.returns-in-Ok-clause-come
returns-in-Ok-clause-come g c = let z = c.args.tree.now.space.table.shared.key in
    let on = ranged_on (λ (x : _). g.L.Look.tells c.args.order.now.what.now z x c.tries.new.left) z
    (Ok c.in-Ok.answer)
    c.args.pass.now.seat.me.0.upper c.loop-answer.pass.seat.me.0.upper
    c.tries.new.pass.seat.me.0.upper
    c.loop-answer.invariant.further c.loop-answer.invariant.acts c.in-Ok.ensures.tried in
    (on.0, on.2)

pub returns-then-not-is_without_row-clause-frame : goal.returns-then-not-is_without_row-clause-frame
returns-then-not-is_without_row-clause-frame g c = record {
  number = c.keep_few.ensures.frame.number
      ∙ (c.in-Err.ensures.frame.number ∙ c.loop-answer.invariant.number);
  resting = c.keep_few.ensures.frame.resting;
}

pub returns-then-not-is_without_row-clause-come : goal.returns-then-not-is_without_row-clause-come
returns-then-not-is_without_row-clause-come g c = let u = c.args.pass.now.seat.me.0.upper in
    subst (λ (v : TreeView). IsFurther u v × (acts_of v ≡ acts_of u))
    (sym c.keep_few.ensures.gave.upper) (
      further_on u c.loop-answer.pass.seat.me.0.upper c.tries.new.pass.seat.me.0.upper
          c.loop-answer.invariant.further
          c.in-Err.ensures.tried.0,
      c.in-Err.ensures.tried.2 ∙ c.loop-answer.invariant.acts,
    )

pub returns-then-not-is_without_row-clause-caused :
    goal.returns-then-not-is_without_row-clause-caused
returns-then-not-is_without_row-clause-caused g c = let i = c.loop-answer.invariant in
    let start = c.args.pass.now.seat.me in let before = c.loop-answer.pass.seat.me in
    let behind = c.tries.new.pass.seat.me in let last = c.keep_few.new.pass.seat.me in
    let z = c.args.tree.now.space.table.shared.key in let spent = c.tries.new.spent in
    let why = c.in-Err.why in
    let more = c.add-spent.ensures.more in
    subst (λ (x : Cause). IsRangeCaused (g.L.Look.needs c.args.order.now.what.now) z
    c.args.pass.now.number c.args.order.now.budget x start c.args.pass.now.kept.rows last
    c.keep_few.new.pass.kept.rows) (sym c.refusal.ensures)
    (range_caused (g.L.Look.needs c.args.order.now.what.now) z c.args.pass.now.number
    c.args.order.now.budget spent (record spent { lost = c.add-spent.result }) start before
    behind last c.args.pass.now.kept.rows c.keep_few.new.pass.kept.rows i.worn
    c.keep_few.ensures.gave (omega arith)
    record {
      spent = c.args.spent.now;
      none = c.requires.none;
      counted = paid_both c.args.spent.now spent (record spent { lost = c.add-spent.result }) start
          behind last
          (paid_both c.args.spent.now c.loop-answer.spent spent start before behind i.counted
          c.tries.ensures.counted)
          (paid_given spent c.keep_few.result c.add-spent.result behind last c.add-spent.ensures.sum
          c.keep_few.ensures.lost
          c.keep_few.ensures.gave.upper);
    } why (λ e. let wrong : false ≡ true = c.if-not-is_without_row.ensures.1 e in cc)
    (λ e. c.in-Err.ensures.spent_all (ap Err e)) c.in-Err.ensures.missed)

pub returns-then-not-is_without_row-clause-few : goal.returns-then-not-is_without_row-clause-few
returns-then-not-is_without_row-clause-few g c = few_from c.args.pass.now.seat.me
    c.tries.new.pass.seat.me
    c.keep_few.new.pass.seat.me c.keep_few.new.pass.kept.rows
    (let before = c.loop-answer.invariant.looks in let same = c.tries.ensures.pinned.looks in omega
    arith)
    c.keep_few.ensures.few

pub returns-in-Err-refill-clause-frame : goal.returns-in-Err-refill-clause-frame
returns-in-Err-refill-clause-frame g c = record {
  number = c.refill.ensures.frame.number
      ∙ (c.in-Err.ensures.frame.number ∙ c.loop-answer.invariant.number);
  resting = c.refill.ensures.frame.resting;
}

pub returns-in-Err-refill-clause-come : goal.returns-in-Err-refill-clause-come
returns-in-Err-refill-clause-come g c = let u = c.args.pass.now.seat.me.0.upper in
    subst (λ (v : TreeView). IsFurther u v × (acts_of v ≡ acts_of u))
    (sym c.refill.ensures.gave.upper) (
      further_on u c.loop-answer.pass.seat.me.0.upper c.tries.new.pass.seat.me.0.upper
          c.loop-answer.invariant.further
          c.in-Err.ensures.tried.0,
      c.in-Err.ensures.tried.2 ∙ c.loop-answer.invariant.acts,
    )

pub returns-in-Err-refill-clause-caused : goal.returns-in-Err-refill-clause-caused
returns-in-Err-refill-clause-caused g c = let i = c.loop-answer.invariant in
    let start = c.args.pass.now.seat.me in let before = c.loop-answer.pass.seat.me in
    let behind = c.tries.new.pass.seat.me in let last = c.refill.new.pass.seat.me in
    let z = c.args.tree.now.space.table.shared.key in
    let met = subst
    (λ (x : Miss). HasMissed (g.L.Look.needs c.args.order.now.what.now) c.args.order.now.budget
    c.tries.new.spent x before behind)
    (c.if-not-is_without_row.ensures.0 refl) c.in-Err.ensures.missed in
    refill_range_caused (g.L.Look.needs c.args.order.now.what.now) z c.args.pass.now.number
    c.args.order.now.budget c.kept-kept.result c.in-Err-refill.cause
    c.refill.new.spent start behind last c.args.pass.now.kept.rows c.refill.new.pass.kept.rows
    record {
      spent = c.args.spent.now;
      none = c.requires.none;
      counted = paid_both c.args.spent.now c.tries.new.spent c.refill.new.spent start behind last
          (paid_both c.args.spent.now c.loop-answer.spent c.tries.new.spent start before behind
          i.counted
          c.tries.ensures.counted) c.refill.ensures.counted;
    }
    (begun_with z.rows c.kept-kept.result start before behind last c.args.pass.now.kept.rows
    c.loop-answer.pass.kept.rows
    c.kept-kept.ensures i.resting.are_kept i.first
    (let two = c.tries.ensures.counted.more in let three = c.refill.ensures.counted.more in omega
    arith) met
    c.refill.ensures.gave.met c.tries.ensures.pinned c.refill.ensures.gave.lags)
    (let more = i.looks in let same = c.tries.ensures.pinned.looks in omega arith)
    (subst (λ (k : ℕ). IsRefill z.passes k c.args.order.now.budget c.kept-kept.result
    c.refill.new.spent c.in-Err-refill.cause
    behind last c.refill.new.pass.kept.rows) (c.in-Err.ensures.frame.number ∙ i.number)
    c.in-Err-refill.ensures.refused)

pub returns-in-Err-refill-clause-few : goal.returns-in-Err-refill-clause-few
returns-in-Err-refill-clause-few g c = few_from c.args.pass.now.seat.me c.tries.new.pass.seat.me
    c.refill.new.pass.seat.me
    c.refill.new.pass.kept.rows
    (let before = c.loop-answer.invariant.looks in let same = c.tries.ensures.pinned.looks in omega
    arith)
    (c.in-Err-refill.ensures.few refl)

pub loop-answer-smaller : goal.loop-answer-smaller
loop-answer-smaller g c = let again = c.in_default.ensures.again refl in let
    i = c.loop-answer.invariant in
    let start = c.args.pass.now.seat.me in let before = c.loop-answer.pass.seat.me in
    let behind = c.tries.new.pass.seat.me in let last = c.refill.new.pass.seat.me in
    let turns = c.tries.ensures.counted in
    let so_far = paid_both c.args.spent.now c.loop-answer.spent c.tries.new.spent start before
    behind i.counted turns in
    nearer c.args.order.now.budget (total c.loop-answer.spent) (total c.tries.new.spent)
    (total c.refill.new.spent)
    (vec_len c.loop-answer.pass.kept.rows) (vec_len c.refill.new.pass.kept.rows)
    (spends_more c.args.spent.now c.loop-answer.spent c.tries.new.spent start before behind
    c.requires.none i.counted turns)
    (spends_more c.args.spent.now c.tries.new.spent c.refill.new.spent start behind last
    c.requires.none so_far
    c.refill.ensures.counted)
    (subst (λ n. 0 < n) c.kept-kept.ensures again.some, again.unspent, again.nearer)

pub loop-answer-preserved : goal.loop-answer-preserved
loop-answer-preserved g c = let i = c.loop-answer.invariant in let
    again = c.in_default.ensures.again refl in
    let start = c.args.pass.now.seat.me in let before = c.loop-answer.pass.seat.me in
    let behind = c.tries.new.pass.seat.me in let last = c.refill.new.pass.seat.me in
    let met = subst
    (λ (x : Miss). HasMissed (g.L.Look.needs c.args.order.now.what.now) c.args.order.now.budget
    c.tries.new.spent x before behind)
    (c.if-not-is_without_row.ensures.0 refl) c.in-Err.ensures.missed in
    let given = c.refill.ensures.gave.met in
    let emptied = empty_before (vec_len c.loop-answer.pass.kept.rows) c.kept-kept.result
    (vec_len c.refill.new.pass.kept.rows)
    start before behind last c.args.pass.now.kept.rows c.kept-kept.ensures again.some
    (let one = i.counted.more in let two = c.tries.ensures.counted.more in omega arith)
    again.begins i.first met given c.tries.ensures.pinned c.refill.ensures.gave.lags
    c.refill.ensures.looked in record {
      number = c.refill.ensures.frame.number ∙ (c.in-Err.ensures.frame.number ∙ i.number);
      resting = c.refill.ensures.frame.resting;
      further = subst (IsFurther start.0.upper) (sym c.refill.ensures.gave.upper)
          (further_on start.0.upper before.0.upper behind.0.upper i.further
          c.in-Err.ensures.tried.0);
      acts = ap acts_of c.refill.ensures.gave.upper ∙ (c.in-Err.ensures.tried.2 ∙ i.acts);
      counted = paid_both c.args.spent.now c.tries.new.spent c.refill.new.spent start behind last
          (paid_both c.args.spent.now c.loop-answer.spent c.tries.new.spent start before behind
          i.counted
          c.tries.ensures.counted) c.refill.ensures.counted;
      looks = let before = i.looks in let same = c.tries.ensures.pinned.looks in let
          more = c.refill.ensures.looked in omega arith;
      worn = omega (arith, i.worn, met.1, given.1);
      first = inr emptied;
      alone = λ alone. let z = c.args.tree.now.space.table.shared.key in
          let here = alone_on z start.0.upper before.0.upper i.further.number alone in
          begins_next z (vec_len c.loop-answer.pass.kept.rows) _ start before behind last
          (subst (λ n. 0 < n) c.kept-kept.ensures again.some) again.begins
          (passes_given behind last (c.in-Err.ensures.frame.resting.unlost alone.0)
          (c.refill.ensures.frame.resting.unlost alone.0) c.refill.ensures.gave.upper)
          (subst (λ (x : Miss). LooksAlone {T = Unit {0}} z (2 * bases_at before)
          (vec_len c.loop-answer.pass.kept.rows) (Err x) before behind)
          (c.if-not-is_without_row.ensures.0 refl) (c.in-Err.ensures.alone here)) (i.alone alone);
      yet = bounded_yet (vec_len c.loop-answer.pass.kept.rows) (vec_len c.args.pass.now.kept.rows)
          start before behind last i.yet
          c.tries.ensures.paced c.tries.ensures.pinned.looks c.refill.ensures.gave.bounded.0
          c.refill.ensures.gave.bounded.1
          c.refill.ensures.gave.lags.1
          (paid_more c.tries.new.spent c.refill.new.spent behind last c.refill.ensures.counted)
          (vec_len c.refill.new.pass.kept.rows) (subst (λ n. 0 < n) c.kept-kept.ensures again.some)
          again.begins c.refill.ensures.gave.upper
          (let found = emptied.0 in omega arith) emptied.1
          (let looked = c.refill.ensures.looked in omega arith);
      unspent = again.unspent;
      lags = again.unlagged ∙ (c.tries.ensures.pinned.lags ∙ i.lags);
      read = let z = c.args.tree.now.space.table.shared.key in
          read_still z start behind last
          (ap (λ (v : TreeView). v.loads) c.refill.ensures.gave.upper)
          c.refill.ensures.gave.bounded.0
          (paid_more c.tries.new.spent c.refill.new.spent behind last c.refill.ensures.counted)
          (read_both z start before behind i.read record {
            pins = let more = c.tries.ensures.paced.pins in omega arith;
            turns = c.tries.ensures.paced.more;
            few = c.tries.ensures.loads;
          });
    }

pub returns-in-Ok-clause-alone : goal.returns-in-Ok-clause-alone
returns-in-Ok-clause-alone g c alone = let z = c.args.tree.now.space.table.shared.key in
    let i = c.loop-answer.invariant in
    let start = c.args.pass.now.seat.me in let before = c.loop-answer.pass.seat.me in (
      begun_passes (vec_len c.loop-answer.pass.kept.rows) start before c.tries.new.pass.seat.me
          (i.alone alone)
          (c.in-Ok.ensures.alone (alone_on z start.0.upper before.0.upper i.further.number
          alone)).0,
      tt,
    )

pub returns-then-not-is_without_row-clause-alone : goal.returns-then-not-is_without_row-clause-alone
returns-then-not-is_without_row-clause-alone g c alone = let z =
    c.args.tree.now.space.table.shared.key in let i = c.loop-answer.invariant in
    let start = c.args.pass.now.seat.me in let before = c.loop-answer.pass.seat.me in
    let behind = c.tries.new.pass.seat.me in
    let last = c.keep_few.new.pass.seat.me in (
      passes_then (4 * bases_at start) start behind last
          (begun_passes (vec_len c.loop-answer.pass.kept.rows) start before behind (i.alone alone)
          (c.in-Err.ensures.alone (alone_on z start.0.upper before.0.upper i.further.number
          alone)).0)
          (passes_given behind last (c.in-Err.ensures.frame.resting.unlost alone.0)
          (c.keep_few.ensures.frame.resting.unlost alone.0) c.keep_few.ensures.gave.upper),
      refused_other z (bases_at start + 11) start.0.upper c.in-Err.why _ c.refusal.result
          c.refusal.ensures,
    )

pub returns-in-Err-refill-clause-alone : goal.returns-in-Err-refill-clause-alone
returns-in-Err-refill-clause-alone g c alone = let space = c.args.tree.now.space.table.shared in
    let z = space.key in let i = c.loop-answer.invariant in
    let start = c.args.pass.now.seat.me in let before = c.loop-answer.pass.seat.me in
    let behind = c.tries.new.pass in
    let last = c.refill.new.pass in let resting = c.in-Err.ensures.frame.resting in
    let did = subst (λ (x : Miss). LooksAlone {T = Unit {0}} z (2 * bases_at before)
    (vec_len c.loop-answer.pass.kept.rows) (Err x) before behind.seat.me)
    (c.if-not-is_without_row.ensures.0 refl)
    (c.in-Err.ensures.alone (alone_on z start.0.upper before.0.upper i.further.number alone)) in (
      passes_then (4 * bases_at start) start behind.seat.me last.seat.me
          (begun_passes (vec_len c.loop-answer.pass.kept.rows) start before behind.seat.me
          (i.alone alone) did.0)
          (passes_given behind.seat.me last.seat.me (resting.unlost alone.0)
          (c.refill.ensures.frame.resting.unlost alone.0) c.refill.ensures.gave.upper),
      refill_short z behind.number c.args.order.now.budget c.kept-kept.result _ c.refill.new.spent
          c.in-Err-refill.cause start before behind.seat.me
          last.seat.me last.kept.rows alone.0 (first_number space.table_id z behind.number
          behind.tally behind.kept.rows behind.seat resting alone.0)
          c.kept-kept.ensures c.in-Err-refill.ensures.refused (i.alone alone) did.1,
    )

pub returns-in-Ok-clause-bounds : goal.returns-in-Ok-clause-bounds
returns-in-Ok-clause-bounds g c = record {
  lags = (
    (let before = c.loop-answer.invariant.lags in let same = c.tries.ensures.pinned.lags in omega
        arith),
    c.tries.ensures.pinned.entered ∙ c.loop-answer.invariant.lags,
  );
  bounded = bounded_by (vec_len c.loop-answer.pass.kept.rows)
      (vec_len c.args.pass.now.kept.rows) c.args.pass.now.seat.me
      c.loop-answer.pass.seat.me c.tries.new.pass.seat.me c.tries.new.pass.seat.me
      c.loop-answer.invariant.yet c.tries.ensures.paced
      c.tries.ensures.pinned.looks refl (omega arith) refl (omega arith);
  loads = (
      read_both c.args.tree.now.space.table.shared.key c.args.pass.now.seat.me
      c.loop-answer.pass.seat.me c.tries.new.pass.seat.me c.loop-answer.invariant.read record {
        pins = let more = c.tries.ensures.paced.pins in omega arith;
        turns = c.tries.ensures.paced.more;
        few = c.tries.ensures.loads;
      }).few;
}

pub returns-then-not-is_without_row-clause-bounds :
    goal.returns-then-not-is_without_row-clause-bounds
returns-then-not-is_without_row-clause-bounds g c = record {
  lags = let i = c.loop-answer.invariant in
      let same = c.tries.ensures.pinned.lags in let once = c.keep_few.ensures.gave.lags in (
        (let before = i.lags in let one = once.0 in omega arith),
        ap (λ (x : Met). x.lags) once.1 ∙ (c.tries.ensures.pinned.entered ∙ i.lags),
      );
  bounded = bounded_by
      (vec_len c.loop-answer.pass.kept.rows) (vec_len c.args.pass.now.kept.rows)
      c.args.pass.now.seat.me c.loop-answer.pass.seat.me c.tries.new.pass.seat.me
      c.keep_few.new.pass.seat.me c.loop-answer.invariant.yet
      c.tries.ensures.paced c.tries.ensures.pinned.looks c.keep_few.ensures.gave.bounded.0
      c.keep_few.ensures.gave.bounded.1
      c.keep_few.ensures.gave.lags.1
      (kept_more c.keep_few.result c.tries.new.pass.seat.me c.keep_few.new.pass.seat.me
      c.keep_few.ensures.gave c.keep_few.ensures.lost);
  loads = (read_still c.args.tree.now.space.table.shared.key c.args.pass.now.seat.me
      c.tries.new.pass.seat.me
      c.keep_few.new.pass.seat.me (ap (λ (v : TreeView). v.loads) c.keep_few.ensures.gave.upper)
      c.keep_few.ensures.gave.bounded.0
      (kept_more c.keep_few.result c.tries.new.pass.seat.me c.keep_few.new.pass.seat.me
      c.keep_few.ensures.gave c.keep_few.ensures.lost)
      (read_both c.args.tree.now.space.table.shared.key c.args.pass.now.seat.me
      c.loop-answer.pass.seat.me c.tries.new.pass.seat.me c.loop-answer.invariant.read record {
        pins = let more = c.tries.ensures.paced.pins in omega arith;
        turns = c.tries.ensures.paced.more;
        few = c.tries.ensures.loads;
      })).few;
}

pub returns-in-Err-refill-clause-bounds : goal.returns-in-Err-refill-clause-bounds
returns-in-Err-refill-clause-bounds g c = record {
  lags = let i = c.loop-answer.invariant in
      let same = c.tries.ensures.pinned.lags in let once = c.refill.ensures.gave.lags in (
        (let before = i.lags in let one = once.0 in omega arith),
        ap (λ (x : Met). x.lags) once.1 ∙ (c.tries.ensures.pinned.entered ∙ i.lags),
      );
  bounded = bounded_by (vec_len c.loop-answer.pass.kept.rows)
      (vec_len c.args.pass.now.kept.rows)
      c.args.pass.now.seat.me c.loop-answer.pass.seat.me c.tries.new.pass.seat.me
      c.refill.new.pass.seat.me c.loop-answer.invariant.yet
      c.tries.ensures.paced c.tries.ensures.pinned.looks c.refill.ensures.gave.bounded.0
      c.refill.ensures.gave.bounded.1
      c.refill.ensures.gave.lags.1
      (paid_more c.tries.new.spent c.refill.new.spent c.tries.new.pass.seat.me
      c.refill.new.pass.seat.me c.refill.ensures.counted);
  loads = (read_still c.args.tree.now.space.table.shared.key c.args.pass.now.seat.me
      c.tries.new.pass.seat.me
      c.refill.new.pass.seat.me (ap (λ (v : TreeView). v.loads) c.refill.ensures.gave.upper)
      c.refill.ensures.gave.bounded.0
      (paid_more c.tries.new.spent c.refill.new.spent c.tries.new.pass.seat.me
      c.refill.new.pass.seat.me c.refill.ensures.counted)
      (read_both c.args.tree.now.space.table.shared.key c.args.pass.now.seat.me
      c.loop-answer.pass.seat.me c.tries.new.pass.seat.me c.loop-answer.invariant.read record {
        pins = let more = c.tries.ensures.paced.pins in omega arith;
        turns = c.tries.ensures.paced.more;
        few = c.tries.ensures.loads;
      })).few;
}

pub returns-in-Ok-clause-answered : goal.returns-in-Ok-clause-answered
returns-in-Ok-clause-answered g c = record {
  looks = let before = c.loop-answer.invariant.looks in let
      same = c.tries.ensures.pinned.looks in
      omega arith;
  looked = looked_by (vec_len c.loop-answer.pass.kept.rows)
      (vec_len c.args.pass.now.kept.rows) c.args.pass.now.seat.me
      c.loop-answer.pass.seat.me c.tries.new.pass.seat.me c.tries.new.pass.seat.me
      c.loop-answer.invariant.yet c.tries.ensures.paced
      c.tries.ensures.pinned.looks refl (omega arith) refl (omega arith) refl;
  all_seen = c.tries.ensures.pinned.lags ∙ c.loop-answer.invariant.lags;
  unspent = let start = c.args.pass.now.seat.me in let
      behind = c.tries.new.pass.seat.me in
      unspent c.args.order.now.budget c.tries.new.spent start behind record {
        spent = c.args.spent.now;
        none = c.requires.none;
        counted = paid_both c.args.spent.now c.loop-answer.spent c.tries.new.spent start
            c.loop-answer.pass.seat.me behind c.loop-answer.invariant.counted
            c.tries.ensures.counted;
      } c.in-Ok.ensures.in_budget;
}
