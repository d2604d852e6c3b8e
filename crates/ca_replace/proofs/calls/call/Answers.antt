use Rattle.std.proofs.Common.{◌≡◌, false, refl, ap, ◌∙◌, sym, subst, vec_len}
use Rattle.ca_rows.specs.declared.kept.KeptRows.{KeptRows}
use Rattle.ca_model.specs.Known.{one_more}
use Rattle.ca_replace.proofs.Causing.{busy_spent, caused_still, deep_adds, few_still}
use Rattle.ca_base.specs.Progress.{IsRefused}
use Rattle.ca_node.specs.Told.{MyTree}
use Rattle.ca_node.specs.Tree.{StartsWith}
use Rattle.ca_replace.proofs.Misses.{if_not_done, if_refused_by}
use Rattle.ca_range.specs.Clearing.{turns_at}
use Rattle.ca_replace.specs.Causes.{EndsAtLag}
use Rattle.ca_replace.proofs.Pacing.{bounded_as}
use Rattle.ca_replace.proofs.GoingOn.{goes_leaves, leaves_refused, none_met_as}
use Rattle.ca_replace.specs.Winning.{LosesNone}
use Rattle.ca_replace.proofs.Alone.{alone_at, crowded_call, first_number, lone_cause, lone_losses, never_busy}
use Rattle.ca_replace.proofs.Growing.{refused_grows}
use Rattle.ca_replace.proofs.OneHand.{refused_still, seen_still}
use Rattle.ca_replace.proofs.Cutting.{refused_cuts}
use Rattle.ca_replace.proofs.Winning.{refused_wins, won_lost, won_unhelped}
use Rattle.ca_replace.proofs.Loads.{loads_told}
use Rattle.ca_replace.proofs.calls.call.Goals as goal

pub returns-in-Ok-clause-told : goal.returns-in-Ok-clause-told
returns-in-Ok-clause-told g c = let space = c.args.tree.now.space.table.shared in
    let pass = c.args.pass.now in let last = c.attempts.new.pass in
    let turns = c.in-Ok.ensures.turns in record {
      same = record { table = refl; sizes = refl; tuning = refl; number = c.attempts.ensures.frame.number };
      caused = tt;
      alone = λ one. tt;
      crowded = λ one. tt;
      sparing = (
        c.attempts.ensures.few,
        c.attempts.ensures.frame.resting.few.ever,
        c.attempts.ensures.lags,
      );
      bounded = c.attempts.ensures.bounded;
      loads = c.in-Ok.ensures.loads;
      adapted = goes_leaves (g.A.Attempt.edits c.args.order.now.what.now c.in-Ok.answer)
          space.key c.args.tree.now.tuning
          (record { lost = false; last = c.args.last.now }) c.attempts.new.course.adapting
          pass.seat.me.0.upper last.seat.me.0.upper refl turns.gone_on;
      met_as = turns.met_as;
      grows = λ one. turns.grown
          (alone_at space.table_id space.key pass.number pass.tally pass.kept.rows pass.seat
          c.requires.resting one);
      wins = λ one. turns.won
          (alone_at space.table_id space.key pass.number pass.tally pass.kept.rows pass.seat
          c.requires.resting one);
      unhelped = λ one. won_unhelped (g.A.Attempt.edits c.args.order.now.what.now c.in-Ok.answer) pass.seat.me.0.upper last.seat.me.0.upper
          (turns.won (alone_at space.table_id space.key pass.number pass.tally pass.kept.rows pass.seat
          c.requires.resting one));
      unlost = λ one. lone_losses pass.seat.me last.seat.me (c.requires.resting.unlost one)
          (c.attempts.ensures.frame.resting.unlost one)
          (won_lost (g.A.Attempt.edits c.args.order.now.what.now c.in-Ok.answer) pass.seat.me.0.upper last.seat.me.0.upper
          (turns.won (alone_at space.table_id space.key pass.number pass.tally pass.kept.rows pass.seat
          c.requires.resting one)));
      never_busy = λ one two. tt;
      still = λ one. tt;
      cut = turns.cut;
    }

pub returns-in-Err-clause-done : goal.returns-in-Err-clause-done
returns-in-Err-clause-done g c = if_not_done _ c.in-Err.why c.outcome_by.result c.outcome_by.ensures

pub returns-in-Err-clause-refused : goal.returns-in-Err-clause-refused
returns-in-Err-clause-refused g c = let u = c.args.pass.now.seat.me.0.upper in let f = c.in-Err.ensures.come in
    let ended = c.give_up.ensures.refused in if_refused_by (λ rise. IsRefused rise u c.give_up.new.pass.seat.me.0.upper)
    c.in-Err.why c.outcome_by.result c.outcome_by.ensures record {
      number = ended.number ∙ f.number;
      seen = subst (λ (x : MyTree). StartsWith x.0.upper.seen u.seen) (sym c.give_up.ensures.counted) f.seen;
      log = ended.log ∙ f.log;
      counts = ended.counts ∙ ap (one_more c.in-Err.why) f.counts;
    }

pub returns-in-Err-clause-busy : goal.returns-in-Err-clause-busy
returns-in-Err-clause-busy g c = let last = c.attempts.new.pass in
    busy_spent c.args.tree.now.space.table.shared.key c.args.pass.now.number c.args.order.now.budget
    (g.A.Attempt.adds c.args.order.now.what.now) c.in-Err.why c.outcome_by.result
    c.args.pass.now.seat.me last.seat.me c.args.pass.now.kept.rows last.kept.rows
    c.outcome_by.ensures c.in-Err.ensures.caused

pub returns-in-Err-clause-deep : goal.returns-in-Err-clause-deep
returns-in-Err-clause-deep g c = let last = c.attempts.new.pass in
    deep_adds c.args.tree.now.space.table.shared.key c.args.pass.now.number c.args.order.now.budget
    (g.A.Attempt.adds c.args.order.now.what.now) c.in-Err.why c.outcome_by.result
    c.args.pass.now.seat.me last.seat.me c.args.pass.now.kept.rows last.kept.rows
    c.outcome_by.ensures c.in-Err.ensures.caused

pub returns-in-Err-clause-told : goal.returns-in-Err-clause-told
returns-in-Err-clause-told g c = let space = c.args.tree.now.space.table.shared in
    let pass = c.args.pass.now in let last = c.attempts.new.pass in
    let behind = c.give_up.new.pass in let turns = c.in-Err.ensures.turns in
    let edits = λ (x : _). g.A.Attempt.edits c.args.order.now.what.now x in
    let adds = g.A.Attempt.adds c.args.order.now.what.now in
    let counts = one_more c.in-Err.why last.seat.me.0.upper.counts in
    let kept = ap (λ (k : KeptRows). k.rows) c.give_up.ensures.kept in
    let here = λ (one : space.key.passes ≡ 1). alone_at space.table_id space.key pass.number pass.tally
    pass.kept.rows pass.seat c.requires.resting one in record {
      same = record { table = refl; sizes = refl; tuning = refl; number = c.give_up.ensures.frame.number ∙ c.attempts.ensures.frame.number };
      caused = caused_still pass.seat.me last.seat.me behind.seat.me counts pass.kept.rows
          last.kept.rows behind.kept.rows c.give_up.ensures.counted kept space.key pass.number
          c.args.order.now.budget adds c.in-Err.why c.outcome_by.result c.outcome_by.ensures
          c.in-Err.ensures.caused;
      alone = λ one. let z = space.key in let behind = c.attempts.ensures.frame.resting in lone_cause z pass.number c.args.order.now.budget adds c.in-Err.why
          c.outcome_by.result pass.seat.me last.seat.me pass.kept.rows last.kept.rows c.outcome_by.ensures
          (first_number space.table_id z pass.number pass.tally pass.kept.rows pass.seat c.requires.resting one)
          (alone_at space.table_id z last.number last.tally last.kept.rows last.seat behind one)
          (seen_still z pass.seat.me.0.upper last.seat.me.0.upper (here one) c.requires.resting.known behind.known c.in-Err.ensures.come)
          (turns.grown (here one)) c.in-Err.ensures.caused;
      crowded = λ one. crowded_call space.key 11 pass.seat.me.0.upper c.in-Err.why c.outcome_by.result c.outcome_by.ensures (c.in-Err.ensures.crowded one);
      sparing = (
        few_still pass.seat.me last.seat.me behind.seat.me counts pass.kept.rows last.kept.rows
            behind.kept.rows c.give_up.ensures.counted kept c.attempts.ensures.few,
        c.give_up.ensures.frame.resting.few.ever,
        subst (λ (m : MyTree). EndsAtLag pass.seat.me m) (sym c.give_up.ensures.counted)
            c.attempts.ensures.lags,
      );
      bounded = bounded_as (vec_len pass.kept.rows) pass.seat.me last.seat.me behind.seat.me c.attempts.ensures.bounded
          (ap (λ (m : MyTree). m.0.pin) c.give_up.ensures.counted) (ap turns_at c.give_up.ensures.counted);
      loads = loads_told edits space.key c.in-Err.why c.outcome_by.result pass.seat.me last.seat.me behind.seat.me c.outcome_by.ensures
          (ap (λ (m : MyTree). m.0.upper.loads) c.give_up.ensures.counted) (ap (λ (m : MyTree). m.0.pin) c.give_up.ensures.counted)
          (ap turns_at c.give_up.ensures.counted) c.in-Err.ensures.loads;
      adapted = leaves_refused edits space.key c.args.tree.now.tuning c.args.last.now c.in-Err.why
          c.outcome_by.result pass.seat.me.0.upper behind.seat.me.0.upper c.outcome_by.ensures
          (ap (λ (m : MyTree). m.0.upper.renewal) c.give_up.ensures.counted ∙ turns.gone_on.1)
          (ap (λ (m : MyTree). m.0.upper.tries) c.give_up.ensures.counted ∙ turns.gone_on.3);
      met_as = none_met_as edits c.args.last.now c.in-Err.why c.outcome_by.result behind.seat.me
          c.outcome_by.ensures;
      grows = λ one. refused_grows space.key adds _ c.in-Err.why c.outcome_by.result pass.seat.me.0.upper
          last.seat.me behind.seat.me c.outcome_by.ensures (turns.grown (here one))
          c.give_up.ensures.counted;
      wins = λ one. refused_wins edits c.in-Err.why c.outcome_by.result pass.seat.me.0.upper
          behind.seat.me.0.upper c.outcome_by.ensures
          (subst (λ (m : MyTree). LosesNone pass.seat.me.0.upper m.0.upper) (sym c.give_up.ensures.counted) (turns.won (here one)));
      unhelped = λ one. ap (λ (m : MyTree). m.0.upper.turns.helped) c.give_up.ensures.counted ∙ (turns.won (here one)).1.1;
      unlost = λ one. lone_losses pass.seat.me behind.seat.me (c.requires.resting.unlost one)
          (c.give_up.ensures.frame.resting.unlost one)
          (ap (λ (m : MyTree). m.0.upper.lost) c.give_up.ensures.counted ∙ (turns.won (here one)).0);
      never_busy = λ one two. never_busy space.key pass.number c.args.order.now.budget adds c.in-Err.why c.outcome_by.result
          pass.seat.me last.seat.me pass.kept.rows last.kept.rows c.outcome_by.ensures
          (lone_losses pass.seat.me last.seat.me (c.requires.resting.unlost one) (c.attempts.ensures.frame.resting.unlost one)
          (turns.won (here one)).0)
          (turns.won (here one)).1 (turns.grown (here one)) c.in-Err.ensures.caused two;
      still = λ one. let z = space.key in let behind_them = c.attempts.ensures.frame.resting in
          refused_still c.in-Err.why c.outcome_by.result pass.seat.me.0.upper behind.seat.me.0.upper c.outcome_by.ensures
          (ap (λ (m : MyTree). m.0.upper.seen) c.give_up.ensures.counted
          ∙ seen_still z pass.seat.me.0.upper last.seat.me.0.upper (here one) c.requires.resting.known behind_them.known c.in-Err.ensures.come);
      cut = refused_cuts edits space.key adds _ c.in-Err.why c.outcome_by.result
          pass.seat.me.0.upper last.seat.me behind.seat.me turns.cut c.outcome_by.ensures
          c.give_up.ensures.counted;
    }
