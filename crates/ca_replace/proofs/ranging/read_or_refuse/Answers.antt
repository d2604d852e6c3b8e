use Rattle.std.proofs.Common.{◌*◌, ◌∙◌, ap, subst, sym, vec_len}
use Rattle.ca_base.specs.Counting.{losses}
use Rattle.ca_model.specs.Known.{one_more}
use Rattle.ca_node.specs.Told.{MyTree}
use Rattle.ca_node.specs.Tree.{StartsWith}
use Rattle.ca_range.specs.Clearing.{turns_at}
use Rattle.ca_replace.specs.Acts.{acts_of}
use Rattle.ca_replace.specs.Causes.{EndsAtLag}
use Rattle.ca_replace.specs.LoneReads.{bases_at}
use Rattle.ca_replace.proofs.LoneReads.{passes_still, passes_then}
use Rattle.ca_replace.proofs.Misses.{range_still}
use Rattle.ca_replace.proofs.Pacing.{bounded_as}
use Rattle.ca_rows.specs.declared.kept.KeptRows.{KeptRows}
use Rattle.ca_replace.proofs.ReadLoads.{read_refused}
use Rattle.ca_replace.proofs.ranging.read_or_refuse.Goals as goal

pub returns-in-Err-clause-caused : goal.returns-in-Err-clause-caused
returns-in-Err-clause-caused g c = let last = c.attempts.new.pass in
    let behind = c.give_up.new.pass in
    range_still c.args.pass.now.seat.me last.seat.me behind.seat.me
    (one_more c.in-Err.why last.seat.me.0.upper.counts)
    c.args.pass.now.kept.rows last.kept.rows behind.kept.rows c.give_up.ensures.counted
    (ap (λ (k : KeptRows). k.rows) c.give_up.ensures.kept)
    (g.L.Look.needs c.args.order.now.what.now) c.args.tree.now.space.table.shared.key
    c.args.pass.now.number
    c.args.order.now.budget c.in-Err.why c.in-Err.ensures.caused

pub returns-in-Err-clause-alone : goal.returns-in-Err-clause-alone
returns-in-Err-clause-alone g c alone = let k = c.args.pass.now.seat.me in
    let n = c.attempts.new.pass.seat.me in let p = c.give_up.new.pass.seat.me in
    let did = c.in-Err.ensures.alone alone in let counted = c.give_up.ensures.counted in (
      passes_then (4 * bases_at k) k n p did.0 (passes_still n p (ap losses counted)
          (ap (λ (x : MyTree). x.0.upper.turns) counted)
          (ap (λ (x : MyTree). x.0.upper.inventory) counted)
          (ap (λ (x : MyTree). x.0.upper.seen) counted)),
      did.1,
    )

pub returns-in-Err-clause-bounds : goal.returns-in-Err-clause-bounds
returns-in-Err-clause-bounds g c = record {
  lags = subst (λ (m : MyTree). EndsAtLag c.args.pass.now.seat.me m) (sym c.give_up.ensures.counted)
      c.attempts.ensures.bounds.lags;
  bounded = let last = c.attempts.new.pass in
      let counted = c.give_up.ensures.counted in
      bounded_as (vec_len c.args.pass.now.kept.rows) c.args.pass.now.seat.me last.seat.me
      c.give_up.new.pass.seat.me c.attempts.ensures.bounds.bounded
      (ap (λ (m : MyTree). m.0.pin) counted) (ap turns_at counted);
  loads = let counted = c.give_up.ensures.counted in
      read_refused c.args.tree.now.space.table.shared.key c.args.pass.now.seat.me
      c.attempts.new.pass.seat.me c.give_up.new.pass.seat.me
      (ap (λ (m : MyTree). m.0.upper.loads) counted) (ap (λ (m : MyTree). m.0.pin) counted)
      (ap turns_at counted) c.attempts.ensures.bounds.loads;
}

pub returns-in-Err-clause-frame : goal.returns-in-Err-clause-frame
returns-in-Err-clause-frame g c = record {
  number = c.give_up.ensures.frame.number ∙ c.in-Err.ensures.frame.number;
  resting = c.give_up.ensures.frame.resting;
}

pub returns-in-Err-clause-come : goal.returns-in-Err-clause-come
returns-in-Err-clause-come g c = let u = c.args.pass.now.seat.me.0.upper in let f =
    c.in-Err.ensures.come.0 in
    let ended = c.give_up.ensures.refused in (
      record {
        number = ended.number ∙ f.number;
        seen = subst (λ (x : MyTree). StartsWith x.0.upper.seen u.seen) (sym
            c.give_up.ensures.counted) f.seen;
        log = ended.log ∙ f.log;
        counts = ended.counts ∙ ap (one_more c.in-Err.why) f.counts;
      },
      ap (λ (m : MyTree). acts_of m.0.upper) c.give_up.ensures.counted ∙ c.in-Err.ensures.come.1,
    )
