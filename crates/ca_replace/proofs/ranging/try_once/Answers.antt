use Rattle.std.proofs.Common.{◌*◌, ◌∙◌, Err, Ok, ap, refl, sym, vec_len}
use Rattle.ca_node.specs.Told.{MyTree}
use Rattle.ca_replace.specs.Acts.{acts_of}
use Rattle.ca_replace.specs.LoneReads.{bases_at}
use Rattle.ca_replace.proofs.LoneReads.{looks_left, looks_pinned}
use Rattle.ca_replace.proofs.Misses.{further_pinned, missed_further, missed_left, missed_pinned, now_by, now_left, paid_left, paid_pinned, pinned_by, pinned_left, ranged_on}
use Rattle.ca_replace.proofs.Working.{work_after, work_first, work_left}
use Rattle.ca_range.specs.Clearing.{turns_at}
use Rattle.ca_rows.specs.declared.kept.KeptRows.{KeptRows}
use Rattle.ca_replace.proofs.ReadLoads.{look_pinned}
use Rattle.ca_replace.proofs.ranging.try_once.Goals as goal

pub look-requires-clause-work : goal.look-requires-clause-work
look-requires-clause-work g c = work_first c.pin.ensures.pinned.0 c.pin.ensures.pinned.1
    c.requires.resting c.pin.ensures.frame
    c.pin.ensures.pinned.3

pub returns-in-Ok-clause-frame : goal.returns-in-Ok-clause-frame
returns-in-Ok-clause-frame g c = let told = c.in-Ok.ensures.tried in record {
  number = c.look.ensures.frame.number ∙ c.pin.ensures.frame.number;
  at_work = work_after (work_first c.pin.ensures.pinned.0 c.pin.ensures.pinned.1 c.requires.resting
      c.pin.ensures.frame
      c.pin.ensures.pinned.3) c.look.ensures.frame told.1 told.0.2.number;
}

pub returns-in-Ok-clause-tried : goal.returns-in-Ok-clause-tried
returns-in-Ok-clause-tried g c = let z = c.args.tree.now.space.table.shared.key in
    ranged_on (λ (x : _). g.L.Look.tells c.args.order.now.what.now z x c.look.new.left) z
    (Ok c.in-Ok.answer)
    c.args.pass.now.seat.me.0.upper c.pin.new.pass.seat.me.0.upper c.look.new.pass.seat.me.0.upper
    (further_pinned c.pin.ensures.pinned.0 c.pin.ensures.pinned.1 c.args.pass.now.seat.me
    c.pin.new.pass.seat.me
    c.pin.ensures.pinned.3) (ap (λ (m : MyTree). acts_of m.0.upper) c.pin.ensures.pinned.3)
    c.in-Ok.ensures.tried

pub returns-in-Ok-clause-counted : goal.returns-in-Ok-clause-counted
returns-in-Ok-clause-counted g c = paid_pinned c.args.spent.now c.look.new.spent
    c.pin.ensures.pinned.0 c.pin.ensures.pinned.1
    c.args.pass.now.seat.me c.pin.new.pass.seat.me c.look.new.pass.seat.me c.pin.ensures.pinned.3
    c.look.ensures.counted

pub returns-in-Ok-clause-pinned : goal.returns-in-Ok-clause-pinned
returns-in-Ok-clause-pinned g c = pinned_by c.pin.ensures.pinned.0 c.pin.ensures.pinned.1
    c.args.pass.now.seat.me
    c.pin.new.pass.seat.me c.look.new.pass.seat.me c.pin.ensures.pinned.3 c.look.ensures.frame.pin.1

pub returns-in-Ok-clause-once : goal.returns-in-Ok-clause-once
returns-in-Ok-clause-once g c = now_by c.pin.ensures.pinned.0 c.pin.ensures.pinned.1
    c.args.pass.now.seat.me
    c.pin.new.pass.seat.me c.look.new.pass.seat.me c.pin.ensures.pinned.3 c.look.ensures.frame.pin.1

pub returns-in-Err-clause-once : goal.returns-in-Err-clause-once
returns-in-Err-clause-once g c = now_left c.args.pass.now.seat.me c.look.new.pass.seat.me
    c.unpin.new.pass.seat.me
    c.unpin.ensures.unpinned (now_by c.pin.ensures.pinned.0 c.pin.ensures.pinned.1
    c.args.pass.now.seat.me
    c.pin.new.pass.seat.me c.look.new.pass.seat.me c.pin.ensures.pinned.3
    c.look.ensures.frame.pin.1)

pub returns-in-Err-clause-frame : goal.returns-in-Err-clause-frame
returns-in-Err-clause-frame g c = let told = c.in-Err.ensures.tried in record {
  number = c.unpin.ensures.frame.number
      ∙ (c.look.ensures.frame.number ∙ c.pin.ensures.frame.number);
  resting = work_left (work_after (work_first c.pin.ensures.pinned.0 c.pin.ensures.pinned.1
      c.requires.resting c.pin.ensures.frame
      c.pin.ensures.pinned.3) c.look.ensures.frame told.1 told.0.number) c.unpin.ensures.frame
      c.unpin.ensures.unpinned
      c.unpin.ensures.only;
}

pub returns-in-Err-clause-tried : goal.returns-in-Err-clause-tried
returns-in-Err-clause-tried g c = let z = c.args.tree.now.space.table.shared.key in
    let u = c.args.pass.now.seat.me.0.upper in
    let v = c.look.new.pass.seat.me.0.upper in
    missed_further z u v c.unpin.new.pass.seat.me.0.upper
    (ap (λ (m : MyTree). m.0.upper) c.unpin.ensures.unpinned)
    (ranged_on (λ (x : _). g.L.Look.tells c.args.order.now.what.now z x c.look.new.left) z
    (Err c.in-Err.why)
    u c.pin.new.pass.seat.me.0.upper v
    (further_pinned c.pin.ensures.pinned.0 c.pin.ensures.pinned.1 c.args.pass.now.seat.me
    c.pin.new.pass.seat.me
    c.pin.ensures.pinned.3) (ap (λ (m : MyTree). acts_of m.0.upper) c.pin.ensures.pinned.3)
    c.in-Err.ensures.tried)

pub returns-in-Err-clause-counted : goal.returns-in-Err-clause-counted
returns-in-Err-clause-counted g c = paid_left c.args.spent.now c.look.new.spent
    c.args.pass.now.seat.me c.look.new.pass.seat.me
    c.unpin.new.pass.seat.me c.unpin.ensures.unpinned
    (paid_pinned c.args.spent.now c.look.new.spent c.pin.ensures.pinned.0 c.pin.ensures.pinned.1
    c.args.pass.now.seat.me c.pin.new.pass.seat.me c.look.new.pass.seat.me c.pin.ensures.pinned.3
    c.look.ensures.counted)

pub returns-in-Err-clause-missed : goal.returns-in-Err-clause-missed
returns-in-Err-clause-missed g c = missed_left (g.L.Look.needs c.args.order.now.what.now)
    c.args.order.now.budget c.look.new.spent c.in-Err.why c.args.pass.now.seat.me
    c.look.new.pass.seat.me c.unpin.new.pass.seat.me c.unpin.ensures.unpinned
    (missed_pinned {T = Unit {0}} (g.L.Look.needs c.args.order.now.what.now) c.args.order.now.budget
    c.look.new.spent (Err c.in-Err.why) c.pin.ensures.pinned.0 c.pin.ensures.pinned.1
    c.args.pass.now.seat.me c.pin.new.pass.seat.me c.look.new.pass.seat.me c.pin.ensures.pinned.3
    c.in-Err.ensures.missed)

pub returns-in-Err-clause-pinned : goal.returns-in-Err-clause-pinned
returns-in-Err-clause-pinned g c = pinned_left c.args.pass.now.seat.me c.look.new.pass.seat.me
    c.unpin.new.pass.seat.me
    c.unpin.ensures.unpinned (pinned_by c.pin.ensures.pinned.0 c.pin.ensures.pinned.1
    c.args.pass.now.seat.me
    c.pin.new.pass.seat.me c.look.new.pass.seat.me c.pin.ensures.pinned.3
    c.look.ensures.frame.pin.1)

pub returns-in-Ok-clause-loads : goal.returns-in-Ok-clause-loads
returns-in-Ok-clause-loads g c = let k = c.args.pass.now.seat.me in
    let is = c.pin.ensures.pinned.3 in let n = c.look.new.pass.seat.me in
    look_pinned c.args.tree.now.space.table.shared.key k c.pin.new.pass.seat.me n n
    (ap (λ (m : MyTree). m.0.upper.loads) is) (ap turns_at is)
    c.look.ensures.loads refl refl (now_by c.pin.ensures.pinned.0 c.pin.ensures.pinned.1 k
    c.pin.new.pass.seat.me n is c.look.ensures.frame.pin.1).0

pub returns-in-Err-clause-loads : goal.returns-in-Err-clause-loads
returns-in-Err-clause-loads g c = let k = c.args.pass.now.seat.me in
    let is = c.pin.ensures.pinned.3 in let n = c.look.new.pass.seat.me in
    let p = c.unpin.new.pass.seat.me in let left = c.unpin.ensures.unpinned in
    look_pinned c.args.tree.now.space.table.shared.key k c.pin.new.pass.seat.me n p
    (ap (λ (m : MyTree). m.0.upper.loads) is) (ap turns_at is)
    c.look.ensures.loads (ap (λ (m : MyTree). m.0.upper.loads) left) (ap turns_at left)
    (now_left k n p left (now_by c.pin.ensures.pinned.0 c.pin.ensures.pinned.1 k
    c.pin.new.pass.seat.me n is c.look.ensures.frame.pin.1)).0

pub returns-in-Ok-clause-alone : goal.returns-in-Ok-clause-alone
returns-in-Ok-clause-alone g c alone = let k = c.args.pass.now.seat.me in
    let m = c.pin.new.pass.seat.me in let n = c.look.new.pass.seat.me in
    looks_pinned (Ok c.in-Ok.answer) c.args.tree.now.space.table.shared.key c.pin.ensures.pinned.0
    c.pin.ensures.pinned.1 _ _ k m n c.pin.ensures.pinned.3
    (ap (λ (x : KeptRows). vec_len x.rows) c.pin.ensures.frame.kept) c.in-Ok.ensures.alone alone

pub returns-in-Err-clause-alone : goal.returns-in-Err-clause-alone
returns-in-Err-clause-alone g c alone = let k = c.args.pass.now.seat.me in
    let m = c.pin.new.pass.seat.me in let n = c.look.new.pass.seat.me in
    let p = c.unpin.new.pass.seat.me in
    looks_left {T = Unit {0}} (Err c.in-Err.why) c.args.tree.now.space.table.shared.key
    (2 * bases_at k) _ k n p c.unpin.ensures.unpinned
    (looks_pinned {T = Unit {0}} (Err c.in-Err.why) c.args.tree.now.space.table.shared.key
    c.pin.ensures.pinned.0 c.pin.ensures.pinned.1 _ _ k m n c.pin.ensures.pinned.3
    (ap (λ (x : KeptRows). vec_len x.rows) c.pin.ensures.frame.kept) c.in-Err.ensures.alone alone)

pub look-requires-clause-fresh : goal.look-requires-clause-fresh
look-requires-clause-fresh g c = record {
  at_pin = let is = c.pin.ensures.pinned.3 in
      ap (λ (m : MyTree). m.0.upper.since) is ∙ sym (ap (λ (m : MyTree). m.0.upper.seen) is);
  none_met = ap (λ (m : MyTree). m.0.upper.ranges.unfinished)
      c.pin.ensures.pinned.3;
  none_shown = ap (λ (m : MyTree). m.0.upper.notes) c.pin.ensures.pinned.3;
}
