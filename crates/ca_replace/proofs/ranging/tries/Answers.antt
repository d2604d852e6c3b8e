use Rattle.std.proofs.Common.{ℕ, ◌*◌, ◌∙◌, Result, arith, inr, refl, subst, sym, vec_len}
use Rattle.ca_base.proofs.Counts.{met_both}
use Rattle.ca_node.specs.States.{IsAlone}
use Rattle.ca_node.specs.Told.{MyTree}
use Rattle.ca_replace.specs.LoneReads.{LooksAlone, bases_at}
use Rattle.ca_replace.specs.Ranging.{HasMissedBy, HasRangedTo, WorksOrRests}
use Rattle.ca_replace.specs.declared.missing.Miss.{Miss}
use Rattle.ca_replace.proofs.Counted.{none_met, none_paid, one_turn_less, paid_both}
use Rattle.ca_replace.proofs.Meeting.{further_on}
use Rattle.ca_replace.proofs.Misses.{missed_behind, ranged_on}
use Rattle.ca_replace.proofs.Pacing.{paced_by, paced_then, paid_more}
use Rattle.ca_replace.proofs.Pinning.{pinned_both}
use Rattle.ca_replace.proofs.Turns.{no_further}
use Rattle.ca_replace.proofs.Working.{works_on}
use Rattle.ca_replace.proofs.ReadLoads.{none_read, read_both}
use Rattle.ca_replace.proofs.ranging.tries.Goals as goal

pub loop-spent-init : goal.loop-spent-init
loop-spent-init g c = let m = c.args.pass.now.seat.me in record {
  number = refl;
  resting = c.requires.resting;
  further = no_further m.0.upper;
  acts = refl;
  counted = none_paid c.args.spent.now m m refl refl;
  met = none_met m;
  unspent = c.requires.unspent;
  pinned = λ n h. h;
  paced = λ n h. h;
  first = λ _. (refl, refl);
  read = none_read c.args.tree.now.space.table.shared.key m;
}

pub try_once-tried-requires-clause-resting : goal.try_once-tried-requires-clause-resting
try_once-tried-requires-clause-resting g c = c.loop-spent.invariant.resting

pub try_once-tried-requires-clause-unspent : goal.try_once-tried-requires-clause-unspent
try_once-tried-requires-clause-unspent g c = c.loop-spent.invariant.unspent

pub returns-then-not-is_again-clause-tried : goal.returns-then-not-is_again-clause-tried
returns-then-not-is_again-clause-tried g c = let z = c.args.tree.now.space.table.shared.key in
    ranged_on (λ (x : _). g.L.Look.tells c.args.order.now.what.now z x c.try_once-tried.new.left) z
    c.try_once-tried.result
    c.args.pass.now.seat.me.0.upper c.loop-spent.pass.seat.me.0.upper
    c.try_once-tried.new.pass.seat.me.0.upper
    c.loop-spent.invariant.further c.loop-spent.invariant.acts c.try_once-tried.ensures.tried

pub returns-then-not-is_again-clause-counted : goal.returns-then-not-is_again-clause-counted
returns-then-not-is_again-clause-counted g c = paid_both c.args.spent.now c.loop-spent.spent
    c.try_once-tried.new.spent
    c.args.pass.now.seat.me c.loop-spent.pass.seat.me c.try_once-tried.new.pass.seat.me
    c.loop-spent.invariant.counted
    c.try_once-tried.ensures.counted

pub returns-then-not-is_again-clause-missed : goal.returns-then-not-is_again-clause-missed
returns-then-not-is_again-clause-missed g c = missed_behind
    (g.L.Look.needs c.args.order.now.what.now) c.args.order.now.budget c.args.spent.now
    c.try_once-tried.new.spent
    c.try_once-tried.result c.loop-spent.spent c.args.pass.now.seat.me c.loop-spent.pass.seat.me
    c.try_once-tried.new.pass.seat.me c.loop-spent.invariant.met c.loop-spent.invariant.counted
    c.try_once-tried.ensures.missed

pub returns-then-not-is_again-clause-pinned : goal.returns-then-not-is_again-clause-pinned
returns-then-not-is_again-clause-pinned g c =
    c.loop-spent.invariant.pinned c.try_once-tried.new.pass.seat.me c.try_once-tried.ensures.pinned

pub returns-then-not-is_again-clause-paced : goal.returns-then-not-is_again-clause-paced
returns-then-not-is_again-clause-paced g c = let m = c.loop-spent.pass.seat.me in
    let n = c.try_once-tried.new.pass.seat.me in
    c.loop-spent.invariant.paced n (paced_by m n c.try_once-tried.ensures.once
    (paid_more c.loop-spent.spent c.try_once-tried.new.spent m n c.try_once-tried.ensures.counted))

pub loop-spent-smaller : goal.loop-spent-smaller
loop-spent-smaller g c = let most = c.budget.type_inv in
    let room = c.loop-spent.invariant.unspent in
    let is = c.budget.ensures in let m = c.loop-spent.pass.seat.me in
    let n = c.try_once-tried.new.pass.seat.me in
    let turned = (subst (λ (x : Result _ Miss). HasMissedBy
    (g.L.Look.needs c.args.order.now.what.now) c.args.order.now.budget
    c.try_once-tried.new.spent x m n)
    (c.if-not-is_again.ensures.0 refl) c.try_once-tried.ensures.missed).1 in
    let less = one_turn_less c.loop-spent.spent c.try_once-tried.new.spent c.budget.result m n
    (omega arith) (omega arith)
    c.try_once-tried.ensures.counted (inr (inr turned)) in omega arith

pub loop-spent-preserved : goal.loop-spent-preserved
loop-spent-preserved g c = let again = c.if-not-is_again.ensures.0 refl in
    let i = c.loop-spent.invariant in
    let did = c.try_once-tried.ensures in let z = c.args.tree.now.space.table.shared.key in
    let k = c.args.pass.now.seat.me in let m = c.loop-spent.pass.seat.me in
    let n = c.try_once-tried.new.pass.seat.me in
    let tells = λ (x : _). g.L.Look.tells c.args.order.now.what.now z x c.try_once-tried.new.left in
    let rests = subst (λ (x : Result _ Miss).
    WorksOrRests c.args.tree.now.space x c.loop-spent.pass c.try_once-tried.new.pass)
    again did.frame in
    let further = subst (λ (x : Result _ Miss). HasRangedTo tells z x m.0.upper n.0.upper) again
    did.tried in
    let missed = subst (λ (x : Result _ Miss). HasMissedBy
    (g.L.Look.needs c.args.order.now.what.now) c.args.order.now.budget
    c.try_once-tried.new.spent x m n) again did.missed in
    record {
      number = rests.number ∙ i.number;
      resting = rests.resting;
      further = further_on k.0.upper m.0.upper n.0.upper i.further further.0;
      acts = further.2 ∙ i.acts;
      counted = paid_both c.args.spent.now c.loop-spent.spent c.try_once-tried.new.spent k m n
          i.counted did.counted;
      met = met_both 0 0 0 0 k m n i.met missed.0;
      unspent = let room = c.if-spent_in_all-budget.false in let all = c.spent_in_all.ensures in
          let most = c.budget.type_inv in let is = c.budget.ensures in omega arith;
      pinned = λ x h. i.pinned x (pinned_both m n x did.pinned h);
      paced = λ x h. i.paced x (paced_then m n x did.once.0 missed.1 (let none = missed.0.0 in
          omega arith) h);
      first = λ alone. let at = i.first alone in absurd (subst (λ (x : Result _ Miss).
          LooksAlone z (2 * bases_at m) (vec_len c.loop-spent.pass.kept.rows) x m n) again
          (did.alone (subst (λ (x : MyTree). IsAlone z x.0.upper) (sym at.0) alone))).1;
      read = read_both z k m n i.read record {
        pins = let once = did.once.0 in omega arith;
        turns = paid_more c.loop-spent.spent c.try_once-tried.new.spent m n did.counted;
        few = did.loads;
      };
    }

pub returns-then-not-is_again-clause-loads : goal.returns-then-not-is_again-clause-loads
returns-then-not-is_again-clause-loads g c = let m = c.loop-spent.pass.seat.me in
    let n = c.try_once-tried.new.pass.seat.me in
    let did = c.try_once-tried.ensures in
    (read_both c.args.tree.now.space.table.shared.key c.args.pass.now.seat.me m n
    c.loop-spent.invariant.read record {
      pins = let once = did.once.0 in omega arith;
      turns = paid_more c.loop-spent.spent c.try_once-tried.new.spent m n did.counted;
      few = did.loads;
    }).few

pub returns-then-not-is_again-clause-alone : goal.returns-then-not-is_again-clause-alone
returns-then-not-is_again-clause-alone g c alone = let z = c.args.tree.now.space.table.shared.key in
    let at = c.loop-spent.invariant.first alone in
    let n = c.try_once-tried.new.pass.seat.me in
    subst (λ (x : MyTree × ℕ). IsAlone z x.0.0.upper → LooksAlone z (2 * bases_at x.0) x.1
    c.try_once-tried.result x.0 n) (λ i. (at.0 i, at.1 i))
    c.try_once-tried.ensures.alone alone

pub returns-then-not-is_again-clause-frame : goal.returns-then-not-is_again-clause-frame
returns-then-not-is_again-clause-frame g c = works_on c.args.tree.now.space c.try_once-tried.result
    c.args.pass.now c.loop-spent.pass c.try_once-tried.new.pass c.loop-spent.invariant.number
    c.try_once-tried.ensures.frame
