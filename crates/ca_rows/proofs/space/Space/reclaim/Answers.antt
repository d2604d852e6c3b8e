use Rattle.std.proofs.Common.{◌≡◌, ◌+◌, ◌-◌, ◌<◌, ◌≤◌, true, false, cond, List, length, ap, ◌∙◌, ℕ, subst, arith, inl, inr, ⊎_elim}
use Rattle.ca_rows.specs.declared.kept.Kept.{Kept}
use Rattle.std.specs.declared.option.Option.{Option}
use Rattle.ca_rows.specs.Reclaiming.{IsLag, lag_count}
use Rattle.ca_rows.proofs.GivingBack.{reclaims_trans}
use Rattle.ca_rows.proofs.Heads.{is_only}
use Rattle.ca_rows.proofs.Scanning.{less_or_not}
use Rattle.ca_rows.proofs.Rounding.{fewer, nothing_in, one_less, older_still, none_left, true_or_false, young_left}
use Rattle.ca_rows.proofs.space.Space.reclaim.Goals as goal

pub loop-left-preserved : goal.loop-left-preserved
loop-left-preserved g c = let inv = c.loop-left.invariant in
    let some_left = c.loop-left-test.true in let told = c.round-round.ensures in
    let x = told.rounds in
    let m = c.args.pass.now.seat.me in let m1 = c.loop-left.pass.seat.me in
    let m2 = c.round-round.new.pass.seat.me in let few = inv.few in
    let kept1 = c.loop-left.pass.kept.rows in let kept2 = c.round-round.new.pass.kept.rows in
    let long1 = kept1.ok.0 in let long2 = kept2.ok.0 in
    let answer = c.round-round.result in let left : ℕ = c.loop-left.left in
    let left' : ℕ = c.rounds_left-left.result in
    let go_on = λ (e : answer.more ≡ true). c.rounds_left-left.ensures
    ∙ ap (λ b. cond b (left - 1) 0) e in
    let stop = λ (e : answer.more ≡ false). c.rounds_left-left.ensures
    ∙ ap (λ b. cond b (left - 1) 0) e in
    let freed = inv.freed in let freed' = x.freed in let long0 = c.args.pass.now.kept.rows.ok.0 in record {
      table = told.frame.same.0 ∙ inv.table;
      id = told.frame.same.1 ∙ inv.id;
      number = told.frame.number ∙ inv.number;
      tally = told.frame.tally ∙ inv.tally;
      list = told.list;
      reclaims = reclaims_trans m m1 m2 inv.reclaims x.reclaims;
      most = let most = inv.most in let one = x.looked in
          let fewer_left = one_less answer.more left left' some_left c.rounds_left-left.ensures in
          omega arith;
      each = λ lo. let all = inv.each some_left in let one = x.looked in
          ⊎_elim (λ (more : answer.more ≡ true). let less = go_on more in omega arith)
          (λ (more : answer.more ≡ false). let zero_is = stop more in
          absurd (omega arith)) (true_or_false answer.more);
      three = λ zero_is lag room. let all = inv.each some_left in let one = x.looked in
          ⊎_elim (λ (more : answer.more ≡ true). let less = go_on more in inr (omega arith))
          (λ (more : answer.more ≡ false). inl (x.ends more lag room)) (true_or_false answer.more);
      recent = λ _ r t e. let young = x.young r t e in let near = x.near in omega arith;
      after_lag = λ _ lags r t e. let young = x.young r t e in
          ⊎_elim (λ (more : answer.more ≡ true). absurd (lags (x.unlagged more)))
          (λ (more : answer.more ≡ false). let scan = x.stops more in omega arith) (true_or_false answer.more);
      fresh = λ many.
          let fewer_left = one_less answer.more left left' some_left c.rounds_left-left.ensures in
          let at_most = inv.few in absurd (omega arith);
      idle = λ none _. ⊎_elim
          (λ (later : left < 3). let zero_is = (inv.idle none later).0 in absurd (omega arith))
          (λ (first : 3 ≤ left). let same = inv.fresh first in let no_rows = same.0 ∙ none in
          let count = ap (λ (xs : List Kept). length xs) no_rows in
          let still = nothing_in kept2.items (omega arith) in
          let rest = x.rests still in let no_loss = rest.2 in let before = same.1 in
          let all = inv.each some_left in let one = x.looked in let zero_is = stop rest.0 in
          (zero_is, omega arith, rest.1, omega arith))
          (less_or_not left 3);
      looked = λ _. let more = inv.reclaims.more_looks in let one = x.looked in omega arith;
      freed = omega arith;
      lost = let lost = inv.lost in let lost' = x.lost in omega arith;
      few = fewer answer.more left left' inv.few c.rounds_left-left.ensures;
      only = λ only. let now = told.only (is_only m m1 inv.reclaims.same_sizes only) in let before = (inv.only only).1 in
          let none_lost = now.1 in (now.0, omega arith);
      bound = let bound = inv.bound in let more = x.few in
          let fewer_left = one_less answer.more left left' some_left c.rounds_left-left.ensures in
          omega arith;
      tried = let before = inv.tried_twice some_left in let more = x.few in omega arith;
      tried_twice = λ lo. let fewer_left = one_less answer.more left left' some_left c.rounds_left-left.ensures in
          let before = inv.tried_once (omega arith) in let more = x.few in omega arith;
      tried_once = λ lo. let fewer_left = one_less answer.more left left' some_left c.rounds_left-left.ensures in
          let before = (inv.fresh (omega arith)).1 in let more = x.few in omega arith;
      epoch = λ _. x.epoch_is;
      lag = λ _. subst
          (λ (n : ℕ). IsLag c.args.self.now.table.shared.key.passes n answer.lag m2.0.pin)
          inv.number x.lag;
      lags = λ _. let now = x.lags in ⊎_elim
          (λ (later : left < 3). let before = inv.lags later
          ∙ ap (λ (a : Option ℕ). c.args.pass.now.seat.me.0.pin.lags + lag_count a)
          (inv.unlagged some_left later) in omega arith)
          (λ (first : 3 ≤ left). let before = inv.at_first first in
          omega arith) (less_or_not left 3);
      unlagged = λ lo _. ⊎_elim (λ (more : answer.more ≡ true). x.unlagged more)
          (λ (more : answer.more ≡ false). let zero_is = stop more in
          absurd (omega arith)) (true_or_false answer.more);
      at_first = λ many.
          let fewer_left = one_less answer.more left left' some_left c.rounds_left-left.ensures in
          let at_most = inv.few in absurd (omega arith);
      older = λ lo _ f. let before : c.loop-left.losses ≡ 0 = omega arith in
          let now : answer.losses ≡ 0 = omega arith in
          older_still c.args.self.now.table.shared.key.rows c.args.self.now.table.shared.key.passes
          c.loop-left.pass.number m1 m2 kept1 kept2 inv.list told.list
          answer x left left' few go_on stop
          (λ l r t e. inv.older some_left l before r t e) some_left now lo;
      young = λ zero_is f. let before : c.loop-left.losses ≡ 0 = omega arith in
          let now : answer.losses ≡ 0 = omega arith in
          young_left c.args.self.now.table.shared.key.rows c.args.self.now.table.shared.key.passes
          c.loop-left.pass.number m1 m2 kept1 kept2 inv.list told.list
          answer x left left' few go_on stop
          (λ l r t e. inv.older some_left l before r t e) some_left now zero_is;
      ended = λ zero_is lag f room. let before : c.loop-left.losses ≡ 0 = omega arith in
          let now : answer.losses ≡ 0 = omega arith in
          none_left c.args.self.now.table.shared.key.rows c.args.self.now.table.shared.key.passes
          c.loop-left.pass.number m1 m2 kept1 kept2 inv.list told.list
          answer x left left' few go_on stop
          (λ l r t e. inv.older some_left l before r t e) some_left now zero_is lag room;
    }
