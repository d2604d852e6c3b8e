use Rattle.std.proofs.Common.{◌≡◌, ℕ, ◌<◌, ◌≤◌, false, vec_len, refl, ap, subst, inl, inr, ⊎_elim, arith}
use Rattle.std.specs.declared.option.Option.{Option}
use Rattle.std.specs.declared.option.Option.TheVariants.{None, Some}
use Rattle.std.specs.Option.{is_some}
use Rattle.ca_replace.proofs.Causing.{none_or_lost, none_or_more}
use Rattle.ca_rows.specs.Reclaiming.{lag_count}
use Rattle.ca_rows.specs.Layout.{last_epoch}
use Rattle.ca_replace.proofs.giving.refill.Goals as goal

no_lag : (lag : Option ℕ) → false ≡ is_some lag → lag ≡ None
no_lag None e = refl
no_lag (Some j) e = absurd cc

pub returns-clause-again : goal.returns-clause-again
returns-clause-again c = λ _. let given = c.give_back_kept-given in
    let most = c.ranges.budget.fits in
    let lag = no_lag given.result.lag c.if-is_some.ensures in
    let all = λ (calm : given.result.lost ≡ false). ⊎_elim
    (λ (few : (last_epoch ≤ given.result.epoch) × (given.result.kept ≤ 0)).
    let n = few.1 in let none : given.result.kept ≡ 0 = omega arith in none)
    (λ (room : given.result.epoch < last_epoch). given.ensures.given.all lag calm
    (subst (λ n. n < last_epoch) given.ensures.given.epoch room))
    c.else-given-ge-LAST_EPOCH.either in record {
      some = let positive : c.args.kept ≡ 0 → ⊥ = c.if-kept-eq0.false in grind (arith, positive);
      unspent = let room = subst
          (λ n. n < c.args.budget) c.spent_in_all.ensures c.if-spent_in_all-budget.false in
          omega arith;
      nearer = ⊎_elim (λ (none : vec_len given.new.pass.kept.rows ≡ 0). inl none)
          (λ (more : c.args.spent.now.lost < c.add-spent.result). inr (omega arith))
          (none_or_lost given.result.lost given.result.losses c.args.spent.now.lost
          c.add-spent.result c.args.budget given.result.kept
          (vec_len given.new.pass.kept.rows) given.ensures.given.lost (let room = subst
          (λ n. n < c.args.budget) c.spent_in_all.ensures
          c.if-spent_in_all-budget.false in
          omega arith) (omega arith) c.add-spent.ensures.sum given.ensures.given.kept all);
      begins = none_or_more given.result.lost given.result.losses given.result.kept
          given.ensures.given.lost all (vec_len given.new.pass.kept.rows) given.ensures.given.kept
          c.args.pass.now.seat.me given.new.pass.seat.me given.ensures.given.losses
          given.ensures.given.reclaims.same_upper;
      unlagged = let none = ap lag_count lag in let sum = given.ensures.given.lags in omega arith;
    }
