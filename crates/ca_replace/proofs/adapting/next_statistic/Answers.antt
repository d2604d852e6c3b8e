use Rattle.std.proofs.Common.{ℕ, ℤ, get_or, to_z, of_z, w32, sym, subst, arith}
use Rattle.std.proofs.lemmas.Int.{ints, to_z-of_z}
use Rattle.ca_adapt.specs.Statistics.{IsAfter, IsStatisticOf}
use Rattle.ca_replace.proofs.adapting.next_statistic.Goals as goal

pub returns-clause-moved : goal.returns-clause-moved
returns-clause-moved c note r = let old : ℤ = to_z w32 (of_z w32 c.statistic_of.result) in (
  old,
  subst (λ (k : ℤ). IsStatisticOf (get_or note.its 1 0) k) (sym (to_z-of_z w32 c.statistic_of.result
      (let small = c.statistic_of.type_inv in omega (arith, ints))))
      (subst (λ (word : ℕ). IsStatisticOf word c.statistic_of.result)
      (c.statistic_word-word.ensures.word note r) c.statistic_of.ensures),
  subst (λ (k : ℤ). IsAfter c.args.tree.now.tuning old c.args.lost k)
      (sym (to_z-of_z w32 c.statistic_after.result
      (let small = c.statistic_after.type_inv in omega (arith, ints)))) c.statistic_after.ensures,
)
