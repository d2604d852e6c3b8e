use Rattle.std.proofs.Common.{◌≡◌, ℤ, ◌+ℤ◌, to_z, of_z, w32, ap, ◌∙◌, subst, arith}
use Rattle.std.proofs.lemmas.Int.{ints, to_z-of_z}
use Rattle.ca_adapt.specs.Statistics.{IsKept}
use Rattle.ca_adapt.proofs.tuning.Tuning.statistic_after.Goals as goal

pub returns : goal.returns
returns c = let low = c.kept.ensures.small in let step = c.step.ensures.small in
    let k = c.kept.result in let s = c.step.result in
    let a : to_z w32 (of_z w32 k) ≡ k = to_z-of_z w32 k (omega (arith, ints)) in
    let b : to_z w32 (of_z w32 s) ≡ s = to_z-of_z w32 s (omega (arith, ints)) in
    let sum : to_z w32 (of_z w32 (k +ℤ s)) ≡ k +ℤ s =
    to_z-of_z w32 (k +ℤ s) (omega (arith, ints)) in (
      k,
      subst (λ (x : ℤ). IsKept c.args.self.now x k) (to_z-of_z w32 c.args.old c.ranges.old)
          c.kept.ensures.kept,
      ap (λ (x : ℤ). to_z w32 (of_z w32 (x +ℤ to_z w32 (of_z w32 s)))) a
          ∙ (ap (λ (x : ℤ). to_z w32 (of_z w32 (k +ℤ x))) b
          ∙ (sum ∙ ap (λ (x : ℤ). k +ℤ x) c.step.ensures.step)),
    )
