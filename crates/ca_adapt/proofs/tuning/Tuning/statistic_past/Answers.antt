use Rattle.std.proofs.Common.{◌≡◌, ℤ, ◌+ℤ◌, pos, true, false, neg_ℤ, to_z, of_z, w32, ap, ◌∙◌, subst, arith, inl, inr}
use Rattle.std.proofs.lemmas.Int.{ints, to_z-of_z}
use Rattle.std.specs.Int.Signed.{lt_z}
use Rattle.ca_adapt.specs.Allowed.{IsWithin}
use Rattle.ca_adapt.specs.Statistics.{IsKept}
use Rattle.ca_adapt.proofs.tuning.Tuning.statistic_past.Goals as goal

-- A number of 32 bits is itself.
itself : (k : ℤ) → IsWithin (neg_ℤ (pos 2000000)) (pos 2000000) k → to_z w32 (of_z w32 k) ≡ k
itself k in_bounds = let lo = in_bounds.0 in let hi = in_bounds.1 in
    to_z-of_z w32 k (omega (arith, ints))

-- So is such a sum.
sum_is : (k r : ℤ) → IsWithin (neg_ℤ (pos 1000000)) (pos 1000000) k
    → IsWithin (neg_ℤ (pos 1000000)) (pos 0) r
    → to_z w32 (of_z w32 (to_z w32 (of_z w32 k) +ℤ to_z w32 (of_z w32 r))) ≡ k +ℤ r
sum_is k r a b = let lo = a.0 in let hi = a.1 in let lo' = b.0 in let hi' = b.1 in
    ap (λ (x : ℤ). to_z w32 (of_z w32 (x +ℤ to_z w32 (of_z w32 r))))
    (itself k (omega (arith, ints), omega (arith, ints)))
    ∙ (ap (λ (x : ℤ). to_z w32 (of_z w32 (k +ℤ x)))
    (itself r (omega (arith, ints), omega (arith, ints)))
    ∙ itself (k +ℤ r) (omega (arith, ints), omega (arith, ints)))

pub returns-then-moved-self : goal.returns-then-moved-self
returns-then-moved-self c = let k = c.kept.result in let t = c.args.self.now in let wide =
    c.requires.wide.1 in let lo = wide.0 in let hi = wide.1 in
    let low = itself t.low (omega (arith, ints), omega (arith, ints)) in
    let sum = sum_is k t.range c.kept.ensures.small c.requires.moves.2 in
    let less = subst (λ (p : ℤ × ℤ). lt_z p.0 p.1 ≡ true) (λ i. (sum i, low i))
    c.if-moved-self.true in (
      k,
      subst (λ (x : ℤ). IsKept t x k) (to_z-of_z w32 c.args.old c.ranges.old) c.kept.ensures.kept,
      inr (omega (arith, ints), low),
    )

pub returns-else-moved-self : goal.returns-else-moved-self
returns-else-moved-self c = let k = c.kept.result in let t = c.args.self.now in let wide =
    c.requires.wide.1 in let lo = wide.0 in let hi = wide.1 in
    let low = itself t.low (omega (arith, ints), omega (arith, ints)) in let sum =
    sum_is k t.range c.kept.ensures.small c.requires.moves.2 in
    let less = subst (λ (p : ℤ × ℤ). lt_z p.0 p.1 ≡ false) (λ i. (sum i, low i))
    c.if-moved-self.false in (
      k,
      subst (λ (x : ℤ). IsKept t x k) (to_z-of_z w32 c.args.old c.ranges.old) c.kept.ensures.kept,
      inl (omega (arith, ints), sum),
    )
