use Rattle.std.specs.Prelude.{[], ◌∷◌, length}
use Rattle.std.proofs.Common.{◌∙◌, arith, ap, length-append}
use Rattle.ca_term.proofs.Lists.{list_pop}
use Rattle.ca_term.proofs.build.list.Goals as goal

pub loop-head-preserved : goal.loop-head-preserved
loop-head-preserved c = record {
  same = rw c.in-Ok.ensures.ok (list_pop c.loop-head.heads.items c.pop.new.self.items c.in-Some.head c.loop-head.list c.in-Some.ensures.items
      ∙ c.loop-head.invariant.same);
  fewer = omega (arith, ap length c.in-Some.ensures.items, length-append c.pop.new.self.items (c.in-Some.head ∷ []), c.loop-head.invariant.fewer);
}

pub returns-in_default-cons-clause-none : goal.returns-in_default-cons-clause-none
returns-in_default-cons-clause-none c e = absurd (omega (
  arith,
  ap length c.in-Some.ensures.items,
  length-append c.pop.new.self.items (c.in-Some.head ∷ []),
  c.loop-head.invariant.fewer,
  ap length e,
))
