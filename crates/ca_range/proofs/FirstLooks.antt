-- The first steps of a snapshot: a walk to the first base, a look at it, and at which range has it.
use Rattle.std.proofs.Common.{◌≡◌, ℕ, ◌<◌, [], sym, ap, subst, arith}
use Rattle.ca_base.specs.Counting.{losses}
use Rattle.ca_base.specs.Readiness.{IsReady}
use Rattle.ca_base.specs.Spending.{IsSpentOn}
use Rattle.ca_model.specs.declared.outcome.Spent.{Spent}
use Rattle.ca_node.specs.States.{IsAlone}
use Rattle.ca_node.specs.Told.{MyTree, IsKnown, with_upper}
use Rattle.ca_node.specs.TreeView.{TreeView}
use Rattle.ca_rows.specs.Passes.{KeepsList, OnlyReads}
use Rattle.ca_rows.specs.declared.sizes.Sizes.{Sizes}
use Rattle.ca_rows.specs.declared.space.Pass.{Pass}
use Rattle.ca_rows.specs.declared.space.Space.{Space}
use Rattle.ca_range.specs.Lonely.{WalksAlone}
use Rattle.ca_range.specs.Snapping.{GoesOn}
use Rattle.ca_range.specs.Staying.{OnlySteps}
use Rattle.ca_range.specs.Using.{OnlyLearns}
use Rattle.ca_range.proofs.GoingOn.{goes_steps}
use Rattle.ca_range.proofs.OwnSteps.{goes_both, goes_reads}
use Rattle.ca_range.proofs.Readied.{ready_reads, ready_still}
use Rattle.ca_range.proofs.SnapshotSteps.{walked_still}

-- They leave the own range.
module _ {R : Type 0} (space : Space R TreeView) (p q r t : Pass R TreeView) (ready : IsReady space p)
    (keeps : KeepsList p q) (raised : q.seat.me ≡ with_upper p.seat.me q.seat.me.0.upper)
    (steps : OnlySteps space.table.shared.key 0 p.seat.me.0.upper q.seat.me.0.upper)
    (no_join : q.seat.me.0.upper.joins ≡ p.seat.me.0.upper.joins)
    (turns : q.seat.me.0.upper.turns ≡ p.seat.me.0.upper.turns) (reads : OnlyReads q r) where
  looked_goes : (a : Spent) → GoesOn space a a p r
  looked_goes a = goes_both space a a a p q r
      (goes_steps space a a p q ready keeps raised no_join steps
      (walked_still space.table.shared.key p.seat.me q.seat.me r.seat.me t.seat.me raised steps turns reads.still a))
      (goes_reads space a q r (ready_still space p q ready keeps raised steps) reads)

  pub first_goes : OnlyLearns space r t → (a b : Spent) → IsSpentOn a b r.seat.me t.seat.me
      → GoesOn space a b p t
  first_goes learns a b spent = goes_both space a a b p r t (looked_goes a)
      (goes_steps space a b r t
      (ready_reads space q r (ready_still space p q ready keeps raised steps) reads)
      learns.frame learns.raised learns.no_join learns.steps spent)

-- A pass that is alone lost and helped nothing by a walk and a look, the tree is as it was, and the
-- pass found no range of another pass unfinished.
pub record LooksAlone (z : Sizes) (m m' : MyTree) : Type 0 where
  pub unlost : losses m' ≡ losses m
  pub turns : m'.0.upper.turns ≡ m.0.upper.turns
  pub tree : m'.0.upper.inventory ≡ m.0.upper.inventory
  pub unmet : m'.0.upper.ranges.unfinished ≡ []
  pub alone : IsAlone z m'.0.upper
  pub known : IsKnown z m'.0.upper

pub looks_alone : (z : Sizes) (m k l : MyTree) → k ≡ with_upper m k.0.upper
    → OnlySteps z 0 m.0.upper k.0.upper → k.0.upper.turns ≡ m.0.upper.turns
    → k.0.upper.ranges.unfinished ≡ [] → IsKnown z k.0.upper → WalksAlone m.0.upper k.0.upper
    → l ≡ k → IsAlone z m.0.upper → LooksAlone z m l
looks_alone z m k l raised steps turns unmet known walks still alone =
    subst (LooksAlone z m) (sym still) record {
      unlost = let pool = ap (λ (x : MyTree). x.0.lost) raised in let link = steps.lost_is in
          omega arith;
      turns = turns;
      tree = walks.tree;
      unmet = unmet;
      alone = (alone.0, subst (λ (n : ℕ). 0 < n) (sym (ap (λ (u : TreeView). u.number) steps.only)) alone.1);
      known = known;
    }
