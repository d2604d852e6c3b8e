-- What an own attempt comes to behind both marks.
use Rattle.std.proofs.Common.{◌≡◌, ℕ, ◌<◌, true, false, Ok, Err, refl, ap, ◌∙◌, subst, inl, inr, arith}
use Rattle.ca_base.proofs.Counts.{met_both}
use Rattle.ca_base.specs.Counting.{losses, HasMet}
use Rattle.ca_node.specs.JoinSteps.{attempt_of, own_too_late, securing, with_own}
use Rattle.ca_node.specs.Told.{MyTree, with_upper}
use Rattle.ca_node.specs.TreeView.{KnownJoins, Ranging, Tries, Turns, TreeView}
use Rattle.ca_rows.specs.Told.{relinked}
use Rattle.ca_rows.specs.declared.sizes.Sizes.{Sizes}
use Rattle.ca_adapt.specs.Carrying.{HasConcluded, HasUnited}
use Rattle.ca_adapt.specs.Trying.{IsJoinSteps}
use Rattle.ca_adapt.specs.declared.adapted.Why.TheVariants as why
use Rattle.ca_adapt.specs.declared.joining.Attempt.{Attempt}
use Rattle.ca_adapt.proofs.TrySteps.{no_steps}

-- Learning of joins, and of its own, and to count tries, is a step of a try.
pub own_steps : (z : Sizes) (u : TreeView) (own : Ranging) (joins : KnownJoins) (tries : Tries)
    → IsJoinSteps z u (record (with_own u own joins) { tries = tries })
own_steps z u own joins tries = record {
  only = refl;
  seen = (no_steps z u).seen;
  known = λ k. record {
    lawful = k.lawful;
    past = k.past;
    edits = k.edits;
    enrolled =
        k.enrolled;
    by_passes = k.by_passes;
  };
}

module _ (x : Attempt) (m n l : MyTree) where
  -- Another pass had given the attempt up.
  pub concluded_late : n ≡ with_upper m (own_too_late (attempt_of x.route x.number) m.0.upper)
      → l.0.upper ≡ n.0.upper → HasMet 0 0 n l
      → HasConcluded x (Err why.Lost) m l
  concluded_late e same met = let view = same ∙ ap (λ (y : MyTree). y.0.upper) e in
      let empty = ap (λ (y : MyTree). y.0.empty) e in let worn = ap (λ (y : MyTree). y.0.worn) e in
      let passed = ap (λ (u : TreeView). u.turns.passed) view in let joins =
      ap (λ (u : TreeView). u.joins) view in (
        refl,
        met_both 0 0 0 0 m n l (omega arith, omega arith) met,
        record {
          passed = omega arith;
          helped = ap (λ (u : TreeView). u.turns.helped) view;
          loads = ap (λ (u : TreeView). u.loads) view;
          joins_are = omega arith;
          tried = ap (λ (u : TreeView). u.tries.tried) view;
        },
        inr (
          ap (λ (u : TreeView). u.ranges.joins.decided) view,
          ap (λ (u : TreeView). u.ranges.joins.begun) view,
          ap (λ (u : TreeView). u.tries.overtaken) view,
        ),
      )

  module _ (e : n ≡ relinked m m.0.claims (securing (attempt_of x.route x.number) m.0.upper)) where
    lost_so : losses n ≡ losses m
    lost_so = ap losses e

    met_so : HasMet 0 0 m n
    met_so = let empty = ap (λ (y : MyTree). y.0.empty) e in let worn =
        ap (λ (y : MyTree). y.0.worn) e in (omega arith, omega arith)

    -- The route was unlinked.
    pub concluded_won : HasUnited true n l → HasConcluded x (Ok tt) m l
    concluded_won h = let joins = h.0.joins in let before =
        ap (λ (y : MyTree). y.0.upper.joins) e in
        let passed = ap (λ (t : Turns). t.passed) h.0.turns
        ∙ ap (λ (y : MyTree). y.0.upper.turns.passed) e in (
          record {
            passed = omega arith;
            helped = ap (λ (t : Turns). t.helped) h.0.turns
                ∙ ap (λ (y : MyTree). y.0.upper.turns.helped) e;
            loads = h.3 ∙ ap (λ (y : MyTree). y.0.upper.loads) e;
            joins_are = omega arith;
            tried = ap (λ (t : Tries). t.tried) h.4 ∙ ap (λ (y : MyTree). y.0.upper.tries.tried) e;
          },
          h.0.forgotten,
          met_both 0 0 0 0 m n l met_so h.2,
          h.1 ∙ lost_so,
        )

    -- Another pass had unlinked it.
    pub concluded_lost : HasUnited false n l → HasConcluded x (Err why.Lost) m l
    concluded_lost h = let joins = h.0.joins in let before =
        ap (λ (y : MyTree). y.0.upper.joins) e in
        let passed = ap (λ (t : Turns). t.passed) h.0.turns
        ∙ ap (λ (y : MyTree). y.0.upper.turns.passed) e in (
          refl,
          met_both 0 0 0 0 m n l met_so h.2,
          record {
            passed = omega arith;
            helped = ap (λ (t : Turns). t.helped) h.0.turns
                ∙ ap (λ (y : MyTree). y.0.upper.turns.helped) e;
            loads = h.3 ∙ ap (λ (y : MyTree). y.0.upper.loads) e;
            joins_are = omega arith;
            tried = ap (λ (t : Tries). t.tried) h.4 ∙ ap (λ (y : MyTree). y.0.upper.tries.tried) e;
          },
          inl (h.0.forgotten, subst (λ (k : ℕ). k < losses l) lost_so h.1),
        )
