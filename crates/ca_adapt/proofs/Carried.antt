-- What an own attempt comes to by its marks, and by its end; and one that is left.
use Rattle.std.proofs.Common.{◌≡◌, ℕ, ◌+◌, ◌<◌, ◌≤◌, Bool, true, false, [], ◌∷◌, Result, Ok, Err, sym, ap, ◌∙◌, subst, inl, inr, ⊎_elim, arith}
use Rattle.ca_base.proofs.Counts.{met_both}
use Rattle.ca_base.specs.Counting.{losses, HasMet, HasStoppedBy}
use Rattle.ca_base.specs.Taking.{AreHeld, lent_of}
use Rattle.ca_base.specs.declared.stop.Stop.{Stop}
use Rattle.ca_base.specs.declared.stop.Stop.TheVariants as stop
use Rattle.ca_model.specs.declared.outcome.Spent.{Spent}
use Rattle.ca_node.specs.JoinSteps.{attempt_of, joins_aborted, joins_too_late, leaving, own_too_late, HasLeftJoin}
use Rattle.ca_node.specs.Links.{IsIn}
use Rattle.ca_node.specs.Told.{MyTree}
use Rattle.ca_node.specs.TreeView.{Attempt as Joins, Joining, KnownRanges, Quiet, TreeView, one_overtaken}
use Rattle.ca_rows.specs.Passes.{KeepsList}
use Rattle.ca_rows.specs.declared.kept.KeptRows.{KeptRows}
use Rattle.ca_rows.specs.declared.sizes.Sizes.{Sizes}
use Rattle.ca_rows.specs.declared.space.Pass.{Pass}
use Rattle.ca_adapt.specs.Carrying.{HasCarriedOut, HasConcluded, StaysPinned, why_not}
use Rattle.ca_adapt.specs.Pairs.{Marks}
use Rattle.ca_adapt.specs.Trying.{HasLeft, HasMade, IsJoinSteps, IsSpentTrying}
use Rattle.ca_adapt.specs.declared.adapted.Why.{Why}
use Rattle.ca_adapt.specs.declared.joining.Attempt.{Attempt}
use Rattle.ca_adapt.proofs.Concluded.{own_steps}
use Rattle.ca_adapt.proofs.JoinHeld.{raised_held, relinked_held}
use Rattle.ca_adapt.proofs.MarkedPairs.{tried_none}
use Rattle.ca_adapt.proofs.Readied.{pinned_keeps}

pub prepared_begun : (u v : TreeView) (route number : ℕ) → v.ranges ≡ u.ranges
    → IsIn (attempt_of route number) u.ranges.joins.begun
    → IsIn (attempt_of route number) v.ranges.joins.begun
prepared_begun u v route number same i = subst
    (λ (r : KnownRanges). IsIn (attempt_of route number) r.joins.begun) (sym same) i

-- Behind both marks.
module _ (x : Attempt) (m n l : MyTree) (marks : Marks 2 m.0.upper n.0.upper) where
  counts : (some : ℕ) → HasMade 0 some n l → HasMade 2 some m l
  counts some c = let one = marks.passed in let two = c.passed in let all = c.joins_are in
      let before = ap (λ (u : TreeView). u.joins) marks.only in record {
        passed = omega arith;
        helped = c.helped ∙ marks.helped;
        loads = c.loads ∙ ap (λ (u : TreeView). u.loads) marks.only;
        joins_are = omega arith;
        tried = c.tried ∙ ap (λ (u : TreeView). u.tries.tried) marks.only;
      }

  pub concluded_by : HasMet 0 0 m n → losses n ≡ losses m → (r : Result (Unit {0}) Why)
      → HasConcluded x r n l → HasCarriedOut x r m l
  concluded_by met same (Ok done) c =
      (counts 1 c.0, c.1, met_both 0 0 0 0 m n l met c.2, c.3 ∙ same)
  concluded_by met same (Err w) c = subst (λ (y : Why). HasCarriedOut x (Err y) m l) (sym c.0) (
    met_both 0 0 0 0 m n l met c.1,
    ⊎_elim (λ lost. inr (inl (counts 0 c.2, lost.0, subst (λ (k : ℕ). k < losses l) same lost.1)))
        (λ late. inr (inr (
          counts 0 c.2,
          late.0 ∙ ap (λ (u : TreeView). attempt_of x.route x.number ∷ u.ranges.joins.decided)
              marks.only,
          late.1 ∙ ap (λ (u : TreeView). u.ranges.joins.begun) marks.only,
          late.2 ∙ ap (λ (u : TreeView). u.tries.overtaken + 1) marks.only,
        ))) c.3,
  )

pub concluded : (x : Attempt) (r : Result (Unit {0}) Why) (m n l : MyTree)
    → Marks 2 m.0.upper n.0.upper → HasMet 0 0 m n × (losses n ≡ losses m)
    → HasConcluded x r n l → HasCarriedOut x r m l
concluded x r m n l marks found c = concluded_by x m n l marks found.0 found.1 r c

-- The attempt was left: it was given up by the seat, or by another pass before. Nothing was counted
-- by that.
record LeavesCounts (m m' : MyTree) : Type 0 where
  lost : losses m' ≡ losses m
  met : HasMet 0 0 m m'
  passed : m'.0.upper.turns.passed ≡ m.0.upper.turns.passed
  helped : m'.0.upper.turns.helped ≡ m.0.upper.turns.helped
  loads : m'.0.upper.loads ≡ m.0.upper.loads
  joins : m'.0.upper.joins ≡ m.0.upper.joins
  begun : m'.0.upper.ranges.joins.begun ≡ m.0.upper.ranges.joins.begun
  tried : m'.0.upper.tries.tried ≡ m.0.upper.tries.tried

leaves_counts : (b : Bool) (x : Joins) (m m' : MyTree) → HasLeftJoin b x m m' → LeavesCounts m m'
leaves_counts true x m m' e = let empty = ap (λ (y : MyTree). y.0.empty) e in let worn =
    ap (λ (y : MyTree). y.0.worn) e in record {
      lost = ap losses e;
      met = (omega arith, omega arith);
      passed = ap (λ (y : MyTree). y.0.upper.turns.passed) e;
      helped = ap (λ (y : MyTree). y.0.upper.turns.helped) e;
      loads = ap (λ (y : MyTree). y.0.upper.loads) e;
      joins = ap (λ (y : MyTree). y.0.upper.joins) e;
      begun = ap (λ (y : MyTree). y.0.upper.ranges.joins.begun) e;
      tried = ap (λ (y : MyTree). y.0.upper.tries.tried) e;
    }
leaves_counts false x m m' e = let empty = ap (λ (y : MyTree). y.0.empty) e in let worn =
    ap (λ (y : MyTree). y.0.worn) e in record {
      lost = ap losses e;
      met = (omega arith, omega arith);
      passed = ap (λ (y : MyTree). y.0.upper.turns.passed) e;
      helped = ap (λ (y : MyTree). y.0.upper.turns.helped) e;
      loads = ap (λ (y : MyTree). y.0.upper.loads) e;
      joins = ap (λ (y : MyTree). y.0.upper.joins) e;
      begun = ap (λ (y : MyTree). y.0.upper.ranges.joins.begun) e;
      tried = ap (λ (y : MyTree). y.0.upper.tries.tried) e;
    }

pub left_pinned : {R : Type 0} (b : Bool) (x : Joins) (pass new : Pass R TreeView)
    → KeepsList pass new → HasLeftJoin b x pass.seat.me new.seat.me
    → StaysPinned pass new
left_pinned true x pass new k e = pinned_keeps pass new k (ap (λ (y : MyTree). y.0.sizes) e)
    (ap (λ (y : MyTree). y.0.pin) e)
    (ap (λ (y : MyTree). y.0.upper.splits) e) (ap (λ (y : MyTree). y.0.upper.joins) e)
left_pinned false x pass new k e = pinned_keeps pass new k (ap (λ (y : MyTree). y.0.sizes) e)
    (ap (λ (y : MyTree). y.0.pin) e)
    (ap (λ (y : MyTree). y.0.upper.splits) e) (ap (λ (y : MyTree). y.0.upper.joins) e)

pub left_held : (b : Bool) (x : Joins) (rows : ℕ) (kept kept' : KeptRows) (m m' : MyTree)
    → kept' ≡ kept → m.0.upper.ranges.own ≡ Joining x
    → AreHeld rows kept.rows m.0 [] → HasLeftJoin b x m m' → AreHeld rows kept'.rows m'.0 []
left_held true x rows kept kept' m m' too own held e =
    relinked_held rows kept kept' m m' [] (leaving x m.0.upper) too (ap lent_of (sym own))
    (omega arith) held e
left_held false x rows kept kept' m m' too own held e =
    raised_held rows kept kept' m m' [] (own_too_late x m.0.upper) too (ap lent_of (sym own))
    (omega arith) held e

pub left_own : (b : Bool) (x : Joins) (m m' : MyTree) → HasLeftJoin b x m m'
    → m'.0.upper.ranges.own ≡ Quiet
left_own true x m m' e = ap (λ (y : MyTree). y.0.upper.ranges.own) e
left_own false x m m' e = ap (λ (y : MyTree). y.0.upper.ranges.own) e

pub left_steps : (z : Sizes) (b : Bool) (x : Joins) (m m' : MyTree) → HasLeftJoin b x m m'
    → IsJoinSteps z m.0.upper m'.0.upper
left_steps z true x m m' e = subst (λ (y : MyTree). IsJoinSteps z m.0.upper y.0.upper) (sym e)
    (own_steps z m.0.upper Quiet (joins_aborted x m.0.upper.ranges.joins) m.0.upper.tries)
left_steps z false x m m' e = subst (λ (y : MyTree). IsJoinSteps z m.0.upper y.0.upper) (sym e)
    (own_steps z m.0.upper Quiet (joins_too_late x m.0.upper.ranges.joins)
    (one_overtaken m.0.upper.tries))

pub left_lost : (b : Bool) (x : Joins) (m m' : MyTree) → HasLeftJoin b x m m' → losses m' ≡ losses m
left_lost b x m m' e = (leaves_counts b x m m' e).lost

pub left_spent : (b : Bool) (x : Joins) (spent : Spent) (m m' : MyTree) → HasLeftJoin b x m m'
    → IsSpentTrying spent spent m m'
left_spent b x spent m m' e = let l = leaves_counts b x m m' e in
    tried_none spent m m' l.lost l.passed

-- So it was behind marks that came to a stop.
module _ (x : Attempt) (marks : ℕ) (k m m' : MyTree) (few : marks ≤ 2)
    (made : Marks marks k.0.upper m.0.upper) (l : LeavesCounts m m') where
  left : HasLeft k m'
  left = let one = made.passed in let two = l.passed in let all = l.joins in let before =
      ap (λ (u : TreeView). u.joins) made.only in record {
        marks = marks;
        few = few;
        counts = record {
          passed = omega arith;
          helped = l.helped ∙ made.helped;
          loads = l.loads ∙ ap (λ (u : TreeView). u.loads) made.only;
          joins_are = omega arith;
          tried = l.tried ∙ ap (λ (u : TreeView). u.tries.tried) made.only;
        };
        begun = l.begun ∙ ap (λ (u : TreeView). u.ranges.joins.begun) made.only;
      }

  left_by : (why : Stop) → HasStoppedBy why k m → HasCarriedOut x (Err (why_not why)) k m'
  left_by (stop.Lost exchange) h = (
    met_both 0 0 0 0 k m m' h.1 l.met,
    inl (left, subst (λ (n : ℕ). losses k < n) (sym l.lost) h.0),
  )
  left_by stop.Empty h = (left, met_both 1 0 0 0 k m m' h l.met)
  left_by stop.Worn h = (left, met_both 0 1 0 0 k m m' h l.met)

pub left_counts : (b : Bool) (x : Attempt) (why : Stop) (marks : ℕ) (k m m' : MyTree) → marks ≤ 2
    → Marks marks k.0.upper m.0.upper → HasStoppedBy why k m
    → HasLeftJoin b (attempt_of x.route x.number) m m' → HasCarriedOut x (Err (why_not why)) k m'
left_counts b x why marks k m m' few made found e =
    left_by x marks k m m' few made (leaves_counts b (attempt_of x.route x.number) m m' e) why found
