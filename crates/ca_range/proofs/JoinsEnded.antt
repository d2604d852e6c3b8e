-- What a load of a join word tells of an attempt that marked a base, and what stays of what a pass knows that gave one up.
use Rattle.std.proofs.Common.{◌≡◌, ◌≢◌, ℕ, ◌+◌, ◌*◌, ◌/◌, ◌%◌, ◌<◌, ◌≤◌, max, Bool, true, false, cond, List, [], ◌∷◌, ◌++◌, sym, refl, ap, ◌∙◌, subst, inl, inr, ⊎_elim, arith, eq-eqb, ne_eqb}
use Rattle.std.proofs.lemmas.Bool.{cases_lt}
use mathlib.Core.Logic.{dite}
use native.Mathlib.Decide.{ℕ_discrete}
use Rattle.ca_node.specs.LoneStays.{HasNone}
use Rattle.ca_node.proofs.LoneLoads.{idle_by_load}
use Rattle.ca_node.specs.JoinSteps.{attempt_of, before, finished_by, prepared_by, secured_by, HasLoadedJoin, aborted, too_late, joins_loaded, joins_aborted, joins_too_late}
use Rattle.ca_node.specs.Joining.{IsRemembered}
use Rattle.ca_node.specs.Links.{IsIn}
use Rattle.ca_node.specs.Row.{IsMarkedFor}
use Rattle.ca_node.specs.Told.{MyTree, with_upper, IsUnjoined}
use Rattle.ca_node.specs.TreeView.{Attempt, Border, KnownJoins, Ranging, TreeView}
use Rattle.ca_rows.specs.Claims.{held_count}
use Rattle.ca_rows.specs.Told.{relinked}
use Rattle.ca_rows.specs.declared.sizes.Sizes.{Sizes}
use Rattle.ca_range.specs.Attempts.{HasFoundJoin, IsKnownFinished, IsOnBase, IsProgress, LearnsOfJoins, joined_more}
use Rattle.ca_range.specs.Filling.{RemembersAll}
use Rattle.ca_range.specs.Staying.{OnlySteps}
use Rattle.ca_adapt.specs.declared.joining.Attempt.{Attempt as Marker}
use Rattle.ca_range.specs.declared.joins.Found.{Found}
use Rattle.ca_range.specs.declared.joins.Found.TheVariants as found
use Rattle.ca_range.proofs.Stepping.{known_same, none_more}

-- The join word of the attempt's route was loaded.
module _ (x : Marker) (m m' : MyTree) (n : ℕ) (h : HasLoadedJoin x.route m n m') where
  -- It was loaded, and so much was learnt.
  pub learns_by_load : LearnsOfJoins false m m'
  learns_by_load = (joins_loaded x.route n m.0.upper.ranges.joins, h.now)

  -- The attempt is finished, where it was begun and is neither prepared nor secured.
  pub finished_by_load : x.number ≤ n / 4 → n ≢ 4 * x.number + 1 → n ≢ 4 * x.number + 2 → IsKnownFinished m'.0.upper x
  finished_by_load begun not nor = subst (λ (y : MyTree). IsKnownFinished y.0.upper x) (sym h.now) (finished_by x.route n, (0, refl), refl, below)
    where
      below : x.number < (finished_by x.route n).below
      below = let low = h.state in dite (ℕ_discrete (n % 4) 0)
          (λ (zero : n % 4 ≡ 0). subst (λ (b : Bool). x.number < cond b (n / 4 + 1) (n / 4)) (sym (eq-eqb (n % 4) 0 zero)) (omega arith))
          (λ (busy : n % 4 ≢ 0). subst (λ (b : Bool). x.number < cond b (n / 4 + 1) (n / 4)) (sym (ne_eqb (n % 4) 0 busy)) (omega arith))

  -- It was begun, and is noted as found prepared, where it is.
  module _ (is : n ≡ 4 * x.number + 1) where
    number : n / 4 ≡ x.number
    number = omega (arith, is)

    state : n % 4 ≡ 1
    state = omega (arith, is)

    pub begun_by_load : IsIn (attempt_of x.route x.number) m'.0.upper.ranges.joins.begun
    begun_by_load = subst (λ (y : MyTree). IsIn (attempt_of x.route x.number) y.0.upper.ranges.joins.begun) (sym h.now)
        (subst (λ (k : ℕ). IsIn (attempt_of x.route k) (attempt_of x.route (n / 4) ∷ m.0.upper.ranges.joins.begun)) number (0, refl))

    pub prepared_by_load : IsIn (attempt_of x.route x.number) m'.0.upper.ranges.joins.prepared
    prepared_by_load = subst (λ (y : MyTree). IsIn (attempt_of x.route x.number) y.0.upper.ranges.joins.prepared) (sym h.now)
        (subst (λ (k : ℕ). IsIn (attempt_of x.route k) (prepared_by x.route n ++ m.0.upper.ranges.joins.prepared)) number
        (subst (λ (b : Bool). IsIn (attempt_of x.route (n / 4)) (cond b (attempt_of x.route (n / 4) ∷ []) [] ++ m.0.upper.ranges.joins.prepared))
        (sym (eq-eqb (n % 4) 1 state)) (0, refl)))

  -- It is noted as secured, where it is.
  pub secured_by_load : n ≡ 4 * x.number + 2 → IsIn (attempt_of x.route x.number) m'.0.upper.ranges.joins.secured
  secured_by_load is = let number : n / 4 ≡ x.number = omega (arith, is) in let state : n % 4 ≡ 2 = omega (arith, is) in
      subst (λ (y : MyTree). IsIn (attempt_of x.route x.number) y.0.upper.ranges.joins.secured) (sym h.now)
      (subst (λ (k : ℕ). IsIn (attempt_of x.route k) (secured_by x.route n ++ m.0.upper.ranges.joins.secured)) number
      (subst (λ (b : Bool). IsIn (attempt_of x.route (n / 4)) (cond b (attempt_of x.route (n / 4) ∷ []) [] ++ m.0.upper.ranges.joins.secured))
      (sym (eq-eqb (n % 4) 2 state)) (0, refl)))

  -- The pass isn't the only one of the space, where one is under way.
  pub several_by_load : n % 4 ≢ 0 → 0 < m.0.upper.number → HasNone m.0.upper.ranges.own → (z : Sizes) → m.0.sizes ≡ z → 1 < z.passes
  several_by_load busy pass none z sized = ⊎_elim (λ (l : 1 < z.passes). l)
      (λ (few : z.passes ≤ 1). absurd (busy (idle_by_load x.route n m m' h (subst (λ (y : Sizes). y.passes ≤ 1) (sym sized) few) pass none))) (cases_lt 1 z.passes)

-- A pass that had no attempt of its own has none, where its own operation is as far as it was.
pub none_still : (own own' : Ranging) → own' ≡ own → HasNone own → HasNone own'
none_still own own' same none = subst HasNone (sym same) none

-- The attempt was given up, by a pass that holds no row.
pub learns_by_abort : (x : Attempt) (m m' : MyTree) → held_count m.0.claims ≤ 0 → m' ≡ relinked m m.0.claims (aborted x m.0.upper) → LearnsOfJoins true m m'
learns_by_abort x m m' none e = let most : max m.0.most (held_count m.0.claims) ≡ m.0.most = omega arith in (
  joins_aborted x m.0.upper.ranges.joins,
  e ∙ ap (λ (n : ℕ). (record m.0 { upper = aborted x m.0.upper; most = n }, m.1)) most,
)

-- So it is finished.
pub finished_by_abort : (x : Marker) (m m' : MyTree) → m' ≡ relinked m m.0.claims (aborted (attempt_of x.route x.number) m.0.upper)
    → IsKnownFinished m'.0.upper x
finished_by_abort x m m' e = subst (λ (y : MyTree). IsKnownFinished y.0.upper x) (sym e) (before x.route (x.number + 1), (0, refl), refl, omega arith)

-- Or it wasn't prepared any more.
pub learns_by_late : (x : Attempt) (m m' : MyTree) → m' ≡ with_upper m (too_late x m.0.upper) → LearnsOfJoins true m m'
learns_by_late x m m' e = (joins_too_late x m.0.upper.ranges.joins, e)

-- A base is one that no join has, where the attempt is finished that marked it.
pub unjoined_by : (u : TreeView) (its : List ℕ) (x : Marker) → IsMarkedFor its x.route x.number → IsKnownFinished u x → IsUnjoined u its
unjoined_by u its x m f = inr (f.0, f.1, m.1 ∙ f.2, subst (λ (n : ℕ). n < f.0.below) (sym m.2) f.3)

-- How far an attempt is that marked a base, by its route's join word.
pub found_join : (f : Found) (z : Sizes) (x : Marker) (m m' : MyTree) (n : ℕ) → m.0.sizes ≡ z → IsOnBase z m.0.upper x → HasLoadedJoin x.route m n m'
    → n < 18446744073709551616 → IsProgress f x.number n → 0 < m.0.upper.number → HasNone m.0.upper.ranges.own → HasFoundJoin f z x m m'
found_join found.Finished z x m m' n sized on h fits is pass none =
    (learns_by_load x m m' n h, finished_by_load x m m' n h (h.marked on.1.0 on.1.1 x.number on.1.2) is.0 is.1)
found_join found.Prepared z x m m' n sized on h fits is pass none = (
  learns_by_load x m m' n h,
  (
    (subst (λ (y : MyTree). IsRemembered y.0.upper.ways x.route) (sym h.now) on.0.0, on.0.1),
    begun_by_load x m m' n h is,
    prepared_by_load x m m' n h is,
    omega (arith, fits, is),
  ),
  several_by_load x m m' n h (λ zero. omega (arith, is, zero)) pass none z sized,
  λ i. h.decided (attempt_of x.route x.number) i refl is,
)
found_join found.Secured z x m m' n sized on h fits is pass none =
    (learns_by_load x m m' n h, secured_by_load x m m' n h is, several_by_load x m m' n h (λ zero. omega (arith, is, zero)) pass none z sized)

-- What a pass learnt twice, one after the other.
pub learns_both : (helped : Bool) (m k m' : MyTree) → LearnsOfJoins false m k → LearnsOfJoins helped k m' → LearnsOfJoins helped m m'
learns_both helped m k m' a b = (
  b.0,
  b.1 ∙ ap (λ (y : MyTree). with_upper y (joined_more helped b.0 y.0.upper)) a.1,
)

pub learns_on : (helped : Bool) (m k m' : MyTree) → LearnsOfJoins helped m k → LearnsOfJoins false k m' → LearnsOfJoins helped m m'
learns_on helped m k m' a b = (
  b.0,
  b.1 ∙ ap (λ (y : MyTree). with_upper y (joined_more false b.0 y.0.upper)) a.1,
)

-- What else a pass knows that learnt of joins.
module _ (helped : Bool) (m m' : MyTree) (l : LearnsOfJoins helped m m') where
  pub joined_raised : m' ≡ with_upper m m'.0.upper
  joined_raised = l.1 ∙ ap (λ (x : MyTree). with_upper m x.0.upper) (sym l.1)

  pub joined_all : RemembersAll m.0.upper m'.0.upper
  joined_all = record { notes = ap (λ (x : MyTree). x.0.upper.notes) l.1; ways = ap (λ (x : MyTree). x.0.upper.ways) l.1 }

  pub joined_borders : (border : Border) → IsIn border m.0.upper.ranges.borders → IsIn border m'.0.upper.ranges.borders
  joined_borders border i = subst (λ (x : MyTree). IsIn border x.0.upper.ranges.borders) (sym l.1) i

  pub joined_none : m'.0.upper.joins ≡ m.0.upper.joins
  joined_none = ap (λ (x : MyTree). x.0.upper.joins) l.1

  pub joined_own : m'.0.upper.ranges.own ≡ m.0.upper.ranges.own
  joined_own = ap (λ (x : MyTree). x.0.upper.ranges.own) l.1

  pub joined_unfinished : m'.0.upper.ranges.unfinished ≡ m.0.upper.ranges.unfinished
  joined_unfinished = ap (λ (x : MyTree). x.0.upper.ranges.unfinished) l.1

-- It took no other steps.
steps_joined : (z : Sizes) (helped : Bool) (joins : KnownJoins) (u : TreeView) → OnlySteps z 0 u (joined_more helped joins u)
steps_joined z true joins u = record {
  only = refl;
  seen = none_more u;
  over = λ x i. i;
  lost_is = omega arith;
  known = known_same z u (joined_more true joins u) refl refl refl;
  helped = omega arith;
  unfinished = λ x i. inl i;
  joins = omega arith;
  joined = omega arith;
}
steps_joined z false joins u = record {
  only = refl;
  seen = none_more u;
  over = λ x i. i;
  lost_is = omega arith;
  known = known_same z u (joined_more false joins u) refl refl refl;
  helped = omega arith;
  unfinished = λ x i. inl i;
  joins = omega arith;
  joined = omega arith;
}

pub joined_steps : (z : Sizes) (helped : Bool) (m m' : MyTree) → LearnsOfJoins helped m m' → OnlySteps z 0 m.0.upper m'.0.upper
joined_steps z helped m m' l = subst (λ (x : MyTree). OnlySteps z 0 m.0.upper x.0.upper) (sym l.1) (steps_joined z helped l.0 m.0.upper)
