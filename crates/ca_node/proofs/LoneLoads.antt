-- What a load of a join word tells the pass that is the only one: no attempt is under way but its own; and which attempt is the next one.
use Rattle.std.proofs.Common.{◌≡◌, ◌≢◌, ℕ, ◌+◌, ◌/◌, ◌%◌, ◌<◌, ◌≤◌, cond, [], ◌∷◌, sym, refl, ap, subst, ⊎_elim, arith, eq-eqb, Bool}
use lib.ListN.{get_elem?}
use mathlib.Core.Logic.{dite}
use mathlib.Core.Option.{some}
use native.Mathlib.Decide.{ℕ_discrete}
use Rattle.ca_node.specs.JoinSteps.{attempt_of, before, HasLoadedJoin, IsNext}
use Rattle.ca_node.specs.Links.{IsIn}
use Rattle.ca_node.specs.LoneStays.{HasNone}
use Rattle.ca_node.specs.Told.{MyTree}
use Rattle.ca_node.specs.TreeView.{Attempt}
use Rattle.ca_node.proofs.Looking.{in_more}

pub idle_by_load : (route n : ℕ) (m m' : MyTree) → HasLoadedJoin route m n m' → m.0.sizes.passes ≤ 1 → 0 < m.0.upper.number
    → HasNone m.0.upper.ranges.own → n % 4 ≡ 0
idle_by_load route n m m' h few pass none = dite (ℕ_discrete (n % 4) 0) (λ zero. zero)
    (λ (busy : n % 4 ≢ 0). dite (ℕ_discrete (n % 4) 1)
    (λ (one : n % 4 ≡ 1). absurd ((none (attempt_of route (n / 4))).0 (h.own_prepared few pass (n / 4) (omega (arith, one)))))
    (λ (ne : n % 4 ≢ 1). let state = h.state in
    absurd ((none (attempt_of route (n / 4))).1 (h.own_secured few pass (n / 4) (omega (arith, state, busy, ne))))))

-- Behind an idle word the next attempt is the one to begin.
pub next_by_load : (route n : ℕ) (m m' : MyTree) → HasLoadedJoin route m n m' → n % 4 ≡ 0
    → IsNext (attempt_of route (n / 4 + 1)) m'.0.upper.ranges.joins
next_by_load route n m m' h zero = subst (λ (y : MyTree). IsNext (attempt_of route (n / 4 + 1)) y.0.upper.ranges.joins) (sym h.now) record {
  loaded = (0, ap (λ (b : Bool). get_elem? (cond b (attempt_of route (n / 4 + 1) ∷ []) []) 0) (eq-eqb (n % 4) 0 zero));
  last = n / 4;
  next = refl;
  begun = (0, refl);
  finished = (0, ap (λ (b : Bool). some (before route (cond b (n / 4 + 1) (n / 4)))) (eq-eqb (n % 4) 0 zero));
  none_later = λ y i same. ⊎_elim (λ (e : attempt_of route (n / 4) ≡ y). let k : n / 4 ≡ y.number = ap (λ (w : Attempt). w.number) e in omega (arith, k))
      (λ (o : IsIn y m.0.upper.ranges.joins.begun). h.begun y o same) (in_more (attempt_of route (n / 4)) y m.0.upper.ranges.joins.begun i);
}
