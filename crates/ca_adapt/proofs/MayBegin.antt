-- Behind a load of a join word that told of no attempt under way the next one may be begun.
use Rattle.std.proofs.Common.{◌≡◌, ◌≢◌, ℕ, ◌+◌, ◌/◌, ◌%◌, ◌<◌, true, cond, eqb, Bool, sym, ap, ◌∙◌, subst, arith, eq-eqb, ne_eqb}
use mathlib.Core.Logic.{dite}
use native.Mathlib.Decide.{ℕ_discrete}
use Rattle.ca_node.specs.Joining.{IsRemembered}
use Rattle.ca_node.specs.JoinSteps.{attempt_of, join_state, HasLoadedJoin, IsBeginning, IsNext}
use Rattle.ca_node.specs.Told.{MyTree}
use Rattle.ca_node.specs.TreeView.{Quiet}
use Rattle.ca_node.specs.declared.join_state.JoinState.{JoinState}
use Rattle.ca_node.specs.declared.join_state.JoinState.TheVariants as state
use Rattle.ca_node.proofs.LoneLoads.{next_by_load}

number_of : JoinState → ℕ
number_of (state.Idle n) = n
number_of (state.Prep n) = n
number_of (state.Secured n) = n

-- what a word tells that tells of no attempt that is prepared
abbrev other : ℕ → JoinState
other n = cond (eqb (n % 4) 2) (state.Secured (n / 4)) (state.Idle (n / 4))

-- It tells of none at all.
idle_word : (word last : ℕ) → state.Idle last ≡ join_state word → word % 4 < 3 → (word % 4 ≡ 0)
    × (last ≡ word / 4)
unfolding number_of
idle_word word last is few = dite (ℕ_discrete (word % 4) 1)
    (λ (one : word % 4 ≡ 1). let e : state.Idle last ≡ state.Prep (word / 4) =
    is ∙ ap (λ (b : Bool). cond b (state.Prep (word / 4)) (other word))
    (eq-eqb (word % 4) 1 one) in absurd cc)
    (λ (ne : word % 4 ≢ 1).
    let first : join_state word ≡ other word = ap
    (λ (b : Bool). cond b (state.Prep (word / 4)) (other word)) (ne_eqb (word % 4) 1 ne) in
    dite (ℕ_discrete (word % 4) 2)
    (λ (two : word % 4 ≡ 2). let e : state.Idle last ≡ state.Secured (word / 4) = is ∙ (first
    ∙ ap (λ (b : Bool). cond b (state.Secured (word / 4)) (state.Idle (word / 4)))
    (eq-eqb (word % 4) 2 two)) in absurd cc)
    (λ (not : word % 4 ≢ 2). (
      omega (arith, few, ne, not),
      ap number_of (is ∙ (first
          ∙ ap (λ (b : Bool). cond b (state.Secured (word / 4)) (state.Idle (word / 4)))
          (ne_eqb (word % 4) 2 not))),
    )))

module _ (route last : ℕ) (m m' : MyTree)
    (l : (word : ℕ) × (state.Idle last ≡ join_state word) × HasLoadedJoin route m word m'
    × (word < 18446744073709551616)) where
  pub may_begin : m.0.pin.pinned ≡ true → 0 < m.0.upper.number → m.0.upper.ranges.own ≡ Quiet
      → IsRemembered m.0.upper.ways route
      → IsBeginning m' (attempt_of route (last + 1))
  may_begin pinned pass quiet known = let idle = idle_word l.0 last l.1 l.2.state in record {
    is_pinned = ap (λ (x : MyTree). x.0.pin.pinned) l.2.now ∙ pinned;
    is_pass = subst (λ (n : ℕ). 0 < n) (sym (ap (λ (x : MyTree). x.0.upper.number) l.2.now)) pass;
    quiet = ap (λ (x : MyTree). x.0.upper.ranges.own) l.2.now ∙ quiet;
    remembered = subst (λ (x : MyTree). IsRemembered x.0.upper.ways route) (sym l.2.now) known;
    next = subst (λ (n : ℕ). IsNext (attempt_of route (n + 1)) m'.0.upper.ranges.joins) (sym idle.1)
        (next_by_load route l.0 m m' l.2 idle.0);
  }
