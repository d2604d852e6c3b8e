-- The exchange by which a seat leaves its own attempt to join.
use Rattle.std.proofs.Common.{◌≡◌, ℕ, ◌+◌, ◌*◌, Bool, true, false, eqb, get_or, sym, refl, ap, ◌∙◌, subst, inr, eq-eqb, ne_eqb}
use mathlib.Core.Logic.{dite}
use mathlib.Core.Option.{none}
use native.Mathlib.Decide.{ℕ_discrete}
use prog.Atomic.{either}
use Rattle.atomic_table.specs.Table.{step, keeps, stepped, Allows}
use Rattle.ca_rows.specs.Calls.{Relinks}
use Rattle.ca_rows.specs.Told.{relinked}
use Rattle.ca_rows.specs.declared.sizes.Sizes.{Sizes}
use Rattle.ca_rows.specs.declared.view.View.{View}
use Rattle.ca_node.specs.JoinSteps.{join_place, attempt_of, leaving, own_too_late, IsLeavingJoin, LeavesJoin, HasLeftJoin, LeavesSome}
use Rattle.ca_node.specs.May.{MaySwap}
use Rattle.ca_node.specs.States.{IsAlone}
use Rattle.ca_node.specs.Told.{MyTree}
use Rattle.ca_node.specs.TreeView.{Attempt, TreeView}
use Rattle.ca_node.proofs.JoinEnds.{leave_step, own_late_step, not_alone, same_attempt}
use Rattle.ca_node.proofs.Looking.{R, knows_upper}
use Rattle.ca_rows.specs.Layout.{row_words}

module _ (z : Sizes) where
  leaves_join : (slots id : ℕ) (me : MyTree) (x : Attempt) → me.0.sizes ≡ z → IsLeavingJoin me x
      → Allows (R z) slots id me (row_words * x.route + 3) (λ n. either (eqb n (4 * x.number + 1)) (4 * x.number) n)
      (Relinks MaySwap LeavesSome (step slots (row_words * x.route + 3) (4 * x.number + 1) (4 * x.number) none) me)
  leaves_join slots id me x sized k s r _ at _ = let n : ℕ = get_or s.words (row_words * x.route + 3) 0 in
      dite (ℕ_discrete n (4 * x.number + 1))
      (λ (hit : n ≡ 4 * x.number + 1). let d' : View TreeView = (relinked me me.0.claims (leaving x me.0.upper)).0 in
      let told : LeavesSome (step slots (row_words * x.route + 3) (4 * x.number + 1) (4 * x.number) none) me n (d', me.1) =
      (x, (refl, refl), ((λ _. refl), λ miss. absurd (miss hit))) in (
        d',
        keeps,
        tt,
        subst (λ (y : ℕ). R z (stepped s (row_words * x.route + 3) y id me.1 d' keeps))
            (sym (ap (λ b. either b (4 * x.number) n) (eq-eqb n (4 * x.number + 1) hit)))
            (leave_step z s r id me at x k.remembered hit k.is_pass k.own),
        ((λ _. refl), (λ miss. absurd (miss hit)), inr (inr (inr (inr (inr (inr (inr (inr told))))))), told),
      ))
      (λ miss. let late : View TreeView = record me.0 { upper = own_too_late x me.0.upper } in
      let told : LeavesSome (step slots (row_words * x.route + 3) (4 * x.number + 1) (4 * x.number) none) me n (late, me.1) =
      (x, (refl, refl), ((λ hit. absurd (miss hit)), λ _. (refl, not_alone z s r id me at x k.remembered k.own miss sized))) in (
        late,
        keeps,
        tt,
        subst (λ (y : ℕ). R z (stepped s (row_words * x.route + 3) y id me.1 late keeps))
            (sym (ap (λ b. either b (4 * x.number) n) (ne_eqb n (4 * x.number + 1) miss)))
            (own_late_step z s r id me at x k.remembered k.own ((knows_upper z s r id me.0 at).joining.begun x k.begun).1 miss
            (row_words * x.route + 3)),
        ((λ hit. absurd (miss hit)), (λ _. refl), inr (inr (inr (inr (inr (inr (inr (inr told))))))), told),
      ))

  -- The same, where the word has another name.
  pub leaves_join_at : (slots id : ℕ) (me : MyTree) (word : ℕ) (x : Attempt) → word ≡ join_place x.route → me.0.sizes ≡ z → IsLeavingJoin me x
      → Allows (R z) slots id me word (λ n. either (eqb n (4 * x.number + 1)) (4 * x.number) n)
      (Relinks MaySwap LeavesSome (step slots word (4 * x.number + 1) (4 * x.number) none) me)
  leaves_join_at slots id me word x here sized k = subst
      (λ (i : ℕ). Allows (R z) slots id me i (λ n. either (eqb n (4 * x.number + 1)) (4 * x.number) n)
      (Relinks MaySwap LeavesSome (step slots i (4 * x.number + 1) (4 * x.number) none) me)) (sym here) (leaves_join slots id me x sized k)

-- The two ways that it goes.
pub has_left_join : (n slots word route number : ℕ) (m m' : MyTree) → word ≡ join_place route
    → LeavesSome (step slots word (4 * number + 1) (4 * number) none) m n m'
    → HasLeftJoin (eqb n (4 * number + 1)) (attempt_of route number) m m'
has_left_join n slots word route number m m' at t = let told = subst
    (λ (x : Attempt). LeavesJoin x (step slots word (4 * number + 1) (4 * number) none) m n m')
    (same_attempt t.0 slots word route number (4 * number) at t.1) t.2 in dite (ℕ_discrete n (4 * number + 1))
    (λ hit. subst (λ (b : Bool). HasLeftJoin b (attempt_of route number) m m') (sym (eq-eqb n (4 * number + 1) hit)) (told.0 hit))
    (λ miss. subst (λ (b : Bool). HasLeftJoin b (attempt_of route number) m m') (sym (ne_eqb n (4 * number + 1) miss)) (told.1 miss).0)

pub lost_leaving : (n slots word number : ℕ) (m m' : MyTree) → LeavesSome (step slots word (4 * number + 1) (4 * number) none) m n m'
    → eqb n (4 * number + 1) ≡ false → ¬ IsAlone m.0.sizes m.0.upper
lost_leaving n slots word number m m' t lost = (t.2.1 (λ hit. let e : true ≡ false = sym (eq-eqb n (4 * number + 1) hit) ∙ lost in absurd cc)).1
