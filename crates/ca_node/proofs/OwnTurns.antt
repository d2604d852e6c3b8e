-- How far a seat's own operation is turns by a step on a join: where it changes there was no range of its own, and there is none.
use Rattle.std.proofs.Common.{◌≡◌, ◌≢◌, ◌⊎◌, ℕ, eqb, eq-eqb, ne_eqb, Bool, true, false, cond, List, sym, refl, inl, inr, ap, ◌∙◌, subst, ⊎_elim}
use mathlib.Core.Logic.{dite}
use native.Mathlib.Decide.{ℕ_discrete}
use Rattle.ca_model.specs.History.{History}
use Rattle.ca_rows.specs.declared.sizes.Sizes.{Sizes}
use Rattle.ca_runs.specs.Runs.{Ends}
use Rattle.ca_node.specs.Links.{IsActive}
use Rattle.ca_node.specs.Ranging.{IsSoFar}
use Rattle.ca_node.specs.Shape.{Role}
use Rattle.ca_node.specs.TreeView.{Border, Begun, Attempt, Ranging, Quiet, Unmarked, Marking, Left, Joining, Secured, own_behind}

-- No range of its own is in it.
abbrev pub IsRangeless : Ranging → Type 0
IsRangeless Quiet = Unit {0}
IsRangeless (Unmarked begun) = ⊥
IsRangeless (Marking begun border) = ⊥
IsRangeless Left = ⊥
IsRangeless (Joining x) = Unit {0}
IsRangeless (Secured x) = Unit {0}

abbrev pub TurnsOwn : Ranging → Ranging → Type 0
TurnsOwn own own' = (own' ≡ own) ⊎ (IsRangeless own × IsRangeless own')

-- Then none is active,
none_so : (z : Sizes) (words : List ℕ) (role : ℕ → Role) (ends : Ends) (since history : History) (pass : ℕ) (borders : List Border) (own : Ranging)
    → IsRangeless own → IsSoFar z words role ends since history pass borders own → (number : ℕ) → ¬ IsActive words pass number
none_so z words role ends since history pass borders Quiet less k = k
none_so z words role ends since history pass borders (Unmarked begun) less k = absurd less
none_so z words role ends since history pass borders (Marking begun border) less k = absurd less
none_so z words role ends since history pass borders Left less k = absurd less
none_so z words role ends since history pass borders (Joining x) less k = k
none_so z words role ends since history pass borders (Secured x) less k = k

-- and that is all that is said of it.
so_none : (z : Sizes) (words : List ℕ) (role : ℕ → Role) (ends : Ends) (since history : History) (pass : ℕ) (borders : List Border) (own : Ranging)
    → IsRangeless own → ((number : ℕ) → ¬ IsActive words pass number) → IsSoFar z words role ends since history pass borders own
so_none z words role ends since history pass borders Quiet less k = k
so_none z words role ends since history pass borders (Unmarked begun) less k = absurd less
so_none z words role ends since history pass borders (Marking begun border) less k = absurd less
so_none z words role ends since history pass borders Left less k = absurd less
so_none z words role ends since history pass borders (Joining x) less k = k
so_none z words role ends since history pass borders (Secured x) less k = k

pub so_turned : (z : Sizes) (words : List ℕ) (role : ℕ → Role) (ends : Ends) (since history : History) (pass : ℕ) (borders : List Border) (own own' : Ranging)
    → TurnsOwn own own' → IsSoFar z words role ends since history pass borders own → IsSoFar z words role ends since history pass borders own'
so_turned z words role ends since history pass borders own own' t k = ⊎_elim
    (λ (e : own' ≡ own). subst (IsSoFar z words role ends since history pass borders) (sym e) k)
    (λ (n : IsRangeless own × IsRangeless own'). so_none z words role ends since history pass borders own' n.1
    (none_so z words role ends since history pass borders own n.0 k)) t

-- It marks for a range of its own where it did.
pub marking_back : (own own' : Ranging) → TurnsOwn own own' → (begun : Begun) (border : Border) → own' ≡ Marking begun border → own ≡ Marking begun border
marking_back own own' t begun border is = ⊎_elim (λ (e : own' ≡ own). sym e ∙ is)
    (λ (n : IsRangeless own × IsRangeless own'). absurd (subst IsRangeless is n.1)) t

-- Of attempts that a seat secured one is its own.
secured_in : Ranging → Attempt
secured_in Quiet = record { route = 0; number = 0 }
secured_in (Unmarked begun) = record { route = 0; number = 0 }
secured_in (Marking begun border) = record { route = 0; number = 0 }
secured_in Left = record { route = 0; number = 0 }
secured_in (Joining x) = record { route = 0; number = 0 }
secured_in (Secured x) = x

pub same_secured : (own : Ranging) (x y : Attempt) → own ≡ Secured x → own ≡ Secured y → x ≡ y
unfolding secured_in
same_secured own x y mine other = ap secured_in (sym mine ∙ other)

-- Behind its own attempt a seat has none; behind another one it has what it had.
pub behind_own : (x : Attempt) → own_behind x (Secured x) ≡ Quiet
behind_own x = ap (λ (b : Bool). cond b (cond (eqb x.number x.number) Quiet (Secured x)) (Secured x)) (eq-eqb x.route x.route refl)
    ∙ ap (λ (b : Bool). cond b Quiet (Secured x)) (eq-eqb x.number x.number refl)

pub behind_else : (x : Attempt) (own : Ranging) → own ≢ Secured x → own_behind x own ≡ own
behind_else x Quiet ne = refl
behind_else x (Unmarked begun) ne = refl
behind_else x (Marking begun border) ne = refl
behind_else x Left ne = refl
behind_else x (Joining y) ne = refl
behind_else x (Secured y) ne = dite (ℕ_discrete y.route x.route)
    (λ (e : y.route ≡ x.route). ap (λ (b : Bool). cond b (cond (eqb y.number x.number) Quiet (Secured y)) (Secured y)) (eq-eqb y.route x.route e)
    ∙ ap (λ (b : Bool). cond b Quiet (Secured y)) (ne_eqb y.number x.number
    (λ (n : y.number ≡ x.number). ne (λ i. Secured (record { route = e i; number = n i })))))
    (λ (n : y.route ≢ x.route). ap (λ (b : Bool). cond b (cond (eqb y.number x.number) Quiet (Secured y)) (Secured y)) (ne_eqb y.route x.route n))

-- An attempt of its own is over, or another one is.
pub behind_turns : (x : Attempt) (own : Ranging) → TurnsOwn own (own_behind x own)
behind_turns x Quiet = inl refl
behind_turns x (Unmarked begun) = inl refl
behind_turns x (Marking begun border) = inl refl
behind_turns x Left = inl refl
behind_turns x (Joining y) = inl refl
behind_turns x (Secured y) = inr (tt, by (eqb y.route x.route) (eqb y.number x.number))
  where
    by : (a b : Bool) → IsRangeless (cond a (cond b Quiet (Secured y)) (Secured y))
    by true true = tt
    by true false = tt
    by false true = tt
    by false false = tt
