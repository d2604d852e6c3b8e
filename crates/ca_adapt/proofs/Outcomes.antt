-- What a try to join came to, by what its parts came to.
use Rattle.std.proofs.Common.{◌≡◌, ◌≢◌, ℕ, Result, Ok, Err, ap, ◌∙◌, subst, inl, inr, arith}
use Rattle.ca_base.proofs.Counts.{met_both}
use Rattle.ca_base.specs.Counting.{losses, HasMet}
use Rattle.ca_node.specs.Told.{MyTree}
use Rattle.ca_node.specs.TreeView.{Note}
use Rattle.ca_node.specs.declared.link.Link.{Link}
use Rattle.ca_node.specs.declared.link.Link.TheVariants as on
use Rattle.ca_rows.specs.declared.sizes.Sizes.{Sizes}
use Rattle.ca_adapt.specs.Carrying.{HasCarriedOut, outcome_of}
use Rattle.ca_adapt.specs.Joins.{HasBegunAt}
use Rattle.ca_adapt.specs.Trying.{FindsSibling, IsJoinOutcome, IsWhyNotJoined, route_of}
use Rattle.ca_adapt.specs.declared.adapted.Why.{Why}
use Rattle.ca_adapt.specs.declared.adapted.Why.TheVariants as why
use Rattle.ca_adapt.specs.declared.joining.Attempt.{Attempt}
use Rattle.ca_adapt.proofs.Unbegun.{unbegun, unbegun_met}

-- Nothing was counted: no exchange was lost, nothing was met of the pool, and no turn was spent.
pub record CountsNothing (m m' : MyTree) : Type 0 where
  pub lost : losses m' ≡ losses m
  pub met : HasMet 0 0 m m'
  pub passed : m'.0.upper.turns.passed ≡ m.0.upper.turns.passed

-- So it is of the begin of an attempt.
module _ (route : ℕ) (m m' : MyTree) where
  pub begun_counts : (x : Attempt) → HasBegunAt route (Ok x) m m' → CountsNothing m m'
  begun_counts x b = let load = b.2.2 in let empty =
      ap (λ (y : MyTree). y.0.empty) b.2.5 ∙ ap (λ (y : MyTree). y.0.empty) load.now in
      let worn = ap (λ (y : MyTree). y.0.worn) b.2.5 ∙ ap (λ (y : MyTree). y.0.worn) load.now in
      record {
        lost = ap losses b.2.5 ∙ ap losses load.now;
        met = (omega arith, omega arith);
        passed = ap (λ (y : MyTree). y.0.upper.turns.passed) b.2.5
            ∙ ap (λ (y : MyTree). y.0.upper.turns.passed) load.now;
      }

-- A look at the sibling lost nothing, and met nothing.
module _ (z : Sizes) (link : Link) (note : Note) (row : ℕ) (m m' : MyTree)
    (f : FindsSibling z link note row m m') where
  pub looked_lost : losses m' ≡ losses m
  looked_lost = ap losses f.now

  pub looked_met : HasMet 0 0 m m'
  looked_met = let empty = ap (λ (y : MyTree). y.0.empty) f.now in let worn =
      ap (λ (y : MyTree). y.0.worn) f.now in (omega arith, omega arith)

  -- No attempt was begun behind it.
  pub not_begun : (n : MyTree) (route : ℕ) (w : Why) → link ≢ on.Root → route ≡ route_of link
      → HasBegunAt route (Err w) m' n
      → IsWhyNotJoined z link note w m n
  not_begun n route why.Root some is b = absurd b.3
  not_begun n route why.OneObject some is b = absurd b.3
  not_begun n route why.AtLevel some is b = absurd b.3
  not_begun n route why.SiblingRoute some is b = absurd b.3
  not_begun n route why.TooMany some is b = absurd b.3
  not_begun n route why.Taken some is b =
      (some, inr (m', f.look, subst (λ (r : ℕ). HasBegunAt r (Err why.Taken) m' n) is b))
  not_begun n route why.Lost some is b = (
    some,
    (
      m',
      f.look,
      met_both 0 0 0 0 m m' n looked_met (unbegun_met m' n (unbegun route why.Lost m' n b)),
      inl (subst (λ (r : ℕ). HasBegunAt r (Err why.Lost) m' n) is b),
    ),
  )
  not_begun n route why.NoRow some is b = absurd b.3
  not_begun n route why.Worn some is b =
      (some, (m', f.look, inl (subst (λ (r : ℕ). HasBegunAt r (Err why.Worn) m' n) is b)))

  -- One was, and was carried to its end.
  module _ (route : ℕ) (x : Attempt) (then n : MyTree) (some : link ≢ on.Root)
      (is : route ≡ route_of link) (b : HasBegunAt route (Ok x) m' then) where
    same : CountsNothing m' then
    same = begun_counts route m' then x b

    here : HasBegunAt (route_of link) (Ok x) m' then
    here = subst (λ (r : ℕ). HasBegunAt r (Ok x) m' then) is b

    met_from : (empty worn : ℕ) → HasMet empty worn then n → HasMet empty worn m n
    met_from empty worn h = let one = looked_met.0 in let two = looked_met.1 in let three =
        same.met.0 in let four = same.met.1 in let five = h.0 in
        let six = h.1 in (omega arith, omega arith)

    pub carried : (r : Result (Unit {0}) Why) → HasCarriedOut x r then n
        → IsJoinOutcome z link note (outcome_of r) m n
    carried (Ok done) c = (
      some,
      (
        m',
        f.look,
        met_from 0 0 c.2,
        c.3 ∙ (same.lost ∙ looked_lost),
        c.1,
        (x, then, here, c.0),
      ),
    )
    carried (Err why.Root) c = absurd c
    carried (Err why.OneObject) c = absurd c
    carried (Err why.AtLevel) c = absurd c
    carried (Err why.SiblingRoute) c = absurd c
    carried (Err why.TooMany) c = absurd c
    carried (Err why.Taken) c = absurd c
    carried (Err why.Lost) c = (some, (m', f.look, met_from 0 0 c.0, inr (x, then, here, c.1)))
    carried (Err why.NoRow) c = (some, (m', f.look, met_from 1 0 c.1, (x, then, here, c.0)))
    carried (Err why.Worn) c = (some, (m', f.look, inr (met_from 0 1 c.1, (x, then, here, c.0))))
