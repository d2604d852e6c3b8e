-- Who has rows, where one pass was made at most: its seat, or the one that took it in.
use Rattle.std.proofs.Common.{◌≡◌, ◌≢◌, ◌⊎◌, ℕ, ◌<◌, ◌≤◌, List, map, set, sym, ap, ◌∙◌, ⊎_elim, arith}
use mathlib.Core.Logic.{dite}
use mathlib.Core.Option.{some}
use native.Mathlib.Decide.{ℕ_discrete}
use lib.ListN.{get_elem?}
use Rattle.atomic_table.proofs.Lists.{at_set, at_map}
use Rattle.ca_rows.specs.declared.view.Claim.{Claim}
use Rattle.ca_rows.specs.declared.view.View.{View}
use Rattle.ca_rows.specs.Claims.{claim_of, claim_at}
use Rattle.ca_rows.specs.Pins.{ArePins}
use Rattle.ca_rows.specs.Rule.{pin_of, AreOfOne}
use Rattle.ca_rows.proofs.Claiming.{claim_mine, claim_others, claim_there}

-- A step of one seat, which has rows afterwards that it had, or others, where it is a pass's.
module _ {U : Type 0} (made : ℕ) (words : List ℕ) (views : List (View U)) (id : ℕ) (d d' : View U)
    (at : get_elem? views id ≡ some d) (pins : ArePins made words (map pin_of views)) where
  abbrev Owns : List (View U) → ℕ → Type 0
  Owns vs i = (made ≡ 1)
      × ((j : ℕ) (x : View U) → get_elem? vs j ≡ some x → 0 < x.pin.number → j ≡ i)

  -- the pass's seat, where one was made at most
  by_pass : made ≤ 1 → 0 < d.pin.number → Owns views id
  by_pass few lo = let mine = pins.each id d.pin (at_map pin_of views id d at) in
      let in_range = mine.in_range in (
        omega arith,
        λ j x here some_number. let other = pins.each j x.pin (at_map pin_of views j x here) in
            let low = other.in_range in
            mine.alone lo j x.pin (at_map pin_of views j x here) (omega arith),
      )

  pub claims_step : d'.pin.number ≡ d.pin.number
      → ((r : ℕ) (c : Claim) → claim_of d'.claims r ≡ some c
      → (0 < d.pin.number) ⊎ ((x : Claim) × (claim_of d.claims r ≡ some x)))
      → AreOfOne made views → AreOfOne made (set views id d')
  claims_step number grows was few i r c has = after (dite (ℕ_discrete i id)
      (λ (e : i ≡ id). ⊎_elim (λ lo. owned_by (sym e) (by_pass few lo))
      (λ (y : (x : Claim) × (claim_of d.claims r ≡ some x)).
      owned_by (sym e) (was few id r y.0 (claim_there views id d d' at r ∙ y.1)))
      (grows r c (sym (claim_mine views id d d' at r)
      ∙ (ap (λ (x : ℕ). claim_at (set views id d') x r) (sym e) ∙ has))))
      (λ n. was few i r c (sym (claim_others views id d d' at i r n) ∙ has)))
    where
      owned_by : id ≡ i → Owns views id → Owns views i
      owned_by e o = (o.0, λ j x here lo. o.1 j x here lo ∙ e)

      after : Owns views i → Owns (set views id d') i
      after o = (
        o.0,
        λ j x here lo. ⊎_elim
            (λ (t : (j ≡ id) × (d' ≡ x)). let same : d'.pin.number ≡ x.pin.number = ap
            (λ (y : View U). y.pin.number) t.1 in t.0 ∙ o.1 id d at (omega arith))
            (λ (t : (j ≢ id) × (get_elem? views j ≡ some x)). o.1 j x t.1 lo)
            (at_set views id j d' x here),
      )
