-- The number of a pass stays.
use Rattle.std.proofs.Common.{◌≡◌, ℕ, ◌<◌, ◌≤◌, sym, ◌∙◌, subst}
use Rattle.ca_rows.specs.declared.view.Pin.{Pin}
use Rattle.ca_rows.specs.Calls.{IsNumbered}

pub numbered_as : (number number' : ℕ) (pin pin' : Pin) → number' ≡ number
    → pin'.number ≡ pin.number → IsNumbered number pin → IsNumbered number' pin'
numbered_as number number' pin pin' same is n = (
  is ∙ (n.0 ∙ sym same),
  subst (λ (k : ℕ). 0 < k) (sym same) n.1,
  subst (λ (k : ℕ). k ≤ 64) (sym same) n.2,
)
