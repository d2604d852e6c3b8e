-- Constants with their codes.
use Rattle.std.specs.Prelude.{◌≡◌, true, false, MatchOption}
use Rattle.ca_term.specs.Code.{code_of}
use Rattle.ca_term.specs.Object.{fits}
use Rattle.ca_term.specs.Tree.{IsTerm}
use Rattle.ca_spec.specs.declared.constant.Constant.TheInside.{Inside}

-- The term is within the bounds, and the bytes are its code; there are none exactly where that is too long.
abbrev pub IsCoded : Inside → Type 0
IsCoded constant =
    IsTerm constant.term
    × MatchOption constant.code (fits constant.term ≡ false) (λ code. (code.items ≡ code_of constant.term) × (fits constant.term ≡ true))
