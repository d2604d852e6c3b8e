-- How a count of faults rises.
use Rattle.std.proofs.Common.{ℕ, ◌≤◌, inl, inr, arith}
use Rattle.ca_outside.specs.Known.{HasRisen}

-- a rise from a later count is a rise from an earlier one
pub risen_since : (a b c : ℕ) → a ≤ b → HasRisen b c → HasRisen a c
risen_since a b c h (inl r) = inl (omega (arith, h, r))
risen_since a b c h (inr r) = grind (arith, h, r)
