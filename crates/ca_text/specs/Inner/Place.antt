-- Faults with their places from the front.
use Rattle.std.specs.Prelude.{ℕ, ◌-◌, ◌≤◌}
use Rattle.ca_text.specs.declared.fault.Why.{Why}
use Rattle.ca_text.specs.declared.fault.Why.TheVariants as why
use Rattle.ca_text.specs.declared.fault.Stop.{Stop}
use Rattle.ca_text.specs.declared.fault.Stop.TheVariants as stop
use Rattle.ca_text.specs.declared.fault.TextFault.{TextFault}
use Rattle.ca_text.specs.declared.fault.TextFault.TheVariants.{Syntax, AtomTooLong, TooDeep, TooWide, NoMemory}

abbrev pub fault_with : Why → ℕ → TextFault
fault_with why.Syntax at = Syntax at
fault_with why.AtomTooLong at = AtomTooLong at
fault_with why.TooDeep at = TooDeep at
fault_with why.TooWide at = TooWide at

-- a fault stands in so many bytes or at their end
abbrev pub IsWithin : Stop → ℕ → Type 0
IsWithin stop.NoMemory length = Unit {0}
IsWithin (stop.At fault) length = fault.left ≤ length

-- the fault of a stop in so many bytes
abbrev pub text_fault : Stop → ℕ → TextFault
text_fault stop.NoMemory length = NoMemory
text_fault (stop.At fault) length = fault_with fault.why (length - fault.left)
