-- A value, or the fault for which there is none.
use Rattle.std.specs.Prelude.{◌≡◌, Option, None, Some, Result, Ok, Err}
use Rattle.ca_ets.specs.declared.command.Fault.{Fault}

-- This holds of the value, or the fault is the one for which there is none.
abbrev pub IsUnless : {T : Type 0} → Option Fault → (T → Type 0) → Result T Fault → Type 0
IsUnless fault so (Ok value) = (fault ≡ None) × so value
IsUnless fault so (Err found) = fault ≡ Some found
