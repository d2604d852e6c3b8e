-- What a function returned is what is found, unless memory ran out.
use Rattle.std.specs.Prelude.{◌≡◌, ℕ, List, Result, Ok, Err}
use Rattle.ca_text.specs.declared.fault.TextFault.{TextFault}
use Rattle.ca_text.specs.declared.fault.TextFault.TheVariants as text
use Rattle.ca_cmd.specs.Argument.{Found, IsTermRefused}
use Rattle.ca_cmd.specs.declared.fault.LineFault.{LineFault}
use Rattle.ca_cmd.specs.declared.fault.LineFault.TheVariants.{Refused, NoMemory}

abbrev pub IsFault : {B : Type 0} → (Found B → Type 0) → LineFault → Type 0
IsFault Is (Refused at why) = Is (Err (record { at = at; why = why }))
IsFault Is NoMemory = Unit {0}

abbrev pub Finds : {A B : Type 0} → (A → B) → (Found B → Type 0) → Result A LineFault → Type 0
Finds view Is (Ok x) = Is (Ok (view x))
Finds view Is (Err e) = IsFault Is e

-- A line of this size is refused for a term text that begins with these bytes, unless memory ran out.
abbrev pub IsTermFault : ℕ → List ℕ → TextFault → LineFault → Type 0
IsTermFault size bytes fault (Refused at why) = IsTermRefused size bytes fault (record { at = at; why = why })
IsTermFault size bytes fault NoMemory = fault ≡ text.NoMemory
