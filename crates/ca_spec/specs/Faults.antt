-- The code's words for why a term is no match specification, and those of the definition.
use Rattle.std.specs.Prelude.{◌≡◌, ℕ, ◌-◌, ◌^◌, min, Option, Some, option_map}
use Rattle.ca_term.specs.Tree.{Tree}
use Rattle.ca_match.specs.Specification.{Reason, NotAList, NotAClause, BadHead, BadGuard, BadBody, Unbound, first_fault}
use Rattle.ca_spec.specs.declared.fault.SpecWhy.{SpecWhy}
use Rattle.ca_spec.specs.declared.fault.SpecWhy.TheVariants as why
use Rattle.ca_spec.specs.declared.fault.SpecFault.{SpecFault}
use Rattle.ca_spec.specs.declared.fault.SpecFault.TheVariants as spec_fault
use Rattle.ca_spec.specs.declared.fault.Stop.{Stop}
use Rattle.ca_spec.specs.declared.fault.Stop.TheVariants as stop

abbrev pub reason_of : SpecWhy → Reason
reason_of why.NotAList = NotAList
reason_of why.NotAClause = NotAClause
reason_of why.BadHead = BadHead
reason_of why.BadGuard = BadGuard
reason_of why.BadBody = BadBody
reason_of why.Unbound = Unbound

-- Compiling a part that has this first fault stopped so; want of memory has no cause.
abbrev pub IsStop : Option Reason → Stop → Type 0
IsStop fault (stop.Fault why) = fault ≡ Some (reason_of why)
IsStop fault stop.NoMemory = Unit {0}

-- a clause with a number over the greatest one that is named is named by that one
abbrev pub number_of : ℕ → ℕ
number_of number = min number (2 ^ 32 - 1)

abbrev pub named : ℕ × Reason → ℕ × Reason
named found = (number_of found.0, found.1)

-- why compiling stopped in the clause with this number
abbrev pub in_clause : ℕ → Stop → SpecFault
in_clause number (stop.Fault why) = spec_fault.BadSpec (number_of number) why
in_clause number stop.NoMemory = spec_fault.NoMemory

-- What was found is answered so; want of memory has no cause.
abbrev pub IsNamed : Option (ℕ × Reason) → SpecFault → Type 0
IsNamed found (spec_fault.BadSpec clause why) = option_map named found ≡ Some (clause, reason_of why)
IsNamed found spec_fault.NoMemory = Unit {0}

-- A term is refused with its first fault, or for want of memory.
abbrev pub IsRefusal : Tree → SpecFault → Type 0
IsRefusal specification refusal = IsNamed (first_fault specification) refusal
