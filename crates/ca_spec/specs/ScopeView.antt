-- The faults of expressions, by what the code knows of the clause where they stand.
use Rattle.std.specs.Prelude.{Option}
use Rattle.ca_term.specs.Tree.{Tree, Row, size}
use Rattle.ca_match.specs.Specification.{Reason, Part, Guard, Body, bad, call_fault, fault, faults, form_fault, tuple_fault}
use Rattle.ca_spec.specs.declared.scope.Scope.{Scope}
use Rattle.ca_spec.specs.declared.scope.Part.{Part as Place}
use Rattle.ca_spec.specs.declared.scope.Part.TheVariants as place
use Rattle.ca_spec.specs.Held.{AreOf}

abbrev pub part_of : Place → Part
part_of place.Guard = Guard
part_of place.Body = Body

abbrev pub bad_in : Scope → Option Reason
bad_in scope = bad (part_of scope.part)

abbrev pub fault_in : Scope → Tree → Option Reason
fault_in scope t = fault scope.head.now (part_of scope.part) t

abbrev pub faults_in : Scope → Row → Option Reason
faults_in scope row = faults scope.head.now (part_of scope.part) row

abbrev pub form_fault_in : Scope → Row → Option Reason
form_fault_in scope row = form_fault scope.head.now (part_of scope.part) row

abbrev pub tuple_fault_in : Scope → Tree → Option Reason
tuple_fault_in scope t = tuple_fault scope.head.now (part_of scope.part) t

-- {const,T} or {Op,E1,..,En} by its name and what stands behind it
abbrev pub call_fault_in : Scope → Tree → Row → Option Reason
call_fault_in scope name arguments = call_fault (part_of scope.part) name (size arguments) (faults_in scope arguments)

-- The variables are those of the head.
abbrev pub IsScope : Scope → Type 0
IsScope scope = AreOf scope.head.now scope.variables.now
