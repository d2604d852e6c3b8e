-- The parts of a clause as the code names them.
use Rattle.std.specs.Prelude.{Option}
use Rattle.ca_term.specs.Tree.{Tree, Row, size}
use Rattle.ca_match.specs.Specification.{Reason, Part, Guard, Body, call_fault, faults}
use Rattle.ca_match.specs.declared.specification.Part.{Part as Place}
use Rattle.ca_match.specs.declared.specification.Part.TheVariants as place

abbrev pub part_of : Place → Part
part_of place.Guard = Guard
part_of place.Body = Body

-- {const,T} or {Op,E1,..,En} by its name and what stands behind it
abbrev pub call_fault_of : Tree → Part → Tree → Row → Option Reason
call_fault_of head part name arguments = call_fault part name (size arguments) (faults head part arguments)
