-- When a builder refuses.
use Rattle.std.specs.Prelude.{ℕ, ◌≤◌, ◌<◌, List, length}
use Rattle.std.specs.Str.{chars}
use Rattle.ca_term.specs.declared.bounds.TheConstants.{MOST_CODE_POINTS, MOST_ELEMENTS, MOST_DEPTH}
use Rattle.ca_term.specs.Tree.{Tree, Tuple, row_of, depth}
use Rattle.ca_term.specs.declared.fault.TermFault.{TermFault}
use Rattle.ca_term.specs.declared.fault.TermFault.TheVariants.{AtomTooLong, TooDeep, TooWide, NoMemory}

-- why an atom of this text was refused
abbrev pub IsCauseOfAtom : List ℕ → TermFault → Type 0
IsCauseOfAtom text AtomTooLong = MOST_CODE_POINTS < length (chars text)
IsCauseOfAtom text TooDeep = ⊥
IsCauseOfAtom text TooWide = ⊥
IsCauseOfAtom text NoMemory = length (chars text) ≤ MOST_CODE_POINTS

-- why a list cell was refused
abbrev pub IsCauseOfCell : Tree → TermFault → Type 0
IsCauseOfCell cell AtomTooLong = ⊥
IsCauseOfCell cell TooDeep = MOST_DEPTH < depth cell
IsCauseOfCell cell TooWide = ⊥
IsCauseOfCell cell NoMemory = depth cell ≤ MOST_DEPTH

-- why a tuple of these elements was refused; it takes no memory
abbrev pub IsCauseOfTuple : List Tree → TermFault → Type 0
IsCauseOfTuple items AtomTooLong = ⊥
IsCauseOfTuple items TooDeep = (length items ≤ MOST_ELEMENTS) × (MOST_DEPTH < depth (Tuple (row_of items)))
IsCauseOfTuple items TooWide = MOST_ELEMENTS < length items
IsCauseOfTuple items NoMemory = ⊥
