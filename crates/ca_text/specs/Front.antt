-- Why no term is read at the front of some bytes, and at which byte: by the texts of the grammar alone.
use Rattle.std.specs.Prelude.{ℕ, ◌+◌, ◌<◌, ◌≤◌, List, ◌++◌, length, take}
use Rattle.ca_term.specs.Tree.{Tree}
use Rattle.ca_term.specs.declared.bounds.TheConstants.{MOST_CODE_POINTS, MOST_ELEMENTS}
use Rattle.ca_text.specs.declared.bounds.TheConstants.{MOST_LEVELS}
use Rattle.ca_text.specs.Grammar.{Limits, IsTextOf, IsRead, standard}
use Rattle.ca_text.specs.declared.fault.TextFault.{TextFault}
use Rattle.ca_text.specs.declared.fault.TextFault.TheVariants.{Syntax, AtomTooLong, TooDeep, TooWide, NoMemory}

-- some text within these limits begins with these bytes
abbrev pub Begins : Limits → ℕ → List ℕ → Type 0
Begins limits levels bytes = (rest : List ℕ) × (t : Tree) × IsTextOf limits levels (bytes ++ rest) t

-- So many of the bytes begin a text, and no more.
pub record IsLongestStart (bytes : List ℕ) (at : ℕ) : Type 0 where
  pub within : at ≤ length bytes
  pub begins : Begins standard MOST_LEVELS (take at bytes)
  pub ends : at < length bytes → Begins standard MOST_LEVELS (take (at + 1) bytes) → ⊥

-- atoms of one more code point, tuples of one more element
abbrev pub longer_atoms : Limits
longer_atoms = record standard { characters = MOST_CODE_POINTS + 1 }

abbrev pub wider_tuples : Limits
wider_tuples = record standard { elements = MOST_ELEMENTS + 1 }

-- with the byte at this place, the bytes begin a text of these limits
abbrev pub GoesOnAt : Limits → ℕ → List ℕ → ℕ → Type 0
GoesOnAt limits levels bytes at = (at < length bytes) × Begins limits levels (take (at + 1) bytes)

-- With the byte at a fault's place the bytes begin a text of longer atoms, of one level more or of wider tuples, or no text at
-- all, whatever the limits.
abbrev pub IsKind : List ℕ → TextFault → Type 0
IsKind bytes (Syntax at) = at < length bytes → (limits : Limits) (levels : ℕ) → Begins limits levels (take (at + 1) bytes) → ⊥
IsKind bytes (AtomTooLong at) = GoesOnAt longer_atoms MOST_LEVELS bytes at
IsKind bytes (TooDeep at) = GoesOnAt standard (MOST_LEVELS + 1) bytes at
IsKind bytes (TooWide at) = GoesOnAt wider_tuples MOST_LEVELS bytes at
IsKind bytes NoMemory = ⊥

-- the byte at which no text goes on, counted from 0
abbrev pub fault_place : TextFault → ℕ
fault_place (Syntax at) = at
fault_place (AtomTooLong at) = at
fault_place (TooDeep at) = at
fault_place (TooWide at) = at
fault_place NoMemory = 0

-- No text is read at the front of the bytes, for this reason.
pub record IsNotRead (bytes : List ℕ) (fault : TextFault) : Type 0 where
  pub unread : (t : Tree) (n : ℕ) → IsRead bytes t n → ⊥
  pub place : IsLongestStart bytes (fault_place fault)
  pub kind : IsKind bytes fault
