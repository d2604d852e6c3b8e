-- An object's key is a term.
use Rattle.std.proofs.Common.{ℕ, zero, suc, ◌-◌, ◌≤◌, arith}
use Rattle.std.specs.Prelude.{slice_index_or}
use Rattle.ca_term.specs.Tree.{Tree, Row, Integer, Atom, Tuple, Nil, Cons, Binary, Ends, More, IsTerm, IsNarrowRow, elements, row_depth}
use Rattle.ca_term.specs.Object.{key_of}
use Rattle.ca_term.specs.declared.bounds.TheConstants.{MOST_DEPTH}

nil_is_term : IsTerm Nil
nil_is_term = record { shallow = omega arith; narrow = tt }

element_is_term : (row : Row) (n : ℕ) → row_depth row ≤ MOST_DEPTH → IsNarrowRow row → IsTerm (slice_index_or (elements row) n Nil)
element_is_term Ends n d h = nil_is_term
element_is_term (More t row) zero d h = record { shallow = omega arith; narrow = h.0 }
element_is_term (More t row) (suc n) d h = element_is_term row n (omega arith) h.1

-- The key of a term is a term.
pub key_is_term : (p : ℕ) (o : Tree) → IsTerm o → IsTerm (key_of p o)
key_is_term p (Integer n) h = nil_is_term
key_is_term p (Atom text) h = nil_is_term
key_is_term p (Tuple row) h = let d = h.shallow in element_is_term row (p - 1) (omega arith) h.narrow.1
key_is_term p Nil h = nil_is_term
key_is_term p (Cons head tail) h = nil_is_term
key_is_term p (Binary bytes) h = nil_is_term
