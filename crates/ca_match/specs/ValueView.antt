-- The term that a value of the code stands for.
use Rattle.std.specs.Prelude.{ℕ, ◌+◌, ℤ, pos, Bool, true, false, List, length, slice_index_or, codes, Option, option_map, option_and_then}
use Rattle.ca_term.specs.Tree.{Tree, Integer, Atom, Tuple, Nil, Cons, Binary}
use Rattle.ca_term.specs.Updates.{place_of}
use Rattle.ca_match.specs.Operators.{element, head_of, tail_of, word}
use Rattle.ca_match.specs.declared.part.Part.{Part}
use Rattle.ca_match.specs.declared.part.Part.TheVariants as part
use Rattle.ca_match.specs.declared.value.Value.{Value}
use Rattle.ca_match.specs.declared.value.Value.TheVariants as value

-- how a truth value is spelled
abbrev pub truth_name : Bool → List ℕ
truth_name true = codes "true"
truth_name false = codes "false"

abbrev pub tree_of_value : Value → Tree
tree_of_value (value.Lent term) = term.now
tree_of_value (value.Owned term) = term
tree_of_value (value.Integer n) = Integer n
tree_of_value (value.Truth b) = Atom (truth_name b)

-- an integer or an atom
abbrev pub is_plain : Tree → Bool
is_plain (Integer n) = true
is_plain (Atom text) = true
is_plain (Tuple row) = false
is_plain Nil = false
is_plain (Cons head tail) = false
is_plain (Binary bytes) = false

-- ---- parts and sizes

-- element number n of these, counted from 1
abbrev pub element_at : List Tree → ℤ → Option Tree
element_at items n = option_map (λ k. slice_index_or items k Nil) (place_of (length items) n)

-- a part of a term
abbrev pub part_in : Part → Tree → Option Tree
part_in part.Head t = head_of t
part_in part.Tail t = tail_of t
part_in (part.Element n) t = element (Integer n) t

-- so many, and those counted, as an integer of 64 bits
abbrev pub counted_from : ℕ → Option ℕ → Option Tree
counted_from n count = option_and_then (λ k. word (pos (n + k))) count
