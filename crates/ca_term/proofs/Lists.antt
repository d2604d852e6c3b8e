-- Lists from their heads and their tail.
use Rattle.std.proofs.Common.{◌≡◌, ◌≤◌, ◌<◌, ◌+◌, max, List, [], ◌∷◌, ◌++◌, arith, refl, sym, ◌∙◌, ap}
use Rattle.ca_term.specs.declared.bounds.TheConstants.{MOST_DEPTH}
use Rattle.ca_term.specs.Tree.{Tree, Cons, list_of, row_of, row_depth, depth}
use Rattle.ca_term.proofs.Grammar.{deep}

-- The depth of a list is that of its tail, or one more than that of its deepest head.
pub depth_list : (ts : List Tree) (tail : Tree) → depth (list_of ts tail) ≡ max (1 + row_depth (row_of ts)) (depth tail)
depth_list [] tail = omega (arith, deep tail)
depth_list (t ∷ ts) tail = omega (arith, depth_list ts tail)

-- A head at the end of the heads may stand at the front of the tail.
pub list_push : (ts : List Tree) (t tail : Tree) → list_of (ts ++ t ∷ []) tail ≡ list_of ts (Cons t tail)
list_push [] t tail = refl
list_push (u ∷ ts) t tail = ap (Cons u) (list_push ts t tail)

-- The list stays the same where its last head is put in front of its tail.
pub list_pop : (ts us : List Tree) (t tail : Tree) → ts ≡ us ++ t ∷ [] → list_of us (Cons t tail) ≡ list_of ts tail
list_pop ts us t tail e = sym (list_push us t tail) ∙ ap (λ (x : List Tree). list_of x tail) (sym e)

-- A head of all levels makes the list too deep.
pub too_deep : (ts : List Tree) (tail : Tree) → MOST_DEPTH ≤ row_depth (row_of ts) → MOST_DEPTH < depth (list_of ts tail)
too_deep ts tail h = omega (arith, depth_list ts tail)

-- Heads of fewer levels, and a tail within the bound, make a list within it.
pub deep_enough : (ts : List Tree) (tail : Tree) → row_depth (row_of ts) < MOST_DEPTH → depth tail ≤ MOST_DEPTH → depth (list_of ts tail) ≤ MOST_DEPTH
deep_enough ts tail h k = omega (arith, depth_list ts tail)
