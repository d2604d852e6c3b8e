-- How the logic stores a tree, so that it tells trees apart. It says nothing of the byte code of terms.
use Rattle.std.specs.Prelude.{◌≡◌, ℕ, pos, negsuc, List, [], ◌∷◌, refl}
use Rattle.std.proofs.Common.{zero, suc}
use base.Stored.{Gv, gnil, gnum, gcons}
use denote.Struct.Codes.{itself}
use Rattle.std.specs.Coded.{Coded, code_by}
use Rattle.ca_term.specs.Tree.{Tree, Row, Integer, Atom, Tuple, Nil, Cons, Binary, Ends, More}

abbrev num : Gv → ℕ
num gnil = 0
num (gnum n) = n
num (gcons g h) = 0

abbrev put_list : List ℕ → Gv
put_list [] = gnil
put_list (n ∷ ns) = gcons (gnum n) (put_list ns)

abbrev get_list : Gv → List ℕ
get_list gnil = []
get_list (gnum n) = []
get_list (gcons g h) = num g ∷ get_list h

list_back : (ns : List ℕ) → get_list (put_list ns) ≡ ns
list_back [] = refl
list_back (n ∷ ns) = λ i. n ∷ list_back ns i

abbrev mutual
  put : Tree → Gv
  put (Integer (pos n)) = gcons (gnum 0) (gnum n)
  put (Integer (negsuc n)) = gcons (gnum 1) (gnum n)
  put (Atom text) = gcons (gnum 2) (put_list text)
  put (Tuple row) = gcons (gnum 3) (put_row row)
  put Nil = gnil
  put (Cons h t) = gcons (gcons gnil (put h)) (put t)
  put (Binary bytes) = gcons (gnum 4) (put_list bytes)

  put_row : Row → Gv
  put_row Ends = gnil
  put_row (More t row) = gcons (put t) (put_row row)

abbrev mutual
  get : Gv → Tree
  get gnil = Nil
  get (gnum n) = Nil
  get (gcons (gnum zero) h) = Integer (pos (num h))
  get (gcons (gnum (suc zero)) h) = Integer (negsuc (num h))
  get (gcons (gnum (suc (suc zero))) h) = Atom (get_list h)
  get (gcons (gnum (suc (suc (suc zero)))) h) = Tuple (get_row h)
  get (gcons (gnum (suc (suc (suc (suc n))))) h) = Binary (get_list h)
  get (gcons gnil h) = Nil
  get (gcons (gcons g k) h) = Cons (get k) (get h)

  get_row : Gv → Row
  get_row gnil = Ends
  get_row (gnum n) = Ends
  get_row (gcons g h) = More (get g) (get_row h)

mutual
  pub back : (t : Tree) → get (put t) ≡ t
  back (Integer (pos n)) = refl
  back (Integer (negsuc n)) = refl
  back (Atom text) = λ i. Atom (list_back text i)
  back (Tuple row) = λ i. Tuple (back_row row i)
  back Nil = refl
  back (Cons h t) = λ i. Cons (back h i) (back t i)
  back (Binary bytes) = λ i. Binary (list_back bytes i)

  pub back_row : (r : Row) → get_row (put_row r) ≡ r
  back_row Ends = refl
  back_row (More t row) = λ i. More (back t i) (back_row row i)

abbrev pub tree_stored : Coded Tree
tree_stored = code_by Gv itself put get back
