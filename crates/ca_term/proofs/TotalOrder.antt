-- The order of terms is a total order.
use Rattle.std.proofs.Common.{◌≡◌, ℕ, ◌≤◌, ◌<◌, eqb, true, false, arith, refl, sym, ap, ◌∙◌, ⊎_elim}
use Rattle.std.specs.Prelude.{◌&&◌}
use Rattle.std.proofs.lemmas.Bool.{cases_lt}
use Rattle.std.proofs.lemmas.Bool.Decides.{nat_tests}
use Rattle.std.specs.declared.cmp.Ordering.{Ordering}
use Rattle.std.specs.declared.cmp.Ordering.TheVariants.{Less, Equal, Greater}
use Rattle.std.specs.Ordering.{ordering_then, ordering_reverse, nat_cmp}
use Rattle.std.specs.Cmp.{IsTotalOrder, nat_cmp_total, int_cmp_total, then_flip}
use Rattle.std.specs.Cmp.Lexicographic.{nat_list_cmp_total}
use Rattle.std.specs.FinMap.{nat_cmp-IsAntisymmetric, int_cmp-IsAntisymmetric, slice_cmp-IsAntisymmetric}
use Rattle.ca_term.specs.Tree.{Tree, Row, Integer, Atom, Tuple, Nil, Cons, Binary, Ends, More, size}
use Rattle.ca_term.specs.Order.{term_cmp, row_cmp, rank}
use Rattle.ca_term.proofs.Numbers.{less, greater}

then_equal_first : (o p : Ordering) → ordering_then o p ≡ Equal → o ≡ Equal
then_equal_first Less p e = e
then_equal_first Equal p e = refl
then_equal_first Greater p e = e

then_equal_second : (o p : Ordering) → ordering_then o p ≡ Equal → p ≡ Equal
then_equal_second Less p e = cc
then_equal_second Equal p e = e
then_equal_second Greater p e = cc

then_flips : (o o' p p' : Ordering) → o ≡ ordering_reverse o' → p ≡ ordering_reverse p' → ordering_then o p ≡ ordering_reverse (ordering_then o' p')
then_flips o o' p p' e f = rw (e, f) (then_flip o' p')

then_chain : (o r s p q t : Ordering) → (o ≡ Less → r ≡ Less → s ≡ Less) → (o ≡ Equal → s ≡ r) → (r ≡ Equal → s ≡ o) → (p ≡ Less → q ≡ Less → t ≡ Less)
    → ordering_then o p ≡ Less → ordering_then r q ≡ Less → ordering_then s t ≡ Less
then_chain Less Less s p q t f g h k a b = rw (f refl refl)
then_chain Less Equal s p q t f g h k a b = rw (h refl)
then_chain Less Greater s p q t f g h k a b = cc
then_chain Equal Less s p q t f g h k a b = rw (g refl)
then_chain Equal Equal s p q t f g h k a b = rw (g refl) (k a b)
then_chain Equal Greater s p q t f g h k a b = cc
then_chain Greater r s p q t f g h k a b = cc

mutual
  -- Two terms the other way round compare the other way.
  pub tree_flip : (a b : Tree) → term_cmp a b ≡ ordering_reverse (term_cmp b a)
  tree_flip (Integer m) (Integer n) = int_cmp_total.antisymm m n
  tree_flip (Atom a) (Atom b) = nat_list_cmp_total.antisymm a b
  tree_flip (Tuple r) (Tuple s) =
      then_flips (nat_cmp (size r) (size s)) (nat_cmp (size s) (size r)) (row_cmp r s) (row_cmp s r) (nat_cmp_total.antisymm (size r) (size s)) (row_flip r s)
  tree_flip Nil Nil = refl
  tree_flip (Cons h t) (Cons k u) = then_flips (term_cmp h k) (term_cmp k h) (term_cmp t u) (term_cmp u t) (tree_flip h k) (tree_flip t u)
  tree_flip (Binary a) (Binary b) = nat_list_cmp_total.antisymm a b
  tree_flip a b = refl

  row_flip : (r s : Row) → row_cmp r s ≡ ordering_reverse (row_cmp s r)
  row_flip Ends Ends = refl
  row_flip Ends (More u s) = refl
  row_flip (More t r) Ends = refl
  row_flip (More t r) (More u s) = then_flips (term_cmp t u) (term_cmp u t) (row_cmp r s) (row_cmp s r) (tree_flip t u) (row_flip r s)

mutual
  -- Terms that compare as equal are the same.
  pub tree_same : (a b : Tree) → term_cmp a b ≡ Equal → a ≡ b
  tree_same (Integer m) (Integer n) e = ap Integer (int_cmp-IsAntisymmetric m n e)
  tree_same (Atom a) (Atom b) e = ap Atom (slice_cmp-IsAntisymmetric nat_cmp-IsAntisymmetric a b e)
  tree_same (Tuple r) (Tuple s) e = ap Tuple (row_same r s (then_equal_second (nat_cmp (size r) (size s)) (row_cmp r s) e))
  tree_same Nil Nil e = refl
  tree_same (Cons h t) (Cons k u) e =
      let p = tree_same h k (then_equal_first (term_cmp h k) (term_cmp t u) e) in
      let q = tree_same t u (then_equal_second (term_cmp h k) (term_cmp t u) e) in
      λ i. Cons (p i) (q i)
  tree_same (Binary a) (Binary b) e = ap Binary (slice_cmp-IsAntisymmetric nat_cmp-IsAntisymmetric a b e)
  tree_same a b e = cc

  row_same : (r s : Row) → row_cmp r s ≡ Equal → r ≡ s
  row_same Ends Ends e = refl
  row_same Ends (More u s) e = cc
  row_same (More t r) Ends e = cc
  row_same (More t r) (More u s) e =
      let p = tree_same t u (then_equal_first (term_cmp t u) (row_cmp r s) e) in
      let q = row_same r s (then_equal_second (term_cmp t u) (row_cmp r s) e) in
      λ i. More (p i) (q i)

left_equal : (a b c : Tree) → term_cmp a b ≡ Equal → term_cmp a c ≡ term_cmp b c
left_equal a b c e = rw (tree_same a b e)

right_equal : (a b c : Tree) → term_cmp b c ≡ Equal → term_cmp a c ≡ term_cmp a b
right_equal a b c e = rw (tree_same b c e)

-- Terms of two kinds compare as their ranks do.
by_rank : (a b : Tree) → (rank a ≡ rank b → ⊥) → term_cmp a b ≡ nat_cmp (rank a) (rank b)
by_rank (Integer m) (Integer n) apart = absurd (apart refl)
by_rank (Atom a) (Atom b) apart = absurd (apart refl)
by_rank (Tuple r) (Tuple s) apart = absurd (apart refl)
by_rank Nil Nil apart = absurd (apart refl)
by_rank (Cons h t) (Cons k u) apart = absurd (apart refl)
by_rank (Binary a) (Binary b) apart = absurd (apart refl)
by_rank a b apart = refl

rank_less : (a b : Tree) → rank a < rank b → term_cmp a b ≡ Less
rank_less a b l = by_rank a b (λ e. absurd (omega (arith, e, l))) ∙ less (rank a) (rank b) l

less_rank : (a b : Tree) → term_cmp a b ≡ Less → rank a ≤ rank b
less_rank a b h = ⊎_elim
    (λ l. let g : term_cmp a b ≡ Greater = by_rank a b (λ e. absurd (omega (arith, e, l))) ∙ greater (rank a) (rank b) l in absurd cc)
    (λ l. l)
    (cases_lt (rank b) (rank a))

equal_ranks : (m n o : ℕ) → m ≡ n → n ≡ o → (eqb m n && eqb n o) ≡ true
equal_ranks m n o e f = grind (arith, nat_tests)

-- a chain of terms that aren't all of one kind
chain_ranks : (a b c : Tree) → (eqb (rank a) (rank b) && eqb (rank b) (rank c)) ≡ false → term_cmp a b ≡ Less → term_cmp b c ≡ Less → term_cmp a c ≡ Less
chain_ranks a b c apart h k =
    let l : rank a ≤ rank b = less_rank a b h in
    let m : rank b ≤ rank c = less_rank b c k in
    ⊎_elim (rank_less a c)
    (λ g. let e = equal_ranks (rank a) (rank b) (rank c) (omega (arith, l, m, g)) (omega (arith, l, m, g)) in absurd cc)
    (cases_lt (rank a) (rank c))

mutual
  -- What is less than something less is less.
  pub tree_chain : (a b c : Tree) → term_cmp a b ≡ Less → term_cmp b c ≡ Less → term_cmp a c ≡ Less
  tree_chain (Integer m) (Integer n) (Integer o) h k = int_cmp_total.trans m n o h k
  tree_chain (Atom a) (Atom b) (Atom c) h k = nat_list_cmp_total.trans a b c h k
  tree_chain (Tuple r) (Tuple s) (Tuple t) h k =
      then_chain (nat_cmp (size r) (size s)) (nat_cmp (size s) (size t)) (nat_cmp (size r) (size t)) (row_cmp r s) (row_cmp s t) (row_cmp r t)
      (nat_cmp_total.trans (size r) (size s) (size t)) (λ e. nat_cmp_total.congr (size r) (size s) (size t) e)
      (λ e. ap (nat_cmp (size r)) (sym (nat_cmp-IsAntisymmetric (size s) (size t) e))) (row_chain r s t) h k
  tree_chain Nil Nil Nil h k = h
  tree_chain (Cons h t) (Cons k u) (Cons l v) e f =
      then_chain (term_cmp h k) (term_cmp k l) (term_cmp h l) (term_cmp t u) (term_cmp u v) (term_cmp t v)
      (tree_chain h k l) (left_equal h k l) (right_equal h k l) (tree_chain t u v) e f
  tree_chain (Binary a) (Binary b) (Binary c) h k = nat_list_cmp_total.trans a b c h k
  tree_chain a b c h k = chain_ranks a b c refl h k

  row_chain : (r s t : Row) → row_cmp r s ≡ Less → row_cmp s t ≡ Less → row_cmp r t ≡ Less
  row_chain Ends Ends t h k = cc
  row_chain Ends (More u s) Ends h k = cc
  row_chain Ends (More u s) (More v t) h k = refl
  row_chain (More w r) Ends t h k = cc
  row_chain (More w r) (More u s) Ends h k = cc
  row_chain (More w r) (More u s) (More v t) h k =
      then_chain (term_cmp w u) (term_cmp u v) (term_cmp w v) (row_cmp r s) (row_cmp s t) (row_cmp r t)
      (tree_chain w u v) (left_equal w u v) (right_equal w u v) (row_chain r s t) h k

-- The term order is total.
pub term_cmp_total : IsTotalOrder term_cmp
term_cmp_total = record { antisymm = tree_flip; trans = tree_chain; congr = left_equal }
