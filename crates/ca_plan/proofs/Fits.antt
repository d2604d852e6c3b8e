-- What parts of heads without variables fit.
use Rattle.std.proofs.Common.{◌≡◌, ℕ, zero, suc, ◌<◌, Bool, true, false, List, get_or, Option, Some, None, refl, ap, arith}
use Rattle.std.specs.declared.cmp.Ordering.{Ordering}
use Rattle.std.specs.declared.cmp.Ordering.TheVariants.{Less, Equal, Greater}
use Rattle.std.specs.Ordering.{is_eq}
use Rattle.std.specs.Prelude.{if◌then◌else◌, option_and_then, is_none, not, ◌&&◌}
use Rattle.ca_term.specs.Tree.{Tree, Row, Integer, Atom, Tuple, Nil, Cons, Binary, Ends, More, elements, size}
use Rattle.ca_term.specs.Order.{term_cmp}
use Rattle.ca_term.proofs.TotalOrder.{tree_same}
use Rattle.ca_match.specs.Match.{Bindings, bind, bind_name, bind_row, where_equal}
use Rattle.ca_match.specs.Variable.{is_wildcard, variable_of}
use Rattle.ca_plan.specs.Plan.{is_fixed, is_fixed_row}

-- Where two tests hold, the first does.
pub both_first : (a b : Bool) → (a && b) ≡ true → a ≡ true
both_first true b e = refl
both_first false b e = cc

-- And the second does.
pub both_second : (a b : Bool) → (a && b) ≡ true → b ≡ true
both_second true b e = e
both_second false b e = cc

-- Terms that compare as equal are one.
pub same_by : (o : Ordering) (p t : Tree) → term_cmp p t ≡ o → is_eq o ≡ true → p ≡ t
same_by Less p t e h = cc
same_by Equal p t e h = tree_same p t e
same_by Greater p t e h = cc

equal_by : (o : Ordering) (p t : Tree) (b c : Bindings) → term_cmp p t ≡ o → (if is_eq o then Some b else None) ≡ Some c → p ≡ t
equal_by Less p t b c e h = cc
equal_by Equal p t b c e h = tree_same p t e
equal_by Greater p t b c e h = cc

equal_fits : (p t : Tree) (b c : Bindings) → where_equal b p t ≡ Some c → p ≡ t
equal_fits p t b c e = equal_by (term_cmp p t) p t b c refl e

atom_fits : (text : List ℕ) (t : Tree) (b c : Bindings) (w : Bool) (v : Option ℕ) → (not w && is_none v) ≡ true
    → (if w then Some b else bind_name b text v t) ≡ Some c → Atom text ≡ t
atom_fits text t b c true v f e = cc
atom_fits text t b c false None f e = equal_fits (Atom text) t b c e
atom_fits text t b c false (Some n) f e = cc

-- what fits in two steps fits in each
steps : (o : Option Bindings) (f : Bindings → Option Bindings) (c : Bindings) (P : Type 0) → option_and_then f o ≡ Some c
    → ((d : Bindings) → o ≡ Some d → f d ≡ Some c → P) → P
steps None f c P e goes = cc
steps (Some d) f c P e goes = goes d refl e

mutual
  unfolding bind bind_row

  -- A part without variables and '_' fits an equal term alone.
  pub fixed_fits : (p t : Tree) (b c : Bindings) → is_fixed p ≡ true → bind p t b ≡ Some c → p ≡ t
  fixed_fits (Integer n) t b c f e = equal_fits (Integer n) t b c e
  fixed_fits (Atom text) t b c f e = atom_fits text t b c (is_wildcard text) (variable_of text) f e
  fixed_fits (Tuple row) (Tuple us) b c f e = ap Tuple (fixed_row_fits row us b c f e)
  fixed_fits (Tuple row) t b c f e = cc
  fixed_fits Nil t b c f e = equal_fits Nil t b c e
  fixed_fits (Cons head tail) (Cons first rest) b c f e =
      steps (bind head first b) (bind tail rest) c (Cons head tail ≡ Cons first rest) e (λ d g h.
      let p = fixed_fits head first b d (both_first (is_fixed head) (is_fixed tail) f) g in
      let q = fixed_fits tail rest d c (both_second (is_fixed head) (is_fixed tail) f) h in
      λ i. Cons (p i) (q i))
  fixed_fits (Cons head tail) t b c f e = cc
  fixed_fits (Binary bytes) t b c f e = equal_fits (Binary bytes) t b c e

  -- Elements without them fit equal elements alone.
  pub fixed_row_fits : (row us : Row) (b c : Bindings) → is_fixed_row row ≡ true → bind_row row us b ≡ Some c → row ≡ us
  fixed_row_fits Ends Ends b c f e = refl
  fixed_row_fits Ends (More u us) b c f e = cc
  fixed_row_fits (More t row) Ends b c f e = cc
  fixed_row_fits (More t row) (More u us) b c f e =
      steps (bind t u b) (bind_row row us) c (More t row ≡ More u us) e (λ d g h.
      let p = fixed_fits t u b d (both_first (is_fixed t) (is_fixed_row row) f) g in
      let q = fixed_row_fits row us d c (both_second (is_fixed t) (is_fixed_row row) f) h in
      λ i. More (p i) (q i))

-- An element without variables stands in what the tuple fits.
pub element_fits : (row us : Row) (k : ℕ) (b c : Bindings) → k < size row → is_fixed (get_or (elements row) k Nil) ≡ true
    → bind_row row us b ≡ Some c → get_or (elements row) k Nil ≡ get_or (elements us) k Nil
unfolding bind_row
element_fits Ends us k b c l f e = absurd (omega arith)
element_fits (More t row) Ends k b c l f e = cc
element_fits (More t row) (More u us) zero b c l f e = steps (bind t u b) (bind_row row us) c (t ≡ u) e (λ d g h. fixed_fits t u b d f g)
element_fits (More t row) (More u us) (suc k) b c l f e =
    steps (bind t u b) (bind_row row us) c (get_or (elements row) k Nil ≡ get_or (elements us) k Nil) e
    (λ d g h. element_fits row us k d c (omega arith) f h)
