-- Clauses of which an object's code tells the result.
use Rattle.std.proofs.Common.{◌≡◌, ℕ, zero, suc, ◌<◌, Bool, true, false, List, [], ◌∷◌, length, get_or, Option, Some, None, refl, ap, sym, ◌∙◌, arith, subst}
use Rattle.std.proofs.lemmas.Bool.Decides.{nat_tests}
use Rattle.std.specs.Prelude.{◌==◌, IsSome, codes, if◌then◌else◌, is_none, is_some, not, ◌&&◌, ◌||◌}
use Rattle.ca_term.specs.Object.{fits}
use Rattle.ca_term.specs.Tree.{Tree, Row, Integer, Atom, Tuple, Nil, Cons, Binary, Ends, More, list_of}
use Rattle.ca_match.specs.declared.operator.Operator.{Operator}
use Rattle.ca_match.specs.Match.{Bindings, bind, bind_name, bind_row, bound, no_bindings}
use Rattle.ca_match.specs.OperatorView.{meaning_of, name_of, stop_of}
use Rattle.ca_match.specs.Specification.{holds, is_variable, row_holds}
use Rattle.ca_match.specs.Spelling.{variable_name}
use Rattle.ca_match.specs.Variable.{is_all_bound, is_whole, is_wildcard, variable_of}
use Rattle.ca_order.specs.declared.codes.Part.{Part}
use Rattle.ca_spec.specs.ByCode.{AreBound, IsOnePlain, IsPlain, are_plain, has_variable, is_comparison, is_connective, is_operand, is_plain}
use Rattle.ca_spec.specs.ClauseView.{trees_of_clauses}
use Rattle.ca_spec.specs.ExpressionView.{IsForm, is_itself, tree_of_form}
use Rattle.ca_spec.specs.PartBound.{part_at}
use Rattle.ca_spec.specs.declared.clause.Clause.{Clause}
use Rattle.ca_spec.specs.declared.expression.Form.{Form}
use Rattle.ca_spec.specs.declared.expression.Form.TheVariants as form
use Rattle.ca_spec.proofs.Named.{connective, not_const}
use Rattle.ca_spec.proofs.Names.{not_all_bound, not_whole, number_of_name}
use Rattle.ca_spec.proofs.Sieves.{Keeps, part_keeps, row_keeps, steps, variable_bound}

-- ---- each variable of a head that fits is bound

wildcard_none : (text : List ℕ) (n : ℕ) → is_wildcard text ≡ true → is_variable n (variable_of text) ≡ true → ⊥
wildcard_none [] n w v = cc
wildcard_none (c ∷ []) n w v = cc
wildcard_none (c ∷ d ∷ text) n w v = longer (c == 95) w
  where
    longer : (b : Bool) → (b && false) ≡ true → ⊥
    longer true e = cc
    longer false e = cc

kept : (b c : Bindings) (n : ℕ) (v : Option Tree) → Keeps b c → bound b n ≡ v → is_some v ≡ true → IsSome (bound c n)
kept b c n None k e s = cc
kept b c n (Some t) k e s = ap is_some (k.keeps n t e)

name_bound : (text : List ℕ) (t : Tree) (b c : Bindings) (n : ℕ) (v : Option ℕ) → n < length b → is_variable n v ≡ true
    → bind_name b text v t ≡ Some c → IsSome (bound c n)
name_bound text t b c n None h i e = cc
name_bound text t b c n (Some m) h i e =
    let same : m ≡ n = grind (arith, nat_tests) in
    let at : bound c m ≡ Some t = variable_bound b c m t (bound b m) (omega (arith, same, h)) refl e in
    ap is_some (ap (λ (x : ℕ). bound c x) (sym same) ∙ at)

atom_bound : (text : List ℕ) (t : Tree) (b c : Bindings) (n : ℕ) (w : Bool) → is_wildcard text ≡ w → n < length b
    → is_variable n (variable_of text) ≡ true → (if w then Some b else bind_name b text (variable_of text) t) ≡ Some c → IsSome (bound c n)
atom_bound text t b c n true w h i e = absurd (wildcard_none text n w i)
atom_bound text t b c n false w h i e = name_bound text t b c n (variable_of text) h i e

-- what is bound by the first of two parts, or by the second one
either_bound : (d c : Bindings) (n : ℕ) (a r : Bool) → Keeps d c → (a ≡ true → IsSome (bound d n)) → (r ≡ true → IsSome (bound c n))
    → (a || r) ≡ true → IsSome (bound c n)
either_bound d c n true r k f g e = kept d c n (bound d n) k refl (f refl)
either_bound d c n false r k f g e = g e

mutual
  unfolding bind bind_row holds row_holds

  part_bound : (p t : Tree) (b c : Bindings) (n : ℕ) → n < 100 → length b ≡ 100 → bind p t b ≡ Some c → holds n p ≡ true → IsSome (bound c n)
  part_bound (Integer m) t b c n h l e i = cc
  part_bound (Atom text) t b c n h l e i = atom_bound text t b c n (is_wildcard text) refl (omega (arith, h, l)) i e
  part_bound (Tuple row) (Tuple us) b c n h l e i = row_bound row us b c n h l e i
  part_bound (Tuple row) t b c n h l e i = cc
  part_bound Nil t b c n h l e i = cc
  part_bound (Cons head tail) (Cons first rest) b c n h l e i =
      steps (bind head first b) (bind tail rest) c (IsSome (bound c n)) e
      (λ d f g. either_bound d c n (holds n head) (holds n tail) (part_keeps tail rest d c g) (part_bound head first b d n h l f)
      (part_bound tail rest d c n h ((part_keeps head first b d f).long ∙ l) g) i)
  part_bound (Cons head tail) t b c n h l e i = cc
  part_bound (Binary bytes) t b c n h l e i = cc

  row_bound : (row us : Row) (b c : Bindings) (n : ℕ) → n < 100 → length b ≡ 100 → bind_row row us b ≡ Some c → row_holds n row ≡ true
      → IsSome (bound c n)
  row_bound Ends Ends b c n h l e i = cc
  row_bound Ends (More u us) b c n h l e i = cc
  row_bound (More t row) Ends b c n h l e i = cc
  row_bound (More t row) (More u us) b c n h l e i =
      steps (bind t u b) (bind_row row us) c (IsSome (bound c n)) e
      (λ d f g. either_bound d c n (holds n t) (row_holds n row) (row_keeps row us d c g) (part_bound t u b d n h l f)
      (row_bound row us d c n h ((part_keeps t u b d f).long ∙ l) g) i)

-- A head that fits binds its variables.
pub head_bound : (head object : Tree) (b c : Bindings) → b ≡ no_bindings → bind head object b ≡ Some c → AreBound head c
head_bound head object b c e f = λ n h i. part_bound head object b c n h (ap length e) f i

-- ---- operands

or_none : (b : Bool) → (b || false) ≡ b
or_none true = refl
or_none false = refl

variable_operand : (head : Tree) (n : ℕ) → n < 100 → is_operand head (Atom (variable_name n)) ≡ holds n head
variable_operand head n h = rw (not_whole n, not_all_bound n, number_of_name n h) refl

is_there : (r : Option Part) (v : Option Tree) → part_at r ≡ v → is_some v ≡ true → IsSome r
is_there None v e s = let no : is_some v ≡ false = ap is_some (sym e) in cc
is_there (Some part) v e s = refl

-- A variable that the head holds has its part.
pub variable_told : (head e : Tree) (b : Bindings) (n : ℕ) (r : Option Part) → n < 100 → Atom (variable_name n) ≡ e → part_at r ≡ bound b n
    → AreBound head b → is_operand head e ≡ true → IsSome r
variable_told head e b n r h f p a o =
    is_there r (bound b n) p (a n h (sym (variable_operand head n h) ∙ ap (is_operand head) f ∙ o))

name_operand : (head : Tree) (w a f : Bool) (v : Option ℕ) → (not (w || a) && is_none v) ≡ true
    → (w || (not (w || a) && is_none v && f) || has_variable head v) ≡ f
name_operand head true a f v e = cc
name_operand head false true f v e = cc
name_operand head false false f None e = or_none f
name_operand head false false f (Some n) e = cc

itself_operand : (head t : Tree) → is_itself t ≡ true → is_operand head t ≡ fits t
itself_operand head (Integer n) e = or_none (fits (Integer n))
itself_operand head (Atom text) e = name_operand head (is_whole text) (is_all_bound text) (fits (Atom text)) (variable_of text) e
itself_operand head (Tuple row) e = cc
itself_operand head Nil e = or_none (fits Nil)
itself_operand head (Cons first rest) e = cc
itself_operand head (Binary bytes) e = or_none (fits (Binary bytes))

-- A constant that is an operand has its code.
pub literal_told : (head e t : Tree) (b : Bool) → b ≡ fits t → is_itself t ≡ true → t ≡ e → is_operand head e ≡ true → b ≡ true
literal_told head e t b c i f o = c ∙ sym (itself_operand head t i) ∙ ap (is_operand head) f ∙ o

pub constant_told : (head e t : Tree) (b : Bool) → b ≡ fits t → Tuple (More (Atom (codes "const")) (More t Ends)) ≡ e → is_operand head e ≡ true
    → b ≡ true
constant_told head e t b c f o = c ∙ sym (or_none (fits t)) ∙ ap (is_operand head) f ∙ o

-- whether a form may be an operand, and whether it is an operator with arguments
abbrev pub may_be_operand : Form → Bool
may_be_operand (form.Variable n) = true
may_be_operand form.Whole = true
may_be_operand form.AllBound = false
may_be_operand (form.Literal t) = true
may_be_operand (form.Constant t) = true
may_be_operand (form.Tuple parts) = false
may_be_operand (form.List heads tail) = false
may_be_operand (form.One operator a) = false
may_be_operand (form.Two operator a b) = false

abbrev pub is_call : Form → Bool
is_call (form.Variable n) = false
is_call form.Whole = false
is_call form.AllBound = false
is_call (form.Literal t) = false
is_call (form.Constant t) = false
is_call (form.Tuple parts) = false
is_call (form.List heads tail) = false
is_call (form.One operator a) = true
is_call (form.Two operator a b) = true

cells_no_operand : (head : Tree) (heads : List Tree) (tail : Tree) → 0 < length heads → is_operand head (list_of heads tail) ≡ false
cells_no_operand head [] tail h = absurd (omega arith)
cells_no_operand head (t ∷ ts) tail h = refl

-- Other forms are no operands.
pub form_no_operand : (head : Tree) (f : Form) → IsForm f → may_be_operand f ≡ false → is_operand head (tree_of_form f) ≡ false
form_no_operand head (form.Variable n) k e = cc
form_no_operand head form.Whole k e = cc
form_no_operand head form.AllBound k e = refl
form_no_operand head (form.Literal t) k e = cc
form_no_operand head (form.Constant t) k e = cc
form_no_operand head (form.Tuple parts) k e = refl
form_no_operand head (form.List heads tail) k e = cells_no_operand head heads.items tail.value k
form_no_operand head (form.One operator a) k e = ap (λ (x : Bool). (x && fits a.value) || false) (not_const operator)
form_no_operand head (form.Two operator a b) k e = refl

-- ---- guards

cells_not_plain : (head : Tree) (heads : List Tree) (tail : Tree) → 0 < length heads → is_plain head (list_of heads tail) ≡ false
cells_not_plain head [] tail h = absurd (omega arith)
cells_not_plain head (t ∷ ts) tail h = refl

itself_not_plain : (head t : Tree) → is_itself t ≡ true → is_plain head t ≡ false
itself_not_plain head (Integer n) e = refl
itself_not_plain head (Atom text) e = refl
itself_not_plain head (Tuple row) e = cc
itself_not_plain head Nil e = refl
itself_not_plain head (Cons first rest) e = refl
itself_not_plain head (Binary bytes) e = refl

-- A guard that is no operator with arguments is not plain.
pub form_not_plain : (head : Tree) (f : Form) → IsForm f → is_call f ≡ false → is_plain head (tree_of_form f) ≡ false
form_not_plain head (form.Variable n) k e = refl
form_not_plain head form.Whole k e = refl
form_not_plain head form.AllBound k e = refl
form_not_plain head (form.Literal t) k e = itself_not_plain head t k
form_not_plain head (form.Constant t) k e = refl
form_not_plain head (form.Tuple parts) k e = refl
form_not_plain head (form.List heads tail) k e = cells_not_plain head heads.items tail.value k
form_not_plain head (form.One operator a) k e = cc
form_not_plain head (form.Two operator a b) k e = cc

both : (a b : Bool) → (a && b) ≡ true → (a ≡ true) × (b ≡ true)
both true b e = (refl, e)
both false b e = cc

-- the guard {Op,E1,E2}
abbrev pub call_of_two : Operator → Tree → Tree → Tree
call_of_two operator a b = Tuple (More (Atom (name_of operator)) (More a (More b Ends)))

-- `andalso` or `orelse` that is plain has plain arguments.
pub plain_short : (head : Tree) (operator : Operator) (stop : Bool) (a b : Tree) → Some stop ≡ stop_of (meaning_of operator)
    → is_plain head (call_of_two operator a b) ≡ true → (is_plain head a ≡ true) × (is_plain head b ≡ true)
plain_short head operator stop a b s p =
    let is : is_connective (name_of operator) ≡ true = connective operator ∙ ap is_some (sym s) in
    both (is_plain head a) (is_plain head b)
    (ap (λ (x : Bool). if x then is_plain head a && is_plain head b else is_comparison (name_of operator) && is_operand head a && is_operand head b)
    (sym is) ∙ p)

-- Another plain operator of two arguments is a comparison of operands.
pub plain_comparison : (head : Tree) (operator : Operator) (a b : Tree) → None ≡ stop_of (meaning_of operator)
    → is_plain head (call_of_two operator a b) ≡ true
    → (is_comparison (name_of operator) ≡ true) × ((is_operand head a ≡ true) × (is_operand head b ≡ true))
plain_comparison head operator a b s p =
    let is : is_connective (name_of operator) ≡ false = connective operator ∙ ap is_some (sym s) in
    let all = both (is_comparison (name_of operator) && is_operand head a) (is_operand head b)
    (ap (λ (x : Bool). if x then is_plain head a && is_plain head b else is_comparison (name_of operator) && is_operand head a && is_operand head b)
    (sym is) ∙ p) in
    let first = both (is_comparison (name_of operator)) (is_operand head a) all.0 in (first.0, (first.1, all.1))

-- Each of plain guards is plain.
pub each_plain : (head : Tree) (guards : List Tree) (k : ℕ) (guard : Tree) → k < length guards → guard ≡ get_or guards k guard
    → are_plain head (list_of guards Nil) ≡ true → is_plain head guard ≡ true
each_plain head guards k guard h i p = ap (is_plain head) i ∙ item guards k h p
  where
    item : (gs : List Tree) (j : ℕ) → j < length gs → are_plain head (list_of gs Nil) ≡ true → is_plain head (get_or gs j guard) ≡ true
    item [] j l q = absurd (omega arith)
    item (g ∷ gs) zero l q = (both (is_plain head g) (are_plain head (list_of gs Nil)) q).0
    item (g ∷ gs) (suc j) l q = item gs j (omega arith) (both (is_plain head g) (are_plain head (list_of gs Nil)) q).1

-- ---- specifications

-- A specification of one plain clause has no other one.
pub only_plain : (clauses others : List Clause) (clause : Clause) (source : Tree) → list_of (trees_of_clauses clauses) Nil ≡ source
    → clauses ≡ clause ∷ others → IsOnePlain source → (length others ≡ 0) × IsPlain clause.head (list_of clause.guards.items Nil) clause.body
only_plain clauses others clause source s f p =
    by others (subst (λ (x : List Clause). IsOnePlain (list_of (trees_of_clauses x) Nil)) f (subst IsOnePlain (sym s) p))
  where
    by : (more : List Clause) → IsOnePlain (list_of (trees_of_clauses (clause ∷ more)) Nil)
        → (length more ≡ 0) × IsPlain clause.head (list_of clause.guards.items Nil) clause.body
    by [] q = (refl, q)
    by (c ∷ cs) q = absurd q

pub no_plain : (clauses : List Clause) (source : Tree) → list_of (trees_of_clauses clauses) Nil ≡ source → clauses ≡ [] → IsOnePlain source → ⊥
no_plain clauses source s f p = subst (λ (x : List Clause). IsOnePlain (list_of (trees_of_clauses x) Nil)) f (subst IsOnePlain (sym s) p)
