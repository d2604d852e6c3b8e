-- What an element that a guard speaks of tells of an object's result.
use Rattle.std.proofs.Common.{◌≡◌, ◌≢◌, ℕ, zero, suc, ◌≤◌, ◌<◌, ◌+◌, Bool, true, false, List, [], ◌∷◌, length, drop, set, get_or, Option, Some, None, refl, ap, sym, ◌∙◌, arith, append-nil, ◌++◌, nat_le, subst, add-one, drop-cons}
use Rattle.std.proofs.lemmas.Bool.Decides.{nat_tests}
use Rattle.std.proofs.lemmas.List.{drop_all, length-set}
use Rattle.std.specs.Prelude.{IfSome, MatchOption, codes, if◌then◌else◌, not, option_and_then, option_map, ◌&&◌}
use Rattle.std.specs.Option.{option_or}
use Rattle.std.specs.Ordering.{is_eq, ordering_reverse}
use Rattle.std.specs.declared.cmp.Ordering.{Ordering}
use Rattle.std.specs.declared.cmp.Ordering.TheVariants.{Less, Equal, Greater}
use Rattle.ca_term.specs.Object.{elements_of}
use Rattle.ca_term.specs.Order.{term_cmp}
use Rattle.ca_term.specs.Tree.{Tree, Row, Integer, Atom, Tuple, Nil, Cons, Binary, Ends, More, elements, list_of, row_of}
use Rattle.ca_term.proofs.Rows.{elements_are}
use Rattle.ca_term.proofs.TotalOrder.{tree_flip, tree_same}
use Rattle.ca_match.specs.Match.{Bindings, Scene, bind, bind_name, bind_row, bind_variable, body_value, bound, clause_result, guarded, is_truth, no_bindings, pass, result_of, value}
use Rattle.ca_match.specs.declared.operator.Operator.{Operator}
use Rattle.ca_match.specs.OperatorView.{meaning_of, name_of}
use Rattle.ca_match.specs.Operators.{applied, is_tuple, truth}
use Rattle.ca_match.specs.Specification.{is_variable}
use Rattle.ca_match.specs.Spelling.{variable_name}
use Rattle.ca_match.specs.Variable.{is_wildcard, variable_of}
use Rattle.ca_order.specs.Codes.{HasNoTuple, IsOpened}
use Rattle.ca_order.specs.CodesView.{tree_of}
use Rattle.ca_order.specs.declared.codes.Part.{Part}
use Rattle.ca_spec.specs.ByCode.{is_comparison, is_constant, variable_in}
use Rattle.ca_spec.specs.ClauseView.{tree_of_clause, tree_of_parts, trees_of_clauses}
use Rattle.ca_spec.specs.ExpressionView.{is_itself}
use Rattle.ca_spec.specs.PartBound.{first}
use Rattle.ca_spec.specs.SieveView.{Compared, Compares, IsFound, IsGuardOf, StandsAt, compared, compared_by, compared_first, first_place, has, passes}
use Rattle.ca_spec.specs.declared.clause.Clause.{Clause}
use Rattle.ca_spec.specs.declared.sieve.Orders.{Orders}
use Rattle.ca_spec.specs.declared.sieve.Sieve.{Sieve}
use Rattle.ca_spec.proofs.Binding.{variable_fits}
use Rattle.ca_spec.proofs.LeftClauses.{result_by}
use Rattle.ca_spec.proofs.Values.{constant_value, literal_value, two_value, variable_value}

-- ---- what is bound stays bound

pub record Keeps (b c : Bindings) : Type 0 where
  pub long : length c ≡ length b
  pub keeps : (n : ℕ) (t : Tree) → bound b n ≡ Some t → bound c n ≡ Some t

keeps_all : (b : Bindings) → Keeps b b
keeps_all b = record { long = refl; keeps = λ n t e. e }

keeps_both : (b c d : Bindings) → Keeps b c → Keeps c d → Keeps b d
keeps_both b c d p q = record { long = q.long ∙ p.long; keeps = λ n t e. q.keeps n t (p.keeps n t e) }

some_is : (b c : Bindings) → Some b ≡ Some c → b ≡ c
some_is b c e = cc

equal_keeps : (o : Ordering) (b c : Bindings) → (if is_eq o then Some b else None) ≡ Some c → Keeps b c
equal_keeps Less b c e = cc
equal_keeps Equal b c e = subst (Keeps b) (some_is b c e) (keeps_all b)
equal_keeps Greater b c e = cc

set_keeps : (b : Bindings) (n m : ℕ) (v : Option Tree) (t : Tree) → get_or b n None ≡ None → get_or b m None ≡ Some t
    → get_or (set b n v) m None ≡ Some t
set_keeps [] n m v t e f = cc
set_keeps (x ∷ xs) zero zero v t e f = cc
set_keeps (x ∷ xs) zero (suc m) v t e f = f
set_keeps (x ∷ xs) (suc n) zero v t e f = f
set_keeps (x ∷ xs) (suc n) (suc m) v t e f = set_keeps xs n m v t e f

set_there : (b : Bindings) (n : ℕ) (v : Option Tree) → n < length b → get_or (set b n v) n None ≡ v
set_there [] n v h = absurd (omega arith)
set_there (x ∷ xs) zero v h = refl
set_there (x ∷ xs) (suc n) v h = set_there xs n v (omega arith)

variable_keeps : (b c : Bindings) (n : ℕ) (t : Tree) (v : Option Tree) → bound b n ≡ v → bind_variable b n v t ≡ Some c → Keeps b c
variable_keeps b c n t None e f =
    subst (Keeps b) (some_is (set b n (Some t)) c f)
    (record { long = length-set b n (Some t); keeps = λ m u g. set_keeps b n m (Some t) u e g })
variable_keeps b c n t (Some u) e f = equal_keeps (term_cmp u t) b c f

atom_keeps : (text : List ℕ) (t : Tree) (b c : Bindings) (w : Bool) (v : Option ℕ) → (if w then Some b else bind_name b text v t) ≡ Some c → Keeps b c
atom_keeps text t b c true v e = subst (Keeps b) (some_is b c e) (keeps_all b)
atom_keeps text t b c false None e = equal_keeps (term_cmp (Atom text) t) b c e
atom_keeps text t b c false (Some n) e = variable_keeps b c n t (bound b n) refl e

-- what fits in two steps fits in each
pub steps : (o : Option Bindings) (f : Bindings → Option Bindings) (c : Bindings) (P : Type 0) → option_and_then f o ≡ Some c
    → ((d : Bindings) → o ≡ Some d → f d ≡ Some c → P) → P
steps None f c P e goes = cc
steps (Some d) f c P e goes = goes d refl e

mutual
  unfolding bind bind_row

  pub part_keeps : (p t : Tree) (b c : Bindings) → bind p t b ≡ Some c → Keeps b c
  part_keeps (Integer n) t b c e = equal_keeps (term_cmp (Integer n) t) b c e
  part_keeps (Atom text) t b c e = atom_keeps text t b c (is_wildcard text) (variable_of text) e
  part_keeps (Tuple row) (Tuple us) b c e = row_keeps row us b c e
  part_keeps (Tuple row) t b c e = cc
  part_keeps Nil t b c e = equal_keeps (term_cmp Nil t) b c e
  part_keeps (Cons head tail) (Cons first rest) b c e =
      steps (bind head first b) (bind tail rest) c (Keeps b c) e
      (λ d f g. keeps_both b d c (part_keeps head first b d f) (part_keeps tail rest d c g))
  part_keeps (Cons head tail) t b c e = cc
  part_keeps (Binary bytes) t b c e = equal_keeps (term_cmp (Binary bytes) t) b c e

  pub row_keeps : (row us : Row) (b c : Bindings) → bind_row row us b ≡ Some c → Keeps b c
  row_keeps Ends Ends b c e = subst (Keeps b) (some_is b c e) (keeps_all b)
  row_keeps Ends (More u us) b c e = cc
  row_keeps (More t row) Ends b c e = cc
  row_keeps (More t row) (More u us) b c e =
      steps (bind t u b) (bind_row row us) c (Keeps b c) e
      (λ d f g. keeps_both b d c (part_keeps t u b d f) (row_keeps row us d c g))

-- ---- a variable is bound to the element at its place

equal_bound : (o : Ordering) (b c : Bindings) (n : ℕ) (u t : Tree) → term_cmp u t ≡ o → bound b n ≡ Some u
    → (if is_eq o then Some b else None) ≡ Some c → bound c n ≡ Some t
equal_bound Less b c n u t o e f = cc
equal_bound Equal b c n u t o e f =
    ap (λ (x : Bindings). bound x n) (sym (some_is b c f)) ∙ e ∙ ap (λ (x : Tree). Some x) (tree_same u t o)
equal_bound Greater b c n u t o e f = cc

pub variable_bound : (b c : Bindings) (n : ℕ) (t : Tree) (v : Option Tree) → n < length b → bound b n ≡ v → bind_variable b n v t ≡ Some c
    → bound c n ≡ Some t
variable_bound b c n t None h e f =
    ap (λ (x : Bindings). bound x n) (sym (some_is (set b n (Some t)) c f)) ∙ set_there b n (Some t) h
variable_bound b c n t (Some u) h e f = equal_bound (term_cmp u t) b c n u t refl e f

-- What is bound to a variable of a tuple's part is the element at the part's place.
abbrev IsElement : Row → ℕ → Option Tree → Type 0
IsElement us k v = (k < length (elements us)) × (v ≡ Some (get_or (elements us) k Nil))

element_bound : (parts : List Tree) (us : Row) (k n : ℕ) (b c : Bindings) → n < 100 → length b ≡ 100 → StandsAt parts n k
    → bind_row (row_of parts) us b ≡ Some c → IsElement us k (bound c n)
unfolding bind_row
element_bound [] us k n b c h l s e = absurd (omega (arith, s.0))
element_bound (p ∷ ps) Ends k n b c h l s e = cc
element_bound (p ∷ ps) (More u us) zero n b c h l s e =
    steps (bind p u b) (bind_row (row_of ps) us) c (IsElement (More u us) zero (bound c n)) e
    (λ d f g.
    let at : bound d n ≡ Some u = variable_bound b d n u (bound b n) (omega arith) refl (sym (variable_fits p u b n h (sym s.1)) ∙ f) in
    (omega arith, (row_keeps (row_of ps) us d c g).keeps n u at))
element_bound (p ∷ ps) (More u us) (suc k) n b c h l s e =
    steps (bind p u b) (bind_row (row_of ps) us) c (IsElement (More u us) (suc k) (bound c n)) e
    (λ d f g.
    let rest = element_bound ps us k n d c h ((part_keeps p u b d f).long ∙ l) (omega (arith, s.0), s.1) g in
    (omega (arith, rest.0), rest.1))

-- ---- a guard that is false

truth_is : (b : Bool) → is_truth (Some (truth b)) ≡ b
truth_is true = refl
truth_is false = refl

not_passed : (s : Scene) (guard : Tree) (guards : Tree) → is_truth (value s guard) ≡ false → pass s (Cons guard guards) ≡ false
unfolding pass
not_passed s guard guards e = ap (λ (x : Bool). x && pass s guards) e

-- An element is there and does not stand to the constant in one of the orders where the object does not pass.
not_has : (sieve : Sieve) (us : Row) (a b : Bool) → nat_le (sieve.place + 1) (length (elements us)) ≡ a → sieve.place < length (elements us)
    → has sieve.orders (term_cmp (get_or (elements us) sieve.place Nil) (tree_of sieve.constant)) ≡ b → (a && b) ≡ false → b ≡ false
not_has sieve us true b f h g e = e
not_has sieve us false b f h g e = grind (arith, nat_tests)

stopped : (sieve : Sieve) (guard guards body : Tree) (n : ℕ) (us : Row) (c : Bindings) → IsGuardOf guard n sieve.orders (tree_of sieve.constant)
    → IsElement us sieve.place (bound c n) → passes sieve (Tuple us) ≡ false
    → guarded (record { object = Tuple us; bindings = c }) (Cons guard guards) body ≡ None
stopped sieve guard guards body n us c g at e =
    let s : Scene = record { object = Tuple us; bindings = c } in
    let t = get_or (elements us) sieve.place Nil in
    let no : has sieve.orders (term_cmp t (tree_of sieve.constant)) ≡ false = not_has sieve us _ _ refl at.0 refl e in
    let is : is_truth (value s guard) ≡ false = ap is_truth (g.1 s t at.1) ∙ truth_is _ ∙ no in
    ap (λ (x : Bool). if x then body_value s body else None) (not_passed s guard guards is)

stopped_by : (o : Option Bindings) (sieve : Sieve) (parts : List Tree) (guard guards body object : Tree) (n : ℕ)
    → IsGuardOf guard n sieve.orders (tree_of sieve.constant) → StandsAt parts n sieve.place → passes sieve object ≡ false
    → bind (Tuple (row_of parts)) object no_bindings ≡ o
    → option_and_then (λ bindings. guarded (record { object = object; bindings = bindings }) (Cons guard guards) body) o ≡ None
unfolding bind
stopped_by None sieve parts guard guards body object n g s e f = refl
stopped_by (Some c) sieve parts guard guards body (Tuple us) n g s e f =
    stopped sieve guard guards body n us c g (element_bound parts us sieve.place n no_bindings c g.0 refl s f) e
stopped_by (Some c) sieve parts guard guards body object n g s e f = cc

-- A clause gives what doesn't pass no result.
pub clause_stops : (sieve : Sieve) (parts : List Tree) (head guard guards body object : Tree) (n : ℕ) → Tuple (row_of parts) ≡ head
    → IsGuardOf guard n sieve.orders (tree_of sieve.constant) → StandsAt parts n sieve.place → passes sieve object ≡ false
    → clause_result (Tuple (More head (More (Cons guard guards) (More body Ends)))) object ≡ None
clause_stops sieve parts head guard guards body object n h g s e =
    ap (λ (x : Tree). clause_result (Tuple (More x (More (Cons guard guards) (More body Ends)))) object) (sym h)
    ∙ stopped_by (bind (Tuple (row_of parts)) object no_bindings) sieve parts guard guards body object n g s e refl

-- So does a compiled one.
pub clause_sieve : (sieve : Sieve) (clause : Clause) (parts : List Tree) (guard : Tree) (others : List Tree) (n : ℕ) → Tuple (row_of parts) ≡ clause.head
    → clause.guards.items ≡ guard ∷ others → IsGuardOf guard n sieve.orders (tree_of sieve.constant) → StandsAt parts n sieve.place
    → (object : Tree) → passes sieve object ≡ false → clause_result (tree_of_clause clause) object ≡ None
clause_sieve sieve clause parts guard others n h f g s object e =
    ap (λ (x : List Tree). clause_result (Tuple (More clause.head (More (list_of x Nil) (More (Cons clause.body Nil) Ends)))) object) f
    ∙ clause_stops sieve parts clause.head guard (list_of others Nil) (Cons clause.body Nil) object n h g s e

only_clause : (clause : Clause) (others : List Clause) (object : Tree) → length others ≡ 0 → clause_result (tree_of_clause clause) object ≡ None
    → result_by (clause ∷ others) object ≡ None
unfolding result_of
only_clause clause [] object l e = ap (λ (x : Option Tree). option_or x None) e
only_clause clause (c ∷ cs) object l e = absurd (omega arith)

-- And so does a specification of that clause alone.
pub only_stops : (clauses others : List Clause) (clause : Clause) (source object : Tree) → list_of (trees_of_clauses clauses) Nil ≡ source
    → clauses ≡ clause ∷ others → length others ≡ 0 → clause_result (tree_of_clause clause) object ≡ None → result_of source object ≡ None
only_stops clauses others clause source object s f l e =
    ap (λ (x : Tree). result_of x object) (sym s) ∙ ap (λ (x : List Clause). result_by x object) f ∙ only_clause clause others object l e

-- ---- how a sieve is made

same_item : (ts : List Tree) (k : ℕ) (d e : Tree) → k < length ts → get_or ts k d ≡ get_or ts k e
same_item [] k d e h = absurd (omega arith)
same_item (t ∷ ts) zero d e h = refl
same_item (t ∷ ts) (suc k) d e h = same_item ts k d e (omega arith)

-- A variable that was found among the parts stands there.
pub place_found : (parts : List Tree) (k place n : ℕ) (part : Tree) → k < length parts → part ≡ get_or parts k part → place ≡ k
    → part ≡ Atom (variable_name n) → StandsAt parts n place
place_found parts k place n part h i p v =
    let l : place < length parts = omega (arith, p, h) in
    (l, same_item parts place Nil part l ∙ ap (λ (x : ℕ). get_or parts x part) p ∙ sym i ∙ v)

-- where a variable first stands among the parts from one on
abbrev pub place_from : ℕ → List Tree → ℕ → Option ℕ
place_from n parts k = option_map (λ place. place + k) (first_place n (drop k parts))

moved : (k : ℕ) (o : Option ℕ) → option_map (λ place. place + k) (option_map (λ place. place + 1) o) ≡ option_map (λ place. place + (k + 1)) o
moved k None = refl
moved k (Some p) = ap Some (omega arith)

same_place : (o : Option ℕ) → o ≡ option_map (λ place. place + 0) o
same_place None = refl
same_place (Some p) = ap Some (omega arith)

place_at : (n : ℕ) (parts : List Tree) (k : ℕ) (d : Tree) → k < length parts
    → place_from n parts k ≡ (if is_variable n (variable_in (get_or parts k d)) then Some k else place_from n parts (k + 1))
place_at n parts k d h = rw (add-one, drop-cons parts k d) (by (is_variable n (variable_in (get_or parts k d))))
  where
    by : (b : Bool) → option_map (λ place. place + k) (if b then Some 0 else option_map (λ place. place + 1) (first_place n (drop (suc k) parts)))
        ≡ (if b then Some k else option_map (λ place. place + suc k) (first_place n (drop (suc k) parts)))
    by true = ap Some (omega arith)
    by false = moved k (first_place n (drop (suc k) parts)) ∙ ap (λ (x : ℕ). option_map (λ place. place + x) (first_place n (drop (suc k) parts))) (omega arith)

-- At first all parts are left.
pub place_start : (n : ℕ) (parts : List Tree) → first_place n parts ≡ place_from n parts 0
place_start n parts = same_place (first_place n parts)

-- Where a part isn't the variable, those behind it are left.
pub place_next : (n : ℕ) (parts : List Tree) (k : ℕ) (part : Tree) (all : Option ℕ) (b : Bool) → k < length parts → part ≡ get_or parts k part
    → all ≡ place_from n parts k → b ≡ is_variable n (variable_in part) → b ≡ false → all ≡ place_from n parts (k + 1)
place_next n parts k part all b h i a v f =
    a ∙ place_at n parts k part h
    ∙ ap (λ (x : Bool). if x then Some k else place_from n parts (k + 1)) (ap (λ (x : Tree). is_variable n (variable_in x)) (sym i) ∙ sym v ∙ f)

-- Where it is, it's the first one.
pub place_here : (n : ℕ) (parts : List Tree) (k place : ℕ) (part : Tree) (all : Option ℕ) (b : Bool) → k < length parts → part ≡ get_or parts k part
    → all ≡ place_from n parts k → place ≡ k → b ≡ is_variable n (variable_in part) → b ≡ true → Some place ≡ all
place_here n parts k place part all b h i a p v t =
    ap Some p
    ∙ sym (a ∙ place_at n parts k part h
    ∙ ap (λ (x : Bool). if x then Some k else place_from n parts (k + 1)) (ap (λ (x : Tree). is_variable n (variable_in x)) (sym i) ∙ sym v ∙ t))

-- Behind the last part there is none.
pub place_none : (n : ℕ) (parts : List Tree) (k : ℕ) (all : Option ℕ) → length parts ≤ k → all ≡ place_from n parts k → None ≡ all
place_none n parts k all h a = sym (a ∙ ap (λ (x : List Tree). option_map (λ place. place + k) (first_place n x)) (drop_all k parts h))

-- The parts of a head, from the left.
pub ruleset places_in_order = (place_found, place_start, place_next, place_here, place_none)

-- A comparison of a variable with a constant is a guard as a sieve needs it.
pub guard_compares : (operator : Operator) (orders : Orders) (guard a b constant : Tree) (n : ℕ)
    → Tuple (More (Atom (name_of operator)) (More a (More b Ends))) ≡ guard → (n < 100) × (Atom (variable_name n) ≡ a)
    → ((s : Scene) → value s b ≡ Some constant) → Compares operator orders → IsGuardOf guard n orders constant
guard_compares operator orders guard a b constant n e v is compares = (
  v.0,
  λ s t bound_is.
      let first : value s a ≡ Some t = sym (variable_value s a n v.0 v.1) ∙ bound_is in
      sym (two_value s guard operator a b e) ∙ ap (λ (x : Option Tree). applied (meaning_of operator) (x ∷ value s b ∷ [])) first
      ∙ ap (λ (x : Option Tree). applied (meaning_of operator) (Some t ∷ x ∷ [])) (is s) ∙ compares t constant,
)

-- So is one of a constant with a variable, in the turned orders.
pub guard_turned : (operator : Operator) (orders back : Orders) (guard a b constant : Tree) (n : ℕ)
    → Tuple (More (Atom (name_of operator)) (More a (More b Ends))) ≡ guard → (n < 100) × (Atom (variable_name n) ≡ b)
    → ((s : Scene) → value s a ≡ Some constant) → Compares operator orders → ((o : Ordering) → has back o ≡ has orders (ordering_reverse o))
    → IsGuardOf guard n back constant
guard_turned operator orders back guard a b constant n e v is compares turns = (
  v.0,
  λ s t bound_is.
      let second : value s b ≡ Some t = sym (variable_value s b n v.0 v.1) ∙ bound_is in
      sym (two_value s guard operator a b e) ∙ ap (λ (x : Option Tree). applied (meaning_of operator) (x ∷ value s b ∷ [])) (is s)
      ∙ ap (λ (x : Option Tree). applied (meaning_of operator) (Some constant ∷ x ∷ [])) second ∙ compares constant t
      ∙ ap (λ (o : Ordering). Some (truth (has orders o))) (tree_flip constant t)
      ∙ ap (λ (p : Bool). Some (truth p)) (sym (turns (term_cmp t constant))),
)

-- the variable of a comparison, by what is told of its two sides
abbrev sides : Option ℕ → Bool → Option ℕ → Bool → Option ℕ
sides va cb vb ca = option_or (if cb then va else None) (if ca then vb else None)

compared_sides : (operator : Operator) (guard a b : Tree) (va vb : Option ℕ) (ca cb : Bool)
    → Tuple (More (Atom (name_of operator)) (More a (More b Ends))) ≡ guard → true ≡ is_comparison (name_of operator)
    → va ≡ variable_in a → vb ≡ variable_in b → ca ≡ is_constant a → cb ≡ is_constant b → sides va cb vb ca ≡ compared guard
compared_sides operator guard a b va vb ca cb e o f g h i =
    (λ j. sides (f j) (i j) (g j) (h j))
    ∙ ap (λ (x : Bool). if x then sides (variable_in a) (is_constant b) (variable_in b) (is_constant a) else None) o
    ∙ ap compared e

-- The variable stands first.
pub first_compared : (operator : Operator) (guard a b : Tree) (n : ℕ) → Tuple (More (Atom (name_of operator)) (More a (More b Ends))) ≡ guard
    → true ≡ is_comparison (name_of operator) → Some n ≡ variable_in a → true ≡ is_constant b → Some n ≡ compared guard
first_compared operator guard a b n e o f i = compared_sides operator guard a b (Some n) _ _ true e o f refl refl i

nothing : (b : Bool) (o : Option ℕ) → o ≡ option_or (if b then None else None) o
nothing true o = refl
nothing false o = refl

-- It stands second, or nowhere.
pub second_compared : (operator : Operator) (guard a b : Tree) (n : ℕ) → Tuple (More (Atom (name_of operator)) (More a (More b Ends))) ≡ guard
    → true ≡ is_comparison (name_of operator) → None ≡ variable_in a → Some n ≡ variable_in b → true ≡ is_constant a → Some n ≡ compared guard
second_compared operator guard a b n e o f g h =
    nothing (is_constant b) (Some n) ∙ compared_sides operator guard a b None (Some n) true _ e o f g h refl

pub nowhere : (operator : Operator) (guard a b : Tree) → Tuple (More (Atom (name_of operator)) (More a (More b Ends))) ≡ guard
    → true ≡ is_comparison (name_of operator) → None ≡ variable_in a → None ≡ variable_in b → None ≡ compared guard
nowhere operator guard a b e o f g = none (is_constant b) (is_constant a) ∙ compared_sides operator guard a b None None _ _ e o f g refl refl
  where
    none : (cb ca : Bool) → None ≡ sides None cb None ca
    none true true = refl
    none true false = refl
    none false true = refl
    none false false = refl

-- The value of a constant, by its code.
pub literal_is : (P : Type 0) (r : Option Part) (t e : Tree) → MatchOption r P (λ part. tree_of part ≡ t) → is_itself t ≡ true → t ≡ e
    → IfSome r (λ part. (s : Scene) → value s e ≡ Some (tree_of part))
literal_is P None t e m i f = tt
literal_is P (Some part) t e m i f = λ s. ap (value s) (sym f) ∙ sym (literal_value s t i) ∙ ap (λ (x : Tree). Some x) (sym m)

pub constant_is : (P : Type 0) (r : Option Part) (t e : Tree) → MatchOption r P (λ part. tree_of part ≡ t)
    → Tuple (More (Atom (codes "const")) (More t Ends)) ≡ e → IfSome r (λ part. (s : Scene) → value s e ≡ Some (tree_of part))
constant_is P None t e m f = tt
constant_is P (Some part) t e m f = λ s. sym (constant_value s e t f) ∙ ap (λ (x : Tree). Some x) (sym m)

-- ---- where there is a sieve

-- where a clause's comparison stands, by the number of its variable
abbrev compared_at : Tree → List Tree → Option ℕ → Option Compared
compared_at guard parts o =
    option_and_then (λ number. option_map (λ place. record { guard = guard; number = number; place = place }) (first_place number parts)) o

clause_compared : (clause : Clause) (parts : List Tree) (guard : Tree) (others : List Tree) → Tuple (row_of parts) ≡ clause.head
    → clause.guards.items ≡ guard ∷ others → compared_at guard parts (compared guard) ≡ compared_by (tree_of_clause clause)
clause_compared clause parts guard others h f =
    ap (λ (x : List Tree). compared_at guard x (compared guard)) (sym (elements_are parts))
    ∙ ap (λ (x : List Tree). compared_by (tree_of_parts (Tuple (row_of parts)) (list_of x Nil) (Cons clause.body Nil))) (sym f)
    ∙ ap (λ (x : Tree). compared_by (tree_of_parts x (list_of clause.guards.items Nil) (Cons clause.body Nil))) h

found_none : (o : Option Compared) (r : Option Sieve) → r ≡ None → None ≡ o → IsFound o r
found_none o r e n = subst (λ (x : Option Compared). IsFound x r) n e

head_compared : (head guards body : Tree) → false ≡ is_tuple head → None ≡ compared_by (tree_of_parts head guards body)
head_compared (Integer n) guards body e = refl
head_compared (Atom text) guards body e = refl
head_compared (Tuple row) guards body e = cc
head_compared Nil guards body e = refl
head_compared (Cons head tail) guards body e = refl
head_compared (Binary bytes) guards body e = refl

-- There is none where the head is no tuple, or there is no guard, or the first one is no comparison, or its variable is no part of the head.
pub no_head_found : (clause : Clause) (r : Option Sieve) → r ≡ None → false ≡ is_tuple clause.head → IsFound (compared_by (tree_of_clause clause)) r
no_head_found clause r e h = found_none _ r e (head_compared clause.head (list_of clause.guards.items Nil) (Cons clause.body Nil) h)

pub no_guard_found : (clause : Clause) (parts : List Tree) (r : Option Sieve) → r ≡ None → Tuple (row_of parts) ≡ clause.head
    → clause.guards.items ≡ [] → IsFound (compared_by (tree_of_clause clause)) r
no_guard_found clause parts r e h f =
    found_none _ r e (ap (λ (x : List Tree). compared_by (tree_of_parts (Tuple (row_of parts)) (list_of x Nil) (Cons clause.body Nil))) (sym f)
    ∙ ap (λ (x : Tree). compared_by (tree_of_parts x (list_of clause.guards.items Nil) (Cons clause.body Nil))) h)

pub no_comparison_found : (clause : Clause) (parts : List Tree) (guard : Tree) (others : List Tree) (r : Option Sieve) → r ≡ None
    → Tuple (row_of parts) ≡ clause.head → clause.guards.items ≡ guard ∷ others → None ≡ compared guard → IsFound (compared_by (tree_of_clause clause)) r
no_comparison_found clause parts guard others r e h f n =
    found_none _ r e (ap (compared_at guard parts) n ∙ clause_compared clause parts guard others h f)

pub no_place_found : (clause : Clause) (parts : List Tree) (guard : Tree) (others : List Tree) (n : ℕ) (r : Option Sieve) → r ≡ None
    → Tuple (row_of parts) ≡ clause.head → clause.guards.items ≡ guard ∷ others → Some n ≡ compared guard → None ≡ first_place n parts
    → IsFound (compared_by (tree_of_clause clause)) r
no_place_found clause parts guard others n r e h f c p =
    found_none _ r e (ap (λ (x : Option ℕ). option_map (λ place. record { guard = guard; number = n; place = place }) x) p
    ∙ ap (compared_at guard parts) c ∙ clause_compared clause parts guard others h f)

asked_first : (sieve : Sieve) (guard : Tree) (n : ℕ) → IsGuardOf guard n sieve.orders (tree_of sieve.constant)
    → IsFound (Some (record { guard = guard; number = n; place = sieve.place })) (Some sieve)
asked_first sieve guard n g = λ object scene e.
    ap (λ (x : Bool). nat_le (sieve.place + 1) (length (elements_of object)) && x)
    (sym (ap is_truth (g.1 scene (get_or (elements_of object) sieve.place Nil) e) ∙ truth_is _))

-- Else there is one, which asks that guard.
pub clause_found : (sieve : Sieve) (clause : Clause) (parts : List Tree) (guard : Tree) (others : List Tree) (n : ℕ) → Tuple (row_of parts) ≡ clause.head
    → clause.guards.items ≡ guard ∷ others → IsGuardOf guard n sieve.orders (tree_of sieve.constant) → Some n ≡ compared guard
    → Some sieve.place ≡ first_place n parts → IsFound (compared_by (tree_of_clause clause)) (Some sieve)
clause_found sieve clause parts guard others n h f g c p =
    subst (λ (x : Option Compared). IsFound x (Some sieve))
    (ap (λ (x : Option ℕ). option_map (λ place. record { guard = guard; number = n; place = place }) x) p
    ∙ ap (compared_at guard parts) c ∙ clause_compared clause parts guard others h f)
    (asked_first sieve guard n g)

first_by : (others : List Clause) (clause : Clause) → length others ≡ 0
    → compared_by (tree_of_clause clause) ≡ compared_first (list_of (trees_of_clauses (clause ∷ others)) Nil)
first_by [] clause l = refl
first_by (c ∷ cs) clause l = absurd (omega arith)

-- A specification of one clause is asked for its first guard.
pub only_found : (clauses others : List Clause) (clause : Clause) (source : Tree) (r : Option Sieve) → list_of (trees_of_clauses clauses) Nil ≡ source
    → clauses ≡ clause ∷ others → length others ≡ 0 → IsFound (compared_by (tree_of_clause clause)) r → IsFound (compared_first source) r
only_found clauses others clause source r s f l i =
    subst (λ (x : Option Compared). IsFound x r)
    (first_by others clause l ∙ ap (λ (x : List Clause). compared_first (list_of (trees_of_clauses x) Nil)) (sym f) ∙ ap compared_first s) i

no_first_by : (others : List Clause) (clause : Clause) → length others ≢ 0
    → None ≡ compared_first (list_of (trees_of_clauses (clause ∷ others)) Nil)
no_first_by [] clause l = absurd (l refl)
no_first_by (c ∷ cs) clause l = refl

-- One of more clauses, or of none, isn't.
pub more_found : (clauses others : List Clause) (clause : Clause) (source : Tree) (r : Option Sieve) → list_of (trees_of_clauses clauses) Nil ≡ source
    → clauses ≡ clause ∷ others → length others ≢ 0 → r ≡ None → IsFound (compared_first source) r
more_found clauses others clause source r s f l e =
    found_none _ r e
    (no_first_by others clause l ∙ ap (λ (x : List Clause). compared_first (list_of (trees_of_clauses x) Nil)) (sym f) ∙ ap compared_first s)

pub none_found : (clauses : List Clause) (source : Tree) (r : Option Sieve) → list_of (trees_of_clauses clauses) Nil ≡ source
    → clauses ≡ [] → r ≡ None → IsFound (compared_first source) r
none_found clauses source r s f e =
    found_none _ r e (ap (λ (x : List Clause). compared_first (list_of (trees_of_clauses x) Nil)) (sym f) ∙ ap compared_first s)

-- Where a clause has no sieve.
pub ruleset no_sieves = (no_head_found, no_guard_found, no_comparison_found, no_place_found)

-- Where a specification has one.
pub ruleset sieves_of_clauses = (only_stops, only_found, more_found, none_found)

-- ---- an object by its code

record AreElements (object : Tree) (count : ℕ) (inside : List Tree) : Type 0 where
  elements_is : elements_of object ≡ inside
  many : count ≡ length inside

opened_object : (object : Tree) (others items inside : List Tree) (count : ℕ) → object ∷ [] ≡ Tuple (row_of items) ∷ others → count ≡ length items
    → inside ≡ items ++ others → AreElements object count inside
opened_object object [] items inside count e m i =
    let same : inside ≡ items = i ∙ append-nil items in
    record {
      elements_is = ap (λ (x : List Tree). elements_of (first x)) e ∙ elements_are items ∙ sym same;
      many = m ∙ ap length (sym same);
    }
opened_object object (o ∷ os) items inside count e m i = cc

are_elements : (object : Tree) (terms inside : List Tree) (count : ℕ) → terms ≡ object ∷ [] → IsOpened terms count inside → AreElements object count inside
are_elements object terms inside count t o = opened_object object o.others o.items inside count (sym t ∙ o.terms_are) o.many o.inside_is

abbrev passes_by : Sieve → List Tree → Bool
passes_by sieve inside =
    nat_le (sieve.place + 1) (length inside) && has sieve.orders (term_cmp (get_or inside sieve.place Nil) (tree_of sieve.constant))

few : (m n : ℕ) → n < m → nat_le m n ≡ false
few m n h = grind (arith, nat_tests)

there : (m n : ℕ) → m ≤ n → nat_le m n ≡ true
there m n h = grind (arith, nat_tests)

short_by : (sieve : Sieve) (inside : List Tree) → length inside ≤ sieve.place → passes_by sieve inside ≡ false
short_by sieve inside l =
    ap (λ (x : Bool). x && has sieve.orders (term_cmp (get_or inside sieve.place Nil) (tree_of sieve.constant)))
    (few (sieve.place + 1) (length inside) (omega (arith, l)))

-- A tuple with too few elements does not pass, nor does another term.
pub too_few : (sieve : Sieve) (object : Tree) (terms inside : List Tree) (count : ℕ) → terms ≡ object ∷ [] → IsOpened terms count inside
    → count ≤ sieve.place → false ≡ passes sieve object
too_few sieve object terms inside count t o l =
    let are = are_elements object terms inside count t o in
    sym (ap (passes_by sieve) are.elements_is ∙ short_by sieve inside (omega (arith, are.many, l)))

pub no_elements : (sieve : Sieve) (object : Tree) (terms : List Tree) → terms ≡ object ∷ [] → HasNoTuple terms → false ≡ passes sieve object
no_elements sieve (Integer n) terms t h = sym (short_by sieve [] (omega arith))
no_elements sieve (Atom text) terms t h = sym (short_by sieve [] (omega arith))
no_elements sieve (Tuple row) terms t h = absurd (h row [] t)
no_elements sieve Nil terms t h = sym (short_by sieve [] (omega arith))
no_elements sieve (Cons head tail) terms t h = sym (short_by sieve [] (omega arith))
no_elements sieve (Binary bytes) terms t h = sym (short_by sieve [] (omega arith))

item_is : (ts others : List Tree) (k : ℕ) (u : Tree) → drop k ts ≡ u ∷ others → (k < length ts) × (get_or ts k Nil ≡ u)
item_is [] others zero u e = cc
item_is [] others (suc k) u e = cc
item_is (t ∷ ts) others zero u e = (omega arith, ap first e)
item_is (t ∷ ts) others (suc k) u e = let rest = item_is ts others k u e in (omega (arith, rest.0), rest.1)

-- One with the element passes as the element says, which stands first among those that are left.
pub element_passes : (sieve : Sieve) (object : Tree) (terms inside left : List Tree) (count k : ℕ) (o : Ordering) (r : Bool) → terms ≡ object ∷ []
    → IsOpened terms count inside → left ≡ drop k inside → k ≡ sieve.place → 1 ≤ length left
    → ((u : Tree) (others : List Tree) → left ≡ u ∷ others → o ≡ term_cmp u (tree_of sieve.constant))
    → r ≡ has sieve.orders o → r ≡ passes sieve object
element_passes sieve object terms inside [] count k o r t i d p l f g = absurd (omega (arith, l))
element_passes sieve object terms inside (u ∷ others) count k o r t i d p l f g =
    let are = are_elements object terms inside count t i in
    let at = item_is inside others sieve.place u (ap (λ (x : ℕ). drop x inside) (sym p) ∙ sym d) in
    let yes : nat_le (sieve.place + 1) (length inside) ≡ true = there (sieve.place + 1) (length inside) (omega (arith, at.0)) in
    g ∙ ap (has sieve.orders) (f u others refl)
    ∙ sym (ap (passes_by sieve) are.elements_is
    ∙ ap (λ (x : Bool). x && has sieve.orders (term_cmp (get_or inside sieve.place Nil) (tree_of sieve.constant))) yes
    ∙ ap (λ (x : Tree). has sieve.orders (term_cmp x (tree_of sieve.constant))) at.1)
