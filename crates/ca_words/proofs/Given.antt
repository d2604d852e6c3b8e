-- What the rows of `clap` give the options.
use Rattle.std.proofs.Common.{◌≡◌, ◌⊎◌, ℕ, Bool, true, false, List, [], ◌∷◌, ◌++◌, Option, Some, None, refl, sym, arith, ap, ◌∙◌, subst, inl, inr}
use Rattle.std.proofs.lemmas.Bool.Decides.{nat_tests}
use Rattle.std.proofs.lemmas.Grind.{common_steps}
use Rattle.std.specs.Prelude.{codes, ◌&&◌, ◌||◌, nat_le, is_some, option_map, option_and_then}
use Rattle.std.specs.Str.{bytes_eq}
use Rattle.clap.specs.Walk.{Row, Text, first_of, has_row, more_values, with_default}
use Rattle.clap.specs.declared.parser.matches.ValueSource.TheVariants.{DefaultValue}
use Rattle.ca_words.specs.declared.words.Name.{Name}
use Rattle.ca_words.specs.declared.words.Name.TheVariants.{Keypos, Seed, Clients, Lines, Rows, Levels, Leaf, High, Low, Calm, Heat}
use Rattle.ca_words.specs.declared.options.Options.{Options}
use Rattle.ca_words.specs.declared.tree.TreeOptions.{TreeOptions}
use Rattle.ca_words.specs.Grammar.{Values, IsValue, begins_with_dash, least_of, most_of, no_values, number_after, value_named, with_flag, with_named}
use Rattle.ca_words.specs.Words.{bare, flag, given_in, is_flagged, is_option, is_value, tree_in, value_in, value_told}
use Rattle.ca_words.proofs.Choices.{tested}
use Rattle.ca_words.proofs.Rows.{at_end, filled_flag, flag_row, found_before, found_behind, has_row_more, none_found, row}

-- ---- values

-- a value that is read is one of the grammar
pub value_is : (name : Name) (text : Text) (value : ℕ) → value_in name text ≡ Some value → IsValue name text value
value_is name text value h =
    let t = tested (is_value text && nat_le (least_of name) (number_after 0 text) && nat_le (number_after 0 text) (most_of name))
    (number_after 0 text) value h in
    record {
      some = grind (t.0, arith, nat_tests, common_steps);
      few = grind (t.0, arith, nat_tests, common_steps);
      digits = grind (t.0, arith, common_steps);
      number = t.1;
      least = grind (t.0, t.1, arith, nat_tests, common_steps);
      most = grind (t.0, t.1, arith, nat_tests, common_steps);
    }

-- a value of the grammar is read as its number
pub value_read : (name : Name) (text : Text) (value : ℕ) → IsValue name text value → value_in name text ≡ Some value
value_read name text value v = grind (v.some, v.few, v.digits, v.number, v.least, v.most, arith, nat_tests, common_steps)

-- and begins with a digit
pub value_undashed : (name : Name) (text : Text) (value : ℕ) → IsValue name text value → begins_with_dash text ≡ false
value_undashed name [] value v = refl
value_undashed name (b ∷ bytes) value v = grind (v.digits, arith, nat_tests, common_steps)

-- a word without a dash is no option
pub not_option : (text : Text) → begins_with_dash text ≡ false → is_option text ≡ false
not_option [] d = refl
not_option (a ∷ []) d = refl
not_option (a ∷ b ∷ []) d = refl
not_option (a ∷ b ∷ c ∷ text) d = rw d refl

-- ---- the options

-- the values as the grammar has them, and back
abbrev pub values_of : Options → Values
values_of given = record { keypos = given.keypos; seed = given.seed; clients = given.clients; lines = given.lines; tree = given.tree }

abbrev pub options_of : Values → Options
options_of given = record { keypos = given.keypos; seed = given.seed; clients = given.clients; lines = given.lines; tree = given.tree }

-- a name is its own
pub same_bare : (name : Name) → bytes_eq (bare name) (bare name) ≡ true
same_bare Keypos = refl
same_bare Seed = refl
same_bare Clients = refl
same_bare Lines = refl
same_bare Rows = refl
same_bare Levels = refl
same_bare Leaf = refl
same_bare High = refl
same_bare Low = refl
same_bare Calm = refl
same_bare Heat = refl

-- a value that is set is there
pub set_named : (given : Values) (name : Name) (value : ℕ) → value_named (with_named given name value) name ≡ Some value
set_named given Keypos value = refl
set_named given Seed value = refl
set_named given Clients value = refl
set_named given Lines value = refl
set_named given Rows value = refl
set_named given Levels value = refl
set_named given Leaf value = refl
set_named given High value = refl
set_named given Low value = refl
set_named given Calm value = refl
set_named given Heat value = refl

-- another option has another name, and keeps its value
abbrev pub IsOther : Name → Name → Type 0
IsOther name other = (bytes_eq (bare name) (bare other) ≡ false)
    × ((given : Values) (value : ℕ) → value_named (with_named given name value) other ≡ value_named given other)

pub same_or_other : (name other : Name) → (name ≡ other) ⊎ IsOther name other
same_or_other Keypos Keypos = inl refl
same_or_other Keypos other = inr (refl, λ given value. refl)
same_or_other Seed Seed = inl refl
same_or_other Seed other = inr (refl, λ given value. refl)
same_or_other Clients Clients = inl refl
same_or_other Clients other = inr (refl, λ given value. refl)
same_or_other Lines Lines = inl refl
same_or_other Lines other = inr (refl, λ given value. refl)
same_or_other Rows Rows = inl refl
same_or_other Rows other = inr (refl, λ given value. refl)
same_or_other Levels Levels = inl refl
same_or_other Levels other = inr (refl, λ given value. refl)
same_or_other Leaf Leaf = inl refl
same_or_other Leaf other = inr (refl, λ given value. refl)
same_or_other High High = inl refl
same_or_other High other = inr (refl, λ given value. refl)
same_or_other Low Low = inl refl
same_or_other Low other = inr (refl, λ given value. refl)
same_or_other Calm Calm = inl refl
same_or_other Calm other = inr (refl, λ given value. refl)
same_or_other Heat Heat = inl refl
same_or_other Heat other = inr (refl, λ given value. refl)

same_trees : (a b : TreeOptions) → a.rows ≡ b.rows → a.levels ≡ b.levels → a.leaf ≡ b.leaf → a.high ≡ b.high → a.low ≡ b.low → a.calm ≡ b.calm
    → a.heat ≡ b.heat → a.shape ≡ b.shape → a ≡ b
same_trees a b rows levels leaf high low calm heat shape =
    ap (λ v. record { rows = v; levels = a.levels; leaf = a.leaf; high = a.high; low = a.low; calm = a.calm; heat = a.heat; shape = a.shape }) rows
    ∙ ap (λ v. record { rows = b.rows; levels = v; leaf = a.leaf; high = a.high; low = a.low; calm = a.calm; heat = a.heat; shape = a.shape }) levels
    ∙ ap (λ v. record { rows = b.rows; levels = b.levels; leaf = v; high = a.high; low = a.low; calm = a.calm; heat = a.heat; shape = a.shape }) leaf
    ∙ ap (λ v. record { rows = b.rows; levels = b.levels; leaf = b.leaf; high = v; low = a.low; calm = a.calm; heat = a.heat; shape = a.shape }) high
    ∙ ap (λ v. record { rows = b.rows; levels = b.levels; leaf = b.leaf; high = b.high; low = v; calm = a.calm; heat = a.heat; shape = a.shape }) low
    ∙ ap (λ v. record { rows = b.rows; levels = b.levels; leaf = b.leaf; high = b.high; low = b.low; calm = v; heat = a.heat; shape = a.shape }) calm
    ∙ ap (λ v. record { rows = b.rows; levels = b.levels; leaf = b.leaf; high = b.high; low = b.low; calm = b.calm; heat = v; shape = a.shape }) heat
    ∙ ap (λ v. record { rows = b.rows; levels = b.levels; leaf = b.leaf; high = b.high; low = b.low; calm = b.calm; heat = b.heat; shape = v }) shape

-- values that are the same for each option are the same
pub same_values : (a b : Values) → ((name : Name) → value_named a name ≡ value_named b name) → a.tree.shape ≡ b.tree.shape → a ≡ b
same_values a b same shape =
    ap (λ v. record { keypos = v; seed = a.seed; clients = a.clients; lines = a.lines; tree = a.tree }) (same Keypos)
    ∙ ap (λ v. record { keypos = b.keypos; seed = v; clients = a.clients; lines = a.lines; tree = a.tree }) (same Seed)
    ∙ ap (λ v. record { keypos = b.keypos; seed = b.seed; clients = v; lines = a.lines; tree = a.tree }) (same Clients)
    ∙ ap (λ v. record { keypos = b.keypos; seed = b.seed; clients = b.clients; lines = v; tree = a.tree }) (same Lines)
    ∙ ap (λ v. record { keypos = b.keypos; seed = b.seed; clients = b.clients; lines = b.lines; tree = v })
    (same_trees a.tree b.tree (same Rows) (same Levels) (same Leaf) (same High) (same Low) (same Calm) (same Heat) shape)

-- ---- rows and values

-- the texts of the rows are these values
abbrev pub Hold : List Row → Values → Type 0
Hold rows given = (name : Name) → value_told name (first_of (bare name) rows) ≡ Some (value_named given name)

-- no rows give no values
pub none_hold : Hold [] no_values
none_hold Keypos = refl
none_hold Seed = refl
none_hold Clients = refl
none_hold Lines = refl
none_hold Rows = refl
none_hold Levels = refl
none_hold Leaf = refl
none_hold High = refl
none_hold Low = refl
none_hold Calm = refl
none_hold Heat = refl

-- the option of the last row is found there
pub found_here : (name : Name) (text : Text) (rows more : List Row) → has_row (bare name) rows ≡ false
    → first_of (bare name) (rows ++ row name text ∷ more) ≡ Some text
found_here name text rows more fresh = found_behind (bare name) rows (row name text ∷ more) fresh ∙ rw (same_bare name) refl

-- the row of one more option gives its value
pub hold_more : (rows : List Row) (given : Values) (name : Name) (text : Text) (value : ℕ) → has_row (bare name) rows ≡ false
    → value_in name text ≡ Some value → Hold rows given → Hold (rows ++ row name text ∷ []) (with_named given name value)
hold_more rows given name text value fresh read hold other = elim (same_or_other name other) [
  | inl same ↦ subst (λ n. value_told n (first_of (bare n) (rows ++ row name text ∷ [])) ≡ Some (value_named (with_named given name value) n)) same
      (ap (value_told name) (found_here name text rows [] fresh) ∙ ap (option_map (λ v. Some v)) read ∙ ap (λ o. Some o) (sym (set_named given name value)))
  | inr o ↦ ap (value_told other) (found_before (bare other) rows (row name text) o.0) ∙ hold other ∙ ap (λ v. Some v) (sym (o.1 given value))
]

inner : {X : Type 0} {a b : X} → Some a ≡ Some b → a ≡ b
inner h = cc

-- an option without a row has no value
pub not_given : (rows : List Row) (given : Values) (name : Name) → Hold rows given → has_row (bare name) rows ≡ false → value_named given name ≡ None
not_given rows given name hold fresh =
    let same : Some None ≡ Some (value_named given name) = sym (ap (value_told name) (none_found (bare name) rows fresh)) ∙ hold name in
    sym (inner same)

-- an option has a row where it has a value
abbrev pub AreSame : List Row → Values → Type 0
AreSame rows given = (name : Name) → has_row (bare name) rows ≡ is_some (value_named given name)

pub none_same : AreSame [] no_values
none_same Keypos = refl
none_same Seed = refl
none_same Clients = refl
none_same Lines = refl
none_same Rows = refl
none_same Levels = refl
none_same Leaf = refl
none_same High = refl
none_same Low = refl
none_same Calm = refl
none_same Heat = refl

or_true : (a : Bool) → (a || true) ≡ true
or_true true = refl
or_true false = refl

or_false : (a : Bool) → (a || false) ≡ a
or_false true = refl
or_false false = refl

-- one more option
pub same_more : (rows : List Row) (given : Values) (name : Name) (text : Text) (value : ℕ) → AreSame rows given
    → AreSame (rows ++ row name text ∷ []) (with_named given name value)
same_more rows given name text value same other = elim (same_or_other name other) [
  | inl e ↦ subst (λ n. has_row (bare n) (rows ++ row name text ∷ []) ≡ is_some (value_named (with_named given name value) n)) e
      (has_row_more (bare name) rows (row name text) ∙ ap (λ b. has_row (bare name) rows || b) (same_bare name) ∙ or_true (has_row (bare name) rows)
      ∙ ap is_some (sym (set_named given name value)))
  | inr o ↦ has_row_more (bare other) rows (row name text) ∙ ap (λ b. has_row (bare other) rows || b) o.0 ∙ or_false (has_row (bare other) rows)
      ∙ same other ∙ ap is_some (sym (o.1 given value))
]

-- ---- the option without a value

not_flag : (name : Name) → bytes_eq (bare name) flag ≡ false
not_flag Keypos = refl
not_flag other = refl

flag_not : (name : Name) → bytes_eq flag (bare name) ≡ false
flag_not Keypos = refl
flag_not other = refl

shape_stays : (given : Values) (name : Name) (value : ℕ) → (with_named given name value).tree.shape ≡ given.tree.shape
shape_stays given Keypos value = refl
shape_stays given other value = refl

pub values_stay : (given : Values) (name : Name) → value_named (with_flag given) name ≡ value_named given name
values_stay given Keypos = refl
values_stay given other = refl

-- the rows tell whether it was given
abbrev pub Flags : List Row → Values → Type 0
Flags rows given = is_flagged (first_of flag rows) ≡ given.tree.shape

-- it has a row where it was given
abbrev pub IsSameFlag : List Row → Values → Type 0
IsSameFlag rows given = has_row flag rows ≡ given.tree.shape

pub flags_more : (rows : List Row) (given : Values) (name : Name) (text : Text) (value : ℕ) → Flags rows given
    → Flags (rows ++ row name text ∷ []) (with_named given name value)
flags_more rows given name text value flags =
    ap is_flagged (found_before flag rows (row name text) (not_flag name)) ∙ flags ∙ sym (shape_stays given name value)

pub flags_on : (rows : List Row) (given : Values) → has_row flag rows ≡ false → Flags (rows ++ flag_row ∷ []) (with_flag given)
flags_on rows given fresh = ap is_flagged (found_behind flag rows (flag_row ∷ []) fresh)

-- without a row it wasn't given
pub not_flagged : (rows : List Row) (given : Values) → Flags rows given → has_row flag rows ≡ false → given.tree.shape ≡ false
not_flagged rows given flags fresh = sym flags ∙ ap is_flagged (none_found flag rows fresh)

pub hold_flag : (rows : List Row) (given : Values) → Hold rows given → Hold (rows ++ flag_row ∷ []) (with_flag given)
hold_flag rows given hold name =
    ap (value_told name) (found_before (bare name) rows flag_row (flag_not name)) ∙ hold name ∙ ap (λ v. Some v) (sym (values_stay given name))

pub same_flag : (rows : List Row) (given : Values) → AreSame rows given → AreSame (rows ++ flag_row ∷ []) (with_flag given)
same_flag rows given same name =
    has_row_more (bare name) rows flag_row ∙ ap (λ b. has_row (bare name) rows || b) (flag_not name) ∙ or_false (has_row (bare name) rows)
    ∙ same name ∙ ap is_some (sym (values_stay given name))

pub flag_same_more : (rows : List Row) (given : Values) (name : Name) (text : Text) (value : ℕ) → IsSameFlag rows given
    → IsSameFlag (rows ++ row name text ∷ []) (with_named given name value)
flag_same_more rows given name text value same =
    has_row_more flag rows (row name text) ∙ ap (λ b. has_row flag rows || b) (not_flag name) ∙ or_false (has_row flag rows)
    ∙ same ∙ sym (shape_stays given name value)

pub flag_same_on : (rows : List Row) (given : Values) → IsSameFlag (rows ++ flag_row ∷ []) (with_flag given)
flag_same_on rows given = has_row_more flag rows flag_row ∙ or_true (has_row flag rows)

abbrev default_row : Row
default_row = record flag_row { values = codes "false" ∷ []; source = Some DefaultValue }

default_added : (rows : List Row) → has_row flag rows ≡ false → with_default rows filled_flag ≡ rows ++ default_row ∷ []
default_added rows fresh = rw fresh (at_end flag (more_values DefaultValue (codes "false" ∷ [])) (default_row ∷ []) rows fresh)

-- its default changes nothing of the others
pub default_keeps : (rows : List Row) (name : Name) → first_of (bare name) (with_default rows filled_flag) ≡ first_of (bare name) rows
default_keeps rows name = by (has_row flag rows) refl
  where
    by : (b : Bool) → has_row flag rows ≡ b → first_of (bare name) (with_default rows filled_flag) ≡ first_of (bare name) rows
    by true e = rw e refl
    by false e = ap (first_of (bare name)) (default_added rows e) ∙ found_before (bare name) rows default_row (flag_not name)

-- and is told as if it weren't there
pub default_flags : (rows : List Row) → is_flagged (first_of flag (with_default rows filled_flag)) ≡ is_flagged (first_of flag rows)
default_flags rows = by (has_row flag rows) refl
  where
    by : (b : Bool) → has_row flag rows ≡ b → is_flagged (first_of flag (with_default rows filled_flag)) ≡ is_flagged (first_of flag rows)
    by true e = rw e refl
    by false e =
        ap (λ r. is_flagged (first_of flag r)) (default_added rows e) ∙ ap is_flagged (found_behind flag rows (default_row ∷ []) e)
        ∙ sym (ap is_flagged (none_found flag rows e))

-- ---- all values at once

abbrev IsTree : (Name → Option (Option ℕ)) → Bool → TreeOptions → Type 0
IsTree told shown tree = (told Rows ≡ Some tree.rows) × (told Levels ≡ Some tree.levels) × (told Leaf ≡ Some tree.leaf) × (told High ≡ Some tree.high)
    × (told Low ≡ Some tree.low) × (told Calm ≡ Some tree.calm) × (told Heat ≡ Some tree.heat) × (shown ≡ tree.shape)

-- where a chain of values gives a value, its first one is there, and the rest gives it
bound : {X Y : Type 0} (found : Option X) (rest : X → Option Y) (there : Y) → option_and_then rest found ≡ Some there
    → (x : X) × (found ≡ Some x) × (rest x ≡ Some there)
bound None rest there h = absurd cc
bound (Some x) rest there h = (x, refl, h)

tree_told : (texts : Name → Option Text) (shown : Option Text) (tree : TreeOptions) → tree_in texts shown ≡ Some tree
    → IsTree (λ name. value_told name (texts name)) (is_flagged shown) tree
tree_told texts shown tree h =
    let a = bound (value_told Rows (texts Rows)) _ tree h in
    let b = bound (value_told Levels (texts Levels)) _ tree a.2 in
    let c = bound (value_told Leaf (texts Leaf)) _ tree b.2 in
    let d = bound (value_told High (texts High)) _ tree c.2 in
    let e = bound (value_told Low (texts Low)) _ tree d.2 in
    let f = bound (value_told Calm (texts Calm)) _ tree e.2 in
    let g = bound (value_told Heat (texts Heat)) _ tree f.2 in
    let same = inner g.2 in (
      a.1 ∙ ap (λ t. Some t.rows) same,
      b.1 ∙ ap (λ t. Some t.levels) same,
      c.1 ∙ ap (λ t. Some t.leaf) same,
      d.1 ∙ ap (λ t. Some t.high) same,
      e.1 ∙ ap (λ t. Some t.low) same,
      f.1 ∙ ap (λ t. Some t.calm) same,
      g.1 ∙ ap (λ t. Some t.heat) same,
      ap (λ t. t.shape) same,
    )

-- where all texts are values, the rows give them
pub given_told : (rows : List Row) (given : Options) → given_in (λ name. first_of (bare name) rows) (first_of flag rows) ≡ Some given
    → Hold rows (values_of given) × Flags rows (values_of given)
given_told rows given h =
    let texts : Name → Option Text = λ name. first_of (bare name) rows in
    let a = bound (value_told Keypos (texts Keypos)) _ given h in
    let b = bound (value_told Seed (texts Seed)) _ given a.2 in
    let c = bound (value_told Clients (texts Clients)) _ given b.2 in
    let d = bound (value_told Lines (texts Lines)) _ given c.2 in
    let e = bound (tree_in texts (first_of flag rows)) _ given d.2 in
    let same = inner e.2 in
    let tree = tree_told texts (first_of flag rows) given.tree (e.1 ∙ ap (λ g. Some g.tree) same) in (
      by (a.1 ∙ ap (λ g. Some g.keypos) same) (b.1 ∙ ap (λ g. Some g.seed) same) (c.1 ∙ ap (λ g. Some g.clients) same) (d.1 ∙ ap (λ g. Some g.lines) same) tree,
      tree.7,
    )
  where
    told : Name → Option (Option ℕ)
    told name = value_told name (first_of (bare name) rows)

    by : told Keypos ≡ Some given.keypos → told Seed ≡ Some given.seed → told Clients ≡ Some given.clients → told Lines ≡ Some given.lines
        → IsTree told (is_flagged (first_of flag rows)) given.tree → (name : Name) → told name ≡ Some (value_named (values_of given) name)
    by a b c d t Keypos = a
    by a b c d t Seed = b
    by a b c d t Clients = c
    by a b c d t Lines = d
    by a b c d t Rows = t.0
    by a b c d t Levels = t.1
    by a b c d t Leaf = t.2
    by a b c d t High = t.3
    by a b c d t Low = t.4
    by a b c d t Calm = t.5
    by a b c d t Heat = t.6

tree_read : (rows : List Row) (given : Values) → Hold rows given → Flags rows given
    → tree_in (λ name. first_of (bare name) rows) (first_of flag rows) ≡ Some given.tree
tree_read rows given hold flags = rw (hold Rows, hold Levels, hold Leaf, hold High, hold Low, hold Calm, hold Heat, flags) refl

-- what the rows give is what is read of them
pub given_read : (rows : List Row) (given : Values) → Hold rows given → Flags rows given
    → given_in (λ name. first_of (bare name) rows) (first_of flag rows) ≡ Some (options_of given)
given_read rows given hold flags = rw (hold Keypos, hold Seed, hold Clients, hold Lines, tree_read rows given hold flags) refl
