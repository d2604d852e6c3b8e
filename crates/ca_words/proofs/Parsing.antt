-- The walk of `clap` over words of options, step by step.
use Rattle.std.proofs.Common.{◌≡◌, ◌⊎◌, ℕ, Bool, true, false, suc, List, [], ◌∷◌, ◌++◌, ◌+◌, map, take, drop, Option, Some, None, refl, sym, ap, ap₂, ◌∙◌, subst, inl, inr, arith}
use Rattle.std.proofs.lemmas.Bool.Decides.{nat_tests}
use Rattle.std.proofs.lemmas.Grind.{common_steps}
use Rattle.std.specs.Cmp.Lexicographic.{bytes_decides}
use Rattle.std.specs.Prelude.{◌==◌, codes, if◌then◌else◌}
use Rattle.std.specs.List.{fold, before_first, after_first, position_or_len}
use Rattle.std.specs.Str.{bytes_eq}
use Rattle.clap.specs.Lexer.{has_byte, name_and_value}
use Rattle.clap.specs.Kinds.{Kinds, or_else}
use Rattle.clap.specs.Walk.{Held, Row, Rule, Text, Waiting, Walk, arg_by_long, finished, has_row, idle, option, positional, settled, used, walked, with_default}
use Rattle.clap.specs.Simple.{Shape, built}
use Rattle.clap.specs.Faults.{check_fault, default_fault, defaults_fault, entered_fault, fault_of, long_fault, react_fault, settle_fault, turn_fault, use_fault, walk_fault}
use Rattle.clap.specs.Words.{matches_of}
use Rattle.clap.specs.declared.error.kind.ErrorKind.TheVariants.{ArgumentConflict}
use Rattle.ca_words.specs.declared.words.Name.{Name}
use Rattle.ca_words.specs.declared.words.Name.TheVariants.{Keypos, Seed, Clients, Lines, Rows, Levels, Leaf, High, Low, Calm, Heat}
use Rattle.ca_words.specs.Grammar.{begins_with_dash, flag_spelling, spelling_of}
use Rattle.ca_words.specs.Words.{all_names, bare, command, flag, is_option}
use Rattle.ca_words.proofs.Rows.{filled_flag, filled_rule}

-- the command as `clap` builds it
abbrev pub shape : Shape
shape = (built command).top

-- the options as it builds them
abbrev pub rules : List Rule
rules = shape.rules

-- between two words
abbrev pub between : Held → Waiting → Walk
between held waiting = record { held = held; waiting = waiting; position = 1; is_trailing = false; stopped = None }

-- rows, and what is pending
abbrev pub held_of : List Row → Option (Text × List Text) → Held
held_of rows pending = record { rows = rows; pending = pending; skip = 0 }

-- these rows, and nothing pending
abbrev pub clean : List Row → Walk
clean rows = between (held_of rows None) idle

-- behind an option without its value
abbrev pub wanting : Name → List Row → Walk
wanting name rows = between (held_of rows (Some (bare name, []))) (option (bare name))

-- behind the value of an option, which was not used yet
abbrev pub holding : Name → Text → List Row → Walk
holding name text rows = between (held_of rows (Some (bare name, text ∷ []))) idle

-- what is held behind the words
abbrev pub end_of : Walk → List Text → Held
end_of w words = (fold (walked rules []) w words).held

-- what fails on the words, and at their end
abbrev pub faults : Walk → List Text → Kinds
faults w words = or_else (walk_fault shape [] w words) (settle_fault rules false (end_of w words))

-- the rows at their end
abbrev pub rows_at_end : Walk → List Text → List Row
rows_at_end w words = (settled rules (end_of w words)).rows

-- ---- faults in turn

-- behind the first nothing fails
pub or_nil : (a : Kinds) → or_else a [] ≡ a
or_nil [] = refl
or_nil (k ∷ ks) = refl

-- where nothing fails, the first doesn't
pub or_first : (a b : Kinds) → or_else a b ≡ [] → a ≡ []
or_first [] b h = refl
or_first (k ∷ ks) b h = h

-- ---- before the words and behind them

kept_by : (b : Bool) (rows : List Row) → (if b then rows else rows) ≡ rows
kept_by true rows = refl
kept_by false rows = refl

kept : (name : Name) (rows : List Row) → with_default rows (filled_rule name) ≡ rows
kept name rows = kept_by (has_row (bare name) rows) rows

all_kept : (names : List Name) (rows : List Row)
    → fold with_default rows (map filled_rule names ++ filled_flag ∷ []) ≡ with_default rows filled_flag
all_kept [] rows = refl
all_kept (name ∷ names) rows = ap (λ r. fold with_default r (map filled_rule names ++ filled_flag ∷ [])) (kept name rows) ∙ all_kept names rows

no_default : (name : Name) (rows : List Row) → default_fault rows (filled_rule name) ≡ []
no_default name rows = go (has_row (bare name) rows) refl
  where
    go : (b : Bool) → has_row (bare name) rows ≡ b → default_fault rows (filled_rule name) ≡ []
    go true e = rw e refl
    go false e = rw e refl

flag_default : (rows : List Row) → default_fault rows filled_flag ≡ []
flag_default rows = go (has_row flag rows) refl
  where
    go : (b : Bool) → has_row flag rows ≡ b → default_fault rows filled_flag ≡ []
    go true e = rw e refl
    go false e = rw e refl

no_defaults : (names : List Name) (rows : List Row) → defaults_fault rows (map filled_rule names ++ filled_flag ∷ []) ≡ []
unfolding defaults_fault
no_defaults [] rows = ap (λ k. or_else k []) (flag_default rows)
no_defaults (name ∷ names) rows =
    ap₂ or_else (no_default name rows) (ap (λ r. defaults_fault r (map filled_rule names ++ filled_flag ∷ [])) (kept name rows) ∙ no_defaults names rows)

not_entered : (stop : Option (Text × List Text)) → entered_fault (built command) stop ≡ []
not_entered None = refl
not_entered (Some p) = refl

not_checked : (rows : List Row) (entered : Bool) → check_fault shape rows entered ≡ []
not_checked rows true = refl
not_checked rows false = refl

in_turn : (walk below settle defaults check : Kinds) → below ≡ [] → defaults ≡ [] → check ≡ []
    → or_else walk (or_else below (or_else settle (or_else defaults check))) ≡ or_else walk settle
in_turn walk below settle defaults check b d c = rw (b, d, c) (ap (or_else walk) (or_nil settle))

-- only the walk and its end fail
pub fault_is : (words : List Text) → fault_of command words ≡ faults (clean []) words
fault_is words =
    in_turn (walk_fault shape [] (clean []) words) _ (settle_fault rules false (end_of (clean []) words)) _ _ (not_entered _)
    (no_defaults all_names (rows_at_end (clean []) words)) (not_checked (finished rules (end_of (clean []) words)) _)

-- the matches are the rows at the end, with the default of the option without a value
pub matches_are : (words : List Text) → matches_of command words ≡ with_default (rows_at_end (clean []) words) filled_flag
matches_are words = all_kept all_names (rows_at_end (clean []) words)

-- ---- one step

-- at the end what is pending is used
pub at_end_alone : (w : Walk) → faults w [] ≡ settle_fault rules false w.held
unfolding walk_fault
at_end_alone w = refl

-- a word that passes
pub step : (w after : Walk) (word : Text) (words : List Text) → turn_fault shape [] w word ≡ [] → walked rules [] w word ≡ after
    → (faults w (word ∷ words) ≡ faults after words) × (rows_at_end w (word ∷ words) ≡ rows_at_end after words)
unfolding walk_fault
step w after word words passes goes = (
  ap₂ (λ t v. or_else (or_else t (walk_fault shape [] v words)) (settle_fault rules false (end_of v words))) passes goes,
  ap (λ v. rows_at_end v words) goes,
)

-- from two places whose next word does the same
pub alike : (w v : Walk) (word : Text) (words : List Text) → turn_fault shape [] w word ≡ turn_fault shape [] v word
    → walked rules [] w word ≡ walked rules [] v word
    → (faults w (word ∷ words) ≡ faults v (word ∷ words)) × (rows_at_end w (word ∷ words) ≡ rows_at_end v (word ∷ words))
unfolding walk_fault
alike w v word words turns goes = (
  ap₂ (λ t u. or_else (or_else t (walk_fault shape [] u words)) (settle_fault rules false (end_of u words))) turns goes,
  ap (λ u. rows_at_end u words) goes,
)

-- where nothing fails, the first word doesn't
pub turn_passes : (w : Walk) (word : Text) (words : List Text) → faults w (word ∷ words) ≡ [] → turn_fault shape [] w word ≡ []
unfolding walk_fault
turn_passes w word words h = or_first (turn_fault shape [] w word) _ (or_first _ (settle_fault rules false (end_of w (word ∷ words))) h)

-- the first use of an option passes
pub once : (name : Name) (text : Text) (rows : List Row) → has_row (bare name) rows ≡ false → use_fault false (filled_rule name) (text ∷ []) rows ≡ []
once name text rows fresh = rw fresh refl

-- where the use passes, it is the first one
pub was_fresh : (name : Name) (text : Text) (rows : List Row) → use_fault false (filled_rule name) (text ∷ []) rows ≡ [] → has_row (bare name) rows ≡ false
was_fresh name text rows h = go (has_row (bare name) rows) refl
  where
    go : (b : Bool) → has_row (bare name) rows ≡ b → has_row (bare name) rows ≡ false
    go false e = e
    go true e = let again : use_fault false (filled_rule name) (text ∷ []) rows ≡ ArgumentConflict ∷ [] = rw e refl in absurd cc

-- so it is with the option without a value
pub flag_once : (rows : List Row) → has_row flag rows ≡ false → use_fault false filled_flag [] rows ≡ []
flag_once rows fresh = rw fresh refl

pub flag_was_fresh : (rows : List Row) → use_fault false filled_flag [] rows ≡ [] → has_row flag rows ≡ false
flag_was_fresh rows h = go (has_row flag rows) refl
  where
    go : (b : Bool) → has_row flag rows ≡ b → has_row flag rows ≡ false
    go false e = e
    go true e = let again : use_fault false filled_flag [] rows ≡ ArgumentConflict ∷ [] = rw e refl in absurd cc

-- ---- the words of options

-- an option with its value in one word
abbrev pub joined : Name → Text → Text
joined name text = spelling_of name ++ (codes "=" ++ text)

-- an option in one word uses what is pending, and then its own value
pub joined_fault : (name : Name) (text : Text) (h : Held)
    → turn_fault shape [] (between h idle) (joined name text) ≡ react_fault rules false (filled_rule name) (text ∷ []) h
joined_fault Keypos text h = or_nil _
joined_fault Seed text h = or_nil _
joined_fault Clients text h = or_nil _
joined_fault Lines text h = or_nil _
joined_fault Rows text h = or_nil _
joined_fault Levels text h = or_nil _
joined_fault Leaf text h = or_nil _
joined_fault High text h = or_nil _
joined_fault Low text h = or_nil _
joined_fault Calm text h = or_nil _
joined_fault Heat text h = or_nil _

-- and stands in the rows at once
pub joined_walked : (name : Name) (text : Text) (h : Held) → walked rules [] (between h idle) (joined name text)
    ≡ between (record h { rows = used (filled_rule name) (text ∷ []) (settled rules h).rows; pending = None }) idle
unfolding walked
joined_walked Keypos text h = refl
joined_walked Seed text h = refl
joined_walked Clients text h = refl
joined_walked Lines text h = refl
joined_walked Rows text h = refl
joined_walked Levels text h = refl
joined_walked Leaf text h = refl
joined_walked High text h = refl
joined_walked Low text h = refl
joined_walked Calm text h = refl
joined_walked Heat text h = refl

-- the option without a value uses what is pending too
pub flag_fault : (h : Held) → turn_fault shape [] (between h idle) flag_spelling ≡ react_fault rules false filled_flag [] h
flag_fault h = or_nil _

-- and stands in the rows at once
pub flag_walked : (h : Held) → walked rules [] (between h idle) flag_spelling
    ≡ between (record h { rows = used filled_flag [] (settled rules h).rows; pending = None }) idle
unfolding walked
flag_walked h = refl

-- the name of an option alone uses what is pending
pub spelled_fault : (name : Name) (h : Held) → turn_fault shape [] (between h idle) (spelling_of name) ≡ settle_fault rules false h
spelled_fault Keypos h = or_nil _
spelled_fault Seed h = or_nil _
spelled_fault Clients h = or_nil _
spelled_fault Lines h = or_nil _
spelled_fault Rows h = or_nil _
spelled_fault Levels h = or_nil _
spelled_fault Leaf h = or_nil _
spelled_fault High h = or_nil _
spelled_fault Low h = or_nil _
spelled_fault Calm h = or_nil _
spelled_fault Heat h = or_nil _

-- and waits for its value
pub spelled_walked : (name : Name) (h : Held) → walked rules [] (between h idle) (spelling_of name)
    ≡ between (record (settled rules h) { pending = Some (bare name, []) }) (option (bare name))
unfolding walked
spelled_walked Keypos h = refl
spelled_walked Seed h = refl
spelled_walked Clients h = refl
spelled_walked Lines h = refl
spelled_walked Rows h = refl
spelled_walked Levels h = refl
spelled_walked Leaf h = refl
spelled_walked High h = refl
spelled_walked Low h = refl
spelled_walked Calm h = refl
spelled_walked Heat h = refl

-- a value behind its option never fails
pub value_fault : (name : Name) (text : Text) (rows : List Row) → begins_with_dash text ≡ false → turn_fault shape [] (wanting name rows) text ≡ []
value_fault Keypos [] rows d = refl
value_fault Seed [] rows d = refl
value_fault Clients [] rows d = refl
value_fault Lines [] rows d = refl
value_fault Rows [] rows d = refl
value_fault Levels [] rows d = refl
value_fault Leaf [] rows d = refl
value_fault High [] rows d = refl
value_fault Low [] rows d = refl
value_fault Calm [] rows d = refl
value_fault Heat [] rows d = refl
value_fault Keypos (b ∷ bytes) rows d = rw d (rw d refl)
value_fault Seed (b ∷ bytes) rows d = rw d (rw d refl)
value_fault Clients (b ∷ bytes) rows d = rw d (rw d refl)
value_fault Lines (b ∷ bytes) rows d = rw d (rw d refl)
value_fault Rows (b ∷ bytes) rows d = rw d (rw d refl)
value_fault Levels (b ∷ bytes) rows d = rw d (rw d refl)
value_fault Leaf (b ∷ bytes) rows d = rw d (rw d refl)
value_fault High (b ∷ bytes) rows d = rw d (rw d refl)
value_fault Low (b ∷ bytes) rows d = rw d (rw d refl)
value_fault Calm (b ∷ bytes) rows d = rw d (rw d refl)
value_fault Heat (b ∷ bytes) rows d = rw d (rw d refl)

-- and is held, since the option takes no more
pub value_walked : (name : Name) (text : Text) (rows : List Row) → begins_with_dash text ≡ false
    → walked rules [] (wanting name rows) text ≡ holding name text rows
unfolding walked
value_walked Keypos [] rows d = refl
value_walked Seed [] rows d = refl
value_walked Clients [] rows d = refl
value_walked Lines [] rows d = refl
value_walked Rows [] rows d = refl
value_walked Levels [] rows d = refl
value_walked Leaf [] rows d = refl
value_walked High [] rows d = refl
value_walked Low [] rows d = refl
value_walked Calm [] rows d = refl
value_walked Heat [] rows d = refl
value_walked Keypos (b ∷ bytes) rows d = rw d (rw d refl)
value_walked Seed (b ∷ bytes) rows d = rw d (rw d refl)
value_walked Clients (b ∷ bytes) rows d = rw d (rw d refl)
value_walked Lines (b ∷ bytes) rows d = rw d (rw d refl)
value_walked Rows (b ∷ bytes) rows d = rw d (rw d refl)
value_walked Levels (b ∷ bytes) rows d = rw d (rw d refl)
value_walked Leaf (b ∷ bytes) rows d = rw d (rw d refl)
value_walked High (b ∷ bytes) rows d = rw d (rw d refl)
value_walked Low (b ∷ bytes) rows d = rw d (rw d refl)
value_walked Calm (b ∷ bytes) rows d = rw d (rw d refl)
value_walked Heat (b ∷ bytes) rows d = rw d (rw d refl)

-- the value that is held is used by the next option, or at the end
pub held_fault : (name : Name) (text : Text) (rows : List Row)
    → settle_fault rules false (holding name text rows).held ≡ use_fault false (filled_rule name) (text ∷ []) rows
held_fault Keypos text rows = refl
held_fault Seed text rows = refl
held_fault Clients text rows = refl
held_fault Lines text rows = refl
held_fault Rows text rows = refl
held_fault Levels text rows = refl
held_fault Leaf text rows = refl
held_fault High text rows = refl
held_fault Low text rows = refl
held_fault Calm text rows = refl
held_fault Heat text rows = refl

-- then it stands in the rows
pub held_used : (name : Name) (text : Text) (rows : List Row)
    → settled rules (holding name text rows).held ≡ held_of (used (filled_rule name) (text ∷ []) rows) None
held_used Keypos text rows = refl
held_used Seed text rows = refl
held_used Clients text rows = refl
held_used Lines text rows = refl
held_used Rows text rows = refl
held_used Levels text rows = refl
held_used Leaf text rows = refl
held_used High text rows = refl
held_used Low text rows = refl
held_used Calm text rows = refl
held_used Heat text rows = refl

-- an option without a value fails
pub no_value : (name : Name) (rows : List Row) → settle_fault rules false (wanting name rows).held ≡ [] → ⊥
no_value Keypos rows h = absurd cc
no_value Seed rows h = absurd cc
no_value Clients rows h = absurd cc
no_value Lines rows h = absurd cc
no_value Rows rows h = absurd cc
no_value Levels rows h = absurd cc
no_value Leaf rows h = absurd cc
no_value High rows h = absurd cc
no_value Low rows h = absurd cc
no_value Calm rows h = absurd cc
no_value Heat rows h = absurd cc

-- ---- which words are options

-- the name is one of an option, or there is no such option
pub long_found : (name : Text) → (arg_by_long rules name ≡ None) ⊎ (((n : Name) × (name ≡ bare n)) ⊎ (name ≡ flag))
long_found name = go (bytes_eq (bare Keypos) name) (bytes_eq (bare Seed) name) (bytes_eq (bare Clients) name) (bytes_eq (bare Lines) name) (bytes_eq (bare Rows) name) (bytes_eq (bare Levels) name) (bytes_eq (bare Leaf) name) (bytes_eq (bare High) name) (bytes_eq (bare Low) name) (bytes_eq (bare Calm) name) (bytes_eq (bare Heat) name) (bytes_eq flag name) refl refl refl refl refl refl refl refl refl refl refl refl
  where
    go : (a b c d e f g h i j k l : Bool)
        → bytes_eq (bare Keypos) name ≡ a
        → bytes_eq (bare Seed) name ≡ b
        → bytes_eq (bare Clients) name ≡ c
        → bytes_eq (bare Lines) name ≡ d
        → bytes_eq (bare Rows) name ≡ e
        → bytes_eq (bare Levels) name ≡ f
        → bytes_eq (bare Leaf) name ≡ g
        → bytes_eq (bare High) name ≡ h
        → bytes_eq (bare Low) name ≡ i
        → bytes_eq (bare Calm) name ≡ j
        → bytes_eq (bare Heat) name ≡ k
        → bytes_eq flag name ≡ l
        → (arg_by_long rules name ≡ None) ⊎ (((n : Name) × (name ≡ bare n)) ⊎ (name ≡ flag))
    go true b c d e f g h i j k l ea eb ec ed ee ef eg eh ei ej ek el = inr (inl (Keypos, sym ((bytes_decides (bare Keypos) name).0 ea)))
    go false true c d e f g h i j k l ea eb ec ed ee ef eg eh ei ej ek el = inr (inl (Seed, sym ((bytes_decides (bare Seed) name).0 eb)))
    go false false true d e f g h i j k l ea eb ec ed ee ef eg eh ei ej ek el = inr (inl (Clients, sym ((bytes_decides (bare Clients) name).0 ec)))
    go false false false true e f g h i j k l ea eb ec ed ee ef eg eh ei ej ek el = inr (inl (Lines, sym ((bytes_decides (bare Lines) name).0 ed)))
    go false false false false true f g h i j k l ea eb ec ed ee ef eg eh ei ej ek el = inr (inl (Rows, sym ((bytes_decides (bare Rows) name).0 ee)))
    go false false false false false true g h i j k l ea eb ec ed ee ef eg eh ei ej ek el = inr (inl (Levels, sym ((bytes_decides (bare Levels) name).0 ef)))
    go false false false false false false true h i j k l ea eb ec ed ee ef eg eh ei ej ek el = inr (inl (Leaf, sym ((bytes_decides (bare Leaf) name).0 eg)))
    go false false false false false false false true i j k l ea eb ec ed ee ef eg eh ei ej ek el = inr (inl (High, sym ((bytes_decides (bare High) name).0 eh)))
    go false false false false false false false false true j k l ea eb ec ed ee ef eg eh ei ej ek el = inr (inl (Low, sym ((bytes_decides (bare Low) name).0 ei)))
    go false false false false false false false false false true k l ea eb ec ed ee ef eg eh ei ej ek el = inr (inl (Calm, sym ((bytes_decides (bare Calm) name).0 ej)))
    go false false false false false false false false false false true l ea eb ec ed ee ef eg eh ei ej ek el = inr (inl (Heat, sym ((bytes_decides (bare Heat) name).0 ek)))
    go false false false false false false false false false false false true ea eb ec ed ee ef eg eh ei ej ek el = inr (inr (sym ((bytes_decides flag name).0 el)))
    go false false false false false false false false false false false false ea eb ec ed ee ef eg eh ei ej ek el = inl (rw (ea, eb, ec, ed, ee, ef, eg, eh, ei, ej, ek, el) refl)

settles : (n : Name) (value : Option Text) (h : Held) → long_fault rules false (arg_by_long rules (bare n)) value h ≡ [] → settle_fault rules false h ≡ []
settles Keypos None h f = f
settles Seed None h f = f
settles Clients None h f = f
settles Lines None h f = f
settles Rows None h f = f
settles Levels None h f = f
settles Leaf None h f = f
settles High None h f = f
settles Low None h f = f
settles Calm None h f = f
settles Heat None h f = f
settles Keypos (Some v) h f = or_first _ _ f
settles Seed (Some v) h f = or_first _ _ f
settles Clients (Some v) h f = or_first _ _ f
settles Lines (Some v) h f = or_first _ _ f
settles Rows (Some v) h f = or_first _ _ f
settles Levels (Some v) h f = or_first _ _ f
settles Leaf (Some v) h f = or_first _ _ f
settles High (Some v) h f = or_first _ _ f
settles Low (Some v) h f = or_first _ _ f
settles Calm (Some v) h f = or_first _ _ f
settles Heat (Some v) h f = or_first _ _ f

flag_settles : (value : Option Text) (h : Held) → long_fault rules false (arg_by_long rules flag) value h ≡ []
    → (value ≡ None) × (settle_fault rules false h ≡ [])
flag_settles None h f = (refl, or_first _ _ f)
flag_settles (Some v) h f = absurd cc

-- the name of an option, and no value for one that has none
abbrev IsLong : Text → Option Text → Type 0
IsLong name value = ((n : Name) × (name ≡ bare n)) ⊎ ((name ≡ flag) × (value ≡ None))

-- where an option passes, it is one of these, and what was pending is used well
pub long_told : (name : Text) (value : Option Text) (h : Held) → long_fault rules false (arg_by_long rules name) value h ≡ []
    → IsLong name value × (settle_fault rules false h ≡ [])
long_told name value h f = elim (long_found name) [
  | inl none ↦ absurd (unknown (subst (λ found. long_fault rules false found value h ≡ []) none f))
  | inr known ↦ by known
]
  where
    unknown : long_fault rules false None value h ≡ [] → ⊥
    unknown e = absurd cc

    by : ((n : Name) × (name ≡ bare n)) ⊎ (name ≡ flag) → IsLong name value × (settle_fault rules false h ≡ [])
    by (inl k) = (inl k, settles k.0 value h (subst (λ x. long_fault rules false (arg_by_long rules x) value h ≡ []) k.1 f))
    by (inr e) =
        let t = flag_settles value h (subst (λ x. long_fault rules false (arg_by_long rules x) value h ≡ []) e f) in
        (inr (e, t.0), t.1)

-- what stands before the first `=` and behind it
abbrev is_equals : ℕ → Bool
is_equals b = b == 61

abbrev HasParts : Text → Type 0
HasParts text = ((has_byte 61 text ≡ true) × (text ≡ before_first is_equals text ++ 61 ∷ after_first is_equals text))
    ⊎ ((has_byte 61 text ≡ false) × (before_first is_equals text ≡ text))

one_more : (b : ℕ) (bytes : Text) (n n_behind m m_behind : ℕ) → m ≡ suc n → m_behind ≡ suc n_behind
    → bytes ≡ take n bytes ++ 61 ∷ drop n_behind bytes → b ∷ bytes ≡ take m (b ∷ bytes) ++ 61 ∷ drop m_behind (b ∷ bytes)
one_more b bytes n n_behind m m_behind e f h = rw (e, f) (ap (λ l. b ∷ l) h)

one_taken : (b : ℕ) (bytes : Text) (n m : ℕ) → m ≡ suc n → take n bytes ≡ bytes → take m (b ∷ bytes) ≡ b ∷ bytes
one_taken b bytes n m e h = rw e (ap (λ l. b ∷ l) h)

next_place : (b : ℕ) (bytes : Text) → (b == 61) ≡ false → position_or_len is_equals (b ∷ bytes) ≡ suc (position_or_len is_equals bytes)
next_place b bytes e = rw e (omega arith)

parts_behind : (b : ℕ) (bytes : Text) (equals : Bool) → (b == 61) ≡ equals → HasParts bytes → HasParts (b ∷ bytes)
parts_behind b bytes true e p = let sign : b ≡ 61 = grind (e, arith, nat_tests) in inl (rw e refl, rw e (ap (λ c. c ∷ bytes) sign))
parts_behind b bytes false e (inl p) =
    let place = next_place b bytes e in
    inl (
      rw e p.0,
      one_more b bytes (position_or_len is_equals bytes) (position_or_len is_equals bytes + 1) (position_or_len is_equals (b ∷ bytes))
          (position_or_len is_equals (b ∷ bytes) + 1) place (omega (arith, place)) p.1,
    )
parts_behind b bytes false e (inr p) = inr (rw e p.0, one_taken b bytes (position_or_len is_equals bytes) _ (next_place b bytes e) p.1)

parts : (text : Text) → HasParts text
parts [] = inr (refl, refl)
parts (b ∷ bytes) = parts_behind b bytes (b == 61) refl (parts bytes)

-- a word of an option of the command, with a value or without
abbrev pub IsKnown : Text → Type 0
IsKnown word = ((n : Name) × (text : Text) × (word ≡ joined n text)) ⊎ (((n : Name) × (word ≡ spelling_of n)) ⊎ (word ≡ flag_spelling))

spelled_from : (n : Name) → 45 ∷ 45 ∷ bare n ≡ spelling_of n
spelled_from Keypos = refl
spelled_from Seed = refl
spelled_from Clients = refl
spelled_from Lines = refl
spelled_from Rows = refl
spelled_from Levels = refl
spelled_from Leaf = refl
spelled_from High = refl
spelled_from Low = refl
spelled_from Calm = refl
spelled_from Heat = refl

joined_from : (n : Name) (text : Text) → 45 ∷ 45 ∷ (bare n ++ 61 ∷ text) ≡ joined n text
joined_from Keypos text = refl
joined_from Seed text = refl
joined_from Clients text = refl
joined_from Lines text = refl
joined_from Rows text = refl
joined_from Levels text = refl
joined_from Leaf text = refl
joined_from High text = refl
joined_from Low text = refl
joined_from Calm text = refl
joined_from Heat text = refl

known_by : (text : Text) → IsLong (before_first is_equals text) (name_and_value text).1 → HasParts text → IsKnown (45 ∷ 45 ∷ text)
known_by text (inl k) (inl p) = inl (
  k.0,
  after_first is_equals text,
  ap (λ l. 45 ∷ 45 ∷ l) (p.1 ∙ ap (λ l. l ++ 61 ∷ after_first is_equals text) k.1) ∙ joined_from k.0 _,
)
known_by text (inl k) (inr p) = inr (inl (k.0, ap (λ l. 45 ∷ 45 ∷ l) (sym p.1 ∙ k.1) ∙ spelled_from k.0))
known_by text (inr k) (inl p) = absurd (valued (has_byte 61 text) p.0 k.1)
  where
    valued : (b : Bool) → b ≡ true → (if b then Some (after_first is_equals text) else None) ≡ None → ⊥
    valued true e none = absurd cc
    valued false e none = absurd cc
known_by text (inr k) (inr p) = inr (inr (ap (λ l. 45 ∷ 45 ∷ l) (sym p.1 ∙ k.0)))

-- what passes as an option is a known one, and what was pending is used well
abbrev Passed : Held → Text → Type 0
Passed h word = IsKnown word × (settle_fault rules false h ≡ [])

long_passed : (x : ℕ) (xs : Text) (h : Held) (waiting : Waiting) → turn_fault shape [] (between h waiting) (45 ∷ 45 ∷ x ∷ xs) ≡ []
    → Passed h (45 ∷ 45 ∷ x ∷ xs)
long_passed x xs h waiting f =
    let t = long_told (before_first is_equals (x ∷ xs)) (name_and_value (x ∷ xs)).1 h (by waiting f) in
    (known_by (x ∷ xs) t.0 (parts (x ∷ xs)), t.1)
  where
    by : (w : Waiting) → turn_fault shape [] (between h w) (45 ∷ 45 ∷ x ∷ xs) ≡ []
        → long_fault rules false (arg_by_long rules (name_and_value (x ∷ xs)).0) (name_and_value (x ∷ xs)).1 h ≡ []
    by idle f = or_first _ _ f
    by (option id) f = or_first _ _ f
    by positional f = or_first _ _ f

-- the same of any word that is one of an option
pub option_passed : (word : Text) (h : Held) (waiting : Waiting) → is_option word ≡ true → turn_fault shape [] (between h waiting) word ≡ [] → Passed h word
option_passed [] h waiting o f = absurd cc
option_passed (a ∷ []) h waiting o f = absurd cc
option_passed (a ∷ b ∷ []) h waiting o f = absurd cc
option_passed (a ∷ b ∷ x ∷ xs) h waiting o f =
    let first : a ≡ 45 = grind (o, arith, nat_tests, common_steps) in
    let second : b ≡ 45 = grind (o, arith, nat_tests, common_steps) in
    subst (λ d. Passed h (d ∷ b ∷ x ∷ xs)) (sym first) (subst (λ d. Passed h (45 ∷ d ∷ x ∷ xs)) (sym second)
    (long_passed x xs h waiting (subst (λ d. turn_fault shape [] (between h waiting) (45 ∷ d ∷ x ∷ xs) ≡ []) second
    (subst (λ d. turn_fault shape [] (between h waiting) (d ∷ b ∷ x ∷ xs) ≡ []) first f))))
