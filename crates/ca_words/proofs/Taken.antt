-- Words that `clap` takes are options one after another, each of another name; their texts are its rows.
use Rattle.std.proofs.Common.{◌≡◌, Bool, true, false, List, [], ◌∷◌, ◌++◌, map, take, suc, Some, None, refl, sym, ap, ◌∙◌, subst, inl, inr, append_assoc, append-nil}
use Rattle.std.specs.Prelude.{⊤, ◌&&◌, ◌||◌, not, if◌then◌else◌}
use Rattle.clap.specs.Walk.{Row, Text, has_row, idle, option}
use Rattle.clap.specs.Faults.{settle_fault}
use Rattle.ca_words.specs.declared.words.Name.{Name}
use Rattle.ca_words.specs.declared.words.Name.TheVariants.{Keypos, Seed, Clients, Lines, Rows, Levels, Leaf, High, Low, Calm, Heat}
use Rattle.ca_words.specs.Grammar.{begins_with_dash, flag_spelling, spelling_of}
use Rattle.ca_words.specs.Words.{bare, flag, is_option, is_part, options_end, waits_behind}
use Rattle.ca_words.proofs.Choices.{first_holds, not_holds, second_holds}
use Rattle.ca_words.proofs.Rows.{flag_row, row}
use Rattle.ca_words.proofs.Parsing.{IsKnown, flag_fault, flag_was_fresh, at_end_alone, clean, faults, held_fault, held_of, holding, joined, joined_fault, no_value, option_passed, rows_at_end, rules, turn_passes, wanting, was_fresh}
use Rattle.ca_words.proofs.Steps.{Follows, flag_word, name_alone, one_word, used_by_next, value_behind}

-- all words are words of options
abbrev pub are_parts : Bool → List Text → Bool
are_parts waits [] = true
are_parts waits (word ∷ words) = is_part waits word && are_parts (waits_behind word) words

parts_behind : (waits : Bool) (word : Text) (words : List Text) (part : Bool) → is_part waits word ≡ part
    → are_parts (waits_behind word) (take (options_end (waits_behind word) words) words) ≡ true
    → are_parts waits (take (if part then suc (options_end (waits_behind word) words) else 0) (word ∷ words)) ≡ true
parts_behind waits word words true e h = rw (e, h) refl
parts_behind waits word words false e h = refl

-- the words up to where the options end are words of options
pub parts_taken : (waits : Bool) (words : List Text) → are_parts waits (take (options_end waits words) words) ≡ true
unfolding options_end
parts_taken waits [] = refl
parts_taken waits (word ∷ words) = parts_behind waits word words (is_part waits word) refl (parts_taken (waits_behind word) words)

-- an option as it is written: in one word, in two, or without a value
pub data Written : Type 0 where
  InOne : Name → Text → Written
  InTwo : Name → Text → Written
  Bare : Written

-- the words of an option, and of options one after another
abbrev pub words_of : Written → List Text
words_of (InOne name text) = joined name text ∷ []
words_of (InTwo name text) = spelling_of name ∷ text ∷ []
words_of Bare = flag_spelling ∷ []

abbrev pub all_words : List Written → List Text
all_words [] = []
all_words (o ∷ options) = words_of o ++ all_words options

-- its row, and the name of it
abbrev pub row_of : Written → Row
row_of (InOne name text) = row name text
row_of (InTwo name text) = row name text
row_of Bare = flag_row

abbrev pub id_of : Written → Text
id_of (InOne name text) = bare name
id_of (InTwo name text) = bare name
id_of Bare = flag

-- no option has a row before it
abbrev pub AreFresh : List Row → List Written → Type 0
AreFresh rows [] = ⊤
AreFresh rows (o ∷ options) = (has_row (id_of o) rows ≡ false) × AreFresh (rows ++ row_of o ∷ []) options

-- the words are options, which add their rows
pub record AreWritten (rows : List Row) (words : List Text) (end : List Row) : Type 0 where
  pub options : List Written
  pub words_are : words ≡ all_words options
  pub rows_are : end ≡ rows ++ map row_of options
  pub fresh : AreFresh rows options

one_more : (rows : List Row) (o : Written) (words : List Text) (end there : List Row) → has_row (id_of o) rows ≡ false → end ≡ there
    → AreWritten (rows ++ row_of o ∷ []) words there → AreWritten rows (words_of o ++ words) end
one_more rows o words end there fresh same rest = record {
  options = o ∷ rest.options;
  words_are = ap (λ l. words_of o ++ l) rest.words_are;
  rows_are = same ∙ rest.rows_are ∙ append_assoc rows (row_of o ∷ []) (map row_of rest.options);
  fresh = (fresh, rest.fresh);
}

-- what is known of words behind options, and behind the name of an option without its value
abbrev TakenFrom : List Text → Type 0
TakenFrom words = (rows : List Row) → are_parts false words ≡ true → faults (clean rows) words ≡ []
    → AreWritten rows words (rows_at_end (clean rows) words)

abbrev TakenBehind : List Text → Type 0
TakenBehind words = (name : Name) (rows : List Row) → are_parts true words ≡ true → faults (wanting name rows) words ≡ []
    → AreWritten rows (spelling_of name ∷ words) (rows_at_end (wanting name rows) words)

waits_not : (name : Name) (text : Text) → waits_behind (joined name text) ≡ false
waits_not Keypos text = refl
waits_not Seed text = refl
waits_not Clients text = refl
waits_not Lines text = refl
waits_not Rows text = refl
waits_not Levels text = refl
waits_not Leaf text = refl
waits_not High text = refl
waits_not Low text = refl
waits_not Calm text = refl
waits_not Heat text = refl

waits_for : (name : Name) → waits_behind (spelling_of name) ≡ true
waits_for Keypos = refl
waits_for Seed = refl
waits_for Clients = refl
waits_for Lines = refl
waits_for Rows = refl
waits_for Levels = refl
waits_for Leaf = refl
waits_for High = refl
waits_for Low = refl
waits_for Calm = refl
waits_for Heat = refl

at_joined : (name : Name) (text : Text) (words : List Text) → TakenFrom words → (rows : List Row)
    → are_parts (waits_behind (joined name text)) words ≡ true → faults (clean rows) (joined name text ∷ words) ≡ []
    → AreWritten rows (joined name text ∷ words) (rows_at_end (clean rows) (joined name text ∷ words))
at_joined name text words next rows p f =
    let passes = turn_passes (clean rows) (joined name text) words f in
    let fresh = was_fresh name text rows (sym (joined_fault name text (held_of rows None)) ∙ passes) in
    let goes = one_word name text rows words fresh in
    one_more rows (InOne name text) words _ _ fresh goes.1
    (next (rows ++ row name text ∷ []) (ap (λ w. are_parts w words) (sym (waits_not name text)) ∙ p) (sym goes.0 ∙ f))

flag_waits_not : waits_behind flag_spelling ≡ false
flag_waits_not = refl

at_flag : (words : List Text) → TakenFrom words → (rows : List Row) → are_parts (waits_behind flag_spelling) words ≡ true
    → faults (clean rows) (flag_spelling ∷ words) ≡ []
    → AreWritten rows (flag_spelling ∷ words) (rows_at_end (clean rows) (flag_spelling ∷ words))
at_flag words next rows p f =
    let passes = turn_passes (clean rows) flag_spelling words f in
    let fresh = flag_was_fresh rows (sym (flag_fault (held_of rows None)) ∙ passes) in
    let goes = flag_word rows words fresh in
    one_more rows Bare words _ _ fresh goes.1
    (next (rows ++ flag_row ∷ []) (ap (λ w. are_parts w words) (sym flag_waits_not) ∙ p) (sym goes.0 ∙ f))

at_name : (name : Name) (words : List Text) → TakenBehind words → (rows : List Row)
    → are_parts (waits_behind (spelling_of name)) words ≡ true → faults (clean rows) (spelling_of name ∷ words) ≡ []
    → AreWritten rows (spelling_of name ∷ words) (rows_at_end (clean rows) (spelling_of name ∷ words))
at_name name words next rows p f =
    let goes = name_alone name rows words in
    subst (AreWritten rows (spelling_of name ∷ words)) (sym goes.1)
    (next name rows (ap (λ w. are_parts w words) (sym (waits_for name)) ∙ p) (sym goes.0 ∙ f))

or_none : (a b : Bool) → b ≡ false → (a || b) ≡ true → a ≡ true
or_none true b n h = refl
or_none false b n h = absurd cc

-- where nothing fails behind a value, an option or nothing follows, and the value was used well
follows : (name : Name) (text : Text) (rows : List Row) (words : List Text) → are_parts false words ≡ true → faults (holding name text rows) words ≡ []
    → Follows words × (settle_fault rules false (holding name text rows).held ≡ [])
follows name text rows [] p f = (tt, sym (at_end_alone (holding name text rows)) ∙ f)
follows name text rows (word ∷ words) p f =
    option_passed word (holding name text rows).held idle (or_none (is_option word) false refl (first_holds _ _ p))
    (turn_passes (holding name text rows) word words f)

at_value : (name : Name) (text : Text) (words : List Text) → TakenFrom words → (rows : List Row) → begins_with_dash text ≡ false
    → are_parts false words ≡ true → faults (wanting name rows) (text ∷ words) ≡ []
    → AreWritten rows (spelling_of name ∷ text ∷ words) (rows_at_end (wanting name rows) (text ∷ words))
at_value name text words next rows undashed p f =
    let held = value_behind name text rows words undashed in
    let behind = follows name text rows words p (sym held.0 ∙ f) in
    let fresh = was_fresh name text rows (sym (held_fault name text rows) ∙ behind.1) in
    let goes = used_by_next name text rows words fresh behind.0 in
    one_more rows (InTwo name text) words _ _ fresh (held.1 ∙ goes.1)
    (next (rows ++ row name text ∷ []) p (sym goes.0 ∙ sym held.0 ∙ f))

-- a word of options right behind a name is its value
at_part : (name : Name) (text : Text) (words : List Text) → TakenFrom words → (rows : List Row) (b : Bool) → is_option text ≡ b
    → (b || not (begins_with_dash text)) ≡ true → are_parts (waits_behind text) words ≡ true → faults (wanting name rows) (text ∷ words) ≡ []
    → AreWritten rows (spelling_of name ∷ text ∷ words) (rows_at_end (wanting name rows) (text ∷ words))
at_part name text words next rows true o d p f =
    absurd (no_value name rows (option_passed text (held_of rows (Some (bare name, []))) (option (bare name)) o
    (turn_passes (wanting name rows) text words f)).1)
at_part name text words next rows false o d p f =
    let waits : waits_behind text ≡ false = rw o refl in
    at_value name text words next rows (not_holds _ d) (ap (λ w. are_parts w words) (sym waits) ∙ p) f

at_known : (word : Text) (words : List Text) → TakenFrom words → TakenBehind words → (rows : List Row) → IsKnown word
    → are_parts (waits_behind word) words ≡ true → faults (clean rows) (word ∷ words) ≡ []
    → AreWritten rows (word ∷ words) (rows_at_end (clean rows) (word ∷ words))
at_known word words next behind rows (inl k) p f =
    subst (λ w. AreWritten rows (w ∷ words) (rows_at_end (clean rows) (w ∷ words))) (sym k.2)
    (at_joined k.0 k.1 words next rows (subst (λ w. are_parts (waits_behind w) words ≡ true) k.2 p)
    (subst (λ w. faults (clean rows) (w ∷ words) ≡ []) k.2 f))
at_known word words next behind rows (inr (inl k)) p f =
    subst (λ w. AreWritten rows (w ∷ words) (rows_at_end (clean rows) (w ∷ words))) (sym k.1)
    (at_name k.0 words behind rows (subst (λ w. are_parts (waits_behind w) words ≡ true) k.1 p)
    (subst (λ w. faults (clean rows) (w ∷ words) ≡ []) k.1 f))
at_known word words next behind rows (inr (inr e)) p f =
    subst (λ w. AreWritten rows (w ∷ words) (rows_at_end (clean rows) (w ∷ words))) (sym e)
    (at_flag words next rows (subst (λ w. are_parts (waits_behind w) words ≡ true) e p)
    (subst (λ w. faults (clean rows) (w ∷ words) ≡ []) e f))

taken : (words : List Text) → TakenFrom words × TakenBehind words
taken [] = (
  λ rows p f. record { options = []; words_are = refl; rows_are = sym (append-nil rows); fresh = tt },
  λ name rows p f. absurd (no_value name rows (sym (at_end_alone (wanting name rows)) ∙ f)),
)
taken (word ∷ words) = (
  λ rows p f. at_known word words (taken words).0 (taken words).1 rows
      (option_passed word (held_of rows None) idle (or_none (is_option word) false refl (first_holds _ _ p)) (turn_passes (clean rows) word words f)).0
      (second_holds _ _ p) f,
  λ name rows p f. at_part name word words (taken words).0 rows (is_option word) refl (first_holds _ _ p) (second_holds _ _ p) f,
)

-- Words of options that pass are options one after another.
pub are_written : (words : List Text) → are_parts false words ≡ true → faults (clean []) words ≡ []
    → AreWritten [] words (rows_at_end (clean []) words)
are_written words p f = (taken words).0 [] p f
