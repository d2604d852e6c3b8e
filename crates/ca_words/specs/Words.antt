-- How the reader takes the words of a command line. What a command line is stands in `Grammar`.
use Rattle.std.specs.Prelude.{ℕ, suc, ◌==◌, ◌&&◌, ◌||◌, Bool, true, false, not, nat_le, nat_lt, List, [], ◌∷◌, length, map, take, drop, Option, None, Some, option_map, option_and_then, unwrap_or, is_some, codes, if◌then◌else◌, String}
use Rattle.std.specs.List.{fold, list_all, list_any}
use Rattle.std.specs.Borrow.{Bor}
use Rattle.std.specs.Str.{bytes_eq}
use Rattle.std.specs.String.{string_bytes}
use Rattle.clap.specs.Words.{App, Rule, fault_of, first_of, matches_of, new_app, new_rule, with_rule}
use Rattle.ca_words.specs.declared.options.Options.{Options}
use Rattle.ca_words.specs.declared.tree.TreeOptions.{TreeOptions}
use Rattle.ca_words.specs.declared.words.Name.{Name}
use Rattle.ca_words.specs.declared.words.Name.TheVariants.{Keypos, Seed, Clients, Lines, Rows, Levels, Leaf, High, Low, Calm, Heat}
use Rattle.ca_words.specs.declared.words.CommandLine.{CommandLine}
use Rattle.ca_words.specs.declared.words.Request.{Request as Asked}
use Rattle.ca_words.specs.declared.words.Request.TheVariants as asked
use Rattle.clap.specs.declared.builder.action.ArgAction.TheVariants.{SetTrue}
use Rattle.ca_words.specs.Grammar.{flag_spelling, Request, Files, Generated, are_undashed, begins_with_dash, is_digit, least_of, most_of, number_after}

-- the texts of words behind a reference
abbrev pub texts_of : {Z : Type 0} → Bor (List (String Z)) → List (List ℕ)
texts_of words = map string_bytes words.now

-- the reader's result as a request of the grammar
abbrev pub request_in : Asked → Request
request_in (asked.Files keypos names) = Files keypos (texts_of names)
request_in (asked.Generated seed clients lines) = Generated seed clients lines

-- what is asked for, and what is said of the tree
abbrev pub Asking : Type 0
Asking = Request × TreeOptions

abbrev pub asking_in : CommandLine → Asking
asking_in line = (request_in line.request, line.tree)

-- ---- the words before the files

-- two dashes and more
abbrev pub is_option : List ℕ → Bool
is_option (a ∷ b ∷ c ∷ bytes) = a == 45 && b == 45
is_option _ = false

abbrev pub has_equals : List ℕ → Bool
has_equals word = list_any (λ b. b == 61) word

-- a word of the options, where `waits` says that the word before it is an option without its value
abbrev pub is_part : Bool → List ℕ → Bool
is_part waits word = is_option word || (waits && not (begins_with_dash word))

-- the value of the option in this word is the next word
abbrev pub waits_behind : List ℕ → Bool
waits_behind word = is_option word && (not (has_equals word) && not (bytes_eq word flag_spelling))

-- how many words are words of the options
unfoldable pub options_end : Bool → List (List ℕ) → ℕ
options_end waits [] = 0
options_end waits (word ∷ words) = if is_part waits word then suc (options_end (waits_behind word) words) else 0

-- Behind `--` all words are files. Without it no file begins with a dash, so no option follows a file.
abbrev pub names_in : List (List ℕ) → Option (List (List ℕ))
names_in [] = Some []
names_in (word ∷ words) =
    if bytes_eq word (codes "--") then Some words else (if are_undashed (word ∷ words) then Some (word ∷ words) else None)

-- ---- the options, which `clap` takes apart

abbrev pub bare : Name → List ℕ
bare Keypos = codes "keypos"
bare Seed = codes "seed"
bare Clients = codes "clients"
bare Lines = codes "lines"
bare Rows = codes "rows"
bare Levels = codes "levels"
bare Leaf = codes "leaf"
bare High = codes "high"
bare Low = codes "low"
bare Calm = codes "calm"
bare Heat = codes "heat"

-- the option `--name` with one value
abbrev pub rule : Name → Rule
rule name = record (new_rule (bare name)) { long = Some (bare name) }

-- a command without a name in its words, without help and version
abbrev pub empty_command : App
empty_command = let a = new_app (codes "run") in
    record a { top = record a.top { no_binary_name = true; disable_help_flag = true; disable_version_flag = true } }

abbrev pub tree_names : List Name
tree_names = Rows ∷ Levels ∷ Leaf ∷ High ∷ Low ∷ Calm ∷ Heat ∷ []

abbrev pub all_names : List Name
all_names = Keypos ∷ Seed ∷ Clients ∷ Lines ∷ tree_names

abbrev pub with_option : App → Name → App
with_option app name = with_rule app (rule name)

-- the option without a value, and its name
abbrev pub flag : List ℕ
flag = codes "shape"

abbrev pub flag_rule : Rule
flag_rule = record (new_rule flag) { long = Some flag; action = Some SetTrue }

-- whether it was given, by the text that is kept for it
abbrev pub is_flagged : Option (List ℕ) → Bool
is_flagged None = false
is_flagged (Some text) = bytes_eq text (codes "true")

-- the command of the options alone
abbrev pub command : App
command = with_rule (fold with_option empty_command all_names) flag_rule

-- 1 to 10 decimal digits, of which the first ones may be 0
abbrev pub is_value : List ℕ → Bool
is_value text = nat_le 1 (length text) && nat_le (length text) 10 && list_all is_digit text

-- the value that a text writes for an option: within its bounds
abbrev pub value_in : Name → List ℕ → Option ℕ
value_in name text =
    if is_value text && nat_le (least_of name) (number_after 0 text) && nat_le (number_after 0 text) (most_of name) then Some (number_after 0 text) else None

-- the value of an option that was given, or not; `None` where its text is no value
abbrev pub value_told : Name → Option (List ℕ) → Option (Option ℕ)
value_told name None = Some None
value_told name (Some text) = option_map (λ value. Some value) (value_in name text)

-- the values of the options of the tree, whose texts these are
abbrev pub tree_in : (Name → Option (List ℕ)) → Option (List ℕ) → Option TreeOptions
tree_in texts shown =
    option_and_then (λ rows. option_and_then (λ levels. option_and_then (λ leaf. option_and_then (λ high. option_and_then (λ low. option_and_then (λ calm.
    option_and_then (λ heat. Some (record { rows = rows; levels = levels; leaf = leaf; high = high; low = low; calm = calm; heat = heat; shape = is_flagged shown }))
    (value_told Heat (texts Heat))) (value_told Calm (texts Calm))) (value_told Low (texts Low))) (value_told High (texts High)))
    (value_told Leaf (texts Leaf))) (value_told Levels (texts Levels))) (value_told Rows (texts Rows))

-- the values of all options, whose texts these are
abbrev pub given_in : (Name → Option (List ℕ)) → Option (List ℕ) → Option Options
given_in texts shown = option_and_then (λ keypos. option_and_then (λ seed. option_and_then (λ clients. option_and_then (λ lines. option_and_then (λ tree.
    Some (record { keypos = keypos; seed = seed; clients = clients; lines = lines; tree = tree }))
    (tree_in texts shown)) (value_told Lines (texts Lines))) (value_told Clients (texts Clients))) (value_told Seed (texts Seed))) (value_told Keypos (texts Keypos))

-- the values that words give the options, where `clap` takes the words and each text is a value
unfoldable pub options_in : List (List ℕ) → Option Options
options_in words = if length (fault_of command words) == 0 then given_in (λ name. first_of (bare name) (matches_of command words)) (first_of flag (matches_of command words)) else None

-- ---- the request

-- all of the three, and the first element is the key
abbrev pub generated_with : Option ℕ → Option ℕ → Option ℕ → Option Request
generated_with (Some seed) (Some clients) (Some lines) = Some (Generated seed clients lines)
generated_with _ _ _ = None

-- what these options ask for together with these file words
abbrev pub request_with : Options → List (List ℕ) → Option Request
request_with given [] = if unwrap_or given.keypos 1 == 1 then generated_with given.seed given.clients given.lines else None
request_with given (name ∷ names) =
    if is_some given.seed || is_some given.clients || is_some given.lines || nat_lt 64 (length (name ∷ names)) then None
    else Some (Files (unwrap_or given.keypos 1) (name ∷ names))

-- and what is said of the tree
abbrev pub line_with : Options → List (List ℕ) → Option Asking
line_with given names = option_map (λ request. (request, given.tree)) (request_with given names)

-- what is asked for by words of options and by the words behind them
abbrev pub line_between : List (List ℕ) → List (List ℕ) → Option Asking
line_between options rest = option_and_then (λ names. option_and_then (λ given. line_with given names) (options_in options)) (names_in rest)

-- what is asked for by words behind the word `run`
abbrev pub line_behind : List (List ℕ) → Option Asking
line_behind words = line_between (take (options_end false words) words) (drop (options_end false words) words)

abbrev pub line_of : List (List ℕ) → Option Asking
line_of [] = None
line_of (run ∷ words) = if bytes_eq run (codes "run") then line_behind words else None
