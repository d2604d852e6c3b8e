-- What is read as a request is a line of the grammar, which asks for it.
use Rattle.std.proofs.Common.{◌≡◌, ℕ, ◌≤◌, Bool, true, false, List, [], ◌∷◌, ◌++◌, length, map, take, drop, Option, None, Some, refl, sym, arith, ap, ◌∙◌, subst, append_assoc, append-nil, take-append-drop, true≢false}
use Rattle.std.specs.Cmp.Lexicographic.{bytes_decides}
use Rattle.std.proofs.lemmas.Bool.Decides.{nat_tests}
use Rattle.std.specs.Prelude.{codes, ◌==◌, nat_lt, unwrap_or, option_map, option_and_then, if◌then◌else◌}
use Rattle.std.specs.Str.{bytes_eq}
use Rattle.clap.specs.Kinds.{Kinds}
use Rattle.clap.specs.Walk.{Row, Text, first_of}
use Rattle.clap.specs.Words.{fault_of, matches_of}
use Rattle.ca_words.specs.declared.words.Name.{Name}
use Rattle.ca_words.specs.declared.options.Options.{Options}
use Rattle.ca_words.specs.declared.tree.TreeOptions.{TreeOptions}
use Rattle.ca_words.specs.Grammar.{Values, IsValue, AreOptions, NoOption, InOneWord, InTwoWords, WithoutValue, flag_spelling, with_flag, IsAsked, ForFiles, ForGenerated, IsLineOf, WithoutParting, WithParting, Request, Files, Generated, are_undashed, no_values, spelling_of, value_named, with_named}
use Rattle.ca_words.specs.Words.{bare, command, flag, is_flagged, given_in, options_end, options_in, line_behind, line_between, line_of, line_with, request_with, Asking, value_in, value_told}
use Rattle.ca_words.proofs.Choices.{tested, tested_not, neither, under}
use Rattle.ca_words.proofs.Given.{Flags, Hold, default_flags, default_keeps, flags_more, flags_on, found_here, given_told, hold_flag, hold_more, not_flagged, none_hold, not_given, same_values, value_is, values_of}
use Rattle.ca_words.proofs.Parsing.{clean, fault_is, joined, matches_are, rows_at_end}
use Rattle.ca_words.proofs.Rows.{flag_row, row}
use Rattle.ca_words.proofs.Taken.{AreFresh, Written, InOne, InTwo, Bare, all_words, are_parts, are_written, parts_taken, row_of, words_of}

-- ---- the options

inner : {X : Type 0} (a b : X) → Some a ≡ Some b → a ≡ b
inner a b h = cc

value_found : (found : Option ℕ) (there : Option ℕ) → option_map (λ v. Some v) found ≡ Some there → (value : ℕ) × (found ≡ Some value)
value_found None there h = absurd cc
value_found (Some value) there h = (value, refl)

-- Options one after another are those of the grammar, with the values that all rows give.
options_are : (final : Options) (finals : List Row) → Hold finals (values_of final) → Flags finals (values_of final) → (options : List Written)
    (before : List Text) (given : Values) (rows : List Row) → AreOptions before given → Hold rows given → Flags rows given → AreFresh rows options
    → finals ≡ rows ++ map row_of options → AreOptions (before ++ all_words options) (values_of final)
options_are final finals told shown [] before given rows written hold flags fresh e =
    let whole = e ∙ append-nil rows in
    let same = same_values given (values_of final) (λ n. inner (value_named given n) (value_named (values_of final) n)
    (sym (ap (λ r. value_told n (first_of (bare n) r)) whole ∙ hold n) ∙ told n))
    (sym flags ∙ sym (ap (λ r. is_flagged (first_of flag r)) whole) ∙ shown) in
    subst (AreOptions (before ++ [])) same (subst (λ w. AreOptions w given) (sym (append-nil before)) written)
options_are final finals told shown (InOne name text ∷ options) before given rows written hold flags fresh e =
    let here = ap (first_of (bare name)) e ∙ found_here name text rows (map row_of options) fresh.0 in
    let value = value_found (value_in name text) (value_named (values_of final) name) (sym (ap (value_told name) here) ∙ told name) in
    let more = InOneWord before given name text value.0 written (not_given rows given name hold fresh.0) (value_is name text value.0 value.1) in
    subst (λ w. AreOptions w (values_of final)) (append_assoc before (joined name text ∷ []) (all_words options))
    (options_are final finals told shown options (before ++ joined name text ∷ []) (with_named given name value.0) (rows ++ row name text ∷ []) more
    (hold_more rows given name text value.0 fresh.0 value.1 hold) (flags_more rows given name text value.0 flags) fresh.1
    (e ∙ sym (append_assoc rows (row name text ∷ []) (map row_of options))))
options_are final finals told shown (InTwo name text ∷ options) before given rows written hold flags fresh e =
    let here = ap (first_of (bare name)) e ∙ found_here name text rows (map row_of options) fresh.0 in
    let value = value_found (value_in name text) (value_named (values_of final) name) (sym (ap (value_told name) here) ∙ told name) in
    let more = InTwoWords before given name text value.0 written (not_given rows given name hold fresh.0) (value_is name text value.0 value.1) in
    subst (λ w. AreOptions w (values_of final)) (append_assoc before (spelling_of name ∷ text ∷ []) (all_words options))
    (options_are final finals told shown options (before ++ spelling_of name ∷ text ∷ []) (with_named given name value.0) (rows ++ row name text ∷ []) more
    (hold_more rows given name text value.0 fresh.0 value.1 hold) (flags_more rows given name text value.0 flags) fresh.1
    (e ∙ sym (append_assoc rows (row name text ∷ []) (map row_of options))))
options_are final finals told shown (Bare ∷ options) before given rows written hold flags fresh e =
    let more = WithoutValue before given written (not_flagged rows given flags fresh.0) in
    subst (λ w. AreOptions w (values_of final)) (append_assoc before (flag_spelling ∷ []) (all_words options))
    (options_are final finals told shown options (before ++ flag_spelling ∷ []) (with_flag given) (rows ++ flag_row ∷ []) more
    (hold_flag rows given hold) (flags_on rows given fresh.0) fresh.1 (e ∙ sym (append_assoc rows (flag_row ∷ []) (map row_of options))))

none_failed : (kinds : Kinds) → (length kinds == 0) ≡ true → kinds ≡ []
none_failed [] h = refl
none_failed (k ∷ kinds) h =
    let some : (length (k ∷ kinds) == 0) ≡ false = grind (arith, nat_tests) in
    absurd (true≢false (sym h ∙ some))

options_told : (words : List Text) (given : Options) → are_parts false words ≡ true → options_in words ≡ Some given → AreOptions words (values_of given)
unfolding options_in
options_told words given p h =
    let t = under (length (fault_of command words) == 0)
    (given_in (λ name. first_of (bare name) (matches_of command words)) (first_of flag (matches_of command words))) given h in
    let written = are_written words p (sym (fault_is words) ∙ none_failed (fault_of command words) t.0) in
    let rows = rows_at_end (clean []) words in
    let told = given_told (matches_of command words) given t.1 in
    let hold : Hold rows (values_of given) = λ name.
    sym (ap (λ r. value_told name (first_of (bare name) r)) (matches_are words) ∙ ap (value_told name) (default_keeps rows name)) ∙ told.0 name in
    let flags : Flags rows (values_of given) = sym (ap (λ r. is_flagged (first_of flag r)) (matches_are words) ∙ default_flags rows) ∙ told.1 in
    subst (λ w. AreOptions w (values_of given)) (sym written.words_are)
    (options_are given rows hold flags written.options [] no_values [] NoOption none_hold refl written.fresh written.rows_are)

-- ---- the line

-- what is answered is asked for
asked_told : (keypos seed clients lines : Option ℕ) (tree : TreeOptions) (names : List Text) (request : Request)
    → request_with (record { keypos = keypos; seed = seed; clients = clients; lines = lines; tree = tree }) names ≡ Some request
    → IsAsked (record { keypos = keypos; seed = seed; clients = clients; lines = lines; tree = tree }) names request
asked_told keypos (Some seed) (Some clients) (Some lines) tree [] request h =
    let t = tested (unwrap_or keypos 1 == 1) (Generated seed clients lines) request h in
    let one : unwrap_or keypos 1 ≡ 1 = grind (t.0, arith, nat_tests) in
    subst (λ r. IsAsked (record { keypos = keypos; seed = Some seed; clients = Some clients; lines = Some lines; tree = tree }) [] r) t.1
    (ForGenerated keypos seed clients lines tree one)
asked_told keypos None clients lines tree [] request h = neither (unwrap_or keypos 1 == 1) request h
asked_told keypos (Some seed) None lines tree [] request h = neither (unwrap_or keypos 1 == 1) request h
asked_told keypos (Some seed) (Some clients) None tree [] request h = neither (unwrap_or keypos 1 == 1) request h
asked_told keypos None None None tree (name ∷ names) request h =
    let t = tested_not (nat_lt 64 (length (name ∷ names))) (Files (unwrap_or keypos 1) (name ∷ names)) request h in
    let few : length (name ∷ names) ≤ 64 = grind (t.0, arith, nat_tests) in
    subst (λ r. IsAsked (record { keypos = keypos; seed = None; clients = None; lines = None; tree = tree }) (name ∷ names) r) t.1
    (ForFiles keypos tree (name ∷ names) (omega arith) few)
asked_told keypos (Some seed) clients lines tree (name ∷ names) request h = absurd cc
asked_told keypos None (Some clients) lines tree (name ∷ names) request h = absurd cc
asked_told keypos None None (Some lines) tree (name ∷ names) request h = absurd cc

-- the options with what they say of the tree, and the request, behind which these files stand
pub record Asks (options names : List Text) (asking : Asking) : Type 0 where
  given : Values
  written : AreOptions options given
  asked : IsAsked given names asking.0
  tree_is : given.tree ≡ asking.1

paired : (found : Option Request) (tree : TreeOptions) (asking : Asking) → option_map (λ request. (request, tree)) found ≡ Some asking
    → (found ≡ Some asking.0) × (tree ≡ asking.1)
paired None tree asking h = absurd cc
paired (Some request) tree asking h = let same : (request, tree) ≡ asking = inner _ _ h in (ap (λ a. Some a.0) same, ap (λ a. a.1) same)

asks_by : (options names : List Text) (asking : Asking) → are_parts false options ≡ true → (found : Option Options) → options_in options ≡ found
    → option_and_then (λ given. line_with given names) found ≡ Some asking → Asks options names asking
asks_by options names asking p None e h = absurd cc
asks_by options names asking p (Some given) e h =
    let t = paired (request_with given names) given.tree asking h in record {
      given = values_of given;
      written = options_told options given p e;
      asked = asked_told given.keypos given.seed given.clients given.lines given.tree names asking.0 t.0;
      tree_is = t.1;
    }

asks : (options names : List Text) (asking : Asking) → are_parts false options ≡ true
    → option_and_then (λ given. line_with given names) (options_in options) ≡ Some asking → Asks options names asking
asks options names asking p h = asks_by options names asking p (options_in options) refl h

abbrev IsLineOn : List Text → Asking → Type 0
IsLineOn words asking = IsLineOf words asking.0 asking.1

abbrev files_in : Bool → Bool → Text → List Text → Option (List Text)
files_in parting undashed word words = if parting then Some words else (if undashed then Some (word ∷ words) else None)

without_parting : (options names : List Text) (asking : Asking) → are_undashed names ≡ true → Asks options names asking
    → IsLineOn (codes "run" ∷ (options ++ names)) asking
without_parting options names asking u a =
    subst (IsLineOf (codes "run" ∷ (options ++ names)) asking.0) a.tree_is (WithoutParting options names a.given asking.0 a.written u a.asked)

at_files : (options : List Text) (word : Text) (words : List Text) (asking : Asking) (parting undashed : Bool) → are_parts false options ≡ true
    → bytes_eq word (codes "--") ≡ parting → are_undashed (word ∷ words) ≡ undashed
    → option_and_then (λ names. option_and_then (λ given. line_with given names) (options_in options)) (files_in parting undashed word words) ≡ Some asking
    → IsLineOn (codes "run" ∷ (options ++ word ∷ words)) asking
at_files options word words asking true undashed p e u h =
    let a = asks options words asking p h in
    subst (λ w. IsLineOn (codes "run" ∷ (options ++ w ∷ words)) asking) (sym ((bytes_decides word (codes "--")).0 e))
    (subst (IsLineOf (codes "run" ∷ (options ++ codes "--" ∷ words)) asking.0) a.tree_is (WithParting options words a.given asking.0 a.written a.asked))
at_files options word words asking false true p e u h = without_parting options (word ∷ words) asking u (asks options (word ∷ words) asking p h)
at_files options word words asking false false p e u h = absurd cc

between_told : (options rest : List Text) (asking : Asking) → are_parts false options ≡ true → line_between options rest ≡ Some asking
    → IsLineOn (codes "run" ∷ (options ++ rest)) asking
between_told options [] asking p h = without_parting options [] asking refl (asks options [] asking p h)
between_told options (word ∷ words) asking p h =
    at_files options word words asking (bytes_eq word (codes "--")) (are_undashed (word ∷ words)) p refl refl h

told : (words : List Text) (asking : Asking) → line_of words ≡ Some asking → IsLineOn words asking
told [] asking h = absurd cc
told (run ∷ words) asking h =
    let t = under (bytes_eq run (codes "run")) (line_behind words) asking h in
    let line = between_told (take (options_end false words) words) (drop (options_end false words) words) asking (parts_taken false words) t.1 in
    subst (λ w. IsLineOn (w ∷ words) asking) (sym ((bytes_decides run (codes "run")).0 t.0))
    (subst (λ l. IsLineOn (codes "run" ∷ l) asking) (take-append-drop (options_end false words) words) line)

-- What is read is a line, which asks for it.
pub line_told : (words : List Text) (request : Request) (tree : TreeOptions) → line_of words ≡ Some (request, tree) → IsLineOf words request tree
line_told words request tree h = told words (request, tree) h
