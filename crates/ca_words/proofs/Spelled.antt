-- Lines of the grammar are read as what they ask for.
use Rattle.std.proofs.Common.{◌≡◌, ℕ, ◌+◌, true, false, suc, List, [], ◌∷◌, ◌++◌, length, take, drop, None, Some, refl, sym, arith, ap, ◌∙◌, subst, inl, inr, append_assoc, append-nil}
use Rattle.std.proofs.Math.Seq.{drop-append_seam, take-append_seam}
use Rattle.std.proofs.lemmas.Bool.Decides.{nat_tests}
use Rattle.std.proofs.lemmas.Grind.{common_steps}
use Rattle.std.proofs.lemmas.List.{length-append}
use Rattle.std.specs.Prelude.{codes, is_some, option_map}
use Rattle.std.specs.Str.{bytes_eq}
use Rattle.clap.specs.Walk.{Row, Text, has_row, with_default}
use Rattle.clap.specs.Words.{fault_of}
use Rattle.ca_words.specs.declared.tree.TreeOptions.{TreeOptions}
use Rattle.ca_words.specs.declared.words.Name.{Name}
use Rattle.ca_words.specs.declared.words.Name.TheVariants.{Keypos, Seed, Clients, Lines, Rows, Levels, Leaf, High, Low, Calm, Heat}
use Rattle.ca_words.specs.Grammar.{Values, IsValue, AreOptions, NoOption, InOneWord, InTwoWords, WithoutValue, flag_spelling, with_flag, IsAsked, ForFiles, ForGenerated, IsLineOf, WithoutParting, WithParting, Request, are_undashed, begins_with_dash, spelling_of, value_named, with_named}
use Rattle.ca_words.specs.Words.{bare, command, flag, value_told, names_in, options_end, options_in, line_behind, line_between, line_of, line_with, request_with}
use Rattle.ca_words.proofs.Choices.{first_holds, not_holds}
use Rattle.ca_words.proofs.Given.{AreSame, Flags, Hold, IsSameFlag, default_flags, default_keeps, flag_same_more, flag_same_on, flags_more, flags_on, given_read, hold_flag, hold_more, same_flag, none_hold, none_same, not_option, options_of, same_more, value_read, value_undashed}
use Rattle.ca_words.proofs.Parsing.{at_end_alone, clean, fault_is, joined, matches_are}
use Rattle.ca_words.proofs.Rows.{filled_flag, flag_row, row}
use Rattle.ca_words.proofs.Steps.{Follows, IsAsGood, as_good, flag_word, one_word, two_words}

-- ---- where the options end

joined_counted : (name : Name) (text : Text) (rest : List Text) → options_end false (joined name text ∷ rest) ≡ suc (options_end false rest)
unfolding options_end
joined_counted Keypos text rest = refl
joined_counted Seed text rest = refl
joined_counted Clients text rest = refl
joined_counted Lines text rest = refl
joined_counted Rows text rest = refl
joined_counted Levels text rest = refl
joined_counted Leaf text rest = refl
joined_counted High text rest = refl
joined_counted Low text rest = refl
joined_counted Calm text rest = refl
joined_counted Heat text rest = refl

value_counted : (text : Text) (rest : List Text) → begins_with_dash text ≡ false → options_end true (text ∷ rest) ≡ suc (options_end false rest)
unfolding options_end
value_counted text rest undashed = rw (not_option text undashed, undashed) refl

spelled_counted : (name : Name) (words : List Text) → options_end false (spelling_of name ∷ words) ≡ suc (options_end true words)
unfolding options_end
spelled_counted Keypos words = refl
spelled_counted Seed words = refl
spelled_counted Clients words = refl
spelled_counted Lines words = refl
spelled_counted Rows words = refl
spelled_counted Levels words = refl
spelled_counted Leaf words = refl
spelled_counted High words = refl
spelled_counted Low words = refl
spelled_counted Calm words = refl
spelled_counted Heat words = refl

flag_counted : (rest : List Text) → options_end false (flag_spelling ∷ rest) ≡ suc (options_end false rest)
unfolding options_end
flag_counted rest = refl

-- ---- options

record AreRead (words : List Text) (given : Values) : Type 0 where
  rows : List Row
  hold : Hold rows given
  flags : Flags rows given
  same : AreSame rows given
  same_shape : IsSameFlag rows given
  goes : (rest : List Text) → Follows rest → IsAsGood (clean []) (words ++ rest) (clean rows) rest
  ends : (rest : List Text) → options_end false (words ++ rest) ≡ length words + options_end false rest

-- one more option behind these
with_option : (words : List Text) (given : Values) (name : Name) (text : Text) (value : ℕ) (option : List Text) → AreRead words given
    → value_named given name ≡ None → IsValue name text value
    → ((rows : List Row) (rest : List Text) → has_row (bare name) rows ≡ false → Follows rest
    → Follows (option ++ rest) × IsAsGood (clean rows) (option ++ rest) (clean (rows ++ row name text ∷ [])) rest)
    → ((rest : List Text) → options_end false (option ++ rest) ≡ length option + options_end false rest)
    → AreRead (words ++ option) (with_named given name value)
with_option words given name text value option earlier none v goes ends =
    let fresh : has_row (bare name) earlier.rows ≡ false = earlier.same name ∙ ap is_some none in
    record {
      rows = earlier.rows ++ row name text ∷ [];
      hold = hold_more earlier.rows given name text value fresh (value_read name text value v) earlier.hold;
      flags = flags_more earlier.rows given name text value earlier.flags;
      same = same_more earlier.rows given name text value earlier.same;
      same_shape = flag_same_more earlier.rows given name text value earlier.same_shape;
      goes = λ rest follows.
          let next = goes earlier.rows rest fresh follows in
          subst (λ l. IsAsGood (clean []) l (clean (earlier.rows ++ row name text ∷ [])) rest) (sym (append_assoc words option rest))
          (as_good (clean []) (clean earlier.rows) (clean (earlier.rows ++ row name text ∷ [])) (words ++ (option ++ rest)) (option ++ rest) rest
          (earlier.goes (option ++ rest) next.0) next.1);
      ends = λ rest.
          let all = ap (options_end false) (append_assoc words option rest) ∙ earlier.ends (option ++ rest) in
          omega (arith, all, ends rest, length-append words option);
    }

with_shape : (words : List Text) (given : Values) → AreRead words given → given.tree.shape ≡ false → AreRead (words ++ flag_spelling ∷ []) (with_flag given)
with_shape words given earlier none =
    let fresh : has_row flag earlier.rows ≡ false = earlier.same_shape ∙ none in
    record {
      rows = earlier.rows ++ flag_row ∷ [];
      hold = hold_flag earlier.rows given earlier.hold;
      flags = flags_on earlier.rows given fresh;
      same = same_flag earlier.rows given earlier.same;
      same_shape = flag_same_on earlier.rows given;
      goes = λ rest follows.
          subst (λ l. IsAsGood (clean []) l (clean (earlier.rows ++ flag_row ∷ [])) rest) (sym (append_assoc words (flag_spelling ∷ []) rest))
          (as_good (clean []) (clean earlier.rows) (clean (earlier.rows ++ flag_row ∷ [])) (words ++ flag_spelling ∷ rest) (flag_spelling ∷ rest) rest
          (earlier.goes (flag_spelling ∷ rest) (inr (inr refl))) (flag_word earlier.rows rest fresh));
      ends = λ rest.
          let all = ap (options_end false) (append_assoc words (flag_spelling ∷ []) rest) ∙ earlier.ends (flag_spelling ∷ rest) in
          let one = flag_counted rest in
          omega (arith, all, one, length-append words (flag_spelling ∷ []));
    }

options_read : (options : List Text) (given : Values) → AreOptions options given → AreRead options given
options_read options given NoOption = record {
  rows = [];
  hold = none_hold;
  flags = refl;
  same = none_same;
  same_shape = refl;
  goes = λ rest follows. (refl, refl);
  ends = λ rest. omega arith;
}
options_read options given (InOneWord words before name text value earlier none v) =
    with_option words before name text value (joined name text ∷ []) (options_read words before earlier) none v
    (λ rows rest fresh follows. (inl (name, text, refl), one_word name text rows rest fresh))
    (λ rest. let e = joined_counted name text rest in omega (arith, e))
options_read options given (InTwoWords words before name text value earlier none v) =
    let undashed = value_undashed name text value v in
    with_option words before name text value (spelling_of name ∷ text ∷ []) (options_read words before earlier) none v
    (λ rows rest fresh follows. (inr (inl (name, refl)), two_words name text rows rest fresh undashed follows))
    (λ rest. let e = spelled_counted name (text ∷ rest) ∙ ap (λ n. suc n) (value_counted text rest undashed) in omega (arith, e))
options_read options given (WithoutValue words before earlier none) = with_shape words before (options_read words before earlier) none

-- options give their values
values_read : (options : List Text) (given : Values) → AreRead options given → options_in options ≡ Some (options_of given)
unfolding options_in
values_read options given r =
    let goes = r.goes [] tt in
    let walk = subst (λ l. IsAsGood (clean []) l (clean r.rows) []) (append-nil options) goes in
    let none : fault_of command options ≡ [] = fault_is options ∙ walk.0 ∙ at_end_alone (clean r.rows) in
    let rows = with_default r.rows filled_flag in
    let hold : Hold rows given = λ name. ap (value_told name) (default_keeps r.rows name) ∙ r.hold name in
    let flags : Flags rows given = default_flags r.rows ∙ r.flags in
    rw (none, matches_are options ∙ ap (λ w. with_default w filled_flag) walk.1) (given_read rows given hold flags)

-- ---- the line

-- what is asked for is answered
asked_read : (given : Values) (names : List Text) (request : Request) → IsAsked given names request
    → request_with (options_of given) names ≡ Some request
asked_read given names request (ForFiles keypos tree [] some few) = absurd (omega (arith, some))
asked_read given names request (ForFiles keypos tree (name ∷ others) some few) = grind (few, arith, nat_tests, common_steps)
asked_read given names request (ForGenerated keypos seed clients lines tree one) = rw one refl

-- where no option stands behind the options, they end there
behind_read : (options rest names : List Text) (given : Values) (request : Request) → AreOptions options given → options_end false rest ≡ 0
    → names_in rest ≡ Some names → IsAsked given names request → line_behind (options ++ rest) ≡ Some (request, given.tree)
behind_read options rest names given request written ends files asked =
    let r = options_read options given written in
    let count : options_end false (options ++ rest) ≡ length options = let e = r.ends rest in omega (arith, e, ends) in
    let line : line_with (options_of given) names ≡ Some (request, given.tree) =
    ap (option_map (λ q. (q, given.tree))) (asked_read given names request asked) in
    let between : line_between options rest ≡ Some (request, given.tree) = rw (files, values_read options given r) line in
    ap (λ n. line_between (take n (options ++ rest)) (drop n (options ++ rest))) count
    ∙ ap (λ l. line_between l (drop (length options) (options ++ rest))) (take-append_seam options rest)
    ∙ ap (line_between options) (drop-append_seam options rest) ∙ between

-- files without a parting word before them
no_option : (names : List Text) → are_undashed names ≡ true → options_end false names ≡ 0
unfolding options_end
no_option [] undashed = refl
no_option (name ∷ names) undashed = rw (not_option name (not_holds _ (first_holds _ _ undashed))) refl

no_parting : (name : Text) → begins_with_dash name ≡ false → bytes_eq name (codes "--") ≡ false
no_parting [] undashed = refl
no_parting (b ∷ bytes) undashed = rw undashed refl

files_read : (names : List Text) → are_undashed names ≡ true → names_in names ≡ Some names
files_read [] undashed = refl
files_read (name ∷ names) undashed = rw (no_parting name (not_holds _ (first_holds _ _ undashed)), undashed) refl

parting_ends : (names : List Text) → options_end false (codes "--" ∷ names) ≡ 0
unfolding options_end
parting_ends names = refl

-- Each line of the grammar is read as what it asks for.
pub line_read : (words : List Text) (request : Request) (tree : TreeOptions) → IsLineOf words request tree → line_of words ≡ Some (request, tree)
line_read words request _ (WithoutParting options names given _ written undashed asked) =
    behind_read options names names given request written (no_option names undashed) (files_read names undashed) asked
line_read words request _ (WithParting options names given _ written asked) =
    behind_read options (codes "--" ∷ names) names given request written (parting_ends names) refl asked
