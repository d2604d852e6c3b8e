-- Each option, in one word or in two, takes the walk of `clap` one row further.
use Rattle.std.proofs.Common.{◌≡◌, false, List, [], ◌∷◌, ◌++◌, None, sym, ap, ap₂, ◌∙◌, subst, inl, inr}
use Rattle.std.specs.Prelude.{⊤}
use Rattle.clap.specs.Kinds.{or_else}
use Rattle.clap.specs.Walk.{Row, Text, Walk, has_row, settled, used}
use Rattle.clap.specs.Faults.{settle_fault, use_fault}
use Rattle.ca_words.specs.declared.words.Name.{Name}
use Rattle.ca_words.specs.Grammar.{begins_with_dash, flag_spelling, spelling_of}
use Rattle.ca_words.specs.Words.{bare, flag}
use Rattle.ca_words.proofs.Rows.{filled_flag, filled_rule, flag_row, flagged_once, row, used_once}
use Rattle.ca_words.proofs.Parsing.{IsKnown, flag_fault, flag_once, flag_walked, alike, at_end_alone, clean, faults, held_fault, held_of, held_used, holding, joined, joined_fault, joined_walked, once, rows_at_end, rules, spelled_fault, spelled_walked, step, value_fault, value_walked, wanting}

-- the walk fails and ends here as there
abbrev pub IsAsGood : Walk → List Text → Walk → List Text → Type 0
IsAsGood w words v rest = (faults w words ≡ faults v rest) × (rows_at_end w words ≡ rows_at_end v rest)

-- one step behind another
pub as_good : (w v u : Walk) (words rest more : List Text) → IsAsGood w words v rest → IsAsGood v rest u more → IsAsGood w words u more
as_good w v u words rest more a b = (a.0 ∙ b.0, a.1 ∙ b.1)

-- nothing follows, or an option does
abbrev pub Follows : List Text → Type 0
Follows [] = ⊤
Follows (word ∷ words) = IsKnown word

-- an option in one word
pub one_word : (name : Name) (text : Text) (rows : List Row) (words : List Text) → has_row (bare name) rows ≡ false
    → IsAsGood (clean rows) (joined name text ∷ words) (clean (rows ++ row name text ∷ [])) words
one_word name text rows words fresh =
    step (clean rows) (clean (rows ++ row name text ∷ [])) (joined name text) words (joined_fault name text (held_of rows None) ∙ once name text rows fresh)
    (joined_walked name text (held_of rows None) ∙ ap clean (used_once name text rows fresh))

-- the option without a value
pub flag_word : (rows : List Row) (words : List Text) → has_row flag rows ≡ false
    → IsAsGood (clean rows) (flag_spelling ∷ words) (clean (rows ++ flag_row ∷ [])) words
flag_word rows words fresh =
    step (clean rows) (clean (rows ++ flag_row ∷ [])) flag_spelling words (flag_fault (held_of rows None) ∙ flag_once rows fresh)
    (flag_walked (held_of rows None) ∙ ap clean (flagged_once rows fresh))

-- the name of an option alone
pub name_alone : (name : Name) (rows : List Row) (words : List Text) → IsAsGood (clean rows) (spelling_of name ∷ words) (wanting name rows) words
name_alone name rows words =
    step (clean rows) (wanting name rows) (spelling_of name) words (spelled_fault name (held_of rows None)) (spelled_walked name (held_of rows None))

-- its value behind it
pub value_behind : (name : Name) (text : Text) (rows : List Row) (words : List Text) → begins_with_dash text ≡ false
    → IsAsGood (wanting name rows) (text ∷ words) (holding name text rows) words
value_behind name text rows words undashed =
    step (wanting name rows) (holding name text rows) text words (value_fault name text rows undashed) (value_walked name text rows undashed)

-- the value that is held is used well
fine : (name : Name) (text : Text) (rows : List Row) → has_row (bare name) rows ≡ false → settle_fault rules false (holding name text rows).held ≡ []
fine name text rows fresh = held_fault name text rows ∙ once name text rows fresh

used_up : (name : Name) (text : Text) (rows : List Row) → has_row (bare name) rows ≡ false
    → settled rules (holding name text rows).held ≡ held_of (rows ++ row name text ∷ []) None
used_up name text rows fresh = held_used name text rows ∙ ap (λ r. held_of r None) (used_once name text rows fresh)

then_joined : (name : Name) (text : Text) (rows : List Row) (n : Name) (value : Text) (words : List Text) → has_row (bare name) rows ≡ false
    → IsAsGood (holding name text rows) (joined n value ∷ words) (clean (rows ++ row name text ∷ [])) (joined n value ∷ words)
then_joined name text rows n value words fresh =
    let h = (holding name text rows).held in
    let more = held_of (rows ++ row name text ∷ []) None in
    alike (holding name text rows) (clean (rows ++ row name text ∷ [])) (joined n value) words
    (joined_fault n value h ∙ ap₂ (λ k x. or_else k (use_fault false (filled_rule n) (value ∷ []) x.rows)) (fine name text rows fresh)
    (used_up name text rows fresh) ∙ sym (joined_fault n value more))
    (joined_walked n value h ∙ ap (λ x. clean (used (filled_rule n) (value ∷ []) x.rows)) (used_up name text rows fresh) ∙ sym (joined_walked n value more))

then_spelled : (name : Name) (text : Text) (rows : List Row) (n : Name) (words : List Text) → has_row (bare name) rows ≡ false
    → IsAsGood (holding name text rows) (spelling_of n ∷ words) (clean (rows ++ row name text ∷ [])) (spelling_of n ∷ words)
then_spelled name text rows n words fresh =
    let h = (holding name text rows).held in
    let more = held_of (rows ++ row name text ∷ []) None in
    alike (holding name text rows) (clean (rows ++ row name text ∷ [])) (spelling_of n) words
    (spelled_fault n h ∙ fine name text rows fresh ∙ sym (spelled_fault n more))
    (spelled_walked n h ∙ ap (λ x. wanting n x.rows) (used_up name text rows fresh) ∙ sym (spelled_walked n more))

then_flag : (name : Name) (text : Text) (rows : List Row) (words : List Text) → has_row (bare name) rows ≡ false
    → IsAsGood (holding name text rows) (flag_spelling ∷ words) (clean (rows ++ row name text ∷ [])) (flag_spelling ∷ words)
then_flag name text rows words fresh =
    let h = (holding name text rows).held in
    let more = held_of (rows ++ row name text ∷ []) None in
    alike (holding name text rows) (clean (rows ++ row name text ∷ [])) flag_spelling words
    (flag_fault h ∙ ap₂ (λ k x. or_else k (use_fault false filled_flag [] x.rows)) (fine name text rows fresh)
    (used_up name text rows fresh) ∙ sym (flag_fault more))
    (flag_walked h ∙ ap (λ x. clean (used filled_flag [] x.rows)) (used_up name text rows fresh) ∙ sym (flag_walked more))

-- the value that is held is used by the next option, or at the end
pub used_by_next : (name : Name) (text : Text) (rows : List Row) (words : List Text) → has_row (bare name) rows ≡ false → Follows words
    → IsAsGood (holding name text rows) words (clean (rows ++ row name text ∷ [])) words
used_by_next name text rows [] fresh follows = (
  at_end_alone (holding name text rows) ∙ fine name text rows fresh ∙ sym (at_end_alone (clean (rows ++ row name text ∷ []))),
  ap (λ x. x.rows) (used_up name text rows fresh),
)
used_by_next name text rows (word ∷ words) fresh (inl k) =
    subst (λ w. IsAsGood (holding name text rows) (w ∷ words) (clean (rows ++ row name text ∷ [])) (w ∷ words)) (sym k.2)
    (then_joined name text rows k.0 k.1 words fresh)
used_by_next name text rows (word ∷ words) fresh (inr (inl k)) =
    subst (λ w. IsAsGood (holding name text rows) (w ∷ words) (clean (rows ++ row name text ∷ [])) (w ∷ words)) (sym k.1)
    (then_spelled name text rows k.0 words fresh)
used_by_next name text rows (word ∷ words) fresh (inr (inr e)) =
    subst (λ w. IsAsGood (holding name text rows) (w ∷ words) (clean (rows ++ row name text ∷ [])) (w ∷ words)) (sym e)
    (then_flag name text rows words fresh)

-- an option in two words
pub two_words : (name : Name) (text : Text) (rows : List Row) (words : List Text) → has_row (bare name) rows ≡ false → begins_with_dash text ≡ false
    → Follows words → IsAsGood (clean rows) (spelling_of name ∷ text ∷ words) (clean (rows ++ row name text ∷ [])) words
two_words name text rows words fresh undashed follows =
    as_good (clean rows) (wanting name rows) (clean (rows ++ row name text ∷ [])) (spelling_of name ∷ text ∷ words) (text ∷ words) words
    (name_alone name rows (text ∷ words))
    (as_good (wanting name rows) (holding name text rows) (clean (rows ++ row name text ∷ [])) (text ∷ words) words words
    (value_behind name text rows words undashed) (used_by_next name text rows words fresh follows))
