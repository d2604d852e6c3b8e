-- What `clap` keeps of an option that was not used before, and what is found in its rows.
use Rattle.std.proofs.Common.{◌≡◌, Bool, true, false, List, [], ◌∷◌, ◌++◌, Some, None, refl, sym, ap, ◌∙◌, append-nil}
use Rattle.std.specs.Prelude.{◌||◌, codes}
use Rattle.std.specs.Str.{bytes_eq}
use Rattle.clap.specs.Walk.{Row, Rule, Text, at_row, first_of, has_row, more_values, reading_by, used}
use Rattle.clap.specs.Simple.{filled, with_index}
use Rattle.clap.specs.declared.builder.value_parser.Reading.TheVariants.{AsWritten}
use Rattle.clap.specs.declared.parser.matches.ValueSource.TheVariants.{CommandLine}
use Rattle.ca_words.specs.declared.words.Name.{Name}
use Rattle.ca_words.specs.Words.{bare, flag, flag_rule, rule}

-- the option as `clap` builds it
abbrev pub filled_rule : Name → Rule
filled_rule name = with_index 1 (filled (rule name))

-- an option with its text
abbrev pub row : Name → Text → Row
row name text = record {
  id = bare name;
  values = text ∷ [];
  count = None;
  source = Some CommandLine;
  reading = AsWritten;
}

-- the option without a value, as it builds it
abbrev pub filled_flag : Rule
filled_flag = with_index 1 (filled flag_rule)

-- its row where it was given
abbrev pub flag_row : Row
flag_row = record {
  id = flag;
  values = codes "true" ∷ [];
  count = None;
  source = Some CommandLine;
  reading = reading_by filled_flag;
}

-- where neither of two holds
pub first_not : (a b : Bool) → (a || b) ≡ false → a ≡ false
first_not true b h = h
first_not false b h = refl

pub second_not : (a b : Bool) → (a || b) ≡ false → b ≡ false
second_not true b h = absurd cc
second_not false b h = h

-- where there is no row of this name, one more stands at the end
pub at_end : (id : Text) (change : Row → List Row) (missing rows : List Row) → has_row id rows ≡ false → at_row id change missing rows ≡ rows ++ missing
at_end id change missing [] fresh = refl
at_end id change missing (r ∷ rows) fresh =
    let other = first_not (bytes_eq r.id id) (has_row id rows) fresh in
    rw other (ap (λ l. r ∷ l) (at_end id change missing rows (second_not (bytes_eq r.id id) (has_row id rows) fresh)))

-- the first use of an option adds its row at the end
pub used_once : (name : Name) (text : Text) (rows : List Row) → has_row (bare name) rows ≡ false
    → used (filled_rule name) (text ∷ []) rows ≡ rows ++ row name text ∷ []
used_once name text rows fresh =
    ap (at_row (bare name) (more_values CommandLine (text ∷ [])) (row name text ∷ [])) (at_end (bare name) (λ _. []) [] rows fresh ∙ append-nil rows)
    ∙ at_end (bare name) (more_values CommandLine (text ∷ [])) (row name text ∷ []) rows fresh

-- so does that of the option without a value
pub flagged_once : (rows : List Row) → has_row flag rows ≡ false → used filled_flag [] rows ≡ rows ++ flag_row ∷ []
flagged_once rows fresh =
    ap (at_row flag (more_values CommandLine (codes "true" ∷ [])) (flag_row ∷ [])) (at_end flag (λ _. []) [] rows fresh ∙ append-nil rows)
    ∙ at_end flag (more_values CommandLine (codes "true" ∷ [])) (flag_row ∷ []) rows fresh

-- behind rows of other names the first one is found
pub found_behind : (id : Text) (rows more : List Row) → has_row id rows ≡ false → first_of id (rows ++ more) ≡ first_of id more
found_behind id [] more fresh = refl
found_behind id (r ∷ rows) more fresh =
    let other = first_not (bytes_eq r.id id) (has_row id rows) fresh in
    rw other (found_behind id rows more (second_not (bytes_eq r.id id) (has_row id rows) fresh))

-- where there is no row, nothing is found
pub none_found : (id : Text) (rows : List Row) → has_row id rows ≡ false → first_of id rows ≡ None
none_found id rows fresh = ap (first_of id) (sym (append-nil rows)) ∙ found_behind id rows [] fresh

at_first : (id : Text) (r : Row) (rows more : List Row) (b : Bool) → bytes_eq r.id id ≡ b → first_of id (rows ++ more) ≡ first_of id rows
    → first_of id (r ∷ (rows ++ more)) ≡ first_of id (r ∷ rows)
at_first id r rows more true e next = rw e refl
at_first id r rows more false e next = rw e next

-- a row of another name behind the rows changes nothing
pub found_before : (id : Text) (rows : List Row) (r : Row) → bytes_eq r.id id ≡ false → first_of id (rows ++ r ∷ []) ≡ first_of id rows
found_before id [] r other = rw other refl
found_before id (s ∷ rows) r other = at_first id s rows (r ∷ []) (bytes_eq s.id id) refl (found_before id rows r other)

or_assoc : (a b c : Bool) → (a || (b || c)) ≡ ((a || b) || c)
or_assoc true b c = refl
or_assoc false b c = refl

-- one row more
pub has_row_more : (id : Text) (rows : List Row) (r : Row) → has_row id (rows ++ r ∷ []) ≡ (has_row id rows || bytes_eq r.id id)
has_row_more id [] r = or_none (bytes_eq r.id id)
  where
    or_none : (a : Bool) → (a || false) ≡ a
    or_none true = refl
    or_none false = refl
has_row_more id (s ∷ rows) r = ap (λ b. bytes_eq s.id id || b) (has_row_more id rows r) ∙ or_assoc (bytes_eq s.id id) (has_row id rows) (bytes_eq r.id id)
