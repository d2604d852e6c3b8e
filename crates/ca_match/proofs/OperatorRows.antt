-- The table of operators, row by row.
use Rattle.std.proofs.Common.{◌≡◌, ℕ, ◌+◌, ◌<◌, suc, Bool, true, false, List, length, drop, map, get_or, Some, refl, ap, sym, ◌∙◌, add-one, drop-cons}
use Rattle.std.specs.Prelude.{bytes_eq, if◌then◌else◌}
use Rattle.ca_match.specs.declared.operator.Operator.{Operator as Code}
use Rattle.ca_match.specs.declared.operator.TheConstants.{OPERATORS}
use Rattle.ca_match.specs.OperatorView.{meaning_of, name_of, named_in}
use Rattle.ca_match.specs.Operators.{Operator, operator_in, operator_of, operators}

rows_are : map (λ c. (name_of c, meaning_of c)) OPERATORS ≡ operators
rows_are = refl

-- The code's list has the rows of the table.
pub table_is : (name : List ℕ) → named_in OPERATORS name ≡ operator_of name
unfolding operator_of
table_is name = ap (λ (rows : List (List ℕ × Operator)). operator_in rows name) rows_are

at_row : (codes : List Code) (k : ℕ) (d : Code) (name : List ℕ) → k < length codes
    → named_in (drop k codes) name
    ≡ (if bytes_eq name (name_of (get_or codes k d)) then Some (meaning_of (get_or codes k d)) else named_in (drop (suc k) codes) name)
at_row codes k d name h = ap (λ (l : List Code). named_in l name) (drop-cons codes k d h)

-- The search ends at the row of the name.
pub row_found : (codes : List Code) (k : ℕ) (d : Code) (name : List ℕ) → k < length codes → bytes_eq name (name_of (get_or codes k d)) ≡ true
    → named_in (drop k codes) name ≡ Some (meaning_of (get_or codes k d))
row_found codes k d name h e =
    at_row codes k d name h ∙ ap (λ (b : Bool). if b then Some (meaning_of (get_or codes k d)) else named_in (drop (suc k) codes) name) e

-- A row of another name is passed.
pub row_passed : (codes : List Code) (k : ℕ) (d : Code) (name : List ℕ) → k < length codes → bytes_eq name (name_of (get_or codes k d)) ≡ false
    → named_in (drop k codes) name ≡ named_in (drop (k + 1) codes) name
row_passed codes k d name h e =
    at_row codes k d name h ∙ ap (λ (b : Bool). if b then Some (meaning_of (get_or codes k d)) else named_in (drop (suc k) codes) name) e
    ∙ ap (λ (n : ℕ). named_in (drop n codes) name) (sym (add-one k))
