-- The one printed text of a term, as bytes in UTF-8. It is in Erlang's notation.
-- Source: the Erlang reference manual, "Data Types"; the list of reserved words is this project's own.
use Rattle.std.specs.Prelude.{ℕ, Bool, false, not, ◌&&◌, ◌||◌, ◌==◌, nat_le, List, [], ◌∷◌, ◌++◌, flat_map, codes, decimal, bytes_eq, chars, encode_utf8, if◌then◌else◌}
use Rattle.std.specs.List.{list_all, list_any}
use Rattle.std.specs.Char.{is_control, is_ascii_lowercase, is_ascii_alphanumeric}
use Rattle.std.specs.Fmt.{digits, signed_decimal}
use Rattle.std.specs.Str.{byte}
use Rattle.ca_term.specs.Tree.{Tree, Row, Integer, Atom, Tuple, Nil, Cons, Binary, Ends, More}
use Rattle.ca_text.specs.Bytes.{at_sign, backslash, carriage_return, double_quote, line_feed, single_quote, tab, underscore}

-- a letter of ASCII, a digit, `_` or `@`
abbrev pub is_name_char : ℕ → Bool
is_name_char c = is_ascii_alphanumeric c || c == underscore || c == at_sign

-- a letter a to z, then such characters
abbrev pub has_plain_form : List ℕ → Bool
has_plain_form [] = false
has_plain_form (c ∷ cs) = is_ascii_lowercase c && list_all is_name_char cs

abbrev pub reserved_words : List (List ℕ)
reserved_words =
    codes "after" ∷ codes "and" ∷ codes "andalso" ∷ codes "band" ∷ codes "begin" ∷ codes "bnot" ∷ codes "bor" ∷ codes "bsl"
    ∷ codes "bsr" ∷ codes "bxor" ∷ codes "case" ∷ codes "catch" ∷ codes "cond" ∷ codes "div" ∷ codes "else" ∷ codes "end"
    ∷ codes "fun" ∷ codes "if" ∷ codes "let" ∷ codes "maybe" ∷ codes "not" ∷ codes "of" ∷ codes "or" ∷ codes "orelse"
    ∷ codes "receive" ∷ codes "rem" ∷ codes "try" ∷ codes "when" ∷ codes "xor" ∷ []

unfoldable pub is_reserved : List ℕ → Bool
is_reserved text = list_any (λ word. bytes_eq word text) reserved_words

-- whether an atom of this text is written without quotes
abbrev pub is_plain_atom : List ℕ → Bool
is_plain_atom text = has_plain_form text && not (is_reserved text)

-- a character's code in hexadecimal digits
abbrev pub code_escape : ℕ → List ℕ
code_escape c = codes "\\x{" ++ digits 16 false c ++ codes "}"

-- a character between single quotes
unfoldable pub escaped_char : ℕ → List ℕ
escaped_char c =
    if c == backslash then codes "\\\\"
    else (if c == single_quote then codes "\\'"
    else (if c == line_feed then codes "\\n"
    else (if c == carriage_return then codes "\\r"
    else (if c == tab then codes "\\t"
    else (if is_control c then code_escape c
    else encode_utf8 c)))))

unfoldable pub quoted : List ℕ → List ℕ
quoted text = codes "'" ++ flat_map escaped_char (chars text) ++ codes "'"

unfoldable pub atom_text : List ℕ → List ℕ
atom_text text = if is_plain_atom text then text else quoted text

-- a byte that a binary shows between double quotes
abbrev pub is_printable : ℕ → Bool
is_printable b = nat_le (byte " ") b && nat_le b (byte "~")

-- a byte that stands between double quotes as it is
abbrev pub is_bare : ℕ → Bool
is_bare b = not (b == double_quote) && not (b == backslash)

-- `"` and `\` after a backslash, any other printable byte as it is
unfoldable pub escaped_byte : ℕ → List ℕ
escaped_byte b = if b == double_quote || b == backslash then backslash ∷ b ∷ [] else b ∷ []

unfoldable pub binary_text : List ℕ → List ℕ
binary_text [] = codes "<<>>"
binary_text (b ∷ bs) =
    if list_all is_printable (b ∷ bs)
    then codes "<<\"" ++ flat_map escaped_byte (b ∷ bs) ++ codes "\">>"
    else codes "<<" ++ decimal b ++ flat_map (λ n. codes "," ++ decimal n) bs ++ codes ">>"

-- the end of a list whose last tail, of this text, is not `[]`
abbrev pub bar_text : List ℕ → List ℕ
bar_text text = codes "|" ++ text ++ codes "]"

abbrev mutual
  pub text_of : Tree → List ℕ
  text_of (Integer n) = signed_decimal n
  text_of (Atom text) = atom_text text
  text_of (Tuple row) = codes "{" ++ row_text row ++ codes "}"
  text_of Nil = codes "[]"
  text_of (Cons head tail) = codes "[" ++ text_of head ++ tail_text tail
  text_of (Binary bytes) = binary_text bytes

  -- what follows a list's head
  pub tail_text : Tree → List ℕ
  tail_text (Integer n) = bar_text (signed_decimal n)
  tail_text (Atom text) = bar_text (atom_text text)
  tail_text (Tuple row) = bar_text (codes "{" ++ row_text row ++ codes "}")
  tail_text Nil = codes "]"
  tail_text (Cons head tail) = codes "," ++ text_of head ++ tail_text tail
  tail_text (Binary bytes) = bar_text (binary_text bytes)

  -- the elements, with commas between them
  pub row_text : Row → List ℕ
  row_text Ends = []
  row_text (More t row) = text_of t ++ more_text row

  -- the elements after the first
  pub more_text : Row → List ℕ
  more_text Ends = []
  more_text (More t row) = codes "," ++ text_of t ++ more_text row
