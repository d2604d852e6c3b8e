-- How a text is read from the left: a value and the bytes after it, or why and how many bytes before the end no text goes on.
-- The grammar decides what is a text; that these functions read just its texts is a law.
use Rattle.std.specs.Prelude.{◌≡◌, ℕ, zero, suc, ◌+◌, ◌-◌, ◌*◌, ◌^◌, Bool, true, false, not, ◌&&◌, ◌||◌, ◌==◌, nat_le, nat_lt, ℤ, pos, neg_ℤ, Option, None, Some, Result, Ok, Err, List, [], ◌∷◌, ◌++◌, length, take, drop, slice_index, if◌then◌else◌}
use Rattle.std.specs.Char.{is_ascii_digit, is_ascii_hexdigit, is_ascii_lowercase, digit_value}
use Rattle.std.specs.Str.{encode_utf8_all, all_scalars}
use Rattle.bstr.specs.Utf8.{decoded}
use Rattle.ca_term.specs.Tree.{Tree, Integer, Atom, Tuple, Nil, Cons, Binary, row_of, list_of}
use Rattle.ca_text.specs.Bytes.{backslash, close_angle, close_brace, close_bracket, comma, double_quote, minus_sign, open_angle, open_brace, open_bracket, single_quote, vertical_bar, letter_x, line_feed, digit_zero}
use Rattle.ca_text.specs.Text.{is_name_char}
use Rattle.ca_text.specs.Grammar.{Limits, skip, escape_of, points, most_byte}
use Rattle.ca_text.specs.declared.fault.Fault.{Fault}
use Rattle.ca_text.specs.declared.fault.Why.{Why}
use Rattle.ca_text.specs.declared.fault.Why.TheVariants.{Syntax, AtomTooLong, TooDeep, TooWide}
use Rattle.ca_text.specs.declared.fault.Stop.{Stop}
use Rattle.ca_text.specs.declared.fault.Stop.TheVariants as stop

-- a value and the bytes after it, or a fault
abbrev pub Read : Type 0 → Type 0
Read A = Result (A × List ℕ) Fault

infixl 10 ◌>>=◌
abbrev pub ◌>>=◌ : {A B : Type 0} → Result A Fault → (A → Result B Fault) → Result B Fault
(Ok x) >>= f = f x
(Err e) >>= f = Err e

-- what was read before, and what is still read
abbrev pub with_front : {B : Type 0} → List B → Read (List B) → Read (List B)
with_front front read = read >>= λ x. Ok (front ++ x.0, x.1)

-- a fault at the first of these bytes
abbrev pub fault : {A : Type 0} → Why → List ℕ → Result A Fault
fault why bytes = Err (record { why = why; left = length bytes })

abbrev pub syntax_fault : {A : Type 0} → List ℕ → Result A Fault
syntax_fault bytes = fault Syntax bytes

-- What a function returned, seen by view, is what reading gives, unless memory ran out.
abbrev pub Fails : {Y : Type 0} → Stop → Result Y Fault → Type 0
Fails stop.NoMemory read = Unit {0}
Fails (stop.At f) read = read ≡ Err f

abbrev pub Gives : {X Y : Type 0} → (X → Y) → Result X Stop → Result Y Fault → Type 0
Gives view (Ok x) read = read ≡ Ok (view x)
Gives view (Err e) read = Fails e read

-- the bytes after this one
unfoldable pub expect : ℕ → List ℕ → Result (List ℕ) Fault
expect c [] = syntax_fault []
expect c (b ∷ bytes) = if b == c then Ok bytes else syntax_fault (b ∷ bytes)

-- a number of at most so much, with the digits before these worth n
unfoldable pub digits_after : ℕ → ℕ → List ℕ → Read ℕ
digits_after most n [] = Ok (n, [])
digits_after most n (b ∷ bytes) =
    if is_ascii_digit b
    then (if nat_le (n * 10 + (b - digit_zero)) most then digits_after most (n * 10 + (b - digit_zero)) bytes else syntax_fault (b ∷ bytes))
    else Ok (n, b ∷ bytes)

-- one digit or more, of a value of at most so much
unfoldable pub number_at : ℕ → List ℕ → Read ℕ
number_at most [] = syntax_fault []
number_at most (b ∷ bytes) = if is_ascii_digit b then digits_after most 0 (b ∷ bytes) else syntax_fault (b ∷ bytes)

abbrev pub negative_at : List ℕ → Read ℤ
negative_at bytes = number_at (2 ^ 63) bytes >>= λ x. Ok (neg_ℤ (pos x.0), x.1)

abbrev pub positive_at : List ℕ → Read ℤ
positive_at bytes = number_at (2 ^ 63 - 1) bytes >>= λ x. Ok (pos x.0, x.1)

unfoldable pub integer_at : List ℕ → Read ℤ
integer_at [] = syntax_fault []
integer_at (b ∷ bytes) = if b == minus_sign then negative_at bytes else positive_at (b ∷ bytes)

-- how many characters of a name stand at the front
unfoldable pub name_length : List ℕ → ℕ
name_length [] = 0
name_length (b ∷ bytes) = if is_name_char b then suc (name_length bytes) else 0

-- a name of at most so many characters
unfoldable pub name_at : ℕ → List ℕ → Read (List ℕ)
name_at most bytes =
    if nat_le (name_length bytes) most
    then Ok (take (name_length bytes) bytes, drop (name_length bytes) bytes)
    else fault AtomTooLong (drop most bytes)

-- how many bytes at the front begin a code point, where none stands there; bstr counts a first byte that begins none
unfoldable pub begun : List ℕ → ℕ
begun bytes = if nat_le 0xc2 (slice_index bytes 0) && nat_le (slice_index bytes 0) 0xf4 then (decoded bytes).size else 0

-- what is read where this code point stands at the front, or none
unfoldable pub point_of : Option ℕ → List ℕ → Read ℕ
point_of (Some c) bytes = Ok (c, drop (decoded bytes).size bytes)
point_of None bytes = syntax_fault (drop (begun bytes) bytes)

-- a code point in UTF-8
unfoldable pub point_at : List ℕ → Read ℕ
point_at bytes = point_of (decoded bytes).char bytes

-- whether c is a code point, and c <= most
abbrev pub is_point : ℕ → ℕ → Bool
is_point most c = nat_le c most && all_scalars (c ∷ [])

-- whether hexadecimal digits worth c may stand where so many more may follow: then some code point of at most `most` is written so
abbrev pub may_stand : ℕ → ℕ → ℕ → Bool
may_stand most more c = nat_le c most && (nat_lt 0 more || is_point most c)

-- Hexadecimal digits and `}`, with the digits before these worth c, where so many more digits may stand
unfoldable pub hex_after : ℕ → ℕ → ℕ → List ℕ → Read ℕ
hex_after most more c [] = syntax_fault []
hex_after most more c (b ∷ bytes) =
    if is_ascii_hexdigit b && nat_lt 0 more
    then (if may_stand most (more - 1) (c * 16 + digit_value b) then hex_after most (more - 1) (c * 16 + digit_value b) bytes else syntax_fault (b ∷ bytes))
    else (if b == close_brace && is_point most c then Ok (c, bytes) else syntax_fault (b ∷ bytes))

-- what stands after \x
unfoldable pub hex_at : ℕ → List ℕ → Read ℕ
hex_at most [] = syntax_fault []
hex_at most (b ∷ bytes) = if is_ascii_hexdigit b then hex_after most 5 (digit_value b) bytes else syntax_fault (b ∷ bytes)

abbrev pub or_fault : Option ℕ → List ℕ → List ℕ → Read ℕ
or_fault None rest bytes = syntax_fault bytes
or_fault (Some c) rest bytes = Ok (c, rest)

-- what stands after a backslash
unfoldable pub escape_at : ℕ → List ℕ → Read ℕ
escape_at most [] = syntax_fault []
escape_at most (b ∷ bytes) = if b == letter_x then (expect open_brace bytes >>= λ rest. hex_at most rest) else or_fault (escape_of b) bytes (b ∷ bytes)

-- whether a byte begins a code point of at most `most`, as it is or after a backslash, before the closing quote
abbrev pub begins_character : ℕ → ℕ → ℕ → Bool
begins_character close most b = not (b == close || b == line_feed) && (nat_lt b 128 || (nat_lt 127 most && (nat_le 0xc2 b && nat_lt b 0xf5)))

-- a code point of at most `most`
unfoldable pub character_at : ℕ → ℕ → List ℕ → Read ℕ
character_at close most [] = syntax_fault []
character_at close most (b ∷ bytes) =
    if b == backslash then escape_at most bytes
    else (if begins_character close most b then point_at (b ∷ bytes) else syntax_fault (b ∷ bytes))

-- the next code point, or none at the closing quote
unfoldable pub next_point_at : ℕ → ℕ → List ℕ → Read (Option ℕ)
next_point_at close most [] = syntax_fault []
next_point_at close most (b ∷ bytes) = if b == close then Ok (None, bytes) else (character_at close most (b ∷ bytes) >>= λ x. Ok (Some x.0, x.1))

-- the closing quote; a further code point is the fault `over`
unfoldable pub closing_at : Why → ℕ → ℕ → List ℕ → Result (List ℕ) Fault
closing_at over close most [] = syntax_fault []
closing_at over close most (b ∷ bytes) =
    if b == close then Ok bytes
    else (if begins_character close most b then fault over (b ∷ bytes) else syntax_fault (b ∷ bytes))

abbrev pub points_after : (List ℕ → Read (List ℕ)) → Option ℕ × List ℕ → Read (List ℕ)
points_after next (None, rest) = Ok ([], rest)
points_after next (Some c, rest) = next rest >>= λ y. Ok (c ∷ y.0, y.1)

-- Code points up to the closing quote, at most so many. A further one is the fault `over`.
unfoldable pub characters_at : Why → ℕ → ℕ → ℕ → List ℕ → Read (List ℕ)
characters_at over close most zero bytes = closing_at over close most bytes >>= λ rest. Ok ([], rest)
characters_at over close most (suc n) bytes = next_point_at close most bytes >>= λ x. points_after (characters_at over close most n) x

-- the characters of a string, of which there are no more than bytes
abbrev pub string_at : ℕ → List ℕ → Read (List ℕ)
string_at most bytes = characters_at Syntax double_quote most (length bytes) bytes

abbrev pub most_point : ℕ
most_point = 0x10ffff

abbrev pub most_shown : ℕ
most_shown = 127

-- an atom in quotes, behind the first one
abbrev pub quoted_at : ℕ → List ℕ → Read Tree
quoted_at most bytes = characters_at AtomTooLong single_quote most_point most bytes >>= λ x. Ok (Atom (encode_utf8_all x.0), x.1)

abbrev pub one_byte_at : List ℕ → Read (List ℕ)
one_byte_at bytes = number_at most_byte bytes >>= λ x. Ok (x.0 ∷ [], x.1)

-- a part of a binary
unfoldable pub segment_at : List ℕ → Read (List ℕ)
segment_at [] = one_byte_at []
segment_at (b ∷ bytes) = if b == double_quote then string_at most_shown bytes else one_byte_at (b ∷ bytes)

-- Parts one after another, at most so many. A step reads a part and what follows it, and tells whether a further part follows;
-- it is told how many more there may be.
abbrev pub series_rest : {B : Type 0} → List B → (List ℕ → Read (List B)) → Bool → List ℕ → Read (List B)
series_rest front next true rest = next rest >>= λ r. Ok (front ++ r.0, r.1)
series_rest front next false rest = Ok (front, rest)

unfoldable pub series_at : {B : Type 0} → (ℕ → List ℕ → Read (List B × Bool)) → ℕ → List ℕ → Read (List B)
series_at step zero bytes = syntax_fault bytes
series_at step (suc n) bytes = step n bytes >>= λ x. series_rest x.0.0 (series_at step n) x.0.1 x.1

-- what follows a segment: a comma, or the closing brackets
unfoldable pub after_segment_at : List ℕ → Read Bool
after_segment_at [] = syntax_fault []
after_segment_at (b ∷ bytes) =
    if b == comma then Ok (true, skip bytes)
    else (if b == close_angle then (expect close_angle bytes >>= λ rest. Ok (false, rest)) else syntax_fault (b ∷ bytes))

unfoldable pub segment_step : ℕ → List ℕ → Read (List ℕ × Bool)
segment_step n bytes = segment_at bytes >>= λ x. after_segment_at (skip x.1) >>= λ y. Ok ((x.0, y.0), y.1)

-- what stands behind the opening brackets of a binary and the blanks there; there are no more segments than bytes
unfoldable pub bytes_at : List ℕ → Read (List ℕ)
bytes_at [] = syntax_fault []
bytes_at (b ∷ bytes) = if b == close_angle then (expect close_angle bytes >>= λ rest. Ok ([], rest)) else series_at segment_step (length (b ∷ bytes))
    (b ∷ bytes)

-- what follows an element, where there may be so many more: a comma, or the closing brace
unfoldable pub after_element_at : ℕ → List ℕ → Read Bool
after_element_at n [] = syntax_fault []
after_element_at n (b ∷ bytes) =
    if b == comma then (if n == 0 then fault TooWide (b ∷ bytes) else Ok (true, skip bytes))
    else (if b == close_brace then Ok (false, bytes) else syntax_fault (b ∷ bytes))

unfoldable pub element_step : (List ℕ → Read Tree) → ℕ → List ℕ → Read (List Tree × Bool)
element_step element n bytes = element bytes >>= λ x. after_element_at n (skip x.1) >>= λ y. Ok ((x.0 ∷ [], y.0), y.1)

-- what stands behind the opening brace of a tuple and the blanks there
unfoldable pub elements_at : (List ℕ → Read Tree) → ℕ → List ℕ → Read (List Tree)
elements_at element most [] = syntax_fault []
elements_at element most (b ∷ bytes) = if b == close_brace then Ok ([], bytes) else series_at (element_step element) most (b ∷ bytes)

-- what follows a head and blanks
pub data Next : Type 0 where
  -- a comma: at these bytes the next head begins
  Head : List ℕ → Next
  -- a bar and a list that isn't empty: at these bytes its first head begins
  Inner : List ℕ → Next
  -- the last tail and the closing bracket, and then these bytes
  Last : Tree → List ℕ → Next

-- a last tail, and the closing bracket behind it
abbrev pub closed : Read Tree → Result Next Fault
closed tail = tail >>= λ x. expect close_bracket (skip x.1) >>= λ rest. Ok (Last x.0 rest)

-- the tail after a bar, behind an opening bracket and blanks
abbrev pub inner_at : List ℕ → Result Next Fault
inner_at [] = Ok (Inner [])
inner_at (b ∷ bytes) = if b == close_bracket then closed (Ok (Nil, bytes)) else Ok (Inner (b ∷ bytes))

-- the tail after a bar
unfoldable pub tail_at : (List ℕ → Read Tree) → List ℕ → Result Next Fault
tail_at other [] = closed (other [])
tail_at other (b ∷ bytes) = if b == open_bracket then inner_at (skip bytes) else closed (other (b ∷ bytes))

unfoldable pub next_at : (List ℕ → Read Tree) → List ℕ → Result Next Fault
next_at other [] = syntax_fault []
next_at other (b ∷ bytes) =
    if b == comma then Ok (Head (skip bytes))
    else (if b == close_bracket then Ok (Last Nil bytes)
    else (if b == vertical_bar then tail_at other (skip bytes) else syntax_fault (b ∷ bytes)))

-- so many closing brackets, with blanks before each
unfoldable pub brackets_at : ℕ → List ℕ → Result (List ℕ) Fault
brackets_at zero bytes = Ok bytes
brackets_at (suc n) bytes = expect close_bracket (skip bytes) >>= λ rest. brackets_at n rest

-- the rest of a list whose head is known
abbrev pub cells_after : Tree → (List ℕ → Read Tree) → Next → Read Tree
cells_after head cells (Head rest) = cells rest >>= λ x. Ok (Cons head x.0, x.1)
cells_after head cells (Inner rest) = cells rest >>= λ x. expect close_bracket (skip x.1) >>= λ after. Ok (Cons head x.0, after)
cells_after head cells (Last tail rest) = Ok (Cons head tail, rest)

-- a head and what follows it
unfoldable pub cell_step : (element other : List ℕ → Read Tree) → List ℕ → Result (Tree × Next) Fault
cell_step element other bytes = element bytes >>= λ x. next_at other (skip x.1) >>= λ next. Ok (x.0, next)

-- heads and a last tail, up to the closing bracket; of heads there are no more than n
unfoldable pub cells_at : (element other : List ℕ → Read Tree) → ℕ → List ℕ → Read Tree
cells_at element other zero bytes = syntax_fault bytes
cells_at element other (suc n) bytes = cell_step element other bytes >>= λ x. cells_after x.0 (cells_at element other n) x.1

-- what stands behind the opening bracket of a list and the blanks there
unfoldable pub list_at : (element other : List ℕ → Read Tree) → List ℕ → Read Tree
list_at element other [] = syntax_fault []
list_at element other (b ∷ bytes) = if b == close_bracket then Ok (Nil, bytes) else cells_at element other (length (b ∷ bytes)) (b ∷ bytes)

-- heads that were read, in so many lists whose closing brackets are still to come, and the rest of the list
abbrev pub with_heads : List Tree → ℕ → Read Tree → Read Tree
with_heads heads owed read = read >>= λ x. brackets_at owed x.1 >>= λ rest. Ok (list_of heads x.0, rest)

-- whether a byte begins a term
abbrev pub begins_term : ℕ → Bool
begins_term b = ((b == open_brace || b == open_bracket) || (b == double_quote || b == single_quote)) ||
    ((b == open_angle || b == minus_sign) || (is_ascii_digit b || is_ascii_lowercase b))

abbrev pub string_points_at : List ℕ → Read Tree
string_points_at bytes = string_at most_point bytes >>= λ x. Ok (points x.0, x.1)

-- a string, behind the first quote, so many levels above its code points
unfoldable pub points_at : ℕ → List ℕ → Read Tree
points_at zero [] = syntax_fault []
points_at zero (b ∷ bytes) =
    if b == double_quote then Ok (Nil, bytes)
    else (if begins_character double_quote most_point b then fault TooDeep (b ∷ bytes) else syntax_fault (b ∷ bytes))
points_at (suc levels) bytes = string_points_at bytes

abbrev pub tuple_at : (List ℕ → Read Tree) → ℕ → List ℕ → Read Tree
tuple_at element most bytes = elements_at element most bytes >>= λ x. Ok (Tuple (row_of x.0), x.1)

abbrev pub binary_at : List ℕ → Read Tree
binary_at bytes = expect open_angle bytes >>= λ rest. bytes_at (skip rest) >>= λ x. Ok (Binary x.0, x.1)

abbrev pub atom_at : ℕ → List ℕ → Read Tree
atom_at most bytes = name_at most bytes >>= λ x. Ok (Atom x.0, x.1)

abbrev pub integer_term_at : List ℕ → Read Tree
integer_term_at bytes = integer_at bytes >>= λ x. Ok (Integer x.0, x.1)

-- a term that isn't in brackets, so many levels above its elements
unfoldable pub other_at : Limits → (List ℕ → Read Tree) → ℕ → List ℕ → Read Tree
other_at limits element levels [] = integer_term_at []
other_at limits element levels (b ∷ bytes) =
    if b == open_brace then tuple_at element limits.elements (skip bytes)
    else (if b == double_quote then points_at levels bytes
    else (if b == single_quote then quoted_at limits.characters bytes
    else (if b == open_angle then binary_at bytes
    else (if is_ascii_lowercase b then atom_at limits.characters (b ∷ bytes)
    else integer_term_at (b ∷ bytes)))))

-- a term in brackets, or another one
abbrev pub bracketed : (list other : List ℕ → Read Tree) → List ℕ → Read Tree
bracketed list other [] = other []
bracketed list other (b ∷ bytes) = if b == open_bracket then list (skip bytes) else other (b ∷ bytes)

-- no term may stand here
abbrev pub too_deep : List ℕ → Read Tree
too_deep [] = syntax_fault []
too_deep (b ∷ bytes) = if begins_term b then fault TooDeep (b ∷ bytes) else syntax_fault (b ∷ bytes)

-- a term of at most so many levels
unfoldable pub term_at : Limits → ℕ → List ℕ → Read Tree
term_at limits zero bytes = too_deep bytes
term_at limits (suc levels) bytes =
    let element = term_at limits levels in
    let other = other_at limits element levels in
    bracketed (list_at element other) other bytes
