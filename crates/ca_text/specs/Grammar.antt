-- The texts of terms that are read, as a relation between bytes in UTF-8 and terms. It is apart from the reader.
-- Source: the Erlang reference manual, "Data Types", in this project's profile.
use Rattle.std.specs.Prelude.{◌≡◌, ◌≢◌, ℕ, suc, ◌<◌, ◌≤◌, ◌^◌, Bool, true, false, ◌&&◌, ◌||◌, ◌==◌, ℤ, pos, neg_ℤ, Option, None, Some, List, [], ◌∷◌, ◌++◌, length, take, drop, encode_utf8, codes, if◌then◌else◌}
use Rattle.std.specs.List.{list_all}
use Rattle.std.specs.Char.{IsScalar, is_ascii, is_ascii_digit, is_ascii_lowercase}
use Rattle.std.specs.Str.{encode_utf8_all}
use Rattle.std.specs.Str.Parse.{IsNumeral, digits_value}
use Rattle.ca_term.specs.Tree.{Tree, Row, Integer, Atom, Tuple, Nil, Cons, Binary, Ends, More, size}
use Rattle.ca_term.specs.declared.bounds.TheConstants.{MOST_CODE_POINTS, MOST_ELEMENTS}
use Rattle.ca_text.specs.Bytes.{backslash, carriage_return, comma, double_quote, letter_n, letter_r, letter_s, letter_t, line_feed, minus_sign, single_quote, space, tab, vertical_bar}
use Rattle.ca_text.specs.declared.bounds.TheConstants.{MOST_LEVELS}
use Rattle.ca_text.specs.Text.{has_plain_form, is_name_char}

-- how many elements a tuple has at most, and how many code points an atom
pub record Limits : Type 0 where
  pub elements : ℕ
  pub characters : ℕ

-- space and tab; they may stand between any two tokens, and not before the first or after the last
abbrev pub is_blank : ℕ → Bool
is_blank b = b == space || b == tab

abbrev pub AreBlanks : List ℕ → Type 0
AreBlanks bytes = list_all is_blank bytes ≡ true

-- the bytes after the blanks at the front
unfoldable pub skip : List ℕ → List ℕ
skip [] = []
skip (b ∷ bytes) = if is_blank b then skip bytes else b ∷ bytes

-- `-` or nothing, and decimal digits, of a value within 64 bits
pub data IsInteger : List ℕ → ℤ → Type 0 where
  FromZero : (digits : List ℕ) → IsNumeral 10 digits → digits_value 10 digits < 2 ^ 63 → IsInteger digits (pos (digits_value 10 digits))
  Negative : (digits : List ℕ) → IsNumeral 10 digits → digits_value 10 digits ≤ 2 ^ 63 → IsInteger (codes "-" ++ digits) (neg_ℤ (pos (digits_value 10 digits)))

-- what a letter after a backslash stands for: \\ \' \" \n \r \t \s
abbrev pub escape_of : ℕ → Option ℕ
escape_of letter =
    if letter == backslash then Some backslash
    else (if letter == single_quote then Some single_quote
    else (if letter == double_quote then Some double_quote
    else (if letter == letter_n then Some line_feed
    else (if letter == letter_r then Some carriage_return
    else (if letter == letter_t then Some tab
    else (if letter == letter_s then Some space
    else None))))))

-- A code point between quotes: itself, unless it is the closing quote, the backslash or a line feed; a letter after a
-- backslash; or \x{H} with one to six hexadecimal digits.
pub data IsCharacter : ℕ → List ℕ → ℕ → Type 0 where
  Itself : (close c : ℕ) → IsScalar c → c ≢ close → c ≢ backslash → c ≢ line_feed → IsCharacter close (encode_utf8 c) c
  Escaped : (close letter c : ℕ) → escape_of letter ≡ Some c → IsCharacter close (backslash ∷ letter ∷ []) c
  Hexadecimal : (close : ℕ) (digits : List ℕ) → IsNumeral 16 digits → length digits ≤ 6 → IsScalar (digits_value 16 digits)
      → IsCharacter close (codes "\\x{" ++ digits ++ codes "}") (digits_value 16 digits)

-- code points one after another, and the closing quote
pub data AreCharacters : ℕ → List ℕ → List ℕ → Type 0 where
  Closed : (close : ℕ) → AreCharacters close (close ∷ []) []
  OneMore : (close c : ℕ) (first rest cs : List ℕ) → IsCharacter close first c → AreCharacters close rest cs → AreCharacters close (first ++ rest) (c ∷ cs)

-- an atom, plain or in single quotes
pub data IsAtom : Limits → List ℕ → List ℕ → Type 0 where
  Plain : (limits : Limits) (name : List ℕ) → has_plain_form name ≡ true → length name ≤ limits.characters → IsAtom limits name name
  Quoted : (limits : Limits) (text cs : List ℕ) → AreCharacters single_quote text cs → length cs ≤ limits.characters
      → IsAtom limits (codes "'" ++ text) (encode_utf8_all cs)

abbrev pub most_byte : ℕ
most_byte = 255

-- a part of a binary: a byte in decimal digits, or code points of ASCII in double quotes
pub data IsSegment : List ℕ → List ℕ → Type 0 where
  OneByte : (digits : List ℕ) → IsNumeral 10 digits → digits_value 10 digits ≤ most_byte → IsSegment digits (digits_value 10 digits ∷ [])
  Shown : (text cs : List ℕ) → AreCharacters double_quote text cs → list_all is_ascii cs ≡ true → IsSegment (codes "\"" ++ text) cs

-- segments with commas between them, and `>>`
pub data AreSegments : List ℕ → List ℕ → Type 0 where
  LastSegment : (text blanks bytes : List ℕ) → IsSegment text bytes → AreBlanks blanks → AreSegments (text ++ (blanks ++ codes ">>")) bytes
  MoreSegments : (text before after rest bytes others : List ℕ) → IsSegment text bytes → AreBlanks before → AreBlanks after → AreSegments rest others
      → AreSegments (text ++ (before ++ comma ∷ (after ++ rest))) (bytes ++ others)

-- the list of these code points
abbrev pub points : List ℕ → Tree
points [] = Nil
points (c ∷ cs) = Cons (Integer (pos c)) (points cs)

mutual
  -- The texts of terms of at most so many levels: an element of a tuple and a head of a list stand one level below it, and a
  -- tail on the same level.
  pub data IsTextOf : Limits → ℕ → List ℕ → Tree → Type 0 where
    AnInteger : (limits : Limits) (levels : ℕ) (text : List ℕ) (n : ℤ) → IsInteger text n → IsTextOf limits (suc levels) text (Integer n)
    AnAtom : (limits : Limits) (levels : ℕ) (text name : List ℕ) → IsAtom limits text name → IsTextOf limits (suc levels) text (Atom name)
    NoElements : (limits : Limits) (levels : ℕ) (blanks : List ℕ) → AreBlanks blanks
        → IsTextOf limits (suc levels) (codes "{" ++ blanks ++ codes "}") (Tuple Ends)
    ATuple : (limits : Limits) (levels : ℕ) (blanks rest : List ℕ) (row : Row) → AreBlanks blanks → AreElements limits levels rest row
        → size row ≤ limits.elements
        → IsTextOf limits (suc levels) (codes "{" ++ blanks ++ rest) (Tuple row)
    ANil : (limits : Limits) (levels : ℕ) (blanks : List ℕ) → AreBlanks blanks → IsTextOf limits (suc levels) (codes "[" ++ blanks ++ codes "]") Nil
    AList : (limits : Limits) (levels : ℕ) (blanks rest : List ℕ) (t : Tree) → AreBlanks blanks → AreCells limits levels rest t
        → IsTextOf limits (suc levels) (codes "[" ++ blanks ++ rest) t
    NoString : (limits : Limits) (levels : ℕ) → IsTextOf limits (suc levels) (codes "\"\"") Nil
    -- its code points stand one level below it, as a list's heads do
    AString : (limits : Limits) (levels c : ℕ) (text cs : List ℕ) → AreCharacters double_quote text (c ∷ cs)
        → IsTextOf limits (suc (suc levels)) (codes "\"" ++ text) (points (c ∷ cs))
    NoBytes : (limits : Limits) (levels : ℕ) (blanks : List ℕ) → AreBlanks blanks
        → IsTextOf limits (suc levels) (codes "<<" ++ blanks ++ codes ">>") (Binary [])
    ABinary : (limits : Limits) (levels : ℕ) (blanks rest bytes : List ℕ) → AreBlanks blanks → AreSegments rest bytes
        → IsTextOf limits (suc levels) (codes "<<" ++ blanks ++ rest) (Binary bytes)

  -- the elements of a tuple with commas between them, and `}`
  pub data AreElements : Limits → ℕ → List ℕ → Row → Type 0 where
    LastElement : (limits : Limits) (levels : ℕ) (text blanks : List ℕ) (t : Tree) → IsTextOf limits levels text t → AreBlanks blanks
        → AreElements limits levels (text ++ (blanks ++ codes "}")) (More t Ends)
    MoreElements : (limits : Limits) (levels : ℕ) (text before after rest : List ℕ) (t : Tree) (row : Row) → IsTextOf limits levels text t → AreBlanks before
        → AreBlanks after
        → AreElements limits levels rest row → AreElements limits levels (text ++ (before ++ comma ∷ (after ++ rest))) (More t row)

  -- the heads of a list with commas between them, perhaps a bar and a last tail, and `]`
  pub data AreCells : Limits → ℕ → List ℕ → Tree → Type 0 where
    LastCell : (limits : Limits) (levels : ℕ) (text blanks : List ℕ) (head : Tree) → IsTextOf limits levels text head → AreBlanks blanks
        → AreCells limits levels (text ++ (blanks ++ codes "]")) (Cons head Nil)
    MoreCells : (limits : Limits) (levels : ℕ) (text before after rest : List ℕ) (head tail : Tree) → IsTextOf limits levels text head → AreBlanks before
        → AreBlanks after
        → AreCells limits levels rest tail → AreCells limits levels (text ++ (before ++ comma ∷ (after ++ rest))) (Cons head tail)
    LastTail : (limits : Limits) (levels : ℕ) (text before after last blanks : List ℕ) (head tail : Tree) → IsTextOf limits levels text head → AreBlanks before
        → AreBlanks after
        → IsTextOf limits (suc levels) last tail → AreBlanks blanks
        → AreCells limits levels (text ++ (before ++ vertical_bar ∷ (after ++ (last ++ (blanks ++ codes "]"))))) (Cons head tail)

-- the limits of a text that is read
abbrev pub standard : Limits
standard = record { elements = MOST_ELEMENTS; characters = MOST_CODE_POINTS }

-- a text that is read, and its term
abbrev pub IsText : List ℕ → Tree → Type 0
IsText text t = IsTextOf standard MOST_LEVELS text t

-- Whether the byte after a text belongs to it: a plain atom takes in each character of a name that follows it, and an integer
-- each digit. Each other text has an end of its own.
abbrev pub takes_in : List ℕ → ℕ → Bool
takes_in [] b = false
takes_in (c ∷ text) b = if is_ascii_lowercase c then is_name_char b else ((is_ascii_digit c || c == minus_sign) && is_ascii_digit b)

-- nothing that follows belongs to the text
abbrev pub IsWhole : List ℕ → List ℕ → Type 0
IsWhole text [] = Unit {0}
IsWhole text (b ∷ rest) = takes_in text b ≡ false

-- the term text at the front of some bytes, which is the longest one: t, of n bytes
pub record IsRead (bytes : List ℕ) (t : Tree) (n : ℕ) : Type 0 where
  pub within : n ≤ length bytes
  pub text : IsText (take n bytes) t
  pub whole : IsWhole (take n bytes) (drop n bytes)
