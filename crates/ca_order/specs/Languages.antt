-- What the reader of codes meets, as languages of bytes: codes, and what stands inside them behind their first byte.
use Rattle.std.specs.Prelude.{◌≡◌, ℕ, zero, suc, ◌<◌, ◌≤◌, ◌-◌, Bool, true, false, List, [], ◌∷◌, ◌++◌, length}
use Rattle.std.specs.Char.{IsScalar, encode_utf8}
use Rattle.std.specs.Str.{encode_utf8_all, all_scalars}
use Rattle.ca_term.specs.declared.bounds.TheConstants.{MOST_ELEMENTS}
use Rattle.ca_term.specs.Levels.{HasRow}
use Rattle.ca_term.specs.Tree.{Tree, IsTerm, AreBytes}
use Rattle.ca_term.specs.Code.{code_of, escaped, complement, four_bytes}
use Rattle.ca_term.specs.Grammar.{AreDigits}

abbrev pub zero_bytes : ℕ → List ℕ
zero_bytes zero = []
zero_bytes (suc n) = 0 ∷ zero_bytes n

-- how many elements a tuple may have whose elements have at most so many levels
abbrev pub most_elements : ℕ → ℕ
most_elements zero = 0
most_elements (suc levels) = MOST_ELEMENTS

-- the code of a term
abbrev pub IsTermCode : List ℕ → Type 0
IsTermCode bytes = (t : Tree) × IsTerm t × (bytes ≡ code_of t)

-- so many zero bytes, and then a number of at most `most` in one byte
pub record HasSize (zeros most : ℕ) (bytes : List ℕ) : Type 0 where
  pub count : ℕ
  pub fits : count ≤ most
  pub code_is : bytes ≡ zero_bytes zeros ++ count ∷ []

-- the size of a tuple and the codes of its elements, of at most so many levels
pub record HasTuple (levels : ℕ) (bytes : List ℕ) : Type 0 where
  pub count : ℕ
  pub fits : count ≤ MOST_ELEMENTS
  pub elements : List ℕ
  pub row : HasRow levels count elements
  pub code_is : bytes ≡ four_bytes count ++ elements

-- the bytes of n, or of m for -m - 1
abbrev pub turned : Bool → List ℕ → List ℕ
turned true digits = complement digits
turned false digits = digits

abbrev pub turned_byte : Bool → ℕ → ℕ
turned_byte true b = 0xff - b
turned_byte false b = b

-- a digit may be the first one of so many
abbrev pub CanBegin : ℕ → ℕ → Type 0
CanBegin digit len = (0 < digit) × (8 ≤ len → digit < 0x80)

-- so many digits
pub record HasDigits (negative : Bool) (len : ℕ) (bytes : List ℕ) : Type 0 where
  pub digits : List ℕ
  pub are_digits : AreDigits digits
  pub many : length digits ≡ len
  pub code_is : bytes ≡ turned negative digits

-- escaped bytes and their end
pub record HasBytes (bytes : List ℕ) : Type 0 where
  pub inside : List ℕ
  pub are_bytes : AreBytes inside
  pub code_is : bytes ≡ escaped inside

-- an escaped text of at most so many characters and its end
pub record HasText (most : ℕ) (bytes : List ℕ) : Type 0 where
  pub text : List ℕ
  pub are_scalars : all_scalars text ≡ true
  pub short : length text ≤ most
  pub code_is : bytes ≡ escaped (encode_utf8_all text)

-- a character in UTF-8
pub record HasChar (bytes : List ℕ) : Type 0 where
  pub char : ℕ
  pub is_scalar : IsScalar char
  pub code_is : bytes ≡ encode_utf8 char
