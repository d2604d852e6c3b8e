-- What a reader of a code leaves, and where it is stuck.
use Rattle.std.specs.Prelude.{◌≡◌, ℕ, ◌≤◌, Bool, List, ◌∷◌, ◌++◌, length}
use Rattle.ca_term.specs.Tree.{Tree, Atom, IsNarrow, IsTerm, AreTerms, AreBytes, depth, row_depth, row_of}
use Rattle.ca_term.specs.Code.{code_of, row_code}
use Rattle.ca_order.specs.declared.fault.ReadFault.{ReadFault}
use Rattle.ca_order.specs.declared.fault.ReadFault.TheVariants.{Stuck, NoMemory}
use Rattle.ca_order.specs.declared.fault.DecodeFault.{DecodeFault}
use Rattle.ca_order.specs.declared.fault.DecodeFault.TheVariants as decode
use Rattle.ca_order.specs.Stuck.{IsStuck, IsLongestStart}
use Rattle.ca_order.specs.Zeros.{opened}
use Rattle.ca_order.specs.Languages.{IsTermCode, turned}
use Rattle.ca_order.specs.declared.atoms.Step.{Step}
use Rattle.ca_order.specs.declared.atoms.Step.TheVariants.{End, Char}
use Rattle.std.specs.Char.{IsScalar, encode_utf8}
use Rattle.ca_term.specs.Grammar.{AreDigits, number}

-- the bytes are no word of the language nor begin with one, and so many of them are left behind the longest start; or memory lacked
abbrev pub IsReadFault : (List ℕ → Type 0) → List ℕ → ReadFault → Type 0
IsReadFault L bytes (Stuck left) = (behind : List ℕ) × (length behind ≡ left) × IsStuck L bytes behind
IsReadFault L bytes NoMemory = Unit {0}

-- the same where no memory is taken
abbrev pub IsStuckFault : (List ℕ → Type 0) → List ℕ → ReadFault → Type 0
IsStuckFault L bytes (Stuck left) = IsReadFault L bytes (Stuck left)
IsStuckFault L bytes NoMemory = ⊥

-- Why bytes are refused: they aren't the code of a term, and `at` is the length of their longest start that begins one.
abbrev pub IsDecodeFault : List ℕ → DecodeFault → Type 0
IsDecodeFault bytes (decode.NotACode at) = (IsTermCode bytes → ⊥) × IsLongestStart IsTermCode bytes at
IsDecodeFault bytes decode.NoMemory = Unit {0}

-- bytes begin with the code of a term of at most so many levels
pub record BeginsWithTerm (levels : ℕ) (bytes : List ℕ) (t : Tree) (rest : List ℕ) : Type 0 where
  pub parts : bytes ≡ code_of t ++ rest
  pub shallow : depth t ≤ levels
  pub bounded : IsTerm t

-- bytes begin with the codes of these terms
pub record BeginsWithRow (levels count : ℕ) (bytes : List ℕ) (items : List Tree) (rest : List ℕ) : Type 0 where
  pub parts : bytes ≡ row_code (row_of items) ++ rest
  pub shallow : row_depth (row_of items) ≤ levels
  pub bounded : AreTerms items
  pub many : length items ≡ count

-- bytes begin with escaped ones
pub record BeginsWithBytes (bytes body rest : List ℕ) : Type 0 where
  pub inside : List ℕ
  pub are_bytes : AreBytes inside
  pub body_is : body ≡ opened inside
  pub parts : bytes ≡ body ++ 0 ∷ 0 ∷ rest

-- bytes begin with an escaped text
pub record BeginsWithText (bytes body rest : List ℕ) : Type 0 where
  pub text : List ℕ
  pub narrow : IsNarrow (Atom text)
  pub body_is : body ≡ opened text
  pub parts : bytes ≡ body ++ 0 ∷ 0 ∷ rest

-- bytes begin with the digits of a number
pub record BeginsWithDigits (negative : Bool) (len : ℕ) (bytes : List ℕ) (value : ℕ) (rest : List ℕ) : Type 0 where
  pub digits : List ℕ
  pub are_digits : AreDigits digits
  pub many : length digits ≡ len
  pub value_is : value ≡ number digits
  pub parts : bytes ≡ turned negative digits ++ rest

-- a text with room for so many characters ends, or has one more
abbrev pub IsStep : ℕ → List ℕ → Step → Type 0
IsStep room bytes (End end) = bytes ≡ 0 ∷ 0 ∷ end.now
IsStep room bytes (Char behind) = (1 ≤ room) × (c : ℕ) × IsScalar c × (bytes ≡ opened (encode_utf8 c) ++ behind.now)
