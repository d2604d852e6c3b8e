-- The byte codes as a language on bytes alone, with the bounds of terms in it and without terms.
use Rattle.std.specs.Prelude.{◌≡◌, ◌↔◌, ℕ, suc, ◌+◌, ◌-◌, ◌*◌, ◌^◌, ◌<◌, ◌≤◌, List, [], ◌∷◌, ◌++◌, length}
use Rattle.std.specs.Str.{IsUtf8, chars}
use Rattle.ca_term.specs.declared.bounds.TheConstants.{MOST_CODE_POINTS, MOST_ELEMENTS, MOST_DEPTH}
use Rattle.ca_term.specs.Tree.{Tree, IsTerm, AreBytes}
use Rattle.ca_term.specs.Code.{code_of, complement, escaped, four_bytes}

-- The bytes of a number below 2 ^ 63, the highest first: at most eight, no leading zero byte, and of eight the top bit is 0.
abbrev pub AreDigits : List ℕ → Type 0
AreDigits [] = Unit {0}
AreDigits (b ∷ bs) = (0 < b) × (length bs ≤ 7) × (length bs ≡ 7 → b < 0x80) × AreBytes (b ∷ bs)

-- the number of these bytes, the highest first
abbrev pub number : List ℕ → ℕ
number [] = 0
number (b ∷ bs) = b * 256 ^ length bs + number bs

mutual
  -- The codes of at most so many levels: an element or a head stands one level below its tuple or list, and a tail on the same level.
  pub data IsCodeWithin : ℕ → List ℕ → Type 0 where
    -- n >= 0
    FromZero : (levels : ℕ) (digits : List ℕ) → AreDigits digits → IsCodeWithin (suc levels) ((0x20 + length digits) ∷ digits)
    -- -m - 1, by the bytes of m
    BelowZero : (levels : ℕ) (digits : List ℕ) → AreDigits digits → IsCodeWithin (suc levels) ((0x1f - length digits) ∷ complement digits)
    AnAtom : (levels : ℕ) (text : List ℕ) → IsUtf8 text → length (chars text) ≤ MOST_CODE_POINTS → IsCodeWithin (suc levels) (0x30 ∷ escaped text)
    ATuple : (levels size : ℕ) (elements : List ℕ) → size ≤ MOST_ELEMENTS → AreCodesWithin levels size elements
        → IsCodeWithin (suc levels) (0x40 ∷ four_bytes size ++ elements)
    ANil : (levels : ℕ) → IsCodeWithin (suc levels) (0x60 ∷ [])
    ACons : (levels : ℕ) (head tail : List ℕ) → IsCodeWithin levels head → IsCodeWithin (suc levels) tail → IsCodeWithin (suc levels) (0x70 ∷ head ++ tail)
    ABinary : (levels : ℕ) (bytes : List ℕ) → AreBytes bytes → IsCodeWithin (suc levels) (0x80 ∷ escaped bytes)

  -- so many codes, one after another
  pub data AreCodesWithin : ℕ → ℕ → List ℕ → Type 0 where
    NoCode : (levels : ℕ) → AreCodesWithin levels 0 []
    OneMore : (levels size : ℕ) (first rest : List ℕ) → IsCodeWithin levels first → AreCodesWithin levels size rest
        → AreCodesWithin levels (suc size) (first ++ rest)

-- a code
abbrev pub IsCode : List ℕ → Type 0
IsCode bytes = IsCodeWithin MOST_DEPTH bytes

-- The codes are the codes of terms.
abbrev pub AreCodesOfTerms : Type 0
AreCodesOfTerms = (bytes : List ℕ) → IsCode bytes ↔ ((t : Tree) × IsTerm t × (bytes ≡ code_of t))
