-- The arguments of a command word: terms, each parted from what stands before it by blanks.
use Rattle.std.specs.Prelude.{◌≡◌, ℕ, zero, suc, ◌+◌, ◌-◌, List, [], ◌∷◌, ◌++◌, length, drop, Result, Ok, Err, if◌then◌else◌}
use Rattle.ca_term.specs.Tree.{Tree}
use Rattle.ca_text.specs.Grammar.{is_blank, IsRead, skip}
use Rattle.ca_text.specs.Front.{IsNotRead}
use Rattle.ca_text.specs.declared.fault.TextFault.{TextFault}
use Rattle.ca_text.specs.declared.fault.TextFault.TheVariants as text
use Rattle.ca_cmd.specs.declared.fault.LineWhy.{LineWhy}
use Rattle.ca_cmd.specs.declared.fault.LineWhy.TheVariants.{Syntax, AtomTooLong, TooDeep, TooWide, Absent, Extra}

-- at which byte of its line, counted from 1, and why a line is refused
pub record Refused : Type 0 where
  pub at : ℕ
  pub why : LineWhy

-- a value, or a refusal
abbrev pub Found : Type 0 → Type 0
Found A = Result A Refused

-- the number, counted from 1, of the first of these bytes, which end a line of this size; of none, one more than the size
abbrev pub place : ℕ → List ℕ → ℕ
place size bytes = size - length bytes + 1

abbrev pub refused : {A : Type 0} → LineWhy → ℕ → Found A
refused why at = Err (record { at = at; why = why })

-- What is found is a refusal, or what follows a value.
abbrev pub IsThen : {A B : Type 0} → Found A → (A → Found B → Type 0) → Found B → Type 0
IsThen (Ok x) Follows found = Follows x found
IsThen (Err e) Follows found = found ≡ Err e

-- First something is found, and then what follows it.
abbrev pub IsAfter : {A B : Type 0} → (Found A → Type 0) → (A → Found B → Type 0) → Found B → Type 0
IsAfter {A} Is Follows found = (first : Found A) × Is first × IsThen first Follows found

-- the bytes behind the blanks after a word or an argument
abbrev pub apart : ℕ → List ℕ → Found (List ℕ)
apart size [] = Ok []
apart size (b ∷ bytes) = if is_blank b then Ok (skip bytes) else refused Syntax (place size (b ∷ bytes))

-- why a term text is refused that begins with these bytes; want of memory is no such reason
abbrev pub IsTermRefused : ℕ → List ℕ → TextFault → Refused → Type 0
IsTermRefused size bytes (text.Syntax at) e = e ≡ record { at = place size (drop at bytes); why = Syntax }
IsTermRefused size bytes (text.AtomTooLong at) e = e ≡ record { at = place size (drop at bytes); why = AtomTooLong }
IsTermRefused size bytes (text.TooDeep at) e = e ≡ record { at = place size (drop at bytes); why = TooDeep }
IsTermRefused size bytes (text.TooWide at) e = e ≡ record { at = place size (drop at bytes); why = TooWide }
IsTermRefused size bytes text.NoMemory e = ⊥

-- the term text at the front of some bytes: the term and how many bytes the text has, or where and why none is read
abbrev pub IsTermOf : List ℕ → Result (Tree × ℕ) TextFault → Type 0
IsTermOf bytes (Ok x) = IsRead bytes x.0 x.1
IsTermOf bytes (Err e) = IsNotRead bytes e

abbrev pub IsTermAt : ℕ → List ℕ → Found (Tree × List ℕ) → Type 0
IsTermAt size bytes (Ok x) = (n : ℕ) × IsTermOf bytes (Ok (x.0, n)) × (x.1 ≡ drop n bytes)
IsTermAt size bytes (Err e) = (fault : TextFault) × IsTermOf bytes (Err fault) × IsTermRefused size bytes fault e

abbrev pub IsFirstTerm : ℕ → List ℕ → Found (Tree × List ℕ) → Type 0
IsFirstTerm size [] found = found ≡ refused Absent (place size [])
IsFirstTerm size (b ∷ bytes) found = IsTermAt size (b ∷ bytes) found

-- the next argument, and the bytes behind it
abbrev pub IsArgument : ℕ → List ℕ → Found (Tree × List ℕ) → Type 0
IsArgument size bytes found = IsThen (apart size bytes) (λ rest. IsFirstTerm size rest) found

-- so many arguments one after another, and the bytes behind the last one
abbrev pub AreArguments : ℕ → List ℕ → ℕ → Found (List Tree × List ℕ) → Type 0
AreArguments size bytes zero found = found ≡ Ok ([], bytes)
AreArguments size bytes (suc count) found =
    IsAfter (AreArguments size bytes count) (λ x. IsAfter (IsArgument size x.1) (λ y more. more ≡ Ok (x.0 ++ y.0 ∷ [], y.1))) found

-- Behind the last argument nothing else stands than blanks.
abbrev pub nothing_more : ℕ → List ℕ → Found (Unit {0})
nothing_more size [] = Ok tt
nothing_more size (b ∷ bytes) = refused Extra (place size (b ∷ bytes))

abbrev pub IsEnd : ℕ → List ℕ → Found (Unit {0}) → Type 0
IsEnd size bytes found = IsThen (apart size bytes) (λ rest end. end ≡ nothing_more size rest) found
