-- What a call of the program is given, and what it changes.
use Rattle.std.specs.Prelude.{ℕ, List, Option}
use Rattle.ca_outside.specs.Fetches.{Fetched}
use Rattle.ca_outside.specs.Known.{Content, Grows, HasRisen}
use Rattle.ca_words.specs.Grammar.{Request, IsLineOf}
use Rattle.ca_words.specs.declared.tree.TreeOptions.{TreeOptions}

-- of a shelf's fetches or a sink's bytes: those so far, where they are told, and the count of faults, before and after
pub record Change (A : Type 0) : Type 0 where
  pub before : Option (List A)
  pub after : Option (List A)
  pub faults_before : ℕ
  pub faults_after : ℕ

abbrev pub change_of : {A : Type 0} → Option (List A) → Option (List A) → ℕ → ℕ → Change A
change_of before after faults_before faults_after = record { before = before; after = after; faults_before = faults_before; faults_after = faults_after }

-- these were added, and no others
abbrev pub Adds : {A : Type 0} → Change A → List A → Type 0
Adds change more = Grows change.before change.after more

-- there was a fault
abbrev pub HasFailed : {A : Type 0} → Change A → Type 0
HasFailed change = HasRisen change.faults_before change.faults_after

-- the words behind the program's name; the shelf's contents by name, and its fetches
pub record Call : Type 0 where
  pub words : List (List ℕ)
  pub content : List ℕ → Content
  pub shelf : Change Fetched

abbrev pub call_of : List (List ℕ) → (List ℕ → Content) → Change Fetched → Call
call_of words content shelf = record { words = words; content = content; shelf = shelf }

-- The words are a command line, which asks for this on such a tree.
abbrev pub Asks : Call → Request → TreeOptions → Type 0
Asks call request options = IsLineOf call.words request options
