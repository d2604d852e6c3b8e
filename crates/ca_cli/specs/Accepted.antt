-- The words and the files of a call that are accepted, and the lines that clients play.
use Rattle.std.specs.Prelude.{◌≡◌, ℕ, ◌≤◌, List, [], ◌∷◌, length, sum_by, map, Ok}
use Rattle.ca_outside.specs.Fetches.{Fetched, fetched}
use Rattle.ca_outside.specs.Known.{Content, Tells}
use Rattle.ca_cmd.specs.File.{Numbered, IsFileOf}
use Rattle.ca_words.specs.Grammar.{Request, Files, Generated}
use Rattle.ca_words.specs.declared.tree.TreeOptions.{TreeOptions}
use Rattle.ca_cli.specs.Call.{Call, Change, Adds, Asks}
use Rattle.ca_cli.specs.Summary.{clients_from}

-- The lists are of one length, and their elements at each place are so related.
abbrev pub ArePairs : {X Y : Type 0} → (X → Y → Type 0) → List X → List Y → Type 0
ArePairs R [] [] = Unit {0}
ArePairs R [] (y ∷ ys) = ⊥
ArePairs R (x ∷ xs) [] = ⊥
ArePairs R (x ∷ xs) (y ∷ ys) = R x y × ArePairs R xs ys

-- Each file holds these lines.
abbrev pub AreFilesOf : List (List ℕ) → List (List Numbered) → Type 0
AreFilesOf files all = ArePairs (λ (file : List ℕ) (lines : List Numbered). IsFileOf file lines) files all

-- the most bytes that all files have together
abbrev pub most_bytes : ℕ
most_bytes = 16777216

abbrev pub total_length : List (List ℕ) → ℕ
total_length files = sum_by (λ (file : List ℕ). length file) files

-- the shelf's contents may be these files in order
abbrev pub AreFetched : (List ℕ → Content) → List (List ℕ) → List (List ℕ) → Type 0
AreFetched content names files = ArePairs (λ (name file : List ℕ). Tells (content name) file) names files

-- one fetch of each name in order, and each went well
abbrev pub all_well : List (List ℕ) → List Fetched
all_well names = map (λ name. fetched name (Ok tt)) names

-- The files of these names are within the limit together, and hold these lines.
pub record AreAccepted (content : List ℕ → Content) (names files : List (List ℕ)) (lines : List (List Numbered)) : Type 0 where
  pub fetched : AreFetched content names files
  pub limit : total_length files ≤ most_bytes
  pub read : AreFilesOf files lines

-- The files of these names were fetched well, each once, and accepted, and they hold these lines.
pub record AreRead (content : List ℕ → Content) (shelf : Change Fetched) (names : List (List ℕ)) (lines : List (List Numbered)) : Type 0 where
  pub files : List (List ℕ)
  pub accepted : AreAccepted content names files lines
  pub fetches : Adds shelf (all_well names)

-- These are the lines that are asked for, a list a client: those of the files, which were all read, or those made from the seed, for which nothing is fetched.
abbrev pub AreLinesOf : (List ℕ → Content) → Change Fetched → Request → List (List Numbered) → Type 0
AreLinesOf content shelf (Files keypos names) lines = AreRead content shelf names lines
AreLinesOf content shelf (Generated seed clients count) lines = (lines ≡ clients_from seed count 1 clients) × Adds shelf []

-- The words are a command line, and the lines that it asks for are there.
pub record IsAccepted (call : Call) : Type 0 where
  pub request : Request
  pub options : TreeOptions
  pub asked : Asks call request options
  pub lines : List (List Numbered)
  pub found : AreLinesOf call.content call.shelf request lines
