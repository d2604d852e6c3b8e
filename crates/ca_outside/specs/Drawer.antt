-- The files of drawers, and what a fetch from one does.
use Rattle.std.specs.Prelude.{ℕ, ◌==◌, if◌then◌else◌, List, [], ◌∷◌, map, Option, None, Some, is_none, unwrap_or, Vec}
use Rattle.std.specs.List.{list_any}
use Rattle.std.specs.Str.{bytes_eq}
use Rattle.std.specs.String.{string_bytes}
use Rattle.std.specs.declared.string.String.{String}
use Rattle.ca_outside.specs.Count.{next_count}
use Rattle.ca_outside.specs.Fetches.{Fetched, with_fetch}
use Rattle.ca_outside.specs.Known.{Content, Missing, content_or}

-- the name and the content of each file
abbrev pub files_of : {Y Z : Type 0} → List (String Y × Vec ℕ Z) → List (List ℕ × List ℕ)
files_of files = map (λ file. (string_bytes file.0, file.1.items)) files

-- the bytes of the first file of this name
abbrev pub bytes_of : List (List ℕ × List ℕ) → List ℕ → Option (List ℕ)
bytes_of [] name = None
bytes_of (file ∷ files) name = if bytes_eq file.0 name then Some file.1 else bytes_of files name

-- the content of this name: a name that isn't listed is missing
abbrev pub content_of : List (List ℕ × List ℕ) → List ℕ → Content
content_of files name = content_or Missing (bytes_of files name)

-- the bytes of this name, where a name that isn't listed has none
abbrev pub bytes_or_none : List (List ℕ × List ℕ) → List ℕ → List ℕ
bytes_or_none files name = unwrap_or (bytes_of files name) []

pub record DrawerState : Type 0 where
  pub files : List (List ℕ × List ℕ)
  -- the numbers of the fetches that fail; the first fetch has the number 1
  pub fails : List ℕ
  -- how many fetches there were
  pub fetches : ℕ
  pub faults : ℕ
  -- the fetches so far, where they are told
  pub log : Option (List Fetched)

-- the bytes that the next fetch finds, if it is of this name: none where it is one of those that fail
abbrev pub next_bytes : DrawerState → List ℕ → Option (List ℕ)
next_bytes drawer name = if list_any (λ n. n == next_count drawer.fetches) drawer.fails then None else bytes_of drawer.files name

-- the drawer after this fetch
abbrev pub after_fetch : DrawerState → Fetched → DrawerState
after_fetch drawer last = record {
  files = drawer.files;
  fails = drawer.fails;
  fetches = next_count drawer.fetches;
  faults = if is_none (next_bytes drawer last.name) then next_count drawer.faults else drawer.faults;
  log = with_fetch drawer.log last;
}

-- the drawer where a fetch was not made, since there was no memory for its entry
abbrev pub without_log : DrawerState → DrawerState
without_log drawer = record drawer { log = None }

pub record SureDrawerState : Type 0 where
  pub files : List (List ℕ × List ℕ)
  -- the fetches so far, where they are told
  pub log : Option (List Fetched)
