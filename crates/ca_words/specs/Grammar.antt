-- The command lines of the program and what each asks for, as a relation on words. It is apart from the reader.
--
--   line     run options files         where no file word begins with `-`
--            run options -- files
--   options  none, or options and one more, of a name that they don't have
--   option   --name=value              in one word
--            --name value              in two words
--            --shape                   which has no value
--   value    1 to 10 decimal digits, of a number within the bounds of the name
use Rattle.std.specs.Prelude.{◌≡◌, ◌≤◌, ℕ, ◌+◌, ◌*◌, ◌-◌, ◌==◌, ◌&&◌, Bool, true, false, not, nat_le, List, [], ◌∷◌, ◌++◌, length, Option, None, Some, unwrap_or, IfSome, codes}
use Rattle.std.specs.List.{list_all}
use Rattle.ca_words.specs.declared.tree.TreeOptions.{TreeOptions}
use Rattle.ca_words.specs.declared.words.Name.{Name}
use Rattle.ca_words.specs.declared.words.Name.TheVariants.{Keypos, Seed, Clients, Lines, Rows, Levels, Leaf, High, Low, Calm, Heat}

-- what a line asks for: that files of these names are played on a table with this key place, or that so many lines are made for each of
-- so many clients from a seed, and played
pub data Request : Type 0 where
  Files : ℕ → List (List ℕ) → Request
  Generated : ℕ → ℕ → ℕ → Request

-- how each option is spelled
abbrev pub spelling_of : Name → List ℕ
spelling_of Keypos = codes "--keypos"
spelling_of Seed = codes "--seed"
spelling_of Clients = codes "--clients"
spelling_of Lines = codes "--lines"
spelling_of Rows = codes "--rows"
spelling_of Levels = codes "--levels"
spelling_of Leaf = codes "--leaf"
spelling_of High = codes "--high"
spelling_of Low = codes "--low"
spelling_of Calm = codes "--calm"
spelling_of Heat = codes "--heat"

-- the least and the greatest value of each option
abbrev pub least_of : Name → ℕ
least_of Keypos = 1
least_of Seed = 0
least_of Clients = 1
least_of Lines = 1
least_of Rows = 384
least_of Levels = 0
least_of Leaf = 2
least_of High = 0
least_of Low = 0
least_of Calm = 0
least_of Heat = 0

abbrev pub most_of : Name → ℕ
most_of Keypos = 120
most_of Seed = 2147483647
most_of Clients = 64
most_of Lines = 20000
most_of Rows = 16777215
most_of Levels = 4096
most_of Leaf = 120
most_of High = 1000000
most_of Low = 1000000
most_of Calm = 1000000
most_of Heat = 1000000

abbrev pub is_digit : ℕ → Bool
is_digit b = nat_le 48 b && nat_le b 57

-- the number that decimal digits write behind those of n
unfoldable pub number_after : ℕ → List ℕ → ℕ
number_after n [] = n
number_after n (b ∷ bytes) = number_after (n * 10 + (b - 48)) bytes

-- The word is this value of this option: 1 to 10 decimal digits, of which the first ones may be 0, of a number within its bounds.
pub record IsValue (name : Name) (word : List ℕ) (value : ℕ) : Type 0 where
  pub some : 1 ≤ length word
  pub few : length word ≤ 10
  pub digits : list_all is_digit word ≡ true
  pub number : number_after 0 word ≡ value
  pub least : least_of name ≤ value
  pub most : value ≤ most_of name

-- the values that options give, each of them at most once
pub record Values : Type 0 where
  pub keypos : Option ℕ
  pub seed : Option ℕ
  pub clients : Option ℕ
  pub lines : Option ℕ
  pub tree : TreeOptions

abbrev pub no_tree : TreeOptions
no_tree = record { rows = None; levels = None; leaf = None; high = None; low = None; calm = None; heat = None; shape = false }

abbrev pub no_values : Values
no_values = record { keypos = None; seed = None; clients = None; lines = None; tree = no_tree }

abbrev pub value_named : Values → Name → Option ℕ
value_named given Keypos = given.keypos
value_named given Seed = given.seed
value_named given Clients = given.clients
value_named given Lines = given.lines
value_named given Rows = given.tree.rows
value_named given Levels = given.tree.levels
value_named given Leaf = given.tree.leaf
value_named given High = given.tree.high
value_named given Low = given.tree.low
value_named given Calm = given.tree.calm
value_named given Heat = given.tree.heat

abbrev pub with_named : Values → Name → ℕ → Values
with_named given Keypos value = record given { keypos = Some value }
with_named given Seed value = record given { seed = Some value }
with_named given Clients value = record given { clients = Some value }
with_named given Lines value = record given { lines = Some value }
with_named given Rows value = record given { tree = record given.tree { rows = Some value } }
with_named given Levels value = record given { tree = record given.tree { levels = Some value } }
with_named given Leaf value = record given { tree = record given.tree { leaf = Some value } }
with_named given High value = record given { tree = record given.tree { high = Some value } }
with_named given Low value = record given { tree = record given.tree { low = Some value } }
with_named given Calm value = record given { tree = record given.tree { calm = Some value } }
with_named given Heat value = record given { tree = record given.tree { heat = Some value } }

-- how the option without a value is spelled, and the values with it
abbrev pub flag_spelling : List ℕ
flag_spelling = codes "--shape"

abbrev pub with_flag : Values → Values
with_flag given = record given { tree = record given.tree { shape = true } }

-- The words are options that give these values: none, or options and one more, of a name that they don't have.
pub data AreOptions : List (List ℕ) → Values → Type 0 where
  NoOption : AreOptions [] no_values
  InOneWord : (words : List (List ℕ)) (given : Values) (name : Name) (text : List ℕ) (value : ℕ) → AreOptions words given
      → value_named given name ≡ None → IsValue name text value
      → AreOptions (words ++ (spelling_of name ++ (codes "=" ++ text)) ∷ []) (with_named given name value)
  InTwoWords : (words : List (List ℕ)) (given : Values) (name : Name) (text : List ℕ) (value : ℕ) → AreOptions words given
      → value_named given name ≡ None → IsValue name text value
      → AreOptions (words ++ spelling_of name ∷ text ∷ []) (with_named given name value)
  WithoutValue : (words : List (List ℕ)) (given : Values) → AreOptions words given → given.tree.shape ≡ false
      → AreOptions (words ++ flag_spelling ∷ []) (with_flag given)

-- A value of an option, where one is given, is within the bounds of the option's name.
abbrev pub IsGivenWithin : Name → Option ℕ → Type 0
IsGivenWithin name given = IfSome given (λ value. (least_of name ≤ value) × (value ≤ most_of name))

-- Each value that is given of the tree is within its bounds.
pub record IsWithin (tree : TreeOptions) : Type 0 where
  pub rows : IsGivenWithin Rows tree.rows
  pub levels : IsGivenWithin Levels tree.levels
  pub leaf : IsGivenWithin Leaf tree.leaf
  pub high : IsGivenWithin High tree.high
  pub low : IsGivenWithin Low tree.low
  pub calm : IsGivenWithin Calm tree.calm
  pub heat : IsGivenWithin Heat tree.heat

-- A request is for 1 to 64 clients, and its key place is within its bounds.
abbrev pub IsBounded : Request → Type 0
IsBounded (Files keypos names) = (1 ≤ keypos) × (keypos ≤ 120) × (1 ≤ length names) × (length names ≤ 64)
IsBounded (Generated seed clients count) = (1 ≤ clients) × (clients ≤ 64)

-- What values and file words ask for together: 1 to 64 files and no option but the key place, or no file and the three other options, and
-- then the key place is 1 or isn't given.
pub data IsAsked : Values → List (List ℕ) → Request → Type 0 where
  ForFiles : (keypos : Option ℕ) (tree : TreeOptions) (names : List (List ℕ)) → 1 ≤ length names → length names ≤ 64
      → IsAsked (record { keypos = keypos; seed = None; clients = None; lines = None; tree = tree }) names (Files (unwrap_or keypos 1) names)
  ForGenerated : (keypos : Option ℕ) (seed clients lines : ℕ) (tree : TreeOptions) → unwrap_or keypos 1 ≡ 1
      → IsAsked (record { keypos = keypos; seed = Some seed; clients = Some clients; lines = Some lines; tree = tree }) [] (Generated seed clients lines)

abbrev pub begins_with_dash : List ℕ → Bool
begins_with_dash [] = false
begins_with_dash (b ∷ bytes) = b == 45

abbrev pub are_undashed : List (List ℕ) → Bool
are_undashed words = list_all (λ word. not (begins_with_dash word)) words

-- The words behind the program's name are a command line, which asks for this on such a tree. Behind `--` any word is a file.
pub data IsLineOf : List (List ℕ) → Request → TreeOptions → Type 0 where
  WithoutParting : (options names : List (List ℕ)) (given : Values) (request : Request) → AreOptions options given → are_undashed names ≡ true
      → IsAsked given names request → IsLineOf (codes "run" ∷ (options ++ names)) request given.tree
  WithParting : (options names : List (List ℕ)) (given : Values) (request : Request) → AreOptions options given
      → IsAsked given names request → IsLineOf (codes "run" ∷ (options ++ codes "--" ∷ names)) request given.tree
