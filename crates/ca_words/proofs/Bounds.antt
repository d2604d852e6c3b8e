-- What the command lines bound.
use Rattle.std.proofs.Common.{◌≡◌, ℕ, ◌≤◌, List, length, None, Some, inl, inr, arith, le_refl, subst, sym}
use Rattle.std.specs.Prelude.{Option, ◌⊎◌}
use Rattle.ca_words.specs.Grammar.{Request, Files, Generated, Values, AreOptions, least_of, most_of, NoOption, InOneWord, InTwoWords, WithoutValue, IsAsked, IsBounded, ForFiles, ForGenerated, IsGivenWithin, IsLineOf, IsWithin, no_values, value_named, with_named, WithoutParting, WithParting}
use Rattle.ca_words.specs.declared.tree.TreeOptions.{TreeOptions}
use Rattle.ca_words.specs.declared.words.Name.{Name}
use Rattle.ca_words.specs.declared.words.Name.TheVariants.{Keypos, Seed, Clients, Lines, Rows, Levels, Leaf, High, Low, Calm, Heat}
use Rattle.ca_words.proofs.Given.{IsOther, same_or_other, set_named, values_stay}

-- ---- the value of each option

abbrev AreGivenWithin : Values → Type 0
AreGivenWithin given = (name : Name) → IsGivenWithin name (value_named given name)

none_given : AreGivenWithin no_values
none_given Keypos = tt
none_given Seed = tt
none_given Clients = tt
none_given Lines = tt
none_given Rows = tt
none_given Levels = tt
none_given Leaf = tt
none_given High = tt
none_given Low = tt
none_given Calm = tt
none_given Heat = tt

one_more : (given : Values) (name : Name) (value : ℕ) → AreGivenWithin given → least_of name ≤ value → value ≤ most_of name
    → AreGivenWithin (with_named given name value)
one_more given name value within least most other = by (same_or_other name other)
  where
    by : (name ≡ other) ⊎ IsOther name other → IsGivenWithin other (value_named (with_named given name value) other)
    by (inl same) = subst (λ n. IsGivenWithin n (value_named (with_named given name value) n)) same
        (subst (IsGivenWithin name) (sym (set_named given name value)) (least, most))
    by (inr differs) = subst (IsGivenWithin other) (sym (differs.1 given value)) (within other)

are_within : (words : List (List ℕ)) (given : Values) → AreOptions words given → AreGivenWithin given
are_within _ _ NoOption = none_given
are_within _ _ (InOneWord words given name text value more new is) = one_more given name value (are_within words given more) is.least is.most
are_within _ _ (InTwoWords words given name text value more new is) = one_more given name value (are_within words given more) is.least is.most
are_within _ _ (WithoutValue words given more new) = λ name. subst (IsGivenWithin name) (sym (values_stay given name)) (are_within words given more name)

-- ---- what a line says of the tree

tree_within : (given : Values) → AreGivenWithin given → IsWithin given.tree
tree_within given within = record {
  rows = within Rows;
  levels = within Levels;
  leaf = within Leaf;
  high = within High;
  low = within Low;
  calm = within Calm;
  heat = within Heat;
}

-- Whatever a command line says of the tree is within the bounds of the options.
pub options_within : (words : List (List ℕ)) (request : Request) (tree : TreeOptions) → IsLineOf words request tree → IsWithin tree
options_within _ _ _ (WithoutParting options names given request are plain asked) = tree_within given (are_within options given are)
options_within _ _ _ (WithParting options names given request are asked) = tree_within given (are_within options given are)

-- ---- what a line asks for

asked_within : (given : Values) (names : List (List ℕ)) (request : Request) → AreGivenWithin given → IsAsked given names request → IsBounded request
asked_within _ _ _ within (ForFiles None tree names some few) = let most : 1 ≤ 120 = omega arith in (le_refl 1, most, some, few)
asked_within _ _ _ within (ForFiles (Some n) tree names some few) = ((within Keypos).0, (within Keypos).1, some, few)
asked_within _ _ _ within (ForGenerated keypos seed clients lines tree first) = within Clients

pub request_within : (words : List (List ℕ)) (request : Request) (tree : TreeOptions) → IsLineOf words request tree → IsBounded request
request_within _ _ _ (WithoutParting options names given request are plain asked) = asked_within given names request (are_within options given are) asked
request_within _ _ _ (WithParting options names given request are asked) = asked_within given names request (are_within options given are) asked
