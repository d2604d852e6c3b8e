-- What is written of the first of some terms.
use Rattle.std.specs.Prelude.{◌≡◌, ℕ, List, ◌∷◌, ◌++◌, drop, take}
use Rattle.ca_term.specs.Tree.{Tree, row_of}
use Rattle.ca_text.specs.Text.{text_of, tail_text, row_text}

-- the text of the first one, and these are the others
pub record PutsFirst (terms rest : List Tree) (was now : List ℕ) : Type 0 where
  pub first : Tree
  pub terms_are : terms ≡ first ∷ rest
  pub text_is : now ≡ was ++ text_of first

-- the text of the first one as a list's tail
pub record PutsTail (terms rest : List Tree) (was now : List ℕ) : Type 0 where
  pub tail : Tree
  pub terms_are : terms ≡ tail ∷ rest
  pub text_is : now ≡ was ++ tail_text tail

-- the text of the first ones, so many, as a tuple's elements
pub record PutsElements (count : ℕ) (terms rest : List Tree) (was now : List ℕ) : Type 0 where
  pub rest_is : rest ≡ drop count terms
  pub text_is : now ≡ was ++ row_text (row_of (take count terms))
