-- Where memory may be taken for an object: where the head of a clause fits it.
use Rattle.std.specs.Prelude.{◌≡◌, ◌≢◌, ◌⊎◌, true, None}
use Rattle.ca_term.specs.Object.{fits}
use Rattle.ca_term.specs.Tree.{Tree, Row, Integer, Atom, Tuple, Nil, Cons, Binary, Ends, More}
use Rattle.ca_match.specs.Match.{fitted}
use Rattle.ca_spec.specs.declared.quick.Quick.{Quick}
use Rattle.ca_spec.specs.declared.quick.Quick.TheVariants as quick

abbrev mutual
  -- The parts of a head that are no tuples and no list cells have codes that are no longer than codes may be.
  pub AreShort : Tree → Type 0
  AreShort (Integer n) = fits (Integer n) ≡ true
  AreShort (Atom text) = fits (Atom text) ≡ true
  AreShort (Tuple row) = IsShortRow row
  AreShort Nil = fits Nil ≡ true
  AreShort (Cons head tail) = AreShort head × AreShort tail
  AreShort (Binary bytes) = fits (Binary bytes) ≡ true

  pub IsShortRow : Row → Type 0
  IsShortRow Ends = Unit {0}
  IsShortRow (More t row) = AreShort t × IsShortRow row

-- A head fits an object, where it is not told by the object's code alone that it doesn't: a part whose code is too long is not.
abbrev pub MayFit : Tree → Tree → Type 0
MayFit head object = AreShort head → fitted head object ≢ None

abbrev pub HeadMayFit : Tree → Tree → Type 0
HeadMayFit (Tuple (More head (More guards (More body Ends)))) object = MayFit head object
HeadMayFit t object = ⊥

-- The head of some clause of a specification fits an object.
abbrev pub SomeMayFit : Tree → Tree → Type 0
SomeMayFit (Integer n) object = ⊥
SomeMayFit (Atom text) object = ⊥
SomeMayFit (Tuple row) object = ⊥
SomeMayFit Nil object = ⊥
SomeMayFit (Cons clause clauses) object = HeadMayFit clause object ⊎ SomeMayFit clauses object
SomeMayFit (Binary bytes) object = ⊥

-- Only where a clause's head doesn't fit or a guard isn't true it is told without memory that there is no result.
abbrev pub IsReached : Quick → Tree → Tree → Type 0
IsReached quick.None head object = Unit {0}
IsReached (quick.Part part) head object = MayFit head object
IsReached (quick.Term term) head object = MayFit head object
IsReached quick.Unknown head object = MayFit head object
