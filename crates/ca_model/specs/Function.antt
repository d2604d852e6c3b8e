-- What a function that is handed to a store may be called with, and what it may answer and write.
use Rattle.std.specs.Prelude.{◌≡◌, ℕ, Bool, true, List, [], ◌++◌, length}
use denote.Ref.{Bor, MutBor}
use denote.Param.Members.{Shared}
use Rattle.arrayvec.specs.ArrayVec.{ArrayVec}
use Rattle.ca_model.specs.StoreMap.{Pair, IsPair}

-- The key's bytes stand in the object's, from this byte on.
pub record StandsAt (key object : List ℕ) (at : ℕ) : Type 0 where
  pub before : List ℕ
  pub behind : List ℕ
  pub bytes : object ≡ before ++ (key ++ behind)
  pub place : at ≡ length before

-- A function of an object's bytes, a Code and a number: it answers, and may write into the Code and the number.
module _ {F : Type 0} (g : Shared F (Bor (List ℕ) × (MutBor (ArrayVec ℕ) × (MutBor ℕ × Unit {0}))) (Bool × (MutBor (ArrayVec ℕ) × (MutBor ℕ × Unit {0}))))
    (f : F) where
  -- The function may be called at these bytes, with an empty Code.
  abbrev pub MayBeShown : List ℕ → Type 0
  MayBeShown object = (shown : Bor (List ℕ)) (into : MutBor (ArrayVec ℕ)) (start : MutBor ℕ) → shown.now ≡ object → into.now.items ≡ []
      → g.pre f (shown, (into, (start, tt)))

  -- Called at these bytes, with an empty Code, it may answer so and leave these bytes and this number.
  pub record MayLeave (object : List ℕ) (answer : Bool) (left : List ℕ) (number : ℕ) : Type 0 where
    pub shown : Bor (List ℕ)
    pub into : MutBor (ArrayVec ℕ)
    pub start : MutBor ℕ
    pub shows : shown.now ≡ object
    pub empty : into.now.items ≡ []
    pub into_after : MutBor (ArrayVec ℕ)
    pub start_after : MutBor ℕ
    pub met : g.post f (shown, (into, (start, tt))) (answer, (into_after, (start_after, tt)))
    pub leaves : into_after.now.items ≡ left
    pub counts : start_after.now ≡ number

  -- At each object with this key the function may be called, and where it answers true it wrote an object with the same key, and where
  -- the key begins in it.
  pub record KeepsKey (keypos : ℕ) (key : List ℕ) : Type 0 where
    pub callable : (o : List ℕ) → IsPair keypos (key, o) → MayBeShown o
    pub keeps : (o w : List ℕ) (at : ℕ) → IsPair keypos (key, o) → MayLeave o true w at → IsPair keypos (key, w) × StandsAt key w at

-- A function of an object's bytes.
module _ {F : Type 0} (g : Shared F (Bor (List ℕ) × Unit {0}) Bool) (f : F) where
  -- The function may be called at these bytes.
  abbrev pub MayBeAsked : List ℕ → Type 0
  MayBeAsked object = (shown : Bor (List ℕ)) → shown.now ≡ object → g.pre f (shown, tt)

  -- The function may be called at each object with this key.
  abbrev pub MayBeAskedFor : ℕ → List ℕ → Type 0
  MayBeAskedFor keypos key = (o : List ℕ) → IsPair keypos (key, o) → MayBeAsked o

  -- The function may be called at each object, whatever its key.
  abbrev pub MayBeAskedForAll : ℕ → Type 0
  MayBeAskedForAll keypos = (p : Pair) → IsPair keypos p → MayBeAsked p.1

  -- Called at these bytes it may answer so.
  pub record MaySay (object : List ℕ) (answer : Bool) : Type 0 where
    pub shown : Bor (List ℕ)
    pub shows : shown.now ≡ object
    pub met : g.post f (shown, tt) answer
