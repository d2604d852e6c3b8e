-- What is collected of a run of objects, and the batches that come of it.
use Rattle.std.specs.Prelude.{◌≡◌, ◌⊎◌, ℕ, ◌≤◌, Bool, true, false, nat_le, List, [], ◌∷◌, ◌++◌, length, map, Option, None, Some, unwrap_or, if◌then◌else◌}
use Rattle.ca_term.specs.Tree.{Tree, IsTerm, AreTerms}
use Rattle.ca_term.specs.Code.{code_of}
use Rattle.ca_term.specs.Object.{key_of}
use Rattle.ca_ets.specs.Command.{Response, Results, End, Continuation, Never, At, AtEnd}
use Rattle.ca_match.specs.Match.{result_of}
use Rattle.ca_ets.specs.OrderedMap.{IsEntry}
use Rattle.ca_ets.specs.Step.{keyed_results, results_in, last_found, step_of_results}
use Rattle.ca_model.specs.StoreMap.{StoreMap}
use Rattle.ca_model.specs.Edges.{Bound, Unbounded, within}
use Rattle.ca_model.specs.Event.{Range, IsAnswer}
use Rattle.ca_model.specs.Known.{Known, Meets}
use Rattle.ca_model.specs.Answer.{IsNeverDeep}
use Rattle.ca_model.specs.declared.outcome.Outcome.{Outcome}
use Rattle.ca_model.specs.Promises.{Promises}
use Rattle.ca_explain.specs.Carries.{Gives}
use Rattle.ca_explain.specs.Stands.{Stands}
use Rattle.ca_table.specs.Codes.{HasKeyCode}
use Rattle.ca_table.specs.ComesTo.{EditsNothing}
use Rattle.ca_table.specs.Made.{HasRead, HasRefusedRead}
use Rattle.ca_table.specs.Refusals.{IsRefusal}
use Rattle.ca_table.specs.declared.outcome.Stop.{Stop}
use Rattle.ca_table.specs.declared.outcome.Stop.TheVariants as stop
use Rattle.ca_table.specs.declared.batch.Place.{Place}
use Rattle.ca_table.specs.declared.batch.Place.TheVariants as place

-- ---- runs

-- the objects that an open run has left
abbrev pub left_of : Known → List (List ℕ)
left_of a = unwrap_or a.run []

-- the bytes of an object that may stand in a table
pub record IsObjectOf (keypos : ℕ) (bytes : List ℕ) : Type 0 where
  pub object : Tree
  pub bounded : IsTerm object
  pub entry : IsEntry keypos object
  pub code_is : bytes ≡ code_of object

abbrev pub AreObjectsOf : ℕ → List (List ℕ) → Type 0
AreObjectsOf keypos [] = Unit {0}
AreObjectsOf keypos (bytes ∷ more) = IsObjectOf keypos bytes × AreObjectsOf keypos more

-- A run of objects is open.
abbrev pub IsOpenRun : Known → Type 0
IsOpenRun a = (a.run ≡ Some (left_of a)) × AreObjectsOf a.keypos (left_of a)

-- ---- what is collected

-- The answer is true only where the specification gives the object of these bytes a result.
abbrev pub CountsOnly : Tree → List ℕ → Bool → Type 0
CountsOnly s bytes false = Unit {0}
CountsOnly s bytes true = (o : Tree) → IsTerm o → bytes ≡ code_of o → (r : Tree) × (result_of s o ≡ Some r)

-- The object of these bytes has no result.
abbrev pub HasNoResult : Tree → List ℕ → Type 0
HasNoResult s bytes = (o : Tree) → IsTerm o → bytes ≡ code_of o → result_of s o ≡ None

-- whether so many results are as many as are wanted; without a limit none are
abbrev pub is_full : Option ℕ → ℕ → Bool
is_full None found = false
is_full (Some limit) found = nat_le limit found

-- how many results are asked of a run, so that it may be cut behind them; 0 where it may not: there is no limit, or 32 bits don't hold it
abbrev pub wanted : Option ℕ → ℕ
wanted None = 0
wanted (Some limit) = if nat_le limit 4294967295 then limit else 0

-- The store's call was made between these edges with so many results wanted: what the store promises of such a call holds.
module _ {S : Type 0} (promised : S → Bound → Bound → ℕ → Outcome Bool → Type 0) where
  abbrev pub WasAsked : Bound → Bound → ℕ → Type 0
  WasAsked lo hi want = (behind : S) × (outcome : Outcome Bool) × promised behind lo hi want outcome

-- No more than are wanted.
abbrev pub AreUpTo : Option ℕ → ℕ → Type 0
AreUpTo None found = Unit {0}
AreUpTo (Some limit) found = found ≤ limit

-- what one more object adds to the results, and to what is kept: it itself, where there are as many results then as are wanted
abbrev pub Adds : Option ℕ → Option Tree → Tree → List Tree → Option Tree → List Tree → Option Tree → Type 0
Adds limit None o results last more next = (more ≡ results) × (next ≡ last)
Adds limit (Some r) o results last more next = (more ≡ results ++ r ∷ []) × (next ≡ (if is_full limit (length more) then Some o else last))

abbrev pub AddsObject : Option ℕ → Tree → List ℕ → List Tree → Option Tree → List Tree → Option Tree → Type 0
AddsObject limit s bytes results last more next = (o : Tree) → IsTerm o → bytes ≡ code_of o → Adds limit (result_of s o) o results last more next

-- Where there are as many results as were wanted, the object is the last of these that gave one; else none is kept.
abbrev pub IsLastOf : ℕ → Tree → List Tree → Bool → Option Tree → Type 0
IsLastOf keypos s objects full None = full ≡ true → keyed_results keypos s objects ≡ []
IsLastOf keypos s objects full (Some o) = (full ≡ true) × (last_found (keyed_results keypos s objects) ≡ key_of keypos o) × IsTerm o × IsEntry keypos o

-- These are the results of the first objects of a run, of which these are left.
pub record AreResults (keypos : ℕ) (s : Tree) (limit : Option ℕ) (whole left : List (List ℕ)) (results : List Tree) (last : Option Tree) : Type 0 where
  pub objects : List Tree
  pub bounded : AreTerms objects
  pub whole_is : whole ≡ map code_of objects ++ left
  pub results_are : results ≡ results_in (keyed_results keypos s objects)
  pub last_is : IsLastOf keypos s objects (is_full limit (length results)) last

-- The results of a run were collected: as many as were wanted, or up to the run's end.
pub record AreCollected (keypos : ℕ) (s : Tree) (limit : Option ℕ) (whole : List (List ℕ)) (results : List Tree) (last : Option Tree) : Type 0 where
  pub left : List (List ℕ)
  pub are : AreResults keypos s limit whole left results last
  pub up_to : AreUpTo limit (length results)
  pub ended : (is_full limit (length results) ≡ true) ⊎ ((left ≡ []) × (is_full limit (length results) ≡ false))

-- ---- through a store

module _ (a b : Known) (lo hi : Bound) (s : Tree) (limit : Option ℕ) where
  -- These are the results of what stands within two edges at one state: as many as were wanted, or all.
  pub record AreWithin (results : List Tree) (last : Option Tree) : Type 0 where
    pub cut : Bound
    pub objects : List (List ℕ)
    pub met : Meets a b (Range lo hi cut objects)
    pub collected : AreCollected a.keypos s limit objects results last
    pub reaches : is_full limit (length results) ≡ false → cut ≡ hi

-- The store refused the run, for another cause than want of levels; or memory wasn't found, and nothing was edited.
abbrev pub IsStopped : Known → Known → ℕ → Stop → Type 0
IsStopped a b budget (stop.Refused refusal) = IsRefusal a b budget refusal × IsNeverDeep refusal
IsStopped a b budget stop.NoMemory = EditsNothing a b

-- By these calls: the last read was refused so; or memory wasn't found, and no read was refused.
module _ {S : Type 0} (promises : Promises S) (s t : S) where
  abbrev pub HasReadToStop : Stop → Type 0
  HasReadToStop (stop.Refused refusal) = HasRefusedRead promises refusal s t
  HasReadToStop stop.NoMemory = HasRead promises s t

-- ---- batches

-- the reply with these results: as many as were wanted, or the last ones, or none
abbrev pub reply_of_batch : Bool → List Tree → Response
reply_of_batch true results = Results results true
reply_of_batch false [] = End
reply_of_batch false (r ∷ results) = Results (r ∷ results) false

-- where the next batch goes on: behind the last object with a result, or nowhere
abbrev pub IsNextOf : ℕ → Tree → ℕ → Option Tree → Bool → Continuation → Type 0
IsNextOf keypos s limit last false next = next ≡ AtEnd
IsNextOf keypos s limit None true next = ⊥
IsNextOf keypos s limit (Some o) true next = next ≡ At s limit (key_of keypos o)

-- where a client's batches go on behind a key, or at the end where there is none
abbrev pub going_on : Tree → ℕ → Option Tree → Continuation
going_on s limit None = AtEnd
going_on s limit (Some key) = At s limit key

-- where a client's batches go on, with the code of the key that they stand behind
abbrev pub IsPlaceOf : Continuation → Place → List ℕ → Type 0
IsPlaceOf Never place.Nowhere code = Unit {0}
IsPlaceOf (At s limit k) (place.Behind spec n) code = (spec ≡ s) × (n ≡ limit) × HasKeyCode k code
IsPlaceOf AtEnd place.AtEnd code = Unit {0}
IsPlaceOf continuation place code = ⊥

-- The batch of what stands behind a lower edge at one state, and where the next one goes on.
pub record IsBatch (a b : Known) (lo : Bound) (s : Tree) (limit : ℕ) (response : Response) (next : Continuation) : Type 0 where
  pub cut : Bound
  pub objects : List (List ℕ)
  pub met : Meets a b (Range lo Unbounded cut objects)
  pub gives : (store : StoreMap) (table behind : List Tree) → Stands a.keypos store table → IsAnswer (Range lo Unbounded cut objects) store
      → Stands a.keypos (within lo Unbounded store) behind → Gives (step_of_results table s limit (keyed_results a.keypos s behind)) table response next
