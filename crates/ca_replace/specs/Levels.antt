-- What commands of a pass that is alone make of its tree, and when one of them may be refused for want of levels, or of rows.
use Rattle.std.specs.Prelude.{◌≡◌, ◌⊎◌, ℕ, zero, suc, ◌+◌, ◌*◌, ◌≤◌, Bool, List, length}
use Rattle.std.specs.declared.option.Option.{Option}
use Rattle.std.specs.declared.option.Option.TheVariants.{None, Some}
use Rattle.ca_model.specs.declared.outcome.Changed.{Changed}
use Rattle.ca_model.specs.declared.outcome.Outcome.{Outcome}
use Rattle.ca_model.specs.Answer.{IsDone}
use Rattle.ca_replace.specs.Alone.{HadNoRoom, IsShortOfRows}
use Rattle.ca_replace.specs.Called.{HasTold, StaysStore}
use Rattle.ca_replace.specs.Resting.{StoreView}
use Rattle.ca_replace.specs.TreePromises.{MakesNoUpdate, OnlyLooks}

abbrev pub Any : (T : Type 0) → Outcome T → Type 0
Any T outcome = Unit {0}

abbrev pub Refused : (T : Type 0) → Outcome T → Type 0
Refused T outcome = ¬ IsDone outcome

-- A call that may edit, and may add this key, if any, had such an outcome, with answers of this type.
abbrev pub HasAnswered : ((T : Type 0) → Outcome T → Type 0) → Option (List ℕ) → StoreView → StoreView → Type 0 → Type 0
HasAnswered Such adds s t T = (outcome : Outcome T) × Such T outcome × (edits : T → Bool) × (budget : ℕ) × HasTold edits adds budget s t outcome

-- It was a put; or a put of a new object, or a removal; or a removal or a change that asks a function.
abbrev pub HasCalled : ((T : Type 0) → Outcome T → Type 0) → Option (List ℕ) → StoreView → StoreView → Type 0
HasCalled Such adds s t = HasAnswered Such adds s t (Unit {0}) ⊎ (HasAnswered Such adds s t Bool ⊎ HasAnswered Such adds s t Changed)

-- What a command read: one that may add a key looked for objects by their keys alone, if it read; any other one read anything.
abbrev pub HasReadFor : Option (List ℕ) → StoreView → StoreView → Type 0
HasReadFor None s t = MakesNoUpdate s t
HasReadFor (Some key) s t = OnlyLooks s t

-- The command read, and then made one call that may edit, and that had such an outcome.
abbrev pub HasReadAndCalled : ((T : Type 0) → Outcome T → Type 0) → Option (List ℕ) → StoreView → StoreView → Type 0
HasReadAndCalled Such adds s t = (u : StoreView) × HasReadFor adds s u × HasCalled Such adds u t

-- A try of a command that came to nothing: it only read, or its call that may edit was refused.
abbrev pub IsTry : Option (List ℕ) → StoreView → StoreView → Type 0
IsTry adds s t = HasReadFor adds s t ⊎ HasReadAndCalled Refused adds s t

-- So many tries of one command came to nothing, one after the other.
abbrev pub HasTried : ℕ → Option (List ℕ) → StoreView → StoreView → Type 0
HasTried zero adds s t = t ≡ s
HasTried (suc tries) adds s t = (u : StoreView) × HasTried tries adds s u × IsTry adds u t

-- The last try of a command, however it ended: it only read, anything, or its call that may edit had any outcome.
abbrev pub IsLastTry : Option (List ℕ) → StoreView → StoreView → Type 0
IsLastTry adds s t = MakesNoUpdate s t ⊎ HasReadAndCalled Any adds s t

-- A command that may add this key, if any, was tried several times, and was answered, or was given up.
abbrev pub HasBeenAnswered : Option (List ℕ) → StoreView → StoreView → Type 0
HasBeenAnswered adds s t = (tries : ℕ) × (u : StoreView) × HasTried tries adds s u × IsLastTry adds u t

-- So many commands were played, one after the other; and any reads were made before, between and behind.
abbrev pub HasPlayed : ℕ → StoreView → StoreView → Type 0
HasPlayed zero s t = MakesNoUpdate s t
HasPlayed (suc commands) s t = (adds : Option (List ℕ)) × (u : StoreView) × (v : StoreView) × HasPlayed commands s u × HasBeenAnswered adds u v
    × MakesNoUpdate v t

-- Each command carries out one update at most,
abbrev pub UpdatesByCommands : Type 0
UpdatesByCommands = (commands : ℕ) (s t : StoreView) → HasPlayed commands s t
    → t.seat.me.0.upper.renewal.count ≤ s.seat.me.0.upper.renewal.count + commands

-- and in a tree for one pass it splits two bases at most.
abbrev pub SplitsByCommands : Type 0
SplitsByCommands = (commands : ℕ) (s t : StoreView) → s.z.passes ≡ 1 → HasPlayed commands s t
    → StaysStore s t × (t.seat.me.0.upper.splits ≤ s.seat.me.0.upper.splits + 2 * commands)

-- In a tree for one pass, which had split no base before these commands, the next one finds no room for want of levels, at whichever try, only behind half as
-- many commands as there are levels, or more.
abbrev pub DeepComesLate : Type 0
DeepComesLate = (commands tries : ℕ) (s t v w : StoreView) (adds : Option (List ℕ)) → s.z.passes ≡ 1 → s.seat.me.0.upper.splits ≡ 0
    → HasPlayed commands s t → HasTried tries adds t v → HasReadFor adds v w → HadNoRoom w.z adds w.seat.me.0.upper → s.z.levels ≤ 2 * commands

-- In a tree for one pass, which had split no base and carried out no update before these commands, the space is short of rows as the next one is tried, at
-- whichever try, only where it has few, by how many commands these were. A read takes at most as many rows as there are bases, and eleven.
abbrev pub FullComesLate : Type 0
FullComesLate = (commands tries : ℕ) (s t v w : StoreView) (adds : Option (List ℕ)) → s.z.passes ≡ 1 → s.seat.me.0.upper.splits ≡ 0
    → s.seat.me.0.upper.renewal.count ≡ 0 → HasPlayed commands s t → HasTried tries adds t v → HasReadFor adds v w
    → IsShortOfRows w.z (length w.seat.me.0.upper.inventory.bases + 11) w.seat.me.0.upper → s.z.rows ≤ 8 * commands + 448
