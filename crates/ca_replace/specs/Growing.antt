-- What a call makes of the tree of a pass that is alone: few splits, and few linked rows and bases more.
use Rattle.std.specs.Prelude.{◌≡◌, ◌⊎◌, ℕ, ◌+◌, ◌<◌, ◌≤◌, max, List, [], length, Result, Ok, Err}
use Rattle.std.specs.declared.option.Option.{Option}
use Rattle.std.specs.declared.option.Option.TheVariants.{None, Some}
use Rattle.ca_replace.specs.declared.attempting.Halt.{Halt}
use Rattle.ca_replace.specs.declared.attempting.Halt.TheVariants as halt
use Rattle.ca_model.specs.declared.outcome.Outcome.{Outcome}
use Rattle.ca_model.specs.declared.outcome.Outcome.TheVariants as outcome
use Rattle.ca_model.specs.History.{after}
use Rattle.ca_node.specs.Links.{IsIn}
use Rattle.ca_node.specs.Place.{Place, HasKey, part}
use Rattle.ca_node.specs.TreeView.{TreeView}
use Rattle.ca_rows.specs.declared.sizes.Sizes.{Sizes}

-- The tree has so many linked rows and bases more, at most, by so many splits. The most rows that it ever had at once are as many as before, or so many more
-- than it had, at most.
pub record Grows (splits rows bases : ℕ) (u v : TreeView) : Type 0 where
  pub splits_are : v.splits ≤ u.splits + splits
  pub rows_are : length v.inventory.rows ≤ length u.inventory.rows + rows
  pub bases_are : length v.inventory.bases ≤ length u.inventory.bases + bases
  pub most_are : v.inventory.most ≤ max u.inventory.most (length u.inventory.rows + rows)

-- It has what it had.
abbrev pub IsSameTree : TreeView → TreeView → Type 0
IsSameTree u v = (v.splits ≡ u.splits) × (v.inventory ≡ u.inventory)

-- So it has, and the pass spent no turn, and began no attempt to join.
abbrev pub IsUntouched : TreeView → TreeView → Type 0
IsUntouched u v = IsSameTree u v × (v.turns ≡ u.turns) × (v.tries ≡ u.tries)

-- The base that has this key has room for one object more.
abbrev pub HasRoom : Sizes → List ℕ → TreeView → Type 0
HasRoom z key u = (row : ℕ) (place : Place) → IsIn (row, place) u.inventory.bases → HasKey place.span key → length (part place.span (after u.seen [])) < z.leaf

-- So it has, where the call adds a key.
abbrev pub HasRoomFor : Sizes → Option (List ℕ) → TreeView → Type 0
HasRoomFor z None u = Unit {0}
HasRoomFor z (Some key) u = HasRoom z key u

-- One attempt of a call that may add this key, if any. It splits a base that had no room for the key; there is room then. Or it does the call: by one
-- object row more at most, and by one split at most, one that is due. Or the tree has what it had.
abbrev pub HasGrown : {T : Type 0} → Sizes → Option (List ℕ) → Result T Halt → TreeView → TreeView → Type 0
HasGrown z adds (Ok x) u v = Grows 1 3 1 u v
HasGrown z adds (Err halt.Split) u v = Grows 1 2 1 u v × HasRoomFor z adds v × ¬ HasRoomFor z adds u
HasGrown z adds (Err halt.Deep) u v = IsSameTree u v
-- A pass that is alone meets no range of another one.
HasGrown z adds (Err halt.Helped) u v = ⊥
HasGrown z adds (Err (halt.Stopped why)) u v = IsSameTree u v

-- Attempts of which none did the call: one base was split at most, which had no room for the key, and then there is room.
abbrev pub HasWaited : Sizes → Option (List ℕ) → TreeView → TreeView → Type 0
HasWaited z adds u v = IsSameTree u v ⊎ (Grows 1 2 1 u v × HasRoomFor z adds v × ¬ HasRoomFor z adds u)

-- Attempts of a call, the last of which did it, or none.
abbrev pub HasGrownInAttempts : {T E : Type 0} → Sizes → Option (List ℕ) → Result T E → TreeView → TreeView → Type 0
HasGrownInAttempts z adds (Ok x) u v = Grows 1 3 1 u v ⊎ (Grows 2 5 2 u v × ¬ HasRoomFor z adds u)
HasGrownInAttempts z adds (Err why) u v = HasWaited z adds u v

-- A call, by its outcome: one that was done split two bases only where there had been no room for the key that it may add; one that was refused split no base,
-- or one that had no room for it.
abbrev pub GrowsInCall : {T : Type 0} → Sizes → Option (List ℕ) → Outcome T → TreeView → TreeView → Type 0
GrowsInCall z adds (outcome.Done x) u v = Grows 1 3 1 u v ⊎ (Grows 2 5 2 u v × ¬ HasRoomFor z adds u)
GrowsInCall z adds (outcome.Busy spent) u v = HasWaited z adds u v
GrowsInCall z adds (outcome.Full full) u v = HasWaited z adds u v
GrowsInCall z adds (outcome.Deep level) u v = HasWaited z adds u v
GrowsInCall z adds (outcome.Worn counter) u v = HasWaited z adds u v
