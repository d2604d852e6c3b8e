-- Which bases a call split: full ones that had to take its new key, before its update, and after it the one that is due.
use Rattle.std.specs.Prelude.{◌≡◌, ◌⊎◌, ℕ, ◌≤◌, Bool, true, false, List, ◌∷◌, ◌++◌, length, map, Result, Ok, Err}
use Rattle.std.specs.declared.option.Option.{Option}
use Rattle.std.specs.declared.option.Option.TheVariants.{None, Some}
use Rattle.ca_replace.specs.declared.attempting.Halt.{Halt}
use Rattle.ca_replace.specs.declared.attempting.Halt.TheVariants as halt
use Rattle.ca_adapt.specs.Splits.{attempts_at_first}
use Rattle.ca_base.specs.Splitting.{IsSplit}
use Rattle.ca_model.specs.declared.outcome.Outcome.{Outcome}
use Rattle.ca_model.specs.declared.outcome.Outcome.TheVariants as outcome
use Rattle.ca_model.specs.StoreMap.{IsFound}
use Rattle.ca_node.specs.Links.{IsIn}
use Rattle.ca_node.specs.Place.{HasKey}
use Rattle.ca_node.specs.Row.{pair}
use Rattle.ca_node.specs.TreeView.{Note, Division, TreeView}
use Rattle.ca_rows.specs.declared.sizes.Sizes.{Sizes}

-- The base is full, and the key that the call may add, if any, is led to it: no object there has it.
abbrev pub IsFullFor : Sizes → Option (List ℕ) → Note → Type 0
IsFullFor z None note = ⊥
IsFullFor z (Some key) note = (z.leaf ≤ length note.objects) × HasKey note.place.span key × IsFound (map pair note.objects) key None

-- The base was split in the middle of its objects, rounded down; the statistic of its halves is 0, and its route has had as many attempts to join as the
-- space was made with.
abbrev pub IsCutInTwo : Sizes → Division → Type 0
IsCutInTwo z x = IsSplit x.old (length x.old.objects) (attempts_at_first z) x

-- The splits that were carried out since these ones are of such bases.
abbrev pub AreCutFull : Sizes → Option (List ℕ) → List Division → List Division → Type 0
AreCutFull z adds before now = (full : List Division) × (now ≡ full ++ before) × ((x : Division) → IsIn x full → IsFullFor z adds x.old × IsCutInTwo z x)

-- No base was split but such ones.
abbrev pub HasCutFull : Sizes → Option (List ℕ) → TreeView → TreeView → Type 0
HasCutFull z adds u v = AreCutFull z adds u.cuts v.cuts

-- No base was split since these had been split, or one, that is the new one of the last update and was shown last.
abbrev pub HasCutDue : Sizes → List Division → TreeView → Type 0
HasCutDue z before v = (v.cuts ≡ before) ⊎ ((x : Division) × (v.cuts ≡ x ∷ before) × IsCutInTwo z x × (x.old ≡ v.last) × (v.last.row ≡ v.renewal.new.row))

-- So it is where an update was carried out; else no base was split.
abbrev pub HasCutBehind : Bool → Sizes → List Division → TreeView → Type 0
HasCutBehind true z before v = HasCutDue z before v
HasCutBehind false z before v = v.cuts ≡ before

-- One attempt of a call that may add this key, if any.
abbrev pub HasCut : {T : Type 0} → (T → Bool) → Sizes → Option (List ℕ) → Result T Halt → TreeView → TreeView → Type 0
HasCut edits z adds (Ok x) u v = HasCutBehind (edits x) z u.cuts v
HasCut edits z adds (Err halt.Split) u v = (x : Division) × (v.cuts ≡ x ∷ u.cuts) × IsFullFor z adds x.old × IsCutInTwo z x
HasCut edits z adds (Err halt.Deep) u v = v.cuts ≡ u.cuts
HasCut edits z adds (Err halt.Helped) u v = v.cuts ≡ u.cuts
HasCut edits z adds (Err (halt.Stopped why)) u v = v.cuts ≡ u.cuts

-- Full bases were split before the update, and after it the one that is due, if it is; where none was carried out, none but full ones.
abbrev pub HasCutForEdit : Bool → Sizes → Option (List ℕ) → TreeView → TreeView → Type 0
HasCutForEdit true z adds u v = (then : List Division) × AreCutFull z adds u.cuts then × HasCutDue z then v
HasCutForEdit false z adds u v = HasCutFull z adds u v

-- Attempts of a call, the last of which did it, or none.
abbrev pub HasCutInAttempts : {T E : Type 0} → (T → Bool) → Sizes → Option (List ℕ) → Result T E → TreeView → TreeView → Type 0
HasCutInAttempts edits z adds (Ok x) u v = HasCutForEdit (edits x) z adds u v
HasCutInAttempts edits z adds (Err why) u v = HasCutFull z adds u v

-- A call, by its outcome.
abbrev pub HasCutInCall : {T : Type 0} → (T → Bool) → Sizes → Option (List ℕ) → Outcome T → TreeView → TreeView → Type 0
HasCutInCall edits z adds (outcome.Done x) u v = HasCutForEdit (edits x) z adds u v
HasCutInCall edits z adds (outcome.Busy s) u v = HasCutFull z adds u v
HasCutInCall edits z adds (outcome.Full s) u v = HasCutFull z adds u v
HasCutInCall edits z adds (outcome.Deep s) u v = HasCutFull z adds u v
HasCutInCall edits z adds (outcome.Worn s) u v = HasCutFull z adds u v
