-- What calls on a key's object come to, as a store's contracts say it.
use Rattle.std.proofs.Common.{◌≡◌, ℕ, Bool, true, false, List, None, Some, sym, subst}
use denote.Ref.{Bor, MutBor}
use denote.Param.Members.{Shared}
use Rattle.arrayvec.specs.ArrayVec.{ArrayVec}
use Rattle.ca_model.specs.declared.outcome.Changed.{Changed}
use Rattle.ca_model.specs.declared.outcome.Changed.TheVariants as changed
use Rattle.ca_model.specs.declared.outcome.Outcome.{Outcome}
use Rattle.ca_model.specs.declared.outcome.Outcome.TheVariants as outcome
use Rattle.atomic_table.specs.Seated.{TableId}
use Rattle.ca_model.specs.Answer.{IfDone, Altered, FoundAbove, FoundBelow, Removed, RemovedIf}
use Rattle.ca_model.specs.Edges.{Bound}
use Rattle.ca_model.specs.Event.{Event, Get, Remove, Change, Above, Below}
use Rattle.ca_model.specs.Known.{Meets}
use Rattle.ca_node.specs.Told.{IsKnown}
use Rattle.ca_node.specs.TreeView.{TreeView}
use Rattle.ca_base.specs.Progress.{HasDone}
use Rattle.ca_replace.specs.Attempting.{HasDoneSuch}
use Rattle.ca_replace.specs.Resting.{known_of}
use Rattle.ca_replace.specs.Tells.{Alters, Removes, RemovesIf}
use Rattle.ca_replace.specs.Within.{FindsAbove, FindsBelow}
use Rattle.ca_replace.proofs.Meeting.{meets}
use Rattle.ca_rows.specs.declared.sizes.Sizes.{Sizes}

-- What follows from the value of a call that is done.
pub if_then : {T : Type 0} (P Q : T → Type 0) (o : Outcome T) → ((x : T) → P x → Q x) → IfDone o P
    → IfDone o Q
if_then P Q (outcome.Done x) h p = h x p
if_then P Q (outcome.Busy s) h p = tt
if_then P Q (outcome.Full s) h p = tt
if_then P Q (outcome.Deep s) h p = tt
if_then P Q (outcome.Worn s) h p = tt

-- It stays so where the object that was left is not emptied.
pub if_still : {T : Type 0} (P : T → ArrayVec ℕ → Type 0) (o : Outcome T) (left now : ArrayVec ℕ)
    → IfDone o (λ _. now ≡ left)
    → IfDone o (λ x. P x left) → IfDone o (λ x. P x now)
if_still P (outcome.Done x) left now same p = subst (P x) (sym same) p
if_still P (outcome.Busy s) left now same p = tt
if_still P (outcome.Full s) left now same p = tt
if_still P (outcome.Deep s) left now same p = tt
if_still P (outcome.Worn s) left now same p = tt

module _ (table : TableId) (z : Sizes) (u v : TreeView) (before : IsKnown z u)
    (behind : IsKnown z v) (key old : List ℕ) where
  met : (event e : Event) → e ≡ event → HasDone e u v
      → Meets (known_of table z u) (known_of table z v) event
  met event e same done = meets table z u v before behind event (subst
      (λ (x : Event). HasDone x u v) same done)

  -- The call removed the object.
  pub removed : (was : Bool) → HasDoneSuch (Removes key was old) u v
      → Removed (known_of table z u) (known_of table z v) key was old
  removed true h = met (Remove key (Some old)) h.0 h.1 h.2
  removed false h = (met (Remove key None) h.0 h.1.0 h.2, h.1.1)

  -- It changed the object.
  pub altered : {F : Type 0} (g : Shared F (Bor (List ℕ)
      × (MutBor (ArrayVec ℕ) × (MutBor ℕ × Unit {0}))) (Bool
      × (MutBor (ArrayVec ℕ) × (MutBor ℕ × Unit {0})))) (f : F) (x : Changed)
      → HasDoneSuch (Alters g f key x old) u v
      → Altered g f (known_of table z u) (known_of table z v) key x old
  altered g f changed.Absent h = (met (Change key None None) h.0 h.1.0 h.2, h.1.1)
  altered g f changed.Kept h = (h.1.0, met (Change key (Some old) None) h.0 h.1.1 h.2)
  altered g f changed.Put h =
      (h.1.0, h.1.1, h.1.2, met (Change key (Some old) (Some h.1.0)) h.0 h.1.3 h.2)

  -- It removed the object where the function said so.
  pub removed_if : {F : Type 0} (g : Shared F (Bor (List ℕ) × Unit {0}) Bool) (f : F) (x : Changed)
      → HasDoneSuch (RemovesIf g f key x old) u v
      → RemovedIf g f (known_of table z u) (known_of table z v) key x old
  removed_if g f changed.Absent h = (met (Get key None) h.0 h.1.0 h.2, h.1.1)
  removed_if g f changed.Kept h = (h.1.0, met (Get key (Some old)) h.0 h.1.1 h.2)
  removed_if g f changed.Put h = (h.1.0, met (Remove key (Some old)) h.0 h.1.1 h.2)

  -- It read the first object within a lower edge, or the last one within an upper edge.
  pub found_above : (lo : Bound) (found : Bool) → HasDoneSuch (FindsAbove lo found old) u v
      → FoundAbove (known_of table z u) (known_of table z v) lo found old
  found_above lo true h = met (Above lo (Some old)) h.0 h.1 h.2
  found_above lo false h = (met (Above lo None) h.0 h.1.0 h.2, h.1.1)

  pub found_below : (hi : Bound) (found : Bool) → HasDoneSuch (FindsBelow hi found old) u v
      → FoundBelow (known_of table z u) (known_of table z v) hi found old
  found_below hi true h = met (Below hi (Some old)) h.0 h.1 h.2
  found_below hi false h = (met (Below hi None) h.0 h.1.0 h.2, h.1.1)
