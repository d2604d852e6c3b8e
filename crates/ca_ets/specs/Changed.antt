-- What changes of an object's elements come to.
use Rattle.std.specs.Prelude.{◌≡◌, ℤ, List, Result, Ok, Err}
use Rattle.ca_term.specs.Tree.{Tree}
use Rattle.ca_term.specs.Updates.{ElementFault}
use Rattle.ca_ets.specs.Step.{fault_of}
use Rattle.ca_ets.specs.declared.change.Stop.{Stop}
use Rattle.ca_ets.specs.declared.change.Stop.TheVariants.{Refused, NoMemory}

-- The update's value, or why there is none; want of memory tells nothing.
abbrev pub IsChanged : {A B : Type 0} → (A → B) → Result B ElementFault → Result A Stop → Type 0
IsChanged seen update (Ok new) = update ≡ Ok (seen new)
IsChanged seen update (Err (Refused fault)) = (e : ElementFault) × (update ≡ Err e) × (fault ≡ fault_of e)
IsChanged seen update (Err NoMemory) = Unit {0}

-- An operation's value with the elements that it leaves, or why there is none.
abbrev pub IsCount : Result (List Tree × ℤ) ElementFault → Result ℤ Stop → List Tree → Type 0
IsCount (Ok left) (Ok value) items = (value ≡ left.1) × (items ≡ left.0)
IsCount (Ok left) (Err stop) items = ⊥
IsCount (Err e) (Ok value) items = ⊥
IsCount (Err e) (Err (Refused fault)) items = fault ≡ fault_of e
IsCount (Err e) (Err NoMemory) items = ⊥
