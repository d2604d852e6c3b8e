-- What a step of the structure above the rows asks, and what it tells.
use Rattle.std.specs.Prelude.{◌≡◌, ◌==◌, ℕ, ◌<◌, Bool}
use mathlib.Core.Option.{none}
use prog.Atomic.{either}
use Rattle.atomic_table.specs.Table.{Allows, State, Step, step}
use Rattle.ca_rows.specs.declared.space.Pass.{Pass}
use Rattle.ca_rows.specs.declared.space.Space.{Space}
use Rattle.ca_rows.specs.declared.view.View.{View}
use Rattle.ca_rows.specs.Calls.{Raises, Relinks}
use Rattle.ca_rows.specs.Passes.{known}
use Rattle.ca_rows.specs.Told.{Mine}

module _ {R U : Type 0} (space : Space R U) where
  -- the step at this word that expects the first value and writes the second
  abbrev pub step_at : ℕ → ℕ → ℕ → Step (Unit {0})
  step_at word first second = step space.table.shared.table_id.slots word first second none

  -- The pass is one of this table, which has the word.
  abbrev pub IsStepOn : Pass R U → ℕ → Type 0
  IsStepOn pass word = (pass.seat.table_id ≡ space.table.shared.table_id) × (word < space.table.shared.table_id.words)

  module _ (rule : State (Unit {0}) (View U) → Type 0) (may then : Step (Unit {0}) → Mine U → ℕ → Mine U → Type 0) (pass : Pass R U) (word : ℕ) where
    -- Whatever the word is by then, a load of it keeps the rule, and tells only what the rule above allows.
    abbrev pub LoadKeeps : Type 0
    LoadKeeps = Allows rule space.table.shared.table_id.slots pass.seat.id (known pass) word (λ n. n) (Raises may then (step_at word 0 0) (known pass))

    -- So it is of a store of this value.
    abbrev pub StoreKeeps : ℕ → Type 0
    StoreKeeps new = Allows rule space.table.shared.table_id.slots pass.seat.id (known pass) word (λ _. new)
        (λ _. Raises may then (step_at word new 0) (known pass) new)

    -- So it is of an exchange, which writes the second value where the word is the first one.
    abbrev pub SwapKeeps : ℕ → ℕ → Type 0
    SwapKeeps old new = Allows rule space.table.shared.table_id.slots pass.seat.id (known pass) word (λ n. either (n == old) new n)
        (Relinks may then (step_at word old new) (known pass))

  -- An exchange was tried, and won exactly where the word was the first value; it told this.
  abbrev pub HasSwapped : (Step (Unit {0}) → Mine U → ℕ → Mine U → Type 0) → Pass R U → Pass R U → ℕ → ℕ → ℕ → Bool → Type 0
  HasSwapped then pass new_pass word old new won =
      (n : ℕ) × then (step_at word old new) (known pass) n (known new_pass) × (won ≡ (n == old))
