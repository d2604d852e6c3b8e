-- A script for a store's calls: of which edits of others each call learns, and which calls are refused.
use Rattle.std.specs.Prelude.{ℕ, ◌+◌, ◌≤◌, List, [], ◌∷◌, length, Option, None}
use Rattle.ca_term.specs.declared.bounds.TheConstants.{MOST_CODE_BYTES}
use Rattle.ca_model.specs.StoreMap.{StoreMap, IsPair}
use Rattle.ca_model.specs.History.{Edit, Put, Del, after_edit}
use Rattle.ca_model.specs.Known.{Known}
use Rattle.ca_test_store.specs.declared.refusal.Refusal.{Refusal}

-- what one call finds in the script
pub record ScriptTurn : Type 0 where
  -- others' edits, of which it learns before its own
  pub before : List Edit
  -- how it is refused, if it is
  pub refusal : Option Refusal
  -- others' edits, of which it learns behind its own
  pub after : List Edit

-- what contracts see of a store with a script
pub record ScriptedStore : Type 0 where
  pub known : Known
  -- the turns that are left, one a call
  pub turns : List ScriptTurn
  -- how many objects, of the store and of others, find room without memory
  pub room : ℕ

-- the turn of the next call: behind the last one nothing is learnt and nothing refused
abbrev pub next_turn : List ScriptTurn → ScriptTurn
next_turn [] = record { before = []; refusal = None; after = [] }
next_turn (turn ∷ turns) = turn

-- the map after these edits, in order
abbrev pub after_edits : List Edit → StoreMap → StoreMap
after_edits [] map = map
after_edits (edit ∷ edits) map = after_edits edits (after_edit edit map)

-- An edit puts an object under its key alone, or removes a key that a call may be handed.
abbrev pub IsProper : ℕ → Edit → Type 0
IsProper keypos (Put k o) = IsPair keypos (k, o)
IsProper keypos (Del k) = (1 ≤ length k) × (length k ≤ MOST_CODE_BYTES)

abbrev pub AreProper : ℕ → List Edit → Type 0
AreProper keypos [] = Unit {0}
AreProper keypos (edit ∷ edits) = IsProper keypos edit × AreProper keypos edits

pub record IsProperTurn (keypos : ℕ) (turn : ScriptTurn) : Type 0 where
  pub before : AreProper keypos turn.before
  pub after : AreProper keypos turn.after

abbrev pub AreProperTurns : ℕ → List ScriptTurn → Type 0
AreProperTurns keypos [] = Unit {0}
AreProperTurns keypos (turn ∷ turns) = IsProperTurn keypos turn × AreProperTurns keypos turns

-- for how many edits of others room is kept
abbrev pub count_edits : List ScriptTurn → ℕ
count_edits [] = 0
count_edits (turn ∷ turns) = length turn.before + length turn.after + count_edits turns
