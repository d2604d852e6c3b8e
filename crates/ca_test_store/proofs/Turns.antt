-- The next turn of a script.
use Rattle.std.proofs.Common.{◌≡◌, ℕ, List, [], ◌∷◌, sym, subst}
use Rattle.ca_test_store.specs.Script.{ScriptTurn, next_turn, IsProperTurn, AreProperTurns}

next_proper : (keypos : ℕ) (turns : List ScriptTurn) → AreProperTurns keypos turns → IsProperTurn keypos (next_turn turns)
next_proper keypos [] h = record { before = tt; after = tt }
next_proper keypos (turn ∷ turns) h = h.0

-- A call's turn has proper edits alone.
pub turn_proper : (keypos : ℕ) (turns : List ScriptTurn) (turn : ScriptTurn) → AreProperTurns keypos turns → turn ≡ next_turn turns
    → IsProperTurn keypos turn
turn_proper keypos turns turn h next = subst (λ (x : ScriptTurn). IsProperTurn keypos x) (sym next) (next_proper keypos turns h)
