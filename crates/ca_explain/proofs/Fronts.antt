-- The turns at the front of a client's turns to come.
use Rattle.std.specs.Prelude.{ℕ, zero, suc, ◌==◌, Bool, true, false, nat_le, List, [], ◌∷◌, ◌++◌, Option, None, Some, if◌then◌else◌}
use Rattle.ca_model.specs.History.{Edit}
use Rattle.ca_model.specs.Event.{Entry, effect}
use Rattle.ca_explain.specs.Places.{Turn, by_client}

-- whether a turn made no call of the store
abbrev pub is_free_by : Option Entry → Bool
is_free_by None = true
is_free_by (Some entry) = false

abbrev pub is_free : Turn → Bool
is_free turn = is_free_by turn.event

-- whether a call with these edits is a read at a place up to this one
abbrev pub is_read_by : List Edit → ℕ → ℕ → Bool
is_read_by [] place here = nat_le place here
is_read_by (edit ∷ edits) place here = false

abbrev pub is_ready_by : ℕ → Option Entry → Bool
is_ready_by here None = true
is_ready_by here (Some entry) = is_read_by (effect entry.0) entry.1 here

-- whether a turn made no call of the store, or read at a place up to this one
abbrev pub is_ready : ℕ → Turn → Bool
is_ready here turn = is_ready_by here turn.event

-- the turns at the front that pass a test
abbrev pub front : (Turn → Bool) → List Turn → List Turn
front test [] = []
front test (turn ∷ turns) = if test turn then turn ∷ front test turns else []

-- the turns behind those
abbrev pub behind : (Turn → Bool) → List Turn → List Turn
behind test [] = []
behind test (turn ∷ turns) = if test turn then behind test turns else turn ∷ turns

-- the first turn, an update, and those behind it that made no call of the store
abbrev pub update_of : List Turn → List Turn
update_of [] = []
update_of (turn ∷ turns) = turn ∷ front is_free turns

-- the turns behind those
abbrev pub behind_update : List Turn → List Turn
behind_update [] = []
behind_update (turn ∷ turns) = behind is_free turns

-- the turns of each client that are still to come
abbrev pub Waiting : Type 0
Waiting = ℕ → List Turn

-- client by client, so many from this one on, the turns at the front that pass a test
abbrev pub fronts : (Turn → Bool) → ℕ → ℕ → Waiting → List (ℕ × Turn)
fronts test zero client waiting = []
fronts test (suc count) client waiting = by_client client (front test (waiting client)) ++ fronts test count (suc client) waiting

-- each client's turns behind those
abbrev pub behind_fronts : (Turn → Bool) → Waiting → Waiting
behind_fronts test waiting client = behind test (waiting client)

-- the turns to come, with these for one client
abbrev pub with_turns : Waiting → ℕ → List Turn → Waiting
with_turns waiting client turns other = if other == client then turns else waiting other
