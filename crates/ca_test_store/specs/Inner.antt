-- What the private calls of a store with a script tell each other.
use Rattle.std.specs.Prelude.{◌≡◌, ℕ, ◌+◌, ◌≤◌, ◌<◌, true, false, List, drop, length, Option, None, Some}
use Rattle.ca_model.specs.StoreMap.{IsStoreMap}
use Rattle.ca_model.specs.History.{Edit, by_pass, AreEdits}
use Rattle.ca_model.specs.Edges.{Bound}
use Rattle.ca_model.specs.Event.{Event, Range, IsAnswer, effect}
use Rattle.ca_model.specs.Known.{Known, Counts, Declines, IsSameStore}
use Rattle.ca_test_store.specs.declared.refusal.Refusal.{Refusal}
use Rattle.ca_test_store.specs.declared.refusal.Call.{Call}
use Rattle.ca_test_store.specs.declared.refusal.Call.TheVariants as call
use Rattle.ca_test_store.specs.Script.{ScriptTurn, ScriptedStore, next_turn, after_edits, AreProper, IsProperTurn, count_edits}
use Rattle.ca_test_store.specs.Refusals.{counted, unless_deep}
use Rattle.ca_test_store.specs.Played.{Skips}

-- The store inside has one owner.
pub record IsOwned (k : Known) : Type 0 where
  pub alone : k.alone ≡ true
  pub sure : k.sure ≡ true
  pub ordered : IsStoreMap k.keypos k.map

-- It has no run open either.
pub record IsInner (k : Known) : Type 0 where
  pub owned : IsOwned k
  pub closed : k.run ≡ None

-- These edits may be made in it.
pub record IsReady (k : Known) (edits : List Edit) : Type 0 where
  pub inner : IsInner k
  pub proper : AreProper k.keypos edits
  pub room : length edits ≤ k.spare

-- These edits were made in it.
pub record HasMade (a b : Known) (edits : List Edit) : Type 0 where
  pub inner : IsInner b
  pub keypos : b.keypos ≡ a.keypos
  pub map : b.map ≡ after_edits edits a.map
  pub spare : a.spare ≤ b.spare + length edits

-- A call of it was this event, and took so much room at most.
pub record Answers (a b : Known) (room : ℕ) (event : Event) : Type 0 where
  pub inner : IsInner b
  pub keypos : b.keypos ≡ a.keypos
  pub answer : IsAnswer event a.map
  pub map : b.map ≡ after_edits (effect event) a.map
  pub edits : AreEdits a.keypos (by_pass 1 (effect event))
  pub spare : a.spare ≤ b.spare + room

-- A run of it is open, of all objects within these edges, and nothing else changed.
pub record InnerOpens (a b : Known) (lo hi : Bound) (objects : List (List ℕ)) : Type 0 where
  pub owned : IsOwned b
  pub keypos : b.keypos ≡ a.keypos
  pub answer : IsAnswer (Range lo hi hi objects) a.map
  pub map : b.map ≡ a.map
  pub spare : a.spare ≤ b.spare
  pub run : b.run ≡ Some objects

-- how a call of this kind is refused
abbrev pub refusal_at : Call → Option Refusal → Option Refusal
refusal_at call.Get told = None
refusal_at call.Other told = unless_deep told
refusal_at call.Put told = told

-- What is the same in every store with a script: it is the first of two passes, and tells no history.
pub record IsFirstOfTwo (k : Known) : Type 0 where
  pub pass : k.pass ≡ 1
  pub passes : k.passes ≡ 2
  pub alone : k.alone ≡ false
  pub sure : k.sure ≡ false
  pub seen : k.seen ≡ None

-- A call that isn't refused has taken its turn, and learnt of the edits before its own.
pub record Begins (a b : ScriptedStore) (asked : Call) (turn : ScriptTurn) : Type 0 where
  pub turn_is : turn ≡ next_turn a.turns
  pub turns : b.turns ≡ drop 1 a.turns
  pub refusal : refusal_at asked turn.refusal ≡ None
  pub first : IsFirstOfTwo a.known
  pub closed : b.known.run ≡ None
  pub same : IsSameStore a.known b.known
  pub map : b.known.map ≡ after_edits turn.before a.known.map
  pub counts : b.known.counts ≡ a.known.counts
  pub spare : b.known.spare ≡ a.known.spare
  pub valid : IsStoreMap a.known.keypos a.known.map
  pub proper : IsProperTurn a.known.keypos turn
  -- room is kept for the edits behind it too
  pub room : length turn.after + count_edits b.turns + b.known.spare ≤ b.room

-- A call with this budget was refused so.
pub record Refuses (a b : ScriptedStore) (asked : Call) (budget : ℕ) (refusal : Refusal) : Type 0 where
  pub refusal_is : refusal_at asked (next_turn a.turns).refusal ≡ Some refusal
  pub skips : Skips a b
  pub closed : b.known.run ≡ None
  pub declines : Declines a.known b.known (counted refusal budget a.known.counts)

abbrev pub AreBelow : ℕ → Counts → Type 0
AreBelow most counts = (counts.busy < most) × (counts.full < most) × (counts.deep < most) × (counts.worn < most)
