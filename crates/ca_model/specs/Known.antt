-- What contracts know of a store, and what a call makes known.
use Rattle.std.specs.Prelude.{◌≡◌, ℕ, suc, ◌+◌, ◌≤◌, Bool, true, false, List, [], ◌∷◌, ◌++◌, length, Option, None, Some}
use Rattle.ca_model.specs.declared.outcome.Cause.{Cause}
use Rattle.ca_model.specs.declared.outcome.Cause.TheVariants as cause
use Rattle.ca_model.specs.StoreMap.{StoreMap, IsStoreMap}
use Rattle.ca_model.specs.History.{History, after, by_pass, AreEdits, AreByPasses, AreByOthers}
use Rattle.ca_model.specs.Event.{Event, Entry, IsAnswer, effect}

-- the history that a pass has seen, and the log of its calls
pub record Seen : Type 0 where
  pub history : History
  pub log : List Entry

-- how many calls were refused, by the refusal, and why the last one was
pub record Counts : Type 0 where
  pub busy : ℕ
  pub full : ℕ
  pub deep : ℕ
  pub worn : ℕ
  pub last : Option Cause

pub record Known : Type 0 where
  -- which store it is of: numbers that no store of other memory has; none where the store shares nothing
  pub store : List ℕ
  -- which element of an object is its key, counted from 1
  pub keypos : ℕ
  -- the number of the pass that owns the store, and that of the last pass that may edit the map; passes count from 1
  pub pass : ℕ
  pub passes : ℕ
  -- whether nobody else edits the map
  pub alone : Bool
  -- whether no call is ever refused
  pub sure : Bool
  -- the map as far as it is known
  pub map : StoreMap
  -- what was seen, where the store tells it
  pub seen : Option Seen
  -- the objects that an open run has left, in key order, where one is open
  pub run : Option (List (List ℕ))
  -- for how many new keys there is room
  pub spare : ℕ
  pub counts : Counts

-- What never changes.
pub record IsSameStore (a b : Known) : Type 0 where
  pub store : b.store ≡ a.store
  pub keypos : b.keypos ≡ a.keypos
  pub pass : b.pass ≡ a.pass
  pub passes : b.passes ≡ a.passes
  pub alone : b.alone ≡ a.alone
  pub sure : b.sure ≡ a.sure

-- what was seen, with these edits behind the history and these entries behind the log
abbrev pub seen_with : Option Seen → History → List Entry → Option Seen
seen_with None learnt entries = None
seen_with (Some seen) learnt entries = Some (record { history = seen.history ++ learnt; log = seen.log ++ entries })

-- how many edits of the history were seen
abbrev pub place : Option Seen → ℕ
place None = 0
place (Some seen) = length seen.history

-- The store learnt of these edits, and its log got these entries.
pub record Learns (a b : Known) (learnt : History) (entries : List Entry) : Type 0 where
  pub same : IsSameStore a b
  pub map : b.map ≡ after learnt a.map
  pub seen : b.seen ≡ seen_with a.seen learnt entries
  pub valid : IsStoreMap a.keypos a.map
  pub edits : AreEdits a.keypos learnt
  pub passes : AreByPasses a.passes learnt

-- the edits that a call learns of: those before its event, its own, and those behind it
abbrev pub around : ℕ → History → Event → History → History
around pass earlier event later = earlier ++ by_pass pass (effect event) ++ later

-- the event's place in the history: behind the edits before it, and that of an update with effect behind its own edit
abbrev pub place_of : Known → History → Event → ℕ
place_of a earlier event = place a.seen + length earlier + length (effect event)

-- The call is this event at one state between what was known before it and what is known after it. What it learns of beside its own edit
-- was done by others; a store that is alone learns of nothing else.
pub record Meets (a b : Known) (event : Event) : Type 0 where
  pub earlier : History
  pub later : History
  pub answer : IsAnswer event (after earlier a.map)
  pub learns : Learns a b (around a.pass earlier event later) ((event, place_of a earlier event) ∷ [])
  pub others_earlier : AreByOthers a.pass earlier
  pub others_later : AreByOthers a.pass later
  pub alone : a.alone ≡ true → (earlier ≡ []) × (later ≡ [])
  pub counts : b.counts ≡ a.counts

-- the counts with one more refusal, for this cause
abbrev pub one_more : Cause → Counts → Counts
one_more (cause.Busy spent) c = record { busy = suc c.busy; full = c.full; deep = c.deep; worn = c.worn; last = Some (cause.Busy spent) }
one_more (cause.Full why) c = record { busy = c.busy; full = suc c.full; deep = c.deep; worn = c.worn; last = Some (cause.Full why) }
one_more (cause.Deep level) c = record { busy = c.busy; full = c.full; deep = suc c.deep; worn = c.worn; last = Some (cause.Deep level) }
one_more (cause.Worn counter) c = record { busy = c.busy; full = c.full; deep = c.deep; worn = suc c.worn; last = Some (cause.Worn counter) }

-- A refused call made no edit and wrote nothing into the log; all that it learns of was done by others. A store that is sure refuses nothing.
pub record Declines (a b : Known) (counts : Counts) : Type 0 where
  pub learnt : History
  pub learns : Learns a b learnt []
  pub others : AreByOthers a.pass learnt
  pub alone : a.alone ≡ true → learnt ≡ []
  pub counts_are : b.counts ≡ counts
  pub unsure : a.sure ≡ false

-- Nothing changes but the room, which doesn't shrink.
pub record Stays (a b : Known) : Type 0 where
  pub same : IsSameStore a b
  pub map : b.map ≡ a.map
  pub seen : b.seen ≡ a.seen
  pub run : b.run ≡ a.run
  pub counts : b.counts ≡ a.counts
  pub spare : a.spare ≤ b.spare

-- Nothing changes but the open run and the room.
pub record StaysBesideRun (a b : Known) : Type 0 where
  pub same : IsSameStore a b
  pub map : b.map ≡ a.map
  pub seen : b.seen ≡ a.seen
  pub counts : b.counts ≡ a.counts
