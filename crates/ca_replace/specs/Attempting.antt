-- Attempts of a call: each looks at the tree anew.
use Rattle.std.specs.Prelude.{◌≡◌, ℕ, ◌+◌, ◌-◌, ◌<◌, ◌≤◌, min, List, [], Option, None, Some, Result, Ok, Err, Bool, false}
use Rattle.ca_base.specs.declared.stop.Stop.{Stop}
use Rattle.ca_base.specs.declared.stop.Stop.TheVariants as stop
use Rattle.ca_replace.specs.declared.attempting.Halt.{Halt}
use Rattle.ca_replace.specs.declared.attempting.Halt.TheVariants as halt
use Rattle.ca_model.specs.declared.outcome.Counter.TheVariants as counter
use Rattle.ca_model.specs.declared.outcome.Outcome.{Outcome}
use Rattle.ca_model.specs.declared.outcome.Outcome.TheVariants as outcome
use Rattle.ca_model.specs.declared.outcome.Spent.{Spent}
use Rattle.ca_model.specs.Event.{Event}
use Rattle.ca_model.specs.StoreMap.{IsFound, IsPair}
use Rattle.ca_node.specs.declared.cursor.Cursor.{Cursor}
use Rattle.ca_node.specs.Inventory.{HasFewRows, IsListed}
use Rattle.ca_node.specs.Place.{Span, HasKey}
use Rattle.ca_node.specs.Tree.{StartsWith}
use Rattle.ca_node.specs.Walking.{IsBegin}
use Rattle.ca_base.specs.Counting.{losses, HasMet, HasStoppedBy}
use Rattle.ca_base.specs.Spending.{RisesBy}
use Rattle.ca_node.specs.Told.{IsKnown, MyTree}
use Rattle.ca_node.specs.States.{HasState, IsAlone, IsUnanswered, OfSomeState}
use Rattle.ca_node.specs.TreeView.{Quiet, TreeView}
use Rattle.ca_range.specs.Clearing.{turns_at}
use Rattle.ca_model.specs.declared.outcome.Cause.{Cause}
use Rattle.ca_model.specs.declared.outcome.Cause.TheVariants as cause
use Rattle.ca_base.specs.Finding.{IsReadable, IsAtCursor}
use Rattle.ca_base.specs.Progress.{IsFurther, HasDone}
use Rattle.ca_base.specs.Putting.{first_note, object_at}
use Rattle.ca_rows.specs.declared.sizes.Sizes.{Sizes}
use Rattle.ca_rows.specs.declared.space.Pass.{Pass}
use Rattle.ca_rows.specs.declared.space.Space.{Space}
use Rattle.ca_replace.specs.declared.adapting.Course.{Course}

-- The base under the cursor was shown last. This key is one of those that are led there, and the base has what a state since the pin has of them,
-- of a history that is known.
pub record IsLooking (z : Sizes) (u : TreeView) (key : List ℕ) (cursor : Cursor) : Type 0 where
  pub readable : IsReadable z u cursor.base (first_note u.notes)
  pub at : IsAtCursor z (first_note u.notes) cursor
  pub last : u.last ≡ first_note u.notes
  pub about : HasKey (first_note u.notes).place.span key
  pub has : HasState z u (first_note u.notes)
  pub known : IsKnown z u
  pub listed : IsAlone z u → IsListed u.inventory (first_note u.notes)
  pub shallow : IsAlone z u → (first_note u.notes).place.level ≤ u.splits
  pub few_rows : IsAlone z u → HasFewRows u
  -- Another walk to such a key may begin with the cursor's link.
  pub begins : IsBegin z u (first_note u.notes).place.span cursor

-- An attempt may begin with this cursor's link, if there is one, and else at the root: the key is led there.
abbrev pub BeginsAt : Sizes → List ℕ → TreeView → Option Cursor → Type 0
BeginsAt z key u None = Unit {0}
BeginsAt z key u (Some cursor) = (span : Span) × IsBegin z u span cursor × HasKey span key

-- The key's object was copied, or there is none.
abbrev pub HasFetched : Sizes → TreeView → List ℕ → Result ℕ ℕ → List ℕ → Type 0
HasFetched z u key (Ok at) o = OfSomeState u (λ map. IsFound map key (Some o)) × IsPair z.keypos (key, o) × (object_at (Ok at) (first_note u.notes).objects ≡ o)
HasFetched z u key (Err at) o = OfSomeState u (λ map. IsFound map key None) × (o ≡ [])

-- A call was entered in the log, one that is told so.
abbrev pub HasDoneSuch : (Event → Type 0) → TreeView → TreeView → Type 0
HasDoneSuch tells u v = (event : Event) × tells event × HasDone event u v

-- The attempt did the call, which is told so; or it came to a stop, and learnt of others' edits alone.
abbrev pub HasTriedTo : {T : Type 0} → (T → Event → Type 0) → Sizes → Result T Halt → TreeView → TreeView → Type 0
HasTriedTo tells z (Ok x) u v = HasDoneSuch (tells x) u v × IsKnown z v
HasTriedTo tells z (Err why) u v = IsFurther u v × IsKnown z v

-- what the pass knew of the history as it was pinned
abbrev pub at_pin : TreeView → TreeView
at_pin u = record u { seen = u.since }

-- Since it was pinned the pass learnt of others' edits alone.
pub record IsAsking (u : TreeView) : Type 0 where
  pub before : StartsWith u.seen u.since
  pub unanswered : IsUnanswered u

module _ {R : Type 0} where
  -- The pass has no range, nor an attempt to join, and knows its number. Where it met no mark since it was pinned, it found no range of another pass
  -- unfinished.
  pub record IsIdle (marked : Bool) (pass : Pass R TreeView) : Type 0 where
    pub number : pass.number ≡ pass.seat.me.0.upper.number
    pub quiet : pass.seat.me.0.upper.ranges.own ≡ Quiet
    pub none_met : marked ≡ false → pass.seat.me.0.upper.ranges.unfinished ≡ []

-- The attempt did the call, which is told so, at a place that isn't before the pin; or it came to a stop, and learnt of others' edits alone.
abbrev pub HasTriedSince : {T : Type 0} → (T → Event → Type 0) → Sizes → Result T Halt → TreeView → TreeView → Type 0
HasTriedSince tells z (Ok x) u v = HasDoneSuch (tells x) (at_pin u) v × IsKnown z v
HasTriedSince tells z (Err why) u v = IsFurther u v × IsKnown z v

-- Where an attempt came to a stop another one may follow under the same pin, which begins so. Where it met no mark, no other range was found unfinished.
abbrev pub StaysAt : {T : Type 0} → Sizes → List ℕ → Result T Halt → TreeView → TreeView → Option Cursor → Bool → Type 0
StaysAt z key (Ok x) u v again marked = Unit {0}
StaysAt z key (Err why) u v again marked = (v.since ≡ u.since) × BeginsAt z key v again
    × (marked ≡ false → v.ranges.unfinished ≡ u.ranges.unfinished)

-- So it is of a pass of this space, by what is handed on.
abbrev pub StaysFor : {R T : Type 0} → Space R TreeView → List ℕ → Result T Halt → Pass R TreeView → Pass R TreeView → Course → Type 0
StaysFor space key r pass new course = StaysAt space.table.shared.key key r pass.seat.me.0.upper new.seat.me.0.upper course.again course.marked

-- what an attempt comes to that tried to split a full base, given what became of it
abbrev pub split_to : {T : Type 0} → Result T Stop → Halt
split_to (Ok x) = halt.Split
split_to (Err why) = halt.Stopped why

-- what an attempt comes to, given what became of its exchange
abbrev pub come_to : {T : Type 0} → Result T Stop → Result T Halt
come_to (Ok x) = Ok x
come_to (Err why) = Err (halt.Stopped why)

-- Attempts did the call, which is told so; or it is refused, and they learnt of others' edits alone.
abbrev pub HasAttempted : {T : Type 0} → (T → Event → Type 0) → Result T Cause → TreeView → TreeView → Type 0
HasAttempted tells (Ok x) u v = HasDoneSuch (tells x) u v
HasAttempted tells (Err why) u v = IsFurther u v

-- why a call is refused whose last attempt came to this, given what was spent and how many levels there are
abbrev pub refusal_of : Halt → Spent → ℕ → Cause
refusal_of (halt.Stopped (stop.Lost exchange)) spent levels = cause.Busy spent
refusal_of (halt.Stopped stop.Empty) spent levels = cause.Busy spent
refusal_of (halt.Stopped stop.Worn) spent levels = cause.Worn counter.PoolTag
refusal_of halt.Deep spent levels = cause.Deep levels
refusal_of halt.Split spent levels = cause.Busy spent
refusal_of halt.Helped spent levels = cause.Busy spent

-- what a call comes to by its last attempt, which found the rows that it wanted
abbrev pub refused_as : {T : Type 0} → Result T Halt → Spent → ℕ → Result T Cause
refused_as (Ok x) spent levels = Ok x
refused_as (Err why) spent levels = Err (refusal_of why spent levels)

-- Another attempt may follow one that came to this: an exchange was lost, a full base was split, or another pass's range was helped.
abbrev pub MayFollow : Halt → Type 0
MayFollow (halt.Stopped (stop.Lost exchange)) = Unit {0}
MayFollow (halt.Stopped stop.Empty) = ⊥
MayFollow (halt.Stopped stop.Worn) = ⊥
MayFollow halt.Deep = ⊥
MayFollow halt.Split = Unit {0}
MayFollow halt.Helped = Unit {0}

abbrev pub HasNext : {T : Type 0} → Result T Halt → Type 0
HasNext (Ok x) = ⊥
HasNext (Err why) = MayFollow why

-- how many splits a seat carried out
abbrev pub splits : MyTree → ℕ
splits m = m.0.upper.splits

-- how often it passed on to another place, as by a split, and how many operations of others it helped to their end
abbrev pub passes : MyTree → ℕ
passes m = m.0.upper.turns.passed

abbrev pub helps : MyTree → ℕ
helps m = m.0.upper.turns.helped

-- An attempt that did not do the call came to this by what it met; where it split a full base, that was a turn more, and so was its help.
abbrev pub HasHalted : Halt → MyTree → MyTree → Type 0
HasHalted (halt.Stopped why) m m' = HasStoppedBy why m m'
HasHalted halt.Deep m m' = HasMet 0 0 m m'
HasHalted halt.Split m m' = HasMet 0 0 m m' × (passes m < passes m')
HasHalted halt.Helped m m' = HasMet 0 0 m m' × (turns_at m < turns_at m')

abbrev pub HasStopped : {T : Type 0} → Result T Halt → MyTree → MyTree → Type 0
HasStopped (Ok x) m m' = Unit {0}
HasStopped (Err why) m m' = HasHalted why m m'

-- What was spent was added up: the exchanges that were lost, the operations of others that were helped, and the other turns, each up to the last number
-- that 32 bits hold.
pub record IsPaid (before now : Spent) (m m' : MyTree) : Type 0 where
  pub more : losses m ≤ losses m'
  pub lost : before.lost ≤ 4294967295 → now.lost ≡ min 4294967295 (before.lost + (losses m' - losses m))
  pub more_helped : helps m ≤ helps m'
  pub helped : before.helped ≤ 4294967295 → now.helped ≡ min 4294967295 (before.helped + (helps m' - helps m))
  pub more_passed : passes m ≤ passes m'
  pub passed : before.passed ≤ 4294967295 → now.passed ≡ min 4294967295 (before.passed + (passes m' - passes m))

-- So it was, but how much was helped isn't told.
pub record IsPaidBut (before now : Spent) (m m' : MyTree) : Type 0 where
  pub more_helped : helps m ≤ helps m'
  pub lost : RisesBy before.lost now.lost (losses m) (losses m')
  pub passed : RisesBy before.passed now.passed (passes m) (passes m')

-- By what an attempt comes to: where it did the call, whose budget binds it no more then, what it helped isn't told.
abbrev pub IsPaidTo : {T E : Type 0} → Result T E → Spent → Spent → MyTree → MyTree → Type 0
IsPaidTo (Ok x) before now m m' = IsPaidBut before now m m'
IsPaidTo (Err why) before now m m' = IsPaid before now m m'

-- how many turns were spent in all
abbrev pub total : Spent → ℕ
total spent = spent.lost + spent.helped + spent.passed

-- Nothing was updated, no exchange of a link was lost, and no attempt to join was begun.
abbrev pub IsIdleSince : TreeView → TreeView → Type 0
IsIdleSince u v = (v.renewal ≡ u.renewal) × (v.lost ≡ u.lost) × (v.tries ≡ u.tries)

-- No exchange was lost, nothing was met of the pool, and no row more was held.
pub record IsQuiet (m m' : MyTree) : Type 0 where
  pub lost : losses m' ≡ losses m
  pub met : HasMet 0 0 m m'
  pub most : m'.0.most ≡ m.0.most
  pub splits_are : splits m' ≡ splits m
  pub same_turns : m'.0.upper.turns ≡ m.0.upper.turns
  -- Nothing was updated, or tried to be joined.
  pub idle : IsIdleSince m.0.upper m'.0.upper
  -- The tree has what it had.
  pub same_inventory : m'.0.upper.inventory ≡ m.0.upper.inventory
  pub same_cuts : m'.0.upper.cuts ≡ m.0.upper.cuts

-- Where the call is refused for want of levels, this holds.
abbrev pub IfDeep : {T : Type 0} → Outcome T → Type 0 → Type 0
IfDeep (outcome.Done x) P = Unit {0}
IfDeep (outcome.Busy s) P = Unit {0}
IfDeep (outcome.Full s) P = Unit {0}
IfDeep (outcome.Deep s) P = P
IfDeep (outcome.Worn s) P = Unit {0}
