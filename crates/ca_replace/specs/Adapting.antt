-- What follows an update: how its base's statistic moved, and what was done about the new base.
use Rattle.std.specs.Prelude.{◌≡◌, ◌≢◌, ◌⊎◌, ℕ, ◌+◌, ◌<◌, ◌≤◌, Bool, true, false, ℤ, List, length, slice_index, Result, Ok, Err}
use Rattle.ca_base.specs.Readiness.{IsReady}
use Rattle.ca_base.specs.declared.stop.Exchange.TheVariants as exchange
use Rattle.ca_base.specs.declared.stop.Stop.{Stop}
use Rattle.ca_base.specs.declared.stop.Stop.TheVariants as stop
use Rattle.ca_adapt.specs.declared.adapted.Adapted.{Adapted}
use Rattle.ca_adapt.specs.declared.adapted.Adapted.TheVariants as adapted
use Rattle.ca_adapt.specs.declared.adapted.Why.{Why}
use Rattle.ca_adapt.specs.declared.adapted.Why.TheVariants as why
use Rattle.ca_adapt.specs.declared.statistic.Due.{Due}
use Rattle.ca_adapt.specs.declared.statistic.Due.TheVariants as due
use Rattle.ca_adapt.specs.declared.tuning.Tuning.{Tuning}
use Rattle.ca_adapt.specs.Splits.{MayBeSplit}
use Rattle.ca_adapt.specs.Trying.{IsJoinOutcome}
use Rattle.ca_adapt.specs.Statistics.{IsAfter, IsDue, IsStatisticOf, IsWordOf}
use Rattle.ca_model.specs.declared.outcome.Changed.{Changed}
use Rattle.ca_model.specs.declared.outcome.Changed.TheVariants as changed
use Rattle.ca_model.specs.declared.outcome.Outcome.{Outcome}
use Rattle.ca_model.specs.declared.outcome.Outcome.TheVariants as outcome
use Rattle.ca_node.specs.declared.link.Link.{Link}
use Rattle.ca_node.specs.Links.{IsIn}
use Rattle.ca_node.specs.Place.{HasKey, Place}
use Rattle.ca_node.specs.Row.{IsUnmarked}
use Rattle.ca_node.specs.Told.{IsKnown, MyTree, link_word}
use Rattle.ca_node.specs.TreeView.{Note, Quiet, Renewal, Tries, TreeView}
use Rattle.ca_replace.specs.declared.adapting.Adapting.{Adapting}
use Rattle.ca_replace.specs.declared.adapting.Last.{Last}
use Rattle.ca_rows.specs.declared.sizes.Sizes.{Sizes}
use Rattle.ca_rows.specs.declared.space.Pass.{Pass}
use Rattle.ca_rows.specs.declared.space.Space.{Space}
use Rattle.ca_rows.specs.declared.view.Met.{Met}
use Rattle.ca_rows.specs.Told.{met_of}

module _ {R : Type 0} where
  -- The pass is pinned, holds no row, and has no range and no attempt to join, of a history that is known: it may do what is due behind its update.
  pub record MayAdapt (space : Space R TreeView) (pass : Pass R TreeView) : Type 0 where
    pub ready : IsReady space pass
    pub known : IsKnown space.table.shared.key pass.seat.me.0.upper
    pub quiet : pass.seat.me.0.upper.ranges.own ≡ Quiet

-- Of a base with this word for its statistic, an update makes one with this statistic: it depends on whether the call lost an exchange of a link.
abbrev pub IsMoved : Tuning → ℕ → Bool → ℤ → Type 0
IsMoved t word lost statistic = (old : ℤ) × IsStatisticOf word old × IsAfter t old lost statistic

-- Whether a call has lost an exchange of a link was known as so many were lost, and this is known now: it lost none since, or it lost some.
abbrev pub HasLostSince : Bool → Bool → ℕ → ℕ → Type 0
HasLostSince before now few many = ((now ≡ before) × (many ≡ few)) ⊎ ((now ≡ true) × (few < many))

-- The base with this row was just put in place, by an update that is about this key; it was shown last. So many splits, joins, losses and turns were counted as
-- it was, and are now, and so many tries to join; and so many links were loaded. No range marked it, and no join.
pub record IsNew (placed : ℕ) (key : List ℕ) (met : Met) (u : TreeView) : Type 0 where
  pub row : placed ≡ u.renewal.new.row
  pub last : u.last ≡ u.renewal.new
  pub key_is : u.renewal.key ≡ key
  pub splits_are : u.splits ≡ u.renewal.splits
  pub joins_are : u.joins ≡ u.renewal.joins
  pub lost_are : u.lost ≡ u.renewal.lost
  pub loads_are : u.loads ≡ u.renewal.loads
  pub passed_are : u.turns.passed ≡ u.renewal.passed
  pub tries_are : u.tries ≡ u.renewal.tries
  pub met_are : met ≡ u.renewal.met
  pub noted : IsIn u.renewal.new u.notes
  pub unmarked : IsUnmarked u.renewal.new.its
  -- It is listed at a place to which the key is led.
  pub listed : (place : Place) × IsIn (u.renewal.new.row, place) u.inventory.bases × (placed ≡ u.renewal.new.row) × HasKey place.span key

-- Nothing was done about the new base: since it was put in place no base was split, and none was joined.
abbrev pub IsLeft : TreeView → Adapted → Type 0
IsLeft v a = (a ≡ adapted.Stay) × (v.splits ≡ v.renewal.splits) × (v.joins ≡ v.renewal.joins)

-- The base was not split, for this reason.
abbrev pub IsReason : Sizes → Note → Why → Type 0
IsReason z note why.Root = ⊥
IsReason z note why.OneObject = length note.objects < 2
IsReason z note why.AtLevel = (2 ≤ length note.objects) × (z.levels ≤ note.place.level)
IsReason z note why.SiblingRoute = ⊥
IsReason z note why.TooMany = ⊥
IsReason z note why.Taken = ⊥
IsReason z note why.Lost = MayBeSplit z note
IsReason z note why.NoRow = MayBeSplit z note
IsReason z note why.Worn = MayBeSplit z note

-- It was tried once to split the base.
abbrev pub HasTriedOnce : Sizes → Note → ℕ → ℕ → Adapted → Type 0
HasTriedOnce z note before now adapted.Stay = ⊥
HasTriedOnce z note before now adapted.Split = MayBeSplit z note × (now ≡ before + 1)
HasTriedOnce z note before now adapted.Joined = ⊥
HasTriedOnce z note before now (adapted.NotSplit why) = IsReason z note why × (now ≡ before)
HasTriedOnce z note before now (adapted.NotJoined why) = ⊥

-- This was known as the new base had been walked to again: it was shown last, and nothing was split or joined, nor tried to be joined, since it was put in
-- place. No link was loaded behind the one that showed it.
abbrev pub IsKnownThere : Sizes → MyTree → TreeView → Type 0
IsKnownThere z m v = (m.0.sizes ≡ z) × (m.0.upper.last ≡ v.last) × (m.0.upper.loads ≡ v.shown) × (m.0.upper.renewal ≡ v.renewal) × (m.0.upper.since ≡ v.since)
    × (m.0.upper.joins ≡ v.renewal.joins) × (m.0.upper.lost ≡ v.renewal.lost) × (met_of m ≡ v.renewal.met) × (m.0.upper.turns.passed ≡ v.renewal.passed)
    × (m.0.upper.tries ≡ v.renewal.tries)

-- This is known now: nothing was seen, loaded, joined, tried or lost since.
abbrev pub IsKnownNow : MyTree → TreeView → Type 0
IsKnownNow m v = (m.0.upper.seen ≡ v.seen) × (m.0.upper.loads ≡ v.loads) × (m.0.upper.joins ≡ v.joins) × (m.0.upper.lost ≡ v.lost)
    × (m.0.upper.turns ≡ v.turns) × (m.0.upper.tries ≡ v.tries)

-- It was tried once to join the base that was shown last, between these two moments: that base hangs on this link. No base was split.
abbrev pub HasTriedToJoin : Sizes → TreeView → Adapted → Type 0
HasTriedToJoin z v a = (link : Link) × (m : MyTree) × (m' : MyTree) × (v.last.place.link ≡ link_word link) × IsKnownThere z m v × IsKnownNow m' v
    × IsJoinOutcome z link v.last a m m' × (v.splits ≡ v.renewal.splits)

-- The base that was shown last was shown since the last update, by a link; until then no more links were loaded than one walk loads at most.
abbrev pub IsShownByOne : Sizes → TreeView → Type 0
IsShownByOne z v = (v.renewal.loads < v.shown) × (v.shown ≤ v.renewal.loads + (z.levels + 1))

-- The pass walked to the key of its last update anew, by one walk: the base that it came to has the key. Where that is another one than the new one, nothing
-- was tried, and no link loaded behind the walk; where it is that one, this was tried.
abbrev pub HasWalkedThere : Sizes → TreeView → Adapted → Type 0 → Type 0
HasWalkedThere z v a Tried = IsShownByOne z v × HasKey v.last.place.span v.renewal.key
    × (((v.last.row ≢ v.renewal.new.row) × IsLeft v a × (v.loads ≡ v.shown)) ⊎ ((v.last.row ≡ v.renewal.new.row) × Tried))

-- It was tried once to split it, with no link loaded, and none was joined; or it was tried once to join it, and none was split.
abbrev pub HasTriedThere : Sizes → TreeView → Adapted → Type 0
HasTriedThere z v a = HasWalkedThere z v a (HasTriedOnce z v.last v.renewal.splits v.splits a × (v.joins ≡ v.renewal.joins) × (v.loads ≡ v.shown))

abbrev pub HasJoinedThere : Sizes → TreeView → Adapted → Type 0
HasJoinedThere z v a = HasWalkedThere z v a (HasTriedToJoin z v a)

-- Nothing was tried: no link was loaded since.
abbrev pub HasTriedNothing : TreeView → Adapted → Type 0
HasTriedNothing v a = IsLeft v a × (v.last ≡ v.renewal.new) × (v.loads ≡ v.renewal.loads)

-- The one where nothing was due, the other ones where a split was and where a join was.
abbrev pub IsDoneAbout : Due → Type 0 → Type 0 → Type 0 → Type 0
IsDoneAbout due.Nothing Nothing Split Join = Nothing
IsDoneAbout due.Split Nothing Split Join = Split
IsDoneAbout due.Join Nothing Split Join = Join

-- What was due to the new base of the last update by its statistic was done about it.
abbrev pub IsAdapted : Sizes → Tuning → ℤ → TreeView → Adapted → Type 0
IsAdapted z t statistic v a = (what : Due) × IsDue t statistic what × IsDoneAbout what (HasTriedNothing v a) (HasTriedThere z v a) (HasJoinedThere z v a)

-- The same of a split and of a join that were due, where nothing was updated in between.
abbrev pub HasLookedAgain : Sizes → Adapted → TreeView → TreeView → Type 0
HasLookedAgain z a u v = (v.renewal ≡ u.renewal) × HasTriedThere z v a

abbrev pub HasLookedToJoin : Sizes → Adapted → TreeView → TreeView → Type 0
HasLookedToJoin z a u v = (v.renewal ≡ u.renewal) × HasJoinedThere z v a

abbrev pub HasAdapted : Sizes → Tuning → ℤ → Adapted → TreeView → TreeView → Type 0
HasAdapted z t statistic a u v = (v.renewal ≡ u.renewal) × IsAdapted z t statistic v a

-- Since this update was carried out the pool's head was found empty so many times more, and so many times more with its tag at the last value, and so many
-- exchanges more of a link were lost. So much was met of the pool until now, and so many exchanges of a link were lost.
abbrev pub HasMetMore : ℕ → ℕ → ℕ → Renewal → Met → ℕ → Type 0
HasMetMore empty worn links r now lost = (now.empty ≡ r.met.empty + empty) × (now.worn ≡ r.met.worn + worn) × (lost ≡ r.lost + links)

-- Nothing was met since then, and no exchange was lost.
abbrev pub HasMetNothing : Renewal → Met → ℕ → Type 0
HasMetNothing r now lost = HasMetMore 0 0 0 r now lost × (now.lost ≡ r.met.lost)

-- So often the pool's head was found empty since then, and with its tag at the last value.
abbrev pub HasMetPool : ℕ → ℕ → Renewal → Met → Type 0
HasMetPool empty worn r now = (now.empty ≡ r.met.empty + empty) × (now.worn ≡ r.met.worn + worn)

-- No exchange was lost, of a link or of the head.
abbrev pub HasLostNothing : Renewal → Met → ℕ → Type 0
HasLostNothing r now lost = now.lost + lost ≡ r.met.lost + r.lost

-- An exchange was lost since then, of a link, of a join word or of the head; or another pass gave up the attempt that was begun, which only a lost exchange of
-- the pass's own tells.
abbrev pub HasLostSome : Renewal → Met → ℕ → Tries → Type 0
HasLostSome r now lost tries = (r.met.lost + r.lost < now.lost + lost) ⊎ (tries.overtaken ≡ r.tries.overtaken + 1)

-- An attempt was begun since then, or tried to be, once.
abbrev pub HasTriedOne : Renewal → Tries → Type 0
HasTriedOne r tries = tries.tried ≡ r.tries.tried + 1

-- By why the base was not split this was met since then.
abbrev pub IsMetUnsplit : Why → Renewal → Met → ℕ → Type 0
IsMetUnsplit why.Root r now lost = ⊥
IsMetUnsplit why.OneObject r now lost = HasMetNothing r now lost
IsMetUnsplit why.AtLevel r now lost = HasMetNothing r now lost
IsMetUnsplit why.SiblingRoute r now lost = ⊥
IsMetUnsplit why.TooMany r now lost = ⊥
IsMetUnsplit why.Taken r now lost = ⊥
IsMetUnsplit why.Lost r now lost = (HasMetMore 0 0 0 r now lost × (r.met.lost < now.lost)) ⊎ HasMetMore 0 0 1 r now lost
IsMetUnsplit why.NoRow r now lost = HasMetMore 1 0 0 r now lost
IsMetUnsplit why.Worn r now lost = HasMetMore 0 1 0 r now lost

-- By why the base was not joined this was met since then, and an attempt was begun once or none was.
abbrev pub IsMetUnjoined : Why → Renewal → Met → ℕ → Tries → Type 0
IsMetUnjoined why.Root r now lost tries = HasMetNothing r now lost × (tries ≡ r.tries)
IsMetUnjoined why.OneObject r now lost tries = ⊥
IsMetUnjoined why.AtLevel r now lost tries = ⊥
IsMetUnjoined why.SiblingRoute r now lost tries = HasMetNothing r now lost × (tries ≡ r.tries)
IsMetUnjoined why.TooMany r now lost tries = HasMetNothing r now lost × (tries ≡ r.tries)
IsMetUnjoined why.Taken r now lost tries = HasMetNothing r now lost × (tries ≡ r.tries)
IsMetUnjoined why.Lost r now lost tries = HasMetPool 0 0 r now × HasLostSome r now lost tries × HasTriedOne r tries
IsMetUnjoined why.NoRow r now lost tries = HasMetPool 1 0 r now × HasTriedOne r tries
IsMetUnjoined why.Worn r now lost tries = (HasMetPool 0 1 r now × HasTriedOne r tries) ⊎ (HasMetNothing r now lost × (tries ≡ r.tries))

-- By what the answer says of the new base this was met since then: where nothing was tried, or the base was split by the one try, nothing. Where the try
-- came to nothing the pass met what the answer says, an empty head or a worn tag once, and nothing else but exchanges of the head that were lost as rows
-- were put back. Where a join wasn't due, or no attempt to join came of it, none was begun.
abbrev pub IsMetSince : Adapted → Renewal → Met → ℕ → Tries → Type 0
IsMetSince adapted.Stay r now lost tries = HasMetNothing r now lost × (tries ≡ r.tries)
IsMetSince adapted.Split r now lost tries = HasMetNothing r now lost × (tries ≡ r.tries)
IsMetSince adapted.Joined r now lost tries = HasMetPool 0 0 r now × HasLostNothing r now lost × HasTriedOne r tries
IsMetSince (adapted.NotSplit why) r now lost tries = IsMetUnsplit why r now lost × (tries ≡ r.tries)
IsMetSince (adapted.NotJoined why) r now lost tries = IsMetUnjoined why r now lost tries

-- So it did since its last update.
abbrev pub IsCauseMet : Adapted → Met → TreeView → Type 0
IsCauseMet a now v = IsMetSince a v.renewal now v.lost v.tries

-- This holds where a call edited the map: by what its attempts came to, and by its outcome.
abbrev pub IfTrue : Bool → Type 0 → Type 0
IfTrue true P = P
IfTrue false P = Unit {0}

abbrev pub IfEdited : {T E : Type 0} → (T → Bool) → Result T E → Type 0 → Type 0
IfEdited edits (Ok x) P = IfTrue (edits x) P
IfEdited edits (Err why) P = Unit {0}

abbrev pub IfDoneEdit : {T : Type 0} → (T → Bool) → Outcome T → Type 0 → Type 0
IfDoneEdit edits (outcome.Done x) P = IfTrue (edits x) P
IfDoneEdit edits (outcome.Busy s) P = Unit {0}
IfDoneEdit edits (outcome.Full s) P = Unit {0}
IfDoneEdit edits (outcome.Deep s) P = Unit {0}
IfDoneEdit edits (outcome.Worn s) P = Unit {0}

-- Where an update was carried out, what the answer says of the base that was not split was met since. What was met of the pool counts until the pass
-- unpinned.
abbrev pub IsCauseMetInAttempts : {T E : Type 0} → (T → Bool) → Last → Result T E → Met → TreeView → Type 0
IsCauseMetInAttempts edits last r now v = IfEdited edits r (IsCauseMet last.adapted now v)

abbrev pub IsCauseMetInCall : {T : Type 0} → (T → Bool) → Last → Outcome T → MyTree → Type 0
IsCauseMetInCall edits last o m = IfDoneEdit edits o (IsCauseMet last.adapted m.0.pin.left m.0.upper)

-- what a call keeps behind a try that came to nothing: whether an exchange of a link was lost
abbrev pub noted : Stop → Adapting → Adapting
noted (stop.Lost exchange.Link) a = record a { lost = true }
noted (stop.Lost exchange.Head) a = a
noted stop.Empty a = a
noted stop.Worn a = a

-- What became of an exchange of a base, and of the new base.
abbrev pub HasSettled : {T : Type 0} → Sizes → Tuning → ℤ → Result T Stop → Adapting → Adapting → MyTree → MyTree → Type 0
HasSettled z t statistic (Ok x) a b m m' = (b.last.statistic ≡ statistic) × HasAdapted z t statistic b.last.adapted m.0.upper m'.0.upper
HasSettled z t statistic (Err why) a b m m' = (b ≡ noted why a) × (m' ≡ m)

-- One update was carried out by a call. Its new base's statistic is that of the old one, moved by whether the call lost an exchange of a link until
-- then, and what was due by it was done. Both are kept. Until the update no attempt to join was begun.
pub record Adapts (z : Sizes) (t : Tuning) (before : Bool) (last : Last) (u v : TreeView) : Type 0 where
  pub one_more : v.renewal.count ≡ u.renewal.count + 1
  pub lost : Bool
  pub since : HasLostSince before lost u.lost v.renewal.lost
  pub untried : v.renewal.tries ≡ u.tries
  pub moved : IsMoved t (slice_index v.renewal.old.its 1) lost last.statistic
  pub word_is : IsWordOf last.statistic (slice_index v.renewal.new.its 1)
  pub adapted : IsAdapted z t last.statistic v last.adapted

-- No update was carried out, and no attempt to join was begun. Whether the call lost an exchange of a link is kept.
abbrev pub Waits : Adapting → Adapting → TreeView → TreeView → Type 0
Waits a b u v = (b.last ≡ a.last) × (v.renewal ≡ u.renewal) × HasLostSince a.lost b.lost u.lost v.lost × (v.tries ≡ u.tries)

-- whether a call that may change or remove an object did
abbrev pub is_put : Changed → Bool
is_put changed.Put = true
is_put changed.Kept = false
is_put changed.Absent = false

-- By what a call answers, it carried out an update, or none.
abbrev pub Goes : Bool → Sizes → Tuning → Adapting → Adapting → TreeView → TreeView → Type 0
Goes true z t a b u v = Adapts z t a.lost b.last u v
Goes false z t a b u v = Waits a b u v

abbrev pub HasGoneOn : {T E : Type 0} → (T → Bool) → Sizes → Tuning → Adapting → Adapting → Result T E → TreeView → TreeView → Type 0
HasGoneOn edits z t a b (Ok x) u v = Goes (edits x) z t a b u v
HasGoneOn edits z t a b (Err why) u v = Waits a b u v

-- What a call that edits comes to of what a store keeps of its last update. One that edits nothing begins no attempt to join.
abbrev pub Leaves : Bool → Sizes → Tuning → Last → Last → TreeView → TreeView → Type 0
Leaves true z t last last' u v = Adapts z t false last' u v
Leaves false z t last last' u v = (last' ≡ last) × (v.renewal ≡ u.renewal) × (v.tries ≡ u.tries)

abbrev pub LeavesInCall : {T : Type 0} → (T → Bool) → Sizes → Tuning → Last → Last → Outcome T → TreeView → TreeView → Type 0
LeavesInCall edits z t last last' (outcome.Done x) u v = Leaves (edits x) z t last last' u v
LeavesInCall edits z t last last' (outcome.Busy s) u v = Leaves false z t last last' u v
LeavesInCall edits z t last last' (outcome.Full s) u v = Leaves false z t last last' u v
LeavesInCall edits z t last last' (outcome.Deep s) u v = Leaves false z t last last' u v
LeavesInCall edits z t last last' (outcome.Worn s) u v = Leaves false z t last last' u v
