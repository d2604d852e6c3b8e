-- Attempts to join that marked bases which a pass was shown.
use Rattle.std.specs.Prelude.{◌≡◌, ◌≢◌, ℕ, ◌+◌, ◌*◌, ◌<◌, ◌≤◌, Bool, true, false, cond, min, List, Option, Some, None}
use Rattle.ca_adapt.specs.Finishing.{IsSteps}
use Rattle.ca_adapt.specs.declared.finishing.Finish.{Finish}
use Rattle.ca_adapt.specs.declared.finishing.Finish.TheVariants as finish
use Rattle.ca_adapt.specs.declared.joining.Attempt.{Attempt}
use Rattle.ca_base.specs.Counting.{losses, HasMet}
use Rattle.ca_base.specs.Finding.{IsBaseShown}
use Rattle.ca_base.specs.Readiness.{StaysReady}
use Rattle.ca_base.specs.declared.stop.Exchange.TheVariants as exchange
use Rattle.ca_model.specs.declared.outcome.Counter.TheVariants as counter
use Rattle.ca_model.specs.declared.outcome.Spent.{Spent}
use Rattle.ca_node.specs.JoinSteps.{attempt_of}
use Rattle.ca_node.specs.Joining.{IsRemembered}
use Rattle.ca_node.specs.Links.{IsIn}
use Rattle.ca_node.specs.Place.{IsLinkOf}
use Rattle.ca_node.specs.Row.{mark, IsMarkedFor}
use Rattle.ca_node.specs.Told.{MyTree, with_upper, IsUnjoined}
use Rattle.ca_node.specs.TreeView.{Attempt as KnownAttempt, Border, Note, Finished, KnownJoins, TreeView, one_helped}
use Rattle.ca_node.specs.Layout.{marked_by_join}
use Rattle.ca_rows.specs.Passes.{KeepsList}
use Rattle.ca_rows.specs.declared.sizes.Sizes.{Sizes}
use Rattle.ca_rows.specs.declared.space.Pass.{Pass}
use Rattle.ca_rows.specs.declared.space.Space.{Space}
use Rattle.ca_range.specs.Clearing.{HasGone}
use Rattle.ca_range.specs.Filling.{links_lost, links_of}
use Rattle.ca_range.specs.Staying.{OnlySteps}
use Rattle.ca_range.specs.declared.helped.Helped.{Helped}
use Rattle.ca_range.specs.declared.helped.Helped.TheVariants as helped
use Rattle.ca_range.specs.declared.joins.Found.{Found}
use Rattle.ca_range.specs.declared.joins.Found.TheVariants as found
use Rattle.ca_range.specs.declared.joins.JoinEnd.{JoinEnd}
use Rattle.ca_range.specs.declared.joins.JoinEnd.TheVariants as end

-- The route of the attempt is one that the pass remembers.
abbrev pub IsOfRoute : Sizes → TreeView → Attempt → Type 0
IsOfRoute z u x = IsRemembered u.ways x.route × (x.route ≤ z.rows)

-- The base was marked by this attempt, and hung on a link of its route; or none marked it.
abbrev pub IsAttemptOn : Sizes → TreeView → Note → Option Attempt → Type 0
IsAttemptOn z u note None = mark note.its ≢ marked_by_join
IsAttemptOn z u note (Some x) = IsMarkedFor note.its x.route x.number × IsOfRoute z u x × IsLinkOf x.route note.place.link

-- The attempt marked a base that was shown.
abbrev pub IsOnBase : Sizes → TreeView → Attempt → Type 0
IsOnBase z u x = IsOfRoute z u x × ((note : Note) × IsIn note u.notes × IsMarkedFor note.its x.route x.number)

-- The pass knows that it is finished.
abbrev pub IsKnownFinished : TreeView → Attempt → Type 0
IsKnownFinished u x = (y : Finished) × IsIn y u.ranges.joins.finished × (x.route ≡ y.route) × (x.number < y.below)

-- The pass may give it up: it was begun, and was found prepared.
abbrev pub IsFoundPrepared : Sizes → TreeView → Attempt → Type 0
IsFoundPrepared z u x = IsOfRoute z u x × IsIn (attempt_of x.route x.number) u.ranges.joins.begun × IsIn (attempt_of x.route x.number) u.ranges.joins.prepared
    × (x.number < 4611686018427387904)

-- what a seat knows that learnt this of joins, and helped one operation more to its end, or none
abbrev pub joined_more : Bool → KnownJoins → TreeView → TreeView
joined_more helped joins u = record u { ranges = record u.ranges { joins = joins }; turns = cond helped (one_helped u.turns) u.turns }

-- It learnt of joins alone, and counted one as helped, or not.
abbrev pub LearnsOfJoins : Bool → MyTree → MyTree → Type 0
LearnsOfJoins helped m m' = (joins : KnownJoins) × (m' ≡ with_upper m (joined_more helped joins m.0.upper))

-- No join was carried out and nothing was helped, but so many exchanges of a link were lost.
abbrev pub IsNoJoin : ℕ → TreeView → TreeView → Type 0
IsNoJoin lost u v = (v.joins ≡ u.joins) × (v.turns ≡ u.turns) × (v.lost ≡ u.lost + lost)

-- So far is the attempt with this number, by the join word of its route.
abbrev pub IsProgress : Found → ℕ → ℕ → Type 0
IsProgress found.Finished number word = (word ≢ 4 * number + 1) × (word ≢ 4 * number + 2)
IsProgress found.Prepared number word = word ≡ 4 * number + 1
IsProgress found.Secured number word = word ≡ 4 * number + 2

-- It is finished; or it was found prepared, where the pass doesn't know that it is decided, or secured. None is where the pass is the only one of the space.
abbrev pub HasFoundJoin : Found → Sizes → Attempt → MyTree → MyTree → Type 0
HasFoundJoin found.Finished z x m m' = LearnsOfJoins false m m' × IsKnownFinished m'.0.upper x
HasFoundJoin found.Prepared z x m m' = LearnsOfJoins false m m' × IsFoundPrepared z m'.0.upper x × (1 < z.passes)
    × ¬ IsIn (attempt_of x.route x.number) m.0.upper.ranges.joins.decided
HasFoundJoin found.Secured z x m m' = LearnsOfJoins false m m' × IsIn (attempt_of x.route x.number) m'.0.upper.ranges.joins.secured × (1 < z.passes)

-- What it knew to be decided, it knows to be so still.
abbrev pub KeepsDecided : MyTree → MyTree → Type 0
KeepsDecided m m' = (x : KnownAttempt) → IsIn x m.0.upper.ranges.joins.decided → IsIn x m'.0.upper.ranges.joins.decided

-- what was spent in all, each count up to the last number that 32 bits hold
abbrev pub spent_with : Spent → Spent → Spent
spent_with a b = record {
  lost = min 4294967295 (a.lost + b.lost);
  helped = min 4294967295 (a.helped + b.helped);
  passed = min 4294967295 (a.passed + b.passed);
}

-- what an attempt comes to that was to be carried out, by what became of that, and by whether an exchange was lost
abbrev pub helped_by : Finish → Bool → Helped
helped_by finish.Done lost = cond lost (helped.Lost exchange.Link) helped.Finished
helped_by finish.NoRow lost = helped.NoRow
helped_by finish.Lost lost = helped.Lost exchange.Head
helped_by finish.Worn lost = helped.Worn counter.PoolTag

-- It was tried to unlink the route of an attempt that may have been counted as helped before. One join more was carried out where the exchange of the link
-- was won; or that one was lost, or the one of the pool's head; or no row was free, or the pool's tag can rise no more.
abbrev pub HasTriedJoin : Bool → Helped → MyTree → MyTree → Type 0
HasTriedJoin counted helped.Finished m m' = HasMet 0 0 m m' × (m'.0.upper.joins ≡ m.0.upper.joins + 1)
    × (m'.0.upper.turns ≡ cond counted m.0.upper.turns (one_helped m.0.upper.turns)) × (m'.0.upper.lost ≡ m.0.upper.lost) × (losses m' ≡ losses m)
HasTriedJoin counted (helped.Lost exchange) m m' = HasMet 0 0 m m' × (losses m < losses m') × IsNoJoin (links_of exchange) m.0.upper m'.0.upper
HasTriedJoin counted (helped.Busy spent) m m' = ⊥
HasTriedJoin counted helped.NoRow m m' = HasMet 1 0 m m' × IsNoJoin 0 m.0.upper m'.0.upper
HasTriedJoin counted (helped.Worn which) m m' = HasMet 0 1 m m' × (which ≡ counter.PoolTag) × IsNoJoin 0 m.0.upper m'.0.upper

-- One join more was carried out, and counted as helped; or none was, and where that was for an exchange this was lost.
abbrev pub CountsJoin : Helped → MyTree → MyTree → Type 0
CountsJoin helped.Finished m m' = (m'.0.upper.joins ≡ m.0.upper.joins + 1) × (m'.0.upper.turns ≡ one_helped m.0.upper.turns)
CountsJoin (helped.Lost exchange) m m' = (m'.0.upper.joins ≡ m.0.upper.joins) × (losses m < losses m')
CountsJoin (helped.Busy spent) m m' = ⊥
CountsJoin helped.NoRow m m' = m'.0.upper.joins ≡ m.0.upper.joins
CountsJoin (helped.Worn which) m m' = (which ≡ counter.PoolTag) × (m'.0.upper.joins ≡ m.0.upper.joins)

-- Whether an attempt marked the base with these words, by what became of it.
abbrev pub IsMarkTold : JoinEnd → List ℕ → Type 0
IsMarkTold end.Unmarked its = mark its ≢ marked_by_join
IsMarkTold end.Before its = mark its ≡ marked_by_join
IsMarkTold end.Now its = mark its ≡ marked_by_join
IsMarkTold (end.Gone helped) its = mark its ≡ marked_by_join

module _ {R : Type 0} where
  -- The pass learnt of joins alone, and counted one as helped, or not. As it knows then, no join has the base.
  pub record HasFreed (space : Space R TreeView) (base : ℕ) (helped : Bool) (pass new : Pass R TreeView) : Type 0 where
    pub frame : KeepsList pass new
    pub learnt : LearnsOfJoins helped pass.seat.me new.seat.me
    pub unjoined : (note : Note) → IsBaseShown space.table.shared.key pass.seat.me.0.upper base note → IsUnjoined new.seat.me.0.upper note.its
    pub several : helped ≡ true → 1 < space.table.shared.key.passes

  -- An attempt that was secured was to be finished, which came to this: both links were loaded. Of ranges nothing was learnt.
  pub record HasFinishedJoin (space : Space R TreeView) (helped : Helped) (pass new : Pass R TreeView) : Type 0 where
    pub frame : StaysReady space pass new
    pub steps : OnlySteps space.table.shared.key (links_lost helped) pass.seat.me.0.upper new.seat.me.0.upper
    pub gone : HasGone helped pass.seat.me new.seat.me
    pub counts : CountsJoin helped pass.seat.me new.seat.me
    pub unfinished : new.seat.me.0.upper.ranges.unfinished ≡ pass.seat.me.0.upper.ranges.unfinished
    pub borders : (border : Border) → IsIn border pass.seat.me.0.upper.ranges.borders → IsIn border new.seat.me.0.upper.ranges.borders
    pub loads : new.seat.me.0.upper.loads ≡ pass.seat.me.0.upper.loads + 2
    pub several : 1 < space.table.shared.key.passes

  -- So it was tried to carry it out, by a pass that counted it before as helped, or not.
  pub record HasCarriedOut (space : Space R TreeView) (counted : Bool) (helped : Helped) (pass new : Pass R TreeView) : Type 0 where
    pub frame : StaysReady space pass new
    pub steps : IsSteps space.table.shared.key pass.seat.me.0.upper new.seat.me.0.upper
    pub loads : new.seat.me.0.upper.loads ≡ pass.seat.me.0.upper.loads + 2
    pub tried : HasTriedJoin counted helped pass.seat.me new.seat.me

  -- An attempt that was prepared is finished, and is counted as helped; or it was secured.
  abbrev pub HasGivenUp : Space R TreeView → Attempt → JoinEnd → Pass R TreeView → Pass R TreeView → Type 0
  HasGivenUp space x end.Unmarked pass new = ⊥
  HasGivenUp space x end.Before pass new = ⊥
  HasGivenUp space x end.Now pass new = KeepsList pass new × LearnsOfJoins true pass.seat.me new.seat.me × IsKnownFinished new.seat.me.0.upper x
  HasGivenUp space x (end.Gone helped) pass new = HasFinishedJoin space helped pass new

  -- None marked the base, or it was finished before; or it was given up or finished meanwhile; or it was secured.
  abbrev pub HasEndedJoin : Space R TreeView → ℕ → JoinEnd → Pass R TreeView → Pass R TreeView → Type 0
  HasEndedJoin space base end.Unmarked pass new = HasFreed space base false pass new
  HasEndedJoin space base end.Before pass new = HasFreed space base false pass new
  HasEndedJoin space base end.Now pass new = HasFreed space base true pass new
  HasEndedJoin space base (end.Gone helped) pass new = HasFinishedJoin space helped pass new
