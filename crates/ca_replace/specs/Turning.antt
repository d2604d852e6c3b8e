-- What a call's attempts come to, beside the event that is entered in the log: one of them, and all until one isn't followed by another.
use Rattle.std.specs.Prelude.{◌≡◌, ◌≢◌, ℕ, ◌+◌, min, Bool, true, List, None, Some, Result, Ok, Err, OnOk}
use Rattle.std.specs.declared.option.Option.{Option}
use Rattle.ca_base.specs.Putting.{object_at}
use Rattle.ca_base.specs.Readiness.{StaysReady, shown_last}
use Rattle.ca_base.specs.Targets.{event_of, key_in}
use Rattle.ca_base.specs.declared.target.Insertion.{Insertion}
use Rattle.ca_base.specs.declared.target.Removal.{Removal}
use Rattle.ca_base.specs.declared.stop.Stop.{Stop}
use Rattle.ca_base.specs.declared.stop.Stop.TheVariants as stop
use Rattle.ca_model.specs.declared.outcome.Spent.{Spent}
use Rattle.ca_range.specs.declared.helped.Helped.{Helped}
use Rattle.ca_range.specs.declared.helped.Helped.TheVariants as helped
use Rattle.ca_model.specs.Event.{Event, Remove}
use Rattle.ca_replace.specs.declared.attempting.Halt.{Halt}
use Rattle.ca_replace.specs.declared.attempting.Halt.TheVariants as halt
use Rattle.ca_replace.specs.declared.adapting.Adapting.{Adapting}
use Rattle.ca_adapt.specs.declared.tuning.Tuning.{Tuning}
use Rattle.ca_node.specs.Told.{MyTree}
use Rattle.ca_node.specs.States.{IsAlone}
use Rattle.ca_node.specs.TreeView.{TreeView}
use Rattle.ca_replace.specs.declared.adapting.Course.{Course}
use Rattle.ca_replace.specs.Adapting.{HasGoneOn, IsCauseMetInAttempts, noted}
use Rattle.ca_replace.specs.Attempting.{HasStopped, HasTriedTo, IsPaidTo, StaysAt}
use Rattle.ca_replace.specs.Causes.{IsFullSince}
use Rattle.ca_replace.specs.Crowding.{Crowds}
use Rattle.ca_replace.specs.Cutting.{HasCut, HasCutInAttempts}
use Rattle.ca_replace.specs.Growing.{HasGrown, HasGrownInAttempts}
use Rattle.ca_replace.specs.Winning.{HasWonInAttempts}
use Rattle.ca_replace.specs.declared.tree.Tree.{Tree}
use Rattle.ca_rows.specs.declared.sizes.Sizes.{Sizes}
use Rattle.ca_rows.specs.declared.space.Pass.{Pass}
use Rattle.ca_rows.specs.declared.space.Space.{Space}
use Rattle.ca_rows.specs.declared.view.Met.{Met}
use Rattle.ca_rows.specs.Told.{met_of}
use Rattle.ca_range.specs.Loading.{help_loads}
use Rattle.ca_replace.specs.Loading.{LoadsFew, loads_until, unpaid}

-- One attempt of a call that edits by these answers, and may add this key: what is said about its new base was met by then, how its update goes on from
-- the attempts before it, what was spent, what stopped it, how many links it loaded, these by its walk, what it made of the tree of a pass that is alone, and
-- which bases were split.
pub record IsTurn {T : Type 0} (edits : T → Bool) (adds : Option (List ℕ)) (z : Sizes) (t : Tuning) (links : ℕ) (a b : Course) (now : Met)
    (r : Result T Halt) (m m' : MyTree) : Type 0 where
  pub met_as : IsCauseMetInAttempts edits b.adapting.last r now m'.0.upper
  pub gone_on : HasGoneOn edits z t a.adapting b.adapting r m.0.upper m'.0.upper
  pub counted : IsPaidTo r a.spent b.spent m m'
  pub found : HasStopped r m m'
  pub loads : LoadsFew (help_loads z) (links + unpaid z r) (loads_until edits r m'.0.upper) m m'
  pub grown : IsAlone z m.0.upper → HasGrown z adds r m.0.upper m'.0.upper
  pub won : IsAlone z m.0.upper → HasWonInAttempts edits r m.0.upper m'.0.upper
  pub cut : HasCut edits z adds r m.0.upper m'.0.upper

-- The same of attempts that follow each other, by what the last of them came to.
pub record AreTurns {T E : Type 0} (edits : T → Bool) (adds : Option (List ℕ)) (z : Sizes) (t : Tuning) (a b : Course) (now : Met) (r : Result T E)
    (m m' : MyTree) : Type 0 where
  pub met_as : IsCauseMetInAttempts edits b.adapting.last r now m'.0.upper
  pub gone_on : HasGoneOn edits z t a.adapting b.adapting r m.0.upper m'.0.upper
  pub grown : IsAlone z m.0.upper → HasGrownInAttempts z adds r m.0.upper m'.0.upper
  pub won : IsAlone z m.0.upper → HasWonInAttempts edits r m.0.upper m'.0.upper
  pub cut : HasCutInAttempts edits z adds r m.0.upper m'.0.upper

module _ {R T : Type 0} (edits : T → Bool) (adds : Option (List ℕ)) (tree : Tree) (a b : Course) where
  -- One attempt of a pass on this tree, whose walk loads so many links.
  abbrev pub TakesTurn : ℕ → Result T Halt → Pass R TreeView → Pass R TreeView → Type 0
  TakesTurn links r pass new = IsTurn edits adds tree.space.table.shared.key tree.tuning links a b (met_of new.seat.me) r pass.seat.me new.seat.me

  -- Attempts of a pass on this tree, which has unpinned behind them.
  abbrev pub TakesTurns : {E : Type 0} → Result T E → Pass R TreeView → Pass R TreeView → Type 0
  TakesTurns r pass new = AreTurns edits adds tree.space.table.shared.key tree.tuning a b new.seat.me.0.pin.left r pass.seat.me new.seat.me

module _ {R : Type 0} where
  -- What became of an edit of the base that was shown last, which is such an event, is about this key, and may add one: the pass is in its call still; the
  -- event is in its log, or another attempt may follow, which begins so; how few rows it keeps then; and what it came to beside.
  pub record HasEdited (space : Space R TreeView) (t : Tuning) (tells : Event → Type 0) (key : List ℕ) (adds : Option (List ℕ)) (marked : Bool) (a b : Course)
      (r : Result (Unit {0}) Halt) (pass new : Pass R TreeView) : Type 0 where
    pub frame : StaysReady space pass new
    pub tried : HasTriedTo (λ _. tells) space.table.shared.key r pass.seat.me.0.upper new.seat.me.0.upper
    pub stays : StaysAt space.table.shared.key key r pass.seat.me.0.upper new.seat.me.0.upper b.again marked
    pub crowds : Crowds space r pass new
    pub turn : IsTurn (λ _. true) adds space.table.shared.key t 0 a b (met_of new.seat.me) r pass.seat.me new.seat.me

  -- So it is where an object was to be put into that base, and where one was to be removed from it.
  abbrev pub HasPut : Space R TreeView → Tuning → Insertion → Bool → Course → Course → Result (Unit {0}) Halt → Pass R TreeView → Pass R TreeView → Type 0
  HasPut space t insertion marked a b r pass new = HasEdited space t (λ event. event ≡ event_of insertion (shown_last pass).objects)
      (key_in insertion.keyed) (Some (key_in insertion.keyed)) marked a b r pass new

  abbrev pub HasRemoved : Space R TreeView → Tuning → Removal → Bool → Course → Course → Result (Unit {0}) Halt → Pass R TreeView → Pass R TreeView → Type 0
  HasRemoved space t removal marked a b r pass new = HasEdited space t
      (λ event. event ≡ Remove removal.key.now (Some (object_at (Ok removal.at) (shown_last pass).objects))) removal.key.now None marked a b r pass new

-- A put comes to nothing for want of room so: one in the place of an object neither stops at the last level nor splits a base; and where one of a new key stops
-- there, the base is full.
pub record LacksRoom (z : Sizes) (key : List ℕ) (place : Result ℕ ℕ) (r : Result (Unit {0}) Halt) (v : TreeView) : Type 0 where
  pub deep : OnOk place (r ≢ Err halt.Deep)
  pub no_split : OnOk place (r ≢ Err halt.Split)
  pub full : r ≡ Err halt.Deep → IsFullSince z (Some key) v

-- what is handed on behind the split of a full base: a turn where it was split, and that an exchange of a link was lost where that was
abbrev pub course_after : {T : Type 0} → Result T Stop → Course → Course
course_after (Ok x) c = record c { spent = record c.spent { passed = min (c.spent.passed + 1) 4294967295 } }
course_after (Err why) c = record c { adapting = noted why c.adapting }

-- what an attempt comes to that helped a range, by what became of that
abbrev pub helped_to : Helped → Halt
helped_to helped.Finished = halt.Helped
helped_to (helped.Lost exchange) = halt.Helped
helped_to (helped.Busy spent) = halt.Helped
helped_to helped.NoRow = halt.Stopped stop.Empty
helped_to (helped.Worn counter) = halt.Stopped stop.Worn

-- what is kept then: whether an exchange of a link was lost
abbrev pub noted_help : Helped → Adapting → Adapting
noted_help helped.Finished a = a
noted_help (helped.Lost exchange) a = noted (stop.Lost exchange) a
noted_help (helped.Busy spent) a = a
noted_help helped.NoRow a = a
noted_help (helped.Worn counter) a = a

-- what was spent in all, each count up to the last number that 32 bits hold
abbrev pub paid : Spent → Spent → Spent
paid a b = record {
  lost = min (a.lost + b.lost) 4294967295;
  helped = min (a.helped + b.helped) 4294967295;
  passed = min (a.passed + b.passed) 4294967295;
}

-- what is handed on behind help: what was spent, and that a mark was met; the next attempt begins at the root
abbrev pub course_helped : Helped → Spent → Course → Course
course_helped how spent c = record c { adapting = noted_help how c.adapting; spent = paid c.spent spent; again = None; marked = true }
