-- A pass that is alone wins each exchange of a link.
use Rattle.std.proofs.Common.{◌≡◌, ◌≢◌, ℕ, ◌<◌, arith, Bool, true, false, List, [], Result, Ok, Err, IsOk, sym, refl, ap, ◌∙◌, subst}
use denote.Ref.{Bor}
use Rattle.ca_base.specs.declared.stop.Exchange.TheVariants as exchange
use Rattle.ca_base.specs.declared.stop.Stop.{Stop}
use Rattle.ca_base.specs.declared.stop.Stop.TheVariants as stop
use Rattle.ca_replace.specs.declared.attempting.Halt.{Halt}
use Rattle.ca_adapt.specs.declared.adapted.Adapted.{Adapted}
use Rattle.ca_adapt.specs.declared.adapted.Adapted.TheVariants as adapted
use Rattle.ca_adapt.specs.declared.adapted.Why.{Why}
use Rattle.ca_adapt.specs.declared.adapted.Why.TheVariants as why
use Rattle.ca_adapt.specs.declared.tuning.Tuning.{Tuning}
use Rattle.ca_adapt.specs.Splits.{IsSplitOutcome, IsWhyNotSplit, IsPoolsLoss}
use Rattle.ca_model.specs.declared.outcome.Outcome.{Outcome}
use Rattle.ca_model.specs.declared.outcome.Spent.{Spent}
use Rattle.ca_model.specs.Event.{Event}
use Rattle.ca_node.specs.declared.cursor.Cursor.{Cursor}
use Rattle.ca_node.specs.declared.cursor.Spot.TheVariants as spot
use Rattle.ca_node.specs.Inventory.{IsListed}
use Rattle.ca_node.specs.Told.{IsEntered, MyTree}
use Rattle.ca_node.specs.States.{IsAlone}
use Rattle.ca_node.specs.TreeView.{Note, Renewal, TreeView, Turns, unpinned}
use Rattle.ca_node.specs.Walking.{IsWalked}
use Rattle.ca_base.specs.Putting.{HasRenewed, HasTried, first_note, stopped}
use Rattle.ca_base.specs.Splitting.{HasSplit}
use Rattle.ca_replace.specs.declared.adapting.Adapting.{Adapting}
use Rattle.ca_model.specs.declared.outcome.Cause.{Cause}
use Rattle.ca_model.specs.declared.outcome.Cause.TheVariants as cause
use Rattle.ca_replace.specs.Adapting.{HasSettled, IsNew}
use Rattle.ca_replace.specs.Attempting.{HasNext, IsQuiet, come_to, refused_as, split_to}
use Rattle.ca_replace.specs.Refusals.{outcome_by}
use Rattle.ca_replace.specs.Winning.{HasWon, HasWonInAttempts, HasWonInCall, LosesNone, StaysNewest}
use Rattle.ca_replace.proofs.Settling.{IsSettling}
use Rattle.ca_rows.specs.declared.sizes.Sizes.{Sizes}
use Rattle.ca_rows.specs.Told.{met_of}

-- The walk behind an update comes to the new base: it is listed, and has the key.
pub comes_there : (z : Sizes) (key : Bor (List ℕ)) (placed : ℕ) (m m' : MyTree) (cursor : Cursor)
    → IsNew placed key.now (met_of m) m.0.upper
    → IsWalked z (spot.At key) m cursor m' → IsAlone z m.0.upper → cursor.base ≡ placed
comes_there z key placed m m' cursor new w alone = sym (new.listed.2 ∙ (let l = w.listed alone in
    l.only m.0.upper.renewal.new.row new.listed.0 key.now new.listed.1 new.listed.3 w.sought
    ∙ w.cursor_is.base))

-- Nothing was lost, and no turn spent.
pub no_turns : (u : TreeView) → LosesNone u u
no_turns u = (refl, (refl, refl))

pub quiet_won : (m m' : MyTree) → IsQuiet m m' → LosesNone m.0.upper m'.0.upper
quiet_won m m' q = let passed = ap (λ (t : Turns). t.passed) q.same_turns in let splits = q.splits_are in
    (q.idle.1, (omega arith, ap (λ (t : Turns). t.helped) q.same_turns))

-- A call that edits nothing is entered in the log then.
pub entered_won : (m m' m'' : MyTree) (event : Event) → IsQuiet m m' → IsEntered event m' m'' → LosesNone m.0.upper m''.0.upper
entered_won m m' m'' event q e = subst (λ (x : MyTree). LosesNone m.0.upper x.0.upper) (sym e.now) (quiet_won m m' q)

-- First this way, and then that way.
pub loses_both : (u w v : TreeView) → LosesNone u w → LosesNone w v → LosesNone u v
loses_both u w v a b = let one = a.1.0 in let two = b.1.0 in (b.0 ∙ a.0, (omega arith, b.1.1 ∙ a.1.1))

-- No exchange of a link was lost, no base was updated or come to, and nothing was helped.
abbrev KeepsNewest : TreeView → TreeView → Type 0
KeepsNewest u v = (v.lost ≡ u.lost) × (v.last ≡ u.last) × (v.renewal ≡ u.renewal) × (v.turns.helped ≡ u.turns.helped)

-- What became of the due split.
pub due_won : (z : Sizes) (key : Bor (List ℕ)) (placed : ℕ) (m m' m'' : MyTree) (cursor : Cursor)
    (a : Adapted) → IsNew placed key.now (met_of m) m.0.upper
    → IsWalked z (spot.At key) m cursor m' → cursor.base ≡ placed
    → IsSplitOutcome z (first_note m'.0.upper.notes) a m' m'' → IsPoolsLoss a m' m''
    → StaysNewest m.0.upper m''.0.upper
due_won z key placed m m' m'' cursor a new w same h pools = let t = by a h pools in (
  t.0 ∙ ap (λ (x : MyTree). x.0.upper.lost) w.now,
  ap (λ (n : Note). n.row) (t.1 ∙ ap (λ (x : MyTree). x.0.upper.last) w.now)
      ∙ (w.cursor_is.base ∙ (same ∙ (new.row
      ∙ ap (λ (r : Renewal). r.new.row) (sym (t.2
      ∙ ap (λ (x : MyTree). x.0.upper.renewal) w.now))))),
  λ _. t.3 ∙ ap (λ (x : MyTree). x.0.upper.turns.helped) w.now,
)
  where
    still : m''.0.upper ≡ m'.0.upper → KeepsNewest m'.0.upper m''.0.upper
    still e = (
      ap (λ (x : TreeView). x.lost) e,
      ap (λ (x : TreeView). x.last) e,
      ap (λ (x : TreeView). x.renewal) e,
      ap (λ (x : TreeView). x.turns.helped) e,
    )

    not_by : (r : Why) → IsWhyNotSplit z (first_note m'.0.upper.notes) r m' m''
        → IsPoolsLoss (adapted.NotSplit r) m' m'' → KeepsNewest m'.0.upper m''.0.upper
    not_by why.Root h pools = absurd h
    not_by why.OneObject h pools = still (ap (λ (x : MyTree). x.0.upper) h.1)
    not_by why.AtLevel h pools = still (ap (λ (x : MyTree). x.0.upper) h.2)
    not_by why.SiblingRoute h pools = absurd h
    not_by why.TooMany h pools = absurd h
    not_by why.Taken h pools = absurd h
    not_by why.Lost h pools = still (pools refl)
    not_by why.NoRow h pools = still h.2
    not_by why.Worn h pools = still h.2

    by : (a : Adapted) → IsSplitOutcome z (first_note m'.0.upper.notes) a m' m'' → IsPoolsLoss a m' m''
        → KeepsNewest m'.0.upper m''.0.upper
    by adapted.Stay h pools = absurd h
    by adapted.Split h pools = let e = h.2.2 in (
      ap (λ (x : TreeView). x.lost) e,
      ap (λ (x : TreeView). x.last) e,
      ap (λ (x : TreeView). x.renewal) e,
      ap (λ (x : TreeView). x.turns.helped) e,
    )
    by adapted.Joined h pools = absurd h
    by (adapted.NotSplit r) h pools = not_by r h pools
    by (adapted.NotJoined r) h pools = absurd h

-- Where no exchange of a link was lost, as many are counted, and no turn was spent.
none_lost : (why : Stop) (u : TreeView) → why ≢ stop.Lost exchange.Link → LosesNone u (stopped why u)
none_lost (stop.Lost exchange.Link) u won = absurd (won refl)
none_lost (stop.Lost exchange.Head) u won = no_turns u
none_lost stop.Empty u won = no_turns u
none_lost stop.Worn u won = no_turns u

-- A full base that was to be split: its exchange was won, or no row was free.
pub room_won : {T : Type 0} (edits : T → Bool) (many attempt : ℕ) (r : Result (Unit {0}) Stop)
    (u v : TreeView) → r ≢ Err (stop.Lost exchange.Link) → HasSplit many attempt r u v
    → HasWonInAttempts {T = T} edits (Err (split_to r)) u v
room_won edits many attempt (Ok x) u v won h = subst (LosesNone u) (sym h.2) (refl, (omega arith, refl))
room_won edits many attempt (Err why) u v won h = subst (LosesNone u) (sym h) (none_lost why u (λ e. won (ap Err e)))

-- What an attempt comes to by its exchange, given what followed.
pub settled_won : {z : Sizes} {t : Tuning} {tried : Result (Unit {0}) Stop} {r : Result (Unit {0}) Halt}
    {a b : Adapting} {k m m' m'' : MyTree}
    (s : IsSettling z t tried r a b k m m' m'')
    → (IsAlone z k.0.upper → IsListed k.0.upper.inventory (first_note k.0.upper.notes))
    → (IsAlone z m.0.upper → IsListed m.0.upper.inventory (first_note m.0.upper.notes)
    → tried ≢ Err (stop.Lost exchange.Link))
    → (IsAlone z m'.0.upper → IsOk tried → StaysNewest m'.0.upper m''.0.upper)
    → (IsAlone z k.0.upper → k.0.upper.ranges.unfinished ≡ [])
    → IsAlone z k.0.upper → HasWonInAttempts (λ _. true) r k.0.upper m''.0.upper
settled_won {z} {t} {tried} {r} {a} {b} {k} {m} {m'} {m''} s listed won then unmet alone = subst
    (λ (x : Result (Unit {0}) Halt). HasWonInAttempts (λ _. true) x k.0.upper m''.0.upper) (sym s.is)
    (subst (λ (x : MyTree). HasWonInAttempts {T = Unit {0}}
    (λ _. true) (come_to tried) x.0.upper m''.0.upper) s.same
    (by tried s.entered s.renewed s.settled
    (won (subst (λ (x : MyTree). IsAlone z x.0.upper) (sym s.same) alone)
    (subst (λ (x : MyTree). IsListed x.0.upper.inventory (first_note x.0.upper.notes)) (sym s.same)
    (listed alone))) then))
  where
    by : (x : Result (Unit {0}) Stop) → HasTried s.event z x m.0.upper m'.0.upper
        → HasRenewed z s.met s.word s.edit x m.0.upper m'.0.upper
        → HasSettled z t s.statistic x a b m' m'' → x ≢ Err (stop.Lost exchange.Link)
        → (IsAlone z m'.0.upper → IsOk x → StaysNewest m'.0.upper m''.0.upper)
        → HasWonInAttempts {T = Unit {0}} (λ _. true) (come_to x) m.0.upper m''.0.upper
    by (Ok x) h renewed q won then = let same_number = h.0.number in
        let w = then (
          alone.0,
          subst
              (λ (n : ℕ). 0 < n) (sym (same_number ∙ ap (λ (x : MyTree). x.0.upper.number) s.same))
              alone.1,
        ) refl in (
          w.0 ∙ renewed.same_lost,
          ap (λ (x : Renewal). x.lost) (q.1.0 ∙ renewed.renewal),
          w.1,
          w.2
              (renewed.same_unfinished
              ∙ (ap (λ (x : MyTree). x.0.upper.ranges.unfinished) s.same ∙ unmet alone))
              ∙ ap (λ (t : Turns). t.helped) renewed.same_turns,
        )
    by (Err why) h renewed q won then = subst (LosesNone m.0.upper)
        (sym (ap (λ (x : MyTree). x.0.upper) q.1 ∙ h)) (none_lost why m.0.upper (λ e. won (ap Err e)))

-- Attempts behind others that lost nothing.
pub won_on : (edited : Bool) (u w v : TreeView) → LosesNone u w → HasWon edited w v
    → HasWon edited u v
won_on true u w v before h = (h.0 ∙ before.0, h.1 ∙ before.0, h.2, h.3 ∙ before.1.1)
won_on false u w v before h = loses_both u w v before h

-- Whether it edited or not, it lost none.
pub won_lost : (edited : Bool) (u v : TreeView) → HasWon edited u v → v.lost ≡ u.lost
won_lost true u v h = h.0
won_lost false u v h = h.0

-- Nor did it help anything.
pub won_unhelped : (edited : Bool) (u v : TreeView) → HasWon edited u v
    → v.turns.helped ≡ u.turns.helped
won_unhelped true u v h = h.3
won_unhelped false u v h = h.1.1

pub won_behind : {T E : Type 0} (edits : T → Bool) (r : Result T E) (u w v : TreeView)
    → LosesNone u w → HasWonInAttempts edits r w v → HasWonInAttempts edits r u v
won_behind edits (Ok x) u w v before h = won_on (edits x) u w v before h
won_behind edits (Err why) u w v before h = won_on false u w v before h

-- Attempts that came to a stop.
pub stop_won : {T E : Type 0} (edits : T → Bool) (r : Result T E) (why : E) (u v : TreeView)
    → r ≡ Err why → HasWonInAttempts edits r u v → LosesNone u v
stop_won {T} {E} edits r why u v e h = subst (λ (x : Result T E). HasWonInAttempts edits x u v) e h

pub turn_won : {T : Type 0} (edits : T → Bool) (r : Result T Halt) (u v : TreeView)
    → HasNext r → HasWonInAttempts edits r u v → LosesNone u v
turn_won edits (Ok x) u v next h = absurd next
turn_won edits (Err why) u v next h = h

-- The pass unpins then.
wins_unpinned : (edited : Bool) (u v : TreeView) → HasWon edited u v → HasWon edited u (unpinned v)
wins_unpinned true u v h = h
wins_unpinned false u v h = h

pub won_unpinned : {T E : Type 0} (edits : T → Bool) (r : Result T E) (u v w : TreeView)
    → w ≡ unpinned v → HasWonInAttempts edits r u v → HasWonInAttempts edits r u w
won_unpinned edits (Ok x) u v w same h = subst
    (λ (y : TreeView). HasWon (edits x) u y) (sym same) (wins_unpinned (edits x) u v h)
won_unpinned edits (Err why) u v w same h = subst (λ (y : TreeView). LosesNone u y) (sym same) h

-- What the attempts come to where the last one's is told otherwise.
pub won_refused : {T : Type 0} (edits : T → Bool) (tried : Result T Halt) (r : Result T Cause)
    (spent : Spent) (levels : ℕ) (u w v : TreeView)
    → v ≡ w → r ≡ refused_as tried spent levels → HasWonInAttempts edits tried u w → HasWonInAttempts edits r u v
won_refused {T} edits tried r spent levels u w v same is h = subst
    (λ (x : Result T Cause). HasWonInAttempts edits x u v) (sym is)
    (subst (λ (x : TreeView).
    HasWonInAttempts edits (refused_as tried spent levels) u x) (sym same) (by tried h))
  where
    by : (tried : Result T Halt) → HasWonInAttempts edits tried u w
        → HasWonInAttempts edits (refused_as tried spent levels) u w
    by (Ok x) h = h
    by (Err why) h = h

-- A refused call.
pub refused_wins : {T : Type 0} (edits : T → Bool) (why : Cause) (o : Outcome T) (u v : TreeView)
    → o ≡ outcome_by why → LosesNone u v → HasWonInCall edits o u v
refused_wins {T} edits why o u v is same = subst
    (λ (x : Outcome T). HasWonInCall edits x u v) (sym is) (by why)
  where
    by : (why : Cause) → HasWonInCall edits (outcome_by {T = T} why) u v
    by (cause.Busy spent) = same
    by (cause.Full full) = same
    by (cause.Deep level) = same
    by (cause.Worn counter) = same
