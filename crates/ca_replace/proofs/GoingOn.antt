-- What follows an update: how a call goes on from attempt to attempt, and what became of its new
-- base.
use Rattle.std.proofs.Common.{◌≡◌, ◌≢◌, ◌⊎◌, ℕ, ◌+◌, ◌≤◌, min, Bool, true, false, ℤ, List, Result, Ok, Err, IsErr, IsOk, get_or, sym, refl, ap, ◌∙◌, subst, inl, inr, ⊎_elim, arith}
use denote.Ref.{Bor}
use Rattle.ca_base.specs.declared.stop.Exchange.TheVariants as exchange
use Rattle.ca_base.specs.declared.stop.Stop.{Stop}
use Rattle.ca_base.specs.declared.stop.Stop.TheVariants as stop
use Rattle.ca_replace.specs.declared.attempting.Halt.{Halt}
use Rattle.ca_adapt.specs.declared.adapted.Adapted.{Adapted}
use Rattle.ca_adapt.specs.declared.adapted.Adapted.TheVariants as adapted
use Rattle.ca_adapt.specs.declared.adapted.Why.{Why}
use Rattle.ca_adapt.specs.declared.adapted.Why.TheVariants as why
use Rattle.ca_adapt.specs.declared.tuning.Tuning.{Tuning}
use Rattle.ca_adapt.specs.Splits.{IsSplitOutcome, IsWhyNotSplit, MayBeSplit}
use Rattle.ca_adapt.specs.Statistics.{IsWordOf}
use Rattle.ca_base.specs.Counting.{HasFound, HasStoppedBy, IsSpent}
use Rattle.ca_base.specs.Progress.{IsFurther}
use Rattle.ca_base.specs.Putting.{IsNewRow, HasRenewed, HasTried, first_note, renewal_of, stopped}
use Rattle.ca_base.specs.Splitting.{HasSplit}
use Rattle.ca_model.specs.declared.outcome.Spent.{Spent}
use Rattle.ca_model.specs.Event.{Event}
use Rattle.ca_model.specs.History.{Edit}
use Rattle.ca_node.specs.declared.cursor.Cursor.{Cursor}
use Rattle.ca_node.specs.declared.cursor.Spot.TheVariants as spot
use Rattle.ca_node.specs.Laws.{starts_whole}
use Rattle.ca_node.specs.Links.{IsIn}
use Rattle.ca_node.specs.Place.{HasKey, edit_key}
use Rattle.ca_node.specs.Row.{IsUnmarked}
use Rattle.ca_node.specs.Told.{MyTree, IsEntered, IsKnown, one_more_lost}
use Rattle.ca_node.specs.TreeView.{Inventory, Note, Renewal, TreeView, Turns, one_passed, unpinned}
use Rattle.ca_node.specs.Walking.{IsWalked}
use Rattle.ca_node.proofs.Looking.{further}
use Rattle.ca_replace.specs.declared.adapting.Adapting.{Adapting}
use Rattle.ca_replace.specs.declared.adapting.Last.{Last}
use Rattle.ca_model.specs.declared.outcome.Outcome.{Outcome}
use Rattle.ca_model.specs.declared.outcome.Cause.{Cause}
use Rattle.ca_model.specs.declared.outcome.Cause.TheVariants as cause
use Rattle.ca_replace.specs.Refusals.{outcome_by}
use Rattle.ca_replace.specs.Adapting.{Adapts, Goes, HasGoneOn, HasLookedAgain, HasLostSince, IsCauseMetInCall, HasSettled, HasTriedOnce, HasWalkedThere, IsAdapted, IsMoved, IsNew, IsReason, Leaves, LeavesInCall, Waits, noted}
use Rattle.ca_replace.specs.Attempting.{HasNext, HasStopped, HasTriedTo, IsIdleSince, IsPaid, IsPaidTo, IsQuiet, come_to, refused_as}
use Rattle.ca_replace.proofs.Settling.{IsSettling}
use Rattle.ca_replace.proofs.Counted.{none_paid, paid_before, paid_both, paid_of}
use Rattle.ca_replace.proofs.Meeting.{further_on}
use Rattle.ca_replace.proofs.Showing.{looking, stopped_by, stopped_same, tried_by, walked_further}
use Rattle.ca_replace.proofs.Turns.{tried_known}
use Rattle.ca_rows.specs.declared.sizes.Sizes.{Sizes}
use Rattle.ca_rows.specs.declared.view.Met.{Met}
use Rattle.ca_rows.specs.Told.{met_of}

-- Whether an exchange of a link was lost, over two spans.
pub since_both : (x y w : Bool) (k l m : ℕ) → HasLostSince x y k l → HasLostSince y w l m
    → HasLostSince x w k m
since_both x y w k l m (inl a) (inl b) = inl (b.0 ∙ a.0, b.1 ∙ a.1)
since_both x y w k l m (inl a) (inr b) = let same = a.1 in let more = b.1 in inr (b.0, omega arith)
since_both x y w k l m (inr a) (inl b) = let more = a.1 in let same = b.1 in
    inr (b.0 ∙ a.0, omega arith)
since_both x y w k l m (inr a) (inr b) = let more = a.1 in let more' = b.1 in inr (b.0, omega arith)

-- Waiting on and on.
pub waits_on : (a b c : Adapting) (u w v : TreeView) → Waits a b u w → Waits b c w v → Waits a c u v
waits_on a b c u w v x y =
    (y.0 ∙ x.0, y.1 ∙ x.1, since_both a.lost b.lost c.lost u.lost w.lost v.lost x.2 y.2, y.3 ∙ x.3)

-- An update behind that.
pub adapts_on : (z : Sizes) (t : Tuning) (a b : Adapting) (last : Last) (u w v : TreeView)
    → Waits a b u w → Adapts z t b.lost last w v
    → Adapts z t a.lost last u v
adapts_on z t a b last u w v x y = record {
  one_more = y.one_more ∙ ap (λ (r : Renewal). r.count + 1) x.1;
  lost = y.lost;
  since = since_both a.lost b.lost y.lost u.lost w.lost v.renewal.lost x.2 y.since;
  untried = y.untried ∙ x.3;
  moved = y.moved;
  word_is = y.word_is;
  adapted = y.adapted;
}

pub goes_on : (edited : Bool) (z : Sizes) (t : Tuning) (a b c : Adapting) (u w v : TreeView)
    → Waits a b u w → Goes edited z t b c w v
    → Goes edited z t a c u v
goes_on true z t a b c u w v x y = adapts_on z t a b c.last u w v x y
goes_on false z t a b c u w v x y = waits_on a b c u w v x y

-- An attempt behind others that came to nothing.
pub gone_on : {T E : Type 0} (edits : T → Bool) (z : Sizes) (t : Tuning) (a b c : Adapting)
    (r : Result T E) (u w v : TreeView) → Waits a b u w
    → HasGoneOn edits z t b c r w v → HasGoneOn edits z t a c r u v
gone_on edits z t a b c (Ok x) u w v h g = goes_on (edits x) z t a b c u w v h g
gone_on edits z t a b c (Err why) u w v h g = waits_on a b c u w v h g

-- Nothing was updated, no exchange of a link was lost, and no attempt to join was begun.
pub idle_waits : (a : Adapting) (u v : TreeView) → IsIdleSince u v → Waits a a u v
idle_waits a u v idle = (refl, idle.0, inl (refl, idle.1), idle.2)

-- An attempt's exchange behind a look.
pub gone_after : {T E : Type 0} (edits : T → Bool) (z : Sizes) (t : Tuning) (a b : Adapting)
    (r : Result T E) (u w v : TreeView)
    → IsIdleSince u w → HasGoneOn edits z t a b r w v
    → HasGoneOn edits z t a b r u v
gone_after edits z t a b r u w v idle g = gone_on edits z t a a b r u w v (idle_waits a u w idle) g

pub adapts_after : (z : Sizes) (t : Tuning) (a : Adapting) (last : Last) (u w v : TreeView)
    → IsIdleSince u w
    → Adapts z t a.lost last w v → Adapts z t a.lost last u v
adapts_after z t a last u w v idle h = adapts_on z t a a last u w v (idle_waits a u w idle) h

-- What an attempt paid behind a look.
pub paid_behind : (a b : Spent) (m m' m'' : MyTree) → IsQuiet m m' → IsPaid a b m' m''
    → IsPaid a b m m''
paid_behind a b m m' m'' quiet paid =
    paid_both a a b m m' m'' (none_paid a m m' quiet.lost quiet.same_turns) paid

pub paid_looked : {T E : Type 0} (r : Result T E) (a b : Spent) (m m' m'' : MyTree) → IsQuiet m m' → IsPaidTo r a b m' m''
    → IsPaidTo r a b m m''
paid_looked r a b m m' m'' quiet paid =
    paid_before r a a b m m' m'' (none_paid a m m' quiet.lost quiet.same_turns) paid

-- A try that came to nothing and lost an exchange of a link, if one, waits.
pub noted_waits : (why : Stop) (a : Adapting) (u : TreeView) → Waits a (noted why a) u (stopped why u)
noted_waits (stop.Lost exchange.Link) a u = (refl, refl, inr (refl, omega arith), refl)
noted_waits (stop.Lost exchange.Head) a u = idle_waits a u u (refl, refl, refl)
noted_waits stop.Empty a u = idle_waits a u u (refl, refl, refl)
noted_waits stop.Worn a u = idle_waits a u u (refl, refl, refl)

-- After a split the pass knows as much of the history.
pub split_further : (z : Sizes) (many attempt : ℕ) (r : Result (Unit {0}) Stop) (u v : TreeView)
    → HasSplit many attempt r u v → IsKnown z u → IsFurther u v
    × IsKnown z v
split_further z many attempt (Ok x) u v is k = subst
    (λ (y : TreeView). IsFurther u y × IsKnown z y) (sym is.2) (
      record { number = refl; seen = starts_whole u.seen; log = refl; counts = refl },
      record {
        lawful =
            k.lawful;
        past = k.past;
        edits = k.edits;
        enrolled = k.enrolled;
        by_passes = k.by_passes;
      },
    )
split_further z many attempt (Err why) u v is k = stopped_by z why u v k is

-- An attempt that came to a stop carried out no update.
pub stopped_waits : {T E : Type 0} (edits : T → Bool) (z : Sizes) (t : Tuning) (a b : Adapting)
    (r : Result T E) (why : E) (u v : TreeView) → r ≡ Err why
    → HasGoneOn edits z t a b r u v → Waits a b u v
stopped_waits {T} {E} edits z t a b r why u v e g = subst
    (λ (x : Result T E). HasGoneOn edits z t a b x u v) e g

-- So did one after which another turn may follow.
pub turn_waits : {T : Type 0} (edits : T → Bool) (z : Sizes) (t : Tuning) (a b : Adapting)
    (r : Result T Halt) (u v : TreeView)
    → HasNext r → HasGoneOn edits z t a b r u v → Waits a b u v
turn_waits edits z t a b (Ok x) u v next g = absurd next
turn_waits edits z t a b (Err why) u v next g = g

-- What became of it, by the names that its parts have.
pub settled_as : (z : Sizes) (t : Tuning) (statistic : ℤ) (tried x : Result (Unit {0}) Stop)
    (a b c : Adapting) (m m' m'' : MyTree) → tried ≡ x → b ≡ c
    → m' ≡ m'' → HasSettled z t statistic x a c m m'' → HasSettled z t statistic tried a b m m'
settled_as z t statistic tried x a b c m m' m'' is same here h = subst
    (λ (y : Result (Unit {0}) Stop × Adapting × MyTree). HasSettled z t statistic y.0 a y.1 m y.2)
    (λ i. (sym is i, sym same i, sym here i)) h

-- The exchange of a base took no turn but one that may be lost.
pub tried_turns : (met : Met) (z : Sizes) (event : Event) (edit : Edit) (word : ℕ)
    (tried : Result (Unit {0}) Stop) (u w : TreeView) → HasTried event z tried u w
    → HasRenewed z met word edit tried u w → w.turns ≡ u.turns
tried_turns met z event edit word (Ok x) u w done h = h.same_turns
tried_turns met z event edit word (Err why) u w is h =
    ap (λ (x : TreeView). x.turns) is ∙ ap (λ (x : TreeView). x.turns) (stopped_same why u)

-- Where it won, the new base is the one that was shown last.
pub is_new : (met : Met) (z : Sizes) (edit : Edit) (word placed : ℕ) (tried : Result (Unit {0}) Stop)
    (u w : TreeView)
    → HasKey (first_note u.notes).place.span (edit_key edit) → HasRenewed z met word edit tried u w
    → IsNewRow placed tried w → IsOk tried → IsNew placed (edit_key edit) met w
is_new met z edit word placed (Err why) u w about renewed row won = absurd cc
is_new met z edit word placed (Ok x) u w about h row won = record {
  row = row ∙ ap (λ (r : Renewal). r.new.row) (sym h.renewal);
  last = h.last ∙ ap (λ (r : Renewal). r.new) (sym h.renewal);
  key_is = ap (λ (r : Renewal). r.key) h.renewal;
  splits_are = h.same_splits ∙ ap (λ (r : Renewal). r.splits) (sym h.renewal);
  joins_are = h.same_joins ∙ ap (λ (r : Renewal). r.joins) (sym h.renewal);
  lost_are = h.same_lost ∙ ap (λ (r : Renewal). r.lost) (sym h.renewal);
  loads_are = h.same_loads ∙ ap (λ (r : Renewal). r.loads) (sym h.renewal);
  passed_are = ap (λ (t : Turns). t.passed) h.same_turns ∙ ap (λ (r : Renewal). r.passed) (sym h.renewal);
  tries_are = h.same_tries ∙ ap (λ (r : Renewal). r.tries) (sym h.renewal);
  met_are = ap (λ (r : Renewal). r.met) (sym h.renewal);
  noted = subst (λ (r : Renewal). IsIn r.new w.notes) (sym h.renewal)
      (subst (λ (ns : List Note). IsIn (first_note w.notes) ns) (sym h.notes) (0, refl));
  unmarked = subst (λ (r : Renewal). IsUnmarked r.new.its) (sym h.renewal) h.unmarked;
  listed = let x = h.inventory.0 in (
    x.old.place,
    subst (λ (n : ℕ). IsIn (n, x.old.place) w.inventory.bases) (ap
        (λ (r : Renewal). r.new.row) (sym h.renewal))
        (subst (λ (i : Inventory).
        IsIn ((first_note w.notes).row, x.old.place) i.bases) (sym h.inventory.3) (0, refl)),
    row ∙ ap (λ (r : Renewal). r.new.row) (sym h.renewal),
    subst (λ (n : Note). HasKey n.place.span (edit_key edit)) (sym h.inventory.1) about,
  );
}

-- The exchange was tried by a pass that knew as much of the tree as this one; what is known of it
-- then.
pub known_then : (z : Sizes) (event : TreeView → Event) (tried : Result (Unit {0}) Stop)
    (u u' w : TreeView) → u' ≡ u → IsKnown z u
    → HasTried (event u') z tried u' w → IsKnown z w
known_then z event tried u u' w same k h = (tried_known (λ _ e. e ≡ event u) z (come_to tried) u w
    (tried_by z event tried (come_to tried) u u' w same refl k h)).0

-- What an attempt did stays done as the pass goes further.
pub tried_then : {T : Type 0} (tells : T → Event → Type 0) (z : Sizes) (r : Result T Halt)
    (u w v : TreeView) → HasTriedTo tells z r u w
    → IsFurther w v × IsKnown z v → HasTriedTo tells z r u v
tried_then tells z (Ok x) u w v h f = let d = h.0.2 in let on = f.0 in (
  (
    h.0.0,
    h.0.1,
    record {
      number = on.number ∙ d.number;
      seen = further v.seen w.seen u.seen on.seen d.seen;
      at = d.at;
      from = d.from;
      log = on.log ∙ d.log;
      counts = on.counts ∙ d.counts;
    },
  ),
  f.1,
)
tried_then tells z (Err why) u w v h f = (further_on u w v h.0 f.0, f.1)

-- What an attempt met of the pool, by what became of its exchange.
pub settled_stopped : (z : Sizes) (t : Tuning) (statistic : ℤ) (tried : Result (Unit {0}) Stop)
    (a b : Adapting) (k m m' : MyTree) → HasFound tried k m
    → HasSettled z t statistic tried a b m m' → HasStopped (come_to tried) k m'
settled_stopped z t statistic (Ok x) a b k m m' ended s = tt
settled_stopped z t statistic (Err why) a b k m m' ended s = subst
    (λ (x : MyTree). HasStoppedBy why k x) (sym s.1) ended

-- What a try to split the base that was shown last came to: nothing was updated, that base is still
-- the one shown last, and the split was tried once.
pub record HasComeOf (z : Sizes) (a : Adapted) (u v : TreeView) : Type 0 where
  pub renewal : v.renewal ≡ u.renewal
  pub last : v.last ≡ u.last
  pub shown : v.shown ≡ u.shown
  pub loads : v.loads ≡ u.loads
  pub tried : u.splits ≡ u.renewal.splits → HasTriedOnce z v.last v.renewal.splits v.splits a
  pub joins_are : v.joins ≡ u.joins
  pub further_is : IsFurther u v
  pub known : IsKnown z u → IsKnown z v

-- The base was not split, for this reason; the pass knows no more, but that it may have lost an
-- exchange.
not_split : (z : Sizes) (w : Why) (u v : TreeView) → IsReason z u.last w → (v ≡ u)
    ⊎ (v ≡ one_more_lost u) → HasComeOf z (adapted.NotSplit w) u v
not_split z w u v reason e = ⊎_elim
    (λ (same : v ≡ u). subst
    (λ (y : TreeView). HasComeOf z (adapted.NotSplit w) u y) (sym same) record {
      renewal = refl;
      last = refl;
      shown = refl;
      loads = refl;
      tried = λ same. (reason, same);
      joins_are = refl;
      further_is = record { number = refl; seen = starts_whole u.seen; log = refl; counts = refl };
      known = λ k. k;
    })
    (λ (lost : v ≡ one_more_lost u). subst
    (λ (y : TreeView). HasComeOf z (adapted.NotSplit w) u y) (sym lost) record {
      renewal = refl;
      last = refl;
      shown = refl;
      loads = refl;
      tried = λ same. (reason, same);
      joins_are = refl;
      further_is = record { number = refl; seen = starts_whole u.seen; log = refl; counts = refl };
      known = λ k.
          record {
            lawful =
                k.lawful;
            past =
                k.past;
            edits = k.edits;
            enrolled = k.enrolled;
            by_passes = k.by_passes;
          };
    }) e

not_split_by : (z : Sizes) (note : Note) (w : Why) (m m' : MyTree) → m.0.upper.last ≡ note
    → IsWhyNotSplit z note w m m'
    → HasComeOf z (adapted.NotSplit w) m.0.upper m'.0.upper
not_split_by z note why.Root m m' last h = absurd h
not_split_by z note why.OneObject m m' last h = not_split z why.OneObject m.0.upper m'.0.upper
    (subst (λ (n : Note). IsReason z n why.OneObject) (sym last) h.0)
    (inl (ap (λ (x : MyTree). x.0.upper) h.1))
not_split_by z note why.AtLevel m m' last h = not_split z why.AtLevel m.0.upper m'.0.upper
    (subst (λ (n : Note). IsReason z n why.AtLevel) (sym last) (h.0, h.1))
    (inl (ap (λ (x : MyTree). x.0.upper) h.2))
not_split_by z note why.SiblingRoute m m' last h = absurd h
not_split_by z note why.TooMany m m' last h = absurd h
not_split_by z note why.Taken m m' last h = absurd h
not_split_by z note why.Lost m m' last h = not_split z why.Lost m.0.upper m'.0.upper
    (subst (λ (n : Note). IsReason z n why.Lost) (sym last) h.0) h.3
not_split_by z note why.NoRow m m' last h = not_split z why.NoRow m.0.upper m'.0.upper
    (subst (λ (n : Note). IsReason z n why.NoRow) (sym last) h.0) (inl h.2)
not_split_by z note why.Worn m m' last h = not_split z why.Worn m.0.upper m'.0.upper
    (subst (λ (n : Note). IsReason z n why.Worn) (sym last) h.0) (inl h.2)

pub come_of : (z : Sizes) (note : Note) (a : Adapted) (m m' : MyTree) → m.0.upper.last ≡ note
    → IsSplitOutcome z note a m m' → HasComeOf z a m.0.upper m'.0.upper
come_of z note adapted.Stay m m' last h = absurd h
come_of z note adapted.Split m m' last h = subst
    (λ (y : TreeView). HasComeOf z adapted.Split m.0.upper y) (sym h.2.2) record {
      renewal = refl;
      last = refl;
      shown = refl;
      loads = refl;
      tried = λ same. (subst (MayBeSplit z) (sym last) h.0, ap (λ n. n + 1) same);
      joins_are = refl;
      further_is =
          record { number = refl; seen = starts_whole m.0.upper.seen; log = refl; counts = refl };
      known = λ k.
          record {
            lawful =
                k.lawful;
            past = k.past;
            edits = k.edits;
            enrolled = k.enrolled;
            by_passes = k.by_passes;
          };
    }
come_of z note adapted.Joined m m' last h = absurd h
come_of z note (adapted.NotSplit w) m m' last h = not_split_by z note w m m' last h
come_of z note (adapted.NotJoined w) m m' last h = absurd h

-- How many turns there are behind it.
pub come_turns : (z : Sizes) (note : Note) (a : Adapted) (m m' : MyTree) → IsSplitOutcome z note a m m'
    → (a ≡ adapted.Split → m'.0.upper.turns ≡ one_passed m.0.upper.turns)
    × (a ≢ adapted.Split → m'.0.upper.turns ≡ m.0.upper.turns)
come_turns z note adapted.Stay m m' h = absurd h
come_turns z note adapted.Split m m' h =
    ((λ e. ap (λ (y : TreeView). y.turns) h.2.2), λ n. absurd (n refl))
come_turns z note adapted.Joined m m' h = absurd h
come_turns z note (adapted.NotSplit w) m m' h = ((λ e. cc), λ n. none w h)
  where
    none : (w : Why) → IsWhyNotSplit z note w m m' → m'.0.upper.turns ≡ m.0.upper.turns
    none why.Root h = absurd h
    none why.OneObject h = ap (λ (y : MyTree). y.0.upper.turns) h.1
    none why.AtLevel h = ap (λ (y : MyTree). y.0.upper.turns) h.2
    none why.SiblingRoute h = absurd h
    none why.TooMany h = absurd h
    none why.Taken h = absurd h
    none why.Lost h = ⊎_elim
        (λ (same : m'.0.upper ≡ m.0.upper). ap (λ (y : TreeView). y.turns) same)
        (λ (lost : m'.0.upper ≡ one_more_lost m.0.upper). ap (λ (y : TreeView). y.turns) lost) h.3
    none why.NoRow h = ap (λ (y : TreeView). y.turns) h.2
    none why.Worn h = ap (λ (y : TreeView). y.turns) h.2
come_turns z note (adapted.NotJoined w) m m' h = absurd h

-- After an update the pass walked to its key again, and came to another base than the new one.
pub led_elsewhere : (z : Sizes) (key : Bor (List ℕ)) (placed : ℕ) (m m' : MyTree) (cursor : Cursor)
    → IsNew placed key.now (met_of m) m.0.upper
    → IsWalked z (spot.At key) m cursor m' → cursor.base ≢ placed → (Tried : Type 0)
    → (m'.0.upper.renewal ≡ m.0.upper.renewal) × HasWalkedThere z m'.0.upper adapted.Stay Tried
led_elsewhere z key placed m m' cursor new w other Tried = subst
    (λ (x : MyTree). (x.0.upper.renewal ≡ m.0.upper.renewal) × HasWalkedThere z x.0.upper adapted.Stay Tried) (sym w.now) (
      refl,
      (
        let at = new.loads_are in let some = w.some in let few = w.few in (omega arith, omega arith),
        subst (HasKey w.note.place.span) (sym new.key_is) w.sought,
        inl ((λ e. other (sym w.cursor_is.base ∙ (e ∙ sym new.row))), (refl, new.splits_are, new.joins_are), refl),
      ),
    )

-- It came to the new one, and tried once to split it.
pub led_there : (z : Sizes) (key : Bor (List ℕ)) (placed : ℕ) (m m' m'' : MyTree) (cursor : Cursor)
    (a : Adapted) → IsNew placed key.now (met_of m) m.0.upper
    → IsWalked z (spot.At key) m cursor m' → z.leaf ≤ 120 → cursor.base ≡ placed
    → IsSplitOutcome z (first_note m'.0.upper.notes) a m' m''
    → HasLookedAgain z a m.0.upper m''.0.upper
    × (IsFurther m.0.upper m''.0.upper × IsKnown z m''.0.upper)
led_there z key placed m m' m'' cursor a new w most same h =
    let l = looking z key m m' cursor w most in
    let come = come_of z (first_note m'.0.upper.notes) a m' m'' l.last h in
    let up = ap (λ (x : MyTree). x.0.upper) w.now in
    let renewed = ap (λ (u : TreeView). u.renewal) up in
    let last = ap (λ (u : TreeView). u.last) up in (
      (
        come.renewal ∙ renewed,
        (
          (let same_loads = ap (λ (r : Renewal). r.loads) (come.renewal ∙ renewed) in
              let at = new.loads_are in let some = w.some in let few = w.few in
              let now : m''.0.upper.shown ≡ m.0.upper.loads + w.loads = come.shown
              ∙ ap (λ (u : TreeView). u.shown) up in (omega arith, omega arith)),
          subst (λ (r : Renewal). HasKey m''.0.upper.last.place.span r.key) (sym (come.renewal
              ∙ renewed))
              (subst (λ (n : Note). HasKey n.place.span m.0.upper.renewal.key) (sym (come.last
              ∙ last))
              (subst (HasKey w.note.place.span) (sym new.key_is) w.sought)),
          inr (
            ap (λ (n : Note). n.row) (come.last ∙ last)
                ∙ (w.cursor_is.base ∙ (same ∙ (new.row ∙ ap (λ (r : Renewal). r.new.row)
                (sym (come.renewal ∙ renewed))))),
            (
              come.tried (ap (λ (u : TreeView). u.splits) up
                  ∙ (new.splits_are ∙ ap (λ (r : Renewal). r.splits) (sym renewed))),
              come.joins_are ∙ (ap (λ (u : TreeView). u.joins) up
                  ∙ (new.joins_are ∙ ap (λ (r : Renewal). r.joins) (sym (come.renewal ∙ renewed)))),
              come.loads ∙ (ap (λ (u : TreeView). u.loads) up ∙ sym (come.shown ∙ ap (λ (u : TreeView). u.shown) up)),
            ),
          ),
        ),
      ),
      (
        further_on m.0.upper m'.0.upper m''.0.upper (walked_further z (spot.At key) m m' cursor w)
            come.further_is,
        come.known w.known,
      ),
    )

-- One turn more was paid: the pass passed on, and no other one.
passed_more : (a b : Spent) (passed : ℕ) (m m' : MyTree) → IsSpent a b m m'
    → m'.0.upper.turns ≡ one_passed m.0.upper.turns → passed ≡ min (b.passed + 1) 4294967295
    → IsPaid a (record b { passed = passed }) m m'
passed_more a b passed m m' x cut is = let also = x.passed in let also' = x.helped in
    let pass = ap (λ (t : Turns). t.passed) cut in
    let help = ap (λ (t : Turns). t.helped) cut in record {
      more = x.more;
      lost = x.lost;
      more_helped = omega arith;
      helped = λ fits. omega arith;
      more_passed = omega arith;
      passed = λ fits. omega arith;
    }

-- What was spent by such a try, behind a walk.
pub paid_cut : (a b : Spent) (passed : ℕ) (m m' m'' : MyTree) → IsQuiet m m' → IsSpent a b m' m''
    → m''.0.upper.turns ≡ one_passed m'.0.upper.turns
    → passed ≡ min (b.passed + 1) 4294967295 → IsPaid a (record b { passed = passed }) m m''
paid_cut a b passed m m' m'' q x cut is =
    paid_behind a (record b { passed = passed }) m m' m'' q (passed_more a b passed m' m'' x cut is)

-- What was spent by a try to split a full base: one split more where it was carried out, and no
-- other one.
pub paid_split : (many attempt passed : ℕ) (split : Result (Unit {0}) Stop) (a b : Spent)
    (m m' : MyTree) → HasSplit many attempt split m.0.upper m'.0.upper
    → IsSpent a b m m' → IsOk split → passed ≡ min (b.passed + 1) 4294967295
    → IsPaid a (record b { passed = passed }) m m'
paid_split many attempt passed (Err why) a b m m' h x won is = absurd cc
paid_split many attempt passed (Ok y) a b m m' h x won is =
    passed_more a b passed m m' x (ap (λ (u : TreeView). u.turns) h.2) is

pub paid_unsplit : (many attempt : ℕ) (split : Result (Unit {0}) Stop) (a b : Spent)
    (m m' : MyTree) → HasSplit many attempt split m.0.upper m'.0.upper
    → IsSpent a b m m' → IsErr split → IsPaid a b m m'
paid_unsplit many attempt (Ok y) a b m m' h x lost = absurd cc
paid_unsplit many attempt (Err why) a b m m' h x lost = paid_of a b m m' x
    (ap (λ (u : TreeView). u.turns) h ∙ ap (λ (x : TreeView). x.turns) (stopped_same why m.0.upper))

pub paid_still : (a b : Spent) (m m' m'' : MyTree) → IsQuiet m m' → IsSpent a b m' m''
    → m''.0.upper.turns ≡ m'.0.upper.turns → IsPaid a b m m''
paid_still a b m m' m'' q x same = paid_behind a b m m' m'' q (paid_of a b m' m'' x same)

-- What an attempt's exchange and what followed it come to, given that the pass knew as much of the
-- tree at first as this one.
pub settled_tried : (z : Sizes) (event : TreeView → Event) (tried : Result (Unit {0}) Stop)
    (r : Result (Unit {0}) Halt) (u u' w v : TreeView) → u' ≡ u
    → r ≡ come_to tried → IsKnown z u → HasTried (event u') z tried u' w → IsFurther w v
    × IsKnown z v → HasTriedTo (λ _ e. e ≡ event u) z r u v
settled_tried z event tried r u u' w v same is k h f = subst
    (λ (x : Result (Unit {0}) Halt). HasTriedTo (λ _ e. e ≡ event u) z x u v) (sym is)
    (tried_then
    (λ _ e. e ≡ event u) z (come_to tried) u w v
    (tried_by z event tried (come_to tried) u u' w same refl k h) f)

pub settled_on : {z : Sizes} {t : Tuning} {tried : Result (Unit {0}) Stop} {r : Result (Unit {0}) Halt}
    {a b : Adapting} {k m m' m'' : MyTree}
    (s : IsSettling z t tried r a b k m m' m'')
    → IsMoved t (get_or (first_note k.0.upper.notes).its 1 0) a.lost s.statistic
    → IsWordOf s.statistic s.word
    → HasGoneOn (λ (_ : Unit {0}). true) z t a b r k.0.upper m''.0.upper
settled_on {z} {t} {tried} {r} {a} {b} {k} {m} {m'} {m''} s moved word_is = let same = ap
    (λ (x : MyTree). x.0.upper) s.same in
    subst (λ (x : Result (Unit {0}) Halt). HasGoneOn
    (λ (_ : Unit {0}). true) z t a b x k.0.upper m''.0.upper) (sym s.is)
    (subst (λ (y : TreeView). HasGoneOn
    (λ (_ : Unit {0}). true) z t a b (come_to tried) y m''.0.upper) same
    (by tried s.entered s.renewed s.settled))
  where
    there : IsMoved t (get_or (first_note m.0.upper.notes).its 1 0) a.lost s.statistic
    there = subst
        (λ (x : MyTree). IsMoved t (get_or (first_note x.0.upper.notes).its 1 0) a.lost s.statistic)
        (sym s.same) moved

    by : (x : Result (Unit {0}) Stop) → HasTried s.event z x m.0.upper m'.0.upper
        → HasRenewed z s.met s.word s.edit x m.0.upper m'.0.upper
        → HasSettled z t s.statistic x a b m' m''
        → HasGoneOn (λ (_ : Unit {0}). true) z t a b (come_to x) m.0.upper m''.0.upper
    by (Ok x) done h q = let u = m.0.upper in
        let e : m''.0.upper.renewal
        ≡ renewal_of s.met u (edit_key s.edit) (first_note u.notes)
        (first_note m'.0.upper.notes) = q.1.0 ∙ h.renewal in
        record {
          one_more = ap (λ (x : Renewal). x.count) e;
          lost = a.lost;
          since = inl (refl, ap (λ (x : Renewal). x.lost) e);
          untried = ap (λ (x : Renewal). x.tries) e;
          moved = subst
              (λ (n : ℕ). IsMoved t n a.lost b.last.statistic)
              (sym (ap (λ (x : Renewal). get_or x.old.its 1 0) e))
              (subst (λ (n : ℤ). IsMoved t (get_or (first_note u.notes).its 1 0) a.lost n) (sym q.0)
              there);
          word_is = subst
              (λ (n : ℕ). IsWordOf b.last.statistic n)
              (sym (ap (λ (x : Renewal). get_or x.new.its 1 0) e ∙ h.statistic_is))
              (subst (λ (n : ℤ). IsWordOf n s.word) (sym q.0) word_is);
          adapted = subst (λ (n : ℤ). IsAdapted z t n m''.0.upper b.last.adapted) (sym q.0) q.1.1;
        }
    by (Err why) is h q = let w = ap (λ (x : MyTree). x.0.upper) q.1 ∙ is in
        subst (λ (x : Adapting × TreeView). Waits a x.0 m.0.upper x.1) (λ i. (sym q.0 i, sym w i))
        (noted_waits why a m.0.upper)

pub settled_paid : (a b c : Spent) (k m m' m'' : MyTree) → m ≡ k
    → m'.0.upper.turns ≡ m.0.upper.turns → IsSpent a b m m' → (tried : Result (Unit {0}) Stop) (r : Result (Unit {0}) Halt)
    → r ≡ come_to tried → IsPaidTo (come_to tried) b c m' m'' → IsPaidTo r a c k m''
settled_paid a b c k m m' m'' same still spent tried r is paid =
    subst (λ (x : Result (Unit {0}) Halt). IsPaidTo x a c k m'') (sym is)
    (subst (λ (x : MyTree). IsPaidTo (come_to tried) a c x m'') same
    (paid_before (come_to tried) a b c m m' m'' (paid_of a b m m' spent still) paid))

pub settled_found : (z : Sizes) (t : Tuning) (statistic : ℤ) (tried : Result (Unit {0}) Stop)
    (r : Result (Unit {0}) Halt) (a b : Adapting) (k m m' m'' : MyTree)
    → m ≡ k → r ≡ come_to tried → HasFound tried m m' → HasSettled z t statistic tried a b m' m''
    → HasStopped r k m''
settled_found z t statistic tried r a b k m m' m'' same is ended s = subst
    (λ (x : Result (Unit {0}) Halt). HasStopped x k m'') (sym is)
    (subst (λ (x : MyTree). HasStopped (come_to tried) x m'') same
    (settled_stopped z t statistic tried a b m m' m'' ended s))

-- The end of a call that edits nothing, behind a look.
pub entered_waits : (a : Adapting) (u w : TreeView) (m m' : MyTree) (event : Event) → m.0.upper ≡ w
    → IsIdleSince u w
    → IsEntered event m m' → Waits a a u m'.0.upper
entered_waits a u w m m' event same idle is = let up = ap (λ (x : MyTree). x.0.upper) is.now in
    idle_waits a u m'.0.upper (
      ap (λ (x : TreeView). x.renewal) up ∙ (ap (λ (x : TreeView). x.renewal) same ∙ idle.0),
      ap (λ (x : TreeView). x.lost) up ∙ (ap (λ (x : TreeView). x.lost) same ∙ idle.1),
      ap (λ (x : TreeView). x.tries) up ∙ (ap (λ (x : TreeView). x.tries) same ∙ idle.2),
    )

-- The pass unpins then.
adapts_unpinned : (z : Sizes) (t : Tuning) (lost : Bool) (last : Last) (u v : TreeView)
    → Adapts z t lost last u v → Adapts z t lost last u (unpinned v)
adapts_unpinned z t lost last u v h = record {
  one_more = h.one_more;
  lost = h.lost;
  since = h.since;
  untried = h.untried;
  moved = h.moved;
  word_is = h.word_is;
  adapted = h.adapted;
}

goes_unpinned : (edited : Bool) (z : Sizes) (t : Tuning) (a b : Adapting) (u v : TreeView)
    → Goes edited z t a b u v → Goes edited z t a b u (unpinned v)
goes_unpinned true z t a b u v h = adapts_unpinned z t a.lost b.last u v h
goes_unpinned false z t a b u v h = h

pub gone_unpinned : {T E : Type 0} (edits : T → Bool) (z : Sizes) (t : Tuning) (a b : Adapting)
    (r : Result T E) (u v w : TreeView) → w ≡ unpinned v
    → HasGoneOn edits z t a b r u v → HasGoneOn edits z t a b r u w
gone_unpinned edits z t a b (Ok x) u v w same h = subst
    (λ (y : TreeView). Goes (edits x) z t a b u y) (sym same)
    (goes_unpinned (edits x) z t a b u v h)
gone_unpinned edits z t a b (Err why) u v w same h = subst
    (λ (y : TreeView). Waits a b u y) (sym same) h

-- What the last attempt came to is what the attempts came to.
pub gone_refused : {T : Type 0} (edits : T → Bool) (z : Sizes) (t : Tuning) (a b : Adapting)
    (tried : Result T Halt) (spent : Spent) (levels : ℕ)
    (u v : TreeView) → HasGoneOn edits z t a b tried u v
    → HasGoneOn edits z t a b (refused_as tried spent levels) u v
gone_refused edits z t a b (Ok x) spent levels u v h = h
gone_refused edits z t a b (Err why) spent levels u v h = h

-- The call is refused by what its last attempt came to.
abbrev pub IsAttemptRefusal : {T : Type 0} → Result T Halt → Result T Cause → Type 0
IsAttemptRefusal tried r = (spent : Spent) × (levels : ℕ) × (r ≡ refused_as tried spent levels)

pub refused_gone : {T : Type 0} (edits : T → Bool) (z : Sizes) (t : Tuning) (a b : Adapting)
    (tried : Result T Halt) (r : Result T Cause)
    (u w v : TreeView) → v ≡ w → IsAttemptRefusal tried r → HasGoneOn edits z t a b tried u w
    → HasGoneOn edits z t a b r u v
refused_gone {T} edits z t a b tried r u w v same refused h = subst
    (λ (x : Result T Cause). HasGoneOn edits z t a b x u v) (sym refused.2)
    (subst (λ (y : TreeView).
    HasGoneOn edits z t a b (refused_as tried refused.0 refused.1) u y) (sym same)
    (gone_refused edits z t a b tried refused.0 refused.1 u w h))

-- What a call leaves of what the store keeps, by what its attempts came to.
pub goes_leaves : (edited : Bool) (z : Sizes) (t : Tuning) (a b : Adapting) (u v : TreeView)
    → a.lost ≡ false → Goes edited z t a b u v
    → Leaves edited z t a.last b.last u v
goes_leaves true z t a b u v none h = subst (λ (x : Bool). Adapts z t x b.last u v) none h
goes_leaves false z t a b u v none h = (h.0, h.1, h.3)

-- Of a call that is refused nothing is told of an update.
pub none_met_as : {T : Type 0} (edits : T → Bool) (last : Last) (why : Cause) (o : Outcome T)
    (m : MyTree) → o ≡ outcome_by why → IsCauseMetInCall edits last o m
none_met_as {T} edits last why o m is = subst
    (λ (x : Outcome T). IsCauseMetInCall edits last x m) (sym is) (by why)
  where
    by : (why : Cause) → IsCauseMetInCall edits last (outcome_by {T = T} why) m
    by (cause.Busy spent) = tt
    by (cause.Full full) = tt
    by (cause.Deep level) = tt
    by (cause.Worn counter) = tt

pub leaves_refused : {T : Type 0} (edits : T → Bool) (z : Sizes) (t : Tuning) (last : Last)
    (why : Cause) (o : Outcome T) (u v : TreeView)
    → o ≡ outcome_by why → v.renewal ≡ u.renewal → v.tries ≡ u.tries → LeavesInCall edits z t last last o u v
leaves_refused {T} edits z t last why o u v is same tried = subst
    (λ (x : Outcome T). LeavesInCall edits z t last last x u v) (sym is) (by why)
  where
    by : (why : Cause) → LeavesInCall edits z t last last (outcome_by {T = T} why) u v
    by (cause.Busy spent) = (refl, same, tried)
    by (cause.Full full) = (refl, same, tried)
    by (cause.Deep level) = (refl, same, tried)
    by (cause.Worn counter) = (refl, same, tried)
