-- Why a call of a pass that is alone is refused.
use Rattle.std.proofs.Common.{◌≡◌, ℕ, ◌+◌, ◌≤◌, List, length, Vec, Result, Ok, Err, IfErr, sym, subst, refl, ap, ⊎_elim, arith}
use Rattle.std.specs.Global.{Global}
use Rattle.std.specs.declared.option.Option.{Option}
use Rattle.std.specs.declared.option.Option.TheVariants.{None as Nothing, Some as Just}
use Rattle.atomic_table.specs.Seated.{TableId}
use Rattle.ca_model.specs.declared.outcome.Cause.{Cause}
use Rattle.ca_model.specs.declared.outcome.Cause.TheVariants as cause
use Rattle.ca_model.specs.declared.outcome.Outcome.{Outcome}
use Rattle.ca_model.specs.declared.outcome.Outcome.TheVariants as outcome
use Rattle.ca_model.specs.declared.outcome.Spent.{Spent}
use Rattle.ca_model.specs.History.{History}
use Rattle.ca_base.specs.declared.stop.Stop.TheVariants as stop
use Rattle.ca_base.specs.Counting.{losses}
use Rattle.ca_node.specs.Inventory.{HasFewRows}
use Rattle.ca_node.specs.States.{IsAlone}
use Rattle.ca_node.specs.Told.{MyTree}
use Rattle.ca_node.specs.TreeView.{Inventory, Note, TreeView}
use Rattle.ca_replace.specs.declared.attempting.Halt.{Halt}
use Rattle.ca_replace.specs.declared.attempting.Halt.TheVariants as halt
use Rattle.ca_replace.specs.Attempting.{refused_as}
use Rattle.ca_replace.specs.Alone.{HadNoRoom, HasLoneCause, HasNoRoom, IsCrowdedCall, IsCrowdedCause, IsNeverBusy}
use Rattle.ca_replace.specs.Causes.{IfCaused, IsCaused, IsFullSince, IsRefill}
use Rattle.ca_replace.specs.Crowding.{HasCrowded}
use Rattle.ca_replace.specs.Growing.{HasWaited, HasRoomFor, IsSameTree, Grows}
use Rattle.ca_replace.specs.Ranging.{IsRangeCaused}
use Rattle.ca_replace.specs.Refusals.{outcome_by}
use Rattle.ca_replace.specs.Resting.{IsResting}
use Rattle.ca_replace.specs.Winning.{TurnsBySplits}
use Rattle.ca_replace.proofs.Turns.{MySeat}
use Rattle.ca_rows.specs.declared.kept.Kept.{Kept}
use Rattle.ca_rows.specs.declared.sizes.Sizes.{Sizes}
use Rattle.ca_rows.specs.declared.tally.Tally.{Tally}
use Rattle.ca_rows.specs.declared.view.Pin.{Pin}
use Rattle.ca_rows.specs.Reclaiming.{IsLag}

-- No other pass lags where there is none.
pub never_lags : (passes number : ℕ) (lag : Option ℕ) (pin : Pin) → passes ≡ 1 → number ≡ 1
    → IsLag passes number lag pin → lag ≡ Nothing
never_lags passes number Nothing pin one first h = refl
never_lags passes number (Just j) pin one first h = absurd (h.2 (omega (arith, h.0, h.1)))

-- A pass that is alone has the first number.
pub first_number : (table : TableId) (z : Sizes) (number : ℕ) (tally : Tally)
    (kept : Vec Kept Global) (seat : MySeat)
    → IsResting table z number tally kept seat → z.passes ≡ 1 → number ≡ 1
first_number table z number tally kept seat r one = let some = r.numbered.1 in
    let most = r.known.enrolled in omega (arith, one, r.same_number)

-- And is alone, by its number.
pub alone_at : (table : TableId) (z : Sizes) (number : ℕ) (tally : Tally) (kept : Vec Kept Global)
    (seat : MySeat)
    → IsResting table z number tally kept seat → z.passes ≡ 1 → IsAlone z seat.me.0.upper
alone_at table z number tally kept seat r one = let some = r.numbered.1 in
    (one, omega (arith, r.same_number))

-- A base that has no room at the last level was there before attempts that did not do the call, by
-- which the pass learnt of nothing: where one of them split a base there would be room.
was_deep : (z : Sizes) (adds : Option (List ℕ)) (u v : TreeView) → IsAlone z v → v.seen ≡ u.seen
    → IsFullSince z adds v → HasWaited z adds u v
    → HadNoRoom z adds u
was_deep z Nothing u v alone seen full waited = absurd full.0.2
was_deep z (Just key) u v alone seen full waited = ⊎_elim
    (λ (same : IsSameTree u v). (
      subst (λ (x : History × Inventory). HasNoRoom z key x.0 x.1) (λ i. (seen i, same.1 i)) now,
      (let here = full.1 alone in let last = here.2.2 in let level = here.1 in let count = same.0 in
          omega arith),
    ))
    (λ (t : Grows 1 2 1 u v × HasRoomFor z (Just key) v × ¬ HasRoomFor z (Just key) u).
    let room = t.1 now.row now.place now.listed now.led in let full = now.full in
    absurd (omega arith))
    waited
  where
    now : HasNoRoom z key v.seen v.inventory
    now = let here = full.1 alone in record {
      new = here.2.0;
      row = v.last.row;
      place = v.last.place;
      listed = here.0.base;
      led = here.2.1;
      at_last = here.2.2;
      full = here.2.3;
    }

-- So is a call that is refused behind its attempts.
pub lone_cause : {T : Type 0} (z : Sizes) (number budget : ℕ) (adds : Option (List ℕ)) (why : Cause)
    (o : Outcome T) (m m' : MyTree)
    (kept kept' : Vec Kept Global) → o ≡ outcome_by why → number ≡ 1 → IsAlone z m'.0.upper
    → m'.0.upper.seen ≡ m.0.upper.seen → HasWaited z adds m.0.upper m'.0.upper
    → IsCaused z number budget adds why m kept m' kept'
    → HasLoneCause z adds m.0.upper o
lone_cause {T} z number budget adds why o m m' kept kept' is first alone seen waited h =
    subst (λ (x : Outcome T). HasLoneCause z adds m.0.upper x) (sym is) (by why h)
  where
    by : (why : Cause) → IsCaused z number budget adds why m kept m' kept'
        → HasLoneCause {T = T} z adds m.0.upper (outcome_by why)
    by (cause.Busy spent) h = tt
    by (cause.Full full) h = let none = never_lags z.passes number full.lag m'.0.pin alone.0 first
        h.3 in
        (⊎_elim (λ e. e) (λ some. absurd (some none)) h.1, none)
    by (cause.Deep level) h = was_deep z adds m.0.upper m'.0.upper alone seen h.1 waited
    by (cause.Worn counter) h = tt

-- So is a read of what is within edges.
pub lone_read : {T : Type 0} (Needs : Note → Type 0) (z : Sizes) (number budget : ℕ) (o : Outcome T)
    (m m' : MyTree) (kept kept' : Vec Kept Global) → z.passes ≡ 1 → number ≡ 1
    → IfCaused o (λ why. IsRangeCaused Needs z number budget why m kept m' kept')
    → HasLoneCause z Nothing m.0.upper o
lone_read Needs z number budget (outcome.Done x) m m' kept kept' one first h = tt
lone_read Needs z number budget (outcome.Busy spent) m m' kept kept' one first h = tt
lone_read Needs z number budget (outcome.Full full) m m' kept kept' one first h =
    let none = never_lags z.passes number full.lag m'.0.pin one first h.3 in
    (⊎_elim (λ e. e) (λ some. absurd (some none)) h.1, none)
lone_read Needs z number budget (outcome.Deep level) m m' kept kept' one first h = absurd h
lone_read Needs z number budget (outcome.Worn counter) m m' kept kept' one first h = tt

-- Where no exchange of the pool was lost before and behind, and none of a link since, none was
-- lost.
pub lone_losses : (m m' : MyTree) → m.0.lost ≡ 0 → m'.0.lost ≡ 0 → m'.0.upper.lost ≡ m.0.upper.lost
    → losses m' ≡ losses m
lone_losses m m' before behind links = omega arith

-- One base is split at most by attempts that did not do the call.
one_split : (z : Sizes) (adds : Option (List ℕ)) (u v : TreeView) → HasWaited z adds u v
    → v.splits ≤ u.splits + 1
one_split z adds u v h = ⊎_elim (λ (same : IsSameTree u v). let e = same.0 in omega arith)
    (λ (t : Grows 1 2 1 u v × HasRoomFor z adds v × ¬ HasRoomFor z adds u). t.0.splits_are) h

-- So a call is never refused for its turns, whose budget is two turns or more.
pub never_busy : {T : Type 0} (z : Sizes) (number budget : ℕ) (adds : Option (List ℕ)) (why : Cause)
    (o : Outcome T) (m m' : MyTree)
    (kept kept' : Vec Kept Global) → o ≡ outcome_by why → losses m' ≡ losses m
    → TurnsBySplits m.0.upper m'.0.upper
    → HasWaited z adds m.0.upper m'.0.upper → IsCaused z number budget adds why m kept m' kept'
    → 2 ≤ budget → IsNeverBusy o
never_busy {T} z number budget adds why o m m' kept kept' is lost turns waited h two =
    subst (λ (x : Outcome T). IsNeverBusy x) (sym is) (by why h)
  where
    by : (why : Cause) → IsCaused z number budget adds why m kept m' kept'
        → IsNeverBusy {T = T} (outcome_by why)
    by (cause.Busy spent) h = let one = one_split z adds m.0.upper m'.0.upper waited in
        let all = h.0 in let lost' = h.1 in let helped = h.2 in
        let passed = h.3 in let by_splits = turns.0 in let none_helped = turns.1 in
        absurd (omega arith)
    by (cause.Full full) h = tt
    by (cause.Deep level) h = tt
    by (cause.Worn counter) h = tt

-- By attempts that did not do the call the tree has two linked rows more, at most.
two_more : (z : Sizes) (adds : Option (List ℕ)) (u v : TreeView) → HasWaited z adds u v
    → length v.inventory.rows ≤ length u.inventory.rows + 2
two_more z adds u v h = ⊎_elim (λ (same : IsSameTree u v). let e =
    ap (λ (i : Inventory). length i.rows) same.1 in omega arith)
    (λ (t : Grows 1 2 1 u v × HasRoomFor z adds v × ¬ HasRoomFor z adds u). t.0.rows_are) h

-- There are few rows where such a call is refused for want of one: its last attempts began with
-- none kept, and kept one for a base that was split, at most.
pub refill_crowded : (z : Sizes) (number budget begun kept now : ℕ) (adds : Option (List ℕ))
    (spent : Spent) (why : Cause) (u : TreeView) (m n l : MyTree)
    (kept' : Vec Kept Global) → z.passes ≡ 1 → number ≡ 1 → begun ≡ kept
    → IsRefill z.passes number budget begun spent why n l kept'
    → HasCrowded {T = Unit {0}} (Err (halt.Stopped stop.Empty)) z.rows kept now m n
    → losses n ≡ losses m
    → HasWaited z adds m.0.upper n.0.upper → HasWaited z adds u n.0.upper → HasFewRows u
    → IsCrowdedCause z 11 u why
refill_crowded z number budget begun kept now adds spent (cause.Busy s) u m n l kept' one first same
    h crowd lost last all tree = tt
refill_crowded z number budget begun kept now adds spent (cause.Full full) u m n l kept' one first
    same h crowd lost last all tree =
    let none = never_lags z.passes number full.lag l.0.pin one first h.3 in
    let zero : begun ≡ 0 = ⊎_elim (λ e. e) (λ some. absurd (some none)) h.1 in
    let cut = one_split z adds m.0.upper n.0.upper last in
    let grown = two_more z adds u n.0.upper all in let few = crowd.0 in let rows = crowd.1 in
    (omega arith, tree)
refill_crowded z number budget begun kept now adds spent (cause.Deep level) u m n l kept' one first
    same h crowd lost last all tree = tt
refill_crowded z number budget begun kept now adds spent (cause.Worn counter) u m n l kept' one
    first same h crowd lost last all tree = tt

-- A call that is refused by what its last attempt came to, which found the rows that it wanted,
-- isn't refused for want of one.
pub refused_uncrowded : {T : Type 0} (z : Sizes) (more : ℕ) (u : TreeView) (tried : Result T Halt)
    (r : Result T Cause) (spent : Spent) (levels : ℕ)
    → r ≡ refused_as tried spent levels → IfErr r (λ why. IsCrowdedCause z more u why)
refused_uncrowded {T} z more u tried r spent levels is =
    subst (λ (x : Result T Cause). IfErr x (λ why. IsCrowdedCause z more u why)) (sym is) (by tried)
  where
    by : (tried : Result T Halt) → IfErr (refused_as tried spent levels)
        (λ why. IsCrowdedCause z more u why)
    by (Ok x) = tt
    by (Err (halt.Stopped (stop.Lost e))) = tt
    by (Err (halt.Stopped stop.Empty)) = tt
    by (Err (halt.Stopped stop.Worn)) = tt
    by (Err halt.Deep) = tt
    by (Err halt.Split) = tt
    by (Err halt.Helped) = tt

-- So it is of the call, by what it comes to.
pub crowded_call : {T : Type 0} (z : Sizes) (more : ℕ) (u : TreeView) (why : Cause) (o : Outcome T)
    → o ≡ outcome_by why → IsCrowdedCause z more u why
    → IsCrowdedCall z more u o
crowded_call {T} z more u why o is h = subst (λ (x : Outcome T). IsCrowdedCall z more u x) (sym is)
    (by why h)
  where
    by : (why : Cause) → IsCrowdedCause z more u why → IsCrowdedCall {T = T} z more u
        (outcome_by why)
    by (cause.Busy spent) h = tt
    by (cause.Full full) h = h
    by (cause.Deep level) h = tt
    by (cause.Worn counter) h = tt
