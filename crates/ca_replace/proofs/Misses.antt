-- Attempts of calls that read ranges, one behind another: what they met and learnt, and why such a
-- call is refused.
use Rattle.std.proofs.Common.{◌≡◌, ℕ, ◌≤◌, [], Vec, vec_len, Result, Ok, Err, inl, sym, refl, ap, ◌∙◌, subst, ⊎_elim, arith}
use Rattle.std.specs.declared.option.Option.TheVariants.{None as Nothing}
use Rattle.std.specs.Global.{Global}
use Rattle.ca_base.proofs.Counts.{met_both}
use Rattle.ca_base.specs.Counting.{HasMet, losses}
use Rattle.ca_base.specs.Progress.{IsFurther}
use Rattle.ca_model.specs.Event.{Event}
use Rattle.ca_model.specs.Answer.{IfDone, IfRefused}
use Rattle.ca_model.specs.Known.{Counts, one_more}
use Rattle.ca_model.specs.declared.outcome.Cause.{Cause}
use Rattle.ca_model.specs.declared.outcome.Cause.TheVariants as cause
use Rattle.ca_model.specs.declared.outcome.Counter.TheVariants as counter
use Rattle.ca_model.specs.declared.outcome.Outcome.{Outcome}
use Rattle.ca_model.specs.declared.outcome.Spent.{Spent}
use Rattle.ca_node.specs.Told.{IsKnown, MyTree, with_upper}
use Rattle.ca_node.specs.TreeView.{Note, TreeView, unpinned}
use Rattle.ca_replace.specs.Acts.{acts_of}
use Rattle.ca_replace.specs.declared.missing.Miss.{Miss}
use Rattle.ca_replace.specs.declared.missing.Miss.TheVariants as miss
use Rattle.ca_replace.specs.Attempting.{helps, passes, total, IsPaid}
use Rattle.ca_replace.specs.Bounded.{PinsNow}
use Rattle.ca_replace.specs.Causes.{GaveBack, HasBegun, HasPinned, IfCaused, IsCaused, IsRefill}
use Rattle.ca_range.specs.Snapshots.{IsThwarted}
use Rattle.ca_range.proofs.SnapshotSteps.{thwarted_after}
use Rattle.ca_replace.specs.Ranging.{HasMissed, HasMissedBy, HasRangedTo, IsRangeCaused, MayTryAgain, NeverVanishes, cause_of}
use Rattle.ca_replace.specs.Refusals.{outcome_by}
use Rattle.ca_replace.proofs.Between.{announced, left}
use Rattle.ca_replace.proofs.Causing.{HasSpentInAll, busy, refill_caused}
use Rattle.ca_replace.proofs.Counted.{none_paid, paid_both}
use Rattle.ca_replace.proofs.Meeting.{done_on, further_on}
use Rattle.ca_replace.proofs.Pacing.{now_on}
use Rattle.ca_replace.proofs.Turns.{known_unpinned}
use Rattle.ca_replace.proofs.Pinning.{pinned_as, pinned_once, pinned_still}
use Rattle.ca_replace.proofs.Waiting.{moved_further, moved_quiet}
use Rattle.ca_rows.specs.declared.kept.Kept.{Kept}
use Rattle.ca_rows.specs.declared.sizes.Sizes.{Sizes}
use Rattle.ca_rows.specs.declared.view.Pin.{Pin}

-- What was met by an attempt, behind others that met nothing.
missed_then : (Needs : Note → Type 0) (budget : ℕ) (spent : Spent) (why : Miss) (k m n : MyTree)
    → HasMet 0 0 k m
    → losses k ≤ losses m → passes k ≤ passes m → helps k ≤ helps m
    → HasMissed Needs budget spent why m n → HasMissed Needs budget spent why k n
missed_then Needs budget spent miss.Again k m n a more on help b = let turned = b.1 in
    (met_both 0 0 0 0 k m n a b.0, omega arith)
missed_then Needs budget spent miss.Busy k m n a more on help b = (
  met_both 0 0 0 0 k m n a b.0,
  b.1,
)
missed_then Needs budget spent miss.NoRow k m n a more on help b = met_both 0 0 1 0 k m n a b
missed_then Needs budget spent (miss.Worn counter.PoolTag) k m n a more on help b = met_both 0 0 0 1
    k m n a b
missed_then Needs budget spent (miss.Worn counter.Epoch) k m n a more on help b = absurd b
missed_then Needs budget spent (miss.Worn counter.Sequence) k m n a more on help b =
    (met_both 0 0 0 0 k m n a b.0, b.1, b.2)

pub missed_behind : {T : Type 0} (Needs : Note → Type 0) (budget : ℕ) (a spent : Spent)
    (r : Result T Miss) (before : Spent) (k m n : MyTree) → HasMet 0 0 k m
    → IsPaid a before k m → HasMissedBy Needs budget spent r m n → HasMissedBy Needs budget spent r
    k n
missed_behind Needs budget a spent (Ok x) before k m n met paid b = tt
missed_behind Needs budget a spent (Err why) before k m n met paid b =
    missed_then Needs budget spent why k m n met paid.more paid.more_passed paid.more_helped b

-- The pass unpinned behind it.
pub missed_left : (Needs : Note → Type 0) (budget : ℕ) (spent : Spent) (why : Miss) (k m n : MyTree)
    → n ≡ left m
    → HasMissed Needs budget spent why k m → HasMissed Needs budget spent why k n
missed_left Needs budget spent why k m n is h = subst (λ (x : MyTree). HasMissed Needs budget spent
    why k x) (sym is) (by why h)
  where
    by : (why : Miss) → HasMissed Needs budget spent why k m → HasMissed Needs budget spent why k
        (left m)
    by miss.Again h = h
    by miss.Busy h = h
    by miss.NoRow h = h
    by (miss.Worn counter.PoolTag) h = h
    by (miss.Worn counter.Epoch) h = h
    by (miss.Worn counter.Sequence) h = h

-- It had pinned before.
pub missed_pinned : {T : Type 0} (Needs : Note → Type 0) (budget : ℕ) (spent : Spent)
    (r : Result T Miss) (told moment : ℕ) (k m n : MyTree) → m ≡ announced told moment k
    → HasMissedBy Needs budget spent r m n → HasMissedBy Needs budget spent r k n
missed_pinned Needs budget spent r told moment k m n is h = let u = k.0.upper in
    let pin = (announced told moment k).0.pin in
    let q = moved_quiet k m pin u.seen [] [] (announced told moment k).0.upper.ranges is in
    missed_behind Needs budget spent spent r spent k m n q.met
    (none_paid spent k m q.lost q.same_turns) h

-- What was paid, of a pass that pinned before, and of one that unpinned then.
pub paid_pinned : (a b : Spent) (told moment : ℕ) (k m n : MyTree) → m ≡ announced told moment k
    → IsPaid a b m n → IsPaid a b k n
paid_pinned a b told moment k m n is paid = let u = k.0.upper in
    let pin = (announced told moment k).0.pin in
    let q = moved_quiet k m pin u.seen [] [] (announced told moment k).0.upper.ranges is in
    paid_both a a b k m n (none_paid a k m q.lost q.same_turns) paid

pub paid_left : (a b : Spent) (k m n : MyTree) → n ≡ left m → IsPaid a b k m → IsPaid a b k n
paid_left a b k m n is paid = let w = m.0.upper in
    let q = moved_quiet m n (left m).0.pin w.since [] [] (unpinned w).ranges is in
    paid_both a b b k m n paid (none_paid b m n q.lost q.same_turns)

-- What was tried after others that came to nothing.
pub ranged_on : {T : Type 0} (tells : T → TreeView → Event → Type 0) (z : Sizes) (r : Result T Miss)
    (u w v : TreeView) → IsFurther u w → acts_of w ≡ acts_of u → HasRangedTo tells z r w v
    → HasRangedTo tells z r u v
ranged_on tells z (Ok x) u w v f same h = (
  (h.0.0, h.0.1, done_on u w v h.0.0 f h.0.2),
  h.1,
  h.2
      ∙ same,
)
ranged_on tells z (Err why) u w v f same h = (further_on u w v f h.0, h.1, h.2 ∙ same)

-- The pass unpinned behind an attempt that came to nothing.
pub missed_further : (z : Sizes) (u v w : TreeView) → w ≡ unpinned v → IsFurther u v × IsKnown z v
    × (acts_of v ≡ acts_of u)
    → IsFurther u w × IsKnown z w × (acts_of w ≡ acts_of u)
missed_further z u v w same h = subst (λ (y : TreeView). IsFurther u y × IsKnown z y
    × (acts_of y ≡ acts_of u)) (sym same) (
      record { number = h.0.number; seen = h.0.seen; log = h.0.log; counts = h.0.counts },
      known_unpinned z v h.1,
      h.2,
    )

-- Where the last attempt refuses the call, which found the rows that it wanted, it has a cause:
-- others before it met nothing but empty heads, and behind it rows were given back.
module _ (Needs : Note → Type 0) (z : Sizes) (number budget : ℕ) (spent now : Spent)
    (m k n m' : MyTree) (kept kept' : Vec Kept Global)
    (worn : k.0.worn ≡ m.0.worn) (given : GaveBack n m') (more : total spent ≤ total now)
    (paid : HasSpentInAll now m m') where
  pub range_caused : (why : Miss) → (why ≡ miss.NoRow → ⊥)
      → (why ≡ miss.Again → budget ≤ total spent)
      → HasMissed Needs budget spent why k n → IsRangeCaused Needs z number budget
      (cause_of why now) m kept m' kept'
  range_caused miss.Again rows again h = let most = again refl in
      busy budget now m m' (omega arith) paid
  range_caused miss.Busy rows again h = let most = h.1 in busy budget now m m' (omega arith) paid
  range_caused miss.NoRow rows again h = absurd (rows refl)
  range_caused (miss.Worn counter.PoolTag) rows again h = let one = h.1 in let none = given.met.1 in
      omega arith
  range_caused (miss.Worn counter.Epoch) rows again h = absurd h
  range_caused (miss.Worn counter.Sequence) rows again h = (
    ap (λ (u : TreeView). u.ranges.sequence) given.upper ∙ h.1,
    subst (λ (u : TreeView). Needs u.last) (sym given.upper) h.2,
  )

-- So has a refusal once rows were given back, of an attempt that found the head empty.
pub refill_range_caused : (Needs : Note → Type 0) (z : Sizes) (number budget begun : ℕ)
    (why : Cause) (now : Spent) (m n m' : MyTree)
    (kept kept' : Vec Kept Global) → HasSpentInAll now m m' → HasBegun z.rows begun (vec_len kept) m
    m'
    → m.0.pin.looks ≤ n.0.pin.looks → IsRefill z.passes number budget begun now why n m' kept'
    → IsRangeCaused Needs z number budget why m kept m' kept'
refill_range_caused Needs z number budget begun why now m n m' kept kept' paid first before h =
    by why (refill_caused z number budget begun Nothing why now m n m' kept kept' paid first before
    h)
  where
    by : (why : Cause) → IsCaused z number budget Nothing why m kept m' kept'
        → IsRangeCaused Needs z number budget why m kept m' kept'
    by (cause.Busy spent) x = x
    by (cause.Full full) x = x
    by (cause.Deep level) x = absurd x.1.0.2
    by (cause.Worn counter.PoolTag) x = x
    by (cause.Worn counter.Epoch) x = x
    by (cause.Worn counter.Sequence) x = absurd x

-- An attempt may be made anew, behind others.
pub again_then : (V : MyTree → MyTree → Type 0) (a b : Spent) (why : Miss) (k m n : MyTree)
    → IsPaid a b k m → MayTryAgain NeverVanishes why m n
    → MayTryAgain V why k n
again_then V a b miss.Again k m n paid h =
    ⊎_elim (λ (t : IsThwarted m n). inl (thwarted_after k m n (record {
      lost = paid.more;
      helped = paid.more_helped;
      passed = paid.more_passed;
    }) t)) (λ (v : NeverVanishes m n). absurd v) h
again_then V a b miss.Busy k m n paid h = tt
again_then V a b miss.NoRow k m n paid h = tt
again_then V a b (miss.Worn which) k m n paid h = tt

-- A call that needs more than a base may need more than such a one.
pub range_needs : (P Q : Note → Type 0) → ((note : Note) → P note → Q note)
    → (z : Sizes) (number budget : ℕ) (why : Cause) (m m' : MyTree)
    (kept kept' : Vec Kept Global) → IsRangeCaused P z number budget why m kept m' kept'
    → IsRangeCaused Q z number budget why m kept m' kept'
range_needs P Q f z number budget (cause.Busy spent) m m' kept kept' h = h
range_needs P Q f z number budget (cause.Full full) m m' kept kept' h = h
range_needs P Q f z number budget (cause.Deep level) m m' kept kept' h = h
range_needs P Q f z number budget (cause.Worn counter.PoolTag) m m' kept kept' h = h
range_needs P Q f z number budget (cause.Worn counter.Epoch) m m' kept kept' h = h
range_needs P Q f z number budget (cause.Worn counter.Sequence) m m' kept kept' h =
    (h.0, f m'.0.upper.last h.1)

pub missed_needs : (P Q : Note → Type 0) → ((note : Note) → P note → Q note)
    → (budget : ℕ) (spent : Spent) (why : Miss) (m m' : MyTree)
    → HasMissed P budget spent why m m' → HasMissed Q budget spent why m m'
missed_needs P Q f budget spent miss.Again m m' h = h
missed_needs P Q f budget spent miss.Busy m m' h = h
missed_needs P Q f budget spent miss.NoRow m m' h = h
missed_needs P Q f budget spent (miss.Worn counter.PoolTag) m m' h = h
missed_needs P Q f budget spent (miss.Worn counter.Epoch) m m' h = h
missed_needs P Q f budget spent (miss.Worn counter.Sequence) m m' h =
    (h.0, h.1, f m'.0.upper.last h.2)

-- What is known of a refusal is so still once it is counted.
module _ (m m' m'' : MyTree) (counts : Counts) (kept kept' kept'' : Vec Kept Global)
    (counted : m'' ≡ with_upper m' (record m'.0.upper { counts = counts }))
    (same : kept'' ≡ kept') where
  as_counted : (P : MyTree → Vec Kept Global → Type 0)
      → P (with_upper m' (record m'.0.upper { counts = counts })) kept' → P m'' kept''
  as_counted P h = subst (λ (x : MyTree × Vec Kept Global). P x.0 x.1)
      (λ i. (sym counted i, sym same i)) h

  pub range_still : (Needs : Note → Type 0) (z : Sizes) (number budget : ℕ) (why : Cause)
      → IsRangeCaused Needs z number budget why m kept m' kept' → IsRangeCaused Needs z number
      budget why m kept m'' kept''
  range_still Needs z number budget (cause.Busy spent) h = as_counted
      (λ x k. IsRangeCaused Needs z number budget (cause.Busy spent) m kept x k) h
  range_still Needs z number budget (cause.Full full) h = as_counted
      (λ x k. IsRangeCaused Needs z number budget (cause.Full full) m kept x k) h
  range_still Needs z number budget (cause.Deep level) h = absurd h
  range_still Needs z number budget (cause.Worn counter.PoolTag) h = as_counted
      (λ x k. IsRangeCaused Needs z number budget (cause.Worn counter.PoolTag) m kept x k) h
  range_still Needs z number budget (cause.Worn counter.Epoch) h = as_counted
      (λ x k. IsRangeCaused Needs z number budget (cause.Worn counter.Epoch) m kept x k) h
  range_still Needs z number budget (cause.Worn counter.Sequence) h = as_counted
      (λ x k. IsRangeCaused Needs z number budget (cause.Worn counter.Sequence) m kept x k) h

-- What holds of a refusal's cause holds of what the call comes to.
pub if_caused_by : {T : Type 0} (P : Cause → Type 0) (why : Cause) (o : Outcome T)
    → o ≡ outcome_by why → P why → IfCaused o P
if_caused_by {T} P why o is h = subst (λ (x : Outcome T). IfCaused x P) (sym is) (by why h)
  where
    by : (why : Cause) → P why → IfCaused {T = T} (outcome_by why) P
    by (cause.Busy spent) h = h
    by (cause.Full full) h = h
    by (cause.Deep level) h = h
    by (cause.Worn counter) h = h

pub if_refused_by : {T : Type 0} (P : (Counts → Counts) → Type 0) (why : Cause) (o : Outcome T)
    → o ≡ outcome_by why → P (one_more why)
    → IfRefused o P
if_refused_by {T} P why o is h = subst (λ (x : Outcome T). IfRefused x P) (sym is) (by why h)
  where
    by : (why : Cause) → P (one_more why) → IfRefused {T = T} (outcome_by why) P
    by (cause.Busy spent) h = h
    by (cause.Full full) h = h
    by (cause.Deep level) h = h
    by (cause.Worn counter) h = h

-- A refusal isn't done.
pub if_not_done : {T : Type 0} (P : T → Type 0) (why : Cause) (o : Outcome T) → o ≡ outcome_by why
    → IfDone o P
if_not_done {T} P why o is = subst (λ (x : Outcome T). IfDone x P) (sym is) (by why)
  where
    by : (why : Cause) → IfDone {T = T} (outcome_by why) P
    by (cause.Busy spent) = tt
    by (cause.Full full) = tt
    by (cause.Deep level) = tt
    by (cause.Worn counter) = tt

-- It pinned once, and is pinned so still behind an attempt, and once it unpinned.
pub pinned_by : (told moment : ℕ) (k m n : MyTree) → m ≡ announced told moment k → n.0.pin ≡ m.0.pin
    → HasPinned k n
pinned_by told moment k m n is same = pinned_as k m n
    (pinned_once k m (ap (λ (x : MyTree). x.0.pin.lags) is)
    (ap (λ (x : MyTree). x.0.pin.looks) is) (ap (λ (x : MyTree). x.0.pin.entered.lags) is)
    (ap (λ (x : MyTree). x.0.pin.begun_at) is) (ap (λ (x : MyTree). x.0.pin.begun) is)) same

pub now_by : (told moment : ℕ) (k m n : MyTree) → m ≡ announced told moment k → n.0.pin ≡ m.0.pin
    → PinsNow k n
now_by told moment k m n is same = now_on k m n (
  ap (λ (x : MyTree). x.0.pin.pins) is,
  ap (λ (x : MyTree). x.0.pin.entered.empty) is,
)
    (ap (λ (e : Pin). e.pins) same) (ap (λ (e : Pin). e.entered) same)

pub now_left : (k m n : MyTree) → n ≡ left m → PinsNow k m → PinsNow k n
now_left k m n is h = now_on k m n h (ap (λ (x : MyTree). x.0.pin.pins) is)
    (ap (λ (x : MyTree). x.0.pin.entered) is)

pub pinned_left : (k m n : MyTree) → n ≡ left m → HasPinned k m → HasPinned k n
pinned_left k m n is h = pinned_still k m n h (ap (λ (x : MyTree). x.0.pin.lags) is)
    (ap (λ (x : MyTree). x.0.pin.looks) is)
    (ap (λ (x : MyTree). x.0.pin.entered.lags) is) (ap (λ (x : MyTree). x.0.pin.begun_at) is)
    (ap (λ (x : MyTree). x.0.pin.begun) is)

-- What a pass had seen as it pinned.
pub further_pinned : (told moment : ℕ) (k m : MyTree) → m ≡ announced told moment k
    → IsFurther k.0.upper m.0.upper
further_pinned told moment k m is = let u = k.0.upper in
    moved_further k m (announced told moment k).0.pin u.seen [] []
    (announced told moment k).0.upper.ranges is
