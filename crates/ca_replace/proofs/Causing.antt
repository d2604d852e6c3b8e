-- What was lost is counted, and why calls are refused.
use Rattle.std.proofs.Common.{◌≡◌, ◌≢◌, ◌⊎◌, ◌↔◌, IsTrue, vec_len, ◌∙◌, ℕ, ◌+◌, ◌-◌, ◌*◌, ◌<◌, ◌≤◌, min, Bool, true, false, List, Vec, Result, Ok, Err, IfErr, ap, sym, subst, refl, inl, inr, ⊎_elim, arith}
use Rattle.std.specs.Global.{Global}
use Rattle.ca_base.specs.declared.stop.Stop.TheVariants as stop
use Rattle.ca_replace.specs.declared.attempting.Halt.{Halt}
use Rattle.ca_replace.specs.declared.attempting.Halt.TheVariants as halt
use Rattle.ca_model.specs.declared.outcome.Spent.{Spent}
use Rattle.ca_model.specs.declared.outcome.Outcome.{Outcome}
use Rattle.ca_node.specs.Told.{MyTree, with_upper}
use Rattle.ca_node.specs.TreeView.{TreeView}
use Rattle.ca_model.specs.declared.outcome.Counter.TheVariants as counter
use Rattle.ca_model.specs.declared.outcome.Cause.{Cause}
use Rattle.ca_model.specs.declared.outcome.Cause.TheVariants as cause
use Rattle.std.specs.declared.option.Option.{Option}
use Rattle.std.specs.declared.option.Option.TheVariants.{None as Nothing, Some as Just}
use Rattle.ca_base.specs.Counting.{losses}
use Rattle.ca_model.specs.Answer.{IfBusy}
use Rattle.ca_model.specs.Known.{Counts}
use Rattle.ca_replace.specs.Attempting.{HasNext, helps, passes, total, IsPaid, IfDeep, refused_as}
use Rattle.ca_replace.specs.Causes.{HasBegun, IsCaused, IsFullSince, IsRefill, IsUnspent, IfCaused, KeepsFew}
use Rattle.ca_replace.specs.Refusals.{outcome_by}
use Rattle.ca_rows.specs.declared.kept.Kept.{Kept}
use Rattle.ca_rows.specs.declared.sizes.Sizes.{Sizes}

-- Where rows were given back and the epoch isn't the cause, none is kept or an exchange was lost.
pub none_or_lost : (lost : Bool) (losses before after budget kept kept' : ℕ)
    → (IsTrue lost ↔ (0 < losses)) → after < budget → budget ≤ 4294967295
    → after ≡ min (before + losses) 4294967295 → kept ≡ kept' → (lost ≡ false → kept ≡ 0)
    → (kept' ≡ 0) ⊎ (before < after)
none_or_lost true losses before after budget kept kept' some room most sum is none =
    let more = some.0 refl in inr (omega (arith, sum))
none_or_lost false losses before after budget kept kept' some room most sum is none =
    let n = none refl in inl (omega (arith, is, n))

-- The same, by the exchanges that were lost.
pub none_or_more : (lost : Bool) (more kept : ℕ) → (IsTrue lost ↔ (0 < more))
    → (lost ≡ false → kept ≡ 0) → (kept' : ℕ) → kept ≡ kept' → (m m' : MyTree)
    → m'.0.lost ≡ m.0.lost + more → m'.0.upper ≡ m.0.upper → (kept' ≡ 0) ⊎ (losses m < losses m')
none_or_more true more kept some none kept' is m m' sum same = let up = some.0 refl in
    let links = ap (λ (u : TreeView). u.lost) same in inr (omega arith)
none_or_more false more kept some none kept' is m m' sum same = let n = none refl in
    inl (omega arith)

-- Each turn of the attempts brings their end nearer: fewer turns are left to be lost, or no row is
-- kept any more.
pub nearer : (budget before middle after kept kept' : ℕ) → before ≤ middle → middle ≤ after
    → (0 < kept) × (after < budget) × ((kept' ≡ 0) ⊎ (middle < after))
    → 2 * (budget - after) + min kept' 1 < 2 * (budget - before) + min kept 1
nearer budget before middle after kept kept' a b again = let some = again.0 in let room = again.1 in
    ⊎_elim
    (λ (e : kept' ≡ 0).
    let less : 2 * (budget - after) + min kept' 1 < 2 * (budget - before) + min kept 1 =
    omega (arith, e) in less)
    (λ (l : middle < after).
    let less : 2 * (budget - after) + min kept' 1 < 2 * (budget - before) + min kept 1 =
    omega arith in less) again.2

-- By the end of a call it has spent this in all since it began, when it had spent nothing.
pub record HasSpentInAll (now : Spent) (m m' : MyTree) : Type 0 where
  pub spent : Spent
  pub none : (spent.lost ≡ 0) × (spent.helped ≡ 0) × (spent.passed ≡ 0)
  pub counted : IsPaid spent now m m'

-- What a call's last attempt tells of its end, which found the rows that it wanted.
pub record EndsSo {T : Type 0} (z : Sizes) (budget : ℕ) (adds : Option (List ℕ))
    (tried : Result T Halt) (now : Spent) (m m' : MyTree) : Type 0 where
  pub full : tried ≡ Err (halt.Stopped stop.Empty) → ⊥
  pub deep : tried ≡ Err halt.Deep → IsFullSince z adds m'.0.upper
  pub lost : HasNext tried → budget ≤ total now
  pub paid : (why : Halt) → tried ≡ Err why → HasSpentInAll now m m'
  pub worn : tried ≡ Err (halt.Stopped stop.Worn) → m'.0.worn ≡ m.0.worn + 1

-- A call that is refused for the turns that it spent.
pub busy : (budget : ℕ) (now : Spent) (m m' : MyTree) → budget ≤ total now → HasSpentInAll now m m'
    → (budget ≤ total now) × (now.lost ≡ min 4294967295 (losses m' - losses m))
    × (now.helped ≡ min 4294967295 (helps m' - helps m))
    × (now.passed ≡ min 4294967295 (passes m' - passes m))
busy budget now m m' enough paid = let none = paid.none in let counted = paid.counted in
    let zero = none.0 in let zero' = none.1 in let zero'' = none.2 in (
      enough,
      (let sum = counted.lost (omega arith) in omega arith),
      (let sum = counted.helped (omega arith) in omega arith),
      (let sum = counted.passed (omega arith) in omega arith),
    )

-- Where the last attempt refuses the call, it has a cause.
caused : {T : Type 0} (z : Sizes) (number budget : ℕ) (adds : Option (List ℕ))
    (tried : Result T Halt) (now : Spent) (levels : ℕ) (m m' : MyTree)
    (kept kept' : Vec Kept Global) → levels ≡ z.levels → EndsSo z budget adds tried now m m'
    → IfErr (refused_as tried now levels) (λ why. IsCaused z number budget adds why m kept m' kept')
caused z number budget adds (Ok x) now levels m m' kept kept' same e = tt
caused z number budget adds (Err (halt.Stopped (stop.Lost x))) now levels m m' kept kept' same e =
    busy budget now m m' (e.lost tt) (e.paid _ refl)
caused z number budget adds (Err (halt.Stopped stop.Empty)) now levels m m' kept kept' same e =
    absurd (e.full refl)
caused z number budget adds (Err (halt.Stopped stop.Worn)) now levels m m' kept kept' same e =
    e.worn refl
caused z number budget adds (Err halt.Deep) now levels m m' kept kept' same e =
    (same, e.deep refl)
caused z number budget adds (Err halt.Split) now levels m m' kept kept' same e =
    busy budget now m m' (e.lost tt) (e.paid _ refl)
caused z number budget adds (Err halt.Helped) now levels m m' kept kept' same e =
    busy budget now m m' (e.lost tt) (e.paid _ refl)

-- So the call is refused, given what was spent, and how many levels there are.
abbrev pub HasRefused : {T : Type 0} → Sizes → Result T Halt → Spent → Result T Cause → Type 0
HasRefused z tried now r = (levels : ℕ) × (r ≡ refused_as tried now levels) × (levels ≡ z.levels)

-- So it has by what the call comes to then.
pub caused_as : {T : Type 0} (z : Sizes) (number budget : ℕ) (adds : Option (List ℕ))
    (tried : Result T Halt) (r : Result T Cause) (now : Spent)
    (m m' : MyTree) (kept kept' : Vec Kept Global) → HasRefused z tried now r
    → EndsSo z budget adds tried now m m'
    → IfErr r (λ why. IsCaused z number budget adds why m kept m' kept')
caused_as z number budget adds tried r now m m' kept kept' refused e =
    subst (λ x. IfErr x (λ why. IsCaused z number budget adds why m kept m' kept')) (sym refused.1)
    (caused z number budget adds tried now refused.0 m m' kept kept' refused.2 e)

-- What was added up is less than the budget, and so are the exchanges that were lost and the
-- splits.
pub unspent : (budget : ℕ) (now : Spent) (m m' : MyTree) → HasSpentInAll now m m'
    → total now < budget
    → IsUnspent budget m m'
unspent budget now m m' paid room = let none = paid.none in let counted = paid.counted in
    let zero = none.0 in let zero' = none.1 in let zero'' = none.2 in
    let lost = counted.lost (omega arith) in let helped = counted.helped (omega arith) in
    let passed = counted.passed (omega arith) in omega arith

-- So has a refusal once rows were given back, of an attempt that found the head empty: the first
-- one, or one behind another that did so.
pub refill_caused : (z : Sizes) (number budget begun : ℕ) (adds : Option (List ℕ)) (why : Cause)
    (now : Spent) (m n m' : MyTree)
    (kept kept' : Vec Kept Global)
    → HasSpentInAll now m m' → HasBegun z.rows begun (vec_len kept) m m'
    → m.0.pin.looks ≤ n.0.pin.looks → IsRefill z.passes number budget begun now why n m' kept'
    → IsCaused z number budget adds why m kept m' kept'
refill_caused z number budget begun adds (cause.Busy s) now m n m' kept kept' paid first before
    h =
    subst (λ (x : Spent). (budget ≤ total x) × (x.lost ≡ min 4294967295 (losses m' - losses m))
    × (x.helped ≡ min 4294967295 (helps m' - helps m))
    × (x.passed ≡ min 4294967295 (passes m' - passes m))) (sym h.0)
    (let none = paid.none in let counted = paid.counted in let zero = none.0 in
    let zero' = none.1 in let zero'' = none.2 in let same = h.0 in
    let enough : budget ≤ total now = subst (λ (x : Spent). budget ≤ total x) same h.1 in (
      enough,
      (let sum = counted.lost (omega arith) in omega arith),
      (let sum = counted.helped (omega arith) in omega arith),
      (let sum = counted.passed (omega arith) in omega arith),
    ))
refill_caused z number budget begun adds (cause.Full full) now m n m' kept kept' paid first
    before h = (
      subst (λ k. HasBegun z.rows k (vec_len kept) m m') (sym h.0) first,
      ⊎_elim (λ (e : begun ≡ 0). inl (h.0 ∙ e)) (λ (l : full.lag ≢ Nothing). inr l) h.1,
      (let more = h.2 in omega arith),
      h.3,
      unspent budget now m m' paid h.4,
    )
refill_caused z number budget begun adds (cause.Deep level) now m n m' kept kept' paid first
    before h = absurd h
refill_caused z number budget begun adds (cause.Worn counter.PoolTag) now m n m' kept kept' paid
    first before h = absurd h
refill_caused z number budget begun adds (cause.Worn counter.Epoch) now m n m' kept kept' paid
    first before h = (
      (begun, h.4, first),
      (let more = h.0 in omega arith),
      h.1,
      h.2,
      h.5,
      unspent budget now m m' paid h.3,
    )
refill_caused z number budget begun adds (cause.Worn counter.Sequence) now m n m' kept kept' paid
    first before h = absurd h

-- What is known of a refusal is so still once it is counted.
module _ (m m' m'' : MyTree) (counts : Counts) (kept kept' kept'' : Vec Kept Global)
    (counted : m'' ≡ with_upper m' (record m'.0.upper { counts = counts }))
    (same : kept'' ≡ kept') where
  as_counted : (P : MyTree → Vec Kept Global → Type 0)
      → P (with_upper m' (record m'.0.upper { counts = counts })) kept' → P m'' kept''
  as_counted P h = subst (λ (x : MyTree × Vec Kept Global). P x.0 x.1)
      (λ i. (sym counted i, sym same i)) h

  pub caused_still : {T : Type 0} (z : Sizes) (number budget : ℕ) (adds : Option (List ℕ))
      (why : Cause) (o : Outcome T) → o ≡ outcome_by why
      → IsCaused z number budget adds why m kept m' kept'
      → IfCaused o (λ why. IsCaused z number budget adds why m kept m'' kept'')
  caused_still {T} z number budget adds why o is h = subst
      (λ (x : Outcome T). IfCaused x (λ y. IsCaused z number budget adds y m kept m'' kept''))
      (sym is) (by why h)
    where
      by : (why : Cause) → IsCaused z number budget adds why m kept m' kept'
          → IfCaused {T = T} (outcome_by why)
          (λ y. IsCaused z number budget adds y m kept m'' kept'')
      by (cause.Busy spent) h = as_counted
          (λ x k. IsCaused z number budget adds (cause.Busy spent) m kept x k) h
      by (cause.Full full) h = as_counted
          (λ x k. IsCaused z number budget adds (cause.Full full) m kept x k) h
      by (cause.Deep level) h = as_counted
          (λ x k. IsCaused z number budget adds (cause.Deep level) m kept x k) h
      by (cause.Worn counter.PoolTag) h = as_counted
          (λ x k. IsCaused z number budget adds (cause.Worn counter.PoolTag) m kept x k) h
      by (cause.Worn counter.Epoch) h = as_counted
          (λ x k. IsCaused z number budget adds (cause.Worn counter.Epoch) m kept x k) h
      by (cause.Worn counter.Sequence) h = absurd h

  pub few_still : KeepsFew m m' kept' → KeepsFew m m'' kept''
  few_still h = as_counted (λ x k. KeepsFew m x k) h

-- A call that is refused for want of levels may add a key.
pub deep_adds : {T : Type 0} (z : Sizes) (number budget : ℕ) (adds : Option (List ℕ))
    (why : Cause) (o : Outcome T) (m m' : MyTree)
    (kept kept' : Vec Kept Global) → o ≡ outcome_by why
    → IsCaused z number budget adds why m kept m' kept' → IfDeep o (adds ≢ Nothing)
deep_adds {T} z number budget adds why o m m' kept kept' is h = subst
    (λ (x : Outcome T). IfDeep x (adds ≢ Nothing)) (sym is) (by why h)
  where
    adds_one : (a : Option (List ℕ)) → IsFullSince z a m'.0.upper → a ≢ Nothing
    adds_one Nothing full = absurd full.0.2
    adds_one (Just key) full = λ e. cc

    by : (why : Cause) → IsCaused z number budget adds why m kept m' kept'
        → IfDeep {T = T} (outcome_by why) (adds ≢ Nothing)
    by (cause.Busy spent) h = tt
    by (cause.Full full) h = tt
    by (cause.Deep level) h = adds_one adds h.1
    by (cause.Worn counter) h = tt

-- One that is busy spent its budget.
pub busy_spent : {T : Type 0} (z : Sizes) (number budget : ℕ) (adds : Option (List ℕ)) (why : Cause)
    (o : Outcome T) (m m' : MyTree)
    (kept kept' : Vec Kept Global) → o ≡ outcome_by why → IsCaused z number budget adds why m kept
    m' kept'
    → IfBusy o (λ spent. budget ≤ spent)
busy_spent {T} z number budget adds why o m m' kept kept' is h =
    subst (λ (x : Outcome T). IfBusy x (λ spent. budget ≤ spent)) (sym is) (by why h)
  where
    by : (why : Cause) → IsCaused z number budget adds why m kept m' kept'
        → IfBusy {T = T} (outcome_by why) (λ spent. budget ≤ spent)
    by (cause.Busy spent) h = h.0
    by (cause.Full full) h = tt
    by (cause.Deep level) h = tt
    by (cause.Worn counter) h = tt

-- Few rows are kept, as seen from a moment before.
pub few_from : (k m m' : MyTree) (kept : Vec Kept Global) → k.0.pin.looks ≤ m.0.pin.looks
    → KeepsFew m m' kept → KeepsFew k m' kept
few_from k m m' kept looks few = ⊎_elim inl
    (λ rest. let more = rest.0 in inr (omega arith, rest.1)) few
