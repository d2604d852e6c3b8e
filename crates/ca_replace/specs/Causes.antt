-- Why calls are refused, and which rows a pass keeps behind a call.
use Rattle.std.specs.Prelude.{◌≡◌, ◌≢◌, ◌⊎◌, ◌↔◌, IsTrue, false, ℕ, ◌+◌, ◌-◌, ◌<◌, ◌≤◌, min, List, [], Vec, vec_len, length}
use Rattle.std.specs.declared.option.Option.{Option}
use Rattle.std.specs.declared.option.Option.TheVariants.{None, Some}
use Rattle.std.specs.Global.{Global}
use Rattle.ca_model.specs.declared.outcome.Counter.TheVariants as counter
use Rattle.ca_model.specs.declared.outcome.Outcome.{Outcome}
use Rattle.ca_model.specs.declared.outcome.Outcome.TheVariants as outcome
use Rattle.ca_model.specs.declared.outcome.Spent.{Spent}
use Rattle.ca_base.specs.Counting.{losses, HasMet}
use Rattle.ca_model.specs.History.{after}
use Rattle.ca_model.specs.StoreMap.{StoreMap, IsFound}
use Rattle.ca_node.specs.Inventory.{IsListed}
use Rattle.ca_node.specs.Place.{HasKey, part}
use Rattle.ca_node.specs.States.{IsAlone, OfSomeState}
use Rattle.ca_node.specs.Told.{MyTree}
use Rattle.ca_node.specs.TreeView.{Note, TreeView}
use Rattle.ca_replace.specs.Attempting.{helps, passes, total}
use Rattle.ca_replace.specs.Bounded.{PinsNever}
use Rattle.ca_replace.specs.Resting.{StoreView}
use Rattle.ca_model.specs.declared.outcome.Cause.{Cause}
use Rattle.ca_model.specs.declared.outcome.Cause.TheVariants as cause
use Rattle.ca_rows.specs.declared.kept.Kept.{Kept}
use Rattle.ca_rows.specs.declared.sizes.Sizes.{Sizes}
use Rattle.ca_rows.specs.declared.space.Pass.{Pass}
use Rattle.ca_rows.specs.declared.space.Space.{Space}
use Rattle.ca_rows.specs.declared.view.Claimed.{Claimed}
use Rattle.ca_rows.specs.Kept.{AreKept}
use Rattle.ca_rows.specs.declared.reclaimed.Reclaimed.{Reclaimed}
use Rattle.ca_rows.specs.Reclaiming.{IsLag, lag_count, Reclaims}
use Rattle.ca_rows.specs.Told.{IsOnly}
use Rattle.ca_rows.specs.Layout.{last_epoch}

-- From one of these moments to the other the pass began a look at the others. What it knows then of a pass that lags, and of the epoch, is of its last look.
abbrev pub HasLooked : MyTree → MyTree → Type 0
HasLooked m m' = m.0.pin.looks < m'.0.pin.looks

-- A call with this budget whose attempt began with so many rows kept is refused so, once rows were given back and these turns were spent.
abbrev pub IsRefill : ℕ → ℕ → ℕ → ℕ → Spent → Cause → MyTree → MyTree → Vec Kept Global → Type 0
-- Its turns were lost.
IsRefill passes number budget begun spent (cause.Busy s) m m' kept' = (s ≡ spent) × (budget ≤ total s)
-- The budget isn't spent. The attempt began with no row kept, or another pass lagged.
IsRefill passes number budget begun spent (cause.Full full) m m' kept' = (full.kept ≡ begun) × ((begun ≡ 0) ⊎ (full.lag ≢ None))
    × HasLooked m m' × IsLag passes number full.lag m'.0.pin × (total spent < budget)
IsRefill passes number budget begun spent (cause.Deep level) m m' kept' = ⊥
-- Neither is the budget spent, nor did the attempt begin with no row kept, nor does a pass lag. The epoch was at its last value, and rows are kept.
IsRefill passes number budget begun spent (cause.Worn counter.Epoch) m m' kept' = HasLooked m m' × (last_epoch ≤ m'.0.pin.scan)
    × (0 < vec_len kept') × (total spent < budget) × (0 < begun) × (m'.0.pin.lag ≡ 0)
IsRefill passes number budget begun spent (cause.Worn counter.PoolTag) m m' kept' = ⊥
IsRefill passes number budget begun spent (cause.Worn counter.Sequence) m m' kept' = ⊥

-- So it is of a pass of this space.
abbrev pub IsRefillBy : {R : Type 0} → Space R TreeView → ℕ → ℕ → Spent → Cause → Pass R TreeView → Pass R TreeView → Type 0
IsRefillBy space budget begun spent why pass new =
    IsRefill space.table.shared.key.passes pass.number budget begun spent why pass.seat.me new.seat.me new.kept.rows

-- Of the rows that are noted so, a seat kept so many.
abbrev pub HasKept : ℕ → List Claimed → ℕ → Type 0
HasKept rows claims count = (kept : Vec Kept Global) × AreKept rows claims kept × (count ≡ vec_len kept)

-- An attempt that found the head empty began with so many rows kept: it was the first one, and so many were kept as the call began; or the head had
-- been found empty before, by a call that had begun with rows kept, and so many were kept as the pass pinned first behind the giving back that
-- followed: none, unless an exchange was lost.
abbrev pub HasBegun : ℕ → ℕ → ℕ → MyTree → MyTree → Type 0
HasBegun rows begun kept m m' = ((begun ≡ kept) × (m'.0.empty ≡ m.0.empty + 1)) ⊎ ((m.0.empty + 2 ≤ m'.0.empty) × (0 < kept)
    × ((begun ≡ 0) ⊎ (losses m < losses m')) × HasKept rows m'.0.pin.begun begun)

-- The budget isn't spent, by the exchanges that were lost, the operations of others that were helped, and the other turns.
abbrev pub IsUnspent : ℕ → MyTree → MyTree → Type 0
IsUnspent budget m m' = min 4294967295 (losses m' - losses m) + min 4294967295 (helps m' - helps m) + min 4294967295 (passes m' - passes m) < budget

-- So it was as the pass unpinned last, whatever was lost as rows were given back then.
abbrev pub WasUnspent : ℕ → MyTree → MyTree → Type 0
WasUnspent budget m m' = min 4294967295 (m'.0.pin.left.lost + m'.0.upper.lost - losses m) + min 4294967295 (helps m' - helps m)
    + min 4294967295 (passes m' - passes m) < budget

-- A call that may add this key, if any, finds no room in this base, given the map: no object of the map has the key, it is led to the base, which stands
-- at the last level, and of the keys that are led there the map has as many objects as a base may have.
abbrev pub IsFull : Sizes → Option (List ℕ) → Note → StoreMap → Type 0
IsFull z None base map = ⊥
IsFull z (Some key) base map = IsFound map key None × HasKey base.place.span key × (z.levels ≤ base.place.level)
    × (z.leaf ≤ length (part base.place.span map))

-- So it is by a state since the last pin, and the base that was shown last. Where the pass is alone that is a base of the tree, at a level no greater than the
-- number of splits that the pass carried out, and so it is by the last state.
abbrev pub IsFullSince : Sizes → Option (List ℕ) → TreeView → Type 0
IsFullSince z adds u = OfSomeState u (λ map. IsFull z adds u.last map)
    × (IsAlone z u → IsListed u.inventory u.last × (u.last.place.level ≤ u.splits) × IsFull z adds u.last (after u.seen []))

-- A call with this budget that may add this key, if any, may be refused so, given what its pass knew and kept before it and what it knows and keeps behind it.
abbrev pub IsCaused : Sizes → ℕ → ℕ → Option (List ℕ) → Cause → MyTree → Vec Kept Global → MyTree → Vec Kept Global → Type 0
-- So many exchanges were lost in this call, so many operations of others were helped, and so many turns were other ones.
IsCaused z number budget adds (cause.Busy spent) m kept m' kept' = (budget ≤ total spent) × (spent.lost ≡ min 4294967295 (losses m' - losses m))
    × (spent.helped ≡ min 4294967295 (helps m' - helps m)) × (spent.passed ≡ min 4294967295 (passes m' - passes m))
-- The last attempt found the head empty, and the budget isn't spent. It began with no row kept, or another pass lagged as rows were given back in this call.
IsCaused z number budget adds (cause.Full full) m kept m' kept' = HasBegun z.rows full.kept (vec_len kept) m m' × ((full.kept ≡ 0) ⊎ (full.lag ≢ None))
    × HasLooked m m' × IsLag z.passes number full.lag m'.0.pin × IsUnspent budget m m'
-- By a state since the last pin the key is a new one, and there is no room for it in the base that was shown last, at the last level.
IsCaused z number budget adds (cause.Deep level) m kept m' kept' = (level ≡ z.levels) × IsFullSince z adds m'.0.upper
-- The head's tag was at its last value as a row was to be taken.
IsCaused z number budget adds (cause.Worn counter.PoolTag) m kept m' kept' = m'.0.worn ≡ m.0.worn + 1
-- The last attempt found the head empty, and neither is the budget spent, nor did it begin with no row kept, nor does a pass lag. The epoch was at its
-- last value as rows were given back in this call, and rows are kept.
IsCaused z number budget adds (cause.Worn counter.Epoch) m kept m' kept' = ((begun : ℕ) × (0 < begun) × HasBegun z.rows begun (vec_len kept) m m')
    × HasLooked m m' × (last_epoch ≤ m'.0.pin.scan) × (0 < vec_len kept') × (m'.0.pin.lag ≡ 0) × IsUnspent budget m m'
IsCaused z number budget adds (cause.Worn counter.Sequence) m kept m' kept' = ⊥

-- So it is of a call of this pass, by what it was before the call and what it is behind it.
abbrev pub IsCausedBy : {R : Type 0} → Space R TreeView → ℕ → Option (List ℕ) → Cause → Pass R TreeView → Pass R TreeView → Type 0
IsCausedBy space budget adds why pass new = IsCaused space.table.shared.key pass.number budget adds why pass.seat.me pass.kept.rows new.seat.me new.kept.rows

-- Where the call is refused, this holds of the refusal.
abbrev pub IfCaused : {T : Type 0} → Outcome T → (Cause → Type 0) → Type 0
IfCaused (outcome.Done x) P = Unit {0}
IfCaused (outcome.Busy spent) P = P (cause.Busy spent)
IfCaused (outcome.Full full) P = P (cause.Full full)
IfCaused (outcome.Deep level) P = P (cause.Deep level)
IfCaused (outcome.Worn counter) P = P (cause.Worn counter)

-- The pass keeps at most 64 rows; or else, as it last gave rows back in this call, which it did once it had unpinned, another pass lagged, or an
-- exchange was lost, or the epoch was at its last value.
abbrev pub KeepsFew : MyTree → MyTree → Vec Kept Global → Type 0
KeepsFew m m' kept = (vec_len kept ≤ 64) ⊎ (HasLooked m m' × ((0 < m'.0.pin.lag) ⊎ (m'.0.pin.left.lost < m'.0.lost) ⊎ (last_epoch ≤ m'.0.pin.scan)))

-- As rows were given back a pass was found to lag once at most; the pass didn't pin.
abbrev pub LagsOnce : MyTree → MyTree → Type 0
LagsOnce m m' = (m'.0.pin.lags ≤ m.0.pin.lags + 1) × (m'.0.pin.entered ≡ m.0.pin.entered) × (m'.0.pin.begun ≡ m.0.pin.begun)
    × (m'.0.pin.begun_at ≡ m.0.pin.begun_at)

-- Rows were given back by a look at the others, or by three at most, which answered so.
pub record HasGiven (passes number : ℕ) (answer : Reclaimed) (m m' : MyTree) (kept' : Vec Kept Global) : Type 0 where
  pub reclaims : Reclaims m m'
  pub looked : HasLooked m m'
  pub bounded : PinsNever m m'
  pub kept : answer.kept ≡ vec_len kept'
  pub lag : IsLag passes number answer.lag m'.0.pin
  pub lags : m'.0.pin.lags ≡ m.0.pin.lags + lag_count answer.lag
  pub losses : m'.0.lost ≡ m.0.lost + answer.losses
  pub epoch : answer.epoch ≡ m'.0.pin.scan
  pub lost : IsTrue answer.lost ↔ (0 < answer.losses)
  -- Where no pass lags, no exchange was lost, and the epoch may still move, all rows were given back.
  pub all : answer.lag ≡ None → answer.lost ≡ false → m'.0.pin.scan < last_epoch → answer.kept ≡ 0
  -- The only pass of a space found none that lags, and lost no exchange.
  pub only : IsOnly m → (answer.lag ≡ None) × (answer.losses ≡ 0)

-- Rows were given back, and nothing else was learnt or met.
pub record GaveBack (m m' : MyTree) : Type 0 where
  pub upper : m'.0.upper ≡ m.0.upper
  pub met : HasMet 0 0 m m'
  pub lags : LagsOnce m m'
  pub bounded : PinsNever m m'

-- Another attempt may follow one that found no free row: that one had begun with rows kept, the budget isn't spent, no pass lags, and no row is kept
-- now, unless an exchange was lost.
pub record MayGoOn (kept budget : ℕ) (before now : Spent) (m m' : MyTree) (kept' : Vec Kept Global) : Type 0 where
  pub some : 0 < kept
  pub unspent : total now < budget
  pub nearer : (vec_len kept' ≡ 0) ⊎ (total before < total now)
  pub begins : (vec_len kept' ≡ 0) ⊎ (losses m < losses m')
  pub unlagged : m'.0.pin.lags ≡ m.0.pin.lags

-- The pass pinned, and gave no rows back. As it pinned last no more passes had been found to lag, and what was its as it pinned first since it last gave
-- rows back is noted.
pub record HasPinned (m m' : MyTree) : Type 0 where
  pub lags : m'.0.pin.lags ≡ m.0.pin.lags
  pub looks : m'.0.pin.looks ≡ m.0.pin.looks
  pub entered : m'.0.pin.entered.lags ≡ m.0.pin.lags
  pub begun_at : m'.0.pin.begun_at ≡ m.0.pin.looks
  pub begun : m.0.pin.looks ≢ m.0.pin.begun_at → m'.0.pin.begun ≡ m.0.claims
  pub begun_before : m.0.pin.looks ≡ m.0.pin.begun_at → m'.0.pin.begun ≡ m.0.pin.begun

-- A pass is found to lag once at most, and no attempt follows: as the call pinned last, none had been found to.
abbrev pub EndsAtLag : MyTree → MyTree → Type 0
EndsAtLag m m' = (m'.0.pin.lags ≤ m.0.pin.lags + 1) × (m'.0.pin.entered.lags ≡ m.0.pin.lags)

-- A call of a pass's store that may add this key, if any, may be refused so, given what contracts see of the store before it and behind it.
abbrev pub HasCause : {T : Type 0} → ℕ → Option (List ℕ) → StoreView → StoreView → Outcome T → Type 0
HasCause budget adds s t o = IfCaused o (λ why. IsCaused s.z s.number budget adds why s.seat.me s.kept t.seat.me t.kept)

-- The store's pass gave rows back, and that came to this.
abbrev pub HasGivenBack : Reclaimed → StoreView → StoreView → Type 0
HasGivenBack given s t = HasGiven s.z.passes s.number given s.seat.me t.seat.me t.kept

-- Behind a call the store's pass keeps few rows, or there is a cause in this call; it never held more than eight rows at once; and a pass was found to
-- lag once at most, behind the last attempt.
abbrev pub IsSparing : StoreView → StoreView → Type 0
IsSparing s t = KeepsFew s.seat.me t.seat.me t.kept × (t.seat.me.0.most ≤ 8) × EndsAtLag s.seat.me t.seat.me
