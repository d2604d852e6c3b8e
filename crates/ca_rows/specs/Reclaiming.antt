-- What giving kept rows back comes to.
use Rattle.std.specs.Prelude.{◌≡◌, ◌≢◌, ◌⊎◌, ℕ, ◌+◌, ◌*◌, ◌<◌, ◌≤◌, max, Bool, true, false, List, [], ◌∷◌, ◌++◌, length, slice_index_or, take, drop, Vec, vec_len}
use Rattle.std.specs.Global.{Global}
use Rattle.std.specs.declared.option.Option.{Option as Answer}
use Rattle.std.specs.declared.option.Option.TheVariants.{None, Some}
use mathlib.Core.Option.{some, none}
use Rattle.ca_rows.specs.declared.kept.Kept.{Kept}
use Rattle.ca_rows.specs.declared.kept.KeptRows.{KeptRows}
use Rattle.ca_rows.specs.declared.reclaimed.Reclaimed.{Reclaimed}
use Rattle.ca_rows.specs.declared.reclaimed.Round.{Round}
use Rattle.ca_rows.specs.declared.view.Claim.TheVariants.{Keeps}
use Rattle.ca_rows.specs.declared.view.Pin.{Pin}
use Rattle.ca_rows.specs.Claims.{claim_of, claimed, held_count}
use Rattle.ca_rows.specs.Kept.{AreYoung, IsTakenOut, kept_of, nobody}
use Rattle.ca_rows.specs.Told.{Mine, HoldsAgain, lost_epoch, with_pin}
use Rattle.ca_rows.specs.Layout.{last_epoch}

module _ {U : Type 0} where
  -- Kept rows were given back. Nothing else of the pass changed but what it saw of the pool and of the epoch.
  pub record Reclaims (m m' : Mine U) : Type 0 where
    pub same_sizes : m'.0.sizes ≡ m.0.sizes
    pub same_made : m'.0.made ≡ m.0.made
    pub same_number : m'.0.pin.number ≡ m.0.pin.number
    pub same_pinned : m'.0.pin.pinned ≡ m.0.pin.pinned
    pub same_pins : m'.0.pin.pins ≡ m.0.pin.pins
    pub same_told : m'.0.pin.told ≡ m.0.pin.told
    pub same_moment : m'.0.pin.moment ≡ m.0.pin.moment
    pub same_entered : m'.0.pin.entered ≡ m.0.pin.entered
    pub same_left : m'.0.pin.left ≡ m.0.pin.left
    pub same_begun : (m'.0.pin.begun ≡ m.0.pin.begun) × (m'.0.pin.begun_at ≡ m.0.pin.begun_at)
    pub same_upper : m'.0.upper ≡ m.0.upper
    pub same_slots : m'.1 ≡ m.1
    pub later : m.0.pin.scan ≤ m'.0.pin.scan
    pub more_looks : m.0.pin.looks ≤ m'.0.pin.looks
    pub more_lags : m.0.pin.lags ≤ m'.0.pin.lags
    pub more_lost : m.0.lost ≤ m'.0.lost
    pub same_empty : m'.0.empty ≡ m.0.empty
    pub same_worn : m'.0.worn ≡ m.0.worn
    -- No row more is held than before, and in between it was one more at most.
    pub no_more_held : held_count m'.0.claims ≤ held_count m.0.claims
    pub more_most : m.0.most ≤ m'.0.most
    pub least_most : m'.0.most ≤ max m.0.most (held_count m.0.claims + 1)
    pub others : (r : ℕ) → ((t : ℕ) → claim_of m.0.claims r ≢ some (Keeps t)) → claim_of m'.0.claims r ≡ claim_of m.0.claims r
    -- A row that was given back was kept for two epochs at least; one that is kept still is kept as before, unless an exchange lost.
    pub kept : (r t : ℕ) → claim_of m.0.claims r ≡ some (Keeps t) → (claim_of m'.0.claims r ≡ none) × (t + 2 ≤ m'.0.pin.scan)
        ⊎ ((t' : ℕ) × (t ≤ t') × (claim_of m'.0.claims r ≡ some (Keeps t')) × (m'.0.lost ≡ m.0.lost → t' ≡ t))

-- The row is kept since an epoch that isn't below that of the last look, and stands behind the others in the list, as one of this form.
abbrev pub IsRetired : {U : Type 0} → ℕ → ℕ → Mine U → Mine U → List Kept → List Kept → Type 0
IsRetired row form m m' ks ks' = (epoch : ℕ) × (ks' ≡ ks ++ record { row = row; at = epoch; form = form } ∷ [])
    × (m' ≡ (record m.0 { claims = claimed row (Keeps epoch) m.0.claims }, m.1)) × (m.0.pin.scan ≤ epoch)

-- The row that is chosen by the epoch which the pass announced is held again, and the others are kept still, in their order; or none was that old, and
-- nothing changed.
abbrev pub Reuses : {U : Type 0} → Answer ℕ → ℕ → Mine U → Mine U → KeptRows → KeptRows → Type 0
Reuses None like m m' kept kept' = (m' ≡ m) × (kept' ≡ kept) × AreYoung m.0.pin.told kept.rows.items
Reuses (Some row) like m m' kept kept' = HoldsAgain row m m' × IsTakenOut m.0.pin.told like row kept.rows.items kept'.rows.items

-- The row at this place of the list was given back, and the list stays; or the exchange lost, those behind it were taken out up to the end, and it is kept
-- since another epoch, which isn't below that of the look, behind the others.
module _ {U : Type 0} where
  pub record GivesBack (given : Bool) (at end : ℕ) (m m' : Mine U) (ks ks' : List Kept) : Type 0 where
    pub reclaims : Reclaims m m'
    pub same_pin : m'.0.pin ≡ m.0.pin
    pub rows_given : given ≡ true → (ks' ≡ ks) × (m'.0.lost ≡ m.0.lost)
    pub rows_kept : given ≡ false
        → ((row : Kept) × (m.0.pin.scan ≤ row.at) × (ks' ≡ take at ks ++ (drop end ks ++ row ∷ [])))
        × (m'.0.lost ≡ m.0.lost + 1)

  -- So many rows were given back, of all that were kept for two epochs, and so many exchanges lost:
  -- each of those rows is kept anew.
  pub record GivesOld (epoch freed losses : ℕ) (m m' : Mine U)
      (kept kept' : Vec Kept Global) : Type 0 where
    pub reclaims : Reclaims m m'
    pub same_pin : m'.0.pin ≡ m.0.pin
    pub freed_are : freed + vec_len kept' ≡ vec_len kept
    pub lost : m'.0.lost ≡ m.0.lost + losses
    pub few : freed + losses ≤ vec_len kept
    pub young : (r t : ℕ) → kept_of kept'.items r ≡ some t → epoch < t + 2

-- The pass with this number was found to lag, or none was.
abbrev pub IsLag : ℕ → ℕ → Answer ℕ → Pin → Type 0
IsLag passes number None e = e.lag ≡ 0
IsLag passes number (Some j) e = (0 < j) × (j ≤ passes) × (j ≢ number) × (e.lag ≡ j)

-- how many passes were found to lag: one, or none
abbrev pub lag_count : Answer ℕ → ℕ
lag_count None = 0
lag_count (Some j) = 1

-- All passes were looked at, or one lags.
abbrev pub IsLook : {U : Type 0} → ℕ → Answer ℕ → Mine U → Mine U → Type 0
IsLook passes None m m' = m' ≡ with_pin m (record m.0.pin { upto = passes })
IsLook passes (Some j) m m' = (0 < j) × (j ≤ passes) × (j ≢ m.0.pin.number) × ((upto : ℕ)
    × (m' ≡ with_pin m (record m.0.pin { upto = upto; lag = j; lags = m.0.pin.lags + 1 })))

-- The epoch moved by one, or the exchange lost.
abbrev pub Moves : {U : Type 0} → Bool → ℕ → Mine U → Mine U → Type 0
Moves true e m m' = m' ≡ with_pin m (record m.0.pin { scan = e + 1; upto = 0; moved = m.0.pin.moved + 1 })
Moves false e m m' = m' ≡ lost_epoch m

-- The epoch isn't the last one, and the row that was kept first is less than two epochs older.
abbrev pub MayMove : ℕ → List Kept → Type 0
MayMove epoch ks = (epoch < last_epoch) × (epoch < (slice_index_or ks 0 nobody).at + 2)

-- So it was of the epoch before this one.
abbrev pub HasMoved : ℕ → List Kept → Type 0
HasMoved epoch ks = (epoch ≤ last_epoch) × (epoch ≤ (slice_index_or ks 0 nobody).at + 2)

-- A look at the others began, and so many exchanges were lost: the row that was kept first is two epochs older than the epoch; or that is at its last value; or
-- a pass lags; or the pass moved the epoch by one, having looked at all others; or the exchange that was to move it lost. Each of the
-- last three comes only where none before it holds.
module _ {U : Type 0} where
  pub record EndsLook (losses : ℕ) (m m' : Mine U) (ks : List Kept) : Type 0 where
    pub looked : m'.0.pin.looks ≡ m.0.pin.looks + 1
    pub ends : ((slice_index_or ks 0 nobody).at + 2 ≤ m'.0.pin.scan) ⊎ (m'.0.pin.scan ≡ last_epoch)
        ⊎ (m'.0.pin.lags ≡ m.0.pin.lags + 1) ⊎ (m'.0.pin.moved ≡ m.0.pin.moved + 1) ⊎ (losses ≡ 1)
    pub at_most_one : losses ≤ 1
    pub lagged : m'.0.pin.lags ≡ m.0.pin.lags ⊎ MayMove m'.0.pin.scan ks × (m'.0.pin.moved ≡ m.0.pin.moved) × (losses ≡ 0)
    pub moved : m'.0.pin.moved ≡ m.0.pin.moved ⊎ HasMoved m'.0.pin.scan ks × (m'.0.pin.lags ≡ m.0.pin.lags) × (losses ≡ 0)
    pub missed : losses ≡ 0 ⊎ MayMove m'.0.pin.scan ks × (m'.0.pin.lags ≡ m.0.pin.lags) × (m'.0.pin.moved ≡ m.0.pin.moved)

-- One round, by its answer and by the lists of kept rows before and after.
pub record Rounds {U : Type 0} (passes number : ℕ) (answer : Round) (m m' : Mine U) (ks ks' : List Kept) : Type 0 where
  -- the epoch that was loaded
  pub e : ℕ
  pub later : m.0.pin.scan ≤ e
  pub past : (r t : ℕ) → claim_of m.0.claims r ≡ some (Keeps t) → t ≤ e
  pub reclaims : Reclaims m m'
  -- It began one look at the others.
  pub looked : m'.0.pin.looks ≡ m.0.pin.looks + 1
  pub freed : answer.freed + length ks' ≡ length ks
  -- how many exchanges lost: one of each row that isn't given back, at most, and that of the epoch
  pub lost : m'.0.lost ≡ m.0.lost + answer.losses
  pub few : answer.losses ≤ length ks + 1
  pub epoch_is : answer.epoch ≡ m'.0.pin.scan
  pub lag : IsLag passes number answer.lag m'.0.pin
  pub lags : m'.0.pin.lags ≡ m.0.pin.lags + lag_count answer.lag
  -- After a lag no round follows.
  pub unlagged : answer.more ≡ true → answer.lag ≡ None
  -- Whatever was lost, only rows are kept still that were kept for less than two epochs, or are
  -- kept anew.
  pub young : (r t : ℕ) → kept_of ks' r ≡ some t → e < t + 2
  pub goes_on : answer.more ≡ true → answer.losses ≡ 0 → m'.0.pin.scan ≡ e + 1
  pub near : m'.0.pin.scan ≤ e + 1
  pub stops : answer.more ≡ false → m'.0.pin.scan ≡ e
  -- Whatever was lost, another round follows but where nothing is kept, a pass lags, or the epoch is
  -- at its last value.
  pub ends : answer.more ≡ false → answer.lag ≡ None → m'.0.pin.scan < last_epoch → ks' ≡ []
  -- Where nothing is kept nobody is looked at, and the epoch isn't moved.
  pub rests : ks' ≡ [] → (answer.more ≡ false) × (answer.lag ≡ None) × (answer.losses ≤ length ks)

-- The rounds of one call, by its answer and by the lists of kept rows before and after.
pub record MakesRounds {U : Type 0} (answer : Reclaimed) (m m' : Mine U)
    (ks ks' : List Kept) : Type 0 where
  pub most : m'.0.pin.looks ≤ m.0.pin.looks + 3
  -- A round tries one exchange for each row and one for the epoch, at most.
  pub tries : answer.losses ≤ 3 * length ks + 3
  -- Whatever was lost, there are three but where nothing is kept any more, a pass lags, or the epoch
  -- is at its last value.
  pub three : answer.lag ≡ None → m'.0.pin.scan < last_epoch
      → (ks' ≡ []) ⊎ (m'.0.pin.looks ≡ m.0.pin.looks + 3)
  -- Whatever was lost, no row is kept still that was kept for more than two epochs.
  pub recent : (r t : ℕ) → kept_of ks' r ≡ some t → m'.0.pin.scan ≤ t + 2
  -- Where a pass lags none is that was kept for two.
  pub after_lag : answer.lag ≢ None → (r t : ℕ) → kept_of ks' r ≡ some t → m'.0.pin.scan < t + 2
  -- Where nothing was kept there is one, which looks at nobody and tries no exchange.
  pub idle : ks ≡ []
      → (m'.0.pin.looks ≡ m.0.pin.looks + 1) × (answer.lag ≡ None) × (answer.losses ≡ 0)
