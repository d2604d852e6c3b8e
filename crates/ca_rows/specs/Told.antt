-- What each step of the rows tells.
use Rattle.std.specs.Prelude.{◌≡◌, ◌≢◌, ◌⊎◌, ◌==◌, ℕ, cond, ◌+◌, ◌*◌, ◌/◌, ◌%◌, ◌<◌, ◌≤◌, max, true, false, List, length, slice_index, slice_set}
use mathlib.Core.Option.{some, none}
use Rattle.atomic_table.specs.Table.{Me, Step}
use Rattle.ca_rows.specs.declared.view.Claim.{Claim}
use Rattle.ca_rows.specs.declared.view.Claim.TheVariants.{Holds, Keeps}
use Rattle.ca_rows.specs.declared.view.Met.{Met}
use Rattle.ca_rows.specs.declared.view.Pin.{Pin}
use Rattle.ca_rows.specs.declared.view.Stage.{Stage}
use Rattle.ca_rows.specs.declared.view.Stage.TheVariants.{Idle, Saw, Knew}
use Rattle.ca_rows.specs.declared.view.Claimed.{Claimed}
use Rattle.ca_rows.specs.declared.view.View.{View}
use Rattle.ca_rows.specs.Claims.{claim_of, claimed, dropped, held_count, none_old}
use Rattle.ca_rows.specs.Layout.{row_words, row_limit, last_tag, last_epoch}

abbrev pub Mine : Type 0 → Type 0
Mine U = Me (Unit {0}) (View U)

-- The seat knows the sizes of a space that is for one pass.
abbrev pub IsOnly : {U : Type 0} → Mine U → Type 0
IsOnly m = (0 < m.0.sizes.rows) × (m.0.sizes.passes ≡ 1)

-- An exchange that expects this value expects the head as the seat saw it last, and the seat has tried none since.
abbrev pub Expects : Stage → ℕ → Type 0
Expects Idle old = ⊥
Expects (Saw t r) old = old ≡ t * row_limit + r
Expects (Knew t r x) old = old ≡ t * row_limit + r

module _ {U : Type 0} where
  abbrev pub with_stage : Mine U → Stage → Mine U
  with_stage m st = (record m.0 { stage = st }, m.1)

  abbrev pub with_claims : Mine U → List Claimed → Mine U
  with_claims m xs = (record m.0 { stage = Idle; claims = xs }, m.1)

  -- an exchange of the head was lost
  abbrev pub missed : Mine U → Mine U
  missed m = (record m.0 { stage = Idle; lost = m.0.lost + 1 }, m.1)

  -- The head was empty as a row was to be taken, and had this tag. That is counted where the seat keeps no row that it may hold again.
  abbrev pub found_empty : Mine U → ℕ → Mine U
  found_empty m t = (record m.0 { stage = Saw t 0; empty = m.0.empty + none_old m.0.claims m.0.claims m.0.pin.told }, m.1)

  -- It had this row, but its tag was at the last value.
  abbrev pub found_worn : Mine U → ℕ → Mine U
  found_worn m r = (record m.0 { stage = Saw last_tag r; worn = m.0.worn + 1 }, m.1)

  -- what a seat knows once these rows are its and it knows this of what stands above: the rows that it holds then are counted
  abbrev pub relinked : Mine U → List Claimed → U → Mine U
  relinked m claims upper = (record m.0 { claims = claims; upper = upper; most = max m.0.most (held_count claims) }, m.1)

  -- The rows that are held now are counted: they may be the most so far.
  abbrev pub with_most : Mine U → Mine U
  with_most m = (record m.0 { most = max m.0.most (held_count m.0.claims) }, m.1)

  -- No row is free: the seat knows each to be linked, or it is the seat's.
  abbrev pub AreTaken : (U → ℕ → Type 0) → Mine U → Type 0
  AreTaken listed m = (r : ℕ) → 0 < r → r ≤ m.0.sizes.rows → listed m.0.upper r ⊎ ((c : Claim) × (claim_of m.0.claims r ≡ some c))

  -- The head was loaded to take a row. It is counted where it can't be taken: there is none, or the tag can rise no more. Of an only pass that finds none it is
  -- told where each row is.
  abbrev pub Looked : (U → ℕ → Type 0) → Step (Unit {0}) → Mine U → ℕ → Mine U → Type 0
  Looked listed st m n m' = (0 < m.0.sizes.rows → n % row_limit ≤ m.0.sizes.rows)
      × (n % row_limit ≡ 0 → m' ≡ found_empty m (n / row_limit))
      × (0 < n % row_limit → n / row_limit ≡ last_tag → m' ≡ found_worn m (n % row_limit))
      × (0 < n % row_limit → n / row_limit ≢ last_tag → m' ≡ with_stage m (Saw (n / row_limit) (n % row_limit)))
      × (IsOnly m → n % row_limit ≡ 0 → AreTaken listed m)

  -- The head was loaded to put a row back: nothing is counted.
  abbrev pub Glanced : Step (Unit {0}) → Mine U → ℕ → Mine U → Type 0
  Glanced st m n m' = (0 < m.0.sizes.rows → n % row_limit ≤ m.0.sizes.rows) × (m' ≡ with_stage m (Saw (n / row_limit) (n % row_limit)))

  -- The next row was loaded from the row that the head named.
  abbrev pub Peeked : Step (Unit {0}) → Mine U → ℕ → Mine U → Type 0
  Peeked st m n m' = (t q : ℕ) → m.0.stage ≡ Saw t q → m' ≡ with_stage m (Knew t q n)

  -- The row was taken, or the exchange lost, which that of an only pass never is. It expected the head that was seen last.
  abbrev pub Took : Step (Unit {0}) → Mine U → ℕ → Mine U → Type 0
  Took st m n m' = Expects m.0.stage st.first × ((t q x : ℕ) → m.0.stage ≡ Knew t q x →
      (n ≡ st.first → (claim_of m.0.claims q ≡ none) × ((its : List ℕ) × (length its ≡ row_words)
      × (m' ≡ with_most (with_claims m (claimed q (Holds its) m.0.claims)))))
      × (n ≢ st.first → m' ≡ missed m)) × (IsOnly m → n ≡ st.first)

  -- A word of a held row was loaded: it is the one that the seat knows.
  abbrev pub Recalled : Step (Unit {0}) → Mine U → ℕ → Mine U → Type 0
  Recalled st m n m' = (m' ≡ m) × ((q k : ℕ) (its : List ℕ) → st.word ≡ row_words * q + k → k < row_words → claim_of m.0.claims q ≡ some (Holds its)
      → n ≡ slice_index its k)

  -- A word of a held row was written.
  abbrev pub Wrote : Step (Unit {0}) → Mine U → ℕ → Mine U → Type 0
  Wrote st m n m' = (q k : ℕ) (its : List ℕ) → st.word ≡ row_words * q + k → k < row_words → claim_of m.0.claims q ≡ some (Holds its)
      → m' ≡ (record m.0 { claims = claimed q (Holds (slice_set its k n)) m.0.claims }, m.1)

  -- A held row was put back, or the exchange lost, which that of an only pass never is. It expected the head that was seen last.
  abbrev pub Gave : Step (Unit {0}) → Mine U → ℕ → Mine U → Type 0
  Gave st m n m' = Expects m.0.stage st.first × (n ≡ st.first → m' ≡ with_claims m (dropped (st.second % row_limit) m.0.claims)) × (n ≢ st.first → m' ≡ missed m)
      × (IsOnly m → n ≡ st.first)

module _ {U : Type 0} where
  abbrev pub with_pin : Mine U → Pin → Mine U
  with_pin m e = (record m.0 { pin = e }, m.1)

  -- an exchange of the epoch was lost: another one needs another look at the others
  abbrev pub lost_epoch : Mine U → Mine U
  lost_epoch m = (record m.0 { pin = record m.0.pin { upto = 0 }; lost = m.0.lost + 1 }, m.1)

  -- what a seat has met of the pool
  abbrev pub met_of : Mine U → Met
  met_of m = record { lost = m.0.lost; empty = m.0.empty; worn = m.0.worn; lags = m.0.pin.lags }

  -- the rows that are noted as a seat announces: its own, where it is the first time since its last look at the others
  abbrev pub begun_of : Mine U → List Claimed
  begun_of m = cond (m.0.pin.looks == m.0.pin.begun_at) m.0.pin.begun m.0.claims

  -- The epoch was loaded, to announce it.
  abbrev pub Asked : Step (Unit {0}) → Mine U → ℕ → Mine U → Type 0
  Asked st m n m' = (n ≤ last_epoch) × (m' ≡ with_pin m (record m.0.pin { told = n }))

  -- It was announced, at an epoch that isn't lower, and that is counted. What the seat has met of the pool until then is noted, and which rows are its.
  abbrev pub Announced : (U → U) → Step (Unit {0}) → Mine U → ℕ → Mine U → Type 0
  Announced enters st m n m' = (moment : ℕ) × (m.0.pin.told ≤ moment)
      × (m' ≡ (
        record m.0 {
          pin = record m.0.pin {
            pinned = true;
            pins = m.0.pin.pins + 1;
            moment = moment;
            entered = met_of m;
            begun = begun_of m;
            begun_at = m.0.pin.looks;
          };
          upper = enters m.0.upper;
        },
        m.1,
      ))

  -- The announcement was taken back. What the seat has met of the pool until then is noted: an only pass lost no exchange.
  abbrev pub Left : (U → U) → Step (Unit {0}) → Mine U → ℕ → Mine U → Type 0
  Left leaves st m n m' = (m' ≡ (record m.0 { pin = record m.0.pin { pinned = false; left = met_of m }; upper = leaves m.0.upper }, m.1))
      × (IsOnly m → m.0.lost ≡ 0)

  -- The row is kept, since this epoch. The epoch isn't below that of the last look, and no row is
  -- kept since a later one.
  abbrev pub KeepsSince : ℕ → ℕ → Mine U → Mine U → Type 0
  KeepsSince q n m m' = (0 < q) × (0 < m.0.sizes.rows → q ≤ m.0.sizes.rows)
      × (n ≤ last_epoch) × (m.0.pin.scan ≤ n)
      × ((r t : ℕ) → claim_of m.0.claims r ≡ some (Keeps t) → t ≤ n)
      × (m' ≡ (record m.0 { claims = claimed q (Keeps n) m.0.claims }, m.1))

  -- The epoch was loaded, since which the row is kept.
  abbrev pub Retired : ℕ → Step (Unit {0}) → Mine U → ℕ → Mine U → Type 0
  Retired q st m n m' = KeepsSince q n m m'

  -- A look at the others began, and is counted: the epoch was loaded. It isn't below that of the look before, and no row is kept since a later one.
  abbrev pub Began : Step (Unit {0}) → Mine U → ℕ → Mine U → Type 0
  Began st m n m' = (n ≤ last_epoch) × (m.0.pin.scan ≤ n) × ((r t : ℕ) → claim_of m.0.claims r ≡ some (Keeps t) → t ≤ n)
      × (m' ≡ with_pin m (record m.0.pin { scan = n; upto = 0; lag = 0; looks = m.0.pin.looks + 1 }))

  -- The next pass's announcement was loaded: it is absent or not older than the look, or the pass lags, which is counted. A pass that isn't pinned
  -- doesn't lag itself, so an only pass then finds none that does.
  abbrev pub Scanned : Step (Unit {0}) → Mine U → ℕ → Mine U → Type 0
  Scanned st m n m' = (n ≡ 0 ⊎ m.0.pin.scan < n → m' ≡ with_pin m (record m.0.pin { upto = m.0.pin.upto + 1 }))
      × (0 < n → n ≤ m.0.pin.scan → (m.0.pin.pinned ≡ false → m.0.pin.upto + 1 ≢ m.0.pin.number) × (m.0.pin.pinned ≡ false → ¬ IsOnly m)
      × (m' ≡ with_pin m (record m.0.pin { lag = m.0.pin.upto + 1; lags = m.0.pin.lags + 1 })))

  -- The epoch moved by one, which is counted, or the exchange lost, which that of an only pass never is. It expected the epoch that the last look at the
  -- others began with; what that look saw counts for one exchange.
  abbrev pub Moved : Step (Unit {0}) → Mine U → ℕ → Mine U → Type 0
  Moved st m n m' = (st.first ≡ m.0.pin.scan) × (n ≡ st.first → m' ≡ with_pin m (record m.0.pin { scan = st.second; upto = 0; moved = m.0.pin.moved + 1 }))
      × (n ≢ st.first → m' ≡ lost_epoch m) × (IsOnly m → n ≡ st.first)

  -- The pass's own announcement was loaded: while it is pinned, that is one more than the epoch which it told.
  abbrev pub Reread : Step (Unit {0}) → Mine U → ℕ → Mine U → Type 0
  Reread st m n m' = (m' ≡ m) × (m.0.pin.pinned ≡ true → n ≡ m.0.pin.told + 1)

  -- The pass holds a row that it kept.
  abbrev pub HoldsAgain : ℕ → Mine U → Mine U → Type 0
  HoldsAgain q m m' = (its : List ℕ) × (length its ≡ row_words)
      × (m' ≡ with_most (record m.0 { claims = claimed q (Holds its) m.0.claims }, m.1))

  abbrev pub Regained : ℕ → Step (Unit {0}) → Mine U → ℕ → Mine U → Type 0
  Regained q st m n m' = HoldsAgain q m m'
