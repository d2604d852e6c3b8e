-- What the calls of a space come to.
use Rattle.std.specs.Prelude.{◌≡◌, ◌≢◌, ℕ, ◌+◌, ◌<◌, ◌≤◌, Bool, true, false, List, length, slice_set}
use mathlib.Core.Option.{some, none}
use Rattle.atomic_table.specs.Table.{Step}
use Rattle.atomic_table.specs.declared.shared.Seat.{Seat}
use Rattle.atomic_table.specs.Seated.{TableId}
use Rattle.ca_rows.specs.declared.sizes.Sizes.{Sizes}
use Rattle.ca_rows.specs.declared.taken.Taken.{Taken}
use Rattle.ca_rows.specs.declared.taken.Taken.TheVariants.{Row, Empty, Lost, Worn}
use Rattle.ca_rows.specs.declared.view.Claim.TheVariants.{Holds}
use Rattle.ca_rows.specs.declared.view.Pin.{Pin}
use Rattle.ca_rows.specs.declared.view.View.{View}
use Rattle.ca_rows.specs.Claims.{claim_of, claimed, dropped}
use Rattle.ca_rows.specs.Told.{Mine, with_claims, with_most, found_empty, found_worn, begun_of, met_of, missed, relinked}
use Rattle.ca_rows.specs.Layout.{row_words}

module _ {U : Type 0} where
  -- The seat is one of this table, and knows what the space was made with.
  abbrev pub IsOf : TableId → Sizes → Seat (Unit {0}) (View U) → Type 0
  IsOf table z p = (p.table_id ≡ table) × (p.me.0.sizes ≡ z)

  abbrev pub IsSame : Seat (Unit {0}) (View U) → Seat (Unit {0}) (View U) → Type 0
  IsSame p q = (q.table_id ≡ p.table_id) × (q.id ≡ p.id)

  -- The seat is the same one, and only what it knows of the pool and what it holds changed.
  abbrev pub IsStill : Seat (Unit {0}) (View U) → Seat (Unit {0}) (View U) → Type 0
  IsStill p q = (q.table_id ≡ p.table_id) × (q.id ≡ p.id) × (q.me.0.sizes ≡ p.me.0.sizes) × (q.me.0.pin ≡ p.me.0.pin) × (q.me.0.upper ≡ p.me.0.upper)

  -- Only the upper part changed: what the seat knows of the rows, what it counts of them, and which rows are its, are as they were.
  abbrev pub IsRaised : Mine U → Mine U → Type 0
  IsRaised m m' = m' ≡ (record m.0 { upper = m'.0.upper }, m.1)

  -- Only the upper part and the claims changed. The rows that are held now are counted.
  abbrev pub IsAbove : Mine U → Mine U → Type 0
  IsAbove m m' = m' ≡ relinked m m'.0.claims m'.0.upper

  -- So it is of an exchange that won; by one that lost, the upper part alone changed.
  abbrev pub IsSwapped : Bool → Mine U → Mine U → Type 0
  IsSwapped true m m' = IsAbove m m'
  IsSwapped false m m' = IsRaised m m'

  -- What a load by the structure above tells, and what an exchange by it tells: it is among what the rule above allows, and claims change only
  -- where an exchange won.
  module _ (may then : Step (Unit {0}) → Mine U → ℕ → Mine U → Type 0) where
    abbrev pub Raises : Step (Unit {0}) → Mine U → ℕ → Mine U → Type 0
    Raises st m n m' = IsRaised m m' × may st m n m' × then st m n m'

    abbrev pub Relinks : Step (Unit {0}) → Mine U → ℕ → Mine U → Type 0
    Relinks st m n m' = (n ≡ st.first → IsAbove m m') × (n ≢ st.first → IsRaised m m') × may st m n m' × then st m n m'

  -- `Empty` where the head was empty as it was loaded, `Worn` where it wasn't and its tag was at the last value, `Lost` where the exchange lost:
  -- each is counted, once and nowhere else.
  abbrev pub TakesRow : Taken → Mine U → Mine U → Type 0
  TakesRow (Row r) m m' = (0 < r) × (r ≤ m.0.sizes.rows) × (claim_of m.0.claims r ≡ none)
      × ((its : List ℕ) × (length its ≡ row_words) × (m' ≡ with_most (with_claims m (claimed r (Holds its) m.0.claims))))
  TakesRow Empty m m' = (t : ℕ) × (m' ≡ found_empty m t)
  TakesRow Lost m m' = m' ≡ missed m
  TakesRow Worn m m' = (r : ℕ) × (0 < r) × (m' ≡ found_worn m r)

  -- The row is the pool's again, or the exchange lost, and the pass holds it still.
  abbrev pub PutsRow : Bool → ℕ → Mine U → Mine U → Type 0
  PutsRow true r m m' = m' ≡ with_claims m (dropped r m.0.claims)
  PutsRow false r m m' = (its : List ℕ) × (length its ≡ row_words) × (m' ≡ missed (with_claims m (claimed r (Holds its) m.0.claims)))

  -- A row that the pass holds has this value at this place of its words.
  abbrev pub WritesWord : ℕ → ℕ → ℕ → Mine U → Mine U → Type 0
  WritesWord row index value m m' = (its : List ℕ) → claim_of m.0.claims row ≡ some (Holds its)
      → m'
      ≡ (record m.0 { claims = claimed row (Holds (slice_set its index value)) m.0.claims }, m.1)

  -- The pass is pinned: it announced an epoch, at one that isn't lower, and that is counted. What it
  -- had met of the pool is noted, and which rows are its.
  abbrev pub Pins : (U → U) → Mine U → Mine U → Type 0
  Pins enters m m' = (told : ℕ) × (moment : ℕ) × (told ≤ moment) × (m' ≡ (
    record m.0 {
      pin = record m.0.pin {
        pinned = true;
        pins = m.0.pin.pins + 1;
        told = told;
        moment = moment;
        entered = met_of m;
        begun = begun_of m;
        begun_at = m.0.pin.looks;
      };
      upper = enters m.0.upper;
    },
    m.1,
  ))

  -- The pass isn't pinned any more. What it had met of the pool is noted.
  abbrev pub Unpins : (U → U) → Mine U → Mine U → Type 0
  Unpins leaves m m' = m' ≡ (
    record m.0 {
      pin = record m.0.pin { pinned = false; left = met_of m };
      upper = leaves m.0.upper;
    },
    m.1,
  )

-- The pass has this number, which its announcement goes by.
abbrev pub IsNumbered : ℕ → Pin → Type 0
IsNumbered number e = (e.number ≡ number) × (0 < number) × (number ≤ 64)
