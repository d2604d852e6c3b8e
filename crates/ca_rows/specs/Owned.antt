-- The space's own seat, and what making a space or a pass comes to.
use Rattle.std.specs.Prelude.{◌≡◌, ℕ, [], false}
use Rattle.atomic_table.specs.declared.shared.Seat.{Seat}
use Rattle.atomic_table.specs.Seated.{TableId}
use Rattle.ca_rows.specs.declared.sizes.Sizes.{Sizes}
use Rattle.ca_rows.specs.declared.view.View.{View}

-- The space's own seat has made so many passes, and isn't pinned.
abbrev pub IsOwnSeat : {U : Type 0} → TableId → Sizes → ℕ → Seat (Unit {0}) (View U) → Type 0
IsOwnSeat table z made p = (p.table_id ≡ table) × (p.id ≡ 0) × (p.me.1 ≡ []) × (p.me.0.sizes ≡ z) × (p.me.0.made ≡ made) × (p.me.0.pin.pinned ≡ false)

-- The seat holds no slot.
abbrev pub HasNoSlot : {U : Type 0} → Seat (Unit {0}) (View U) → Type 0
HasNoSlot p = p.me.1 ≡ []
