-- Room for a reply, made before the update that it tells of.
use Rattle.std.specs.Prelude.{◌≡◌, ◌≤◌, [], length}
use Rattle.ca_ets.specs.Update.{Operations, One, Several}
use Rattle.ca_table.specs.declared.reply.Room.{Room}
use Rattle.ca_table.specs.declared.reply.Room.TheVariants as room

-- There is room for the values of these operations: of one alone, or of as many in a list.
abbrev pub IsRoom : Operations → Room → Type 0
IsRoom (One a) room.One = Unit {0}
IsRoom (One a) (room.Several values terms) = ⊥
IsRoom (Several additions) room.One = ⊥
IsRoom (Several additions) (room.Several values terms) =
    (length values.items ≡ length additions) × (terms.items ≡ []) × (length additions ≤ terms.spare)
