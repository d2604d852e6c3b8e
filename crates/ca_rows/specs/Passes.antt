-- Words for what contracts say of a space and its passes, and what stays of a pass.
use Rattle.std.specs.Prelude.{◌≡◌, Bool, true, false, []}
use Rattle.ca_rows.specs.declared.sizes.Sizes.{Sizes}
use Rattle.ca_rows.specs.declared.space.Pass.{Pass}
use Rattle.ca_rows.specs.declared.space.Space.{Space}
use Rattle.ca_rows.specs.declared.view.View.{View}
use Rattle.ca_rows.specs.Calls.{IsOf, IsSame, IsStill}
use Rattle.ca_rows.specs.Kept.{AreKept}
use Rattle.ca_rows.specs.Tallied.{HasTallied, HasTalliedJoin}
use Rattle.ca_rows.specs.Told.{Mine}

module _ {R U : Type 0} where
  -- what the space was made with
  abbrev pub sizes : Space R U → Sizes
  sizes space = space.table.shared.key

  -- what the pass knows, and the part of it that isn't slots
  abbrev pub known : Pass R U → Mine U
  known pass = pass.seat.me

  abbrev pub view : Pass R U → View U
  view pass = pass.seat.me.0

  -- The pass is one of this space.
  abbrev pub IsOn : Space R U → Pass R U → Type 0
  IsOn space pass = IsOf space.table.shared.table_id space.table.shared.key pass.seat

  -- The pass was just made: it is one of this space's table, knows this, and has no slots.
  abbrev pub BeginsOn : Space R U → Pass R U → View U → Type 0
  BeginsOn space pass first = (pass.seat.table_id ≡ space.table.shared.table_id) × (pass.seat.me ≡ (first, []))

  -- So it is, and it is pinned: rows that it was shown stay as they are.
  pub record IsReading (space : Space R U) (pass : Pass R U) : Type 0 where
    pub own : IsOn space pass
    pub pinned : pass.seat.me.0.pin.pinned ≡ true

  -- The pass is one of this space, and isn't pinned. Its list is that of the rows that it keeps.
  pub record MayReclaim (space : Space R U) (pass : Pass R U) : Type 0 where
    pub own : IsOn space pass
    pub unpinned : pass.seat.me.0.pin.pinned ≡ false
    pub list : AreKept space.table.shared.key.rows pass.seat.me.0.claims pass.kept.rows

  -- It is the same pass.
  pub record IsSamePass (pass new : Pass R U) : Type 0 where
    pub same : IsSame pass.seat new.seat
    pub number : new.number ≡ pass.number
    pub tally : new.tally ≡ pass.tally

  -- So it is, and it keeps the same rows.
  pub record KeepsList (pass new : Pass R U) : Type 0 where
    pub same : IsSame pass.seat new.seat
    pub number : new.number ≡ pass.number
    pub tally : new.tally ≡ pass.tally
    pub kept : new.kept ≡ pass.kept

  -- It is the same pass, and it keeps the same rows. One split more is in its tally where one was carried out.
  pub record CountsSplit (won : Bool) (pass new : Pass R U) : Type 0 where
    pub same : IsSame pass.seat new.seat
    pub number : new.number ≡ pass.number
    pub tally : HasTallied won pass.tally new.tally
    pub kept : new.kept ≡ pass.kept

  -- It is the same pass, and it keeps the same rows. One join more is in its tally where one was carried out.
  pub record CountsJoin (won : Bool) (pass new : Pass R U) : Type 0 where
    pub same : IsSame pass.seat new.seat
    pub number : new.number ≡ pass.number
    pub tally : HasTalliedJoin won pass.tally new.tally
    pub kept : new.kept ≡ pass.kept

  -- It is the same pass, keeps the same rows, and learnt nothing.
  pub record OnlyReads (pass new : Pass R U) : Type 0 where
    pub same : IsSame pass.seat new.seat
    pub number : new.number ≡ pass.number
    pub tally : new.tally ≡ pass.tally
    pub kept : new.kept ≡ pass.kept
    pub still : new.seat.me ≡ pass.seat.me

  -- It is the same pass, and only what it knows of the pool and what rows are its changed.
  pub record IsStillPass (pass new : Pass R U) : Type 0 where
    pub same : IsStill pass.seat new.seat
    pub number : new.number ≡ pass.number
    pub tally : new.tally ≡ pass.tally

  -- So it is, and it keeps the same rows.
  pub record StillKeepsList (pass new : Pass R U) : Type 0 where
    pub same : IsStill pass.seat new.seat
    pub number : new.number ≡ pass.number
    pub tally : new.tally ≡ pass.tally
    pub kept : new.kept ≡ pass.kept
