-- What tapes take and keep.
use Rattle.std.specs.Prelude.{ℕ, ◌-◌, min, nat_le, Bool, ◌==◌, ◌||◌, ◌&&◌, if◌then◌else◌, List, ◌++◌, length, take, Option, None, Some}
use Rattle.std.specs.List.{list_any}
use Rattle.ca_outside.specs.Count.{next_count}

pub record TapeState : Type 0 where
  pub taken : List ℕ
  -- how many bytes it takes in all
  pub room : ℕ
  -- how many bytes it takes at a write
  pub most : ℕ
  -- the numbers of the writes that fail; the first write has the number 1
  pub fails : List ℕ
  -- how many writes there were
  pub writes : ℕ
  pub faults : ℕ

-- the next write fails
abbrev pub write_fails : TapeState → Bool
write_fails tape = list_any (λ n. n == next_count tape.writes) tape.fails || nat_le tape.room (length tape.taken)

-- how many of these bytes the next write takes, if it doesn't fail
abbrev pub count_taken : TapeState → List ℕ → ℕ
count_taken tape bytes = min (length bytes) (min tape.most (tape.room - length tape.taken))

-- the tape after a write of these bytes
abbrev pub after_write : TapeState → List ℕ → TapeState
after_write tape bytes = record {
  taken = if write_fails tape then tape.taken else tape.taken ++ take (count_taken tape bytes) bytes;
  room = tape.room;
  most = tape.most;
  fails = tape.fails;
  writes = next_count tape.writes;
  faults = if write_fails tape then next_count tape.faults else tape.faults;
}

pub record SureTapeState : Type 0 where
  pub kept : List ℕ
  -- how many bytes it keeps
  pub room : ℕ
  -- all of the bytes that it took are kept
  pub whole : Bool

-- the bytes taken, where all of them are kept
abbrev pub told : SureTapeState → Option (List ℕ)
told tape = if tape.whole then Some tape.kept else None

-- nothing was left out, and these bytes fit too
abbrev pub has_room : SureTapeState → List ℕ → Bool
has_room tape bytes = tape.whole && nat_le (length bytes) (tape.room - length tape.kept)

-- the tape after a write of these bytes
abbrev pub after_sure_write : SureTapeState → List ℕ → SureTapeState
after_sure_write tape bytes = record {
  kept = if has_room tape bytes then tape.kept ++ bytes else tape.kept;
  room = tape.room;
  whole = has_room tape bytes;
}
