-- Prefixes that bases get, and what becomes of the words of their items.
use Rattle.std.specs.Prelude.{ℕ, ◌≤◌, List, length, map}
use Rattle.ca_base.specs.declared.prefixes.Shift.{Shift}
use Rattle.ca_base.specs.declared.prefixes.Trimmed.{Trimmed}
use Rattle.ca_base.specs.Prefixes.{IsShift, reheaded}

-- the words with their heads shifted
abbrev pub shifted_words : Shift → List ℕ → List ℕ
shifted_words shift words = map (reheaded shift.lead shift.bytes) words

-- The prefix is short enough for a base, and heads can be shifted so.
abbrev pub IsFront : Trimmed → Type 0
IsFront trimmed = (length trimmed.prefix.now ≤ 32) × IsShift trimmed.shift.lead trimmed.shift.bytes
