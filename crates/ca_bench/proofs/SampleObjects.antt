-- Objects of numbers, with a counter each.
use Rattle.std.proofs.Common.{ℕ, suc, ◌<◌, List, [], ◌∷◌, refl, arith}
use Rattle.ca_term.specs.Code.{four_bytes}
use Rattle.ca_term.specs.Grammar.{AreCodesWithin, NoCode, OneMore}
use Rattle.ca_model.specs.StoreMap.{IsPair}
use Rattle.ca_model.proofs.Samples.{key_code}

-- One number of four bytes more, of which the first is 1.
more : (a b c size : ℕ) (rest : List ℕ) → a < 256 → b < 256 → c < 256 → AreCodesWithin 191 size rest
    → AreCodesWithin 191 (suc size) (0x24 ∷ 1 ∷ a ∷ b ∷ c ∷ rest)
more a b c size rest al bl cl are = OneMore 191 size (0x24 ∷ 1 ∷ a ∷ b ∷ c ∷ []) rest (key_code a b c al bl cl) are

-- What stands behind the key: the numbers 2 ^ 24 + 1 to 2 ^ 24 + 5, and a counter.
abbrev pub behind_key : ℕ → ℕ → ℕ → List ℕ
behind_key x y z =
    0x24 ∷ 1 ∷ 0 ∷ 0 ∷ 1 ∷ 0x24 ∷ 1 ∷ 0 ∷ 0 ∷ 2 ∷ 0x24 ∷ 1 ∷ 0 ∷ 0 ∷ 3 ∷ 0x24 ∷ 1 ∷ 0 ∷ 0 ∷ 4 ∷ 0x24 ∷ 1 ∷ 0 ∷ 0 ∷ 5 ∷ 0x24 ∷ 1 ∷ x ∷ y ∷ z ∷ []

are_behind_key : (x y z : ℕ) → x < 256 → y < 256 → z < 256 → AreCodesWithin 191 6 (behind_key x y z)
are_behind_key x y z xl yl zl =
    more 0 0 1 5 _ (omega arith) (omega arith) (omega arith) (
    more 0 0 2 4 _ (omega arith) (omega arith) (omega arith) (
    more 0 0 3 3 _ (omega arith) (omega arith) (omega arith) (
    more 0 0 4 2 _ (omega arith) (omega arith) (omega arith) (
    more 0 0 5 1 _ (omega arith) (omega arith) (omega arith) (more x y z 0 [] xl yl zl (NoCode 191))
    )
    )
    )
    )

-- A key, five numbers and a counter are an object and its key.
pub sample : (a b c x y z : ℕ) → a < 256 → b < 256 → c < 256 → x < 256 → y < 256 → z < 256
    → IsPair 1 (0x24 ∷ 1 ∷ a ∷ b ∷ c ∷ [], 0x40 ∷ 0 ∷ 0 ∷ 0 ∷ 7 ∷ 0x24 ∷ 1 ∷ a ∷ b ∷ c ∷ behind_key x y z)
unfolding four_bytes
sample a b c x y z al bl cl xl yl zl = record {
  before = 0;
  behind = 6;
  codes_before = [];
  codes_behind = behind_key x y z;
  place = refl;
  narrow = omega arith;
  bytes = refl;
  are_before = NoCode 191;
  is_key = key_code a b c al bl cl;
  are_behind = are_behind_key x y z xl yl zl;
  short = omega arith;
}
