-- The objects that clients put.
use Rattle.std.proofs.Common.{ℕ, ◌<◌, [], ◌∷◌, refl, arith}
use Rattle.ca_term.specs.Code.{four_bytes}
use Rattle.ca_term.specs.Grammar.{NoCode, OneMore}
use Rattle.ca_model.specs.StoreMap.{IsPair}
use Rattle.ca_model.proofs.Samples.{key_code}

-- Two numbers of four bytes each, of which the first is 1.
pub sample : (a b c x y z : ℕ) → a < 256 → b < 256 → c < 256 → x < 256 → y < 256 → z < 256
    → IsPair 1 (0x24 ∷ 1 ∷ a ∷ b ∷ c ∷ [], 0x40 ∷ 0 ∷ 0 ∷ 0 ∷ 2 ∷ 0x24 ∷ 1 ∷ a ∷ b ∷ c ∷ 0x24 ∷ 1 ∷ x ∷ y ∷ z ∷ [])
unfolding four_bytes
sample a b c x y z al bl cl xl yl zl = record {
  before = 0;
  behind = 1;
  codes_before = [];
  codes_behind = 0x24 ∷ 1 ∷ x ∷ y ∷ z ∷ [];
  place = refl;
  narrow = omega arith;
  bytes = refl;
  are_before = NoCode 191;
  is_key = key_code a b c al bl cl;
  are_behind = OneMore 191 0 (0x24 ∷ 1 ∷ x ∷ y ∷ z ∷ []) [] (key_code x y z xl yl zl) (NoCode 191);
  short = omega arith;
}
