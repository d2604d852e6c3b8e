-- What two prefixes have in common, to which both are trimmed.
use Rattle.std.proofs.Common.{◌≡◌, ℕ, ◌<◌, ◌≤◌, List, length, take, get_or, sym, refl, ap, ◌∙◌, ⊎_elim, arith, le_refl}
use Rattle.std.proofs.lemmas.Bool.{cases_lt}
use Rattle.std.proofs.lemmas.List.{get_or-take, take_all}
use Rattle.ca_base.specs.declared.prefixes.Trimmed.{Trimmed}
use Rattle.ca_base.specs.Joined.{AreTrimmed}
use Rattle.ca_base.specs.Prefixes.{AreShared, IsTrimmed}

-- A list begins with all of itself.
shared_self : (a : List ℕ) (n : ℕ) → AreShared a a n → n ≡ length a
shared_self a n s = ⊎_elim (λ (l : n < length a). absurd (s.longest l l refl)) (λ (h : length a ≤ n). let w = s.within in omega arith)
    (cases_lt n (length a))

trimmed_self : (a new : List ℕ) (lead bytes : ℕ) → IsTrimmed a a new lead bytes → new ≡ a
trimmed_self a new lead bytes t = t.new_is ∙ (ap (λ (n : ℕ). take n a) (shared_self a (length new) t.shared) ∙ take_all (length a) a (le_refl (length a)))

-- Two lists begin with so many equal elements, whichever comes first.
no_less : (a b : List ℕ) (n m : ℕ) → AreShared a b n → AreShared b a m → m ≤ n
no_less a b n m s t = ⊎_elim
    (λ (l : n < m). let w = t.within in let v = t.within_both in absurd (s.longest (omega arith) (omega arith)
    (sym (get_or-take m a n 0 l) ∙ (ap (λ (xs : List ℕ). get_or xs n 0) (sym t.alike) ∙ get_or-take m b n 0 l))))
    (λ (h : m ≤ n). h) (cases_lt n m)

shared_both : (a b : List ℕ) (n m : ℕ) → AreShared a b n → AreShared b a m → n ≡ m
shared_both a b n m s t = let x = no_less a b n m s t in let y = no_less b a m n t s in omega arith

-- One has no item.
pub left_trimmed : (low high : List ℕ) (many more : ℕ) (t : Trimmed) → many ≡ 0
    → IsTrimmed high high t.prefix.now t.shift.lead t.shift.bytes → AreTrimmed low many high more t t
left_trimmed low high many more t none is = record {
  one = refl;
  shifts = (is.shift, is.shift);
  both = λ a b. absurd (omega arith);
  left_alone = λ a b. absurd (omega arith);
  right_alone = λ a. trimmed_self high t.prefix.now t.shift.lead t.shift.bytes is;
  left_words = λ a. absurd (omega arith);
  right_words = λ a. (high, is);
}

pub right_trimmed : (low high : List ℕ) (many more : ℕ) (t : Trimmed) → 0 < many → more ≡ 0
    → IsTrimmed low low t.prefix.now t.shift.lead t.shift.bytes → AreTrimmed low many high more t t
right_trimmed low high many more t some none is = record {
  one = refl;
  shifts = (is.shift, is.shift);
  both = λ a b. absurd (omega arith);
  left_alone = λ a b. trimmed_self low t.prefix.now t.shift.lead t.shift.bytes is;
  right_alone = λ a. absurd (omega arith);
  left_words = λ a. (low, is);
  right_words = λ a. absurd (omega arith);
}

-- Both have some.
pub both_trimmed : (low high : List ℕ) (many more : ℕ) (first second : Trimmed) → 0 < many → 0 < more
    → IsTrimmed low high first.prefix.now first.shift.lead first.shift.bytes
    → IsTrimmed high low second.prefix.now second.shift.lead second.shift.bytes → AreTrimmed low many high more first second
both_trimmed low high many more first second some any s t = record {
  one = s.new_is ∙ (s.shared.alike ∙ (ap (λ (n : ℕ). take n high) (shared_both low high (length first.prefix.now) (length second.prefix.now) s.shared t.shared)
      ∙ sym t.new_is));
  shifts = (s.shift, t.shift);
  both = λ a b. s.shared;
  left_alone = λ a b. absurd (omega arith);
  right_alone = λ a. absurd (omega arith);
  left_words = λ a. (high, s);
  right_words = λ a. (low, t);
}
