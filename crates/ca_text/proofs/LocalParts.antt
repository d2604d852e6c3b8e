-- The readers of numbers, names, characters and binaries look no further than one byte ahead.
use Rattle.std.proofs.Common.{◌≡◌, ℕ, zero, suc, ◌+◌, ◌-◌, ◌*◌, ◌^◌, ltb, leb, eqb, ◌&&◌, List, [], ◌∷◌, Option, None, Some, Ok, pos, neg_ℤ, refl}
use Rattle.std.specs.Char.{is_ascii_digit, is_ascii_hexdigit, digit_value}
use Rattle.ca_text.specs.Bytes.{backslash, close_brace, digit_zero, letter_x, minus_sign, open_brace}
use Rattle.ca_text.specs.Grammar.{escape_of}
use Rattle.ca_text.specs.declared.fault.Why.{Why}
use Rattle.ca_text.specs.declared.fault.Why.TheVariants.{Syntax}
use Rattle.ca_text.specs.Inner.Reading.{◌>>=◌, Read, expect, digits_after, number_at, negative_at, positive_at, integer_at, point_at, is_point, may_stand, hex_after, hex_at, escape_at, begins_character, character_at, next_point_at, closing_at, points_after, characters_at}
use Rattle.ca_text.proofs.Points.{point_local}
use Rattle.ca_text.proofs.Tools.{either_way}
use Rattle.ca_text.proofs.Local.{LocalAt, IsLocal, end_local, nil_local, fault_local, done_local, stay_local, cons_local, same_local, pure_local, bind_local, expect_local}

either_letter : {C : Type 0} (o : Option ℕ) → (o ≡ None → C) → ((c : ℕ) × (o ≡ Some c) → C) → C
either_letter None f g = f refl
either_letter (Some c) f g = g (c, refl)

-- The reader of digits is local.
pub digits_local : (bytes : List ℕ) (most n : ℕ) → LocalAt (digits_after most n) bytes
unfolding digits_after
digits_local [] most n = end_local (digits_after most n) (Ok n) refl
digits_local (b ∷ bytes) most n =
    either_way (is_ascii_digit b)
    (λ h. either_way (leb (n * 10 + (b - digit_zero)) most)
    (λ i. cons_local (digits_after most n) (digits_after most (n * 10 + (b - digit_zero))) b bytes (λ zs. rw (h, i) refl)
    (digits_local bytes most (n * 10 + (b - digit_zero))))
    (λ i. fault_local (digits_after most n) Syntax b bytes (λ zs. rw (h, i) refl)))
    (λ h. stay_local (digits_after most n) n b bytes (λ zs. rw h refl))

-- The reader of numbers is local.
pub number_local : (most : ℕ) → IsLocal (number_at most)
unfolding number_at
number_local most [] = nil_local (number_at most) refl
number_local most (b ∷ bytes) =
    either_way (is_ascii_digit b)
    (λ h. same_local (number_at most) (digits_after most 0) b bytes (λ zs. rw h refl) (digits_local (b ∷ bytes) most 0))
    (λ h. fault_local (number_at most) Syntax b bytes (λ zs. rw h refl))

negative_local : IsLocal negative_at
negative_local = bind_local (number_at (2 ^ 63)) (λ n ys. Ok (neg_ℤ (pos n), ys)) (number_local (2 ^ 63)) (λ n. pure_local (neg_ℤ (pos n)))

positive_local : IsLocal positive_at
positive_local = bind_local (number_at (2 ^ 63 - 1)) (λ n ys. Ok (pos n, ys)) (number_local (2 ^ 63 - 1)) (λ n. pure_local (pos n))

-- The reader of integers is local.
pub integer_local : IsLocal integer_at
unfolding integer_at
integer_local [] = nil_local integer_at refl
integer_local (b ∷ bytes) =
    either_way (eqb b minus_sign)
    (λ h. cons_local integer_at negative_at b bytes (λ zs. rw h refl) (negative_local bytes))
    (λ h. same_local integer_at positive_at b bytes (λ zs. rw h refl) (positive_local (b ∷ bytes)))

hex_after_local : (bytes : List ℕ) (most more c : ℕ) → LocalAt (hex_after most more c) bytes
unfolding hex_after
hex_after_local [] most more c = nil_local (hex_after most more c) refl
hex_after_local (b ∷ bytes) most more c =
    let next = c * 16 + digit_value b in
    either_way (is_ascii_hexdigit b && ltb 0 more)
    (λ h. either_way (may_stand most (more - 1) next)
    (λ i. cons_local (hex_after most more c) (hex_after most (more - 1) next) b bytes (λ zs. rw (h, i) refl) (hex_after_local bytes most (more - 1) next))
    (λ i. fault_local (hex_after most more c) Syntax b bytes (λ zs. rw (h, i) refl)))
    (λ h. either_way (eqb b close_brace && is_point most c)
    (λ i. done_local (hex_after most more c) c b bytes (λ zs. rw (h, i) refl))
    (λ i. fault_local (hex_after most more c) Syntax b bytes (λ zs. rw (h, i) refl)))

hex_local : (most : ℕ) → IsLocal (hex_at most)
unfolding hex_at
hex_local most [] = nil_local (hex_at most) refl
hex_local most (b ∷ bytes) =
    either_way (is_ascii_hexdigit b)
    (λ h. cons_local (hex_at most) (hex_after most 5 (digit_value b)) b bytes (λ zs. rw h refl) (hex_after_local bytes most 5 (digit_value b)))
    (λ h. fault_local (hex_at most) Syntax b bytes (λ zs. rw h refl))

escape_local : (most : ℕ) → IsLocal (escape_at most)
unfolding escape_at
escape_local most [] = nil_local (escape_at most) refl
escape_local most (b ∷ bytes) =
    either_way (eqb b letter_x)
    (λ h. cons_local (escape_at most) (λ xs. expect open_brace xs >>= λ rest. hex_at most rest) b bytes (λ zs. rw h refl)
    (expect_local (hex_at most) (hex_local most) open_brace bytes))
    (λ h. either_letter (escape_of b)
    (λ i. fault_local (escape_at most) Syntax b bytes (λ zs. rw (h, i) refl))
    (λ i. done_local (escape_at most) i.0 b bytes (λ zs. rw (h, i.1) refl)))

character_local : (close most : ℕ) → IsLocal (character_at close most)
unfolding character_at
character_local close most [] = nil_local (character_at close most) refl
character_local close most (b ∷ bytes) =
    either_way (eqb b backslash)
    (λ h. cons_local (character_at close most) (escape_at most) b bytes (λ zs. rw h refl) (escape_local most bytes))
    (λ h. either_way (begins_character close most b)
    (λ i. same_local (character_at close most) point_at b bytes (λ zs. rw (h, i) refl) (point_local (b ∷ bytes)))
    (λ i. fault_local (character_at close most) Syntax b bytes (λ zs. rw (h, i) refl)))

next_local : (close most : ℕ) → IsLocal (next_point_at close most)
unfolding next_point_at
next_local close most [] = nil_local (next_point_at close most) refl
next_local close most (b ∷ bytes) =
    let some = bind_local (character_at close most) (λ c ys. Ok (Some c, ys)) (character_local close most) (λ c. pure_local (Some c)) in
    either_way (eqb b close)
    (λ h. done_local (next_point_at close most) None b bytes (λ zs. rw h refl))
    (λ h. same_local (next_point_at close most) (λ xs. character_at close most xs >>= λ x. Ok (Some x.0, x.1)) b bytes (λ zs. rw h refl) (some (b ∷ bytes)))

last_local : (over : Why) (close most : ℕ) → IsLocal (characters_at over close most zero)
unfolding characters_at closing_at
last_local over close most [] = nil_local (characters_at over close most zero) refl
last_local over close most (b ∷ bytes) =
    either_way (eqb b close)
    (λ h. done_local (characters_at over close most zero) [] b bytes (λ zs. rw h refl))
    (λ h. either_way (begins_character close most b)
    (λ i. fault_local (characters_at over close most zero) over b bytes (λ zs. rw (i, h) refl))
    (λ i. fault_local (characters_at over close most zero) Syntax b bytes (λ zs. rw (i, h) refl)))

after_local : (next : List ℕ → Read (List ℕ)) → IsLocal next → (o : Option ℕ) → IsLocal (λ ys. points_after next (o, ys))
after_local next l None = pure_local []
after_local next l (Some c) = bind_local next (λ cs ys. Ok (c ∷ cs, ys)) l (λ cs. pure_local (c ∷ cs))

-- The reader of characters between quotes is local.
pub characters_local : (over : Why) (close most n : ℕ) → IsLocal (characters_at over close most n)
unfolding characters_at
characters_local over close most zero = last_local over close most
characters_local over close most (suc n) =
    bind_local (next_point_at close most) (λ o ys. points_after (characters_at over close most n) (o, ys)) (next_local close most)
    (after_local (characters_at over close most n) (characters_local over close most n))
