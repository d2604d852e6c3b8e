-- Digits that stand as they are or complemented, and where they are stuck.
use Rattle.std.proofs.Common.{◌≡◌, ℕ, zero, suc, ◌≤◌, ◌<◌, ◌+◌, ◌-◌, ◌*◌, ◌^◌, Bool, true, false, List, [], ◌∷◌, ◌++◌, length, take, get_or, arith, add-one, refl, sym, ◌∙◌, ap, subst, length-append}
use Rattle.std.proofs.lemmas.List.{take_more}
use Rattle.std.proofs.Math.Nat.{pow-suc, pow-le-pow_right}
use Rattle.ca_term.specs.Tree.{AreBytes}
use Rattle.ca_term.specs.Code.{complement}
use Rattle.ca_term.specs.Grammar.{AreDigits, number}
use Rattle.ca_term.proofs.DigitBytes.{head_byte, tail_bytes, cons_bytes, no_bytes}
use Rattle.ca_order.specs.Stuck.{IsStuck}
use Rattle.ca_order.specs.Languages.{HasDigits, CanBegin, turned, turned_byte}
use Rattle.ca_order.specs.Reads.{BeginsWithDigits}
use Rattle.ca_order.proofs.Starts.{stuck_here, stuck_at_end}

-- ---- part by part

-- Digits are turned one by one.
pub turned_cons : (neg : Bool) (b : ℕ) (bs : List ℕ) → turned neg (b ∷ bs) ≡ turned_byte neg b ∷ turned neg bs
unfolding complement
turned_cons true b bs = refl
turned_cons false b bs = refl

-- No digits turned are no digits.
pub turned_nil : (neg : Bool) → turned neg [] ≡ []
unfolding complement
turned_nil true = refl
turned_nil false = refl

turned_append : (neg : Bool) (xs ys : List ℕ) → turned neg (xs ++ ys) ≡ turned neg xs ++ turned neg ys
turned_append neg [] ys = rw (turned_nil neg) refl
turned_append neg (x ∷ xs) ys = rw (turned_cons neg x (xs ++ ys), turned_cons neg x xs, turned_append neg xs ys) refl

-- Turned digits are as many.
pub length_turned : (neg : Bool) (xs : List ℕ) → length (turned neg xs) ≡ length xs
length_turned neg [] = rw (turned_nil neg) refl
length_turned neg (x ∷ xs) = omega (arith, ap length (turned_cons neg x xs), length_turned neg xs)

turned_back : (neg : Bool) (b : ℕ) → b < 256 → turned_byte neg (turned_byte neg b) ≡ b
turned_back true b h = omega arith
turned_back false b h = refl

-- Digits turned twice are as they were.
pub turned_twice : (neg : Bool) (bs : List ℕ) → AreBytes bs → turned neg (turned neg bs) ≡ bs
turned_twice neg [] h = rw (turned_nil neg, turned_nil neg) refl
turned_twice neg (b ∷ bs) h =
    let t : turned neg (turned neg bs) ≡ bs = turned_twice neg bs (tail_bytes b bs h) in
    rw (turned_cons neg b bs, turned_cons neg (turned_byte neg b) (turned neg bs), turned_back neg b (head_byte b bs h), t) refl

byte_turned : (neg : Bool) (b : ℕ) → b < 256 → turned_byte neg b < 256
byte_turned true b h = omega arith
byte_turned false b h = h

bytes_turned : (neg : Bool) (bs : List ℕ) → AreBytes bs → AreBytes (turned neg bs)
bytes_turned neg [] h = rw (turned_nil neg) no_bytes
bytes_turned neg (b ∷ bs) h =
    rw (turned_cons neg b bs) (cons_bytes (turned_byte neg b) (turned neg bs) (byte_turned neg b (head_byte b bs h)) (bytes_turned neg bs (tail_bytes b bs h)))

-- ---- the number, digit by digit

number_push : (ds : List ℕ) (b : ℕ) → number (ds ++ b ∷ []) ≡ number ds * 256 + b
number_push [] b = omega arith
number_push (d ∷ ds) b =
    let l : length (ds ++ b ∷ []) ≡ suc (length ds) = omega (arith, length-append ds (b ∷ [])) in
    let p : 256 ^ length (ds ++ b ∷ []) ≡ 256 ^ length ds * 256 = ap (λ k. 256 ^ k) l ∙ pow-suc 256 (length ds) in
    rw (p, number_push ds b) (omega arith)

-- One more digit makes the number 256 times as large, and adds the digit.
pub number_more : (neg : Bool) (ds : List ℕ) (i b : ℕ) → i < length ds → b ≡ turned_byte neg (get_or ds i 0)
    → number (turned neg (take (i + 1) ds)) ≡ number (turned neg (take i ds)) * 256 + b
number_more neg ds i b h e =
    let t : take (i + 1) ds ≡ take i ds ++ get_or ds i 0 ∷ [] = take_more ds i 0 h in
    let u : turned neg (get_or ds i 0 ∷ []) ≡ b ∷ [] = turned_cons neg (get_or ds i 0) [] ∙ (λ j. sym e j ∷ turned_nil neg j) in
    ap (λ x. number (turned neg x)) t ∙ ap number (turned_append neg (take i ds) (get_or ds i 0 ∷ []) ∙ ap (λ x. turned neg (take i ds) ++ x) u)
    ∙ number_push (turned neg (take i ds)) b

-- A number of fewer than eight digits has room for one more.
pub fits_more : (n i : ℕ) → n < 256 ^ i → i < 8 → n * 256 + 255 < 2 ^ 64
fits_more n i h l =
    let p : 256 ^ i ≤ 256 ^ 7 = pow-le-pow_right {n = 256} (omega arith) {i = i} {j = 7} (omega arith) in
    omega arith

-- A number with one more digit is below the next power of 256.
pub small_more : (n i b : ℕ) → n < 256 ^ i → b < 256 → n * 256 + b < 256 ^ (i + 1)
small_more n i b h l =
    let p : 256 ^ (i + 1) ≡ 256 ^ i * 256 = (let q : i + 1 ≡ suc i = add-one i in ap (λ k. 256 ^ k) q) ∙ pow-suc 256 i in
    omega (arith, p)

-- ---- where digits are stuck

abbrev zeros : ℕ → List ℕ
zeros zero = []
zeros (suc n) = 0 ∷ zeros n

length_zeros : (n : ℕ) → length (zeros n) ≡ n
length_zeros zero = refl
length_zeros (suc n) = omega (arith, length_zeros n)

bytes_zeros : (n : ℕ) → AreBytes (zeros n)
bytes_zeros zero = no_bytes
bytes_zeros (suc n) = cons_bytes 0 (zeros n) (omega arith) (bytes_zeros n)

-- Bytes behind bytes are bytes.
pub bytes_append : (xs ys : List ℕ) → AreBytes xs → AreBytes ys → AreBytes (xs ++ ys)
bytes_append [] ys h k = k
bytes_append (x ∷ xs) ys h k = cons_bytes x (xs ++ ys) (head_byte x xs h) (bytes_append xs ys (tail_bytes x xs h) k)

-- digits whose first one may begin so many
pub are_digits_by : (d : ℕ) (ds : List ℕ) (len : ℕ) → length (d ∷ ds) ≡ len → len ≤ 8 → CanBegin d len → AreBytes (d ∷ ds) → AreDigits (d ∷ ds)
are_digits_by d ds len e l c h = (c.0, omega (arith, e), (λ f. c.1 (omega (arith, e, f))), h)

-- a byte that may begin no word
first_fits : (neg : Bool) (len : ℕ) (b : ℕ) (rest ds : List ℕ) → 1 ≤ len → AreDigits ds → length ds ≡ len → b ∷ rest ≡ turned neg ds
    → CanBegin (turned_byte neg b) len
first_fits neg len b rest [] l h e f = absurd (omega (arith, e))
first_fits neg len b rest (d ∷ ds) l h e f =
    let g : b ∷ rest ≡ turned_byte neg d ∷ turned neg ds = f ∙ turned_cons neg d ds in
    let first : b ≡ turned_byte neg d = cc in
    let same : turned_byte neg b ≡ d = ap (turned_byte neg) first ∙ turned_back neg d (head_byte d ds h.3) in
    subst (λ (x : ℕ). CanBegin x len) (sym same) (h.0, λ k. h.2 (omega (arith, e, h.1, k)))

-- Digits are stuck in front of a byte that may not be the first one.
pub stuck_first_digit : (neg : Bool) (len : ℕ) (bytes : List ℕ) → 1 ≤ len → len ≤ 8
    → ((b : ℕ) (more : List ℕ) → bytes ≡ b ∷ more → CanBegin (turned_byte neg b) len → ⊥) → IsStuck (HasDigits neg len) bytes bytes
stuck_first_digit neg zero bytes l m h = absurd (omega arith)
stuck_first_digit neg (suc k) bytes l m h =
    stuck_here (HasDigits neg (suc k)) bytes (turned_byte neg 1) (turned neg (zeros k))
    (record {
      digits = 1 ∷ zeros k;
      are_digits = are_digits_by 1 (zeros k) (suc k) (omega (arith, length_zeros k)) m (omega arith, λ _. omega arith)
          (cons_bytes 1 (zeros k) (omega arith) (bytes_zeros k));
      many = omega (arith, length_zeros k);
      code_is = sym (turned_cons neg 1 (zeros k));
    })
    (λ b more rest e w. h b more e (first_fits neg (suc k) b rest w.digits l w.are_digits w.many w.code_is))

more_digits : (neg : Bool) (len k : ℕ) (b : ℕ) (more : List ℕ) → length (b ∷ more) + suc k ≡ len → len ≤ 8 → AreBytes (b ∷ more)
    → CanBegin (turned_byte neg b) len → HasDigits neg len ((b ∷ more) ++ turned_byte neg 0 ∷ turned neg (zeros k))
more_digits neg len k b more e l h c =
    let all : AreBytes ((turned_byte neg b ∷ turned neg more) ++ zeros (suc k)) =
    bytes_append (turned_byte neg b ∷ turned neg more) (zeros (suc k)) (rw (turned_cons neg b more) at (bytes_turned neg (b ∷ more) h))
    (bytes_zeros (suc k)) in
    let n : length ((turned_byte neg b ∷ turned neg more) ++ zeros (suc k)) ≡ len =
    omega (arith, length-append (turned_byte neg b ∷ turned neg more) (zeros (suc k)), length_turned neg more, length_zeros (suc k), e) in
    let back : turned neg (turned_byte neg b ∷ turned neg more) ≡ b ∷ more = ap (turned neg) (sym (turned_cons neg b more)) ∙ turned_twice neg (b ∷ more) h in
    record {
      digits = (turned_byte neg b ∷ turned neg more) ++ zeros (suc k);
      are_digits = are_digits_by (turned_byte neg b) (turned neg more ++ zeros (suc k)) len n l c all;
      many = n;
      code_is = sym (turned_append neg (turned_byte neg b ∷ turned neg more) (zeros (suc k)) ∙ (λ i. back i ++ turned_cons neg 0 (zeros k) i));
    }

-- too few digits, the first of which may begin so many
pub stuck_short : (neg : Bool) (len b : ℕ) (more : List ℕ) → length (b ∷ more) < len → len ≤ 8 → AreBytes (b ∷ more) → CanBegin (turned_byte neg b) len
    → IsStuck (HasDigits neg len) (b ∷ more) []
stuck_short neg len b more h l a c =
    stuck_at_end (HasDigits neg len) (b ∷ more) (turned_byte neg 0) (turned neg (zeros (len - length (b ∷ more) - 1)))
    (more_digits neg len (len - length (b ∷ more) - 1) b more (omega arith) l a c)

-- enough digits
pub begins_with_digits : (neg : Bool) (len b : ℕ) (digits rest bytes : List ℕ) (value : ℕ) → bytes ≡ digits ++ rest → length digits ≡ len → 1 ≤ len → len ≤ 8
    → AreBytes digits → ((b : ℕ) (more : List ℕ) → bytes ≡ b ∷ more → CanBegin (turned_byte neg b) len) → value ≡ number (turned neg digits)
    → BeginsWithDigits neg len bytes value rest
begins_with_digits neg len b [] rest bytes value e n l m a c v = absurd (omega (arith, n))
begins_with_digits neg len b (d ∷ ds) rest bytes value e n l m a c v =
    let t : turned neg (d ∷ ds) ≡ turned_byte neg d ∷ turned neg ds = turned_cons neg d ds in
    let k : AreBytes (turned_byte neg d ∷ turned neg ds) = subst AreBytes t (bytes_turned neg (d ∷ ds) a) in
    record {
      digits = turned neg (d ∷ ds);
      are_digits = subst AreDigits (sym t) (are_digits_by (turned_byte neg d) (turned neg ds) len (omega (arith, n, length_turned neg ds)) m
          (c d (ds ++ rest) e) k);
      many = length_turned neg (d ∷ ds) ∙ n;
      value_is = v;
      parts = e ∙ ap (λ x. x ++ rest) (sym (turned_twice neg (d ∷ ds) a));
    }

-- No digits are read of any bytes.
pub no_digits : (neg : Bool) (bytes : List ℕ) → BeginsWithDigits neg 0 bytes 0 bytes
no_digits neg bytes = record { digits = []; are_digits = tt; many = refl; value_is = refl; parts = ap (λ x. x ++ bytes) (sym (turned_nil neg)) }

-- The front of bytes are bytes.
pub bytes_front : (xs ys : List ℕ) → AreBytes (xs ++ ys) → AreBytes xs
bytes_front [] ys h = no_bytes
bytes_front (x ∷ xs) ys h = cons_bytes x xs (head_byte x (xs ++ ys) h) (bytes_front xs ys (tail_bytes x (xs ++ ys) h))

-- One list has one first item.
pub same_first : (a b : ℕ) (xs ys zs : List ℕ) → zs ≡ a ∷ xs → zs ≡ b ∷ ys → a ≡ b
same_first a b xs ys zs e f = cc
