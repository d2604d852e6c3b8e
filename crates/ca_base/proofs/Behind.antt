-- Heads of keys behind a prefix, and keys between two that share one.
use Rattle.std.proofs.Common.{◌≡◌, ◌≢◌, ℕ, zero, suc, ◌+◌, ◌-◌, ◌*◌, ◌/◌, ◌%◌, ◌^◌, ◌<◌, ◌≤◌, min, List, [], ◌∷◌, ◌++◌, length, map, take, drop, get_or, sym, refl, ap, ◌∙◌, subst, ⊎_elim, arith, length-drop}
use Rattle.std.proofs.Math.Nat.{mul-le-mul_right, pow-suc, zero-div, mul_assoc, mul-add-div_right, div-div-eq-div-mul, div-eq_of_lt, pow-le-pow_right}
use Rattle.std.proofs.lemmas.Bool.{cases_lt}
use Rattle.std.proofs.lemmas.List.{get_or-drop, take-append-drop, drop-append-le, length-take-le}
use Rattle.std.proofs.lemmas.Nat.{shr_below}
use Rattle.std.specs.Ordering.{nat_cmp, ordering_then}
use Rattle.std.specs.declared.cmp.Ordering.{Ordering}
use Rattle.std.specs.declared.cmp.Ordering.TheVariants.{Less, Equal, Greater}
use Rattle.ca_term.proofs.Bytes.{bytes_itself}
use Rattle.ca_term.proofs.Numbers.{greater, same}
use Rattle.ca_model.specs.StoreMap.{bytes_cmp}
use Rattle.ca_node.specs.Row.{front_of, row_in, head_in}
use Rattle.ca_node.proofs.WordOrder.{parts_decide, rests_decide}
use Rattle.ca_base.specs.Prefixes.{IsShift, IsTrimmed, AreShared, reheaded}
use Rattle.ca_base.proofs.Heads.{AreSmall, rest_small, front_fits}
use Rattle.ca_node.proofs.WordBytes.{pow256}

-- A head without its last byte is that of one byte less.
front_less : (n : ℕ) (bytes : List ℕ) → AreSmall (suc n) bytes
    → front_of (suc n) bytes / 256 ≡ front_of n bytes
front_less zero [] small = omega arith
front_less zero (x ∷ xs) small = let l = small 0 (omega arith) in omega arith
front_less (suc n) [] small = omega arith
front_less (suc n) (x ∷ xs) small =
    let e : x * 256 ^ suc n ≡ x * 256 ^ n * 256 = ap (λ (p : ℕ). x * p) (pow-suc 256 n)
    ∙ sym (mul_assoc x (256 ^ n) 256) in
    ap (λ (v : ℕ). (v + front_of (suc n) xs) / 256) e
    ∙ (mul-add-div_right {m = 256} (omega arith) (x * 256 ^ n) (front_of (suc n) xs)
    ∙ ap (λ (v : ℕ). x * 256 ^ n + v) (front_less n xs (rest_small (suc n) x xs small)))

-- The head of bytes and others behind them: that of the others loses as many bytes.
pub front_joined : (n : ℕ) (a b : List ℕ) → AreSmall n b
    → front_of n (a ++ b) ≡ front_of n a + front_of n b / 256 ^ length a
front_joined zero a b small = let e = zero-div (256 ^ length a) in omega arith
front_joined (suc n) [] b small = omega arith
front_joined (suc n) (x ∷ a) b small =
    let more = front_joined n a b (λ i l. small i (omega arith)) in
    let p : ℕ = 256 ^ length a in
    let e : 256 ^ suc (length a) ≡ 256 * p = omega (arith, pow-suc 256 (length a)) in
    let f : front_of (suc n) b / 256 ^ suc (length a) ≡ front_of n b / p =
    ap (λ (q : ℕ). front_of (suc n) b / q) e
    ∙ (sym (div-div-eq-div-mul (front_of (suc n) b) 256 p)
    ∙ ap (λ (v : ℕ). v / p) (front_less n b small)) in
    omega arith

-- It leaves room for that.
pub lead_fits : (n : ℕ) (a : List ℕ) → AreSmall n a
    → front_of n a + 256 ^ (n - length a) ≤ 256 ^ n
lead_fits zero a small = let e : 0 - length a ≡ 0 = omega arith in
    let one : 256 ^ (0 - length a) ≡ 1 = ap (λ (k : ℕ). 256 ^ k) e in omega arith
lead_fits (suc n) [] small = let e : 256 ^ (suc n - 0) ≡ 256 ^ suc n = ap (λ (k : ℕ). 256 ^ k) (omega arith) in
    omega (arith, e)
lead_fits (suc n) (x ∷ xs) small = let first = small 0 (omega arith) in
    let rest = lead_fits n xs (rest_small n x xs small) in
    let e : 256 ^ (suc n - suc (length xs)) ≡ 256 ^ (n - length xs) = ap (λ (k : ℕ). 256 ^ k) (omega arith) in
    omega (arith, pow-suc 256 n, mul-le-mul_right {m = suc x} {n = 256} (256 ^ n) (omega arith))

-- All bytes of a list are.
pub small_behind : (n k : ℕ) (xs : List ℕ) → ((i : ℕ) → get_or xs i 0 < 256)
    → AreSmall n (drop k xs)
small_behind n k xs small i _ = subst (λ (x : ℕ). x < 256) (sym (get_or-drop k xs i 0)) (small (k + i))

-- A key that begins with a prefix: its head behind a part of that prefix is made of the rest of the
-- prefix, and of the head behind all of it.
pub head_behind : (p key : List ℕ) (n : ℕ) → n ≤ length p → take (length p) key ≡ p
    → ((i : ℕ) → get_or key i 0 < 256)
    → front_of 5 (drop n key)
    ≡ front_of 5 (drop n p) + front_of 5 (drop (length p) key) / 256 ^ min (length p - n) 5
head_behind p key n l begins small =
    let rest : List ℕ = drop (length p) key in let few = small_behind 5 (length p) key small in
    let whole : p ++ rest ≡ key = ap (λ (xs : List ℕ). xs ++ rest) (sym begins) ∙ take-append-drop (length p) key in
    let parts : drop n key ≡ drop n p ++ rest = ap (drop n) (sym whole) ∙ drop-append-le n p rest l in
    let long : length (drop n p) ≡ length p - n = length-drop n p in
    ap (front_of 5) parts ∙ (front_joined 5 (drop n p) rest few
    ∙ ap (λ (v : ℕ). front_of 5 (drop n p) + v) (ap (λ (k : ℕ). front_of 5 rest / 256 ^ k) long ∙ ⊎_elim
    (λ (more : 5 < length p - n).
    let fits = front_fits 5 rest few in
    let wide : 256 ^ 5 ≤ 256 ^ (length p - n) = pow-le-pow_right {n = 256} (omega arith) {i = 5} {j = length p - n} (omega arith) in
    let five : min (length p - n) 5 ≡ 5 = omega arith in
    div-eq_of_lt {n = front_of 5 rest} {m = 256 ^ (length p - n)} (omega arith)
    ∙ sym (ap (λ (k : ℕ). front_of 5 rest / 256 ^ k) five
    ∙ div-eq_of_lt {n = front_of 5 rest} {m = 256 ^ 5} fits))
    (λ (some : length p - n ≤ 5). let same : min (length p - n) 5 ≡ length p - n = omega arith in
    ap (λ (k : ℕ). front_of 5 rest / 256 ^ k) (sym same))
    (cases_lt 5 (length p - n))))

-- What a prefix is trimmed to by a key.
pub trims : (old key new : List ℕ) (n lead bytes : ℕ) → ((i : ℕ) → get_or old i 0 < 256)
    → new ≡ take n old → AreShared old key n → lead ≡ front_of 5 (drop n old)
    → bytes ≡ min (length (drop n old)) 5 → IsTrimmed old key new lead bytes
trims old key new n lead bytes small new_is s lead_is bytes_are = let within = s.within in
    let long : length new ≡ n = ap (λ (xs : List ℕ). length xs) new_is ∙ length-take-le n old within in
    let some : 5 - bytes ≡ 5 - length (drop n old) = omega arith in
    let fits = lead_fits 5 (drop n old) (small_behind 5 n old small) in record {
      new_is = new_is ∙ ap (λ (k : ℕ). take k old) (sym long);
      shared = subst (AreShared old key) (sym long) s;
      lead_is = lead_is ∙ ap (λ (k : ℕ). front_of 5 (drop k old)) (sym long);
      bytes_are = omega (arith, length-drop n old);
      shift = (
        omega arith,
        subst (λ (x : ℕ × ℕ). x.0 + 256 ^ x.1 ≤ 1099511627776) (λ i. (sym lead_is i, sym some i)) fits,
      );
    }

-- A head that lost bytes has room for what comes before it.
pub shift_fits : (lead bytes word : ℕ) → IsShift lead bytes → word < 2 ^ 64
    → lead + word / 16777216 / 2 ^ (8 * bytes) < 1099511627776
shift_fits lead bytes word s fits =
    let all : 40 ≡ 8 * (5 - bytes) + 8 * bytes = let b = s.0 in omega arith in
    let head : word / 16777216 < 2 ^ 40 = omega arith in
    let less : word / 16777216 / 2 ^ (8 * bytes) < 2 ^ (8 * (5 - bytes)) =
    shr_below (word / 16777216) (8 * (5 - bytes)) (8 * bytes)
    (subst (λ (k : ℕ). word / 16777216 < 2 ^ k) all head) in
    let same : 256 ^ (5 - bytes) ≡ 2 ^ (8 * (5 - bytes)) = pow256 (5 - bytes) in
    let room = s.1 in omega arith

-- Nothing is before a head that loses nothing.
pub no_shift : (lead bytes word : ℕ) → IsShift lead bytes → bytes ≡ 0
    → word ≡ reheaded lead bytes word
no_shift lead bytes word s none =
    let room : lead + 256 ^ 5 ≤ 1099511627776 = subst (λ (k : ℕ). lead + 256 ^ (5 - k) ≤ 1099511627776) none s.1 in
    let first : lead ≡ 0 = omega arith in
    sym (ap (λ (k : ℕ). (lead + head_in word / 256 ^ k) * 16777216 + row_in word) none ∙ omega arith)

pub none_shifted : (words : List ℕ) → map (reheaded 0 0) words ≡ words
none_shifted [] = refl
none_shifted (word ∷ words) = let same : reheaded 0 0 word ≡ word = omega arith in
    ap (λ (w : ℕ). w ∷ map (reheaded 0 0) words) same ∙ ap (λ (ws : List ℕ). word ∷ ws) (none_shifted words)

-- As shifts do it.
pub shift_is : (lead bytes word : ℕ)
    → (lead + word / 16777216 / 2 ^ (8 * bytes)) * 16777216 + word % 16777216
    ≡ reheaded lead bytes word
shift_is lead bytes word =
    ap (λ (p : ℕ). (lead + word / 16777216 / p) * 16777216 + word % 16777216) (sym (pow256 bytes))

-- The row is as it was, and the head is that.
pub reheaded_row : (lead bytes word : ℕ) → row_in (reheaded lead bytes word) ≡ row_in word
reheaded_row lead bytes word = omega arith

pub reheaded_head : (lead bytes word : ℕ)
    → head_in (reheaded lead bytes word) ≡ lead + head_in word / 256 ^ bytes
reheaded_head lead bytes word = omega arith

-- Keys that begin alike stand as they do behind that.
pub alike_behind : (n : ℕ) (a b : List ℕ) → take n a ≡ take n b
    → bytes_cmp a b ≡ bytes_cmp (drop n a) (drop n b)
alike_behind n a b alike = rests_decide n a b
    (ap (bytes_cmp (take n a)) (sym alike) ∙ bytes_itself (take n a))

-- Where a prefix differs from the front of a key, any key that begins with it stands so.
pub prefix_decides : (p a key : List ℕ) → take (length p) a ≡ p
    → bytes_cmp p (take (length p) key) ≢ Equal
    → bytes_cmp a key ≡ bytes_cmp p (take (length p) key)
prefix_decides p a key begins not =
    let same = ap (λ (xs : List ℕ). bytes_cmp xs (take (length p) key)) begins in
    parts_decide (length p) a key (λ e. not (sym same ∙ e)) ∙ same

-- A key between two that begin alike begins so, too.
pub between : (n : ℕ) (a b c : List ℕ) → n ≤ length a → bytes_cmp a b ≡ Less
    → bytes_cmp b c ≡ Less → take n a ≡ take n c → take n b ≡ take n a
between zero a b c long low high alike = refl
between (suc n) [] b c long low high alike = absurd (omega arith)
between (suc n) (x ∷ a) [] c long low high alike = cc
between (suc n) (x ∷ a) (y ∷ b) [] long low high alike = cc
between (suc n) (x ∷ a) (y ∷ b) (z ∷ c) long low high alike =
    let alike_first : x ≡ z = ap (λ (xs : List ℕ). get_or xs 0 0) alike in
    let rests : take n a ≡ take n c = ap (λ (xs : List ℕ). drop 1 xs) alike in ⊎_elim
    (λ (l : y < x). let e : Greater ≡ Less = sym (first (nat_cmp x y) (bytes_cmp a b) Greater (greater x y l) refl) ∙ low in cc)
    (λ (l : x ≤ y). ⊎_elim
    (λ (m : z < y). let e : Greater ≡ Less = sym (first (nat_cmp y z) (bytes_cmp b c) Greater (greater y z m) refl) ∙ high in cc)
    (λ (m : y ≤ z). let here : y ≡ x = omega arith in let there : y ≡ z = omega arith in
    let low' : bytes_cmp a b ≡ Less = sym (next (nat_cmp x y) (bytes_cmp a b) (ap (nat_cmp x) here ∙ same_number x)) ∙ low in
    let high' : bytes_cmp b c ≡ Less = sym (next (nat_cmp y z) (bytes_cmp b c) (ap (nat_cmp y) (sym there) ∙ same_number y)) ∙ high in
    ap (λ (v : ℕ). v ∷ take n b) here
    ∙ ap (λ (xs : List ℕ). x ∷ xs) (between n a b c (omega arith) low' high' rests))
    (cases_lt z y))
    (cases_lt y x)
  where
    first : (o rest wanted : Ordering) → o ≡ wanted → wanted ≡ Greater → ordering_then o rest ≡ Greater
    first o rest wanted e f = ap (λ (q : Ordering). ordering_then q rest) (e ∙ f)

    next : (o rest : Ordering) → o ≡ Equal → ordering_then o rest ≡ rest
    next o rest e = ap (λ (q : Ordering). ordering_then q rest) e

    same_number : (v : ℕ) → nat_cmp v v ≡ Equal
    same_number v = same v
