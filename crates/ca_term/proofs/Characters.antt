-- Where bytes stop to be a character.
use Rattle.std.proofs.Common.{◌≡◌, ℕ, ◌≤◌, ◌<◌, ◌+◌, true, List, [], ◌∷◌, ◌++◌, length, take, drop, slice_index, append-nil, length-append, None, Some, arith, refl, sym, ◌∙◌, ap, subst, ⊎_elim}
use Rattle.std.proofs.lemmas.Bool.{cases_lt, cases_eq}
use Rattle.std.proofs.lemmas.Bool.Decides.{nat_tests}
use Rattle.std.proofs.lemmas.List.{take_more}
use Rattle.std.proofs.str.Laws.{one}
use Rattle.std.specs.Char.{IsScalar, encode_utf8}
use Rattle.bstr.specs.Utf8.{Decoded, decoded, good, bad, second, continues, code_of_2, code_of_3, code_of_4}
use Rattle.bstr.proofs.lemmas.EncodeLemmas.{decoded-encode}
use Rattle.bstr.proofs.lemmas.PieceLemmas.{by-shape, value-2, value-3, value-5, value-6, value-8, value-9, value-11, value-12}
use Rattle.bstr.proofs.lemmas.SoundLemmas.{SpellsChar-decoded}
use Rattle.ca_term.specs.Character.{IsNoCharacter}

-- What is decoded as a character is the character's UTF-8 and what stands behind it.
pub spelled : (bs rest : List ℕ) (c size : ℕ) → (decoded bs).char ≡ Some c → size ≡ (decoded bs).size → rest ≡ drop size bs → bs ≡ encode_utf8 c ++ rest
spelled bs rest c size h e f = rw (f, e) (SpellsChar-decoded bs c h).bytes

-- A character that is decoded is a Unicode scalar value.
pub a_scalar : (bs : List ℕ) (c : ℕ) → (decoded bs).char ≡ Some c → IsScalar c
a_scalar bs c h = (SpellsChar-decoded bs c h).scalar

-- A character that is decoded has no more bytes than there are.
pub fits : (bs : List ℕ) (c size : ℕ) → (decoded bs).char ≡ Some c → size ≡ (decoded bs).size → size ≤ length bs
fits bs c size h e =
    let s = SpellsChar-decoded bs c h in
    omega (arith, s.width, ap length s.bytes, length-append (encode_utf8 c) (drop (decoded bs).size bs))

-- these bytes and at least one more are a character
record GoesOn (front : List ℕ) : Type 0 where
  char : ℕ
  is_scalar : IsScalar char
  next : ℕ
  rest : List ℕ
  begins : encode_utf8 char ≡ front ++ next ∷ rest

whole : (front : List ℕ) (next : ℕ) (rest : List ℕ) (c size : ℕ) → decoded (front ++ next ∷ rest) ≡ good c size → drop size (front ++ next ∷ rest) ≡ []
    → GoesOn front
whole front next rest c size d e =
    let s = SpellsChar-decoded (front ++ next ∷ rest) c (ap (λ (r : Decoded). r.char) d) in
    let none : drop (decoded (front ++ next ∷ rest)).size (front ++ next ∷ rest) ≡ [] = ap (λ (r : Decoded). drop r.size (front ++ next ∷ rest)) d ∙ e in
    record {
      char = c;
      is_scalar = s.scalar;
      next = next;
      rest = rest;
      begins = sym (s.bytes ∙ ap (λ x. encode_utf8 c ++ x) none ∙ append-nil (encode_utf8 c));
    }

goes_on_none : GoesOn []
goes_on_none = record { char = 97; is_scalar = refl; next = 97; rest = []; begins = one 97 (omega arith) }

goes_on_three : (b c d : ℕ) → 0xF0 ≤ b → b ≤ 0xF4 → second b c ≡ true → continues d ≡ true → GoesOn (b ∷ c ∷ d ∷ [])
goes_on_three b c d h k s t =
    whole (b ∷ c ∷ d ∷ []) 0x80 [] (code_of_4 b c d 0x80) 4 (value-12 4 b c d 0x80 (omega arith, h, k, s, t, refl)) refl

goes_on_two : (b c : ℕ) → 0xE0 ≤ b → b ≤ 0xF4 → second b c ≡ true → GoesOn (b ∷ c ∷ [])
goes_on_two b c h k s = ⊎_elim
    (λ l. whole (b ∷ c ∷ []) 0x80 [] (code_of_3 b c 0x80) 3 (value-9 3 b c 0x80 0 (omega arith, h, l, s, refl)) refl)
    (λ l. let g = goes_on_three b c 0x80 l k s refl in record {
      char = g.char;
      is_scalar = g.is_scalar;
      next = 0x80;
      rest = g.next ∷ g.rest;
      begins = g.begins;
    })
    (cases_lt b 0xF0)

-- a byte that may stand second
a_second : (b : ℕ) → 0xC2 ≤ b → b ≤ 0xF4 → (c : ℕ) × (second b c ≡ true)
a_second b h k = ⊎_elim
    (λ e. (0xA0, grind (arith, nat_tests)))
    (λ n. ⊎_elim (λ e. (0x80, grind (arith, nat_tests))) (λ m. (0x90, grind (arith, nat_tests))) (cases_eq b 0xF4))
    (cases_eq b 0xE0)

goes_on_one : (b : ℕ) → 0xC2 ≤ b → b ≤ 0xF4 → GoesOn (b ∷ [])
goes_on_one b h k =
    let s = a_second b h k in
    ⊎_elim
    (λ l. whole (b ∷ []) s.0 [] (code_of_2 b s.0) 2 (value-6 2 b s.0 0 0 (omega arith, h, l, s.1)) refl)
    (λ l. let g = goes_on_two b s.0 l k s.1 in record { char = g.char; is_scalar = g.is_scalar; next = s.0; rest = g.next ∷ g.rest; begins = g.begins })
    (cases_lt b 0xE0)

-- no character begins with these bytes
Stops : List ℕ → Type 0
Stops front = (more : List ℕ) → (decoded (front ++ more)).char ≡ None

stops : (front : List ℕ) → Stops front → (c : ℕ) (more : List ℕ) → IsScalar c → encode_utf8 c ≡ front ++ more → ⊥
unfolding Stops
stops front s c more h e =
    let d : decoded (encode_utf8 c ++ []) ≡ good c (length (encode_utf8 c)) = decoded-encode c [] h in
    let f : encode_utf8 c ++ [] ≡ front ++ more = append-nil (encode_utf8 c) ∙ e in
    let n : (decoded (front ++ more)).char ≡ Some c = ap (λ (x : List ℕ). (decoded x).char) (sym f) ∙ ap (λ (r : Decoded). r.char) d in
    let m = s more in
    cc

stopped : (bs : List ℕ) (at : ℕ) (front : List ℕ) → at ≤ length bs → take at bs ≡ front → GoesOn front
    → (at < length bs → Stops (front ++ slice_index bs at ∷ []))
    → IsNoCharacter bs at
stopped bs at front l f g s = record {
  in_range = l;
  char = g.char;
  is_scalar = g.is_scalar;
  next = g.next;
  rest = g.rest;
  begins = g.begins ∙ ap (λ x. x ++ g.next ∷ g.rest) (sym f);
  no_longer = λ k c more h e.
      let t : take (at + 1) bs ≡ front ++ slice_index bs at ∷ [] = take_more bs at 0 k ∙ ap (λ x. x ++ slice_index bs at ∷ []) f in
      stops (front ++ slice_index bs at ∷ []) (s k) c more h (e ∙ ap (λ x. x ++ more) t);
}

-- Where nothing is decoded and the first byte begins no character of several bytes, the bytes stop at once.
pub no_lead : (bs : List ℕ) → (decoded bs).char ≡ None → ((0xc2 ≤ slice_index bs 0) × (slice_index bs 0 ≤ 0xf4) → ⊥) → IsNoCharacter bs 0
unfolding Stops
no_lead bs h n =
    let b = slice_index bs 0 in
    let at_none = λ (s : 0 < length bs → Stops (b ∷ [])). stopped bs 0 [] (omega arith) refl goes_on_none s in
    by-shape (length bs) b (slice_index bs 1) (slice_index bs 2) (slice_index bs 3)
    (λ p. at_none (λ k. absurd (omega arith)))
    (λ p. let k = ap (λ (r : Decoded). r.char) p.2 in cc)
    (λ p. at_none (λ k more. ap (λ (r : Decoded). r.char) (value-2 (length (b ∷ more)) b (slice_index more 0) (slice_index more 1) (slice_index more 2)
    (omega arith, p.1, p.2))))
    (λ p. at_none (λ k more. ap (λ (r : Decoded). r.char) (value-3 (length (b ∷ more)) b (slice_index more 0) (slice_index more 1) (slice_index more 2)
    (omega arith, p.1))))
    (λ p. absurd (n (p.1, p.2)))
    (λ p. absurd (n (p.1, p.2)))
    (λ p. let k = ap (λ (r : Decoded). r.char) p.4 in cc)
    (λ p. absurd (n (omega arith, p.2)))
    (λ p. absurd (n (omega arith, p.2)))
    (λ p. let k = ap (λ (r : Decoded). r.char) p.5 in cc)
    (λ p. absurd (n (omega arith, p.2)))
    (λ p. absurd (n (omega arith, p.2)))
    (λ p. let k = ap (λ (r : Decoded). r.char) p.6 in cc)

-- Where nothing is decoded and the first byte begins characters of several bytes, the bytes stop behind those that are decoded.
pub no_character : (bs : List ℕ) (size : ℕ) → (decoded bs).char ≡ None → size ≡ (decoded bs).size → 0xc2 ≤ slice_index bs 0 → slice_index bs 0 ≤ 0xf4
    → IsNoCharacter bs size
unfolding Stops
no_character bs size h f k l =
    let b = slice_index bs 0 in let c = slice_index bs 1 in let d = slice_index bs 2 in let e = slice_index bs 3 in
    let one : 0 < length bs → take 1 bs ≡ b ∷ [] = λ q. take_more bs 0 0 q in
    let two : 1 < length bs → take 2 bs ≡ b ∷ c ∷ [] = λ q. take_more bs 1 0 q ∙ ap (λ x. x ++ c ∷ []) (one (omega arith)) in
    let three : 2 < length bs → take 3 bs ≡ b ∷ c ∷ d ∷ [] = λ q. take_more bs 2 0 q ∙ ap (λ x. x ++ d ∷ []) (two (omega arith)) in
    let at = λ (n : ℕ) (v : decoded bs ≡ bad n) (s : IsNoCharacter bs n). subst (IsNoCharacter bs) (sym (f ∙ ap (λ (r : Decoded). r.size) v)) s in
    by-shape (length bs) b c d e
    (λ p. at 0 p.1 (stopped bs 0 [] (omega arith) refl goes_on_none (λ q. absurd (omega arith))))
    (λ p. absurd (omega arith))
    (λ p. absurd (omega arith))
    (λ p. absurd (omega arith))
    (λ p. at 1 p.4 (stopped bs 1 (b ∷ []) (omega arith) (one p.0) (goes_on_one b k l) (λ q. absurd (omega arith))))
    (λ p. at 1 p.4 (stopped bs 1 (b ∷ []) (omega arith) (one (omega arith)) (goes_on_one b k l)
    (λ q more. ap (λ (r : Decoded). r.char) (value-5 (length (b ∷ c ∷ more)) b c (slice_index more 0) (slice_index more 1) (omega arith, p.1, p.2, p.3)))))
    (λ p. let q = ap (λ (r : Decoded). r.char) p.4 in cc)
    (λ p. at 2 p.5 (stopped bs 2 (b ∷ c ∷ []) (omega arith) (two (omega arith)) (goes_on_two b c p.1 p.2 p.3) (λ q. absurd (omega arith))))
    (λ p. at 2 p.5 (stopped bs 2 (b ∷ c ∷ []) (omega arith) (two (omega arith)) (goes_on_two b c p.1 p.2 p.3)
    (λ q more. ap (λ (r : Decoded). r.char) (value-8 (length (b ∷ c ∷ d ∷ more)) b c d (slice_index more 0) (omega arith, p.1, p.2, p.3, p.4)))))
    (λ p. let q = ap (λ (r : Decoded). r.char) p.5 in cc)
    (λ p. at 3 p.6 (stopped bs 3 (b ∷ c ∷ d ∷ []) (omega arith) (three (omega arith)) (goes_on_three b c d p.1 p.2 p.3 p.4) (λ q. absurd (omega arith))))
    (λ p. at 3 p.6 (stopped bs 3 (b ∷ c ∷ d ∷ []) (omega arith) (three (omega arith)) (goes_on_three b c d p.1 p.2 p.3 p.4)
    (λ q more. ap (λ (r : Decoded). r.char) (value-11 (length (b ∷ c ∷ d ∷ e ∷ more)) b c d e (omega arith, p.1, p.2, p.3, p.4, p.5)))))
    (λ p. let q = ap (λ (r : Decoded). r.char) p.6 in cc)
