-- Objects whose keys begin alike.
use Rattle.std.proofs.Common.{Bool, true, false, cond, eqb, eq-eqb, ne_eqb, append_assoc, ◌≡◌, ℕ, zero, suc, ◌+◌, ◌-◌, ◌<◌, ◌≤◌, List, [], ◌∷◌, ◌++◌, length, take, drop, get_or, sym, refl, ap, ◌∙◌, subst, ⊎_elim, arith, append-nil, length-append}
use Rattle.std.proofs.lemmas.Bool.{cases_lt}
use Rattle.std.proofs.lemmas.List.{get_or_append_left, get_or-append_right, get_or-take, length-take-le, take_all}
use mathlib.Core.Logic.{dite}
use native.Mathlib.Decide.{ℕ_discrete}
use Rattle.std.specs.List.{slice_range}
use Rattle.ca_term.proofs.Escapes.{escaped_suc, escaped_nil}
use Rattle.ca_term.specs.Code.{escaped, four_bytes}
use Rattle.ca_term.specs.Grammar.{NoCode, ABinary, IsCodeWithin}
use Rattle.ca_term.specs.Tree.{AreBytes}
use Rattle.ca_model.specs.StoreMap.{IsPair}

-- No byte is 0.
abbrev pub AreSome : List ℕ → Type 0
AreSome bytes = (i : ℕ) → i < length bytes → 0 < get_or bytes i 0

-- Such bytes stand in a code as they are.
plain : (bytes : List ℕ) → AreSome bytes → escaped bytes ≡ bytes ++ 0 ∷ 0 ∷ []
plain [] are = escaped_nil
plain (zero ∷ bytes) are = let first = are 0 (omega arith) in absurd (omega arith)
plain (suc b ∷ bytes) are = escaped_suc b bytes
    ∙ ap (λ (xs : List ℕ). suc b ∷ xs) (plain bytes (λ i l. are (suc i) (omega arith)))

-- The tuple of one binary, and that binary.
pub alone : (bytes code : List ℕ) → AreSome bytes → AreBytes bytes → length bytes ≤ 100
    → code ≡ 0x40 ∷ 0 ∷ 0 ∷ 0 ∷ 1 ∷ 0x80 ∷ bytes ++ 0 ∷ 0 ∷ []
    → IsPair 1 (slice_range code 5 (length code), code)
unfolding four_bytes
alone bytes code any are few is = let key : List ℕ = 0x80 ∷ bytes ++ 0 ∷ 0 ∷ [] in
    let rest : drop 5 code ≡ key = ap (drop 5) is in
    let long = length-append bytes (0 ∷ 0 ∷ []) in
    let all : length code ≡ length bytes + 8 = ap (λ (xs : List ℕ). length xs) is ∙ omega arith in
    let key_is : slice_range code 5 (length code) ≡ key = ap (take (length code - 5)) rest
    ∙ take_all (length code - 5) key (omega arith) in record {
      before = 0;
      behind = 0;
      codes_before = [];
      codes_behind = [];
      place = refl;
      narrow = omega arith;
      bytes = is ∙ (ap (λ (xs : List ℕ). 0x40 ∷ 0 ∷ 0 ∷ 0 ∷ 1 ∷ xs) (sym (append-nil key))
          ∙ ap (λ (xs : List ℕ). 0x40 ∷ 0 ∷ 0 ∷ 0 ∷ 1 ∷ (xs ++ [])) (sym key_is));
      are_before = NoCode 191;
      is_key = subst (IsCodeWithin 191) (sym (key_is
          ∙ ap (λ (xs : List ℕ). 0x80 ∷ xs) (sym (plain bytes any)))) (ABinary 190 bytes are);
      are_behind = NoCode 191;
      short = omega arith;
    }

-- All of the bytes are 117.
abbrev are_filler : List ℕ → Bool
are_filler [] = true
are_filler (x ∷ xs) = cond (eqb x 117) (are_filler xs) false

first_is : (x : ℕ) (xs : List ℕ) → are_filler (x ∷ xs) ≡ true → (x ≡ 117) × (are_filler xs ≡ true)
first_is x xs e = dite (ℕ_discrete x 117)
    (λ (same : x ≡ 117). (
      same,
      sym (ap (λ (b : Bool). cond b (are_filler xs) false) (eq-eqb x 117 same)) ∙ e,
    ))
    (λ n. let z : false ≡ true = sym (ap (λ (b : Bool). cond b (are_filler xs) false) (ne_eqb x 117 n)) ∙ e in cc)

each : (xs : List ℕ) → are_filler xs ≡ true → (i : ℕ) → i < length xs → get_or xs i 0 ≡ 117
each [] e i l = absurd (omega arith)
each (x ∷ xs) e zero l = (first_is x xs e).0
each (x ∷ xs) e (suc i) l = each xs (first_is x xs e).1 i (omega arith)

-- So many of them, and two bytes behind them.
module _ (filler : List ℕ) (are : are_filler filler ≡ true) (long : length filler ≡ 48) (n last : ℕ)
    (few : n ≤ 48) (low : 0 < last) (high : last < 256) where
  abbrev bytes : List ℕ
  bytes = take n filler ++ last ∷ 118 ∷ []

  first_long : length (take n filler) ≡ n
  first_long = length-take-le n filler (omega arith)

  first_at : (i : ℕ) → i < n → get_or bytes i 0 ≡ 117
  first_at i l = get_or_append_left (take n filler) (last ∷ 118 ∷ []) 0 i (omega (arith, first_long))
      ∙ (get_or-take n filler i 0 l ∙ each filler are i (omega arith))

  behind : (i : ℕ) → n ≤ i → get_or bytes i 0 ≡ get_or (last ∷ 118 ∷ []) (i - n) 0
  behind i l = get_or-append_right (take n filler) (last ∷ 118 ∷ []) n i 0 first_long l

  tail_some : (i : ℕ) → i < 2 → 0 < get_or (last ∷ 118 ∷ []) i 0
  tail_some zero l = low
  tail_some (suc zero) l = omega arith
  tail_some (suc (suc i)) l = absurd (omega arith)

  tail_byte : (i : ℕ) → get_or (last ∷ 118 ∷ []) i 0 < 256
  tail_byte zero = high
  tail_byte (suc zero) = omega arith
  tail_byte (suc (suc i)) = omega arith

  bytes_long : length bytes ≡ n + 2
  bytes_long = omega (arith, first_long, length-append (take n filler) (last ∷ 118 ∷ []))

  some : AreSome bytes
  some i l = ⊎_elim
      (λ (h : i < n). subst (λ (x : ℕ). 0 < x) (sym (first_at i h)) (omega arith))
      (λ (h : n ≤ i). subst (λ (x : ℕ). 0 < x) (sym (behind i h)) (tail_some (i - n) (omega (arith, bytes_long))))
      (cases_lt i n)

  are_bytes : AreBytes bytes
  are_bytes i = ⊎_elim
      (λ (h : i < n). subst (λ (x : ℕ). x < 256) (sym (first_at i h)) (omega arith))
      (λ (h : n ≤ i). subst (λ (x : ℕ). x < 256) (sym (behind i h)) (tail_byte (i - n)))
      (cases_lt i n)

  -- Their tuple, as it is put together.
  pub is_alone : (a b code d : List ℕ) → d ≡ []
      → a ≡ d ++ 0x40 ∷ 0 ∷ 0 ∷ 0 ∷ 1 ∷ 0x80 ∷ [] → b ≡ a ++ take n filler
      → code ≡ b ++ last ∷ 118 ∷ 0 ∷ 0 ∷ [] → IsPair 1 (slice_range code 5 (length code), code)
  is_alone a b code d none one two three =
      alone bytes code some are_bytes (omega (arith, bytes_long)) (three
      ∙ (ap (λ (xs : List ℕ). xs ++ last ∷ 118 ∷ 0 ∷ 0 ∷ [])
      (two ∙ ap (λ (xs : List ℕ). xs ++ take n filler)
      (one ∙ ap (λ (xs : List ℕ). xs ++ 0x40 ∷ 0 ∷ 0 ∷ 0 ∷ 1 ∷ 0x80 ∷ []) none))
      ∙ ap (λ (xs : List ℕ). 0x40 ∷ 0 ∷ 0 ∷ 0 ∷ 1 ∷ 0x80 ∷ xs)
      (sym (append_assoc (take n filler) (last ∷ 118 ∷ []) (0 ∷ 0 ∷ [])))))
