-- The integer that a code is of.
use Rattle.std.proofs.Common.{◌≡◌, ℕ, suc, ◌≤◌, ◌<◌, ◌+◌, ◌-◌, ◌^◌, pos, negsuc, true, false, List, [], ◌∷◌, ◌++◌, length, arith, refl, sym, ◌∙◌, ap}
use Rattle.std.specs.Prelude.{None}
use Rattle.ca_term.specs.Tree.{Tree, Integer, IsNarrow}
use Rattle.ca_term.specs.Code.{code_of}
use Rattle.ca_term.specs.Updates.{integer_of}
use Rattle.ca_term.specs.Grammar.{number, AreDigits}
use Rattle.ca_term.specs.Levels.{HasTerm}
use Rattle.ca_term.specs.Tree.{AreBytes, depth}
use Rattle.ca_term.proofs.Codes.{same_code}
use Rattle.ca_term.proofs.DigitBytes.{number_word, no_bytes}
use Rattle.ca_term.proofs.Digits.{digits_shorter, length_complement}
use Rattle.ca_term.proofs.Grammar.{signed_pos, signed_neg}
use Rattle.ca_order.specs.KeyParts.{HasCodes}
use Rattle.ca_order.specs.Languages.{HasDigits, turned}
use Rattle.ca_order.proofs.FirstBytes.{Tagged, tagged, pos_rest, neg_rest, code_pos, code_neg, is_pos, is_neg, is_atom, is_tuple, is_nil, is_cons, is_binary}
use Rattle.ca_order.proofs.Skipped.{one_code}
use Rattle.ca_order.proofs.Turned.{turned_twice}

-- a term is this integer, whose digits are at most eight
pub record IsInteger (t n : Tree) (value : ℕ) (digits : List ℕ) : Type 0 where
  pub is : t ≡ n
  pub short : length digits ≤ 8
  pub fits : value < 2 ^ 63

same_integer : (t n : Tree) (code : List ℕ) → IsNarrow t → IsNarrow n → code ≡ code_of t → code ≡ code_of n → t ≡ n
same_integer t n code h k e f = (same_code t n [] [] h k (ap (λ x. x ++ []) (sym e ∙ f))).0

digit_bytes : (ds : List ℕ) → AreDigits ds → AreBytes ds
digit_bytes [] h = no_bytes
digit_bytes (d ∷ ds) h = h.3

-- what a code begins with, as a term of its own levels
has : (t : Tree) (b tag : ℕ) (x code : List ℕ) → b ≡ tag → IsNarrow t → code ≡ b ∷ x → code ≡ code_of t → HasTerm (suc (depth t)) ((tag ∷ []) ++ x)
has t b tag x code f n p e = record { term = t; shallow = omega arith; narrow = n; code_is = ap (λ (y : ℕ). y ∷ x) (sym f) ∙ sym p ∙ e }

module _ (t : Tree) (b : ℕ) (x code : List ℕ) (n : IsNarrow t) (p : code ≡ b ∷ x) (e : code ≡ code_of t) where
  -- The code of an integer that isn't negative: the number of its digits.
  pub pos_integer : 0x20 ≤ b → b ≤ 0x28 → IsInteger t (Integer (pos (number (turned false x)))) (number (turned false x)) x
  pos_integer h k =
      let len : b ≡ 0x20 + (b - 0x20) = omega arith in
      let d : HasDigits false (b - 0x20) x = (pos_rest (depth t) (b - 0x20) (omega arith)).into x (has t b (0x20 + (b - 0x20)) x code len n p e) in
      let v : number x ≡ number d.digits = ap number d.code_is in
      let small : number x < 2 ^ 63 = omega (arith, v, number_word d.digits d.are_digits) in
      let f : code ≡ code_of (Integer (pos (number x))) =
      p ∙ (λ i. len i ∷ d.code_is i) ∙ code_pos d.digits (b - 0x20) d.are_digits d.many ∙ ap (λ (y : ℕ). code_of (Integer (pos y))) (sym v) in
      record {
        is = same_integer t (Integer (pos (number x))) code n (signed_pos (number x) small) e f;
        short = omega (arith, d.many, ap length d.code_is);
        fits = small;
      }

  -- The code of a negative integer: the number of its digits, complemented.
  pub neg_integer : 0x17 ≤ b → b ≤ 0x1f → IsInteger t (Integer (negsuc (number (turned true x)))) (number (turned true x)) x
  neg_integer h k =
      let len : b ≡ 0x1f - (0x1f - b) = omega arith in
      let d : HasDigits true (0x1f - b) x = (neg_rest (depth t) (0x1f - b) (omega arith)).into x (has t b (0x1f - (0x1f - b)) x code len n p e) in
      let back : turned true x ≡ d.digits = ap (turned true) d.code_is ∙ turned_twice true d.digits (digit_bytes d.digits d.are_digits) in
      let v : number (turned true x) ≡ number d.digits = ap number back in
      let small : number (turned true x) < 2 ^ 63 = omega (arith, v, number_word d.digits d.are_digits) in
      let f : code ≡ code_of (Integer (negsuc (number (turned true x)))) =
      p ∙ (λ i. len i ∷ d.code_is i) ∙ code_neg d.digits (0x1f - b) d.are_digits d.many ∙ ap (λ (y : ℕ). code_of (Integer (negsuc y))) (sym v) in
      record {
        is = same_integer t (Integer (negsuc (number (turned true x)))) code n (signed_neg (number (turned true x)) small) e f;
        short = omega (arith, d.many, ap length d.code_is, length_complement d.digits);
        fits = small;
      }

  -- A code with another first byte is of no integer.
  pub no_integer : (0x20 ≤ b → b ≤ 0x28 → ⊥) → (0x17 ≤ b → b ≤ 0x1f → ⊥) → integer_of t ≡ None
  no_integer not_pos not_neg = by t (tagged t b x (sym p ∙ e))
    where
      by : (u : Tree) → Tagged b x u → integer_of u ≡ None
      by _ (is_pos k e f) = absurd (not_pos (omega (arith, e)) (omega (arith, e, digits_shorter k)))
      by _ (is_neg k e f) = absurd (not_neg (omega (arith, e, digits_shorter k)) (omega (arith, e)))
      by _ (is_atom text e f) = refl
      by _ (is_tuple row e f) = refl
      by _ (is_nil e f) = refl
      by _ (is_cons head tail e f) = refl
      by _ (is_binary bytes e f) = refl

-- Bytes that begin with a code begin with the codes of one term.
pub one_there : (t : Tree) (bytes end : List ℕ) → IsNarrow t → bytes ≡ code_of t ++ end → HasCodes 1 bytes end
one_there t bytes end n e = record { terms = t ∷ []; narrow = (n, tt); many = refl; parts = e ∙ one_code t end }
