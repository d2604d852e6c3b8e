-- Terms that are no list cells, by their first byte.
use Rattle.std.proofs.Common.{◌≡◌, ℕ, suc, ◌≤◌, ◌<◌, ◌+◌, ◌-◌, ◌^◌, pos, negsuc, Bool, true, false, List, [], ◌∷◌, ◌++◌, arith, refl, sym, ◌∙◌, ap, subst, ◌-ℤ◌, to_z, of_z}
use Rattle.std.specs.Prelude.{Result, Ok, Err, MatchResult}
use Rattle.ca_term.proofs.Grammar.{signed_pos, signed_neg}
use Rattle.std.proofs.lemmas.Int.{ints, to_z_pos, to_z-of_z}
use Rattle.std.specs.Int.{w64}
use Rattle.ca_order.specs.declared.fault.ReadFault.{ReadFault}
use Rattle.ca_term.specs.Tree.{Tree, Integer, Nil}
use Rattle.ca_term.specs.Code.{code_of, complement}
use Rattle.ca_term.specs.Grammar.{number}
use Rattle.ca_term.proofs.DigitBytes.{number_word}
use Rattle.ca_order.specs.Stuck.{IsStuck, IsRest}
use Rattle.ca_term.specs.Levels.{HasTerm}
use Rattle.ca_order.specs.IntTag.{first_byte}
use Rattle.ca_order.specs.Languages.{HasDigits}
use Rattle.ca_order.specs.Reads.{IsReadFault, BeginsWithTerm, BeginsWithDigits}
use Rattle.ca_order.proofs.Starts.{stuck_here}
use Rattle.ca_order.proofs.Faults.{fault_behind, fault_same}
use Rattle.ca_order.proofs.FirstBytes.{IsNoTag, no_tag, has_nil, pos_rest, neg_rest, code_pos, code_neg}
use Rattle.ca_order.proofs.Parts.{at_nil, begins_as}

-- Bytes begin with a first byte, and behind it stand words of M in a term of so many levels; what was read there has at most `low` levels.
pub record HasFirstByte (levels low tag : ℕ) (M : ℕ → List ℕ → Type 0) (bytes inside : List ℕ) : Type 0 where
  pub least : 1 ≤ levels
  pub within : low ≤ levels
  pub parts : bytes ≡ tag ∷ inside
  pub rest : (l : ℕ) → IsRest (HasTerm (suc l)) (tag ∷ []) (M l)

module _ (levels low tag : ℕ) (M : ℕ → List ℕ → Type 0) (bytes inside : List ℕ) where
  -- A fault behind a first byte is a fault of the term.
  tag_fault : HasFirstByte levels low tag M bytes inside → (e : ReadFault) → IsReadFault (M (levels - 1)) inside e → IsReadFault (HasTerm levels) bytes e
  tag_fault h e f =
      let n : suc (levels - 1) ≡ levels = omega (arith, h.least) in
      fault_same (HasTerm levels) bytes (tag ∷ inside) e h.parts
      (subst (λ (x : ℕ). IsReadFault (HasTerm x) (tag ∷ inside) e) n
      (fault_behind (HasTerm (suc (levels - 1))) (M (levels - 1)) (tag ∷ []) inside e (h.rest (levels - 1)) f))

  -- What is read behind a first byte is read with it.
  pub with_first_byte : {X : Type 0} (term : X → Tree) (behind : X → List ℕ) → HasFirstByte levels low tag M bytes inside → (r : Result X ReadFault)
      → MatchResult r (λ x. BeginsWithTerm low (tag ∷ inside) (term x) (behind x)) (λ e. IsReadFault (M (levels - 1)) inside e)
      → MatchResult r (λ x. BeginsWithTerm levels bytes (term x) (behind x)) (λ e. IsReadFault (HasTerm levels) bytes e)
  with_first_byte term behind h (Ok x) w = record { parts = h.parts ∙ w.parts; shallow = omega (arith, w.shallow, h.within); bounded = w.bounded }
  with_first_byte term behind h (Err e) f = tag_fault h e f

-- A byte that is no tag is refused in front of it.
pub stuck_no_tag : (levels : ℕ) (bytes : List ℕ) → 1 ≤ levels → ((b : ℕ) (more : List ℕ) → bytes ≡ b ∷ more → IsNoTag levels b)
    → IsStuck (HasTerm levels) bytes bytes
stuck_no_tag levels bytes h n = stuck_here (HasTerm levels) bytes 0x60 [] (has_nil levels h) (λ b more rest e w. no_tag levels b rest (n b more e) w)

-- The byte 60 is the code of the empty list.
pub nil_term : (levels : ℕ) (bytes rest : List ℕ) (t : Tree) → 1 ≤ levels → bytes ≡ 0x60 ∷ rest → t ≡ Nil → BeginsWithTerm levels bytes t rest
nil_term levels bytes rest t h e f =
    begins_as levels bytes rest t Nil f (e ∙ ap (λ x. x ++ rest) (sym (at_nil Nil refl))) h (record { shallow = omega arith; narrow = tt })

-- ---- integers

-- Behind the first byte of an integer's code stand its digits, or their complement.
pub digits_rest : (negative : Bool) (len l : ℕ) → len ≤ 8 → IsRest (HasTerm (suc l)) (first_byte negative len ∷ []) (HasDigits negative len)
digits_rest false len l h = pos_rest l len h
digits_rest true len l h = neg_rest l len h

-- The number of digits that were read is below 2 ^ 63.
pub digits_fit : (neg : Bool) (len : ℕ) (bytes : List ℕ) (value : ℕ) (rest : List ℕ) → BeginsWithDigits neg len bytes value rest → value < 2 ^ 63
digits_fit neg len bytes value rest w = omega (arith, w.value_is, number_word w.digits w.are_digits)

-- Digits that were read make an integer.
pub pos_term : (negative : Bool) (len : ℕ) (inside : List ℕ) (value : ℕ) (rest : List ℕ) (t : Tree) → negative ≡ false
    → BeginsWithDigits negative len inside value rest → t ≡ Integer (pos value) → BeginsWithTerm 1 (first_byte negative len ∷ inside) t rest
pos_term true len inside value rest t e w f = cc
pos_term false len inside value rest t e w f =
    let u : Tree = Integer (pos (number w.digits)) in
    let c : (0x20 + len) ∷ w.digits ≡ code_of u = code_pos w.digits len w.are_digits w.many in
    begins_as 1 ((0x20 + len) ∷ inside) rest t u (f ∙ ap (λ (x : ℕ). Integer (pos x)) w.value_is)
    (ap (λ (x : List ℕ). (0x20 + len) ∷ x) w.parts ∙ ap (λ x. x ++ rest) c) (omega arith)
    (record { shallow = omega arith; narrow = signed_pos (number w.digits) (number_word w.digits w.are_digits) })

-- Complemented digits that were read make a negative integer.
pub neg_term : (negative : Bool) (len : ℕ) (inside : List ℕ) (value : ℕ) (rest : List ℕ) (t : Tree) → negative ≡ true
    → BeginsWithDigits negative len inside value rest → t ≡ Integer (negsuc value) → BeginsWithTerm 1 (first_byte negative len ∷ inside) t rest
neg_term false len inside value rest t e w f = cc
neg_term true len inside value rest t e w f =
    let u : Tree = Integer (negsuc (number w.digits)) in
    let c : (0x1f - len) ∷ complement w.digits ≡ code_of u = code_neg w.digits len w.are_digits w.many in
    begins_as 1 ((0x1f - len) ∷ inside) rest t u (f ∙ ap (λ (x : ℕ). Integer (negsuc x)) w.value_is)
    (ap (λ (x : List ℕ). (0x1f - len) ∷ x) w.parts ∙ ap (λ x. x ++ rest) c) (omega arith)
    (record { shallow = omega arith; narrow = signed_neg (number w.digits) (number_word w.digits w.are_digits) })

-- what casts make of a value

-- A number below 2 ^ 63 stays the same as a signed one.
pub cast_pos : (n : ℕ) → n < 2 ^ 63 → to_z w64 n ≡ pos n
cast_pos n h = to_z_pos w64 n h

minus : (n : ℕ) → negsuc 0 -ℤ pos n ≡ negsuc n
minus n = omega (arith, ints)

-- -1 - n is computed without a change by casts.
pub cast_neg : (n : ℕ) → n < 2 ^ 63 → to_z w64 (of_z w64 (negsuc 0 -ℤ to_z w64 n)) ≡ negsuc n
cast_neg n h =
    ap (λ z. to_z w64 (of_z w64 (negsuc 0 -ℤ z))) (cast_pos n h) ∙ ap (λ z. to_z w64 (of_z w64 z)) (minus n) ∙ to_z-of_z w64 (negsuc n) (signed_neg n h)
