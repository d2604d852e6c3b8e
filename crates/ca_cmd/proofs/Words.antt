-- What a line before its word comes to.
use Rattle.std.proofs.Common.{◌≡◌, ℕ, ◌+◌, ◌-◌, ◌≤◌, List, length, take, drop, Ok, true, false, refl, ap, arith, length-drop}
use Rattle.std.specs.Prelude.{IsUtf8, nat_lt}
use Rattle.std.specs.Str.{is_utf8}
use Rattle.std.specs.Str.Lossy.{utf8_valid_len}
use Rattle.std.proofs.lemmas.Str.{is_utf8-from_IsUtf8, IsUtf8-from_is_utf8}
use Rattle.std.proofs.lemmas.Bool.Decides.{nat_tests}
use Rattle.std.proofs.lemmas.List.{take_rest}
use Rattle.ca_text.specs.Grammar.{skip}
use Rattle.ca_cmd.specs.declared.line.TheConstants.{MOST_LINE_BYTES}
use Rattle.ca_cmd.specs.Argument.{refused, place}
use Rattle.ca_cmd.specs.Content.{text_in}
use Rattle.ca_cmd.specs.declared.fault.LineWhy.TheVariants.{NotUtf8}

-- A line of UTF-8 within the limit is read behind its blanks.
pub text_well : (line : List ℕ) → length line ≤ MOST_LINE_BYTES → IsUtf8 line → text_in line ≡ Ok (skip line)
text_well line short u =
    let within : nat_lt MOST_LINE_BYTES (length line) ≡ false = grind (arith, nat_tests) in
    rw (within, is_utf8-from_IsUtf8 line u) refl

not_utf8 : (line : List ℕ) → (IsUtf8 line → ⊥) → is_utf8 line ≡ false
not_utf8 line h = elim (is_utf8 line) as (λ x. is_utf8 line ≡ x → x ≡ false) [
  | true ↦ λ e. absurd (h (IsUtf8-from_is_utf8 line e))
  | false ↦ λ e. refl
] refl

-- A line within the limit is refused at its first byte that is not UTF-8.
pub text_ill : (line : List ℕ) (n : ℕ) → length line ≤ MOST_LINE_BYTES → (IsUtf8 line → ⊥) → n ≤ length line → n ≡ utf8_valid_len line
    → refused NotUtf8 (place (length line) (take (length line - n) (drop n line))) ≡ text_in line
text_ill line n short u h e =
    let within : nat_lt MOST_LINE_BYTES (length line) ≡ false = grind (arith, nat_tests) in
    let here : place (length line) (take (length line - n) (drop n line)) ≡ utf8_valid_len line + 1 =
    rw (take_rest line n) (omega (arith, e, length-drop n line)) in
    rw (within, not_utf8 line u) (ap (λ k. refused NotUtf8 k) here)
