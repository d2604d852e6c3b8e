-- The place of a fault: the bytes before it begin a text, and with the byte there they begin none.
use Rattle.std.proofs.Common.{◌≡◌, ℕ, zero, suc, ◌+◌, ◌-◌, ◌<◌, ◌≤◌, List, [], ◌∷◌, ◌++◌, leb, length, take, drop, Ok, Err, pos, refl, sym, ap, subst, ◌∙◌, arith, ⊎_elim, append_assoc, append-nil, length-append, take-append-drop}
use Rattle.std.proofs.Math.Seq.{take-append-add}
use Rattle.std.proofs.lemmas.Bool.{leb-true, leb-false}
use Rattle.std.proofs.lemmas.List.{take-append-le}
use Rattle.ca_term.specs.Tree.{Integer}
use Rattle.ca_text.specs.Bytes.{digit_zero}
use Rattle.ca_text.specs.declared.fault.Fault.{Fault}
use Rattle.ca_text.specs.declared.fault.Stop.{Stop}
use Rattle.ca_text.specs.declared.fault.Stop.TheVariants as stop
use Rattle.ca_text.specs.Front.{Begins, IsLongestStart}
use Rattle.ca_text.specs.Grammar.{Limits, standard, IsTextOf}
use Rattle.ca_text.specs.Inner.Place.{IsWithin}
use Rattle.ca_text.specs.Inner.Reading.{Fails, term_at}
use Rattle.ca_text.proofs.Local.{place, stuck}
use Rattle.ca_text.proofs.Tools.{either_way}
use Rattle.ca_text.proofs.LocalTerms.{term_local}
use Rattle.ca_text.proofs.Complete.{term_again}
use Rattle.ca_text.proofs.Halts.{GoesOn}
use Rattle.ca_text.proofs.HaltsTerms.{zero_text}
use Rattle.ca_text.specs.declared.bounds.TheConstants.{MOST_LEVELS}
use Rattle.ca_text.proofs.HaltsOthers.{term_halts}

take_take : (k n : ℕ) (bytes : List ℕ) → k ≤ n → take k (take n bytes) ≡ take k bytes
take_take zero n bytes h = refl
take_take (suc k) zero bytes h = absurd (omega (arith, h))
take_take (suc k) (suc n) [] h = refl
take_take (suc k) (suc n) (b ∷ bytes) h = ap (λ x. b ∷ x) (take_take k n bytes (omega (arith, h)))

-- the first bytes of a text's beginning begin it too
begins_cut : (limits : Limits) (levels k : ℕ) (front : List ℕ) → Begins limits levels front → Begins limits levels (take k front)
begins_cut limits levels k front b =
    let same : take k front ++ (drop k front ++ b.0) ≡ front ++ b.0 =
    sym (append_assoc (take k front) (drop k front) b.0) ∙ ap (λ x. x ++ b.0) (take-append-drop k front) in
    (drop k front ++ b.0, b.1, subst (λ x. IsTextOf limits levels x b.1) (sym same) b.2)

-- so do the first bytes of what begins with them
pub begins_front : (limits : Limits) (levels k : ℕ) (bytes front behind : List ℕ) → bytes ≡ front ++ behind → k ≤ length front → Begins limits levels front
    → Begins limits levels (take k bytes)
begins_front limits levels k bytes front behind whole few b =
    subst (λ x. Begins limits levels x) (sym (ap (λ x. take k x) whole ∙ take-append-le k front behind few)) (begins_cut limits levels k front b)

module _ (limits : Limits) (levels : ℕ) where
  ends_by : (bytes front behind : List ℕ) (f : Fault) → bytes ≡ front ++ behind → 0 < length behind
      → ((c : ℕ) (r s : List ℕ) → behind ≡ c ∷ r → term_at limits levels (front ++ c ∷ s) ≡ Err (place f.why (c ∷ s)))
      → Begins limits levels (take (length front + 1) bytes) → ⊥
  ends_by bytes front [] f whole some again b = absurd (omega arith)
  ends_by bytes front (c ∷ behind) f whole some again b =
      let cut : take (length front + 1) bytes ++ b.0 ≡ front ++ c ∷ b.0 =
      ap (λ x. take (length front + 1) x ++ b.0) whole ∙ ap (λ x. x ++ b.0) (take-append-add front (c ∷ behind) 1) ∙ append_assoc front (c ∷ []) b.0 in
      let text : IsTextOf limits levels (front ++ c ∷ b.0) b.1 = subst (λ x. IsTextOf limits levels x b.1) cut b.2 in
      let read : term_at limits levels (front ++ c ∷ b.0) ≡ Ok (b.1, []) =
      ap (term_at limits levels) (sym (append-nil (front ++ c ∷ b.0))) ∙ term_again limits levels (front ++ c ∷ b.0) b.1 [] text tt in
      let here = again c behind b.0 refl in
      absurd cc

  -- with the byte at a fault's place no text begins
  pub ends : (bytes : List ℕ) (f : Fault) → term_at limits levels bytes ≡ Err f → length bytes - f.left < length bytes
      → Begins limits levels (take (length bytes - f.left + 1) bytes) → ⊥
  ends bytes f e less b =
      let s = stuck (term_at limits levels) bytes (term_local limits levels bytes) f e in
      let long : length bytes ≡ length s.front + length s.behind = ap (λ (l : List ℕ). length l) s.whole ∙ length-append s.front s.behind in
      let left : f.left ≡ length s.behind = ap (λ (g : Fault). g.left) s.is in
      let at : length bytes - f.left ≡ length s.front = omega (arith, long, left) in
      ends_by bytes s.front s.behind f s.whole (omega (arith, less, at, long)) s.again (subst (λ n. Begins limits levels (take (n + 1) bytes)) at b)

  -- A fault stands within the bytes or at their end.
  pub within_by : (bytes : List ℕ) (f : Fault) → term_at limits levels bytes ≡ Err f → f.left ≤ length bytes
  within_by bytes f e =
      let s = stuck (term_at limits levels) bytes (term_local limits levels bytes) f e in
      omega (arith, ap (λ (l : List ℕ). length l) s.whole, length-append s.front s.behind, ap (λ (g : Fault). g.left) s.is)

  -- the bytes before it begin a text
  pub begins_before : (bytes : List ℕ) (f : Fault) (k : ℕ) → term_at limits (suc levels) bytes ≡ Err f → k + f.left ≤ length bytes
      → Begins limits (suc levels) (take k bytes)
  begins_before bytes f k e few =
      let h = (term_halts limits (suc levels) bytes).is f e in
      let long : length bytes ≡ length h.front + length h.behind = ap (λ (l : List ℕ). length l) h.whole ∙ length-append h.front h.behind in
      let zero_begins : Begins limits (suc levels) [] = (digit_zero ∷ [], Integer (pos 0), zero_text limits levels) in
      let goes : Begins limits (suc levels) h.front =
      ⊎_elim (λ none. subst (λ x. Begins limits (suc levels) x) (sym none) zero_begins)
      (λ (g : GoesOn (IsTextOf limits (suc levels)) h.front). g) h.goes_on in
      begins_front limits (suc levels) k bytes h.front h.behind h.whole (omega (arith, few, long, h.left)) goes

-- The bytes before a fault are the longest start of a text.
pub start_is : (bytes : List ℕ) (f : Fault) → term_at standard MOST_LEVELS bytes ≡ Err f → IsLongestStart bytes (length bytes - f.left)
start_is bytes f e = record {
  within = omega arith;
  begins = begins_before standard (MOST_LEVELS - 1) bytes f (length bytes - f.left) e (omega (arith, within_by standard MOST_LEVELS bytes f e));
  ends = ends standard MOST_LEVELS bytes f e;
}

-- one place is the longest start's end
start_least : (bytes : List ℕ) (at other : ℕ) → IsLongestStart bytes at → IsLongestStart bytes other → at ≤ other
start_least bytes at other one two =
    either_way (leb at other) (leb-true at other)
    (λ h. let less : other < at = leb-false at other h in
    let first : take (other + 1) (take at bytes) ≡ take (other + 1) bytes = take_take (other + 1) at bytes (omega (arith, less)) in
    absurd (two.ends (omega (arith, less, one.within))
    (subst (λ x. Begins standard MOST_LEVELS x) first (begins_cut standard MOST_LEVELS (other + 1) (take at bytes) one.begins))))

-- Some bytes have one longest start.
pub start_sure : (bytes : List ℕ) (at other : ℕ) → IsLongestStart bytes at → IsLongestStart bytes other → at ≡ other
start_sure bytes at other one two = omega (arith, start_least bytes at other one two, start_least bytes other at two one)

-- A stop stands within the bytes, if it is a fault.
pub within : (bytes : List ℕ) (e : Stop) → Fails e (term_at standard MOST_LEVELS bytes) → IsWithin e (length bytes)
within bytes stop.NoMemory e = tt
within bytes (stop.At f) e = within_by standard MOST_LEVELS bytes f e
