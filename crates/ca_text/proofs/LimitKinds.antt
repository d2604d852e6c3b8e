-- The kind of a fault: with one limit raised the bytes go on at its place, or with none.
use Rattle.std.proofs.Common.{◌≡◌, ℕ, suc, ◌+◌, ◌-◌, ◌<◌, ◌≤◌, Bool, true, false, ltb, List, [], ◌++◌, length, take, Ok, Err, refl, sym, ap, subst, ◌∙◌, arith, length-append, append-nil}
use Rattle.std.proofs.lemmas.Bool.{ltb-true, ltb-false}
use Rattle.ca_term.specs.Tree.{Tree}
use Rattle.ca_text.specs.declared.fault.Fault.{Fault}
use Rattle.ca_text.specs.declared.fault.Why.{Why}
use Rattle.ca_text.specs.declared.fault.Why.TheVariants.{Syntax, AtomTooLong, TooDeep, TooWide}
use Rattle.ca_text.specs.Front.{Begins, GoesOnAt, longer_atoms, wider_tuples}
use Rattle.ca_text.specs.Grammar.{Limits, standard, IsTextOf}
use Rattle.ca_text.specs.Inner.Reading.{Read, term_at}
use Rattle.ca_text.proofs.Places.{begins_front, begins_before, ends, within_by}
use Rattle.ca_text.proofs.Raised.{Grown, Past, IsRaised}
use Rattle.ca_text.proofs.RaisedTerms.{term_raised}
use Rattle.ca_text.proofs.Sound.{term_taken}
use Rattle.ca_term.specs.declared.bounds.TheConstants.{MOST_CODE_POINTS, MOST_ELEMENTS}
use Rattle.ca_text.specs.declared.bounds.TheConstants.{MOST_LEVELS}
use Rattle.ca_text.proofs.Widened.{AtLeast, raised_by, raised_sum, text_widened}

-- ---- one limit raised

abbrev pub just : Why → Why → Bool
just Syntax v = false
just AtomTooLong AtomTooLong = true
just AtomTooLong v = false
just TooDeep TooDeep = true
just TooDeep v = false
just TooWide TooWide = true
just TooWide v = false

abbrev pub limits_for : Why → Limits
limits_for Syntax = standard
limits_for AtomTooLong = longer_atoms
limits_for TooDeep = standard
limits_for TooWide = wider_tuples

-- one less than the levels
abbrev pub levels_for : Why → ℕ
levels_for Syntax = MOST_LEVELS - 1
levels_for AtomTooLong = MOST_LEVELS - 1
levels_for TooDeep = MOST_LEVELS
levels_for TooWide = MOST_LEVELS - 1

module _ (raises : Why → Bool) (v : Why) (m n : ℕ) where
  stays : raises v ≡ false → m ≡ n → Grown raises v m n
  stays h e = record { more = λ g. let no = sym h ∙ g in absurd cc; same = λ g. e }

  goes_up : raises v ≡ true → m < n → Grown raises v m n
  goes_up h less = record { more = λ g. less; same = λ g. let no = sym h ∙ g in absurd cc }

one_raised : (w : Why) (bytes : List ℕ)
    → IsRaised (just w) (λ (x : Tree × List ℕ). x.1) (term_at standard MOST_LEVELS bytes) (term_at (limits_for w) (suc (levels_for w)) bytes)
one_raised Syntax bytes =
    term_raised (just Syntax) refl standard standard MOST_LEVELS MOST_LEVELS (omega arith) (omega arith)
    (stays (just Syntax) TooWide MOST_ELEMENTS MOST_ELEMENTS refl refl)
    (stays (just Syntax) AtomTooLong MOST_CODE_POINTS MOST_CODE_POINTS refl refl)
    (stays (just Syntax) TooDeep MOST_LEVELS MOST_LEVELS refl refl) bytes
one_raised AtomTooLong bytes =
    term_raised (just AtomTooLong) refl standard longer_atoms MOST_LEVELS MOST_LEVELS (omega arith) (omega arith)
    (stays (just AtomTooLong) TooWide MOST_ELEMENTS MOST_ELEMENTS refl refl)
    (goes_up (just AtomTooLong) AtomTooLong MOST_CODE_POINTS (MOST_CODE_POINTS + 1) refl (omega arith))
    (stays (just AtomTooLong) TooDeep MOST_LEVELS MOST_LEVELS refl refl) bytes
one_raised TooDeep bytes =
    term_raised (just TooDeep) refl standard standard MOST_LEVELS (MOST_LEVELS + 1) (omega arith) (omega arith)
    (stays (just TooDeep) TooWide MOST_ELEMENTS MOST_ELEMENTS refl refl)
    (stays (just TooDeep) AtomTooLong MOST_CODE_POINTS MOST_CODE_POINTS refl refl)
    (goes_up (just TooDeep) TooDeep MOST_LEVELS (MOST_LEVELS + 1) refl (omega arith)) bytes
one_raised TooWide bytes =
    term_raised (just TooWide) refl standard wider_tuples MOST_LEVELS MOST_LEVELS (omega arith) (omega arith)
    (goes_up (just TooWide) TooWide MOST_ELEMENTS (MOST_ELEMENTS + 1) refl (omega arith))
    (stays (just TooWide) AtomTooLong MOST_CODE_POINTS MOST_CODE_POINTS refl refl)
    (stays (just TooWide) TooDeep MOST_LEVELS MOST_LEVELS refl refl) bytes

-- what got past a byte begins a text with it
begins_past : (limits : Limits) (levels : ℕ) (bytes : List ℕ) (left : ℕ) (r : Read Tree) → term_at limits (suc levels) bytes ≡ r → left ≤ length bytes
    → Past (λ (x : Tree × List ℕ). x.1) left r
    → GoesOnAt limits (suc levels) bytes (length bytes - left)
begins_past limits levels bytes left (Ok (t, rest)) e few past =
    let s = (term_taken limits (suc levels) bytes).is (t, rest) e in
    let long : length bytes ≡ length s.text + length rest = ap (λ (l : List ℕ). length l) s.whole ∙ length-append s.text rest in
    let b : Begins limits (suc levels) s.text = ([], t, subst (λ x. IsTextOf limits (suc levels) x t) (sym (append-nil s.text)) s.is) in
    (omega (arith, few, past), begins_front limits (suc levels) (length bytes - left + 1) bytes s.text rest s.whole (omega (arith, long, few, past)) b)
begins_past limits levels bytes left (Err f) e few past =
    (omega (arith, few, past), begins_before limits levels bytes f (length bytes - left + 1) e (omega (arith, few, past)))

past_of : (raises : Why → Bool) (r s : Read Tree) (f : Fault) → r ≡ Err f → IsRaised raises (λ (x : Tree × List ℕ). x.1) r s → raises f.why ≡ true
    → Past (λ (x : Tree × List ℕ). x.1) f.left s
past_of raises r s f e h up =
    let i : IsRaised raises (λ (x : Tree × List ℕ). x.1) (Err f) s = subst (λ x. IsRaised raises (λ (x : Tree × List ℕ). x.1) x s) e h in i.1 up

same_of : (raises : Why → Bool) (r s : Read Tree) (f : Fault) → r ≡ Err f → IsRaised raises (λ (x : Tree × List ℕ). x.1) r s → raises f.why ≡ false → s ≡ Err f
same_of raises r s f e h stay =
    let i : IsRaised raises (λ (x : Tree × List ℕ). x.1) (Err f) s = subst (λ x. IsRaised raises (λ (x : Tree × List ℕ). x.1) x s) e h in i.0 stay

-- a fault of a limit goes on with that limit raised
pub limit_goes : (w : Why) (bytes : List ℕ) (f : Fault) → term_at standard MOST_LEVELS bytes ≡ Err f → just w f.why ≡ true
    → GoesOnAt (limits_for w) (suc (levels_for w)) bytes (length bytes - f.left)
limit_goes w bytes f e up =
    begins_past (limits_for w) (levels_for w) bytes f.left (term_at (limits_for w) (suc (levels_for w)) bytes) refl (within_by standard MOST_LEVELS bytes f e)
    (past_of (just w) (term_at standard MOST_LEVELS bytes) (term_at (limits_for w) (suc (levels_for w)) bytes) f e (one_raised w bytes) up)

-- and no other does
pub limit_stays : (w : Why) (bytes : List ℕ) (f : Fault) → term_at standard MOST_LEVELS bytes ≡ Err f → just w f.why ≡ false
    → GoesOnAt (limits_for w) (suc (levels_for w)) bytes (length bytes - f.left) → ⊥
limit_stays w bytes f e stay goes =
    ends (limits_for w) (suc (levels_for w)) bytes f
    (same_of (just w) (term_at standard MOST_LEVELS bytes) (term_at (limits_for w) (suc (levels_for w)) bytes) f e (one_raised w bytes) stay) goes.0 goes.1

-- ---- all limits raised

abbrev widened : Limits → Limits
widened limits = record { elements = limits.elements + MOST_ELEMENTS; characters = limits.characters + MOST_CODE_POINTS }

abbrev grows : Limits → ℕ → Why → Bool
grows limits levels Syntax = false
grows limits levels AtomTooLong = ltb MOST_CODE_POINTS (limits.characters + MOST_CODE_POINTS)
grows limits levels TooDeep = ltb MOST_LEVELS (raised_by MOST_LEVELS levels)
grows limits levels TooWide = ltb MOST_ELEMENTS (limits.elements + MOST_ELEMENTS)

grown_by : (raises : Why → Bool) (v : Why) (m n : ℕ) → raises v ≡ ltb m n → m ≤ n → Grown raises v m n
grown_by raises v m n e le = record { more = λ h. ltb-true m n (sym e ∙ h); same = λ h. omega (arith, le, ltb-false m n (sym e ∙ h)) }

all_raised : (limits : Limits) (levels : ℕ) (bytes : List ℕ)
    → IsRaised (grows limits levels) (λ (x : Tree × List ℕ). x.1) (term_at standard MOST_LEVELS bytes)
    (term_at (widened limits) (raised_by MOST_LEVELS levels) bytes)
all_raised limits levels bytes =
    term_raised (grows limits levels) refl standard (widened limits) MOST_LEVELS (raised_by MOST_LEVELS levels) (omega arith) (omega arith)
    (grown_by (grows limits levels) TooWide MOST_ELEMENTS (limits.elements + MOST_ELEMENTS) refl (omega arith))
    (grown_by (grows limits levels) AtomTooLong MOST_CODE_POINTS (limits.characters + MOST_CODE_POINTS) refl (omega arith))
    (grown_by (grows limits levels) TooDeep MOST_LEVELS (raised_by MOST_LEVELS levels) refl (omega (arith, raised_sum MOST_LEVELS levels))) bytes

-- at a fault of syntax no text goes on, whatever the limits
pub syntax_stays : (bytes : List ℕ) (f : Fault) → term_at standard MOST_LEVELS bytes ≡ Err f → f.why ≡ Syntax → length bytes - f.left < length bytes
    → (limits : Limits) (levels : ℕ) → Begins limits levels (take (length bytes - f.left + 1) bytes) → ⊥
syntax_stays bytes f e kind less limits levels b =
    let stay : grows limits levels f.why ≡ false = ap (grows limits levels) kind in
    let same = same_of (grows limits levels) (term_at standard MOST_LEVELS bytes) (term_at (widened limits) (raised_by MOST_LEVELS levels) bytes) f e
    (all_raised limits levels bytes) stay in
    let least : AtLeast limits (widened limits) = record { elements = omega arith; characters = omega arith } in
    ends (widened limits) (raised_by MOST_LEVELS levels) bytes f same less
    (b.0, b.1, text_widened limits (widened limits) MOST_LEVELS levels (take (length bytes - f.left + 1) bytes ++ b.0) b.1 least b.2)
