-- What is read at the front of some bytes, by number of bytes.
use Rattle.std.proofs.Common.{◌≡◌, ℕ, zero, suc, ◌+◌, ◌-◌, ◌<◌, ◌≤◌, List, [], ◌∷◌, ◌++◌, length, take, drop, Ok, refl, sym, ap, subst, ◌∙◌, arith, take-append-drop, length-append, length-take-le, length-drop, take-add, append-nil}
use Rattle.std.proofs.Math.Seq.{take-append_seam, drop-append_seam}
use Rattle.ca_term.specs.Tree.{Tree, IsTerm, depth}
use Rattle.ca_text.specs.Text.{text_of}
use Rattle.ca_text.proofs.Printed.{printed_is}
use Rattle.ca_text.specs.declared.fault.TextFault.TheVariants.{NoMemory}
use Rattle.ca_text.specs.declared.fault.Stop.{Stop}
use Rattle.ca_text.specs.declared.fault.Stop.TheVariants as stop
use Rattle.ca_text.specs.Grammar.{standard, IsText, IsWhole, IsRead}
use Rattle.ca_text.specs.Inner.Place.{text_fault}
use Rattle.ca_text.specs.Inner.Reading.{Fails, term_at}
use Rattle.ca_text.proofs.Tools.{pair_is}
use Rattle.ca_text.proofs.Sound.{term_taken}
use Rattle.ca_text.specs.declared.bounds.TheConstants.{MOST_LEVELS}
use Rattle.ca_text.proofs.Complete.{term_again}

read_of : (text rest : List ℕ) (t : Tree) → IsText text t → IsWhole text rest → IsRead (text ++ rest) t (length text)
read_of text rest t is whole = record {
  within = omega (arith, length-append text rest);
  text = subst (λ x. IsText x t) (sym (take-append_seam text rest)) is;
  whole = subst (λ x. IsWhole x (drop (length text) (text ++ rest))) (sym (take-append_seam text rest))
      (subst (λ x. IsWhole text x) (sym (drop-append_seam text rest)) whole);
}

-- What is read is a text at the front.
pub read_is : (bytes : List ℕ) (t : Tree) (rest : List ℕ) → term_at standard MOST_LEVELS bytes ≡ Ok (t, rest)
    → (length rest ≤ length bytes) × IsRead bytes t (length bytes - length rest)
read_is bytes t rest e =
    let r = (term_taken standard MOST_LEVELS bytes).is (t, rest) e in
    let long : length bytes ≡ length r.text + length rest = ap (λ (x : List ℕ). length x) r.whole ∙ length-append r.text rest in
    let count : length r.text ≡ length bytes - length rest = omega (arith, long) in
    (omega (arith, long), subst (λ n. IsRead bytes t n) count (subst (λ x. IsRead x t (length r.text)) (sym r.whole) (read_of r.text rest t r.is r.ends)))

-- A text at the front is read.
pub read_again : (bytes : List ℕ) (t : Tree) (n : ℕ) → IsRead bytes t n → term_at standard MOST_LEVELS bytes ≡ Ok (t, drop n bytes)
read_again bytes t n r = ap (term_at standard MOST_LEVELS) (sym (take-append-drop n bytes)) ∙ term_again standard MOST_LEVELS (take n bytes) t
    (drop n bytes) r.text r.whole

-- a text is whole before what begins as bytes did that it was whole before
whole_cut : (text rest : List ℕ) (k : ℕ) → IsWhole text rest → IsWhole text (take k rest)
whole_cut text rest zero w = tt
whole_cut text [] (suc k) w = tt
whole_cut text (b ∷ rest) (suc k) w = w

-- no longer text stands at the front
pub longest : (bytes : List ℕ) (t u : Tree) (n m : ℕ) → IsRead bytes t n → n < m → m ≤ length bytes → IsText (take m bytes) u → ⊥
longest bytes t u n m r less within is =
    let k = m - n in
    let sum : n + k ≡ m = omega arith in
    let cut : take m bytes ≡ take n bytes ++ take k (drop n bytes) = ap (λ i. take i bytes) (sym sum) ∙ take-add n k bytes in
    let short = term_again standard MOST_LEVELS (take n bytes) t (take k (drop n bytes)) r.text (whole_cut (take n bytes) (drop n bytes) k r.whole) in
    let long : term_at standard MOST_LEVELS (take m bytes) ≡ Ok (u, []) =
    ap (term_at standard MOST_LEVELS) (sym (append-nil (take m bytes))) ∙ term_again standard MOST_LEVELS (take m bytes) u [] is tt in
    let same : term_at standard MOST_LEVELS (take m bytes) ≡ Ok (t, take k (drop n bytes)) = ap (term_at standard MOST_LEVELS) cut ∙ short in
    let none : [] ≡ take k (drop n bytes) = (pair_is u [] t (take k (drop n bytes)) (sym long ∙ same)).1 in
    let some : length (take k (drop n bytes)) ≡ k = length-take-le k (drop n bytes) (omega (arith, length-drop n bytes)) in
    absurd (omega (arith, less, some, ap (λ (x : List ℕ). length x) none))

-- a fault comes only where no text is read
pub none_read : (bytes : List ℕ) (e : Stop) (t : Tree) (n : ℕ) → Fails e (term_at standard MOST_LEVELS bytes) → IsRead bytes t n
    → text_fault e (length bytes) ≡ NoMemory
none_read bytes stop.NoMemory t n f r = refl
none_read bytes (stop.At d) t n f r = let again = read_again bytes t n r in absurd cc

-- one term is read
pub same_read : (bytes : List ℕ) (t : Tree) (rest : List ℕ) (u : Tree) (n : ℕ) → term_at standard MOST_LEVELS bytes ≡ Ok (t, rest) → IsRead bytes u n
    → (t ≡ u) × (length bytes - length rest ≡ n)
same_read bytes t rest u n e r =
    let p = pair_is t rest u (drop n bytes) (sym e ∙ read_again bytes u n r) in
    (p.0, omega (arith, ap (λ (x : List ℕ). length x) p.1, length-drop n bytes, r.within))

-- One text stands at the front.
pub one_read : (bytes : List ℕ) (t u : Tree) (n m : ℕ) → IsRead bytes t n → IsRead bytes u m → (t ≡ u) × (n ≡ m)
one_read bytes t u n m p q =
    let s = same_read bytes t (drop n bytes) u m (read_again bytes t n p) q in
    (s.0, omega (arith, s.1, p.within, length-drop n bytes))

-- a printed text of at most so many levels is read, whatever follows that doesn't belong to it
pub printed_read : (t : Tree) (rest : List ℕ) → IsTerm t → depth t ≤ MOST_LEVELS → IsWhole (text_of t) rest → IsRead (text_of t ++ rest) t (length (text_of t))
printed_read t rest is shallow whole = read_of (text_of t) rest t (printed_is t is.narrow shallow) whole
