-- Faults of readers, by the parts of what they read.
use Rattle.std.proofs.Common.{◌≡◌, ℕ, List, ◌++◌, length, refl, sym, subst}
use Rattle.std.specs.Prelude.{Result, Ok, Err, MatchResult}
use Rattle.std.specs.Result.{IsErrAnd}
use Rattle.ca_order.specs.declared.fault.ReadFault.{ReadFault}
use Rattle.ca_order.specs.declared.fault.ReadFault.TheVariants.{Stuck, NoMemory}
use Rattle.ca_order.specs.Stuck.{IsStuck, IsRest}
use Rattle.ca_order.specs.Reads.{IsReadFault, IsStuckFault}
use Rattle.ca_order.proofs.Starts.{IsPrefixFree, Begins, stuck_behind, stuck_first, stuck_no_word}

-- The fault in front of bytes where the reader is stuck.
pub fault_at : (L : List ℕ → Type 0) (bytes behind : List ℕ) (e : ReadFault) → e ≡ Stuck (length behind) → IsStuck L bytes behind → IsReadFault L bytes e
fault_at L bytes behind e f s = subst (IsReadFault L bytes) (sym f) (behind, refl, s)

-- A fault in what follows is a fault of the whole.
pub fault_behind : (L M : List ℕ → Type 0) (u bytes : List ℕ) (e : ReadFault) → IsRest L u M → IsReadFault M bytes e → IsReadFault L (u ++ bytes) e
fault_behind L M u bytes (Stuck left) q f = (f.0, f.1, stuck_behind L M u bytes f.0 q f.2)
fault_behind L M u bytes NoMemory q f = tt

-- A fault in the first word is a fault of the whole.
pub fault_first : (H L : List ℕ → Type 0) (bytes : List ℕ) (e : ReadFault) → IsPrefixFree H → ((x : List ℕ) → L x → Begins H x)
    → ((u : List ℕ) → H u → (v : List ℕ) × L (u ++ v)) → IsReadFault H bytes e → IsReadFault L bytes e
fault_first H L bytes (Stuck left) free split extend f = (f.0, f.1, stuck_first H L bytes f.0 free split extend f.2)
fault_first H L bytes NoMemory free split extend f = tt

-- the same where the bytes are written otherwise
pub fault_same : (L : List ℕ → Type 0) (xs ys : List ℕ) (e : ReadFault) → xs ≡ ys → IsReadFault L ys e → IsReadFault L xs e
fault_same L xs ys e f h = subst (λ (x : List ℕ). IsReadFault L x e) (sym f) h

-- The same fault where no memory is taken.
pub stuck_at : (L : List ℕ → Type 0) (bytes behind : List ℕ) (e : ReadFault) → e ≡ Stuck (length behind) → IsStuck L bytes behind → IsStuckFault L bytes e
stuck_at L bytes behind e f s = subst (IsStuckFault L bytes) (sym f) (behind, refl, s)

-- A fault without memory is a fault.
pub stuck_is_fault : (L : List ℕ → Type 0) (bytes : List ℕ) (e : ReadFault) → IsStuckFault L bytes e → IsReadFault L bytes e
stuck_is_fault L bytes (Stuck left) f = f
stuck_is_fault L bytes NoMemory f = tt

-- bytes that begin with a word are stuck nowhere
pub no_fault : (L : List ℕ → Type 0) (bytes word rest : List ℕ) (e : ReadFault) → IsPrefixFree L → L word → bytes ≡ word ++ rest → IsStuckFault L bytes e → ⊥
no_fault L bytes word rest (Stuck left) free w p f = stuck_no_word L bytes f.0 word rest free w p f.2
no_fault L bytes word rest NoMemory free w p f = f

-- What a `?` hands on is the fault that it met.
pub refused : {T : Type 0} (P : T → Type 0) (Q : ReadFault → Type 0) (r : Result T ReadFault) (e : ReadFault) → IsErrAnd r (λ x. x ≡ e) → Q e
    → MatchResult r P Q
refused P Q (Ok x) e h q = absurd h
refused P Q (Err x) e h q = subst Q (sym h) q
