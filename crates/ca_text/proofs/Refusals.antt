-- Why no term is read: one fault, within the bytes, and none where a term is read.
use Rattle.std.proofs.Common.{◌≡◌, ◌⊎◌, inl, inr, ⊎_elim, ℕ, suc, ◌-◌, true, List, length, Ok, Err, refl, sym, ap, subst, ◌∙◌}
use Rattle.ca_term.specs.Tree.{Tree}
use Rattle.ca_text.specs.Front.{GoesOnAt, IsLongestStart, IsKind, IsNotRead, fault_place}
use Rattle.ca_text.specs.Grammar.{standard, IsRead}
use Rattle.ca_text.specs.Inner.Place.{text_fault, fault_with}
use Rattle.ca_text.specs.Inner.Reading.{Read, Fails, term_at}
use Rattle.ca_text.specs.declared.fault.Fault.{Fault}
use Rattle.ca_text.specs.declared.fault.Why.{Why}
use Rattle.ca_text.specs.declared.fault.Why.TheVariants as why
use Rattle.ca_text.specs.declared.fault.Stop.{Stop}
use Rattle.ca_text.specs.declared.fault.Stop.TheVariants as stop
use Rattle.ca_text.specs.declared.fault.TextFault.{TextFault}
use Rattle.ca_text.specs.declared.fault.TextFault.TheVariants.{Syntax, AtomTooLong, TooDeep, TooWide, NoMemory}
use Rattle.ca_text.proofs.Tools.{either_way}
use Rattle.ca_text.proofs.LimitKinds.{just, limits_for, levels_for, limit_goes, limit_stays, syntax_stays}
use Rattle.ca_text.proofs.Places.{start_is, start_sure}
use Rattle.ca_text.specs.declared.bounds.TheConstants.{MOST_LEVELS}
use Rattle.ca_text.proofs.ReadFront.{read_is, read_again}

placed : (why : Why) (at : ℕ) → fault_place (fault_with why at) ≡ at
placed why.Syntax at = refl
placed why.AtomTooLong at = refl
placed why.TooDeep at = refl
placed why.TooWide at = refl

kind_is : (bytes : List ℕ) (f : Fault) (w : Why) → term_at standard MOST_LEVELS bytes ≡ Err f → f.why ≡ w → IsKind bytes (fault_with w (length bytes - f.left))
kind_is bytes f why.Syntax e kind = syntax_stays bytes f e kind
kind_is bytes f why.AtomTooLong e kind = limit_goes why.AtomTooLong bytes f e (ap (just why.AtomTooLong) kind)
kind_is bytes f why.TooDeep e kind = limit_goes why.TooDeep bytes f e (ap (just why.TooDeep) kind)
kind_is bytes f why.TooWide e kind = limit_goes why.TooWide bytes f e (ap (just why.TooWide) kind)

fault_is : (bytes : List ℕ) (f : Fault) → term_at standard MOST_LEVELS bytes ≡ Err f → IsNotRead bytes (fault_with f.why (length bytes - f.left))
fault_is bytes f e = record {
  unread = λ t n r. let again = read_again bytes t n r in absurd cc;
  place = subst (IsLongestStart bytes) (sym (placed f.why (length bytes - f.left))) (start_is bytes f e);
  kind = kind_is bytes f f.why e refl;
}

-- Where the reader stops at a fault, nothing is read, for the reason that it tells.
pub not_read : (bytes : List ℕ) (e : Stop) → Fails e (term_at standard MOST_LEVELS bytes)
    → (text_fault e (length bytes) ≡ NoMemory) ⊎ IsNotRead bytes (text_fault e (length bytes))
not_read bytes stop.NoMemory f = inl refl
not_read bytes (stop.At d) f = inr (fault_is bytes d f)

-- ---- one fault

-- what goes on with a limit raised is a fault of that limit
apart : (w : Why) (bytes : List ℕ) (f : Fault) → term_at standard MOST_LEVELS bytes ≡ Err f
    → GoesOnAt (limits_for w) (suc (levels_for w)) bytes (length bytes - f.left)
    → just w f.why ≡ true
apart w bytes f e goes = either_way (just w f.why) (λ h. h) (λ h. absurd (limit_stays w bytes f e h goes))

just_is : (w v : Why) → just w v ≡ true → w ≡ v
just_is why.Syntax v h = absurd cc
just_is why.AtomTooLong why.AtomTooLong h = refl
just_is why.AtomTooLong why.Syntax h = absurd cc
just_is why.AtomTooLong why.TooDeep h = absurd cc
just_is why.AtomTooLong why.TooWide h = absurd cc
just_is why.TooDeep why.TooDeep h = refl
just_is why.TooDeep why.Syntax h = absurd cc
just_is why.TooDeep why.AtomTooLong h = absurd cc
just_is why.TooDeep why.TooWide h = absurd cc
just_is why.TooWide why.TooWide h = refl
just_is why.TooWide why.Syntax h = absurd cc
just_is why.TooWide why.AtomTooLong h = absurd cc
just_is why.TooWide why.TooDeep h = absurd cc

-- a fault of a limit isn't one of syntax
no_syntax : (bytes : List ℕ) (f : Fault) (v : Why) → term_at standard MOST_LEVELS bytes ≡ Err f → f.why ≡ v → just v v ≡ true
    → IsKind bytes (Syntax (length bytes - f.left)) → ⊥
no_syntax bytes f v e kind up none =
    let goes = limit_goes v bytes f e (ap (just v) kind ∙ up) in
    none goes.0 (limits_for v) (suc (levels_for v)) goes.1

syntax_sure : (bytes : List ℕ) (f : Fault) (v : Why) → term_at standard MOST_LEVELS bytes ≡ Err f → f.why ≡ v → IsKind bytes (Syntax (length bytes - f.left))
    → why.Syntax ≡ v
syntax_sure bytes f why.Syntax e kind none = refl
syntax_sure bytes f why.AtomTooLong e kind none = absurd (no_syntax bytes f why.AtomTooLong e kind refl none)
syntax_sure bytes f why.TooDeep e kind none = absurd (no_syntax bytes f why.TooDeep e kind refl none)
syntax_sure bytes f why.TooWide e kind none = absurd (no_syntax bytes f why.TooWide e kind refl none)

limit_sure : (w : Why) (bytes : List ℕ) (f : Fault) → term_at standard MOST_LEVELS bytes ≡ Err f
    → GoesOnAt (limits_for w) (suc (levels_for w)) bytes (length bytes - f.left) → w ≡ f.why
limit_sure w bytes f e goes = just_is w f.why (apart w bytes f e goes)

at_place : (bytes : List ℕ) (f : Fault) (at : ℕ) → term_at standard MOST_LEVELS bytes ≡ Err f → IsLongestStart bytes at → at ≡ length bytes - f.left
at_place bytes f at e start = start_sure bytes at (length bytes - f.left) start (start_is bytes f e)

same_fault : (at other : ℕ) (w v : Why) → at ≡ other → w ≡ v → fault_with w at ≡ fault_with v other
same_fault at other w v e kind = ap (fault_with w) e ∙ ap (λ (x : Why). fault_with x other) kind

fault_found : (bytes : List ℕ) (f : Fault) (e : TextFault) → term_at standard MOST_LEVELS bytes ≡ Err f → IsNotRead bytes e
    → e ≡ fault_with f.why (length bytes - f.left)
fault_found bytes f (Syntax at) e h =
    let same = at_place bytes f at e h.place in
    same_fault at (length bytes - f.left) why.Syntax f.why same (syntax_sure bytes f f.why e refl (subst (λ n. IsKind bytes (Syntax n)) same h.kind))
fault_found bytes f (AtomTooLong at) e h =
    let same = at_place bytes f at e h.place in
    same_fault at (length bytes - f.left) why.AtomTooLong f.why same
    (limit_sure why.AtomTooLong bytes f e (subst (λ n. IsKind bytes (AtomTooLong n)) same h.kind))
fault_found bytes f (TooDeep at) e h =
    let same = at_place bytes f at e h.place in
    same_fault at (length bytes - f.left) why.TooDeep f.why same (limit_sure why.TooDeep bytes f e (subst (λ n. IsKind bytes (TooDeep n)) same h.kind))
fault_found bytes f (TooWide at) e h =
    let same = at_place bytes f at e h.place in
    same_fault at (length bytes - f.left) why.TooWide f.why same (limit_sure why.TooWide bytes f e (subst (λ n. IsKind bytes (TooWide n)) same h.kind))
fault_found bytes f NoMemory e h = absurd h.kind

fault_by : (bytes : List ℕ) (e f : TextFault) (r : Read Tree) → term_at standard MOST_LEVELS bytes ≡ r → IsNotRead bytes e → IsNotRead bytes f → e ≡ f
fault_by bytes e f (Ok (t, rest)) is p q = absurd (p.unread t (length bytes - length rest) (read_is bytes t rest is).1)
fault_by bytes e f (Err d) is p q = fault_found bytes d e is p ∙ sym (fault_found bytes d f is q)

-- Nothing is read for one reason.
pub fault_sure : (bytes : List ℕ) (e f : TextFault) → IsNotRead bytes e → IsNotRead bytes f → e ≡ f
fault_sure bytes e f p q = fault_by bytes e f (term_at standard MOST_LEVELS bytes) refl p q

-- Where nothing is read for a reason, the reader tells it, unless memory lacks.
pub fault_known : (bytes : List ℕ) (s : Stop) (e : TextFault) → Fails s (term_at standard MOST_LEVELS bytes) → IsNotRead bytes e
    → (text_fault s (length bytes) ≡ e) ⊎ (text_fault s (length bytes) ≡ NoMemory)
fault_known bytes s e h p = ⊎_elim (λ none. inr none) (λ q. inl (fault_sure bytes (text_fault s (length bytes)) e q p)) (not_read bytes s h)

-- No bytes have both a text at the front and a reason why there is none.
pub read_or_not : (bytes : List ℕ) (t : Tree) (n : ℕ) (e : TextFault) → IsRead bytes t n → IsNotRead bytes e → ⊥
read_or_not bytes t n e p q = q.unread t n p
