-- Keys that stand in a list of objects from a place on, or before it.
use Rattle.std.proofs.Common.{◌≡◌, ℕ, zero, suc, ◌-◌, ◌≤◌, ◌<◌, true, List, [], ◌∷◌, length, take, drop, get_or, refl, sym, ap, ◌∙◌, subst, arith}
use Rattle.ca_term.specs.Tree.{Tree}
use Rattle.ca_term.specs.Object.{is_object, key_of}
use Rattle.ca_ets.specs.Command.{End, Value}
use Rattle.ca_ets.specs.OrderedMap.{IsTable}
use Rattle.ca_ets.specs.Step.{first_key, last_key}

-- An object of a table is one.
pub object_at : (p : ℕ) (m : List Tree) (i : ℕ) (o : Tree) → IsTable p m → i < length m → o ≡ get_or m i o → is_object p o ≡ true
object_at p [] i o t h e = absurd (omega arith)
object_at p (q ∷ m) zero o t h e = ap (is_object p) e ∙ t.0.object
object_at p (q ∷ m) (suc i) o t h e = object_at p m i o t.2 (omega arith) e

-- The first key from a place on is that of the object there.
pub key_at : (p : ℕ) (m : List Tree) (i : ℕ) (o : Tree) → i < length m → o ≡ get_or m i o → first_key p (drop i m) ≡ Value (key_of p o)
key_at p [] i o h e = absurd (omega arith)
key_at p (q ∷ m) zero o h e = ap (λ x. Value (key_of p x)) (sym e)
key_at p (q ∷ m) (suc i) o h e = key_at p m i o (omega arith) e

-- From the end on there is none.
pub no_key_at : (p : ℕ) (m : List Tree) (i : ℕ) → i ≡ length m → first_key p (drop i m) ≡ End
no_key_at p [] zero h = refl
no_key_at p [] (suc i) h = absurd (omega arith)
no_key_at p (o ∷ m) zero h = absurd (omega arith)
no_key_at p (o ∷ m) (suc i) h = no_key_at p m i (omega arith)

-- the last key up to a place
key_upto : (p : ℕ) (m : List Tree) (i : ℕ) (o : Tree) → i < length m → o ≡ get_or m i o → last_key p (take (suc i) m) ≡ Value (key_of p o)
key_upto p [] i o h e = absurd (omega arith)
key_upto p (q ∷ []) zero o h e = ap (λ x. Value (key_of p x)) (sym e)
key_upto p (q ∷ []) (suc i) o h e = absurd (omega arith)
key_upto p (q ∷ r ∷ m) zero o h e = ap (λ x. Value (key_of p x)) (sym e)
key_upto p (q ∷ r ∷ m) (suc i) o h e = key_upto p (r ∷ m) i o (omega arith) e

-- The last key before a place is that of the object before it.
pub key_before : (p : ℕ) (m : List Tree) (i : ℕ) (o : Tree) → (i ≡ 0 → ⊥) → i ≤ length m → o ≡ get_or m (i - 1) o
    → last_key p (take i m) ≡ Value (key_of p o)
key_before p m i o h k e =
    let s : suc (i - 1) ≡ i = omega arith in
    subst (λ j. last_key p (take j m) ≡ Value (key_of p o)) s (key_upto p m (i - 1) o (omega arith) e)

-- Before the first place there is none.
pub no_key_before : (p : ℕ) (m : List Tree) (i : ℕ) → i ≡ 0 → last_key p (take i m) ≡ End
no_key_before p m zero h = refl
no_key_before p m (suc i) h = absurd (omega arith)

-- the keys at a place and before it
pub ruleset walking = (object_at, key_at, no_key_at, key_before, no_key_before)
