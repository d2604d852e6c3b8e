-- What stands in two parts of a history, or of a log.
use Rattle.std.proofs.Common.{◌≡◌, ℕ, ◌==◌, Bool, true, false, List, [], ◌∷◌, ◌++◌, if◌then◌else◌, refl, sym, ◌∙◌, ap, append-nil, append_assoc, arith}
use Rattle.std.proofs.lemmas.Bool.Decides.{nat_tests}
use Rattle.ca_model.specs.History.{Edit, History, edits_of_pass, AreEdits, AreByPasses, AreByOthers}
use Rattle.ca_model.specs.Event.{Event, Entry, effect}
use Rattle.ca_model.specs.Lawful.{edits_of_log}

-- The edits of a log with one entry more.
pub log_more : (log : List Entry) (event : Event) (p : ℕ)
    → edits_of_log (log ++ (event, p) ∷ []) ≡ edits_of_log log ++ effect event
log_more [] event p = append-nil (effect event)
log_more (entry ∷ log) event p =
    ap (λ (es : List Edit). effect entry.0 ++ es) (log_more log event p)
    ∙ sym (append_assoc (effect entry.0) (edits_of_log log) (effect event))

-- The edits of a pass in two parts of a history.
pub edits_in_parts : (pass : ℕ) (xs ys : History)
    → edits_of_pass pass (xs ++ ys) ≡ edits_of_pass pass xs ++ edits_of_pass pass ys
edits_in_parts pass [] ys = refl
edits_in_parts pass (x ∷ xs) ys = by (x.0 == pass) (edits_in_parts pass xs ys)
  where
    all : History → List Edit
    all = edits_of_pass pass

    by : (own : Bool) → all (xs ++ ys) ≡ all xs ++ all ys
        → (if own then x.1 ∷ all (xs ++ ys) else all (xs ++ ys))
        ≡ (if own then x.1 ∷ all xs else all xs) ++ all ys
    by true e = ap (λ (es : List Edit). x.1 ∷ es) e
    by false e = e

-- A history without edits of a pass was made by others.
pub by_others : (pass : ℕ) (xs : History) → edits_of_pass pass xs ≡ [] → AreByOthers pass xs
by_others pass [] e = tt
by_others pass (x ∷ xs) e = by (x.0 == pass) refl e (λ none. by_others pass xs none)
  where
    differs : x.0 ≡ pass → (x.0 == pass) ≡ false → ⊥
    differs same is = grind (arith, nat_tests, same, is)

    by : (own : Bool) → (x.0 == pass) ≡ own
        → (if own then x.1 ∷ edits_of_pass pass xs else edits_of_pass pass xs) ≡ []
        → (edits_of_pass pass xs ≡ [] → AreByOthers pass xs) → AreByOthers pass (x ∷ xs)
    by true is e rest = cc
    by false is e rest = (λ same. differs same is, rest e)

-- The second part's edits are lawful,
pub second_edits : (p : ℕ) (xs ys : History) → AreEdits p (xs ++ ys) → AreEdits p ys
second_edits p [] ys h = h
second_edits p (x ∷ xs) ys h = second_edits p xs ys h.1

-- and made by passes that there are.
pub second_passes : (n : ℕ) (xs ys : History) → AreByPasses n (xs ++ ys) → AreByPasses n ys
second_passes n [] ys h = h
second_passes n (x ∷ xs) ys h = second_passes n xs ys h.2

-- What stands behind the same edits is the same.
pub same_behind : (xs ys zs : List Edit) → xs ++ ys ≡ xs ++ zs → ys ≡ zs
same_behind [] ys zs e = e
same_behind (x ∷ xs) ys zs e = same_behind xs ys zs cc
