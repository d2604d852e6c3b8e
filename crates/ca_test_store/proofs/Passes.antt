-- Edits of two passes as parts of a history.
use Rattle.std.proofs.Common.{◌≡◌, ℕ, ◌≤◌, ◌≢◌, List, [], ◌∷◌, ◌++◌, refl, ◌∙◌, ap}
use Rattle.ca_model.specs.StoreMap.{StoreMap}
use Rattle.ca_model.specs.History.{Edit, Put, Del, History, after, after_edit, by_pass, AreEdits, AreByPasses, AreByOthers}
use Rattle.ca_test_store.specs.Script.{after_edits, AreProper}
use Rattle.ca_test_store.proofs.Answering.{after_pass}

after-append : (xs ys : History) (m : StoreMap) → after (xs ++ ys) m ≡ after ys (after xs m)
after-append [] ys m = refl
after-append (x ∷ xs) ys m = after-append xs ys (after_edit x.1 m)

-- The map after edits of one pass, then of another one, and then of the first one again.
pub after_three : (p q : ℕ) (before own behind : List Edit) (m : StoreMap)
    → after (by_pass p before ++ by_pass q own ++ by_pass p behind) m ≡ after_edits behind (after_edits own (after_edits before m))
after_three p q before own behind m =
    after-append (by_pass p before ++ by_pass q own) (by_pass p behind) m
    ∙ ap (after (by_pass p behind)) (after-append (by_pass p before) (by_pass q own) m)
    ∙ after_pass p behind (after (by_pass q own) (after (by_pass p before) m))
    ∙ ap (after_edits behind) (after_pass q own (after (by_pass p before) m))
    ∙ ap (λ (n : StoreMap). after_edits behind (after_edits own n)) (after_pass p before m)

-- The map after edits of one pass, and then more of it.
pub after_two : (p : ℕ) (before behind : List Edit) (m : StoreMap)
    → after (by_pass p before ++ by_pass p behind) m ≡ after_edits behind (after_edits before m)
after_two p before behind m =
    after-append (by_pass p before) (by_pass p behind) m ∙ after_pass p behind (after (by_pass p before) m)
    ∙ ap (after_edits behind) (after_pass p before m)

-- What holds of two parts of a history holds of both together.
pub edits_append : (keypos : ℕ) (xs ys : History) → AreEdits keypos xs → AreEdits keypos ys → AreEdits keypos (xs ++ ys)
edits_append keypos [] ys a b = b
edits_append keypos (x ∷ xs) ys a b = (a.0, edits_append keypos xs ys a.1 b)

pub passes_append : (n : ℕ) (xs ys : History) → AreByPasses n xs → AreByPasses n ys → AreByPasses n (xs ++ ys)
passes_append n [] ys a b = b
passes_append n (x ∷ xs) ys a b = (a.0, a.1, passes_append n xs ys a.2 b)

pub others_append : (n : ℕ) (xs ys : History) → AreByOthers n xs → AreByOthers n ys → AreByOthers n (xs ++ ys)
others_append n [] ys a b = b
others_append n (x ∷ xs) ys a b = (a.0, others_append n xs ys a.1 b)

-- Proper edits are edits, whichever pass makes them.
pub proper_edits : (keypos p : ℕ) (edits : List Edit) → AreProper keypos edits → AreEdits keypos (by_pass p edits)
proper_edits keypos p [] h = tt
proper_edits keypos p (Put k o ∷ edits) h = (h.0, proper_edits keypos p edits h.1)
proper_edits keypos p (Del k ∷ edits) h = (tt, proper_edits keypos p edits h.1)

-- Edits of one pass are of a pass with such a number, and not of another one.
pub passes_by : (n p : ℕ) (edits : List Edit) → 1 ≤ p → p ≤ n → AreByPasses n (by_pass p edits)
passes_by n p [] low high = tt
passes_by n p (edit ∷ edits) low high = (low, high, passes_by n p edits low high)

pub others_by : (n p : ℕ) (edits : List Edit) → p ≢ n → AreByOthers n (by_pass p edits)
others_by n p [] differs = tt
others_by n p (edit ∷ edits) differs = (differs, others_by n p edits differs)
