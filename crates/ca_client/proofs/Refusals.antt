-- How refusals are counted, one after the other.
use Rattle.std.proofs.Common.{◌≡◌, ℕ, suc, ◌+◌, ◌≤◌, ◌<◌, List, [], ◌∷◌, ◌++◌, refl, sym, ◌∙◌, ap, subst, arith, add-zero, Some, None, Ok, Err}
use Rattle.std.specs.Prelude.{Option, ◌⊎◌, IsSome}
use Rattle.ca_ets.specs.Command.{Answer, Full, Deep, Worn}
use Rattle.ca_model.specs.declared.outcome.Cause.{Cause}
use Rattle.ca_model.specs.declared.outcome.FullCause.{FullCause}
use Rattle.ca_model.specs.declared.outcome.Spent.{Spent}
use Rattle.ca_model.specs.declared.outcome.Cause.TheVariants as cause
use Rattle.ca_model.specs.Known.{Counts, one_more}
use Rattle.ca_client.specs.Tries.{Tries, AreTries, AreAllTries, AreTriedAgain, IsAnsweredBy, doubled, waits_in, with_refusals, with_last, with_tries, with_all_tries}
use Rattle.ca_client.specs.Played.{full_in, deep_in, worn_in, AreCounted}

-- One refusal more.
pub with_more : (xs : List Cause) (x : Cause) (counts : Counts) → with_refusals (xs ++ x ∷ []) counts ≡ one_more x (with_refusals xs counts)
with_more [] x counts = refl
with_more (y ∷ xs) x counts = with_more xs x (one_more y counts)

-- One command more.
pub with_one_more : (all : List Tries) (tries : Tries) (counts : Counts) → with_all_tries (all ++ tries ∷ []) counts ≡ with_tries tries (with_all_tries all counts)
with_one_more [] tries counts = refl
with_one_more (t ∷ all) tries counts = with_one_more all tries (with_tries t counts)

pub all_and_one : (all : List Tries) (tries : Tries) (answers : List Answer) (answer : Answer) → AreAllTries all answers → AreTries tries answer
    → AreAllTries (all ++ tries ∷ []) (answers ++ answer ∷ [])
all_and_one [] tries [] answer h t = (t, tt)
all_and_one [] tries (x ∷ answers) answer h t = absurd h
all_and_one (y ∷ all) tries [] answer h t = absurd h
all_and_one (y ∷ all) tries (x ∷ answers) answer h t = (h.0, all_and_one all tries answers answer h.1 t)

-- No count falls.
pub record IsUpFrom (a b : Counts) : Type 0 where
  pub full : a.full ≤ b.full
  pub deep : a.deep ≤ b.deep
  pub worn : a.worn ≤ b.worn

rises : (x : Cause) (a b : Counts) → IsUpFrom (one_more x a) b → IsUpFrom a b
rises (cause.Busy spent) a b h = let f = h.full in let d = h.deep in let w = h.worn in record { full = omega arith; deep = omega arith; worn = omega arith }
rises (cause.Full why) a b h = let f = h.full in let d = h.deep in let w = h.worn in record { full = omega arith; deep = omega arith; worn = omega arith }
rises (cause.Deep level) a b h = let f = h.full in let d = h.deep in let w = h.worn in record { full = omega arith; deep = omega arith; worn = omega arith }
rises (cause.Worn counter) a b h = let f = h.full in let d = h.deep in let w = h.worn in record { full = omega arith; deep = omega arith; worn = omega arith }

up_with : (xs : List Cause) (counts : Counts) → IsUpFrom counts (with_refusals xs counts)
up_with [] counts = record { full = omega arith; deep = omega arith; worn = omega arith }
up_with (x ∷ xs) counts = rises x counts (with_refusals xs (one_more x counts)) (up_with xs (one_more x counts))

counted_by : (waits : ℕ) (last : Option Cause) (answer : Answer) (a b : Counts) → IsAnsweredBy waits last answer → IsUpFrom a b
    → AreCounted a (with_last last b) (answer ∷ [])
counted_by waits None (Ok response) a b h up = let f = up.full in let d = up.deep in let w = up.worn in
    record { full = omega arith; deep = omega arith; worn = omega arith }
counted_by waits None (Err refusal) a b h up = absurd h
counted_by waits (Some (cause.Busy spent)) answer a b h up = absurd h
counted_by waits (Some (cause.Full why)) (Ok response) a b h up = absurd h
counted_by waits (Some (cause.Full why)) (Err Full) a b h up = let f = up.full in let d = up.deep in let w = up.worn in
    record { full = omega arith; deep = omega arith; worn = omega arith }
counted_by waits (Some (cause.Full why)) (Err Deep) a b h up = absurd h
counted_by waits (Some (cause.Full why)) (Err Worn) a b h up = absurd h
counted_by waits (Some (cause.Deep level)) (Ok response) a b h up = absurd h
counted_by waits (Some (cause.Deep level)) (Err Full) a b h up = absurd h
counted_by waits (Some (cause.Deep level)) (Err Deep) a b h up = let f = up.full in let d = up.deep in let w = up.worn in
    record { full = omega arith; deep = omega arith; worn = omega arith }
counted_by waits (Some (cause.Deep level)) (Err Worn) a b h up = absurd h
counted_by waits (Some (cause.Worn counter)) (Ok response) a b h up = absurd h
counted_by waits (Some (cause.Worn counter)) (Err Full) a b h up = absurd h
counted_by waits (Some (cause.Worn counter)) (Err Deep) a b h up = absurd h
counted_by waits (Some (cause.Worn counter)) (Err Worn) a b h up = let f = up.full in let d = up.deep in let w = up.worn in
    record { full = omega arith; deep = omega arith; worn = omega arith }

-- A command's refusal is counted.
counted_tries : (tries : Tries) (answer : Answer) (counts : Counts) → AreTries tries answer → AreCounted counts (with_tries tries counts) (answer ∷ [])
counted_tries tries answer counts t =
    counted_by (waits_in tries.again) tries.last answer counts (with_refusals tries.again counts) t.answered (up_with tries.again counts)

counted_both : (a b d : Counts) (answer : Answer) (answers : List Answer) → AreCounted a b (answer ∷ []) → AreCounted b d answers
    → AreCounted a d (answer ∷ answers)
counted_both a b d (Ok response) answers x y = let f = x.full in let g = y.full in let p = x.deep in let q = y.deep in let v = x.worn in let w = y.worn in
    record { full = omega arith; deep = omega arith; worn = omega arith }
counted_both a b d (Err Full) answers x y = let f = x.full in let g = y.full in let p = x.deep in let q = y.deep in let v = x.worn in let w = y.worn in
    record { full = omega arith; deep = omega arith; worn = omega arith }
counted_both a b d (Err Deep) answers x y = let f = x.full in let g = y.full in let p = x.deep in let q = y.deep in let v = x.worn in let w = y.worn in
    record { full = omega arith; deep = omega arith; worn = omega arith }
counted_both a b d (Err Worn) answers x y = let f = x.full in let g = y.full in let p = x.deep in let q = y.deep in let v = x.worn in let w = y.worn in
    record { full = omega arith; deep = omega arith; worn = omega arith }

-- So the refusals of all commands are.
pub counted_all : (all : List Tries) (answers : List Answer) (counts : Counts) → AreAllTries all answers → AreCounted counts (with_all_tries all counts) answers
counted_all [] [] counts h = record { full = omega arith; deep = omega arith; worn = omega arith }
counted_all [] (answer ∷ answers) counts h = absurd h
counted_all (tries ∷ all) [] counts h = absurd h
counted_all (tries ∷ all) (answer ∷ answers) counts h =
    counted_both counts (with_tries tries counts) (with_all_tries all (with_tries tries counts)) answer answers (counted_tries tries answer counts h.0)
    (counted_all all answers (with_tries tries counts) h.1)

-- the budget that the try behind these refusals has at least
abbrev pub budget_after : ℕ → List Cause → ℕ
budget_after budget [] = budget
budget_after budget (cause.Busy spent ∷ more) = budget_after (doubled budget) more
budget_after budget (cause.Full why ∷ more) = budget_after budget more
budget_after budget (cause.Deep level ∷ more) = budget_after budget more
budget_after budget (cause.Worn counter ∷ more) = budget_after budget more

-- It is tried again once more.
pub again_more : (xs : List Cause) (x : Cause) (budget waits : ℕ) → AreTriedAgain budget waits xs
    → AreTriedAgain (budget_after budget xs) (waits + waits_in xs) (x ∷ []) → AreTriedAgain budget waits (xs ++ x ∷ [])
again_more [] x budget waits h k = subst (λ (n : ℕ). AreTriedAgain budget n (x ∷ [])) (add-zero waits) k
again_more (cause.Busy spent ∷ xs) x budget waits h k = (h.0, again_more xs x (doubled budget) waits h.1 k)
again_more (cause.Full why ∷ xs) x budget waits h k =
    let same : waits + suc (waits_in xs) ≡ suc waits + waits_in xs = omega arith in
    (h.0, h.1, again_more xs x budget (suc waits) h.2 (subst (λ (n : ℕ). AreTriedAgain (budget_after budget xs) n (x ∷ [])) same k))
again_more (cause.Deep level ∷ xs) x budget waits h k = absurd h
again_more (cause.Worn counter ∷ xs) x budget waits h k = absurd h

pub budget_more : (xs : List Cause) (spent : Spent) (budget : ℕ) → budget_after budget (xs ++ cause.Busy spent ∷ []) ≡ doubled (budget_after budget xs)
budget_more [] spent budget = refl
budget_more (cause.Busy before ∷ xs) spent budget = budget_more xs spent (doubled budget)
budget_more (cause.Full why ∷ xs) spent budget = budget_more xs spent budget
budget_more (cause.Deep level ∷ xs) spent budget = budget_more xs spent budget
budget_more (cause.Worn counter ∷ xs) spent budget = budget_more xs spent budget

pub budget_stays : (xs : List Cause) (why : FullCause) (budget : ℕ) → budget_after budget (xs ++ cause.Full why ∷ []) ≡ budget_after budget xs
budget_stays [] why budget = refl
budget_stays (cause.Busy before ∷ xs) why budget = budget_stays xs why (doubled budget)
budget_stays (cause.Full before ∷ xs) why budget = budget_stays xs why budget
budget_stays (cause.Deep level ∷ xs) why budget = budget_stays xs why budget
budget_stays (cause.Worn counter ∷ xs) why budget = budget_stays xs why budget

pub waits_stay : (xs : List Cause) (spent : Spent) → waits_in (xs ++ cause.Busy spent ∷ []) ≡ waits_in xs
waits_stay [] spent = refl
waits_stay (cause.Busy before ∷ xs) spent = waits_stay xs spent
waits_stay (cause.Full why ∷ xs) spent = ap (λ (n : ℕ). suc n) (waits_stay xs spent)
waits_stay (cause.Deep level ∷ xs) spent = waits_stay xs spent
waits_stay (cause.Worn counter ∷ xs) spent = waits_stay xs spent

pub waits_more : (xs : List Cause) (why : FullCause) → waits_in (xs ++ cause.Full why ∷ []) ≡ suc (waits_in xs)
waits_more [] why = refl
waits_more (cause.Busy before ∷ xs) why = waits_more xs why
waits_more (cause.Full before ∷ xs) why = ap (λ (n : ℕ). suc n) (waits_more xs why)
waits_more (cause.Deep level ∷ xs) why = waits_more xs why
waits_more (cause.Worn counter ∷ xs) why = waits_more xs why
