-- What is noted of ranges that were found unfinished.
use Rattle.std.proofs.Common.{◌≡◌, ◌≢◌, ℕ, ◌+◌, ◌*◌, ◌/◌, ◌%◌, ◌<◌, zero, suc, Bool, true, false, cond, eqb, List, [], ◌∷◌, length, Option, None, Some, get_or, set, sym, refl, ap, ◌∙◌, subst, arith, eq-eqb, ne_eqb, get_or-set_same, get_or-set_other}
use mathlib.Core.Logic.{dite}
use native.Mathlib.Decide.{ℕ_discrete}
use Rattle.ca_rows.specs.Layout.{row_limit}
use Rattle.ca_node.specs.Endings.{HasHelped}
use Rattle.ca_node.specs.Layout.{sequence_unit}
use Rattle.ca_node.specs.Told.{MyTree, HasWatched, but_of, finished_by, unfinished_by, active_of}
use Rattle.ca_node.specs.TreeView.{Unfinished}
use Rattle.ca_range.specs.Meeting.{finished_of, AreMet}

-- Nothing more is as many.
no_more : (k : ℕ) → 0 + k ≡ k
no_more k = omega arith

-- None of a pass is left without those of the pass.
none_of : (pass word : ℕ) (xs : List Unfinished) → finished_by pass word (but_of pass xs) ≡ 0
none_of pass word [] = refl
none_of pass word (x ∷ xs) = dite (ℕ_discrete x.pass pass)
    (λ (e : x.pass ≡ pass). let b = eq-eqb x.pass pass e in
    ap (λ (c : Bool). finished_by pass word (cond c (but_of pass xs) (x ∷ but_of pass xs))) b ∙ none_of pass word xs)
    (λ (n : x.pass ≢ pass). let b = ne_eqb x.pass pass n in
    ap (λ (c : Bool). finished_by pass word (cond c (but_of pass xs) (x ∷ but_of pass xs))) b
    ∙ (ap (λ (c : Bool). cond c (cond (eqb word (sequence_unit * x.number + row_limit)) 0 1) 0 + finished_by pass word (but_of pass xs)) b
    ∙ (no_more (finished_by pass word (but_of pass xs)) ∙ none_of pass word xs)))

-- Those of another pass are as many.
others_of : (pass other word : ℕ) (xs : List Unfinished) → other ≢ pass → finished_by other word (but_of pass xs) ≡ finished_by other word xs
others_of pass other word [] n = refl
others_of pass other word (x ∷ xs) n = dite (ℕ_discrete x.pass pass)
    (λ (e : x.pass ≡ pass). let b = eq-eqb x.pass pass e in let c = ne_eqb x.pass other (λ f. n (sym f ∙ e)) in
    ap (λ (d : Bool). finished_by other word (cond d (but_of pass xs) (x ∷ but_of pass xs))) b
    ∙ (others_of pass other word xs n
    ∙ sym (ap (λ (d : Bool). cond d (cond (eqb word (sequence_unit * x.number + row_limit)) 0 1) 0 + finished_by other word xs) c
    ∙ no_more (finished_by other word xs))))
    (λ (m : x.pass ≢ pass). let b = ne_eqb x.pass pass m in
    ap (λ (d : Bool). finished_by other word (cond d (but_of pass xs) (x ∷ but_of pass xs))) b
    ∙ ap (λ (k : ℕ). cond (eqb x.pass other) (cond (eqb word (sequence_unit * x.number + row_limit)) 0 1) 0 + k) (others_of pass other word xs n))

-- A range of a pass was found unfinished, or none.
pub noted : (numbers : List (Option ℕ)) (xs : List Unfinished) (pass word : ℕ) → pass < length numbers → AreMet numbers xs
    → AreMet (set numbers pass (active_of word)) (unfinished_by pass word xs)
noted numbers xs pass word inside met other now lo hi = dite (ℕ_discrete other pass) same else
  where
    one : Unfinished
    one = record { pass = pass; number = word / sequence_unit }

    same : other ≡ pass → finished_by other now (unfinished_by pass word xs) ≡ finished_of now (get_or (set numbers pass (active_of word)) other None)
    same e = subst (λ (o : ℕ). finished_by o now (unfinished_by pass word xs) ≡ finished_of now (get_or (set numbers pass (active_of word)) o None)) (sym e)
        (by (eqb (word % sequence_unit) row_limit)
        ∙ sym (ap (finished_of now) (get_or-set_same numbers pass (active_of word) None inside)))
      where
        by : (b : Bool) → finished_by pass now (cond b (one ∷ but_of pass xs) (but_of pass xs)) ≡ finished_of now (cond b (Some (word / sequence_unit)) None)
        by true = let own = eq-eqb pass pass refl in let none = none_of pass now xs in
            let x : ℕ = cond (eqb now (sequence_unit * (word / sequence_unit) + row_limit)) 0 1 in
            ap (λ (c : Bool). cond c x 0 + finished_by pass now (but_of pass xs)) own ∙ (ap (λ (k : ℕ). x + k) none ∙ omega arith)
        by false = none_of pass now xs

    else : other ≢ pass → finished_by other now (unfinished_by pass word xs) ≡ finished_of now (get_or (set numbers pass (active_of word)) other None)
    else n = by (eqb (word % sequence_unit) row_limit) ∙ (others_of pass other now xs n ∙ (met other now lo hi
        ∙ sym (ap (finished_of now) (get_or-set_other numbers pass other (active_of word) None n))))
      where
        by : (b : Bool) → finished_by other now (cond b (one ∷ but_of pass xs) (but_of pass xs)) ≡ finished_by other now (but_of pass xs)
        by true = ap (λ (c : Bool). cond c (cond (eqb now (sequence_unit * (word / sequence_unit) + row_limit)) 0 1) 0 + finished_by other now (but_of pass xs))
            (ne_eqb pass other (λ e. n (sym e))) ∙ no_more (finished_by other now (but_of pass xs))
        by false = refl

-- No range of the pass is unfinished any more.
pub noted_none : (numbers : List (Option ℕ)) (xs : List Unfinished) (pass : ℕ) → pass < length numbers → AreMet numbers xs
    → AreMet (set numbers pass None) (but_of pass xs)
noted_none numbers xs pass inside met = noted numbers xs pass 0 inside met

-- The word of another pass's range was loaded.
pub watched_met : (numbers : List (Option ℕ)) (m m' : MyTree) (pass word : ℕ) → pass < length numbers → pass ≢ m.0.upper.number → HasWatched pass m word m'
    → AreMet numbers m.0.upper.ranges.unfinished → AreMet (set numbers pass (active_of word)) m'.0.upper.ranges.unfinished
watched_met numbers m m' pass word inside n h met = let u = m.0.upper in
    subst (λ (x : MyTree). AreMet (set numbers pass (active_of word)) x.0.upper.ranges.unfinished) (sym h.now)
    (subst (λ (b : Bool). AreMet (set numbers pass (active_of word)) (cond b u.ranges.unfinished (unfinished_by pass word u.ranges.unfinished)))
    (sym (ne_eqb pass u.number n)) (noted numbers u.ranges.unfinished pass word inside met))

-- Another pass's range was decided.
pub helped_met : (numbers : List (Option ℕ)) (m m' : MyTree) (won : Bool) (pass owner number border : ℕ) → pass ≡ owner → owner < length numbers
    → HasHelped won pass number border m m' → AreMet numbers m.0.upper.ranges.unfinished → AreMet (set numbers owner None) m'.0.upper.ranges.unfinished
helped_met numbers m m' won pass owner number border same inside h met = by won h
  where
    at_pass : AreMet (set numbers pass None) (but_of pass m.0.upper.ranges.unfinished)
    at_pass = noted_none numbers m.0.upper.ranges.unfinished pass (omega arith) met

    there : AreMet (set numbers owner None) (but_of pass m.0.upper.ranges.unfinished)
    there = subst (λ (p : ℕ). AreMet (set numbers p None) (but_of pass m.0.upper.ranges.unfinished)) same at_pass

    by : (won : Bool) → HasHelped won pass number border m m' → AreMet (set numbers owner None) m'.0.upper.ranges.unfinished
    by true e = subst (λ (x : MyTree). AreMet (set numbers owner None) x.0.upper.ranges.unfinished) (sym e) there
    by false e = subst (λ (x : MyTree). AreMet (set numbers owner None) x.0.upper.ranges.unfinished) (sym e) there

-- No number is noted.
abbrev pub none_in : List (Option ℕ) → Bool
none_in [] = true
none_in (None ∷ xs) = none_in xs
none_in (Some n ∷ xs) = false

none_at : (xs : List (Option ℕ)) (k : ℕ) → none_in xs ≡ true → get_or xs k None ≡ None
none_at [] k e = refl
none_at (None ∷ xs) zero e = refl
none_at (None ∷ xs) (suc k) e = none_at xs k e
none_at (Some n ∷ xs) k e = absurd cc

pub none_noted : (numbers : List (Option ℕ)) → none_in numbers ≡ true → AreMet numbers []
none_noted numbers e pass word lo hi = ap (finished_of word) (sym (none_at numbers pass e))
