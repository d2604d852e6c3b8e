-- The logs of a run's passes tell its history.
use Rattle.std.proofs.Common.{◌≡◌, ◌∙◌, ℕ, zero, suc, ◌≤◌, ◌<◌, ◌==◌, Bool, true, false, nat_lt, List, [], ◌∷◌, length, get_or, refl, sym, ap, subst, arith, if◌then◌else◌}
use Rattle.std.proofs.lemmas.Bool.Decides.{nat_tests}
use Rattle.ca_cmd.specs.File.{Numbered}
use Rattle.ca_ets.specs.Merge.{items_of}
use Rattle.ca_model.specs.Event.{Entry}
use Rattle.ca_model.specs.History.{Edit, History, AreByPasses}
use Rattle.ca_explain.proofs.Updates.{Updates, numbered, number_above, places_agree, updates}
use Rattle.ca_explain.specs.Clients.{Client, log_of}
use Rattle.ca_explain.specs.Explaining.{nobody}
use Rattle.ca_node.specs.TreeView.{Ended, no_refusals}
use Rattle.ca_client.specs.Ran.{HasRun, HaveOneHistory, ArePlayedBy}
use Rattle.ca_client.specs.declared.running.Ran.{Ran}

-- A number has no edits in a history of passes of other numbers.
own_none : (passes i q : ℕ) (steps : History) → AreByPasses passes steps → (1 ≤ i → i ≤ passes → ⊥) → items_of i (numbered q steps) ≡ []
own_none passes i q [] by_passes out = refl
own_none passes i q (s ∷ steps) by_passes out = by (s.0 == i) refl (own_none passes i (suc q) steps by_passes.2 out)
  where
    by : (b : Bool) → (s.0 == i) ≡ b → items_of i (numbered (suc q) steps) ≡ []
        → (if b then (s.1, suc q) ∷ items_of i (numbered (suc q) steps) else items_of i (numbered (suc q) steps)) ≡ []
    by true is rest = let same : s.0 ≡ i = grind (arith, nat_tests) in absurd (out (omega (arith, by_passes.0)) (omega (arith, by_passes.1)))
    by false is rest = rest

-- The first step is its own pass's first edit.
own_first : (q : ℕ) (s : ℕ × Edit) (steps : History) → items_of s.0 (numbered q (s ∷ steps)) ≡ (s.1, suc q) ∷ items_of s.0 (numbered (suc q) steps)
own_first q s steps = by (s.0 == s.0) refl
  where
    others : Updates
    others = items_of s.0 (numbered (suc q) steps)

    by : (b : Bool) → (s.0 == s.0) ≡ b → (if b then (s.1, suc q) ∷ others else others) ≡ (s.1, suc q) ∷ others
    by true is = refl
    by false is = let same : (s.0 == s.0) ≡ true = grind (arith, nat_tests) in absurd (let no : true ≡ false = sym same ∙ is in cc)

-- What is left of a pass's edits behind a step that two histories share.
own_left : (q i : ℕ) (s : ℕ × Edit) (xs ys : History) → items_of i (numbered q (s ∷ xs)) ≡ items_of i (numbered q (s ∷ ys))
    → items_of i (numbered (suc q) xs) ≡ items_of i (numbered (suc q) ys)
own_left q i s xs ys = by (s.0 == i)
  where
    left : Updates
    left = items_of i (numbered (suc q) xs)

    right : Updates
    right = items_of i (numbered (suc q) ys)

    by : (b : Bool) → (if b then (s.1, suc q) ∷ left else left) ≡ (if b then (s.1, suc q) ∷ right else right) → left ≡ right
    by true e = cc
    by false e = e

-- A history whose first edit is this one, by its pass, begins with it.
begins_so : (q : ℕ) (s t : ℕ × Edit) (ys : History) (rest : Updates) → items_of s.0 (numbered q (t ∷ ys)) ≡ (s.1, suc q) ∷ rest → s ≡ t
begins_so q s t ys rest = by (t.0 == s.0) refl
  where
    others : Updates
    others = items_of s.0 (numbered (suc q) ys)

    by : (b : Bool) → (t.0 == s.0) ≡ b → (if b then (t.1, suc q) ∷ others else others) ≡ (s.1, suc q) ∷ rest → s ≡ t
    by true is e =
        let number : t.0 ≡ s.0 = grind (arith, nat_tests) in
        let one : Edit × ℕ = (t.1, suc q) in
        let other : Edit × ℕ = (s.1, suc q) in
        let pairs : one ≡ other = cc in
        let edit : t.1 ≡ s.1 = ap (λ (n : Edit × ℕ). n.0) pairs in
        λ i. (sym number i, sym edit i)
    by false is e = absurd (let up = number_above s.0 (suc q) ys s.1 (suc q) rest e in omega (arith, up))

-- Histories are the same in which each pass has the same edits at the same places.
same_history : (q : ℕ) (xs ys : History) → ((i : ℕ) → items_of i (numbered q xs) ≡ items_of i (numbered q ys)) → xs ≡ ys
same_history q [] [] each = refl
same_history q [] (t ∷ ys) each =
    let no : [] ≡ (t.1, suc q) ∷ items_of t.0 (numbered (suc q) ys) = each t.0 ∙ own_first q t ys in cc
same_history q (s ∷ xs) [] each =
    let no : [] ≡ (s.1, suc q) ∷ items_of s.0 (numbered (suc q) xs) = sym (each s.0) ∙ own_first q s xs in cc
same_history q (s ∷ xs) (t ∷ ys) each =
    let same = begins_so q s t ys (items_of s.0 (numbered (suc q) xs)) (sym (each s.0) ∙ own_first q s xs) in
    let both = subst (λ (x : ℕ × Edit). (i : ℕ) → items_of i (numbered q (s ∷ xs)) ≡ items_of i (numbered q (x ∷ ys))) (sym same) each in
    ap (λ (zs : History). s ∷ zs) (same_history (suc q) xs ys (λ i. own_left q i s xs ys (both i))) ∙ ap (λ (x : ℕ × Edit). x ∷ ys) same

no_pass : Ended
no_pass = record { number = 0; log = []; counts = no_refusals; splits = 0; joins = 0 }

-- Clients that played by these passes are as many, and their parts make up the passes' logs.
as_many : (first : ℕ) (clients : List Client) (passes : List Ended) → ArePlayedBy first clients passes → length clients ≡ length passes
as_many first [] [] played = refl
as_many first [] (p ∷ passes) played = absurd played
as_many first (c ∷ clients) [] played = absurd played
as_many first (c ∷ clients) (p ∷ passes) played = ap (λ (n : ℕ). suc n) (as_many (suc first) clients passes played.1)

log_at : (first : ℕ) (clients : List Client) (passes : List Ended) → ArePlayedBy first clients passes → (k : ℕ) → k < length clients
    → (get_or passes k no_pass).log ≡ log_of (get_or clients k nobody).parts
log_at first [] passes played k l = absurd (omega (arith, l))
log_at first (c ∷ clients) [] played k l = absurd played
log_at first (c ∷ clients) (p ∷ passes) played zero l = played.0.log
log_at first (c ∷ clients) (p ∷ passes) played (suc k) l = log_at (suc first) clients passes played.1 k (omega (arith, l))

-- The edits of a client's pass, in a history for which the logs are lawful, are the updates of the pass's log.
own_told : (keypos : ℕ) (lines : List (List Numbered)) (ran : Ran) (run : HasRun keypos lines ran) (k : ℕ) → k < length run.clients
    → items_of (suc k) (numbered 0 run.history) ≡ updates (get_or ran.past.passes k no_pass).log
own_told keypos lines ran run k l =
    places_agree (suc k) run.history (log_of (get_or run.clients k nobody).parts) (run.logs.lawful (suc k) (omega arith) (omega (arith, l)))
    ∙ ap (λ (log : List Entry). updates log) (sym (log_at 1 run.clients ran.past.passes run.played k l))

module _ (keypos : ℕ) (lines : List (List Numbered)) (ran : Ran) (one other : HasRun keypos lines ran) where
  many : length one.clients ≡ length other.clients
  many = as_many 1 one.clients ran.past.passes one.played ∙ sym (as_many 1 other.clients ran.past.passes other.played)

  -- Each pass has the same edits in both histories; a number of no pass has none.
  out_of : (i : ℕ) → (1 ≤ i → i ≤ length one.clients → ⊥) → items_of i (numbered 0 one.history) ≡ items_of i (numbered 0 other.history)
  out_of i out = own_none (length one.clients) i 0 one.history one.logs.enrolled out
      ∙ sym (own_none (length other.clients) i 0 other.history other.logs.enrolled (λ low high. out low (omega (arith, high, many))))

  each : (i : ℕ) → items_of i (numbered 0 one.history) ≡ items_of i (numbered 0 other.history)
  each zero = out_of 0 (λ low high. absurd (omega (arith, low)))
  each (suc k) = by (nat_lt k (length one.clients)) refl
    where
      by : (b : Bool) → nat_lt k (length one.clients) ≡ b → items_of (suc k) (numbered 0 one.history) ≡ items_of (suc k) (numbered 0 other.history)
      by true is =
          let l : k < length one.clients = grind (arith, nat_tests) in
          own_told keypos lines ran one k l ∙ sym (own_told keypos lines ran other k (omega (arith, l, many)))
      by false is = let l : length one.clients ≤ k = grind (arith, nat_tests) in out_of (suc k) (λ low high. absurd (omega (arith, l, high)))

pub one_history : HaveOneHistory
one_history keypos lines ran one other = same_history 0 one.history other.history (each keypos lines ran one other)
