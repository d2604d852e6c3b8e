-- The merge by places of several clients' turns runs as they were answered.
use Rattle.std.proofs.Common.{◌≡◌, ℕ, zero, suc, ◌+◌, ◌≤◌, ◌<◌, ◌==◌, Bool, true, false, List, [], ◌∷◌, ◌++◌, length, map, arith, refl, sym, ◌∙◌, ap, subst, if◌then◌else◌, Some, None, append-nil, append_assoc, add-one, length-append}
use Rattle.std.specs.Prelude.{Option, nat_le}
use Rattle.std.proofs.lemmas.Bool.Decides.{nat_tests}
use Rattle.ca_term.specs.Tree.{Tree}
use Rattle.ca_ets.specs.Command.{Continuation}
use Rattle.ca_ets.specs.Merge.{with_continuation}
use Rattle.ca_ets.proofs.Merges.{itself}
use Rattle.ca_model.specs.StoreMap.{StoreMap}
use Rattle.ca_model.specs.History.{Edit, History, state}
use Rattle.ca_model.specs.Event.{Entry}
use Rattle.ca_explain.specs.Stands.{Stands}
use Rattle.ca_explain.specs.Places.{Moment, AtStart, AtUpdate, AtReads, turns_at, all_turns_at, moments_from, turns_through, Turn, by_client}
use Rattle.ca_explain.proofs.Runs.{Runs, runs_same, one_more, same_number, flipped}
use Rattle.ca_explain.proofs.Waits.{Waits, Taken, Stopped, behind_stopped, given_turns, turns_twice, pull}
use Rattle.ca_explain.proofs.NextUpdates.{NextUpdate, is_update, waits_on, none_left}
use Rattle.ca_explain.proofs.TakenUpdates.{take_update}
use Rattle.ca_explain.proofs.Moments.{IsDue, IsLater, later_due, due_later, start_front, start_behind, reads_front, reads_behind, ready_held, no_update, update_front, update_behind, same_fronts, only_client}
use Rattle.ca_explain.proofs.Fronts.{Waiting, with_turns, is_ready, is_ready_by, is_free, is_free_by, front, behind, fronts, behind_fronts, update_of, behind_update}

free_ready : (q : ℕ) (x : Turn) → is_free x ≡ true → is_ready q x ≡ true
free_ready q x e = by x.event e
  where
    by : (entry : Option Entry) → is_free_by entry ≡ true → is_ready_by q entry ≡ true
    by None e = refl
    by (Some entry) e = let no : false ≡ true = e in cc

module _ (p : ℕ) (history : History) (clients : ℕ) where
  abbrev AllWait : ℕ → History → (ℕ → Continuation) → Waiting → Type 0
  AllWait q others ks ws = (i : ℕ) → Waits p history q others i (ks i) (ws i)

  -- nobody but the clients has a turn
  record NoneElse (ws : Waiting) : Type 0 where
    before : ws 0 ≡ []
    past : (i : ℕ) → clients < i → ws i ≡ []

  none_behind : (test : Turn → Bool) (ws : Waiting) → NoneElse ws → NoneElse (behind_fronts test ws)
  none_behind test ws none = record { before = ap (behind test) none.before; past = λ i h. ap (behind test) (none.past i h) }

  module _ (q : ℕ) (others : History) (end : StoreMap) (test : Turn → Bool) (ok : (x : Turn) → test x ≡ true → is_ready q x ≡ true) where
    -- the clients before j have given their turns at the front that pass the test
    record Given (ws zs : Waiting) (j : ℕ) : Type 0 where
      done : (i : ℕ) → i < j → zs i ≡ behind test (ws i)
      still : (i : ℕ) → j ≤ i → zs i ≡ ws i

    given_more : (ws zs : Waiting) (j : ℕ) → Given ws zs j → Given ws (with_turns zs j (behind test (ws j))) (suc j)
    given_more ws zs j g = record { done = λ i h. by i h (i == j) refl; still = λ i h. apart i h (i == j) refl }
      where
        by : (i : ℕ) → i < suc j → (b : Bool) → (i == j) ≡ b → (if b then behind test (ws j) else zs i) ≡ behind test (ws i)
        by i h true is = let here : i ≡ j = same_number i j is in ap (λ (n : ℕ). behind test (ws n)) (sym here)
        by i h false is = g.done i (grind (arith, nat_tests))

        apart : (i : ℕ) → suc j ≤ i → (b : Bool) → (i == j) ≡ b → (if b then behind test (ws j) else zs i) ≡ ws i
        apart i h true is = let here : i ≡ j = same_number i j is in absurd (omega arith)
        apart i h false is = g.still i (omega arith)

    all_given : (ws zs : Waiting) (j : ℕ) → clients < j → NoneElse ws → Given ws zs j → (i : ℕ) → zs i ≡ behind_fronts test ws i
    all_given ws zs j past none g i = by (nat_le j i) refl
      where
        by : (b : Bool) → nat_le j i ≡ b → zs i ≡ behind test (ws i)
        by true is =
            let far : j ≤ i = grind (arith, nat_tests) in
            let nothing : ws i ≡ [] = none.past i (omega arith) in
            g.still i far ∙ nothing ∙ sym (ap (behind test) nothing)
        by false is = let near : i < j = grind (arith, nat_tests) in g.done i near

    each : (count j : ℕ) (t : List Tree) (ks : ℕ → Continuation) (ws zs : Waiting) (rest : List (ℕ × Turn)) → count + j ≡ suc clients →
        NoneElse ws → Given ws zs j → Stands p (state history q) t → AllWait q others ks zs →
        ((u : List Tree) (ls : ℕ → Continuation) → Stands p (state history q) u → AllWait q others ls (behind_fronts test ws)
        → Runs p end u ls (behind_fronts test ws) rest) →
        Runs p end t ks zs (fronts test count j ws ++ rest)
    each zero j t ks ws zs rest n none g st w go =
        let same = all_given ws zs j (omega arith) none g in
        runs_same p end t ks (behind_fronts test ws) zs rest (λ i. sym (same i))
        (go t ks st (λ i. subst (λ (s : List Turn). Waits p history q others i (ks i) s) (same i) (w i)))
    each (suc count) j t ks ws zs rest n none g st w go =
        let own = g.still j (omega arith) in
        let given = behind test (ws j) in
        let more = fronts test count (suc j) ws in
        subst (λ (turns : List (ℕ × Turn)). Runs p end t ks zs turns) (sym (append_assoc (by_client j (front test (ws j))) more rest))
        (pull p history q others j end test ok (ws j) t ks zs (more ++ rest) own st (subst (λ (s : List Turn). Waits p history q others j (ks j) s) own (w j))
        (λ u ls same st' w'. each count (suc j) u ls ws (with_turns zs j given) rest (omega arith) none (given_more ws zs j g) st' (waiting u ls same w') go))
      where
        waiting : (u : List Tree) (ls : ℕ → Continuation) → ((i : ℕ) → (i == j) ≡ false → ls i ≡ ks i) → Waits p history q others j (ls j) (behind test (ws j))
            → AllWait q others ls (with_turns zs j (behind test (ws j)))
        waiting u ls same w' i = by (i == j) refl
          where
            by : (b : Bool) → (i == j) ≡ b → Waits p history q others i (ls i) (if b then behind test (ws j) else zs i)
            by true is =
                let here : i ≡ j = same_number i j is in
                subst (λ (k : ℕ). Waits p history q others k (ls k) (behind test (ws j))) (sym here) w'
            by false is = subst (λ (k : Continuation). Waits p history q others i k (zs i)) (sym (same i is)) (w i)

    -- client by client, the turns at the front that pass the test are taken
    all_fronts : (t : List Tree) (ks : ℕ → Continuation) (ws : Waiting) (rest : List (ℕ × Turn)) → NoneElse ws → Stands p (state history q) t →
        AllWait q others ks ws →
        ((u : List Tree) (ls : ℕ → Continuation) → Stands p (state history q) u → AllWait q others ls (behind_fronts test ws)
        → Runs p end u ls (behind_fronts test ws) rest) →
        Runs p end t ks ws (fronts test clients 1 ws ++ rest)
    all_fronts t ks ws rest none st w go = each clients 1 t ks ws ws rest (omega arith) none begin st w go
      where
        first : (i : ℕ) → i < 1 → ws i ≡ behind test (ws i)
        first zero h = none.before ∙ sym (ap (behind test) none.before)
        first (suc i) h = absurd (omega arith)

        begin : Given ws ws 1
        begin = record { done = first; still = λ i h. refl }

  -- the turns of the moments that are due are among those that are still to come
  record Rest (due : Moment → Type 0) (full ws : Waiting) : Type 0 where
    same : (i : ℕ) (here : Moment) → due here → turns_at here AtStart (full i) ≡ turns_at here AtStart (ws i)
    held : (i : ℕ) → Stopped is_free (ws i)

  module _ (full : Waiting) where
    -- what is to be shown of the moments from a place on
    abbrev RunsOn : History → ℕ → Type 0
    RunsOn steps q = (t : List Tree) (ks : ℕ → Continuation) (ws : Waiting) → NoneElse ws → Rest (IsDue q) full ws → Stands p (state history q) t
        → AllWait q steps ks ws
        → Runs p (state history (length history)) t ks ws (turns_through (moments_from q (length steps)) clients full)

    -- the update that makes the next edit, with the turns behind it that made no call of the store
    update_runs : (before : History) (j : ℕ) (edit : Edit) (steps : History) → history ≡ before ++ (j, edit) ∷ steps → RunsOn steps (suc (length before)) →
        (u : List Tree) (ls : ℕ → Continuation) (zs : Waiting) → NoneElse zs → ((i : ℕ) → Stopped (is_ready (length before)) (zs i)) →
        Rest (IsLater (length before)) full zs →
        Stands p (state history (length before)) u → AllWait (length before) ((j, edit) ∷ steps) ls zs →
        Runs p (state history (length history)) u ls zs
        (all_turns_at (AtUpdate (suc (length before))) clients 1 full ++ turns_through (moments_from (suc (length before)) (length steps)) clients full)
    update_runs before j edit steps e rec u ls zs none stop rest st w =
        subst (λ (turns : List (ℕ × Turn)). Runs p end u ls zs (turns ++ more)) (sym all_updates)
        (subst (λ (s : List Turn). Runs p end u ls zs (by_client j (update_of s) ++ more)) (sym up.is) (updated up.turn up.others up.is taken left_rest))
      where
        q : ℕ
        q = length before

        end : StoreMap
        end = state history (length history)

        more : List (ℕ × Turn)
        more = turns_through (moments_from (suc q) (length steps)) clients full

        up : NextUpdate q edit (zs j)
        up = is_update p history q j edit steps (ls j) (zs j) (w j) (stop j)

        taken : Taken p history (suc q) steps j (ls j) u up.turn up.others
        taken = take_update p history before j edit steps e (ls j) u (zs j) up st (w j)

        others_wait : (i : ℕ) → (i == j) ≡ false → Waits p history (suc q) steps i (ls i) (zs i)
        others_wait i at = waits_on p history q i j edit steps (ls i) (zs i) (flipped i j false at) (w i) (stop i)

        update_due : IsLater q (AtUpdate (suc q))
        update_due = omega arith

        -- the client that makes the update is one of the clients
        owner : (1 ≤ j) × (j ≤ clients)
        owner = by (nat_le 1 j) refl (nat_le j clients) refl
          where
            no_turn : zs j ≡ [] → ⊥
            no_turn nothing = let wrong : up.turn ∷ up.others ≡ [] = sym up.is ∙ nothing in cc

            by : (b : Bool) → nat_le 1 j ≡ b → (c : Bool) → nat_le j clients ≡ c → (1 ≤ j) × (j ≤ clients)
            by true low true high = (grind (arith, nat_tests), grind (arith, nat_tests))
            by false low c high =
                let zero_is : j ≡ 0 = (let less : j < 1 = grind (arith, nat_tests) in omega arith) in
                absurd (no_turn (ap zs zero_is ∙ none.before))
            by true low false high = let past : clients < j = grind (arith, nat_tests) in absurd (no_turn (none.past j past))

        all_updates : all_turns_at (AtUpdate (suc q)) clients 1 full ≡ by_client j (update_of (zs j))
        all_updates =
            only_client (AtUpdate (suc q)) full j
            (λ i at. rest.same i (AtUpdate (suc q)) update_due ∙ no_update q (zs i) (others_wait i at).places) clients 1 owner.0 (omega (arith, owner.1))
            ∙ ap (by_client j) (rest.same j (AtUpdate (suc q)) update_due ∙ update_front q edit (zs j) up taken.waits.places)

        left_rest : Rest (IsDue (suc q)) full (with_turns zs j (behind is_free up.others))
        left_rest = record { same = λ i here due. by i here due (i == j) refl; held = λ i. held i (i == j) refl }
          where
            behind_is : behind_update (zs j) ≡ behind is_free up.others
            behind_is = ap behind_update up.is

            by : (i : ℕ) (here : Moment) → IsDue (suc q) here → (b : Bool) → (i == j) ≡ b
                → turns_at here AtStart (full i) ≡ turns_at here AtStart (if b then behind is_free up.others else zs i)
            by i here due true at =
                let same : i ≡ j = same_number i j at in
                ap (λ (n : ℕ). turns_at here AtStart (full n)) same ∙ rest.same j here (due_later q here due) ∙ update_behind q edit (zs j) up here due
                ∙ ap (turns_at here AtStart) behind_is
            by i here due false at = rest.same i here (due_later q here due)

            held : (i : ℕ) → (b : Bool) → (i == j) ≡ b → Stopped is_free (if b then behind is_free up.others else zs i)
            held i true at = behind_stopped is_free up.others
            held i false at = rest.held i

        updated : (x : Turn) (xs : List Turn) → zs j ≡ x ∷ xs → Taken p history (suc q) steps j (ls j) u x xs →
            Rest (IsDue (suc q)) full (with_turns zs j (behind is_free xs)) →
            Runs p end u ls zs ((j, x) ∷ (by_client j (front is_free xs) ++ more))
        updated x xs is taken rest' =
            let l = taken.continuation in
            let own_l : with_continuation ls j l j ≡ l = (rw (itself j) refl) in
            let rest = behind is_free xs in
            one_more p end u taken.table ls zs j x xs l (by_client j (front is_free xs) ++ more) is taken.steps
            (pull p history (suc q) steps j end is_free (free_ready (suc q)) xs taken.table (with_continuation ls j l) (with_turns zs j xs) more
            (given_turns zs j xs) taken.stands (subst (λ (m : Continuation). Waits p history (suc q) steps j m xs) (sym own_l) taken.waits)
            (λ v ms same st2 w2. runs_same p end v ms (with_turns zs j rest) (with_turns (with_turns zs j xs) j rest) more
            (λ n. sym (turns_twice zs j xs rest n)) (rec v ms (with_turns zs j rest) (left rest) rest' st2 (waiting l v ms same rest w2))))
          where
            waiting : (l : Continuation) (v : List Tree) (ms : ℕ → Continuation) → ((i : ℕ) → (i == j) ≡ false → ms i ≡ with_continuation ls j l i)
                → (rest : List Turn) → Waits p history (suc q) steps j (ms j) rest → AllWait (suc q) steps ms (with_turns zs j rest)
            waiting l v ms same rest w2 i = by (i == j) refl
              where
                by : (b : Bool) → (i == j) ≡ b → Waits p history (suc q) steps i (ms i) (if b then rest else zs i)
                by true at = let here : i ≡ j = same_number i j at in subst (λ (k : ℕ). Waits p history (suc q) steps k (ms k) rest) (sym here) w2
                by false at =
                    let kept : ms i ≡ ls i = same i at ∙ (rw at refl) in
                    subst (λ (k : Continuation). Waits p history (suc q) steps i k (zs i)) (sym kept) (others_wait i at)

            left : (rest : List Turn) → NoneElse (with_turns zs j rest)
            left rest = record { before = by 0 (0 == j) refl none.before; past = λ i h. by i (i == j) refl (none.past i h) }
              where
                by : (i : ℕ) → (b : Bool) → (i == j) ≡ b → zs i ≡ [] → (if b then rest else zs i) ≡ []
                by i true at nothing =
                    let here : i ≡ j = same_number i j at in
                    let no : x ∷ xs ≡ [] = sym is ∙ ap zs (sym here) ∙ nothing in cc
                by i false at nothing = nothing

    -- the turns of the reads at a place are those that are ready, client by client
    all_reads : (q : ℕ) (others : History) (ks : ℕ → Continuation) (ws : Waiting) → Rest (IsDue q) full ws → AllWait q others ks ws
        → all_turns_at (AtReads q) clients 1 full ≡ fronts (is_ready q) clients 1 ws
    all_reads q others ks ws rest w = same_fronts (AtReads q) (is_ready q) full ws reads clients 1
      where
        due : IsDue q (AtReads q)
        due = omega arith

        reads : (i : ℕ) → turns_at (AtReads q) AtStart (full i) ≡ front (is_ready q) (ws i)
        reads i = rest.same i (AtReads q) due ∙ reads_front q (ws i) (rest.held i) (w i).places

    from_places : (steps before : History) → history ≡ before ++ steps → RunsOn steps (length before)
    from_places [] before e t ks ws none rest st w =
        subst (λ (turns : List (ℕ × Turn)). Runs p end t ks ws (turns ++ [])) (sym (all_reads q _ ks ws rest w))
        (all_fronts q [] end (is_ready q) (λ x h. h) t ks ws [] none st w last)
      where
        q : ℕ
        q = length before

        end : StoreMap
        end = state history (length history)

        ends : length before ≡ length history
        ends = sym (ap length e ∙ ap length (append-nil before))

        last : (u : List Tree) (ls : ℕ → Continuation) → Stands p (state history q) u → AllWait q [] ls (behind_fronts (is_ready q) ws)
            → Runs p end u ls (behind_fronts (is_ready q) ws) []
        last u ls st' w' =
            let empty : (i : ℕ) → behind (is_ready q) (ws i) ≡ [] =
            λ i. none_left p history i (ls i) (behind (is_ready q) (ws i))
            (subst (λ (n : ℕ). Waits p history n [] i (ls i) (behind (is_ready q) (ws i))) ends (w' i))
            (subst (λ (n : ℕ). Stopped (is_ready n) (behind (is_ready q) (ws i))) ends (behind_stopped (is_ready q) (ws i))) in
            record {
              commands = λ i. sym (ap (map (λ (x : Turn). x.command)) (empty i));
              responses = λ i. sym (ap (map (λ (x : Turn). x.response)) (empty i));
              table = subst (λ (n : ℕ). Stands p (state history n) u) ends st';
            }
    from_places ((j, edit) ∷ steps) before e t ks ws none rest st w =
        let rec : RunsOn steps (length (before ++ (j, edit) ∷ [])) = from_places steps (before ++ (j, edit) ∷ []) longer in
        subst (λ (turns : List (ℕ × Turn)). Runs p end t ks ws (turns ++ others)) (sym (all_reads q _ ks ws rest w))
        (all_fronts q ((j, edit) ∷ steps) end (is_ready q) (λ x h. h) t ks ws others none st w
        (λ u ls st' w'. update_runs before j edit steps e (subst (λ (n : ℕ). RunsOn steps n) more rec) u ls (behind_fronts (is_ready q) ws)
        (none_behind (is_ready q) ws none) (λ i. behind_stopped (is_ready q) (ws i)) later st' w'))
      where
        q : ℕ
        q = length before

        end : StoreMap
        end = state history (length history)

        others : List (ℕ × Turn)
        others = all_turns_at (AtUpdate (suc q)) clients 1 full ++ turns_through (moments_from (suc q) (length steps)) clients full

        later : Rest (IsLater q) full (behind_fronts (is_ready q) ws)
        later = record {
          same = λ i here h. rest.same i here (later_due q here h) ∙ reads_behind q here h (ws i) (rest.held i) (w i).places;
          held = λ i. ready_held q (ws i);
        }

        longer : history ≡ (before ++ (j, edit) ∷ []) ++ steps
        longer = e ∙ sym (append_assoc before ((j, edit) ∷ []) steps)

        more : length (before ++ (j, edit) ∷ []) ≡ suc q
        more = length-append before ((j, edit) ∷ []) ∙ add-one (length before)

  -- The merge of all turns runs as they were answered, and ends with the table that the history's last state stands for.
  pub merge_runs : (t : List Tree) (ks : ℕ → Continuation) (ws : Waiting) → ws 0 ≡ [] → ((i : ℕ) → clients < i → ws i ≡ []) → Stands p [] t
      → ((i : ℕ) → Waits p history 0 history i (ks i) (ws i))
      → Runs p (state history (length history)) t ks ws (turns_through (AtStart ∷ moments_from 0 (length history)) clients ws)
  merge_runs t ks ws before past st w =
      subst (λ (turns : List (ℕ × Turn)). Runs p end t ks ws (turns ++ others))
      (sym (same_fronts AtStart is_free ws ws (λ i. start_front (ws i) (w i).places) clients 1))
      (all_fronts 0 history end is_free (free_ready 0) t ks ws others none st w
      (λ u ls st' w'. from_places ws history [] refl u ls (behind_fronts is_free ws) (none_behind is_free ws none) begin st' w'))
    where
      end : StoreMap
      end = state history (length history)

      others : List (ℕ × Turn)
      others = turns_through (moments_from 0 (length history)) clients ws

      none : NoneElse ws
      none = record { before = before; past = past }

      begin : Rest (IsDue 0) ws (behind_fronts is_free ws)
      begin = record { same = λ i here due. start_behind here due (ws i); held = λ i. behind_stopped is_free (ws i) }
