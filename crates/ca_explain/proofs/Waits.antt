-- What is known of a client's turns that are still to come, while the merge stands at a place of the history; the turns that it takes there.
use Rattle.std.proofs.Common.{◌≡◌, ℕ, ◌≤◌, ◌==◌, Bool, true, false, List, [], ◌∷◌, ◌++◌, arith, refl, sym, ◌∙◌, ap, subst, if◌then◌else◌, Some, None}
use Rattle.std.specs.Prelude.{Option}
use Rattle.std.proofs.lemmas.Bool.Decides.{nat_tests}
use Rattle.ca_term.specs.Tree.{Tree}
use Rattle.ca_ets.specs.Command.{Command, Response, Continuation}
use Rattle.ca_ets.specs.Step.{step}
use Rattle.ca_ets.specs.Merge.{items_of, with_continuation}
use Rattle.ca_ets.proofs.Merges.{itself}
use Rattle.ca_model.specs.StoreMap.{StoreMap}
use Rattle.ca_model.specs.History.{Edit, History, state}
use Rattle.ca_model.specs.Event.{Event, Entry, effect, IsAnswer}
use Rattle.ca_model.specs.Lawful.{AreEntries, PlacesRise}
use Rattle.ca_explain.specs.Stands.{Stands}
use Rattle.ca_explain.specs.Carries.{IsCarried, Gives}
use Rattle.ca_explain.specs.Clients.{from_event}
use Rattle.ca_explain.specs.Places.{Turn, by_client}
use Rattle.ca_explain.proofs.Updates.{updates, numbered}
use Rattle.ca_explain.proofs.Runs.{Runs, runs_same, one_more, same_number}
use Rattle.ca_explain.proofs.Fronts.{Waiting, with_turns, is_ready, is_ready_by, is_read_by, front, behind}

-- the log's entries of turns
abbrev pub entries_of : List Turn → List Entry
entries_of [] = []
entries_of (turn ∷ turns) = from_event turn.event (entries_of turns)

-- From this continuation on each turn's event carries its command.
abbrev pub AreTurns : ℕ → Continuation → List Turn → Type 0
AreTurns p k [] = Unit {0}
AreTurns p k (x ∷ xs) = (l : Continuation) × IsCarried p x.event k x.command x.response l × AreTurns p l xs

-- The turns of client i that are still to come, where q edits of the history were taken and these are the others.
pub record Waits (p : ℕ) (history : History) (q : ℕ) (others : History) (i : ℕ) (k : Continuation) (s : List Turn) : Type 0 where
  pub turns : AreTurns p k s
  pub entries : AreEntries i history (entries_of s)
  pub places : PlacesRise q (entries_of s)
  pub edits : items_of i (numbered q others) ≡ updates (entries_of s)

-- The first turn doesn't pass the test.
abbrev pub Stopped : (Turn → Bool) → List Turn → Type 0
Stopped test [] = Unit {0}
Stopped test (x ∷ xs) = test x ≡ false

-- Behind the turns that pass a test stands one that doesn't.
pub behind_stopped : (test : Turn → Bool) (s : List Turn) → Stopped test (behind test s)
behind_stopped test [] = tt
behind_stopped test (x ∷ xs) = by (test x) refl (behind_stopped test xs)
  where
    by : (b : Bool) → test x ≡ b → Stopped test (behind test xs) → Stopped test (if b then behind test xs else x ∷ xs)
    by true e rest = rest
    by false e rest = e

-- The client has the turns that it was given.
pub given_turns : (ws : Waiting) (j : ℕ) (s : List Turn) → with_turns ws j s j ≡ s
given_turns ws j s = rw (itself j) refl

-- A client that is given its own turns changes nothing.
pub turns_same : (ws : Waiting) (j : ℕ) (s : List Turn) → ws j ≡ s → (i : ℕ) → with_turns ws j s i ≡ ws i
turns_same ws j s e i = by (i == j) refl
  where
    by : (b : Bool) → (i == j) ≡ b → (if b then s else ws i) ≡ ws i
    by true is = let same : i ≡ j = same_number i j is in sym (ap ws same ∙ e)
    by false is = refl

-- Of two lists that a client is given the second one counts.
pub turns_twice : (ws : Waiting) (j : ℕ) (s z : List Turn) (i : ℕ) → with_turns (with_turns ws j s) j z i ≡ with_turns ws j z i
turns_twice ws j s z i = by (i == j) refl
  where
    by : (b : Bool) → (i == j) ≡ b → (if b then z else (if b then s else ws i)) ≡ (if b then z else ws i)
    by true is = refl
    by false is = refl

-- what a turn comes to that is taken at the place q
pub record Taken (p : ℕ) (history : History) (q : ℕ) (others : History) (i : ℕ) (k : Continuation) (t : List Tree) (x : Turn) (xs : List Turn) : Type 0 where
  pub continuation : Continuation
  pub table : List Tree
  pub steps : Gives (step p t k x.command) table x.response continuation
  pub stands : Stands p (state history q) table
  pub waits : Waits p history q others i continuation xs

module _ (p : ℕ) (history : History) (q : ℕ) (others : History) (i : ℕ) where
  abbrev read_turn : Command → Response → Event → ℕ → Turn
  read_turn c r event place = record { command = c; response = r; event = Some (event, place) }

  take_read : (k : Continuation) (t : List Tree) (c : Command) (r : Response) (event : Event) (place : ℕ) (xs : List Turn) (edits : List Edit)
      → effect event ≡ edits → is_read_by edits place q ≡ true → Stands p (state history q) t
      → Waits p history q others i k (read_turn c r event place ∷ xs) → Taken p history q others i k t (read_turn c r event place) xs
  take_read k t c r event place xs [] e ready st w =
      let low : q ≤ place = rw e at w.places.0 in
      let up : place ≤ q = grind (arith, nat_tests) in
      let here : place ≡ q = omega arith in
      let entry : (place ≤ _) × IsAnswer event (state history place) = rw e at w.entries.0 in
      let answer : IsAnswer event (state history q) = subst (λ (n : ℕ). IsAnswer event (state history n)) here entry.1 in
      let done = w.turns.1.at (state history q) t st answer in
      let left : Stands p (state history q) done.0 = rw e at done.2 in
      record {
        continuation = w.turns.0;
        table = done.0;
        steps = done.1;
        stands = left;
        waits = record {
          turns = w.turns.2;
          entries = w.entries.1;
          places = subst (λ (n : ℕ). PlacesRise n (entries_of xs)) here w.places.1;
          edits = rw e at w.edits;
        };
      }
  take_read k t c r event place xs (edit ∷ edits) e ready st w = let no : false ≡ true = ready in cc

  take_turn : (k : Continuation) (t : List Tree) (c : Command) (r : Response) (entry : Option Entry) (xs : List Turn) → is_ready_by q entry ≡ true
      → Stands p (state history q) t
      → Waits p history q others i k (record { command = c; response = r; event = entry } ∷ xs)
      → Taken p history q others i k t (record { command = c; response = r; event = entry }) xs
  take_turn k t c r None xs ready st w = record {
    continuation = w.turns.0;
    table = t;
    steps = w.turns.1.at t st.ordered st.bounded;
    stands = st;
    waits = record { turns = w.turns.2; entries = w.entries; places = w.places; edits = w.edits };
  }
  take_turn k t c r (Some (event, place)) xs ready st w = take_read k t c r event place xs (effect event) refl ready st w

  -- Client i's turns at the front that pass a test are taken.
  pub pull : (end : StoreMap) (test : Turn → Bool) → ((x : Turn) → test x ≡ true → is_ready q x ≡ true) →
      (s : List Turn) (t : List Tree) (ks : ℕ → Continuation) (ws : Waiting) (turns : List (ℕ × Turn)) →
      ws i ≡ s → Stands p (state history q) t → Waits p history q others i (ks i) s →
      ((u : List Tree) (ls : ℕ → Continuation) → ((n : ℕ) → (n == i) ≡ false → ls n ≡ ks n) → Stands p (state history q) u
      → Waits p history q others i (ls i) (behind test s) → Runs p end u ls (with_turns ws i (behind test s)) turns) →
      Runs p end t ks ws (by_client i (front test s) ++ turns)
  pull end test ok [] t ks ws turns e st w go = runs_same p end t ks (with_turns ws i []) ws turns (turns_same ws i [] e) (go t ks (λ n o. refl) st w)
  pull end test ok (x ∷ xs) t ks ws turns e st w go = by (test x) refl (λ u ls zs. pull end test ok xs u ls zs turns) go
    where
      by : (b : Bool) → test x ≡ b →
          ((u : List Tree) (ls : ℕ → Continuation) (zs : Waiting) → zs i ≡ xs → Stands p (state history q) u → Waits p history q others i (ls i) xs →
          ((v : List Tree) (ms : ℕ → Continuation) → ((n : ℕ) → (n == i) ≡ false → ms n ≡ ls n) → Stands p (state history q) v
          → Waits p history q others i (ms i) (behind test xs) → Runs p end v ms (with_turns zs i (behind test xs)) turns) →
          Runs p end u ls zs (by_client i (front test xs) ++ turns)) →
          ((u : List Tree) (ls : ℕ → Continuation) → ((n : ℕ) → (n == i) ≡ false → ls n ≡ ks n) → Stands p (state history q) u
          → Waits p history q others i (ls i) (if b then behind test xs else x ∷ xs)
          → Runs p end u ls (with_turns ws i (if b then behind test xs else x ∷ xs)) turns) →
          Runs p end t ks ws (by_client i (if b then x ∷ front test xs else []) ++ turns)
      by true is rec go =
          let taken : Taken p history q others i (ks i) t x xs = take_turn (ks i) t x.command x.response x.event xs (ok x is) st w in
          let l = taken.continuation in
          let own_l : with_continuation ks i l i ≡ l = (rw (itself i) refl) in
          let rest = behind test xs in
          one_more p end t taken.table ks ws i x xs l (by_client i (front test xs) ++ turns) e taken.steps
          (rec taken.table (with_continuation ks i l) (with_turns ws i xs) (given_turns ws i xs) taken.stands
          (subst (λ (m : Continuation). Waits p history q others i m xs) (sym own_l) taken.waits)
          (λ u ls same st' w'. runs_same p end u ls (with_turns ws i rest) (with_turns (with_turns ws i xs) i rest) turns
          (λ n. sym (turns_twice ws i xs rest n)) (go u ls (λ n o. same n o ∙ (rw o refl)) st' w')))
      by false is rec go = runs_same p end t ks (with_turns ws i (x ∷ xs)) ws turns (turns_same ws i (x ∷ xs) e) (go t ks (λ n o. refl) st w)
